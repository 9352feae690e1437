-- Links are driven as a copy drives them: what its handles began as, and what came on them, stays so.
use Rattle.std.proofs.Common.{◌≡◌, ◌≢◌, ◌⊎◌, inl, inr, ◌&&◌, ℕ, zero, suc, Bool, true, false, List, [], ◌∷◌, ◌++◌, length, take, drop, ◌+◌, Option, Some, None, slice_get, if◌then◌else◌, refl, ap, sym, subst, ◌∙◌}
use Rattle.std.proofs.lemmas.Bool.{cases_eq, eq-eqb, false≢true, ne_eqb}
use Rattle.lnbd_model.specs.declared.target.Place.{Place}
use Rattle.lnbd_model.specs.declared.target.Target.{Target}
use Rattle.lnbd_link.specs.Call as wire
use Rattle.lnbd_link.specs.Numbers.{is_given, is_number}
use Rattle.lnbd_link.specs.Traffic.{target_of}
use Rattle.lnbd_handle.specs.Histories.{max_unretired}
use Rattle.lnbd_history.specs.Events.{Event, History}
use Rattle.lnbd_history.specs.Laws.{Lawful}
use Rattle.lnbd_asked.specs.Driven.{AllSpell, Drives}
use Rattle.lnbd_poll.specs.Alone.{AreApart, calls_on}
use Rattle.lnbd_poll.specs.Seen.{Seen}
use Rattle.lnbd_drives.proofs.Passing.{passes}
use Rattle.lnbd_drives.proofs.Saying.{one_of}
use Rattle.lnbd_drives.specs.Driving.{DriveOwnLinks, with_event}
use Rattle.lnbd_board.specs.declared.ticket.Ticket.{Ticket}
use Rattle.lnbd_course.proofs.Address.{given_stays, target_stays}
use Rattle.lnbd_course.proofs.Holding.{apart_or, take_drop}
use Rattle.lnbd_course.specs.Between.{place_of}
use Rattle.lnbd_course.specs.Course.{with_link}
use Rattle.lnbd_course.specs.UnderWay.{AllHeld}
use Rattle.lnbd_conduct.specs.Begun.{opened}
use Rattle.lnbd_copy.specs.Driven.{AllDriveOn, AllWentOn, beginning_on}
use Rattle.lnbd_conduct.specs.Driven.{HasParted, WasDriven, WasLeft, WentOn, asks_extents_on, may_come}
use Rattle.lnbd_copy.specs.Statuses.{first_held}
use Rattle.lnbd_conduct.specs.Answered.{first_given, or_later}
use Rattle.lnbd_copy.proofs.HeardLemmas.{given_then, none_given, or_later_none}

-- One history.

pub on_none : (history : History Ticket) → WentOn history history
on_none history = record { since = []; are = refl; come = tt }

on_event : (first : History Ticket) (event : Event Ticket) (history : History Ticket) → may_come event ≡ true → WentOn first history → WentOn first (event ∷ history)
on_event first event history may went = record { since = event ∷ went.since; are = ap (λ (h : History Ticket). event ∷ h) went.are; come = (may, went.come) }

-- Handles.

-- they began as links of theirs say that are those but for one
pub went_as : (first first' : ℕ → History Ticket) (link : ℕ) (seens : List (Seen Ticket)) → ((n : ℕ) → n ≢ link → first' n ≡ first n) → AreApart link seens → AllWentOn first seens → AllWentOn first' seens
went_as first first' link [] same apart went = tt
went_as first first' link (seen ∷ others) same apart went =
    (subst (λ (h : History Ticket). WentOn h seen.history) (sym (same seen.link apart.0)) went.0, went_as first first' link others same apart.1 went.1)

went_same : (first first' : ℕ → History Ticket) (seens : List (Seen Ticket)) → ((n : ℕ) → first' n ≡ first n) → AllWentOn first seens → AllWentOn first' seens
went_same first first' [] same went = tt
went_same first first' (seen ∷ others) same went = (subst (λ (h : History Ticket). WentOn h seen.history) (sym (same seen.link)) went.0, went_same first first' others same went.1)

went_more : (first : ℕ → History Ticket) (seens : List (Seen Ticket)) (last : Seen Ticket) → AllWentOn first seens → WentOn (first last.link) last.history → AllWentOn first (seens ++ last ∷ [])
went_more first [] last went one = (one, tt)
went_more first (seen ∷ others) last went one = (went.0, went_more first others last went.1 one)

pub went_event : (first : ℕ → History Ticket) (index : ℕ) (event : Event Ticket) (seens : List (Seen Ticket)) → may_come event ≡ true → AllWentOn first seens → AllWentOn first (with_event index event seens)
went_event first index event [] may went = tt
went_event first zero event (seen ∷ others) may went = (on_event (first seen.link) event seen.history may went.0, went.1)
went_event first (suc index) event (seen ∷ others) may went = (went.0, went_event first index event others may went.1)

pub went_joined : (first : ℕ → History Ticket) (one other : List (Seen Ticket)) → AllWentOn first one → AllWentOn first other → AllWentOn first (one ++ other)
went_joined first [] other a b = b
went_joined first (seen ∷ one) other a b = (a.0, went_joined first one other a.1 b)

pub went_taken : (first : ℕ → History Ticket) (n : ℕ) (seens : List (Seen Ticket)) → AllWentOn first seens → AllWentOn first (take n seens)
went_taken first zero [] went = tt
went_taken first (suc n) [] went = tt
went_taken first zero (seen ∷ others) went = tt
went_taken first (suc n) (seen ∷ others) went = (went.0, went_taken first n others went.1)

pub went_dropped : (first : ℕ → History Ticket) (n : ℕ) (seens : List (Seen Ticket)) → AllWentOn first seens → AllWentOn first (drop n seens)
went_dropped first zero [] went = tt
went_dropped first (suc n) [] went = tt
went_dropped first zero (seen ∷ others) went = went
went_dropped first (suc n) (seen ∷ others) went = went_dropped first n others went.1

none_some : (seen : Seen Ticket) → None ≡ Some seen → ⊥
none_some seen e = cc

some_same : (one other : Seen Ticket) → Some one ≡ Some other → one ≡ other
some_same one other e = cc

pub went_there : (first : ℕ → History Ticket) (seens : List (Seen Ticket)) (index : ℕ) (seen : Seen Ticket) → slice_get seens index ≡ Some seen → AllWentOn first seens → WentOn (first seen.link) seen.history
went_there first [] index seen there went = absurd (none_some seen there)
went_there first (one ∷ others) zero seen there went = subst (λ (s : Seen Ticket). WentOn (first s.link) s.history) (some_same one seen there) went.0
went_there first (one ∷ others) (suc index) seen there went = went_there first others index seen there went.1

-- Calls that give no link.

pub asks_same : (link : ℕ) (extents : Bool) (calls more : List wire.Call) → first_given (calls ++ more) ≡ first_given calls → asks_extents_on link extents (calls ++ more) ≡ asks_extents_on link extents calls
asks_same link extents calls more same = ap (λ (o : Option ℕ). is_number link o && extents) same

pub first_same : (calls more : List wire.Call) → ((link : ℕ) → is_given link more ≡ false) → first_given (calls ++ more) ≡ first_given calls
first_same calls more none = given_then calls more ∙ ap (or_later (first_given calls)) (none_given more none) ∙ or_later_none (first_given calls)

module _ (extents : Bool) (from to : Place) where
  -- how a handle began stays
  began_same : (has : ℕ → Bool) (calls more : List wire.Call) → first_given (calls ++ more) ≡ first_given calls → (link : ℕ) → beginning_on extents from to has (calls ++ more) link ≡ beginning_on extents from to has calls link
  began_same has calls more same link = ap (λ (b : Bool). opened (place_of from to (has link)).name b) (asks_same link extents calls more same)

  -- and so does how a link was driven that none of these calls reads or writes
  unfoldable pub driven_later : (source : Bool) (link : ℕ) (calls more : List wire.Call) → calls_on link more ≡ [] → ((n : ℕ) → is_given n more ≡ false) → WasDriven extents from to source link calls → WasDriven extents from to source link (calls ++ more)
  driven_later source link calls more quiet none d = record {
    address = target_stays link calls more (none link) ∙ d.address;
    history = d.history;
    unread = d.unread;
    began = subst (λ (b : Bool). WentOn (opened (place_of from to source).name b) d.history) (sym (asks_same link extents calls more (first_same calls more none))) d.began;
    lawful = d.lawful;
    spelled = d.spelled;
    drives = passes link calls d.history d.unread more d.drives quiet;
    first = λ is. d.first (sym (first_same calls more none) ∙ is);
  }

  left_later : (source : Bool) (link : ℕ) (calls more : List wire.Call) → calls_on link more ≡ [] → ((n : ℕ) → is_given n more ≡ false) → WasLeft extents from to source link calls → WasLeft extents from to source link (calls ++ more)
  unfolding driven_later
  left_later source link calls more quiet none l = record { driven = driven_later source link calls more quiet none l.driven; parted = l.parted; arrived = l.arrived }

  module _ (has : ℕ → Bool) where
    -- the handles stay, or go on as the links say still
    pub drive_later : (calls more : List wire.Call) (seens seens' : List (Seen Ticket)) → ((n : ℕ) → is_given n more ≡ false) → ((link : ℕ) → AreApart link seens' → AreApart link seens) → ((link : ℕ) → AreApart link seens → calls_on link more ≡ []) →
        (AllWentOn (beginning_on extents from to has calls) seens → AllWentOn (beginning_on extents from to has calls) seens') → AllDriveOn extents from to has calls seens → AllDriveOn extents from to has (calls ++ more) seens'
    drive_later calls more seens seens' none apart quiet goes d = record {
      went = went_same (beginning_on extents from to has calls) (beginning_on extents from to has (calls ++ more)) seens' (began_same has calls more (first_same calls more none)) (goes d.went);
      left = λ link other given. left_later (has link) link calls more (quiet link (apart link other)) none (d.left link (apart link other) (sym (given_stays link calls more (none link)) ∙ given));
      first = λ link is. d.first link (sym (first_same calls more none) ∙ is);
    }

    event_apart : (link index : ℕ) (event : Event Ticket) (seens : List (Seen Ticket)) → AreApart link (with_event index event seens) → AreApart link seens
    event_apart link index event [] apart = tt
    event_apart link zero event (seen ∷ others) apart = apart
    event_apart link (suc index) event (seen ∷ others) apart = (apart.0, event_apart link index event others apart.1)

    -- With an event on one of them.
    pub drive_event : (calls : List wire.Call) (index : ℕ) (event : Event Ticket) (seens : List (Seen Ticket)) → may_come event ≡ true → AllDriveOn extents from to has calls seens → AllDriveOn extents from to has calls (with_event index event seens)
    drive_event calls index event seens may d = record {
      went = went_event (beginning_on extents from to has calls) index event seens may d.went;
      left = λ link apart given. d.left link (event_apart link index event seens apart) given;
      first = d.first;
    }

    -- One of the handles drives its link.
    unfoldable pub one_drove : (calls : List wire.Call) (seens : List (Seen Ticket)) (index : ℕ) (seen : Seen Ticket) → slice_get seens index ≡ Some seen → Lawful max_unretired seen.history → AllSpell seen.history → Drives seen.link calls seen.history seen.unread →
        target_of seen.link calls ≡ Some (place_of from to (has seen.link)).to → AllWentOn (beginning_on extents from to has calls) seens → (first_given calls ≡ Some seen.link → has seen.link ≡ true) → WasDriven extents from to (has seen.link) seen.link calls
    one_drove calls seens index seen there lawful spelled drives address went first = record {
      address = address;
      history = seen.history;
      unread = seen.unread;
      began = went_there (beginning_on extents from to has calls) seens index seen there went;
      lawful = lawful;
      spelled = spelled;
      drives = drives;
      first = first;
    }

    -- One that had parted leaves it so,
    one_left : (calls : List wire.Call) (seens : List (Seen Ticket)) (index : ℕ) (seen : Seen Ticket) → slice_get seens index ≡ Some seen → Lawful max_unretired seen.history → AllSpell seen.history → Drives seen.link calls seen.history seen.unread →
        target_of seen.link calls ≡ Some (place_of from to (has seen.link)).to → AllWentOn (beginning_on extents from to has calls) seens → (first_given calls ≡ Some seen.link → has seen.link ≡ true) → HasParted seen.history → seen.unread ≡ [] → WasLeft extents from to (has seen.link) seen.link calls
    unfolding one_drove
    one_left calls seens index seen there lawful spelled drives address went first parted arrived = record { driven = one_drove calls seens index seen there lawful spelled drives address went first; parted = parted; arrived = arrived }

    -- and is taken out.
    pub drive_without : (calls : List wire.Call) (seens : List (Seen Ticket)) (index : ℕ) (seen : Seen Ticket) → slice_get seens index ≡ Some seen → Lawful max_unretired seen.history → HasParted seen.history → DriveOwnLinks calls seens →
        ((link : ℕ) → is_given link calls ≡ true → target_of link calls ≡ Some (place_of from to (has link)).to) → AllDriveOn extents from to has calls seens → AllDriveOn extents from to has calls (take index seens ++ drop (index + 1) seens)
    drive_without calls seens index seen there lawful parted own address d = record {
      went = went_joined (beginning_on extents from to has calls) (take index seens) (drop (index + 1) seens)
          (went_taken (beginning_on extents from to has calls) index seens d.went) (went_dropped (beginning_on extents from to has calls) (index + 1) seens d.went);
      left = λ link apart given. go link apart given (cases_eq link seen.link);
      first = d.first;
    }
      where
        go : (link : ℕ) → AreApart link (take index seens ++ drop (index + 1) seens) → is_given link calls ≡ true → (link ≡ seen.link) ⊎ (link ≡ seen.link → ⊥) → WasLeft extents from to (has link) link calls
        go link apart given (inl same) =
            let one = one_of calls seens index seen there own.drive own.plain in
            subst (λ (n : ℕ). WasLeft extents from to (has n) n calls) (sym same)
            (one_left calls seens index seen there lawful one.plain.spelled one.drives (address seen.link (subst (λ (n : ℕ). is_given n calls ≡ true) same given)) d.went (d.first seen.link) parted one.plain.arrived)
        go link apart given (inr differ) = d.left link (apart_or link index seen seens there (subst (AreApart link) (sym (take_drop index seens)) apart) differ) given

-- One handle more, on a link that was just made.

link_here : (link : ℕ) (source : Bool) (has : ℕ → Bool) → with_link link source has link ≡ source
link_here link source has = ap (λ (b : Bool). if b then source else has link) (eq-eqb link link refl)

link_there : (link other : ℕ) (source : Bool) (has : ℕ → Bool) → other ≢ link → with_link link source has other ≡ has other
link_there link other source has differ = ap (λ (b : Bool). if b then source else has other) (ne_eqb link other (λ e. differ (sym e)))

not_true : (b : Bool) → (b ≡ true → ⊥) → b ≡ false
not_true true not = absurd (not refl)
not_true false not = refl

same_number : (one other : ℕ) → Some one ≡ Some other → one ≡ other
same_number one other e = cc

not_empty : (seen : Seen Ticket) (others : List (Seen Ticket)) → length (seen ∷ others) ≡ 0 → ⊥
not_empty seen others e = cc

-- The first of some handles, and no other, asks for extents, where they are wanted.
pub asks_first : (link : ℕ) (extents asks : Bool) (calls : List wire.Call) (seens : List (Seen Ticket)) (at : Target) → AreApart link seens → first_given calls ≡ first_held seens → (length seens ≡ 0 → extents ≡ asks) → (asks ≡ true → length seens ≡ 0) →
    asks_extents_on link extents (calls ++ wire.Connect at (Some link) ∷ []) ≡ asks
asks_first link extents asks calls [] at apart first wants only =
    ap (λ (o : Option ℕ). is_number link o && extents) (given_then calls (wire.Connect at (Some link) ∷ []) ∙ ap (λ (o : Option ℕ). or_later o (Some link)) first) ∙ ap (λ (b : Bool). b && extents) (eq-eqb link link refl) ∙ wants refl
asks_first link extents asks calls (seen ∷ others) at apart first wants only =
    ap (λ (o : Option ℕ). is_number link o && extents) (given_then calls (wire.Connect at (Some link) ∷ []) ∙ ap (λ (o : Option ℕ). or_later o (Some link)) first)
    ∙ ap (λ (b : Bool). b && extents) (ne_eqb seen.link link apart.0) ∙ sym (not_true asks (λ is. not_empty seen others (only is)))

-- A link more leaves the first one the first, once there is one.
first_kept : (link : ℕ) (calls : List wire.Call) (seen : Seen Ticket) (at : Target) → first_given calls ≡ Some seen.link → first_given (calls ++ wire.Connect at (Some link) ∷ []) ≡ first_given calls
first_kept link calls seen at first = given_then calls (wire.Connect at (Some link) ∷ []) ∙ ap (λ (o : Option ℕ). or_later o (Some link)) first ∙ sym first

module _ (extents : Bool) (from to : Place) (has : ℕ → Bool) (calls : List wire.Call) (at : Target) (link : ℕ) (source : Bool) where
  abbrev calls' : List wire.Call
  calls' = calls ++ wire.Connect at (Some link) ∷ []

  others_went : (seens : List (Seen Ticket)) → AreApart link seens → first_given calls ≡ first_held seens → AllWentOn (beginning_on extents from to has calls) seens → AllWentOn (beginning_on extents from to (with_link link source has) calls') seens
  others_went [] apart first went = tt
  others_went (seen ∷ others) apart first went =
      went_as (beginning_on extents from to has calls) (beginning_on extents from to (with_link link source has) calls') link (seen ∷ others)
      (λ n differ. ap (λ (b : Bool). opened (place_of from to (with_link link source has n)).name b) (asks_same n extents calls (wire.Connect at (Some link) ∷ []) (first_kept link calls seen at first))
      ∙ ap (λ (b : Bool). opened (place_of from to b).name (asks_extents_on n extents calls)) (link_there link n source has differ)) apart went

  -- the first one is the source's
  first_side : (seens : List (Seen Ticket)) → AreApart link seens → first_given calls ≡ first_held seens → (length seens ≡ 0 → source ≡ true) → ((n : ℕ) → first_given calls ≡ Some n → has n ≡ true) → (n : ℕ) → first_given calls' ≡ Some n → with_link link source has n ≡ true
  first_side [] apart first side had n is =
      let here : Some link ≡ Some n = sym (given_then calls (wire.Connect at (Some link) ∷ []) ∙ ap (λ (o : Option ℕ). or_later o (Some link)) first) ∙ is in
      subst (λ (m : ℕ). with_link link source has m ≡ true) (same_number link n here) (link_here link source has ∙ side refl)
  first_side (seen ∷ others) apart first side had n is =
      let was : first_given calls ≡ Some n = sym (first_kept link calls seen at first) ∙ is in
      link_there link n source has (λ e. apart.0 (same_number seen.link n (sym first ∙ was) ∙ e)) ∙ had n was

  pub drive_dialed : (seens : List (Seen Ticket)) (place : Place) (asks : Bool) → place_of from to source ≡ place → (length seens ≡ 0 → source ≡ true) → AreApart link seens → first_given calls ≡ first_held seens → (length seens ≡ 0 → extents ≡ asks) → (asks ≡ true → length seens ≡ 0) →
      AllHeld calls' (seens ++ record { link = link; history = opened place.name asks; unread = [] } ∷ []) → AllDriveOn extents from to has calls seens →
      AllDriveOn extents from to (with_link link source has) calls' (seens ++ record { link = link; history = opened place.name asks; unread = [] } ∷ [])
  drive_dialed seens place asks is side apart first wants only all d = record {
    went = went_more (beginning_on extents from to (with_link link source has) calls') seens (record { link = link; history = opened place.name asks; unread = [] }) (others_went seens apart first d.went)
        (subst (λ (h : History Ticket). WentOn h (opened place.name asks)) (sym begins) (on_none (opened place.name asks)));
    left = λ n other given. absurd (false≢true (sym (all n other) ∙ given));
    first = first_side seens apart first side d.first;
  }
    where
      begins : beginning_on extents from to (with_link link source has) calls' link ≡ opened place.name asks
      begins =
          ap (λ (b : Bool). opened (place_of from to b).name (asks_extents_on link extents calls')) (link_here link source has)
          ∙ ap (λ (p : Place). opened p.name (asks_extents_on link extents calls')) is
          ∙ ap (λ (b : Bool). opened place.name b) (asks_first link extents asks calls seens at apart first wants only)
