-- What the connections of a copy were told for which it does not end well is told by the calls on the wires.
use Rattle.std.proofs.Common.{◌≡◌, inl, inr, ℕ, zero, suc, Bool, true, false, List, [], ◌∷◌, Option, Some, None, Result, Ok, Err, IfErr, OnErr, slice_get, if◌then◌else◌, refl, ap, sym, subst, ◌∙◌}
use Rattle.std.proofs.lemmas.Bool.{false≢true}
use Rattle.std.specs.Option.{option_map}
use Rattle.std.specs.Prelude.{IsErrAnd}
use Rattle.lnbd_model.specs.declared.breach.Broken.TheVariants as broken
use Rattle.lnbd_model.specs.declared.export.ExportInfo.{ExportInfo}
use Rattle.lnbd_model.specs.declared.state.Cause.{Cause}
use Rattle.lnbd_model.specs.declared.state.State.{State}
use Rattle.lnbd_model.specs.declared.state.State.TheVariants as state
use Rattle.lnbd_model.specs.declared.target.Place.{Place}
use Rattle.lnbd_link.specs.Call as wire
use Rattle.lnbd_link.specs.Numbers.{is_given}
use Rattle.lnbd_history.specs.Answers.{info_after, state_after}
use Rattle.lnbd_history.specs.Events.{History}
use Rattle.lnbd_machine.specs.Machine.{Machine}
use Rattle.lnbd_standing.specs.Standing.{StandsFor}
use Rattle.lnbd_handle.specs.Histories.{ForEach, max_unretired}
use Rattle.lnbd_asked.specs.Driven.{Drives}
use Rattle.lnbd_asked.specs.Exports.{name_set}
use Rattle.lnbd_poll.specs.Held.{Held, AreAt}
use Rattle.lnbd_poll.specs.Seen.{Seen}
use Rattle.lnbd_drives.specs.Driving.{AllDrive, AllPlain, IsPlain}
use Rattle.lnbd_plan.specs.declared.fault.CopyFault.{CopyFault}
use Rattle.lnbd_plan.specs.declared.fault.CopyFault.TheVariants as fault
use Rattle.lnbd_plan.specs.declared.fault.Rule.{Rule}
use Rattle.lnbd_plan.specs.declared.options.CopyOptions.{CopyOptions}
use Rattle.lnbd_board.specs.declared.ticket.Ticket.{Ticket}
use Rattle.lnbd_board.specs.Files as board
use Rattle.lnbd_course.specs.Between.{place_of}
use Rattle.lnbd_course.proofs.Asking.{not_one}
use Rattle.lnbd_course.proofs.Holding.{one_has}
use Rattle.lnbd_conduct.specs.declared.sides.Sides.{Sides}
use Rattle.lnbd_conduct.specs.declared.terms.Terms.{Terms}
use Rattle.lnbd_copy.specs.Copier.{GoesFurther, HasMet, HasNotBegun, IsOnItsWay, beginning}
use Rattle.lnbd_copy.specs.Copier as copier
use Rattle.lnbd_copy.specs.Grounds.{Answers, Finds, FindsDead, FindsOther, Happened, Happens, IsRefused, Lasts, fault_by, fault_of}
use Rattle.lnbd_conduct.specs.Grounds.{Differ, Drove, HasDied, IsDead, IsGrounded, IsShown, Settle, needs_no_ground}
use Rattle.lnbd_conduct.specs.Sides.{first_of, is_source}
use Rattle.lnbd_copy.specs.Driven.{beginning_on}
use Rattle.lnbd_conduct.specs.Begun.{DrivenBy}
use Rattle.lnbd_copy.specs.Firsts.{KnowBoth}
use Rattle.lnbd_conduct.specs.Told.{AtSome, Told}
use Rattle.lnbd_copy.specs.Links.{LinksGo}
use Rattle.lnbd_conduct.specs.Links.{ConnectTo}
use Rattle.lnbd_copy.specs.Opening.{Dials}
use Rattle.lnbd_copy.specs.Settled.{FindsTerms, HasTerms}
use Rattle.lnbd_copy.specs.Way.{Goes, IsOn, IsUnderWay, Stand, Way}
use Rattle.lnbd_copy.proofs.CopierLemmas.{kept_then, told_as, two_meet_stand, two_on, with_held}
use Rattle.lnbd_copy.proofs.DrivenLemmas.{went_there}
use Rattle.lnbd_copy.proofs.LastLemmas.{at_once, told_later}
use Rattle.lnbd_copy.proofs.SettledLemmas.{told_both}
use Rattle.lnbd_copy.proofs.TurnLemmas.{told_begins}

-- By the handles.

none_some : (handle : Machine Ticket) → None ≡ Some handle → ⊥
none_some handle e = cc

some_same : (one other : Machine Ticket) → Some one ≡ Some other → one ≡ other
some_same one other e = cc

module _ (handle : Machine Ticket) (Is : History Ticket → Type 0) (each : ForEach handle Is) where
  happened_at : (index : ℕ) (all : List (Held Ticket)) (seens : List (Seen Ticket)) → option_map (λ held. held.handle) (slice_get all index) ≡ Some handle → AreAt all seens → Happened Is index seens
  happened_at index [] seens is at = absurd (none_some handle is)
  happened_at index (held ∷ others) [] is at = absurd at
  happened_at zero (held ∷ others) (seen ∷ more) is at =
      let stands = subst (λ (m : Machine Ticket). StandsFor max_unretired seen.history m) (some_same held.handle handle is) at.0.stands in
      record { seen = seen; there = refl; is = each seen.history stands }
  happened_at (suc index) (held ∷ others) (seen ∷ more) is at = let rest = happened_at index others more is at.1 in record { seen = rest.seen; there = rest.there; is = rest.is }

  pub happens : (index : ℕ) (all : List (Held Ticket)) → option_map (λ held. held.handle) (slice_get all index) ≡ Some handle → Happens Is index all
  happens index all is = record { on = λ seens at. happened_at index all seens is at }

pub is_shown : (handle : Machine Ticket) (info : ExportInfo) (index : ℕ) (all : List (Held Ticket)) → ForEach handle (λ history. state_after history ≡ state.Ready) → ForEach handle (λ history. Some info ≡ info_after history) →
    option_map (λ (held : Held Ticket). held.handle) (slice_get all index) ≡ Some handle → Happens (IsShown info) index all
is_shown handle info index all ready told is = happens handle (IsShown info) (λ history stands. record { ready = ready history stands; shown = sym (told history stands) }) index all is

pub finds_dead : (handle : Machine Ticket) (now : State) (death : Cause) (why : CopyFault) (index : ℕ) (all : List (Held Ticket)) → now ≡ state.Dead death → why ≡ fault_of death → ForEach handle (λ history. now ≡ state_after history) →
    option_map (λ (held : Held Ticket). held.handle) (slice_get all index) ≡ Some handle → FindsDead why all
finds_dead handle now death why index all dies same told is = record {
  index = index;
  death = death;
  is = same;
  dead = happens handle (IsDead death) (λ history stands. record { dead = sym (told history stands) ∙ dies }) index all is;
}

pub answers_free : (now : board.Seen) (why : CopyFault) → needs_no_ground why ≡ true → Answers now why
answers_free now why free = record { on = inl free }

pub answers_error : (now : board.Seen) (error : ℕ) (why : CopyFault) → Some error ≡ now.error → why ≡ fault_by error → Answers now why
answers_error now error why told is = record { on = inr (record { error = error; told = sym told; is = is }) }

-- By the calls of the copy.

some_seen : (seen : Seen Ticket) → None ≡ Some seen → ⊥
some_seen seen e = cc

pub seen_same : (one other : Seen Ticket) → Some one ≡ Some other → one ≡ other
seen_same one other e = cc

-- Each handle that is held drives its link.

driven_one : (calls : List wire.Call) (handle : Machine Ticket) (seen : Seen Ticket) → StandsFor max_unretired seen.history handle → Drives seen.link calls seen.history seen.unread → IsPlain seen → DrivenBy seen.link seen.history calls
driven_one calls handle seen stands drives plain = record {
  limit = max_unretired;
  lawful = stands.lawful;
  going = stands.going;
  spelled = plain.spelled;
  mode = plain.mode;
  drives = subst (λ (l : List ℕ). Drives seen.link calls seen.history l) plain.arrived drives;
}

pub driven_at : (calls : List wire.Call) (index : ℕ) (seen : Seen Ticket) (held : List (Held Ticket)) (seens : List (Seen Ticket)) → slice_get seens index ≡ Some seen → AreAt held seens → AllDrive calls seens → AllPlain seens → DrivenBy seen.link seen.history calls
driven_at calls index seen held [] there at drive plain = absurd (some_seen seen there)
driven_at calls index seen [] (first ∷ others) there at drive plain = absurd at
driven_at calls zero seen (one ∷ more) (first ∷ others) there at drive plain = subst (λ (s : Seen Ticket). DrivenBy s.link s.history calls) (seen_same first seen there) (driven_one calls one.handle first at.0.stands drive.0 plain.0)
driven_at calls (suc index) seen (one ∷ more) (first ∷ others) there at drive plain = driven_at calls index seen more others there at.1 drive.1 plain.1

pub given_at : (calls : List wire.Call) (link : ℕ) (b : Bool) → is_given link calls ≡ b → (is_given link calls ≡ false → ⊥) → is_given link calls ≡ true
given_at calls link true is other = is
given_at calls link false is other = absurd (other is)

pub first_side : (sides : Sides) (index : ℕ) → is_source sides (first_of sides index) ≡ is_source sides index
first_side sides index = elim (is_source sides index) as (λ b. is_source sides (if b then 0 else 1) ≡ b) [ true ↦ refl | false ↦ refl ]

-- What happened on a handle happened by the calls on a link to one of the places: to that of its side while all are held.
module _ (parting : Bool) (way : Way) (now : board.Seen) (calls : List wire.Call) (held : List (Held Ticket)) (on : IsUnderWay parting way now calls held) (Is : History Ticket → Type 0) where
  -- and what is so of its link is so of that one
  pub drove_on : (index : ℕ) → (h : Happened Is index on.seens) → (P : ℕ → Type 0) → P h.seen.link → (drove : Drove way.extents (place_of way.from way.to (on.has h.seen.link)) Is calls) × P drove.link
  drove_on index h P so =
      let between = on.stands.between in
      let course = between.course in
      let given : is_given h.seen.link calls ≡ true = given_at calls h.seen.link (is_given h.seen.link calls) refl (λ none. not_one h.seen.link index h.seen on.seens h.there (course.unused h.seen.link none).apart refl) in (
        record {
          link = h.seen.link;
          history = h.seen.history;
          drives = driven_at calls index h.seen held on.seens h.there on.at course.drive.drive course.drive.plain;
          address = between.placed.address h.seen.link given;
          name = ap (λ (history : History Ticket). name_set history) (sym (one_has index h.seen course.histories on.seens h.there course.held)) ∙ between.placed.name h.seen.link given;
          is = h.is;
          began = went_there (beginning_on way.extents way.from way.to on.has calls) on.seens index h.seen h.there on.drives.went;
        },
        so,
      )

  drove_has : (index : ℕ) → (h : Happened Is index on.seens) → Drove way.extents (place_of way.from way.to (on.has h.seen.link)) Is calls
  drove_has index h = (drove_on index h (λ link. Unit {0}) tt).0

pub died : (parting : Bool) (way : Way) (now : board.Seen) (calls : List wire.Call) (held : List (Held Ticket)) (index : ℕ) (death : Cause) → IsUnderWay parting way now calls held → Happens (IsDead death) index held → HasDied way.extents way.from way.to death calls
died parting way now calls held index death on dead =
    let h = dead.on on.seens on.at in
    record { source = on.has h.seen.link; dead = drove_has parting way now calls held on (IsDead death) index h }

drove : (way : Way) (now : board.Seen) (calls : List wire.Call) (held : List (Held Ticket)) (Is : History Ticket → Type 0) (index : ℕ) → IsOn way now calls held → Happens Is index held → Drove way.extents (place_of way.from way.to (is_source way.sides index)) Is calls
drove way now calls held Is index on happens =
    let h = happens.on on.seens on.at in
    subst (λ (b : Bool). Drove way.extents (place_of way.from way.to b) Is calls) (on.sided index h.seen h.there) (drove_has false way now calls held on Is index h)

pub settles : (way : Way) (now : board.Seen) (calls : List wire.Call) (held : List (Held Ticket)) (rule : Option Rule) → Finds rule held → IsOn way now calls held → ConnectTo (way.from.to ∷ way.to.to ∷ []) calls → Settle way.extents way.from way.to rule calls
settles way now calls held rule finds on only = record {
  source = finds.source;
  destination = finds.destination;
  shown = drove way now calls held (IsShown finds.source) 0 on finds.shown;
  shown' = drove way now calls held (IsShown finds.destination) 1 on finds.shown';
  first = finds.first;
  only = only;
}

pub differs : (way : Way) (now : board.Seen) (calls : List wire.Call) (held : List (Held Ticket)) → FindsOther way.sides held → IsOn way now calls held → Differ way.extents way.from way.to calls
differs way now calls held finds on = record {
  source = is_source way.sides finds.index;
  one = finds.beside.one;
  other = finds.beside.other;
  shown = subst (λ (b : Bool). Drove way.extents (place_of way.from way.to b) (IsShown finds.beside.one) calls) (first_side way.sides finds.index) (drove way now calls held (IsShown finds.beside.one) (first_of way.sides finds.index) on finds.beside.shown);
  shown' = drove way now calls held (IsShown finds.beside.other) finds.index on finds.beside.shown';
  differ = finds.beside.is;
}

-- Grounds.

pub none_grounded : (start told : Option (List wire.Call)) (extents : Bool) (from to : Place) (why : CopyFault) → needs_no_ground why ≡ true → IsGrounded start told extents from to why
none_grounded start told extents from to fault.NoMemory free = record { shown = tt }
none_grounded start told extents from to (fault.Link before after) free = record { shown = tt }
none_grounded start told extents from to (fault.Broke (broken.Breach breach)) free = absurd (false≢true free)
none_grounded start told extents from to (fault.Broke broken.Content) free = absurd (false≢true free)
none_grounded start told extents from to (fault.Broke broken.Ended) free = absurd (false≢true free)
none_grounded start told extents from to (fault.Broke broken.Differs) free = absurd (false≢true free)
none_grounded start told extents from to (fault.Peer None code) free = absurd (false≢true free)
none_grounded start told extents from to (fault.Peer (Some option) code) free = absurd (false≢true free)
none_grounded start told extents from to (fault.Rule rule) free = absurd (false≢true free)
none_grounded start told extents from to (fault.Silent idles) free = record { shown = tt }

refused_grounded : (way : Way) (now : board.Seen) (held : List (Held Ticket)) (start told : Option (List wire.Call)) (why : CopyFault) → IsRefused held why → Told start told (λ calls. IsOn way now calls held) → Told start told (ConnectTo (way.from.to ∷ way.to.to ∷ [])) → IsGrounded start told way.extents way.from way.to why
refused_grounded way now held start told fault.NoMemory is on only = record { shown = tt }
refused_grounded way now held start told (fault.Link before after) is on only = absurd is.found
refused_grounded way now held start told (fault.Broke one) is on only = absurd is.found
refused_grounded way now held start told (fault.Peer option code) is on only = absurd is.found
refused_grounded way now held start told (fault.Rule rule) is on only = record { shown = told_as start told (λ calls at. at_once calls (settles way now calls held (Some rule) is.found at.0 at.1)) (told_both start told on only) }
refused_grounded way now held start told (fault.Silent idles) is on only = absurd is.found

-- The transcript goes on.

pub grounded_later : (start a b : Option (List wire.Call)) (extents : Bool) (from to : Place) (why : CopyFault) → Lasts a b → IsGrounded start a extents from to why → IsGrounded start b extents from to why
grounded_later start a b extents from to fault.NoMemory lasts g = record { shown = tt }
grounded_later start a b extents from to (fault.Link before after) lasts g = record { shown = tt }
grounded_later start a b extents from to (fault.Broke (broken.Breach breach)) lasts g = record { shown = told_later start a b lasts g.shown }
grounded_later start a b extents from to (fault.Broke broken.Content) lasts g = record { shown = told_later start a b lasts g.shown }
grounded_later start a b extents from to (fault.Broke broken.Ended) lasts g = record { shown = told_later start a b lasts g.shown }
grounded_later start a b extents from to (fault.Broke broken.Differs) lasts g = record { shown = told_later start a b lasts g.shown }
grounded_later start a b extents from to (fault.Peer None code) lasts g = record { shown = told_later start a b lasts g.shown }
grounded_later start a b extents from to (fault.Peer (Some option) code) lasts g = record { shown = told_later start a b lasts g.shown }
grounded_later start a b extents from to (fault.Rule rule) lasts g = record { shown = told_later start a b lasts g.shown }
grounded_later start a b extents from to (fault.Silent idles) lasts g = record { shown = tt }

pub if_err_leads : {T F : Type 0} {A B : F → Type 0} (r : Result T F) → ((why : F) → A why → B why) → IfErr r A → IfErr r B
if_err_leads (Ok value) leads a = tt
if_err_leads (Err why) leads a = leads why a

-- What `?` hands on.
pub handed_on : {T F : Type 0} (P : F → Type 0) (r : Result T F) (why : F) → IsErrAnd r (λ f. f ≡ why) → P why → IfErr r P
handed_on P (Ok value) why is p = tt
handed_on P (Err f) why is p = subst P (sym is) p

-- What is so is so on a failure.
pub on_err_so : {T F A : Type 0} (r : Result T F) → A → OnErr r A
on_err_so (Ok value) a = tt
on_err_so (Err why) a = a

-- The first connection of each side, and then what both settle.

abbrev pub one_side : Sides
one_side = record { source = 1; destination = 1 }

pub goes_first : (s0 s1 s2 : copier.Seen) (u v : Option (List wire.Call)) → s1.board ≡ s0.board → Goes s1.board s1.held u s2.board s2.held v → Goes s0.board s1.held u s2.board s2.held v
goes_first s0 s1 s2 u v same one = subst (λ (b : board.Seen). Goes b s1.held u s2.board s2.held v) same one

pub dials_second : (s0 s1 s2 s3 : copier.Seen) (v w : Option (List wire.Call)) → s1 ≡ with_held s0 s1 → s2 ≡ with_held s1 s2 → Dials s2.to false s2.board s2.held v s3.held w → Dials s0.to false s2.board s2.held v s3.held w
dials_second s0 s1 s2 s3 v w k1 k2 second = subst (λ (p : Place). Dials p false s2.board s2.held v s3.held w) (ap (λ (s : copier.Seen). s.to) (kept_then s0 s1 s2 k1 k2)) second

-- or what both were told is refused.
pub found_fails : (s0 s1 s2 s3 s4 : copier.Seen) (t u v w x : Option (List wire.Call)) (held : List (Held Ticket)) (why : CopyFault) → s1 ≡ with_held s0 s1 → s2 ≡ with_held s1 s2 → s1.board ≡ s0.board → s3.board ≡ s2.board → held ≡ s4.held →
    Dials s0.from s0.options.extents s0.board s0.held t s1.held u → Goes s1.board s1.held u s2.board s2.held v → Dials s2.to false s2.board s2.held v s3.held w → Goes s3.board s3.held w s4.board s4.held x → HasNotBegun s0 → LinksGo (s0.from.to ∷ s0.to.to ∷ []) s0.held t s4.held x → IsRefused held why →
    IsGrounded t x s0.options.extents s0.from s0.to why
found_fails s0 s1 s2 s3 s4 t u v w x held why k1 k2 b1 b3 same first one second two none connects found =
    let how = s0.board.how in
    let two' : Goes s2.board s3.held w s4.board s4.held x = subst (λ (b : board.Seen). Goes b s3.held w s4.board s4.held x) b3 two in
    refused_grounded (beginning s0 None how one_side) s4.board s4.held t x why (subst (λ (l : List (Held Ticket)). IsRefused l why) same found)
    (two_on s0 s2.board s4.board s1.held s2.held s3.held s4.held t u v w x how one_side none first (goes_first s0 s1 s2 u v b1 one) (dials_second s0 s1 s2 s3 v w k1 k2 second) two')
    (connects.connects t [] (told_begins t refl))

-- what both were told, and the handles know it
pub record AreFound (options : CopyOptions) (from to : Place) (start told : Option (List wire.Call)) (terms : Terms) (held : List (Held Ticket)) : Type 0 where
  pub first : HasTerms options from to start told terms
  pub know : KnowBoth first.source first.destination held

-- What both were told settles the terms.
pub found_terms : (s0 s1 s2 s3 s4 : copier.Seen) (t u v w x : Option (List wire.Call)) (options : CopyOptions) (terms : Terms) (held : List (Held Ticket)) → s0.options.extents ≡ options.extents → s1 ≡ with_held s0 s1 → s2 ≡ with_held s1 s2 → s1.board ≡ s0.board → s3.board ≡ s2.board → held ≡ s4.held →
    Dials s0.from s0.options.extents s0.board s0.held t s1.held u → Goes s1.board s1.held u s2.board s2.held v → Dials s2.to false s2.board s2.held v s3.held w → Goes s3.board s3.held w s4.board s4.held x → HasNotBegun s0 → (finds : FindsTerms options terms held) →
    (Stand s4.held → KnowBoth finds.source finds.destination s4.held) → AreFound options s0.from s0.to t x terms s4.held
found_terms s0 s1 s2 s3 s4 t u v w x options terms held asks k1 k2 b1 b3 same first one second two none finds know =
    let how = s0.board.how in
    let way = beginning s0 None how one_side in
    let two' : Goes s2.board s3.held w s4.board s4.held x = subst (λ (b : board.Seen). Goes b s3.held w s4.board s4.held x) b3 two in
    let on = two_on s0 s2.board s4.board s1.held s2.held s3.held s4.held t u v w x how one_side none first (goes_first s0 s1 s2 u v b1 one) (dials_second s0 s1 s2 s3 v w k1 k2 second) two' in
    record {
      first = record {
        source = finds.source;
        destination = finds.destination;
        shown = subst (λ (e : Bool). Told t x (AtSome (Drove e s0.from (IsShown finds.source)))) asks (told_as t x (λ calls at. at_once calls (drove way s4.board calls s4.held (IsShown finds.source) 0 at (subst (λ (l : List (Held Ticket)). Happens (IsShown finds.source) 0 l) same finds.shown))) on);
        shown' = subst (λ (e : Bool). Told t x (AtSome (Drove e s0.to (IsShown finds.destination)))) asks (told_as t x (λ calls at. at_once calls (drove way s4.board calls s4.held (IsShown finds.destination) 1 at (subst (λ (l : List (Held Ticket)). Happens (IsShown finds.destination) 1 l) same finds.shown'))) on);
        none = finds.none;
        settled = finds.settled;
      };
      know = know (two_meet_stand s0 s1 s2 s3 s4 t u v w x first one second two none);
    }

-- Turns.

pub grounded_as : (start told : Option (List wire.Call)) (extents extents' : Bool) (from from' to to' : Place) (why : CopyFault) → extents ≡ extents' → from ≡ from' → to ≡ to' → IsGrounded start told extents from to why → IsGrounded start told extents' from' to' why
grounded_as start told extents extents' from from' to to' why asks one two g =
    subst (λ (e : Bool). IsGrounded start told e from' to' why) asks (subst (λ (p : Place). IsGrounded start told extents from' p why) two (subst (λ (p : Place). IsGrounded start told extents p to why) one g))
