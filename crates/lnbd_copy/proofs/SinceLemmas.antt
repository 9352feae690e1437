-- What came on handles since all was done went on from what had come then, and so it stays.
use Rattle.std.proofs.Common.{◌≡◌, ◌≢◌, ◌⊎◌, inl, inr, ℕ, zero, suc, ◌+◌, Bool, true, false, List, [], ◌∷◌, ◌++◌, take, drop, Some, None, slice_get, if◌then◌else◌, refl, ap, sym, subst, ◌∙◌, append_assoc, ◌==◌}
use Rattle.std.proofs.lemmas.Bool.{cases_eq, eq-eqb, false≢true, ne_eqb}
use Rattle.lnbd_model.specs.declared.target.Place.{Place}
use Rattle.lnbd_handle.specs.Histories.{max_unretired}
use Rattle.lnbd_history.specs.Events.{Event, History}
use Rattle.lnbd_history.specs.Laws.{Lawful}
use Rattle.lnbd_link.specs.Call as wire
use Rattle.lnbd_link.specs.Numbers.{is_given}
use Rattle.lnbd_link.specs.Traffic.{target_of}
use Rattle.lnbd_poll.specs.Alone.{AreApart, HaveOwnLinks, calls_on}
use Rattle.lnbd_poll.specs.Seen.{Seen}
use Rattle.lnbd_drives.proofs.Saying.{one_of}
use Rattle.lnbd_drives.specs.Driving.{DriveOwnLinks, with_event}
use Rattle.lnbd_board.specs.declared.ticket.Ticket.{Ticket}
use Rattle.lnbd_course.proofs.Address.{given_stays}
use Rattle.lnbd_course.proofs.Holding.{apart_or, take_drop}
use Rattle.lnbd_course.specs.Between.{place_of}
use Rattle.lnbd_copy.specs.Driven.{AllDriveOn, AllWentOn, EndsSince, LeavesSince}
use Rattle.lnbd_conduct.specs.Driven.{EndAfter, HasParted, WasLeftSince, WentOn, may_come}
use Rattle.lnbd_copy.proofs.DrivenLemmas.{driven_later, on_none, one_drove, went_as, went_dropped, went_event, went_joined, went_taken, went_there}

-- What came on the handles that are held.

-- on that of a link
abbrev pub history_on : List (Seen Ticket) → (link : ℕ) → History Ticket
history_on [] link = []
history_on (seen ∷ others) link = if link == seen.link then seen.history else history_on others link

none_some : (seen : Seen Ticket) → None ≡ Some seen → ⊥
none_some seen e = cc

some_same : (one other : Seen Ticket) → Some one ≡ Some other → one ≡ other
some_same one other e = cc

here_on : (seen : Seen Ticket) (others : List (Seen Ticket)) → history_on (seen ∷ others) seen.link ≡ seen.history
here_on seen others = ap (λ (b : Bool). if b then seen.history else history_on others seen.link) (eq-eqb seen.link seen.link refl)

there_on : (seen : Seen Ticket) (others : List (Seen Ticket)) (link : ℕ) → link ≢ seen.link → history_on (seen ∷ others) link ≡ history_on others link
there_on seen others link differ = ap (λ (b : Bool). if b then seen.history else history_on others link) (ne_eqb link seen.link differ)

apart_there : (link : ℕ) (seens : List (Seen Ticket)) (index : ℕ) (seen : Seen Ticket) → slice_get seens index ≡ Some seen → AreApart link seens → seen.link ≢ link
apart_there link [] index seen there apart = absurd (none_some seen there)
apart_there link (one ∷ others) zero seen there apart = subst (λ (s : Seen Ticket). s.link ≢ link) (some_same one seen there) apart.0
apart_there link (one ∷ others) (suc index) seen there apart = apart_there link others index seen there apart.1

pub history_there : (seens : List (Seen Ticket)) (index : ℕ) (seen : Seen Ticket) → HaveOwnLinks seens → slice_get seens index ≡ Some seen → history_on seens seen.link ≡ seen.history
history_there [] index seen own there = absurd (none_some seen there)
history_there (one ∷ others) zero seen own there = subst (λ (s : Seen Ticket). history_on (one ∷ others) s.link ≡ s.history) (some_same one seen there) (here_on one others)
history_there (one ∷ others) (suc index) seen own there = there_on one others seen.link (apart_there one.link others index seen there own.0) ∙ history_there others index seen own.1 there

pub went_nowhere : (seens : List (Seen Ticket)) → HaveOwnLinks seens → AllWentOn (history_on seens) seens
went_nowhere [] own = tt
went_nowhere (seen ∷ others) own =
    (subst (λ (h : History Ticket). WentOn h seen.history) (sym (here_on seen others)) (on_none seen.history), went_as (history_on others) (history_on (seen ∷ others)) seen.link others (λ n differ. there_on seen others n differ) own.0 (went_nowhere others own.1))

-- Calls that give no link.

module _ (extents blank flush : Bool) (from to : Place) where
  -- all was done by the first of them
  unfoldable pub end_later : (calls more : List wire.Call) → ((link : ℕ) → is_given link more ≡ false) → EndAfter extents blank flush from to calls → EndAfter extents blank flush from to (calls ++ more)
  end_later calls more none end = record {
    before = end.before;
    after = end.after ++ more;
    are = ap (λ (l : List wire.Call). l ++ more) end.are ∙ append_assoc end.before end.after more;
    was = end.was;
    unended = λ link given. end.unended link (sym (given_stays link calls more (none link)) ∙ given);
    done = end.done;
    flushed = end.flushed;
  }

  -- while the handles go on
  unfoldable pub since_later : (calls more : List wire.Call) (seens seens' : List (Seen Ticket)) → ((link : ℕ) → is_given link more ≡ false) → ((first : ℕ → History Ticket) → AllWentOn first seens → AllWentOn first seens') → EndsSince extents blank flush from to calls seens → EndsSince extents blank flush from to (calls ++ more) seens'
  unfolding end_later
  since_later calls more seens seens' none goes s = record { end = end_later calls more none s.end; went = goes s.end.was s.went }

  -- how a link was left that none of them reads or writes
  since_left : (first : History Ticket) (link : ℕ) (calls more : List wire.Call) → calls_on link more ≡ [] → ((n : ℕ) → is_given n more ≡ false) → WasLeftSince first extents from to link calls → WasLeftSince first extents from to link (calls ++ more)
  unfolding driven_later
  since_left first link calls more quiet none l = record {
    source = l.source;
    left = record { driven = driven_later extents from to l.source link calls more quiet none l.left.driven; parted = l.left.parted; arrived = l.left.arrived };
    went = l.went;
  }

  pub leaves_later : (calls more : List wire.Call) (seens seens' : List (Seen Ticket)) → ((link : ℕ) → is_given link more ≡ false) → ((link : ℕ) → AreApart link seens' → AreApart link seens) → ((link : ℕ) → AreApart link seens → calls_on link more ≡ []) → ((first : ℕ → History Ticket) → AllWentOn first seens → AllWentOn first seens') →
      LeavesSince extents blank flush from to calls seens → LeavesSince extents blank flush from to (calls ++ more) seens'
  unfolding since_later end_later
  leaves_later calls more seens seens' none apart quiet goes s = record {
    ends = since_later calls more seens seens' none goes s.ends;
    left = λ link other given. since_left (s.ends.end.was link) link calls more (quiet link (apart link other)) none (s.left link (apart link other) (sym (given_stays link calls more (none link)) ∙ given));
  }

-- An event on a handle.

pub since_event : (extents blank flush : Bool) (from to : Place) (calls : List wire.Call) (index : ℕ) (event : Event Ticket) (seens : List (Seen Ticket)) → may_come event ≡ true → EndsSince extents blank flush from to calls seens → EndsSince extents blank flush from to calls (with_event index event seens)
since_event extents blank flush from to calls index event seens may s = record { end = s.end; went = went_event s.end.was index event seens may s.went }

-- A handle is taken out that had parted.

module _ (extents blank flush : Bool) (from to : Place) (has : ℕ → Bool) (calls : List wire.Call) (seens : List (Seen Ticket)) (index : ℕ) (seen : Seen Ticket) (there : slice_get seens index ≡ Some seen) (lawful : Lawful max_unretired seen.history) (parted : HasParted seen.history) (own : DriveOwnLinks calls seens)
    (address : (link : ℕ) → is_given link calls ≡ true → target_of link calls ≡ Some (place_of from to (has link)).to) (d : AllDriveOn extents from to has calls seens) where
  left_out : (first : ℕ → History Ticket) → is_given seen.link calls ≡ true → AllWentOn first seens → WasLeftSince (first seen.link) extents from to seen.link calls
  unfolding one_drove
  left_out first given went =
      let one = one_of calls seens index seen there own.drive own.plain in
      record {
        source = has seen.link;
        left = record { driven = one_drove extents from to has calls seens index seen there lawful one.plain.spelled one.drives (address seen.link given) d.went (d.first seen.link); parted = parted; arrived = one.plain.arrived };
        went = went_there first seens index seen there went;
      }

  pub leaves_without : LeavesSince extents blank flush from to calls seens → LeavesSince extents blank flush from to calls (take index seens ++ drop (index + 1) seens)
  leaves_without s = record {
    ends = record { end = s.ends.end; went = went_joined s.ends.end.was (take index seens) (drop (index + 1) seens) (went_taken s.ends.end.was index seens s.ends.went) (went_dropped s.ends.end.was (index + 1) seens s.ends.went) };
    left = λ link apart given. go link apart given (cases_eq link seen.link);
  }
    where
      go : (link : ℕ) → AreApart link (take index seens ++ drop (index + 1) seens) → is_given link calls ≡ true → (link ≡ seen.link) ⊎ (link ≡ seen.link → ⊥) → WasLeftSince (s.ends.end.was link) extents from to link calls
      go link apart given (inl same) = subst (λ (n : ℕ). WasLeftSince (s.ends.end.was n) extents from to n calls) (sym same) (left_out s.ends.end.was (subst (λ (n : ℕ). is_given n calls ≡ true) same given) s.ends.went)
      go link apart given (inr differ) = s.left link (apart_or link index seen seens there (subst (AreApart link) (sym (take_drop index seens)) apart) differ) given

-- While no handle was taken out none was left.
pub leaves_none : (extents blank flush : Bool) (from to : Place) (calls : List wire.Call) (seens : List (Seen Ticket)) → ((link : ℕ) → AreApart link seens → is_given link calls ≡ false) → EndsSince extents blank flush from to calls seens → LeavesSince extents blank flush from to calls seens
leaves_none extents blank flush from to calls seens all s = record { ends = s; left = λ link apart given. absurd (false≢true (sym (all link apart) ∙ given)) }
