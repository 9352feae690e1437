-- A caller asks a handle, or does something else with it; and the board goes on.
use Rattle.std.proofs.Common.{◌≡◌, ◌≢◌, ℕ, zero, suc, true, false, List, [], ◌∷◌, Some, None, slice_get, refl, ap, sym, subst, ◌∙◌}
use Rattle.lnbd_link.specs.Call as wire
use Rattle.lnbd_history.specs.Events.{Event, Issue}
use Rattle.lnbd_asked.specs.Driven.{DrivenSays, Spells, is_inward}
use Rattle.lnbd_asked.specs.Transcript.{on_link}
use Rattle.lnbd_poll.specs.Alone.{AreApart, HaveOwnLinks}
use Rattle.lnbd_poll.specs.Seen.{Seen}
use Rattle.lnbd_drives.specs.Driving.{sets_opt_mode, with_event}
use Rattle.lnbd_drives.proofs.Calling.{callers_drive}
use Rattle.lnbd_board.specs.declared.ticket.Ticket.{Ticket}
use Rattle.lnbd_board.specs.Files as board
use Rattle.lnbd_tracks.specs.Tracks.{Histories}
use Rattle.lnbd_course.specs.Course.{CourseOf, Stood, AllHave}
use Rattle.lnbd_course.specs.Laws.{SourceAsksKeep, DestinationAsksKeep, BoardMovesKeep, OthersKeep}
use Rattle.lnbd_course.proofs.Counting.{counted_same}
use Rattle.lnbd_course.proofs.Standing.{quiet_stood, source_asked, destination_asked, with_history, with_here, with_others, with_happens}

none_some : (one : Seen Ticket) → None ≡ Some one → ⊥
none_some one e = cc

some_same : (one other : Seen Ticket) → Some one ≡ Some other → one ≡ other
some_same one other e = cc

-- Links stay.

pub event_apart : (link index : ℕ) (event : Event Ticket) (seens : List (Seen Ticket)) → AreApart link seens → AreApart link (with_event index event seens)
event_apart link index event [] apart = tt
event_apart link zero event (seen ∷ others) apart = apart
event_apart link (suc index) event (seen ∷ others) apart = (apart.0, event_apart link index event others apart.1)

pub was_apart : (link index : ℕ) (event : Event Ticket) (seens : List (Seen Ticket)) → AreApart link (with_event index event seens) → AreApart link seens
was_apart link index event [] apart = tt
was_apart link zero event (seen ∷ others) apart = apart
was_apart link (suc index) event (seen ∷ others) apart = (apart.0, was_apart link index event others apart.1)

-- a link that is apart isn't that of one of them
pub not_one : (link index : ℕ) (seen : Seen Ticket) (seens : List (Seen Ticket)) → slice_get seens index ≡ Some seen → AreApart link seens → link ≢ seen.link
not_one link index seen [] there apart = absurd (none_some seen there)
not_one link zero seen (first ∷ others) there apart = λ e. apart.0 (ap (λ (s : Seen Ticket). s.link) (some_same first seen there) ∙ sym e)
not_one link (suc index) seen (first ∷ others) there apart = not_one link index seen others there apart.1

-- Histories.

module _ (event : Event Ticket) (histories : Histories) where
  abbrev pub then : ℕ → Histories
  then link = with_history link (event ∷ histories link) histories

  pub others_have : (link : ℕ) (seens : List (Seen Ticket)) → AreApart link seens → AllHave histories seens → AllHave (then link) seens
  others_have link [] apart have = tt
  others_have link (seen ∷ others) apart have = (with_others link (event ∷ histories link) histories seen.link apart.0 ∙ have.0, others_have link others apart.1 have.1)

  pub then_have : (index : ℕ) (seen : Seen Ticket) (seens : List (Seen Ticket)) → slice_get seens index ≡ Some seen → HaveOwnLinks seens → AllHave histories seens → AllHave (then seen.link) (with_event index event seens)
  then_have index seen [] there own have = tt
  then_have zero seen (first ∷ others) there own have =
      subst (λ (s : Seen Ticket). AllHave (then s.link) (with_event zero event (first ∷ others))) (some_same first seen there)
      (with_here first.link (event ∷ histories first.link) histories ∙ ap (λ h. event ∷ h) have.0, others_have first.link others own.0 have.1)
  then_have (suc index) seen (first ∷ others) there own have =
      (with_others seen.link (event ∷ histories seen.link) histories first.link (λ e. not_one first.link index seen others there own.0 e) ∙ have.0, then_have index seen others there own.1 have.1)

-- What stands on, with the facts that stand after the event.
unfoldable pub goes_on : (Facts Facts' : board.Seen → Histories → Type 0) (now now' : board.Seen) (calls : List wire.Call) (seens : List (Seen Ticket)) (index : ℕ) (seen : Seen Ticket)
    (event : Event Ticket) →
    (c : CourseOf Facts now calls seens) → slice_get seens index ≡ Some seen → is_inward event ≡ true → Spells seen.history event → sets_opt_mode event ≡ false →
    Facts' now' (then event c.histories seen.link) → CourseOf Facts' now' calls (with_event index event seens)
goes_on Facts Facts' now now' calls seens index seen event c there inward spells off stood = record {
  histories = then event c.histories seen.link;
  held = then_have event c.histories index seen seens there c.drive.own c.held;
  drive = callers_drive calls seens index seen event c.drive there inward spells off;
  parted = λ link apart.
      let was = was_apart link index event seens apart in
      subst (λ h. DrivenSays h (on_link link calls)) (sym (with_others seen.link (event ∷ c.histories seen.link) c.histories link (not_one link index seen seens there was))) (c.parted link was);
  unused = λ link new.
      let u = c.unused link new in
      record {
        apart = event_apart link index event seens u.apart;
        quiet = u.quiet;
        blank = with_others seen.link (event ∷ c.histories seen.link) c.histories link (not_one link index seen seens there u.apart) ∙ u.blank;
      };
  stood = stood;
  driven = λ link apart. c.driven link (was_apart link index event seens apart);
}

-- The same handles and calls, with the facts that stand of another board.
abbrev pub moves_on : (Facts Facts' : board.Seen → Histories → Type 0) (now now' : board.Seen) (calls : List wire.Call) (seens : List (Seen Ticket)) (c : CourseOf Facts now calls seens) →
    Facts' now' c.histories → CourseOf Facts' now' calls seens
moves_on Facts Facts' now now' calls seens c stood = record { histories = c.histories; held = c.held; drive = c.drive; parted = c.parted; unused = c.unused; stood = stood; driven = c.driven }

unfoldable pub source_asks_keep : SourceAsksKeep
source_asks_keep how has slices slices' now now' calls seens index seen command c there is spells asks =
    goes_on (Stood how has slices) (Stood how has slices') now now' calls seens index seen (Issue command) c there refl spells refl
    (source_asked how has slices slices' seen.link command c.histories (then (Issue command) c.histories seen.link) (with_happens seen.link (Issue command) c.histories) now now' is asks c.stood)

unfoldable pub destination_asks_keep : DestinationAsksKeep
destination_asks_keep how has slices slices' now now' calls seens index seen command c there is spells asks =
    goes_on (Stood how has slices) (Stood how has slices') now now' calls seens index seen (Issue command) c there refl spells refl
    (destination_asked how has slices slices' seen.link command c.histories (then (Issue command) c.histories seen.link) (with_happens seen.link (Issue command) c.histories) now now' is asks c.stood)

unfoldable pub others_keep : OthersKeep
others_keep how has slices now calls seens index seen event c there inward other none spells off =
    goes_on (Stood how has slices) (Stood how has slices) now now calls seens index seen event c there inward spells off
    (quiet_stood how has slices seen.link event c.histories (then event c.histories seen.link) (with_happens seen.link event c.histories) now c.stood other none)

unfoldable pub board_moves_keep : BoardMovesKeep
board_moves_keep how has slices now now' calls seens c earlier same keeps = moves_on (Stood how has slices) (Stood how has slices) now now' calls seens c (record {
  source = c.stood.source;
  destination = c.stood.destination;
  reads = c.stood.reads;
  changes = c.stood.changes;
  stands = λ none. (keeps c.stood.source c.stood.destination).on slices (c.stood.stands (earlier none));
  counted = counted_same now now' c.stood.source c.stood.destination same c.stood.counted;
  flushed = λ none told. c.stood.flushed (earlier none) (sym same.flushed ∙ told);
})
