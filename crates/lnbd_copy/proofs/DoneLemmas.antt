-- Connections are asked to end where all is done.
use Rattle.std.proofs.Common.{◌≡◌, ◌≢◌, ℕ, Bool, true, false, List, [], Option, None, if◌then◌else◌, ap, sym, subst, ◌∙◌}
use Rattle.std.proofs.lemmas.List.{append-nil}
use Rattle.lnbd_link.specs.Call as wire
use Rattle.lnbd_poll.specs.Held.{Held}
use Rattle.lnbd_board.specs.declared.ticket.Ticket.{Ticket}
use Rattle.lnbd_board.specs.Files as board
use Rattle.lnbd_course.specs.Flushes.{IsFlushed}
use Rattle.lnbd_course.specs.Told as course
use Rattle.lnbd_course.proofs.AllDone.{ended_are_all_done}
use Rattle.lnbd_course.proofs.Flushing.{ended_flushed}
use Rattle.lnbd_course.proofs.Placed.{ended_carries}
use Rattle.lnbd_copy.specs.Deciding.{AreAlive}
use Rattle.lnbd_conduct.specs.Driven.{IsAllDone}
use Rattle.lnbd_copy.specs.Job as job
use Rattle.lnbd_copy.specs.Way.{IsOn, Stands, Way, known_of}
use Rattle.lnbd_copy.specs.Windows as windows
use Rattle.lnbd_copy.proofs.AnswerLemmas.{none_held}
use Rattle.lnbd_copy.proofs.AliveLemmas.{on_unended_alive}
use Rattle.lnbd_copy.proofs.EndLemmas.{between_sized, planned_whole}
use Rattle.lnbd_copy.proofs.WholeLemmas.{all_finished}
use Rattle.lnbd_copy.proofs.SinceLemmas.{history_on, went_nowhere}

-- All slices are over, and the flush was answered if one was asked for.
pub all_is_done : (j : job.Seen) (way : Way) (now : board.Seen) (calls : List wire.Call) (held : List (Held Ticket)) → job.IsJob j way now → job.IsOver j now → now.error ≡ None → (now.flushing ≡ true → now.flushed ≡ true) → IsOn way now calls held → way.from ≢ way.to → IsAllDone way.how.skip way.from way.to calls
all_is_done j way now calls held is over well answered on two =
    let s : Stands way on.has now calls [] = none_held way on.has now calls held on.seens on.at on.stands in
    let between = between_sized way j.terms.size on.has now calls is.size s in
    let planned = planned_whole j way now calls is over on.has s two in
    let unasked : way.asked ≡ None = is.asked ∙ ap (λ (b : Bool). if b then windows.wanted j.windows else None) over.heard in
    record {
      carried = ended_carries way.from way.to j.terms.size way.how on.has way.slices now calls j.windows.plan.cells is.planned.parts between over.rows well planned two;
      done = ended_are_all_done way.from way.to j.terms.size way.how on.has way.slices now calls (known_of way) between
          (subst (λ (o : Option (ℕ × ℕ)). course.ToldCourse way.how on.has way.slices now calls [] o (known_of way)) unasked s.told) over.rows well answered two;
      whole = all_finished j way now calls is on.has s well two planned over;
    }

-- So was the flush.
pub flush_is_done : (j : job.Seen) (way : Way) (now : board.Seen) (calls : List wire.Call) (held : List (Held Ticket)) → job.IsJob j way now → now.error ≡ None → now.flushed ≡ true → IsOn way now calls held → way.from ≢ way.to → IsFlushed way.to calls
flush_is_done j way now calls held is well answered on two =
    ended_flushed way.from way.to j.terms.size way.how on.has way.slices now calls (between_sized way j.terms.size on.has now calls is.size (none_held way on.has now calls held on.seens on.at on.stands)) well answered two

-- With that its connections are to end, while none is dead.
pub at_end : (way : Way) (now : board.Seen) (calls : List wire.Call) (held : List (Held Ticket)) → way.ended ≡ false → (way.from ≢ way.to → IsAllDone way.how.skip way.from way.to calls) → (way.flush ≡ true → way.from ≢ way.to → IsFlushed way.to calls) → AreAlive held → IsOn way now calls held →
    IsOn (record way { ended = true }) now calls held
at_end way now calls held not done flushed alive on = record {
  has = on.has;
  seens = on.seens;
  at = on.at;
  sided = on.sided;
  begun = on.begun;
  stands = record { between = on.stands.between; told = on.stands.told };
  rest = on.rest;
  all = on.all;
  hears = on.hears;
  bound = on.bound;
  drives = on.drives;
  ends = record {
    end = record { before = calls; after = []; are = sym (append-nil calls); was = history_on on.seens; unended = on_unended_alive way now calls held not alive on; done = done; flushed = flushed };
    went = went_nowhere on.seens on.stands.between.course.drive.own;
  };
  order = on.order;
  queried = on.queried;
  flushes = on.flushes;
}
