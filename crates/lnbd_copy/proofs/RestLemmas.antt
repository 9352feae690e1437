-- A copy comes to rest where all its slices are over, before its destination is asked to flush.
use Rattle.std.proofs.Common.{◌≡◌, ◌≤◌, ℕ, List, [], Option, Some, sym, subst, ◌∙◌, arith}
use Rattle.std.proofs.lemmas.List.{append-nil}
use Rattle.lnbd_link.specs.Call as wire
use Rattle.lnbd_plan.specs.Laws.{told_by}
use Rattle.lnbd_poll.specs.Held.{Held}
use Rattle.lnbd_board.specs.declared.ticket.Ticket.{Ticket}
use Rattle.lnbd_board.specs.Files as board
use Rattle.lnbd_course.specs.Between.{Between}
use Rattle.lnbd_course.proofs.Flushing.{ended_unflushed}
use Rattle.lnbd_course.proofs.Once.{ended_are_done}
use Rattle.lnbd_course.proofs.Summing.{ended_sums}
use Rattle.lnbd_copy.specs.declared.job.Phase.TheVariants.{Copying}
use Rattle.lnbd_copy.specs.Job.{IsJob, IsOver, Seen}
use Rattle.lnbd_copy.specs.Way.{HasRested, IsOn, Way}
use Rattle.lnbd_copy.proofs.EndLemmas.{all_taken, planned_once}

same_size : (one other : ℕ) (size : Option ℕ) → size ≡ Some one → size ≡ Some other → one ≡ other
same_size one other size e f = let g : Some one ≡ Some other = sym e ∙ f in cc

fits_in : (end most size bytes : ℕ) → end ≤ most → most ≡ size → bytes ≡ size → end ≤ bytes
fits_in end most size bytes l e f = omega (arith, l, e, f)

pub came_to_rest : (job : Seen) (way : Way) (now : board.Seen) (calls : List wire.Call) (held : List (Held Ticket)) → job.phase ≡ Copying → IsOver job now → IsJob job way now → IsOn way now calls held → HasRested way.from way.to way.size (Some now) calls
came_to_rest job way now calls held copying over had on = λ bytes is room well two.
    let b = all_taken way.from way.to (Some bytes) way.how on.has way.slices now calls held on.seens on.at
    (subst (λ (o : Option ℕ). Between way.from way.to o way.how on.has way.slices now calls on.seens) is on.stands.between) in
    record {
      before = calls;
      after = [];
      parts = sym (append-nil calls);
      sums = ended_sums way.from way.to bytes way.how on.has way.slices job.windows.plan.slices now calls job.windows.plan.cells (told_by 0 had.planned.parts) job.windows.plan.end b over.rows well (planned_once job way now had)
          (fits_in job.windows.plan.end job.windows.size job.terms.size bytes had.planned.within had.ends (same_size bytes job.terms.size way.size is had.size)) room two;
      done = ended_are_done way.from way.to bytes way.how on.has way.slices now calls b over.rows well two;
      unflushed = ended_unflushed way.from way.to bytes way.how on.has way.slices now calls b (had.unflushed copying) two;
    }

-- With that it is at rest.
pub at_rest : (way : Way) (was now : board.Seen) (calls : List wire.Call) (held : List (Held Ticket)) → IsOn way now calls held → HasRested way.from way.to way.size (Some was) calls → IsOn (record way { rested = Some was }) now calls held
at_rest way was now calls held on rest = record {
  has = on.has;
  seens = on.seens;
  at = on.at;
  sided = on.sided;
  begun = on.begun;
  stands = record { between = on.stands.between; told = on.stands.told };
  rest = rest;
  all = on.all;
  hears = on.hears;
  bound = on.bound;
  drives = on.drives;
  ends = on.ends;
  order = on.order;
  queried = on.queried;
  flushes = on.flushes;
}
