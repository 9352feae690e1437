use Rattle.std.proofs.Common.{ℕ, ◌+◌, sym, subst, ◌-◌, ◌||◌, not, cond, [], arith}
use Rattle.lnbd_extents.specs.Positions.{holds}
use Rattle.lnbd_plan.specs.Plans.{run_slices}
use Rattle.lnbd_plan.specs.Walks.{IsPlace}
use Rattle.lnbd_plan.proofs.CutLaws.{window_step, runs_with, so_on, are_runs_with, kept_with, nothing_more}
use Rattle.lnbd_plan.proofs.CountLaws.{counted_on, counted_room, counted_all, window_at_most}
use Rattle.lnbd_plan.proofs.planning.append_runs.Goals as goal

pub loop-at-preserved : goal.loop-at-preserved
loop-at-preserved c =
    let run = c.run_at-run.result in
    let is = c.run_at-run.ensures.run in
    let keeps = c.args.cells.zeros || not run.zero in
    let some = is.some in
    let within = is.within in
    let begins = is.begins in
    record {
      within = is.within;
      placed = λ lt. let next = c.run_at-run.ensures.behind lt in
          subst (λ (n : ℕ). IsPlace c.args.zero.now (c.loop-at.at + run.length) n) (sym (c.place_behind-place.ensures next.bounded)) next;
      so_far = so_on _ _ (cond keeps (run_slices c.args.cells run) []) _ _ _
          (runs_with c.args.cells keeps c.loop-at.runs.items c.append_run.new.runs.items run c.in_ok-count.ensures.ok)
          (window_step c.args.cells (holds c.args.zero.now) c.loop-at.at c.args.end run is) c.loop-at.invariant.so_far;
      counted = counted_on _ _ _ _ (cond keeps (run_slices c.args.cells run) []) _ c.loop-at.invariant.counted c.in_ok-count.ensures.count
          (window_step c.args.cells (holds c.args.zero.now) c.loop-at.at c.args.end run is);
      are_runs = are_runs_with _ keeps c.loop-at.runs.items c.append_run.new.runs.items run is.some (omega arith) c.loop-at.invariant.are_runs c.in_ok-count.ensures.ok;
      kept = kept_with keeps c.args.runs.now.items c.loop-at.runs.items c.append_run.new.runs.items run c.loop-at.invariant.kept c.in_ok-count.ensures.ok;
    }

pub returns-clause-ok : goal.returns-clause-ok
returns-clause-ok c = nothing_more c.args.cells (holds c.args.zero.now) c.loop-at.at (c.args.end - c.loop-at.at) _ _ (omega arith) c.loop-at.invariant.so_far

pub overflow_add-count : goal.overflow_add-count
overflow_add-count c =
    let keeps = c.args.cells.zeros || not c.run_at-run.result.zero in
    let h = counted_room _ _ _ _ (cond keeps (run_slices c.args.cells c.run_at-run.result) []) _ c.loop-at.invariant.counted c.in_ok-count.ensures.count
    (window_step c.args.cells (holds c.args.zero.now) c.loop-at.at c.args.end c.run_at-run.result c.run_at-run.ensures.run) in
    let k = window_at_most c.args.cells (holds c.args.zero.now) c.args.start (c.args.end - c.args.start) in
    omega arith

pub returns-clause-count : goal.returns-clause-count
returns-clause-count c = counted_all c.args.cells (holds c.args.zero.now) c.loop-at.at (c.args.end - c.loop-at.at) c.loop-at.count _ (omega arith) c.loop-at.invariant.counted

pub returns-clause-few : goal.returns-clause-few
returns-clause-few c =
    let k = window_at_most c.args.cells (holds c.args.zero.now) c.args.start (c.args.end - c.args.start) in
    let h = c.loop-at.invariant.counted in
    omega arith
