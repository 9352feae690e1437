use Rattle.std.proofs.Common.{◌++◌, List, ◌∙◌, ap, arith}
use Rattle.lnbd_plan.specs.declared.grid.Slice.{Slice}
use Rattle.lnbd_plan.specs.Plans.{runs_slices}
use Rattle.lnbd_plan.proofs.CutLaws.{none_first, no_runs, runs_cons, none_but_first}
use Rattle.lnbd_plan.proofs.planning.take_first.Goals as goal

pub returns-in-None-clause-none : goal.returns-in-None-clause-none
returns-in-None-clause-none c =
    none_first c.args.cells c.args.first.now (runs_slices c.args.cells c.args.runs.now.items) (omega arith)
    ∙ no_runs c.args.cells c.args.runs.now.items (none_but_first c.args.runs.now.items (c.in-None.ensures.items ∙ c.in-None.ensures.rest))

pub returns-in-Some-clause-slices : goal.returns-in-Some-clause-slices
returns-in-Some-clause-slices c =
    none_first c.args.cells c.args.first.now (runs_slices c.args.cells c.args.runs.now.items) (omega arith)
    ∙ runs_cons c.args.cells c.args.runs.now.items c.in-Some.run' c.pop_front.new.self.items c.in-Some.ensures.items
    ∙ ap (λ (l : List Slice). l ++ runs_slices c.args.cells c.pop_front.new.self.items) c.cut_first-in-Some.ensures.slices
