use Rattle.std.proofs.Common.{false, List, ◌∙◌, ap, refl, subst, sym, arith, length}
use Rattle.lnbd_plan.specs.declared.grid.Slice.{Slice}
use Rattle.lnbd_plan.specs.declared.cells.Cells.{Cells}
use Rattle.lnbd_plan.specs.Slices.{slice}
use Rattle.lnbd_plan.specs.Plans.{Planned, runs_slices, AreRuns}
use Rattle.lnbd_plan.proofs.CutLaws.{none_first, no_runs}
use Rattle.lnbd_plan.proofs.planning.Plan.new.Goals as goal

pub returns : goal.returns
returns c =
    let cells : Cells = record { cell = c.args.cell; zero_cell = c.args.zero_cell; zeros = c.args.zeros } in
    let at : List Slice → Planned = λ l. record { end = 0; slices = l; cells = cells } in
    ap at (none_first cells (slice 0 0 false) (runs_slices cells c.new.result.items) refl ∙ no_runs cells c.new.result.items c.new.ensures.items)

pub invariant_of-result : goal.invariant_of-result
invariant_of-result c =
    let cells : Cells = record { cell = c.args.cell; zero_cell = c.args.zero_cell; zeros = c.args.zeros } in
    let none = none_first cells (slice 0 0 false) (runs_slices cells c.new.result.items) refl ∙ no_runs cells c.new.result.items c.new.ensures.items in (
      (c.requires.cell, c.requires.zero_cell),
      omega arith,
      subst (λ (l : List Slice). AreRuns 9223372036854775808 l) (sym c.new.ensures.items) tt,
      ap (λ (l : List Slice). length l) (sym none),
      omega arith,
      omega arith,
    )
