use Rattle.std.proofs.Common.{◌-◌, arith, subst, sym, ◌∙◌, ap, min, true, false, ℕ}
use Rattle.lnbd_extents.specs.Positions.{holds}
use Rattle.lnbd_export.specs.declared.statuses.Run.{Run}
use Rattle.lnbd_export.specs.Walks.{IsRun}
use Rattle.lnbd_export.proofs.WalkLaws.{IsPlace, run_of, zero_run, data_run, start_some}
use Rattle.lnbd_export.proofs.statuses.run_of_ranges.Goals as goal

pub returns-then-at-until : goal.returns-then-at-until
returns-then-at-until c =
    let place : IsPlace c.args.zeros.now c.args.at c.place-place.result = record { from = c.are_longest.ensures.longest; within_list = c.place-place.ensures.within; before = c.place-place.ensures.before; behind = c.place-place.ensures.behind } in
    let until = c.end_before-until.ensures in
    let same = c.made_run.ensures ∙ ap (λ (n : ℕ). run_of (n - c.args.at) true) (c.min.ensures ∙ ap (λ (n : ℕ). min n c.args.end) until) in
    subst (λ (r : Run). IsRun (holds c.args.zeros.now) c.args.at c.args.end r) (sym same)
    (zero_run c.args.zeros.now c.args.at c.args.end c.place-place.result place c.requires.some (omega arith))

pub made_run-requires-2 : goal.made_run-requires-2
made_run-requires-2 c =
    let place : IsPlace c.args.zeros.now c.args.at c.place-place.result = record { from = c.are_longest.ensures.longest; within_list = c.place-place.ensures.within; before = c.place-place.ensures.before; behind = c.place-place.ensures.behind } in
    let size = start_some c.args.zeros.now c.args.at c.place-place.result c.args.end place c.requires.some in
    let low = size.0 in
    let start = c.start_from.ensures in
    omega arith

pub returns : goal.returns
returns c =
    let place : IsPlace c.args.zeros.now c.args.at c.place-place.result = record { from = c.are_longest.ensures.longest; within_list = c.place-place.ensures.within; before = c.place-place.ensures.before; behind = c.place-place.ensures.behind } in
    let same = c.made_run-2.ensures ∙ ap (λ (n : ℕ). run_of (n - c.args.at) false) c.start_from.ensures in
    let until = c.end_before-until.ensures in
    subst (λ (r : Run). IsRun (holds c.args.zeros.now) c.args.at c.args.end r) (sym same)
    (data_run c.args.zeros.now c.args.at c.args.end c.place-place.result place c.requires.some (omega arith))
