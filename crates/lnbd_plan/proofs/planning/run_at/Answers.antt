use Rattle.std.proofs.Common.{◌+◌, ◌-◌, ◌<◌, arith, subst, sym, ◌∙◌, ap, min, true, false, ℕ}
use Rattle.lnbd_extents.specs.Positions.{holds}
use Rattle.lnbd_plan.specs.declared.grid.Slice.{Slice}
use Rattle.lnbd_plan.specs.Slices.{slice}
use Rattle.lnbd_plan.specs.Plans.{IsAlikeRun}
use Rattle.lnbd_plan.specs.Walks.{place_behind, IsPlace}
use Rattle.lnbd_plan.proofs.WalkLaws.{zero_run, data_run, start_some, place_behind_zero, place_behind_data}
use Rattle.lnbd_plan.proofs.planning.run_at.Goals as goal

pub returns-then-at-until-clause-run : goal.returns-then-at-until-clause-run
returns-then-at-until-clause-run c =
    let until = c.end_before-until.ensures in
    let same = c.run.ensures ∙ ap (λ (n : ℕ). slice c.args.at (n - c.args.at) true) (c.min.ensures ∙ ap (λ (n : ℕ). min n c.args.end) until) in
    subst (λ (r : Slice). IsAlikeRun (holds c.args.zero.now) c.args.at c.args.end r) (sym same)
    (zero_run c.args.zero.now c.args.at c.args.end c.args.place c.requires.place c.requires.some (omega arith))

pub returns-then-at-until-clause-behind : goal.returns-then-at-until-clause-behind
returns-then-at-until-clause-behind c =
    let until = c.end_before-until.ensures in
    let same = c.run.ensures ∙ ap (λ (n : ℕ). slice c.args.at (n - c.args.at) true) (c.min.ensures ∙ ap (λ (n : ℕ). min n c.args.end) until) in
    subst (λ (r : Slice). c.args.at + r.length < c.args.end → IsPlace c.args.zero.now (c.args.at + r.length) (place_behind r.zero c.args.place)) (sym same)
    (place_behind_zero c.args.zero.now c.args.at c.args.end c.args.place c.requires.place (omega arith))

pub run-requires-2 : goal.run-requires-2
run-requires-2 c =
    let size = start_some c.args.zero.now c.args.at c.args.place c.args.end c.requires.place c.requires.some in
    let low = size.0 in
    let start = c.start_from.ensures in
    omega arith

pub returns-clause-run : goal.returns-clause-run
returns-clause-run c =
    let same = c.run-2.ensures ∙ ap (λ (n : ℕ). slice c.args.at (n - c.args.at) false) c.start_from.ensures in
    let until = c.end_before-until.ensures in
    subst (λ (r : Slice). IsAlikeRun (holds c.args.zero.now) c.args.at c.args.end r) (sym same)
    (data_run c.args.zero.now c.args.at c.args.end c.args.place c.requires.place c.requires.some (omega arith))

pub returns-clause-behind : goal.returns-clause-behind
returns-clause-behind c =
    let same = c.run-2.ensures ∙ ap (λ (n : ℕ). slice c.args.at (n - c.args.at) false) c.start_from.ensures in
    subst (λ (r : Slice). c.args.at + r.length < c.args.end → IsPlace c.args.zero.now (c.args.at + r.length) (place_behind r.zero c.args.place)) (sym same)
    (place_behind_data c.args.zero.now c.args.at c.args.end c.args.place c.requires.place c.requires.some)
