use Rattle.std.proofs.Common.{ap, ◌∙◌, arith, ℕ, List}
use Rattle.std.proofs.lemmas.List.{take_all}
use Rattle.lnbd_extents.specs.Positions.{holds}
use Rattle.lnbd_export.specs.Spans.{is_told_by}
use Rattle.lnbd_export.proofs.SpanLaws.{range_told}
use Rattle.lnbd_export.proofs.WalkLaws.{range_room}
use Rattle.lnbd_export.proofs.spans.Spans.of.Goals as goal

pub tell-requires : goal.tell-requires
tell-requires c =
    range_room c.args.ranges.now c.loop-index.index c.get-start.result c.are_longest.ensures.within (omega arith) c.get-start.ensures

pub loop-index-preserved : goal.loop-index-preserved
loop-index-preserved c =
    range_told c.args.ranges.now c.loop-index.index c.get-start.result (is_told_by c.loop-index.spans.spans.items) (is_told_by c.tell.new.self.spans.items) c.get-start.ensures (omega arith)
    c.loop-index.invariant c.in_ok-tell.ensures.told

pub returns : goal.returns
returns c = λ p. c.loop-index.invariant p ∙ ap (λ (rs : List (ℕ × ℕ)). holds rs p) (take_all c.loop-index.index c.args.ranges.now (omega arith))
