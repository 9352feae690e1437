use Rattle.std.proofs.Common.{◌≡◌, ℕ, ◌-◌, ap, ◌∙◌, arith, if◌then◌else◌}
use Rattle.lnbd_extents.specs.Positions.{within}
use Rattle.lnbd_export.specs.Spans.{tells_at}
use Rattle.lnbd_export.proofs.spans.cover.Goals as goal

pub returns : goal.returns
returns c = λ k p.
    let all : c.loop-index.index - c.args.from ≡ c.args.until - c.args.from = omega arith in
    c.loop-index.invariant.told k p ∙ ap (λ (n : ℕ). if within (c.args.from, n) k then c.args.zero else tells_at c.args.spans.now.items k p) all
