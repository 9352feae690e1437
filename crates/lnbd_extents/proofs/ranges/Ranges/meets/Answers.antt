use Rattle.std.proofs.Common.{◌<◌, sym, ◌∙◌, arith}
use Rattle.lnbd_extents.specs.Pages.{ranges_of}
use Rattle.lnbd_extents.proofs.PositionLaws.{meets-positions}
use Rattle.lnbd_extents.proofs.ranges.Ranges.meets.Goals as goal

pub returns-then-length-gt0 : goal.returns-then-length-gt0
returns-then-length-gt0 c = let h : 0 < c.args.length = omega arith in
    rw (← c.self.view_is) (c.has_some_of.ensures ∙ rw c.deref.ensures.value (sym (meets-positions 0 c.args.start c.args.length (ranges_of c.self.inside.pages.items) c.self.invariant.0 h)))
