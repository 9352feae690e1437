use Rattle.std.proofs.Common.{◌<◌, sym, ◌∙◌, arith}
use Rattle.lnbd_extents.specs.Pages.{ranges_of}
use Rattle.lnbd_extents.proofs.PositionLaws.{covers-positions}
use Rattle.lnbd_extents.proofs.ranges.Ranges.covers.Goals as goal

pub returns : goal.returns
returns c = let h : 0 < c.args.length = omega arith in
    rw (← c.self.view_is) (c.has_all_of.ensures ∙ rw c.deref.ensures.value (sym (covers-positions 0 c.args.start c.args.length (ranges_of c.self.inside.pages.items) c.self.invariant.0 h)))
