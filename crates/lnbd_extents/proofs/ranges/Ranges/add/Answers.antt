use Rattle.std.proofs.Common.{◌<◌, ◌^◌, arith}
use Rattle.lnbd_extents.specs.Pages.{ranges_of}
use Rattle.lnbd_extents.proofs.PutLaws.{put_keeps, put_holds}
use Rattle.lnbd_extents.proofs.PositionLaws.{meets-positions}
use Rattle.lnbd_extents.proofs.ranges.Ranges.add.Goals as goal

pub invariant_of-self : goal.invariant_of-self
invariant_of-self c = let h : 0 < c.args.length = omega arith in
    let k = put_keeps c.add_to.result (2 ^ 63) c.args.start c.args.length (ranges_of c.self.inside.pages.items) (ranges_of c.add_to.new.pages.items)
    c.add_to.ensures.ok c.add_to.ensures.apart c.add_to.ensures.err c.self.invariant.0 c.self.invariant.1 h c.requires in
    (k.0, k.1, c.add_to.ensures.filled, c.add_to.ensures.full)

pub returns-clause-held : goal.returns-clause-held
returns-clause-held c = rw (← c.self.view_is) (put_holds c.add_to.result c.args.start c.args.length (ranges_of c.self.inside.pages.items) (ranges_of c.add_to.new.pages.items) c.add_to.ensures.ok)

pub returns-clause-overlap : goal.returns-clause-overlap
returns-clause-overlap c = let h : 0 < c.args.length = omega arith in
    rw (← c.self.view_is, meets-positions 0 c.args.start c.args.length (ranges_of c.self.inside.pages.items) c.self.invariant.0 h) c.add_to.ensures.overlap
