use Rattle.std.proofs.Common.{◌^◌, refl}
use Rattle.lnbd_extents.specs.Pages.{ranges_of}
use Rattle.lnbd_extents.proofs.CutLaws.{left_ranges}
use Rattle.lnbd_extents.proofs.ranges.holding.Goals as goal

pub add_to-requires-clause-longest : goal.add_to-requires-clause-longest
add_to-requires-clause-longest c =
    let kept = left_ranges (2 ^ 63) c.args.start c.args.length (ranges_of c.args.pages.now) (ranges_of c.args.pages.now) (ranges_of c.in_ok-kept.kept.items)
    refl c.in_ok-kept.ensures.ranges c.requires.some c.requires.longest c.requires.within in kept.0

pub add_to-requires-clause-within : goal.add_to-requires-clause-within
add_to-requires-clause-within c =
    let kept = left_ranges (2 ^ 63) c.args.start c.args.length (ranges_of c.args.pages.now) (ranges_of c.args.pages.now) (ranges_of c.in_ok-kept.kept.items)
    refl c.in_ok-kept.ensures.ranges c.requires.some c.requires.longest c.requires.within in kept.1
