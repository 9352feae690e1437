use Rattle.std.proofs.Common.{rules, ◌≡◌, ◌+◌, true, subst}
use Rattle.lnbd_extents.specs.Spots.{meets}
use Rattle.lnbd_extents.specs.Pages.{ranges_of, IsNextPage}
use Rattle.lnbd_extents.specs.declared.places.Side.TheVariants.{Meets}
use Rattle.lnbd_extents.proofs.PageLaws.{page_meets_next}
use Rattle.lnbd_extents.proofs.pages.put.Goals as goal

pub returns-in-Meets-clause-overlap : goal.returns-in-Meets-clause-overlap
returns-in-Meets-clause-overlap c =
    let next : IsNextPage c.args.pages.now.items (c.args.at + 1) (c.args.start + c.args.count) Meets =
    subst (λ ps. IsNextPage ps (c.args.at + 1) (c.args.start + c.args.count) Meets) c.deref.ensures.value c.in-Meets.ensures in
    let met : meets c.args.start c.args.count (ranges_of c.args.pages.now.items) ≡ true =
    page_meets_next c.args.start c.args.pages.now.items c.requires.longest c.requires.filled c.args.at c.requires.page c.requires.inside c.args.count next in
    search rules
