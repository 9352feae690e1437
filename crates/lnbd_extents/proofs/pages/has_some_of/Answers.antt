use Rattle.std.proofs.Common.{◌∙◌, sym}
use Rattle.lnbd_extents.proofs.PageLaws.{page_meets_next, page_meets_touching, page_meets_apart, page_longest}
use Rattle.lnbd_extents.proofs.pages.has_some_of.Goals as goal

pub has_some_in-requires-clause-longest : goal.has_some_in-requires-clause-longest
has_some_in-requires-clause-longest c = page_longest c.page_of-at.result c.args.pages.now c.page_of-at.ensures.within c.requires.longest

pub has_some_in-requires-in-Apart-clause-longest : goal.has_some_in-requires-in-Apart-clause-longest
has_some_in-requires-in-Apart-clause-longest c = page_longest c.page_of-at.result c.args.pages.now c.page_of-at.ensures.within c.requires.longest

pub returns-in-Meets : goal.returns-in-Meets
returns-in-Meets c = sym (page_meets_next c.args.start c.args.pages.now c.requires.longest c.requires.filled c.page_of-at.result c.page_of-at.ensures.page c.page_of-at.ensures.within c.args.length c.in-Meets.ensures)

pub returns-in-Joins : goal.returns-in-Joins
returns-in-Joins c =
    c.has_some_in.ensures ∙ sym (page_meets_touching c.args.start c.args.pages.now c.requires.longest c.requires.filled c.page_of-at.result c.page_of-at.ensures.page c.page_of-at.ensures.within c.args.length c.in-Joins.ensures)

pub returns-in-Apart : goal.returns-in-Apart
returns-in-Apart c =
    c.has_some_in-in-Apart.ensures ∙ sym (page_meets_apart c.args.start c.args.pages.now c.requires.longest c.requires.filled c.page_of-at.result c.page_of-at.ensures.page c.page_of-at.ensures.within c.args.length c.in-Apart.ensures)
