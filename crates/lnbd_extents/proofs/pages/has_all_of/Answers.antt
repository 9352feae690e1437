use Rattle.std.proofs.Common.{◌∙◌, sym}
use Rattle.lnbd_extents.proofs.PageLaws.{page_covers, page_longest}
use Rattle.lnbd_extents.proofs.pages.has_all_of.Goals as goal

pub has_all_in-requires-clause-longest : goal.has_all_in-requires-clause-longest
has_all_in-requires-clause-longest c = page_longest c.page_of-at.result c.args.pages.now c.page_of-at.ensures.within c.requires.longest

pub returns : goal.returns
returns c = c.has_all_in.ensures ∙ sym (page_covers c.args.start c.args.pages.now c.requires.longest c.requires.filled c.page_of-at.result c.page_of-at.ensures.page c.page_of-at.ensures.within c.args.length)
