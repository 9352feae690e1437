use Rattle.std.proofs.Common.{◌^◌}
use Rattle.lnbd_extents.proofs.PageLaws.{page_longest, page_up_to}
use Rattle.lnbd_extents.proofs.pages.put_apart.Goals as goal

pub put_at-requires-clause-longest : goal.put_at-requires-clause-longest
put_at-requires-clause-longest c = page_longest c.args.at c.args.pages.now.items c.requires.inside c.requires.longest

pub put_at-requires-clause-within : goal.put_at-requires-clause-within
put_at-requires-clause-within c = page_up_to (2 ^ 63) c.args.at c.args.pages.now.items c.requires.inside c.requires.within
