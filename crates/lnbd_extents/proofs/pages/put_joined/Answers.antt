use Rattle.std.proofs.Common.{◌∙◌, ◌^◌, ap, take, arith}
use Rattle.std.proofs.lemmas.List.{take-set}
use Rattle.std.proofs.lemmas.Grind.{common_steps}
use Rattle.lnbd_extents.proofs.PageLaws.{page_longest, page_up_to, joined_room, take_shorter}
use Rattle.lnbd_extents.proofs.pages.put_joined.Goals as goal

pub overflow_add-count : goal.overflow_add-count
overflow_add-count c =
    let k = joined_room c.args.start c.args.pages.now.items c.requires.longest c.requires.filled c.args.at c.requires.page c.requires.inside c.args.count c.requires.next c.requires.within in
    let e = c.first_length-more.ensures in
    grind (arith, common_steps)

pub put_at-requires-clause-longest : goal.put_at-requires-clause-longest
put_at-requires-clause-longest c = page_longest c.args.at c.args.pages.now.items c.requires.inside c.requires.longest

pub put_at-requires-clause-within : goal.put_at-requires-clause-within
put_at-requires-clause-within c = page_up_to (2 ^ 63) c.args.at c.args.pages.now.items c.requires.inside c.requires.within

pub put_at-requires-clause-room : goal.put_at-requires-clause-room
put_at-requires-clause-room c =
    let k = joined_room c.args.start c.args.pages.now.items c.requires.longest c.requires.filled c.args.at c.requires.page c.requires.inside c.args.count c.requires.next c.requires.within in
    let e = c.first_length-more.ensures in
    grind (arith, common_steps)

pub returns-clause-front : goal.returns-clause-front
returns-clause-front c = c.cut.ensures.front ∙ take_shorter c.args.at _ _ c.remove_first.ensures.front ∙ ap (take c.args.at) c.in_ok-put_at.ensures.ok ∙ take-set _ _ _
