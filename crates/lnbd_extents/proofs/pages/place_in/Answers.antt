use Rattle.std.proofs.Common.{arith}
use Rattle.lnbd_extents.proofs.PageLaws.{page_place, page_longest}
use Rattle.lnbd_extents.proofs.CountLaws.{page_le}
use Rattle.lnbd_extents.proofs.pages.place_in.Goals as goal

pub place_at-requires-clause-longest : goal.place_at-requires-clause-longest
place_at-requires-clause-longest c = page_longest c.page_of-at.result c.args.pages.now c.page_of-at.ensures.within c.requires.longest

pub overflow_add-result : goal.overflow_add-result
overflow_add-result c =
    let k = page_le c.page_of-at.result c.args.pages.now c.page_of-at.ensures.within in
    let a = c.count_before-before.ensures in
    let b = c.place_at.ensures.within in
    let room = c.requires.room in
    omega arith

pub returns : goal.returns
returns c =
    let p = page_place c.args.position c.args.pages.now c.requires.longest c.requires.filled c.page_of-at.result c.page_of-at.ensures.page c.page_of-at.ensures.within in
    let a = c.count_before-before.ensures in
    let b = c.place_at.ensures.place in
    omega arith
