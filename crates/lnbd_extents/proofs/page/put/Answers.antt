use Rattle.std.proofs.Common.{◌+◌, ◌^◌, arith}
use Rattle.std.proofs.lemmas.Grind.{common_steps}
use Rattle.lnbd_extents.specs.Ranges.{AreUpTo}
use Rattle.lnbd_extents.proofs.SpotLaws.{up_to_at}
use Rattle.lnbd_extents.proofs.page.put.Goals as goal

pub overflow_add-length : goal.overflow_add-length
overflow_add-length c =
    let w : AreUpTo (2 ^ 63) c.deref.result.now = rw c.deref.ensures.value c.requires.within in
    let b = up_to_at (2 ^ 63) c.in-Before.at c.deref.result.now w c.in-Before.ensures.1 in
    let e = c.in-Before.ensures.3 in
    grind (arith, common_steps)

pub overflow_add-length-in-Between : goal.overflow_add-length-in-Between
overflow_add-length-in-Between c =
    let w : AreUpTo (2 ^ 63) c.deref.result.now = rw c.deref.ensures.value c.requires.within in
    let b = up_to_at (2 ^ 63) (c.in-Between.at + 1) c.deref.result.now w c.in-Between.ensures.1 in
    let e = c.in-Between.ensures.4 in
    grind (arith, common_steps)

pub overflow_add-index_mut-in-Between : goal.overflow_add-index_mut-in-Between
overflow_add-index_mut-in-Between c =
    let w : AreUpTo (2 ^ 63) c.deref.result.now = rw c.deref.ensures.value c.requires.within in
    let b = up_to_at (2 ^ 63) (c.in-Between.at + 1) c.deref.result.now w c.in-Between.ensures.1 in
    let e = c.in-Between.ensures.4 in
    let d = c.in-Between.ensures.3 in
    grind (arith, common_steps)
