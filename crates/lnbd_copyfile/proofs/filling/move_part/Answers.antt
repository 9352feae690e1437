use Rattle.std.proofs.Common.{arith, ◌≡◌, ◌+◌, ℕ, sym, subst}
use Rattle.lnbd_touched.specs.Both.{Both}
use Rattle.lnbd_touched.proofs.GrownLemmas.{grew_both}
use Rattle.lnbd_copyfile.specs.Calls.{Breaks, Moves}
use Rattle.lnbd_copyfile.specs.Steps.{IsSlice, Moved}
use Rattle.lnbd_copyfile.proofs.CallLemmas.{breaks_behind, moves_on}
use Rattle.lnbd_copyfile.proofs.CountLemmas.{next_begins, slice_begins}
use Rattle.lnbd_copyfile.proofs.ShelfLemmas.{moves_follow, moves_lack}
use Rattle.lnbd_copyfile.proofs.filling.move_part.Goals as goal

pub returns-then-hole-gt0-clause-moves : goal.returns-then-hole-gt0-clause-moves
returns-then-hole-gt0-clause-moves g c = c.pass_hole-hole.ensures.moves c.args.to

pub returns-in-Ok-clause-ends : goal.returns-in-Ok-clause-ends
returns-in-Ok-clause-ends g c = λ left.
    let way = c.args.way in
    let at = c.args.at in
    let slice = subst (λ (n : ℕ). IsSlice way.cell way.size at n) (sym c.min-count.ensures) (slice_begins way.cell way.size at _ c.requires.begins c.requires.more c.requires.room) in
    next_begins way.cell way.size at c.min-count.result c.requires.cell slice left

pub returns-in-Ok-clause-moved : goal.returns-in-Ok-clause-moved
returns-in-Ok-clause-moved g c =
    let way = c.args.way in
    let at = c.args.at in
    let to = c.args.to in
    let none = c.if-hole-gt0.false in
    let here : at + c.pass_hole-hole.result ≡ at = omega (arith, none) in
    let passed = subst (λ (k : ℕ). Both way.from to (Moved way.cell way.block way.size at k 0) (g.S.Store.shelf c.args.store.now) (g.S.Store.shelf c.pass_hole-hole.new.store)) here
    (c.pass_hole-hole.ensures.moved to) in
    let same : 0 + c.in-Ok.written ≡ c.in-Ok.written = omega arith in
    subst (λ (k : ℕ). Both way.from to (Moved way.cell way.block way.size at (at + c.min-count.result) k) (g.S.Store.shelf c.args.store.now) (g.S.Store.shelf c.move_slice.new.store)) same
    (moves_follow way.cell way.block way.from to way.size at at (at + c.min-count.result) 0 c.in-Ok.written _ _ _ (omega arith) (omega arith) passed c.in-Ok.ensures.moved)

pub returns-in-Ok-clause-moves : goal.returns-in-Ok-clause-moves
returns-in-Ok-clause-moves g c =
    let way = c.args.way in
    let here = Moves way.cell way.size way.from c.args.to in
    grew_both _ _ _ here here here (λ xs ys p q. moves_on way.cell way.size way.from c.args.to xs ys p q) (c.pass_hole-hole.ensures.moves c.args.to) c.in-Ok.ensures.moves

pub returns-in-Err-clause-breaks : goal.returns-in-Err-clause-breaks
returns-in-Err-clause-breaks g c =
    let way = c.args.way in
    let broken = Breaks way.cell way.size way.from c.args.to c.in-Err.why in
    grew_both _ _ _ (Moves way.cell way.size way.from c.args.to) broken broken (λ xs ys p q. breaks_behind way.cell way.size way.from c.args.to c.in-Err.why xs ys p q)
    (c.pass_hole-hole.ensures.moves c.args.to) c.in-Err.ensures.breaks

pub returns-in-Err-clause-short : goal.returns-in-Err-clause-short
returns-in-Err-clause-short g c = λ is.
    moves_lack c.args.way.cell c.args.way.block c.args.way.from c.args.to c.args.way.size c.args.at _ 0 _ _ _ (c.pass_hole-hole.ensures.moved c.args.to) (c.in-Err.ensures.short is)
