use Rattle.std.proofs.Common.{arith, ◌≤◌, ℕ, length, take, sym, subst, ◌∙◌}
use Rattle.std.specs.Prelude.{IfOk}
use Rattle.lnbd_touched.specs.Grown.{RoseBy}
use Rattle.lnbd_touched.proofs.GrownLemmas.{done_as, err_as, grew_both, ok_as}
use Rattle.lnbd_copyfile.specs.declared.fault.Stop.{Stop}
use Rattle.lnbd_copyfile.specs.Calls.{Breaks, Moves}
use Rattle.lnbd_copyfile.specs.Steps.{AreCounted}
use Rattle.lnbd_copyfile.specs.Zeros.{is_zero_at}
use Rattle.lnbd_copyfile.proofs.AnswerLemmas.{done, done_with, never_changed}
use Rattle.lnbd_copyfile.proofs.CountLemmas.{all_written, counted_few, slice_few}
use Rattle.lnbd_copyfile.proofs.CallLemmas.{breaks_behind, moves_on}
use Rattle.lnbd_copyfile.proofs.FillLemmas.{front_size}
use Rattle.lnbd_copyfile.proofs.ShelfLemmas.{slice_moves, source_lacks}
use Rattle.lnbd_copyfile.proofs.filling.move_slice.Goals as goal

pub returns-in-Ok-clause-moved : goal.returns-in-Ok-clause-moved
returns-in-Ok-clause-moved g c =
    let way = c.args.way in
    let part = take c.args.count c.read_slice.new.buffer in
    let size = front_size c.args.count c.args.buffer.now c.read_slice.new.buffer c.in-Ok.ensures.same c.requires.room in
    let all = λ (n : ℕ) (counted : AreCounted (is_zero_at way.block c.args.offset part) n c.args.offset (length part)).
    subst (λ (k : ℕ). AreCounted (is_zero_at way.block c.args.offset part) n c.args.offset k) size counted in
    done_with c.settle.result _ _ _ (λ n fills counted. slice_moves way.cell way.block way.from c.args.to way.size c.args.offset c.args.count n part _ _ _
    c.requires.cell size c.requires.fits c.requires.slice (all n counted) c.in-Ok.ensures.tells fills) c.settle.ensures.fills c.settle.ensures.count

pub returns-in-Ok-clause-moves : goal.returns-in-Ok-clause-moves
returns-in-Ok-clause-moves g c =
    let way = c.args.way in
    let here = Moves way.cell way.size way.from c.args.to in
    let size = front_size c.args.count c.args.buffer.now c.read_slice.new.buffer c.in-Ok.ensures.same c.requires.room in
    let least = slice_few way.cell way.size c.args.offset c.args.count c.requires.slice in
    let short : length (take c.args.count c.read_slice.new.buffer) ≤ way.cell = omega (arith, size, least) in
    done_as c.settle.result _ _ (λ more. grew_both _ _ _ here here here (λ xs ys p q. moves_on way.cell way.size way.from c.args.to xs ys p q)
    (c.in-Ok.ensures.moves way.cell c.args.to c.requires.slice) (more way.cell way.size way.from short)) c.settle.ensures.moves

pub returns-in-Ok-clause-breaks : goal.returns-in-Ok-clause-breaks
returns-in-Ok-clause-breaks g c =
    let way = c.args.way in
    let size = front_size c.args.count c.args.buffer.now c.read_slice.new.buffer c.in-Ok.ensures.same c.requires.room in
    let least = slice_few way.cell way.size c.args.offset c.args.count c.requires.slice in
    let short : length (take c.args.count c.read_slice.new.buffer) ≤ way.cell = omega (arith, size, least) in
    let broken = λ (why : Stop). Breaks way.cell way.size way.from c.args.to why in
    err_as c.settle.result _ _ (λ why broke. grew_both _ _ _ (Moves way.cell way.size way.from c.args.to) (broken why) (broken why)
    (λ xs ys p q. breaks_behind way.cell way.size way.from c.args.to why xs ys p q) (c.in-Ok.ensures.moves way.cell c.args.to c.requires.slice)
    (broke way.cell way.size way.from short)) c.settle.ensures.breaks

pub returns-in-Err-clause-breaks : goal.returns-in-Err-clause-breaks
returns-in-Err-clause-breaks g c = c.in-Err.ensures.breaks c.args.way.cell c.args.to c.requires.slice

pub returns-in-Ok-clause-few : goal.returns-in-Ok-clause-few
returns-in-Ok-clause-few g c =
    let size = front_size c.args.count c.args.buffer.now c.read_slice.new.buffer c.in-Ok.ensures.same c.requires.room in
    ok_as c.settle.result _ _ (λ n counted. let k = counted_few _ n _ _ counted in omega (arith, k, size)) c.settle.ensures.count

pub returns-in-Ok-clause-all : goal.returns-in-Ok-clause-all
returns-in-Ok-clause-all g c = λ none.
    let size = front_size c.args.count c.args.buffer.now c.read_slice.new.buffer c.in-Ok.ensures.same c.requires.room in
    ok_as c.settle.result _ _ (λ n counted. all_written c.args.way.block _ _ n _ _ none counted ∙ size) c.settle.ensures.count

pub returns-in-Ok-clause-short : goal.returns-in-Ok-clause-short
returns-in-Ok-clause-short g c = never_changed c.settle.result _ c.settle.ensures.unchanged

pub returns-in-Err-clause-short : goal.returns-in-Err-clause-short
returns-in-Err-clause-short g c = λ is. source_lacks c.args.way.from c.args.to c.args.way.size _ _ (c.in-Err.ensures.short is)

pub returns-in-Ok-clause-given : goal.returns-in-Ok-clause-given
returns-in-Ok-clause-given g c = done c.settle.result _ (subst (λ (v : ℕ). RoseBy c.args.count (g.S.Store.given c.args.store.now) v) (sym c.settle.ensures.given) c.in-Ok.ensures.given)

pub returns-in-Ok-clause-failed : goal.returns-in-Ok-clause-failed
returns-in-Ok-clause-failed g c = λ e. let r = c.settle.ensures.failed e in let l = c.in-Ok.ensures.later in omega (arith, r, l)

pub returns-in-Ok-clause-taken : goal.returns-in-Ok-clause-taken
returns-in-Ok-clause-taken g c = subst (λ (v : ℕ). IfOk c.settle.result (λ n. RoseBy n v (g.S.Store.taken c.settle.new.store))) c.in-Ok.ensures.taken c.settle.ensures.taken
