use Rattle.std.proofs.Common.{ℕ, arith, subst, sym}
use Rattle.lnbd_touched.specs.Grown.{RoseBy}
use Rattle.lnbd_touched.proofs.GrownLemmas.{grew_as, grew_both}
use Rattle.lnbd_copyfile.specs.declared.fault.Stop.TheVariants as stop
use Rattle.lnbd_copyfile.specs.Calls.{Breaks, Broke, HasMoved, IsClosing, Moves, NotClosed, NotMoved}
use Rattle.lnbd_copyfile.proofs.CallLemmas.{moved_then, unsynced_then}
use Rattle.lnbd_copyfile.proofs.ShelfLemmas.{moves_kept}
use Rattle.lnbd_copyfile.proofs.filling.transfer.Goals as goal

pub returns-in-Err-clause-breaks : goal.returns-in-Err-clause-breaks
returns-in-Err-clause-breaks g c =
    let way = c.args.way in
    grew_as _ _ (Breaks way.cell way.size way.from c.args.to c.in-Err.why) (NotMoved way.cell way.size way.from c.args.to way.flush c.in-Err.why) (λ calls b. Broke b) c.in-Err.ensures.breaks

pub returns-in-Ok-finish-clause-moved : goal.returns-in-Ok-finish-clause-moved
returns-in-Ok-finish-clause-moved g c =
    moves_kept c.args.way.cell c.args.way.block c.args.way.from c.args.to c.args.way.size 0 c.args.way.size c.in-Ok.amounts.written _ _ _ c.in-Ok.ensures.moved c.in-Ok-finish.ensures.kept

pub returns-in-Ok-finish-clause-moves : goal.returns-in-Ok-finish-clause-moves
returns-in-Ok-finish-clause-moves g c =
    let way = c.args.way in
    grew_both _ _ _ (Moves way.cell way.size way.from c.args.to) (IsClosing c.args.to way.flush) (HasMoved way.cell way.size way.from c.args.to way.flush)
    (λ xs ys p q. moved_then way.cell way.size way.from c.args.to way.flush xs ys p q) c.in-Ok.ensures.moves c.in-Ok-finish.ensures.closed

pub returns-in-Err-finish-clause-breaks : goal.returns-in-Err-finish-clause-breaks
returns-in-Err-finish-clause-breaks g c =
    let way = c.args.way in
    grew_both _ _ _ (Moves way.cell way.size way.from c.args.to) (NotClosed c.args.to way.flush) (NotMoved way.cell way.size way.from c.args.to way.flush stop.Failed)
    (λ xs ys p q. unsynced_then way.cell way.size way.from c.args.to way.flush xs ys p q) c.in-Ok.ensures.moves c.in-Err-finish.ensures.unclosed

pub returns-in-Ok-finish-clause-given : goal.returns-in-Ok-finish-clause-given
returns-in-Ok-finish-clause-given g c = subst (λ (v : ℕ). RoseBy c.in-Ok.amounts.read (g.S.Store.given c.args.store.now) v) (sym c.in-Ok-finish.ensures.given) c.in-Ok.ensures.given

pub returns-in-Ok-finish-clause-taken : goal.returns-in-Ok-finish-clause-taken
returns-in-Ok-finish-clause-taken g c = subst (λ (v : ℕ). RoseBy c.in-Ok.amounts.written (g.S.Store.taken c.args.store.now) v) (sym c.in-Ok-finish.ensures.taken) c.in-Ok.ensures.taken

pub returns-in-Err-finish-clause-failed : goal.returns-in-Err-finish-clause-failed
returns-in-Err-finish-clause-failed g c = λ e. let r = c.in-Err-finish.ensures.failed in let l = c.in-Ok.ensures.later in omega (arith, r, l)
