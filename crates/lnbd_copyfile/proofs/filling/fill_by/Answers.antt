use Rattle.std.proofs.Common.{ℕ, arith, refl, subst}
use Rattle.std.specs.Prelude.{IfOk}
use Rattle.lnbd_touched.specs.Grown.{RoseBy}
use Rattle.lnbd_touched.proofs.GrownLemmas.{done_as, err_as, grew_as, grew_both, ok_as}
use Rattle.lnbd_copyfile.specs.declared.fault.Stop.TheVariants as stop
use Rattle.lnbd_copyfile.specs.Calls.{HasFilled, HasMoved, IsMaking, NotFilled, NotMade, NotMoved, Unmade}
use Rattle.lnbd_copyfile.proofs.CallLemmas.{filled_then, unfilled_then}
use Rattle.lnbd_copyfile.proofs.ShelfLemmas.{filled_is, short_is}
use Rattle.lnbd_copyfile.proofs.filling.fill_by.Goals as goal

pub returns-in-Ok-clause-filled : goal.returns-in-Ok-clause-filled
returns-in-Ok-clause-filled g c =
    let way = c.args.way in
    ok_as c.transfer.result _ _ (λ n moved. filled_is way.from c.in-Ok.to way.size c.args.path.now way.cell way.block n.written _ _ _ c.in-Ok.ensures.blank moved) c.transfer.ensures.moved

pub returns-in-Ok-clause-calls : goal.returns-in-Ok-clause-calls
returns-in-Ok-clause-calls g c =
    let way = c.args.way in
    let to = c.in-Ok.to in
    done_as c.transfer.result _ _ (λ moves. grew_both _ _ _ (IsMaking c.args.path.now to way.size) (HasMoved way.cell way.size way.from to way.flush)
    (HasFilled way.cell way.size way.from c.args.path.now way.flush)
    (λ xs ys p q. filled_then way.cell way.size way.from to c.args.path.now way.flush xs ys p q) c.in-Ok.ensures.made moves) c.transfer.ensures.moves

pub returns-in-Ok-clause-breaks : goal.returns-in-Ok-clause-breaks
returns-in-Ok-clause-breaks g c =
    let way = c.args.way in
    let to = c.in-Ok.to in
    err_as c.transfer.result _ _
    (λ why broke. grew_both _ _ _ (IsMaking c.args.path.now to way.size) (NotMoved way.cell way.size way.from to way.flush why) (NotFilled way.cell way.size way.from c.args.path.now way.flush why)
    (λ xs ys p q. unfilled_then way.cell way.size way.from to c.args.path.now way.flush why xs ys p q) c.in-Ok.ensures.made broke) c.transfer.ensures.breaks

pub returns-in-Ok-clause-short : goal.returns-in-Ok-clause-short
returns-in-Ok-clause-short g c =
    err_as c.transfer.result _ _ (λ why lacks is. short_is c.args.way.from c.in-Ok.to c.args.way.size c.args.path.now _ _ _ c.in-Ok.ensures.blank (lacks is)) c.transfer.ensures.short

pub returns-in-Err-clause-breaks : goal.returns-in-Err-clause-breaks
returns-in-Err-clause-breaks g c =
    grew_as _ _ (NotMade c.args.path.now c.args.way.size) (NotFilled c.args.way.cell c.args.way.size c.args.way.from c.args.path.now c.args.way.flush stop.Failed)
    (λ calls made. Unmade made refl) c.in-Err.ensures.unmade

pub returns-in-Ok-clause-given : goal.returns-in-Ok-clause-given
returns-in-Ok-clause-given g c = subst (λ (v : ℕ). IfOk c.transfer.result (λ n. RoseBy n.read v (g.S.Store.given c.transfer.new.store))) c.in-Ok.ensures.given c.transfer.ensures.given

pub returns-in-Ok-clause-taken : goal.returns-in-Ok-clause-taken
returns-in-Ok-clause-taken g c = subst (λ (v : ℕ). IfOk c.transfer.result (λ n. RoseBy n.written v (g.S.Store.taken c.transfer.new.store))) c.in-Ok.ensures.taken c.transfer.ensures.taken

pub returns-in-Ok-clause-failed : goal.returns-in-Ok-clause-failed
returns-in-Ok-clause-failed g c = λ e. let r = c.transfer.ensures.failed e in let l = c.in-Ok.ensures.later in omega (arith, r, l)
