use Rattle.std.proofs.Common.{sym, ap, ◌∙◌, subst}
use Rattle.lnbd_serve.specs.declared.guest.Doing.{Doing}
use Rattle.lnbd_serve.specs.declared.guest.Guest.{Guest}
use Rattle.lnbd_serve.specs.Steps.{Attended, Went}
use Rattle.lnbd_serve.proofs.TurnLemmas.{attended_none, attended_replied, attended_some, replying_breaks, rests_here, attended_breaks, going_breaks, may_read, stays_open}
use Rattle.lnbd_serve.proofs.guest.Guest.attend.Goals as goal

pub returns-in-Ok-false-clause-ok : goal.returns-in-Ok-false-clause-ok
returns-in-Ok-false-clause-ok g c =
    let may = may_read _ _ c.in-Ok.moved c.args.self.now c.flush.new.self c.requires.rests (c.is_asked.ensures.no c.if-is_asked.false) (sym c.if-is_closed.ensures) c.in-Ok.ensures.ok in
    subst (λ (did : Doing). Went (g.W.Wires.told c.args.wires.now) (g.W.Wires.told c.read.new.wires) (λ calls. Attended did c.args.self.now c.args.export.now calls c.read.new.self c.read.new.export)) (sym c.of-in-Ok-false.ensures)
    (attended_none _ _ _ c.in-Ok.moved c.in-Ok-false.field-0 c.args.self.now c.flush.new.self _ c.args.export.now _ may c.in-Ok-false.field-0-test c.in-Ok.ensures.ok c.in-Ok-false.ensures.ok)

pub returns-in-Ok-go_on-clause-ok : goal.returns-in-Ok-go_on-clause-ok
returns-in-Ok-go_on-clause-ok g c =
    let may = may_read _ _ c.in-Ok.moved c.args.self.now c.flush.new.self c.requires.rests (c.is_asked.ensures.no c.if-is_asked.false) (sym c.if-is_closed.ensures) c.in-Ok.ensures.ok in
    attended_some _ _ _ _ c.in-Ok.moved c.in-Ok-true.field-0 c.args.self.now c.flush.new.self c.read.new.self _ c.args.export.now _ (stays_open c.flush.new.self may) c.in-Ok-true.field-0-test c.in-Ok.ensures.ok c.in-Ok-true.ensures.ok c.in-Ok-go_on.ensures.ok

pub returns-in-Err-go_on-clause-err : goal.returns-in-Err-go_on-clause-err
returns-in-Err-go_on-clause-err g c =
    let may = may_read _ _ c.in-Ok.moved c.args.self.now c.flush.new.self c.requires.rests (c.is_asked.ensures.no c.if-is_asked.false) (sym c.if-is_closed.ensures) c.in-Ok.ensures.ok in
    going_breaks _ _ _ _ c.in-Ok.moved c.in-Ok-true.field-0 c.args.self.now c.flush.new.self c.read.new.self _ c.args.export.now _ _ (stays_open c.flush.new.self may) c.in-Ok.ensures.ok c.in-Ok-true.ensures.ok c.in-Err-go_on.ensures.err

pub returns-in-Err-read-clause-err : goal.returns-in-Err-read-clause-err
returns-in-Err-read-clause-err g c = attended_breaks _ _ _ c.in-Ok.moved c.args.self.now c.flush.new.self _ c.args.export.now _ _ c.in-Ok.ensures.ok c.in-Err-read.ensures.err

pub reply_once-requires-clause-here : goal.reply_once-requires-clause-here
reply_once-requires-clause-here g c = ap (λ (guest : Guest). guest.gone) c.in-Ok.ensures.ok.leads.writes.same ∙ rests_here c.args.self.now c.requires.rests

pub returns-in-Ok-reply_once-clause-ok : goal.returns-in-Ok-reply_once-clause-ok
returns-in-Ok-reply_once-clause-ok g c = attended_replied _ _ _ c.in-Ok.moved c.args.self.now c.flush.new.self _ c.args.export.now c.in-Ok.ensures.ok c.in-Ok-reply_once.ensures.ok

pub returns-in-Err-reply_once-clause-err : goal.returns-in-Err-reply_once-clause-err
returns-in-Err-reply_once-clause-err g c = replying_breaks _ _ _ c.in-Ok.moved c.args.self.now c.flush.new.self _ c.args.export.now _ c.in-Ok.ensures.ok c.in-Err-reply_once.ensures.err
