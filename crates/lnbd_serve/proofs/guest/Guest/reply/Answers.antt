use Rattle.std.proofs.Common.{ap, ◌∙◌}
use Rattle.lnbd_serve.specs.declared.guest.Guest.{Guest}
use Rattle.lnbd_serve.proofs.TurnLemmas.{flush_breaks, replied_none, replied_on, replying_breaks}
use Rattle.lnbd_serve.proofs.guest.Guest.reply.Goals as goal

pub returns-then-not-is_asked-clause-ok : goal.returns-then-not-is_asked-clause-ok
returns-then-not-is_asked-clause-ok g c = replied_none _ _ _ c.args.self.now _ c.args.export.now c.in-Ok.ensures.ok

pub reply_once-requires-clause-here : goal.reply_once-requires-clause-here
reply_once-requires-clause-here g c = ap (λ (guest : Guest). guest.gone) c.in-Ok.ensures.ok.leads.writes.same ∙ c.requires

pub returns-in-Ok-reply_once-clause-ok : goal.returns-in-Ok-reply_once-clause-ok
returns-in-Ok-reply_once-clause-ok g c = replied_on _ _ _ _ c.args.self.now _ _ c.args.export.now c.in-Ok.ensures.ok c.in-Ok-reply_once.ensures.ok

pub returns-in-Err-reply_once-clause-err : goal.returns-in-Err-reply_once-clause-err
returns-in-Err-reply_once-clause-err g c = replying_breaks _ _ _ _ c.args.self.now _ _ c.args.export.now _ c.in-Ok.ensures.ok c.in-Err-reply_once.ensures.err

pub returns-in-Err-clause-err : goal.returns-in-Err-clause-err
returns-in-Err-clause-err g c = flush_breaks _ _ c.args.self.now _ c.args.export.now _ c.in-Err.ensures.err
