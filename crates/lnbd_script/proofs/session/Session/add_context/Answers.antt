use Rattle.std.proofs.Common.{subst}
use Rattle.lnbd_handle.specs.Settings.{RefusesContext}
use Rattle.lnbd_handle.specs.declared.kinds.SetFault.{SetFault}
use Rattle.lnbd_script.proofs.LineLemmas.{context_added, context_refused, context_too_many}
use Rattle.lnbd_script.proofs.session.Session.add_context.Goals as goal

pub returns-in-Ok-clause-ok : goal.returns-in-Ok-clause-ok
returns-in-Ok-clause-ok c seen at = context_added seen c.args.self.now c.add_meta_context.new.self c.args.name.now c.in_ok-name.name at c.in_ok-name.ensures c.in-Ok.ensures.allowed c.in-Ok.ensures.ok

pub returns-in-Err-State-clause-ok : goal.returns-in-Err-State-clause-ok
returns-in-Err-State-clause-ok c seen at =
    let r = subst (λ (f : SetFault). RefusesContext c.args.self.now.handle.machine.known f) c.in-Err-State.field-0-is c.in-Err-State.ensures.refused in
    context_refused seen c.args.self.now c.add_meta_context.new.self c.args.name.now c.in-Err-State.state at r.0 r.1 c.in-Err-State.ensures.err

pub returns-in-Err-TooMany-clause-ok : goal.returns-in-Err-TooMany-clause-ok
returns-in-Err-TooMany-clause-ok c seen at =
    let r = subst (λ (f : SetFault). RefusesContext c.args.self.now.handle.machine.known f) c.in-Err-TooMany.field-0-is c.in-Err-TooMany.ensures.refused in
    context_too_many seen c.args.self.now c.add_meta_context.new.self c.args.name.now c.in-Err-TooMany.most at r.0 r.1 r.2 c.in-Err-TooMany.ensures.err
