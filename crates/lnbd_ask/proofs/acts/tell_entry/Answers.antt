use Rattle.std.proofs.Common.{◌∙◌}
use Rattle.lnbd_ask.specs.Lists.{entry_after}
use Rattle.lnbd_ask.proofs.ActLemmas.{entry_is, short, told_of}
use Rattle.lnbd_ask.proofs.acts.tell_entry.Goals as goal

pub returns-in-Ok : goal.returns-in-Ok
returns-in-Ok g c =
    told_of (entry_after c.args.listed.now) c.in-Ok.entry c.args.handles.now c.get-handle.result.now.machine c.get-handle.ensures
    (λ seen stands. c.in-Ok.ensures ∙ entry_is c.args.listed.now _ _ _ _ (c.opt_answer.ensures.told seen.history stands) (c.info.ensures.told seen.history stands))

pub returns-in-Err : goal.returns-in-Err
returns-in-Err g c = short (λ seen. seen) (entry_after c.args.listed.now) c.args.handles.now
