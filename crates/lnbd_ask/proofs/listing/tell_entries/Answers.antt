use Rattle.lnbd_ask.proofs.ListLemmas.{told_at, told_failure}
use Rattle.lnbd_waits.proofs.WaitLemmas.{at_handle}
use Rattle.lnbd_ask.proofs.listing.tell_entries.Goals as goal

pub returns-in-Ok-clause-told : goal.returns-in-Ok-clause-told
returns-in-Ok-clause-told g c seen at =
    let stands = at_handle c.args.handles.now c.get-handle.result.now.machine seen c.get-handle.ensures at in
    told_at c.args.inquired c.in-Ok.entries _ _ _ _ c.tell_at.result c.in-Ok.is (c.state.ensures.told seen.history stands) (c.opt_answer.ensures.told seen.history stands) c.tell_at.ensures.told

pub returns-in-Ok-clause-link : goal.returns-in-Ok-clause-link
returns-in-Ok-clause-link g c seen at =
    let stands = at_handle c.args.handles.now c.get-handle.result.now.machine seen c.get-handle.ensures at in
    told_failure _ _ c.tell_at.result _ _ (c.state.ensures.told seen.history stands) c.tell_at.ensures.link
