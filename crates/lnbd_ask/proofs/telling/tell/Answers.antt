use Rattle.lnbd_ask.proofs.TalkLemmas.{told_link, told_state}
use Rattle.lnbd_waits.proofs.WaitLemmas.{at_handle}
use Rattle.lnbd_ask.proofs.telling.tell.Goals as goal

pub returns-in-Ok-clause-told : goal.returns-in-Ok-clause-told
returns-in-Ok-clause-told g c seen at =
    let stands = at_handle c.args.handles.now c.get-handle.result.now.machine seen c.get-handle.ensures at in
    told_state c.args.talked _ _ _ _ c.args.place.now c.tell_state.result c.in-Ok.is (c.state.ensures.told seen.history stands) (c.info.ensures.told seen.history stands) c.tell_state.ensures.told

pub returns-in-Ok-clause-link : goal.returns-in-Ok-clause-link
returns-in-Ok-clause-link g c seen at =
    let stands = at_handle c.args.handles.now c.get-handle.result.now.machine seen c.get-handle.ensures at in
    told_link _ _ c.tell_state.result _ _ (c.state.ensures.told seen.history stands) c.tell_state.ensures.link
