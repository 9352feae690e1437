use Rattle.lnbd_ask.proofs.LearnLemmas.{known_is}
use Rattle.lnbd_waits.proofs.WaitLemmas.{at_handle}
use Rattle.lnbd_ask.proofs.mapping.known.Goals as goal

pub returns : goal.returns
returns c seen at =
    let stands = at_handle c.args.handles.now c.get-handle.result.now.machine seen c.get-handle.ensures at in
    known_is c.args.context.now _ _ _ _ c.known_at.result (c.state.ensures.told seen.history stands) (c.info.ensures.told seen.history stands) c.known_at.ensures
