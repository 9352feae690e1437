use Rattle.lnbd_waits.proofs.WaitLemmas.{at_handle}
use Rattle.lnbd_dump.proofs.EndAtLemmas.{known_is}
use Rattle.lnbd_dump.proofs.terms.known.Goals as goal

pub returns-clause-known : goal.returns-clause-known
returns-clause-known c seen at =
    let stands = at_handle c.args.handles.now c.get-handle.result.now.machine seen c.get-handle.ensures at in
    known_is c.state.result c.direction.result _ c.known_at.result seen.history (c.state.ensures.told seen.history stands) (c.direction.ensures.told seen.history stands) (c.info.ensures.told seen.history stands) c.known_at.ensures.known
