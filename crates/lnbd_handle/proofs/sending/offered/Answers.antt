use Rattle.lnbd_handle.specs.Seen.{writes_in}
use Rattle.lnbd_handle.proofs.sending.offered.Goals as goal

pub returns : goal.returns
returns g c = c.out.ensures (writes_in c.args.connection.now.commands) c.requires.fits c.own_bytes.ensures
