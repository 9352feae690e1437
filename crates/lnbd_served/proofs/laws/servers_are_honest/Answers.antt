use Rattle.lnbd_served.proofs.Servers.{servers_are_honest}
use Rattle.lnbd_served.proofs.laws.servers_are_honest.Goals as goal

pub returns : goal.returns
returns c = servers_are_honest
