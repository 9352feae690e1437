use Rattle.lnbd_serve.proofs.TurnLemmas.{gone_on, goes_on}
use Rattle.lnbd_serve.proofs.guest.Guest.go_on.Goals as goal

pub returns-then-self-clause-ok : goal.returns-then-self-clause-ok
returns-then-self-clause-ok g c = gone_on _ c.args.self.now c.args.export.now

pub returns-in-Ok-clause-ok : goal.returns-in-Ok-clause-ok
returns-in-Ok-clause-ok g c = goes_on _ _ c.args.self.now _ c.args.export.now c.in-Ok.ensures.ok
