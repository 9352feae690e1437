use Rattle.std.proofs.Common.{ap, false, refl}
use Rattle.lnbd_server.specs.Session.{Session}
use Rattle.lnbd_serve.proofs.TurnLemmas.{wrote_some, wrote_none, write_failed}
use Rattle.lnbd_serve.proofs.guest.Guest.write.Goals as goal

pub returns-in-Bytes-clause-ok : goal.returns-in-Bytes-clause-ok
returns-in-Bytes-clause-ok g c =
    wrote_some _ _ c.args.self.now _ c.in-Bytes.n c.out.result.now c.out.ensures c.in-Bytes.ensures.count.0 c.in-Bytes.ensures.count.1 c.in-Bytes.ensures.told (ap (λ (s : Session). record c.args.self.now { session = s; full = false }) c.gave.ensures)

pub returns-in-NotReady-clause-ok : goal.returns-in-NotReady-clause-ok
returns-in-NotReady-clause-ok g c = wrote_none _ _ c.args.self.now _ c.out.result.now c.out.ensures c.requires c.in-NotReady.ensures.told refl

pub returns-in-Failed-clause-err : goal.returns-in-Failed-clause-err
returns-in-Failed-clause-err g c = write_failed _ _ c.args.self.now _ c.out.result.now c.out.ensures c.requires c.in-Failed.ensures.told refl
