use Rattle.std.proofs.Common.{◌≡◌, false, refl, sym, ◌∙◌, subst, ap}
use Rattle.lnbd_child.specs.Loading.{IsFew}
use Rattle.lnbd_store.specs.declared.serving.Serving.{Serving}
use Rattle.lnbd_cli.specs.Asks.{is_alone}
use Rattle.lnbd_cli.specs.Ends.{End, status_of}
use Rattle.lnbd_cli.specs.Hosts.{ServeDid}
use Rattle.lnbd_cli.specs.Serves.{is_serve_status}
use Rattle.lnbd_cli.proofs.ServingLemmas.{alone, beside, fits}
use Rattle.lnbd_cli.proofs.serving.attend.Goals as goal

pub host-requires : goal.host-requires
host-requires g c = fits c.args.asked _ _ c.in-Alone.ensures.0 c.requires

pub serve_beside-requires : goal.serve_beside-requires
serve_beside-requires g c = subst IsFew (ap (λ (s : Serving). s.content) (sym c.in-Beside.ensures.0)) c.requires

pub returns-in-Alone-clause-did : goal.returns-in-Alone-clause-did
returns-in-Alone-clause-did g c = alone g.W.Wires.told c.args.wires.now c.host.new.wires g.O.Sink.taken c.args.out.now c.host.new.out
    g.S.Store.told g.S.Store.shelf c.args.store.now c.args.store.now g.P.Spawner.told c.args.spawn.now c.args.spawn.now c.host.result
    c.args.asked c.in-Alone.service c.in-Alone.ensures.0 c.in-Alone.ensures.1 c.in-Alone.ensures.2 c.host.ensures.ends c.host.ensures.known refl refl

pub returns-in-Beside-clause-did : goal.returns-in-Beside-clause-did
returns-in-Beside-clause-did g c =
    let same = c.in-Beside.ensures.0 in
    subst (ServeDid g.W.Wires.told c.args.wires.now c.serve_beside.new.wires g.O.Sink.taken c.args.out.now c.serve_beside.new.out
    g.S.Store.told g.S.Store.shelf c.args.store.now c.serve_beside.new.store g.P.Spawner.told c.args.spawn.now c.serve_beside.new.spawn c.serve_beside.result) same
    (beside g.W.Wires.told c.args.wires.now c.serve_beside.new.wires g.O.Sink.taken c.args.out.now c.serve_beside.new.out
    g.S.Store.told g.S.Store.shelf c.args.store.now c.serve_beside.new.store g.P.Spawner.told c.args.spawn.now c.serve_beside.new.spawn c.serve_beside.result
    c.in-Beside.asked (subst (λ (s : Serving). is_alone s.content s.run ≡ false) (sym same) c.in-Beside.ensures.1)
    c.serve_beside.ensures.ends c.serve_beside.ensures.known c.serve_beside.ensures.store c.serve_beside.ensures.spawner c.serve_beside.ensures.file c.serve_beside.ensures.child)

pub returns-in-Alone-clause-storing : goal.returns-in-Alone-clause-storing
returns-in-Alone-clause-storing g c e = cc (ap (λ (r : End). is_serve_status (status_of r)) (sym e) ∙ c.host.ensures.known)

pub returns-in-Alone-clause-spawning : goal.returns-in-Alone-clause-spawning
returns-in-Alone-clause-spawning g c e = cc (ap (λ (r : End). is_serve_status (status_of r)) (sym e) ∙ c.host.ensures.known)
