use Rattle.std.proofs.Common.{arith}
use Rattle.lnbd_serve.proofs.PrintLemmas.{listens, no_listener, prints_both, prints_front, serves_all}
use Rattle.lnbd_serve.proofs.listening.serve.Goals as goal

pub returns-in-Ok-clause-runs : goal.returns-in-Ok-clause-runs
returns-in-Ok-clause-runs g c =
    listens _ _ _ _ _ _ c.args.place.now.to c.in-Ok.listener c.args.sessions c.serve_there-served.result c.args.export.now c.serve_there-served.new.export c.in-Ok.ensures.told c.serve_there-served.ensures.tells c.shut.ensures.told

pub returns-in-Ok-clause-all : goal.returns-in-Ok-clause-all
returns-in-Ok-clause-all g c =
    serves_all _ _ _ _ c.args.place.now.to c.args.sessions c.serve_there-served.result c.args.export.now c.serve_there-served.new.export
    (listens _ _ _ _ _ _ c.args.place.now.to c.in-Ok.listener c.args.sessions c.serve_there-served.result c.args.export.now c.serve_there-served.new.export c.in-Ok.ensures.told c.serve_there-served.ensures.tells c.shut.ensures.told)

pub returns-in-Ok-clause-lines : goal.returns-in-Ok-clause-lines
returns-in-Ok-clause-lines g c all =
    prints_both _ _ _ _ c.args.place.now.to c.args.sessions c.serve_there-served.result c.args.export.now c.serve_there-served.new.export
    (listens _ _ _ _ _ _ c.args.place.now.to c.in-Ok.listener c.args.sessions c.serve_there-served.result c.args.export.now c.serve_there-served.new.export c.in-Ok.ensures.told c.serve_there-served.ensures.tells c.shut.ensures.told) all

pub returns-in-Ok-clause-front : goal.returns-in-Ok-clause-front
returns-in-Ok-clause-front g c =
    prints_front _ _ _ _ c.args.place.now.to c.args.sessions c.serve_there-served.result c.args.export.now c.serve_there-served.new.export
    (listens _ _ _ _ _ _ c.args.place.now.to c.in-Ok.listener c.args.sessions c.serve_there-served.result c.args.export.now c.serve_there-served.new.export c.in-Ok.ensures.told c.serve_there-served.ensures.tells c.shut.ensures.told)

pub returns-in-Ok-clause-link : goal.returns-in-Ok-clause-link
returns-in-Ok-clause-link g c before after e =
    let l = c.serve_there-served.ensures.link before after e in
    (omega (arith, l.0, c.in-Ok.ensures.faults), omega (arith, l.1, c.shut.ensures.faults), l.2)

pub returns-in-Err-clause-runs : goal.returns-in-Err-clause-runs
returns-in-Err-clause-runs g c = no_listener _ _ _ c.args.place.now.to c.args.sessions c.faults-before.result c.faults.result c.args.export.now c.in-Err.ensures.told
