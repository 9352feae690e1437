use Rattle.std.proofs.Common.{inl, inr, refl}
use Rattle.lnbd_cli.specs.Did.{Did}
use Rattle.lnbd_cli.proofs.ToolLemmas.{as_asked, never_reads, no_file, no_program, on_wires, room, unread}
use Rattle.lnbd_cli.proofs.top.tool.Goals as goal

pub act-requires : goal.act-requires
act-requires g c = room _ c.in-Ok.asked c.in-Ok.ensures.asks

pub returns-in-Ok-clause-did : goal.returns-in-Ok-clause-did
returns-in-Ok-clause-did g c a asks = as_asked (Did g.I.Source.left c.args.input.now c.act.new.input g.W.Wires.told c.args.wires.now c.act.new.wires g.O.Sink.taken c.args.out.now c.act.new.out
    g.S.Store.told g.S.Store.shelf g.S.Store.given g.S.Store.taken c.args.store.now c.act.new.store g.P.Spawner.told c.args.spawn.now c.act.new.spawn c.act.result)
    c.in-Ok.asked a (c.in-Ok.ensures.accepts a asks) c.act.ensures.did

pub returns-in-Ok-clause-store : goal.returns-in-Ok-clause-store
returns-in-Ok-clause-store g c other = c.act.ensures.did.store_same (no_file c.args.words.now c.in-Ok.asked c.in-Ok.ensures.asks other)

pub returns-in-Ok-clause-spawner : goal.returns-in-Ok-clause-spawner
returns-in-Ok-clause-spawner g c other = c.act.ensures.did.spawn_same (no_program c.args.words.now c.in-Ok.asked c.in-Ok.ensures.asks other)

pub returns-in-Ok-clause-unread : goal.returns-in-Ok-clause-unread
returns-in-Ok-clause-unread g c other = c.act.ensures.unread (never_reads c.args.words.now c.in-Ok.asked c.in-Ok.ensures.asks other)

pub returns-in-Ok-clause-well : goal.returns-in-Ok-clause-well
returns-in-Ok-clause-well g c other = c.act.ensures.well (on_wires c.args.words.now c.in-Ok.asked c.in-Ok.ensures.asks other)

pub returns-in-Ok-clause-patient : goal.returns-in-Ok-clause-patient
returns-in-Ok-clause-patient g c other = c.act.ensures.patient (on_wires c.args.words.now c.in-Ok.asked c.in-Ok.ensures.asks other)

pub returns-in-Err-clause-did : goal.returns-in-Err-clause-did
returns-in-Err-clause-did g c a asks = unread g.I.Source.left c.args.input.now g.W.Wires.told c.args.wires.now g.O.Sink.taken c.args.out.now
    g.S.Store.told g.S.Store.shelf g.S.Store.given g.S.Store.taken c.args.store.now g.P.Spawner.told c.args.spawn.now c.in-Err.fault a (c.in-Err.ensures.accepts a asks)

pub returns-in-Ok-clause-decided : goal.returns-in-Ok-clause-decided
returns-in-Ok-clause-decided g c = inl (c.in-Ok.asked, c.in-Ok.ensures.asks)

pub returns-in-Err-clause-decided : goal.returns-in-Err-clause-decided
returns-in-Err-clause-decided g c = inr (c.in-Err.ensures.refuses, record { wires_same = refl; out_same = refl })
