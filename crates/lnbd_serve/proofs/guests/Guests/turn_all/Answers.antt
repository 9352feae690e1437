use Rattle.std.proofs.Common.{◌≡◌, ◌<◌, ◌+◌, length, arith}
use Rattle.lnbd_serve.specs.Rounds.{hall_of}
use Rattle.lnbd_serve.proofs.CalmLemmas.{counts_none, counts_on}
use Rattle.lnbd_serve.proofs.HallLemmas.{fewer_kept, fewer_left, turns_break, turns_done, turns_kept, turns_left, turns_none}
use Rattle.lnbd_serve.proofs.guests.Guests.turn_all.Goals as goal

pub turns-init : goal.turns-init
turns-init g c = record { turns = λ listener limit. turns_none _ listener limit (hall_of c.args.self.now c.args.export.now) c.requires.rests; counts = counts_none _ _; room = c.requires.room }

pub turn-requires-clause-rests : goal.turn-requires-clause-rests
turn-requires-clause-rests g c = (c.turns.invariant.turns 0 0).leads.rests

pub turns-preserved-in-Ok-Some : goal.turns-preserved-in-Ok-Some
turns-preserved-in-Ok-Some g c = record {
  turns = λ listener limit. turns_kept _ _ _ listener limit c.turns.at c.turns.did c.in-Ok-Some.part c.and-did.result c.in-Ok-Some.field-0 (hall_of c.args.self.now c.args.export.now) (hall_of c.turns.self c.turns.export) (hall_of c.turn.new.self c.turn.new.export)
      (omega (arith, c.turns-test.true, c.len.ensures, c.turns.self.all.ok.0)) c.and-did.ensures c.in-Ok-Some.field-0-is (c.turns.invariant.turns listener limit) (c.in-Ok-Some.ensures.ok listener limit);
  counts = counts_on _ _ _ _ _ _ _ c.turns.invariant.counts c.in-Ok-Some.ensures.counts;
  room = omega (arith, c.turns.invariant.room, c.turn.auto.buffer);
}

pub turns-smaller-in-Ok-Some : goal.turns-smaller-in-Ok-Some
turns-smaller-in-Ok-Some g c =
    let same : length c.turn.new.self.all.items ≡ length c.turns.self.all.items =
    fewer_kept _ _ 0 0 c.turns.at c.in-Ok-Some.part c.in-Ok-Some.field-0 (hall_of c.turns.self c.turns.export) (hall_of c.turn.new.self c.turn.new.export) c.in-Ok-Some.field-0-is (c.in-Ok-Some.ensures.ok 0 0) in
    let inside : c.turns.at < length c.turns.self.all.items = omega (arith, c.turns-test.true, c.len.ensures, c.turns.self.all.ok.0) in
    omega (arith, same, inside)

pub turns-preserved : goal.turns-preserved
turns-preserved g c = record {
  turns = λ listener limit. turns_left _ _ _ listener limit c.turns.at c.turns.did c.in-Ok-None.field-0 (hall_of c.args.self.now c.args.export.now) (hall_of c.turns.self c.turns.export) (hall_of c.turn.new.self c.turn.new.export)
      c.in-Ok-None.field-0-is (c.turns.invariant.turns listener limit) (c.in-Ok-None.ensures.ok listener limit);
  counts = counts_on _ _ _ _ _ _ _ c.turns.invariant.counts c.in-Ok-None.ensures.counts;
  room = omega (arith, c.turns.invariant.room, c.turn.auto.buffer);
}

pub turns-smaller : goal.turns-smaller
turns-smaller g c =
    let same : length c.turn.new.self.all.items + 1 ≡ length c.turns.self.all.items =
    fewer_left _ _ 0 0 c.turns.at c.in-Ok-None.field-0 (hall_of c.turns.self c.turns.export) (hall_of c.turn.new.self c.turn.new.export) c.in-Ok-None.field-0-is (c.in-Ok-None.ensures.ok 0 0) in
    let inside : c.turns.at < length c.turns.self.all.items = omega (arith, c.turns-test.true, c.len.ensures, c.turns.self.all.ok.0) in
    omega (arith, same, inside)

pub returns-in-Err-clause-err : goal.returns-in-Err-clause-err
returns-in-Err-clause-err g c listener limit =
    turns_break _ _ _ listener limit c.turns.at c.turns.did (hall_of c.args.self.now c.args.export.now) (hall_of c.turns.self c.turns.export) _ c.in-Err.why (c.turns.invariant.turns listener limit) (c.in-Err.ensures.err listener limit)

pub returns-clause-ok : goal.returns-clause-ok
returns-clause-ok g c listener limit =
    turns_done _ _ listener limit c.turns.at c.turns.did (hall_of c.args.self.now c.args.export.now) (hall_of c.turns.self c.turns.export) (omega (arith, c.turns-test.false, c.len.ensures, c.turns.self.all.ok.0)) (c.turns.invariant.turns listener limit)
