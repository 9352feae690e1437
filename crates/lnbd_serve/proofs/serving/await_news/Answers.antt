use Rattle.std.proofs.Common.{◌≡◌, ap, arith}
use Rattle.lnbd_serve.specs.declared.guest.Halt.TheVariants as halt
use Rattle.lnbd_serve.specs.Rounds.{hall_of}
use Rattle.lnbd_serve.specs.Steps.{is_news}
use Rattle.lnbd_serve.proofs.CalmLemmas.{counts_none, counts_on, counts_waited}
use Rattle.lnbd_serve.proofs.ServeLemmas.{going_lacks, going_news, going_none, going_on, going_silent, going_still, going_stops, round_loud, smaller_sent, smaller_still}
use Rattle.lnbd_serve.proofs.serving.await_news.Goals as goal

pub rounds-init : goal.rounds-init
rounds-init g c = record { going = going_none _ c.args.door.listener c.args.door.limit (hall_of c.args.guests.now c.args.export.now) c.requires.rests c.requires.serving; counts = counts_none _ _; started = c.idles-start.ensures; room = c.requires.room }

pub returns-in-Ok-News-clause-ok : goal.returns-in-Ok-News-clause-ok
returns-in-Ok-News-clause-ok g c =
    going_news _ _ _ c.args.door.listener c.args.door.limit c.in-Ok-News.field-0 (hall_of c.args.guests.now c.args.export.now) (hall_of c.rounds.guests c.rounds.export) (hall_of c.round.new.self c.round.new.export) c.in-Ok-News.field-0-is c.rounds.invariant.going c.in-Ok-News.ensures.ok

pub rounds-preserved-in-Ok-Sent : goal.rounds-preserved-in-Ok-Sent
rounds-preserved-in-Ok-Sent g c = record {
  going = going_on _ _ _ c.args.door.listener c.args.door.limit c.in-Ok-Sent.field-0 (hall_of c.args.guests.now c.args.export.now) (hall_of c.rounds.guests c.rounds.export) (hall_of c.round.new.self c.round.new.export) (ap is_news c.in-Ok-Sent.field-0-is) c.rounds.invariant.going c.in-Ok-Sent.ensures.ok;
  counts = counts_on _ _ _ _ _ _ _ c.rounds.invariant.counts c.in-Ok-Sent.ensures.counts;
  started = c.rounds.invariant.started;
  room = omega (arith, c.rounds.invariant.room, c.round.auto.buffer);
}

pub rounds-smaller-in-Ok-Sent : goal.rounds-smaller-in-Ok-Sent
rounds-smaller-in-Ok-Sent g c =
    smaller_sent _ _ _ _ _ (c.in-Ok-Sent.ensures.ok.leads.sent c.in-Ok-Sent.field-0-is) (omega (arith, c.rounds.invariant.started, c.rounds.invariant.counts.idles_later, c.in-Ok-Sent.ensures.counts.idles_later))

pub returns-in-Err-pause-clause-err : goal.returns-in-Err-pause-clause-err
returns-in-Err-pause-clause-err g c =
    going_lacks _ _ _ c.args.door.listener c.args.door.limit (hall_of c.args.guests.now c.args.export.now) (hall_of c.round.new.self c.round.new.export) (ap g.W.Wires.told c.in-Err-pause.ensures.err)
    (going_on _ _ _ c.args.door.listener c.args.door.limit c.in-Ok-Still.field-0 (hall_of c.args.guests.now c.args.export.now) (hall_of c.rounds.guests c.rounds.export) (hall_of c.round.new.self c.round.new.export) (ap is_news c.in-Ok-Still.field-0-is) c.rounds.invariant.going c.in-Ok-Still.ensures.ok)

pub returns-then-is_long-clause-err : goal.returns-then-is_long-clause-err
returns-then-is_long-clause-err g c =
    going_silent _ _ c.args.door.listener c.args.door.limit (hall_of c.args.guests.now c.args.export.now) (hall_of c.round.new.self c.round.new.export)
    (going_still _ _ _ _ c.args.door.listener c.args.door.limit c.in-Ok-Still.field-0 (hall_of c.args.guests.now c.args.export.now) (hall_of c.rounds.guests c.rounds.export) (hall_of c.round.new.self c.round.new.export) c.in-Ok-Still.field-0-is c.rounds.invariant.going
    c.in-Ok-Still.ensures.ok (c.in-Ok.ensures.ok c.round.new.export))

pub returns-then-is_long-clause-counts : goal.returns-then-is_long-clause-counts
returns-then-is_long-clause-counts g c =
    counts_waited _ _ _ _ _ _ (counts_on _ _ _ _ _ _ _ c.rounds.invariant.counts c.in-Ok-Still.ensures.counts) c.in-Ok.ensures.faults c.in-Ok.ensures.waited (omega (arith, c.idles-start.ensures, c.idles-start.type_inv))

pub rounds-preserved : goal.rounds-preserved
rounds-preserved g c = record {
  going = going_still _ _ _ _ c.args.door.listener c.args.door.limit c.in-Ok-Still.field-0 (hall_of c.args.guests.now c.args.export.now) (hall_of c.rounds.guests c.rounds.export) (hall_of c.round.new.self c.round.new.export) c.in-Ok-Still.field-0-is c.rounds.invariant.going
      c.in-Ok-Still.ensures.ok (c.in-Ok.ensures.ok c.round.new.export);
  counts = counts_waited _ _ _ _ _ _ (counts_on _ _ _ _ _ _ _ c.rounds.invariant.counts c.in-Ok-Still.ensures.counts) c.in-Ok.ensures.faults c.in-Ok.ensures.waited (omega (arith, c.idles-start.ensures, c.idles-start.type_inv));
  started = c.rounds.invariant.started;
  room = omega (arith, c.rounds.invariant.room, c.round.auto.buffer);
}

pub rounds-smaller : goal.rounds-smaller
rounds-smaller g c =
    let short = c.is_long.ensures.within c.if-is_long.false in
    let open_ = c.is_long.ensures.open c.if-is_long.false in
    smaller_still _ _ _ _ _ _ (c.in-Ok-Still.ensures.ok.leads.still c.in-Ok-Still.field-0-is).1 c.in-Ok-Still.ensures.counts.idles_later c.in-Ok.ensures.waited (omega (arith, c.idles.ensures, short)) (omega (arith, c.idles.ensures, open_))

pub returns-in-Err-clause-err : goal.returns-in-Err-clause-err
returns-in-Err-clause-err g c = going_stops _ _ _ c.args.door.listener c.args.door.limit (hall_of c.args.guests.now c.args.export.now) (hall_of c.rounds.guests c.rounds.export) _ c.in-Err.why c.rounds.invariant.going c.in-Err.ensures.err

pub returns-in-Err-clause-silent : goal.returns-in-Err-clause-silent
returns-in-Err-clause-silent g c e = let silent : c.in-Err.why ≡ halt.Silent = cc in round_loud _ _ c.args.door.listener c.args.door.limit _ _ c.in-Err.why c.in-Err.ensures.err silent
