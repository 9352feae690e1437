use Rattle.std.proofs.Common.{length, arith}
use Rattle.lnbd_serve.specs.Rounds.{hall_of}
use Rattle.lnbd_serve.proofs.HallLemmas.{round_breaks, round_of, round_stops}
use Rattle.lnbd_serve.proofs.guests.Guests.round.Goals as goal

pub turn_all-requires-clause-rests : goal.turn_all-requires-clause-rests
turn_all-requires-clause-rests g c = (c.in-Ok.ensures.ok c.args.export.now).leads.rests

pub returns-in-Ok-turn_all-clause-ok : goal.returns-in-Ok-turn_all-clause-ok
returns-in-Ok-turn_all-clause-ok g c =
    round_of _ _ _ c.args.door.listener c.args.door.limit (length c.turn_all.new.self.all.items) c.in-Ok.came c.in-Ok-turn_all.did c.or_news.result (hall_of c.args.self.now c.args.export.now) (hall_of c.welcome.new.self c.args.export.now)
    (hall_of c.turn_all.new.self c.turn_all.new.export) (omega arith) c.or_news.ensures.yes c.or_news.ensures.no (c.in-Ok.ensures.ok c.args.export.now) (c.in-Ok-turn_all.ensures.ok c.args.door.listener c.args.door.limit)

pub returns-in-Err-turn_all-clause-err : goal.returns-in-Err-turn_all-clause-err
returns-in-Err-turn_all-clause-err g c =
    round_breaks _ _ _ c.args.door.listener c.args.door.limit c.in-Ok.came (hall_of c.args.self.now c.args.export.now) (hall_of c.welcome.new.self c.args.export.now) _ c.in-Err-turn_all.why (c.in-Ok.ensures.ok c.args.export.now)
    (c.in-Err-turn_all.ensures.err c.args.door.listener c.args.door.limit)

pub returns-in-Err-clause-err : goal.returns-in-Err-clause-err
returns-in-Err-clause-err g c = round_stops _ _ c.args.door.listener c.args.door.limit (hall_of c.args.self.now c.args.export.now) _ c.in-Err.why (c.in-Err.ensures.err c.args.export.now)
