use Rattle.std.proofs.Common.{Err, refl}
use Rattle.lnbd_dump.specs.declared.fault.DumpFault.TheVariants as fault
use Rattle.lnbd_dump.proofs.EndLemmas.{clause_front, clause_fronts, clause_shown, clause_shows, dumped_is, not_begun}
use Rattle.lnbd_dump.proofs.dumping.dump.Goals as goal

pub returns-in-Ok-clause-dumps : goal.returns-in-Ok-clause-dumps
returns-in-Ok-clause-dumps g c = dumped_is c.args.place.now c.args.offset c.args.length _ _ (g.O.Sink.taken c.args.out.now) (g.O.Sink.taken c.dial.new.out) c.dial.result c.dial.ensures.dumps

pub returns-in-Ok-clause-shown : goal.returns-in-Ok-clause-shown
returns-in-Ok-clause-shown g c = clause_shown c.args.place.now c.args.offset c.args.length _ _ _ _ c.dial.result c.dial.ensures.dumps

pub returns-in-Ok-clause-front : goal.returns-in-Ok-clause-front
returns-in-Ok-clause-front g c = clause_front c.args.place.now c.args.offset c.args.length _ _ _ _ c.dial.result c.dial.ensures.dumps

pub returns-in-Ok-clause-shows : goal.returns-in-Ok-clause-shows
returns-in-Ok-clause-shows g c = clause_shows c.args.place.now c.args.offset c.args.length _ _ _ _ c.dial.result c.dial.ensures.dumps

pub returns-in-Ok-clause-fronts : goal.returns-in-Ok-clause-fronts
returns-in-Ok-clause-fronts g c = clause_fronts c.args.place.now c.args.offset c.args.length _ _ _ _ c.dial.result c.dial.ensures.dumps

pub returns-in-Err-clause-dumps : goal.returns-in-Err-clause-dumps
returns-in-Err-clause-dumps g c = dumped_is c.args.place.now c.args.offset c.args.length _ _ (g.O.Sink.taken c.args.out.now) (g.O.Sink.taken c.args.out.now) (Err fault.NoMemory) (not_begun c.args.place.now c.args.offset c.args.length _ (g.O.Sink.taken c.args.out.now) (Err fault.NoMemory) refl)

pub returns-in-Err-clause-front : goal.returns-in-Err-clause-front
returns-in-Err-clause-front g c = clause_front c.args.place.now c.args.offset c.args.length _ _ _ _ (Err fault.NoMemory) (not_begun c.args.place.now c.args.offset c.args.length (g.W.Wires.told c.args.wires.now) (g.O.Sink.taken c.args.out.now) (Err fault.NoMemory) refl)

pub returns-in-Err-clause-fronts : goal.returns-in-Err-clause-fronts
returns-in-Err-clause-fronts g c = clause_fronts c.args.place.now c.args.offset c.args.length _ _ _ _ (Err fault.NoMemory) (not_begun c.args.place.now c.args.offset c.args.length (g.W.Wires.told c.args.wires.now) (g.O.Sink.taken c.args.out.now) (Err fault.NoMemory) refl)
