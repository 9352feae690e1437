use Rattle.std.proofs.Common.{arith, slice_set}
use Rattle.lnbd_poll.specs.Held.{all_held, seen_held}
use Rattle.lnbd_poll.specs.Steps.{TookEnough, TookShort}
use Rattle.lnbd_poll.proofs.HeldLemmas.{held_here, held_length, other_held, set_held}
use Rattle.lnbd_poll.proofs.TurnLemmas.{if_ok, on_err, part_here}
use Rattle.lnbd_poll.proofs.held.take_part.Goals as goal

pub returns-clause-ok : goal.returns-clause-ok
returns-clause-ok g c = if_ok c.turn.result (λ told goes. part_here (TookEnough g.K.Caller.steps _ _ told) _ _ _ _ (all_held c.args.all.now.items) (all_held (slice_set c.args.all.now.items c.args.index c.turn.new.self)) c.args.index (seen_held c.index_mut.result.now) (seen_held c.turn.new.self) (omega (arith, c.requires, c.args.all.now.ok.0, held_length c.args.all.now.items)) (held_here c.args.index c.args.all.now.items c.index_mut.result.now c.index_mut.ensures.value) (set_held c.args.index c.args.all.now.items c.turn.new.self) goes) c.turn.ensures.ok

pub returns-clause-short : goal.returns-clause-short
returns-clause-short g c = on_err c.turn.result (λ goes. part_here (TookShort g.K.Caller.steps _ _) _ _ _ _ (all_held c.args.all.now.items) (all_held (slice_set c.args.all.now.items c.args.index c.turn.new.self)) c.args.index (seen_held c.index_mut.result.now) (seen_held c.turn.new.self) (omega (arith, c.requires, c.args.all.now.ok.0, held_length c.args.all.now.items)) (held_here c.args.index c.args.all.now.items c.index_mut.result.now c.index_mut.ensures.value) (set_held c.args.index c.args.all.now.items c.turn.new.self) goes) c.turn.ensures.short

pub returns-clause-others : goal.returns-clause-others
returns-clause-others g c other differ = other_held c.args.all.now.items c.args.index other c.turn.new.self differ
