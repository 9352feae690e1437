use Rattle.lnbd_ask.proofs.LearnLemmas.{discuss_parts, discuss_short}
use Rattle.lnbd_waits.proofs.TurnLemmas.{held_one}
use Rattle.lnbd_waits.proofs.WaitLemmas.{at_handle}
use Rattle.lnbd_ask.proofs.mapping.discuss.Goals as goal

pub part-requires : goal.part-requires
part-requires g c = let went = c.learn-learned.ensures.learns c.requires.reached.0 c.requires.reached.1 in held_one c.learn-learned.new.handles went.after went.at

pub returns-clause-discusses : goal.returns-clause-discusses
returns-clause-discusses g c =
    discuss_parts c.args.world.now.context c.learn-learned.new.map.items _ _ _ _ _ _ c.args.handles.now c.learn-learned.new.handles c.part.new.handles c.settle-written.new.handles _ _ c.learn-learned.result c.end_of.result c.settle-written.result c.state.result c.is_end_parting.result
    c.is_end_parting.ensures c.if-not-is_end_parting.false c.learn-learned.ensures.faults c.settle-written.ensures.faults c.learn-learned.ensures.learns c.part.ensures c.settle-written.ensures.waits
    (λ seen at. c.state.ensures.told seen.history (at_handle c.settle-written.new.handles c.get.result.now.machine seen c.get.ensures at)) c.end_of.ensures

pub returns-then-not-is_end_parting-clause-discusses : goal.returns-then-not-is_end_parting-clause-discusses
returns-then-not-is_end_parting-clause-discusses g c =
    discuss_short c.args.world.now.context _ _ _ _ _ c.args.handles.now c.learn-learned.new.handles c.learn-learned.result c.is_end_parting.result c.is_end_parting.ensures c.if-not-is_end_parting.true c.learn-learned.ensures.learns
