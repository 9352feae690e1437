use Rattle.lnbd_ask.proofs.TalkLemmas.{talk_breaks, talk_parts}
use Rattle.lnbd_waits.proofs.TurnLemmas.{held_one}
use Rattle.lnbd_ask.proofs.collecting.talk.Goals as goal

pub returns-in-Err-clause-talks : goal.returns-in-Err-clause-talks
returns-in-Err-clause-talks g c = talk_breaks g.K.Caller.steps _ _ _ _ _ _ _ _ c.in-Err.halt c.in-Err.ensures.waits

pub part-requires : goal.part-requires
part-requires g c = let went = c.settle.ensures.waits c.requires.reached.0 c.requires.reached.1 in held_one c.settle.new.handles went.after went.at

pub returns-clause-talks : goal.returns-clause-talks
returns-clause-talks g c =
    talk_parts g.K.Caller.steps _ _ _ _ _ _ _ _ _ _ _ _ _ c.settle-2.result c.settle.result c.in_default.is c.settle.ensures.faults c.settle-2.ensures.faults c.settle.ensures.waits c.part.ensures c.settle-2.ensures.waits
