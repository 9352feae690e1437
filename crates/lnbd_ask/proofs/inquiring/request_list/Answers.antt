use Rattle.std.proofs.Common.{◌≡◌, arith, refl}
use Rattle.lnbd_records.specs.Options.{opt_list}
use Rattle.lnbd_ask.specs.Lists.{AnswersList, asking}
use Rattle.lnbd_ask.specs.Parts.{Acts, no_value}
use Rattle.lnbd_waits.specs.declared.waiting.Halt.TheVariants as halt
use Rattle.lnbd_ask.proofs.ActLemmas.{short_silent}
use Rattle.lnbd_ask.proofs.PartLemmas.{acts, follows, stops}
use Rattle.lnbd_waits.proofs.TurnLemmas.{held_one}
use Rattle.lnbd_ask.proofs.inquiring.request_list.Goals as goal

pub ask_list-requires : goal.ask_list-requires
ask_list-requires g c = held_one _ c.requires.reached.0 c.requires.reached.1

pub returns-in-Err-clause-asks : goal.returns-in-Err-clause-asks
returns-in-Err-clause-asks g c = stops (Acts (asking opt_list) no_value) (λ done. AnswersList g.K.Caller.steps) _ _ _ _ _ _ _ _ c.ask_list.result _ c.in-Err.halt c.in-Err.is refl (acts (asking opt_list) no_value _ _ _ _ _ _ c.ask_list.ensures)

pub returns-in-Err-clause-silent : goal.returns-in-Err-clause-silent
returns-in-Err-clause-silent g c is = let same : c.in-Err.halt ≡ halt.Silent = cc is in absurd (short_silent (asking opt_list) no_value c.in-Err.halt _ _ c.requires.reached.0 c.in-Err.ensures c.requires.reached.1 same)

pub hear_list-requires-clause-reached : goal.hear_list-requires-clause-reached
hear_list-requires-clause-reached g c = let acted = c.ask_list.ensures c.requires.reached.0 c.requires.reached.1 in (acted.0, acted.2)

pub returns-clause-asks : goal.returns-clause-asks
returns-clause-asks g c =
    follows (Acts (asking opt_list) no_value) (λ done. AnswersList g.K.Caller.steps) _ _ _ _ _ _ _ _ _ _ _ _ c.ask_list.result _ c.hear_list.result c.in_default.is (omega arith) c.hear_list.ensures.faults (acts (asking opt_list) no_value _ _ _ _ _ _ c.ask_list.ensures) c.hear_list.ensures.hears
