use Rattle.std.proofs.Common.{◌≡◌, arith, refl}
use Rattle.lnbd_records.specs.Options.{opt_info}
use Rattle.lnbd_ask.specs.Lists.{AnswersInfo, asking}
use Rattle.lnbd_ask.specs.Parts.{Acts, no_value}
use Rattle.lnbd_waits.specs.declared.waiting.Halt.TheVariants as halt
use Rattle.lnbd_ask.proofs.ActLemmas.{short_silent}
use Rattle.lnbd_ask.proofs.PartLemmas.{acts, follows, stops}
use Rattle.lnbd_waits.proofs.TurnLemmas.{held_one}
use Rattle.lnbd_ask.proofs.inquiring.request_info.Goals as goal

pub ask_info-requires : goal.ask_info-requires
ask_info-requires g c = held_one _ c.requires.reached.0 c.requires.reached.1

pub returns-in-Err-clause-asks : goal.returns-in-Err-clause-asks
returns-in-Err-clause-asks g c = stops (Acts (asking opt_info) no_value) (λ done. AnswersInfo g.K.Caller.steps c.args.export.now) _ _ _ _ _ _ _ _ c.ask_info.result _ c.in-Err.halt c.in-Err.is refl (acts (asking opt_info) no_value _ _ _ _ _ _ c.ask_info.ensures)

pub returns-in-Err-clause-silent : goal.returns-in-Err-clause-silent
returns-in-Err-clause-silent g c is = let same : c.in-Err.halt ≡ halt.Silent = cc is in absurd (short_silent (asking opt_info) no_value c.in-Err.halt _ _ c.requires.reached.0 c.in-Err.ensures c.requires.reached.1 same)

pub hear_info-requires-clause-reached : goal.hear_info-requires-clause-reached
hear_info-requires-clause-reached g c = let acted = c.ask_info.ensures c.requires.reached.0 c.requires.reached.1 in (acted.0, acted.2)

pub returns-clause-asks : goal.returns-clause-asks
returns-clause-asks g c =
    follows (Acts (asking opt_info) no_value) (λ done. AnswersInfo g.K.Caller.steps c.args.export.now) _ _ _ _ _ _ _ _ _ _ _ _ c.ask_info.result _ c.hear_info.result c.in_default.is (omega arith) c.hear_info.ensures.faults (acts (asking opt_info) no_value _ _ _ _ _ _ c.ask_info.ensures) c.hear_info.ensures.hears
