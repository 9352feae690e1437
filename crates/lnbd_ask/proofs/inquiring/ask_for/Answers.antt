use Rattle.std.proofs.Common.{◌≡◌, arith, refl}
use Rattle.lnbd_ask.specs.Lists.{AsksInfo, naming}
use Rattle.lnbd_ask.specs.Parts.{Acts, no_value}
use Rattle.lnbd_waits.specs.declared.waiting.Halt.TheVariants as halt
use Rattle.lnbd_ask.proofs.ActLemmas.{short_silent}
use Rattle.lnbd_ask.proofs.PartLemmas.{acts, follows, stops}
use Rattle.lnbd_waits.proofs.TurnLemmas.{held_one}
use Rattle.lnbd_ask.proofs.inquiring.ask_for.Goals as goal

pub name_export-requires : goal.name_export-requires
name_export-requires g c = held_one _ c.requires.reached.0 c.requires.reached.1

pub returns-in-Err-clause-asks : goal.returns-in-Err-clause-asks
returns-in-Err-clause-asks g c = stops (Acts (naming c.args.export.now.name) no_value) (λ done. AsksInfo g.K.Caller.steps c.args.export.now) _ _ _ _ _ _ _ _ c.name_export.result _ c.in-Err.halt c.in-Err.is refl (acts (naming c.args.export.now.name) no_value _ _ _ _ _ _ c.name_export.ensures)

pub returns-in-Err-clause-silent : goal.returns-in-Err-clause-silent
returns-in-Err-clause-silent g c is = let same : c.in-Err.halt ≡ halt.Silent = cc is in absurd (short_silent (naming c.args.export.now.name) no_value c.in-Err.halt _ _ c.requires.reached.0 c.in-Err.ensures c.requires.reached.1 same)

pub request_info-requires-clause-reached : goal.request_info-requires-clause-reached
request_info-requires-clause-reached g c = let acted = c.name_export.ensures c.requires.reached.0 c.requires.reached.1 in (acted.0, acted.2)

pub returns-clause-asks : goal.returns-clause-asks
returns-clause-asks g c =
    follows (Acts (naming c.args.export.now.name) no_value) (λ done. AsksInfo g.K.Caller.steps c.args.export.now) _ _ _ _ _ _ _ _ _ _ _ _ c.name_export.result _ c.request_info.result c.in_default.is (omega arith) c.request_info.ensures.faults (acts (naming c.args.export.now.name) no_value _ _ _ _ _ _ c.name_export.ensures) c.request_info.ensures.asks
