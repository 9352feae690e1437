use Rattle.std.proofs.Common.{sym, ◌∙◌}
use Rattle.lnbd_script.proofs.PlaceLemmas.{closes_line, gone}
use Rattle.lnbd_script.proofs.place.Place.step.Goals as goal

pub returns-then-not-is_open-clause-told : goal.returns-then-not-is_open-clause-told
returns-then-not-is_open-clause-told g c = gone c.args.line.now _ _ _ c.requires.used (sym c.is_open.ensures ∙ c.if-not-is_open.true)

pub returns-in-Close-clause-told : goal.returns-in-Close-clause-told
returns-in-Close-clause-told g c = closes_line c.args.line.now c.in-Close.is _ _ c.close-opened.result _ _ _ (sym c.is_open.ensures ∙ c.if-not-is_open.false) c.close-opened.ensures.place c.close-opened.ensures.closes
