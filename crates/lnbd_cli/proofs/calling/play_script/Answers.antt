use Rattle.std.proofs.Common.{inl, refl, ap, sym, ◌∙◌, Err, Result}
use Rattle.lnbd_script.specs.declared.event.PlayFault.{PlayFault}
use Rattle.lnbd_script.specs.Plays.{is_played}
use Rattle.lnbd_cli.proofs.CallLemmas.{as_first, counted_ends}
use Rattle.lnbd_cli.proofs.calling.play_script.Goals as goal

abbrev failed : PlayFault → Result (Unit {0}) PlayFault
failed fault = Err fault

pub returns-in-Err-clause-ends : goal.returns-in-Err-clause-ends
returns-in-Err-clause-ends g c = counted_ends c.in-Err.fault _ _ _ _ _ c.in-Err.ensures.only (c.in-Ok.ensures.played refl)

pub returns-in-Err-Link-clause-ends : goal.returns-in-Err-Link-clause-ends
returns-in-Err-Link-clause-ends g c = as_first _ _ _ _ _ _ _ _ (λ first is. inl (ap failed (sym c.in-Err-Link.field-0-is) ∙ is))
    (c.in-Err-Link.ensures.played (ap (λ (f : PlayFault). is_played (failed f)) c.in-Err-Link.field-0-is))

pub returns-in-Err-Silent-clause-ends : goal.returns-in-Err-Silent-clause-ends
returns-in-Err-Silent-clause-ends g c = inl (c.in-Err-Silent.ensures.waited (ap failed c.in-Err-Silent.field-0-is))
