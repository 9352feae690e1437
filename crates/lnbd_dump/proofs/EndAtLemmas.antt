-- Whether more can be asked.
use Rattle.std.proofs.Common.{◌≡◌, ℕ, Option, Result, Ok, Err, subst, sym, ◌∙◌}
use Rattle.lnbd_model.specs.declared.export.ExportInfo.{ExportInfo}
use Rattle.lnbd_model.specs.declared.state.State.{State}
use Rattle.lnbd_history.specs.Answers.{direction_after, info_after, state_after}
use Rattle.lnbd_history.specs.Events.{History}
use Rattle.lnbd_dump.specs.declared.reader.Reader.{Reader}
use Rattle.lnbd_dump.specs.declared.stop.Stop.{Stop}
use Rattle.lnbd_dump.specs.declared.stop.Stop.TheVariants as stop
use Rattle.lnbd_dump.specs.declared.terms.Terms.{Terms}
use Rattle.lnbd_dump.specs.Stops.{HasEnd, HasStop}
use Rattle.lnbd_dump.specs.Terms.{IsKnown, IsKnownAt}

pub end_stop : (result : Result (Unit {0}) Stop) (at : State) (history : History Reader) → HasEnd result at → at ≡ state_after history → HasStop result history
end_stop (Ok done) at history end is = tt
end_stop (Err (stop.Died cause)) at history end is = sym is ∙ end
end_stop (Err (stop.Halted why)) at history end is = tt
end_stop (Err (stop.Broke breach)) at history end is = absurd end
end_stop (Err (stop.Failed error)) at history end is = absurd end
end_stop (Err stop.Output) at history end is = absurd end
end_stop (Err (stop.Range size)) at history end is = absurd end
end_stop (Err (stop.Uneven size block)) at history end is = absurd end

-- What is known of an export.
pub known_is : (at : State) (direction : ℕ) (told : Option ExportInfo) (result : Result Terms Stop) (history : History Reader) → at ≡ state_after history → direction ≡ direction_after history → told ≡ info_after history → IsKnownAt at direction told result → IsKnown result history
known_is at direction told result history at_is direction_is told_is k =
    subst (λ (s : State). IsKnownAt s (direction_after history) (info_after history) result) at_is
    (subst (λ (d : ℕ). IsKnownAt at d (info_after history) result) direction_is (subst (λ (t : Option ExportInfo). IsKnownAt at direction t result) told_is k))
