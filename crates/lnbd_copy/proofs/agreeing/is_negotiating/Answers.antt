use Rattle.std.proofs.Common.{◌≡◌, sym, ◌∙◌}
use Rattle.lnbd_history.specs.Answers.{state_after}
use Rattle.lnbd_model.specs.declared.state.State.TheVariants as state
use Rattle.lnbd_copy.proofs.GroundLemmas.{happens}
use Rattle.lnbd_copy.proofs.agreeing.is_negotiating.Goals as goal

pub returns-in-Negotiating : goal.returns-in-Negotiating
returns-in-Negotiating c is =
    happens c.get.result.now.machine (λ history. state_after history ≡ state.Negotiating) (λ history stands. sym (c.state.ensures.told history stands) ∙ c.in-Negotiating.is) c.args.index c.args.handles.now c.get.ensures
