use Rattle.std.proofs.Common.{sym, ◌∙◌}
use Rattle.lnbd_copy.proofs.GroundLemmas.{is_shown}
use Rattle.lnbd_copy.proofs.agreeing.told_by.Goals as goal

pub returns-in-Ready-Some : goal.returns-in-Ready-Some
returns-in-Ready-Some c =
    is_shown c.get-handle.result.now.machine c.in-Ready-Some.info.now c.args.index c.args.handles.now (λ history stands. sym (c.state.ensures.told history stands) ∙ c.in-Ready-Some.is-0) c.in-Ready-Some.ensures'.told c.get-handle.ensures
