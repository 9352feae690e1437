use Rattle.std.proofs.Common.{◌∙◌, ap}
use Rattle.lnbd_plan.specs.declared.options.CopyOptions.{CopyOptions}
use Rattle.lnbd_rehearsal.proofs.RehearsedLemmas.{conducts_between, copies_between, made_between}
use Rattle.lnbd_rehearsal.proofs.LimitLemmas.{usual_limited}
use Rattle.lnbd_rehearsal.proofs.rehearsing.copy.Goals as goal

pub new-requires : goal.new-requires
new-requires c = usual_limited

pub returns-in-Ok-clause-copies : goal.returns-in-Ok-clause-copies
returns-in-Ok-clause-copies c =
    copies_between c.new.result.from c.new.result.to _ _ c.new.result.options.destination_is_zero (c.new.ensures.what.1 ∙ c.in_ok-from.ensures) (c.new.ensures.what.2 ∙ c.in_ok-to.ensures)
    (ap (λ (o : CopyOptions). o.destination_is_zero) c.new.ensures.what.0) (λ apart. c.in-Ok.ensures.copies apart)

pub returns-in-Ok-clause-made : goal.returns-in-Ok-clause-made
returns-in-Ok-clause-made c =
    made_between c.new.result.options c.new.result.from c.new.result.to _ _ _ c.new.ensures.what.0 (c.new.ensures.what.1 ∙ c.in_ok-from.ensures) (c.new.ensures.what.2 ∙ c.in_ok-to.ensures) (λ apart. c.in-Ok.ensures.made apart)

pub returns-in-Ok-clause-conducts : goal.returns-in-Ok-clause-conducts
returns-in-Ok-clause-conducts c =
    conducts_between c.new.result.options c.new.result.from c.new.result.to _ _ c.new.ensures.what.0 (c.new.ensures.what.1 ∙ c.in_ok-from.ensures) (c.new.ensures.what.2 ∙ c.in_ok-to.ensures) c.in-Ok.ensures.conducts
