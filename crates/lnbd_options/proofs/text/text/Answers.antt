use Rattle.std.proofs.Common.{ℕ, List, subst}
use Rattle.lnbd_model.specs.Text.{IsText}
use Rattle.lnbd_options.proofs.TextLemmas.{is_a_text}
use Rattle.lnbd_options.proofs.text.text.Goals as goal

pub returns-in-Ok : goal.returns-in-Ok
returns-in-Ok c =
    let P : List ℕ → Type 0 = λ t. IsText t in
    let is = subst P c.in-Ok.ensures.ok c.in-Ok.ensures.ok_is_text in
    (c.in-Ok.ensures.ok, is_a_text c.args.bytes.now is.0 is.1)
