use Rattle.lnbd_lines.proofs.NumberLemmas.{no_sign, number_read}
use Rattle.lnbd_lines.proofs.number.number.Goals as goal

pub returns : goal.returns
returns c =
    rw c.ok.ensures.value
    (number_read c.args.digits.now c.parse.result c.parse.ensures.value.0 (no_sign c.args.digits.now c.if-starts_with.ensures.cases))
