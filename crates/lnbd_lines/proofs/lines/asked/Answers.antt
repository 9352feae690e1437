use Rattle.lnbd_lines.proofs.LineLemmas.{asks_at_last}
use Rattle.lnbd_lines.proofs.lines.asked.Goals as goal

pub returns : goal.returns
returns c =
    let no_issue = rw c.in_default.is at c.in_ok-line.ensures in
    asks_at_last c.args.text.now c.named.result no_issue c.in_default-plain.ensures c.named.ensures
