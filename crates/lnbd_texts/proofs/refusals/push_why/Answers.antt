use Rattle.lnbd_texts.proofs.TextLemmas.{pushed_behind}
use Rattle.lnbd_texts.proofs.refusals.push_why.Goals as goal

pub returns-in_ok-push_str-in-Unsupported : goal.returns-in_ok-push_str-in-Unsupported
returns-in_ok-push_str-in-Unsupported c =
    rw c.in-Unsupported.is (pushed_behind c.push_lack.result _ _ _ _ _ c.in_ok-push_str-in-Unsupported.ensures.bytes c.push_lack.ensures)
