use Rattle.lnbd_texts.proofs.TextLemmas.{pushed_behind}
use Rattle.lnbd_texts.proofs.refusals.push_refused_state.Goals as goal

pub returns : goal.returns
returns c = pushed_behind c.push_state.result _ _ _ _ _ c.in_ok-push_str.ensures.bytes c.push_state.ensures
