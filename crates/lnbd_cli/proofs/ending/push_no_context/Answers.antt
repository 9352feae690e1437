use Rattle.std.specs.Prelude.{codes}
use Rattle.lnbd_cli.proofs.EndLemmas.{pushed}
use Rattle.lnbd_cli.proofs.ending.push_no_context.Goals as goal

pub returns : goal.returns
returns c = pushed c.push_str-2.result _ _ _ (codes "no-context ") _ _ c.push_str-2.ensures.bytes c.as_str.ensures.value c.in_ok-push_str.ensures.bytes
