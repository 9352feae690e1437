use Rattle.std.proofs.Common.{subst, map, string_bytes, ◌∙◌, ap}
use Rattle.clap.specs.Faults.{fault_of, is_simple_and_free}
use Rattle.clap.specs.Kinds.{FailsBy}
use Rattle.clap.specs.Simple.{App}
use Rattle.lnbd_args.specs.Written.{rule_of}
use Rattle.lnbd_args.proofs.ReadLemmas.{simple_from}
use Rattle.lnbd_args.proofs.command.matches.Goals as goal

pub returns-clause-fault : goal.returns-clause-fault
returns-clause-fault c =
    let built = c.in_ok-tool.ensures in
    subst (λ (a : App). FailsBy (fault_of a (map string_bytes c.args.words.now)) c.try_get_matches_from.result) built
    (c.try_get_matches_from.ensures.kinds (ap is_simple_and_free built ∙ simple_from (map rule_of c.args.rules.now) c.args.has_second c.requires))
