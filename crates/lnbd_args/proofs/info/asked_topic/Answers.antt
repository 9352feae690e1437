use Rattle.std.proofs.Common.{◌∙◌, List, MatchOption, sym, subst}
use Rattle.clap.specs.Matches.{found_of}
use Rattle.clap.specs.Walk.{rows_of}
use Rattle.lnbd_args.specs.Words.{Word}
use Rattle.lnbd_args.specs.Written.{IsTopic, chosen_by}
use Rattle.lnbd_args.specs.declared.info.Topic.{Topic}
use Rattle.lnbd_args.proofs.InfoLemmas.{chosen_is}
use Rattle.lnbd_args.proofs.info.asked_topic.Goals as goal

pub returns : goal.returns
returns c parts t =
    let l = c.is_given-list.ensures in
    let s = c.is_given-size.ensures in
    let m = c.is_given-map.ensures in
    let i = c.has_value-is.ensures in
    let k = c.has_value-can.ensures in
    let same = chosen_is (rows_of (found_of c.args.found.now)) parts t in
    subst (λ (names : List Word). MatchOption c.topic_of.result ((topic : Topic) → IsTopic names topic → ⊥) (λ topic. IsTopic names topic))
    (sym (same ∙ (λ j. chosen_by (sym l j) (sym s j) (sym m j) (sym i j) (sym k j)))) c.topic_of.ensures
