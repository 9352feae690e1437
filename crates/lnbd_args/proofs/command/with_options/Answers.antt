use Rattle.std.proofs.Common.{◌≡◌, ◌∙◌, ◌<◌, ◌+◌, ℕ, List, ◌++◌, ◌∷◌, [], map, take, get_or, length, sym, ap, add-one}
use Rattle.std.proofs.Math.Seq.{take-suc}
use Rattle.std.proofs.lemmas.List.{map_push}
use Rattle.clap.specs.Simple.{with_rule}
use Rattle.clap.specs.Walk.{rule_of as arg_rule}
use Rattle.lnbd_args.specs.Clap.{app, arg_of}
use Rattle.lnbd_args.specs.Written.{rule_of}
use Rattle.lnbd_args.specs.declared.rule.Rule as code
use Rattle.lnbd_args.proofs.command.with_options.Goals as goal

-- one argument more
more : (rs : List code.Rule) (i : ℕ) (d : code.Rule) → i < length rs
    → app (map arg_of (map rule_of (take (i + 1) rs))) ≡ with_rule (app (map arg_of (map rule_of (take i rs)))) (arg_of (rule_of (get_or rs i d)))
more rs i d lt =
    let next : take (i + 1) rs ≡ take i rs ++ get_or rs i d ∷ [] = rw add-one (take-suc rs i d lt) in
    ap (λ xs. app (map arg_of (map rule_of xs))) next
    ∙ ap (λ xs. app (map arg_of xs)) (map_push rule_of (take i rs) (get_or rs i d))
    ∙ ap app (map_push arg_of (map rule_of (take i rs)) (rule_of (get_or rs i d)))

pub loop-rule-preserved : goal.loop-rule-preserved
loop-rule-preserved c =
    let step = c.in_ok-command.ensures.shape c.option.ensures.local in
    step ∙ ap (λ a. with_rule a (arg_rule c.option.result)) c.loop-rule.invariant
    ∙ ap (with_rule (app (map arg_of (map rule_of (take c.loop-rule.rule-index c.args.rules.now))))) c.option.ensures.rule
    ∙ sym (more c.args.rules.now c.loop-rule.rule-index _ c.loop-rule-test.true)
