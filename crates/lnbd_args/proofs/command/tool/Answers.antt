use Rattle.std.proofs.Common.{◌∙◌, ◌∷◌, ◌++◌, [], map, ap, sym, append_assoc}
use Rattle.clap.specs.Simple.{with_rule}
use Rattle.clap.specs.Walk.{rule_of as arg_rule}
use Rattle.lnbd_args.specs.Clap.{app, arg_of, first_id, place_arg, second_id, tool_app}
use Rattle.lnbd_args.specs.Written.{rule_of}
use Rattle.lnbd_args.proofs.command.tool.Goals as goal

pub returns : goal.returns
returns c =
    let xs = map arg_of (map rule_of c.args.rules.now) in
    c.in_ok-command-2.ensures.shape c.place.ensures.local
    ∙ ap (λ a. with_rule a (arg_rule c.place.result)) c.in_ok-command.ensures
    ∙ ap (with_rule (app (xs ++ place_arg first_id ∷ []))) c.place.ensures.rule
    ∙ ap app (append_assoc xs (place_arg first_id ∷ []) (place_arg second_id ∷ []))
    ∙ ap (tool_app (map rule_of c.args.rules.now)) (sym c.if-not-has_second.false)
