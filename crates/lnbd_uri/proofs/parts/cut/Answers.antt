use Rattle.std.proofs.Common.{◌≢◌, None, Some}
use Rattle.std.proofs.lemmas.List.Elements.{All-from_get_or}
use Rattle.std.proofs.lemmas.Str.Pattern.{split_parts}
use Rattle.lnbd_uri.proofs.parts.cut.Goals as goal

pub returns-in-Some-clause-first : goal.returns-in-Some-clause-first
returns-in-Some-clause-first c =
    All-from_get_or (λ b. b ≢ c.args.mark) c.in-Some.before.now 0
    (split_parts c.args.mark c.args.text.now (Some (c.in-Some.before, c.in-Some.after)) c.in-Some.ensures.cases c.requires).1

pub returns-in-None-clause-first : goal.returns-in-None-clause-first
returns-in-None-clause-first c =
    All-from_get_or (λ b. b ≢ c.args.mark) c.args.text.now 0
    (split_parts c.args.mark c.args.text.now None c.in-None.ensures.cases c.requires)
