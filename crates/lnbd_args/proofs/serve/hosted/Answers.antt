use Rattle.std.proofs.Common.{Err, List, [], false, ap, map, string_bytes, refl, subst}
use Rattle.clap.specs.Matches.{found_of}
use Rattle.clap.specs.Walk.{rows_of}
use Rattle.lnbd_args.specs.Tools.{serve_rules}
use Rattle.lnbd_args.specs.Words.{Rule}
use Rattle.lnbd_args.proofs.ToolLemmas.{Told, handed_on, no_place, one_place, told_parts}
use Rattle.lnbd_args.proofs.serve.hosted.Goals as goal

pub returns-in_default-clause-usage : goal.returns-in_default-clause-usage
returns-in_default-clause-usage c is content read_only sessions address h =
    let ws = map string_bytes c.args.own.now in
    let rows = rows_of (found_of c.in_ok-found.found) in
    let told = subst (λ (rs : List Rule). Told rs false ws rows) c.serve_rules-rules.ensures c.in_ok-found.ensures.told in
    no_place serve_rules false rows h.parts address [] (told_parts serve_rules false ws rows h.parts refl told h.are) c.in_default.ensures h.place_is

pub returns-in_err-options-clause-usage : goal.returns-in_err-options-clause-usage
returns-in_err-options-clause-usage c is content read_only sessions address h =
    let ws = map string_bytes c.args.own.now in
    let rows = rows_of (found_of c.in_ok-found.found) in
    let told = subst (λ (rs : List Rule). Told rs false ws rows) c.serve_rules-rules.ensures c.in_ok-found.ensures.told in
    c.in_err-options.ensures.usage h.parts (told_parts serve_rules false ws rows h.parts refl told h.are)
    (ap Err (handed_on c.from_residual-in_err-options.result _ _ c.from_residual-in_err-options.ensures.1 is)) content read_only sessions h.serves

pub returns-clause-hosts : goal.returns-clause-hosts
returns-clause-hosts c =
    let ws = map string_bytes c.args.own.now in
    let rows = rows_of (found_of c.in_ok-found.found) in
    let told = subst (λ (rs : List Rule). Told rs false ws rows) c.serve_rules-rules.ensures c.in_ok-found.ensures.told in
    record { parts = told.0; are = told.1; place_is = one_place serve_rules rows told.0 _ told.2 c.in-Some.ensures; serves = c.in_ok-options.ensures.served told.0 told.2 }
