use Rattle.std.proofs.Common.{List, [], false, map, string_bytes, refl, subst}
use Rattle.clap.specs.Matches.{found_of}
use Rattle.clap.specs.Walk.{rows_of}
use Rattle.lnbd_args.specs.Tools.{dump_rules}
use Rattle.lnbd_args.specs.Words.{Rule}
use Rattle.lnbd_args.proofs.ToolLemmas.{Told, no_place, one_place, only_dump, told_parts}
use Rattle.lnbd_args.proofs.dump.dump_words.Goals as goal

pub returns-in_default-clause-usage : goal.returns-in_default-clause-usage
returns-in_default-clause-usage c = λ is wanted reads.
    let ws = map string_bytes c.args.words.now in
    let rows = rows_of (found_of c.in_ok-found.found) in
    let told = subst (λ (rs : List Rule). Told rs false ws rows) c.dump_rules-rules.ensures c.in_ok-found.ensures.told in
    only_dump ws wanted reads (λ offset length address parts are places asked.
    c.in_default.ensures parts (told_parts dump_rules false ws rows parts refl told are) offset length asked)

pub returns-in_default-value-clause-usage : goal.returns-in_default-value-clause-usage
returns-in_default-value-clause-usage c = λ is wanted reads.
    let ws = map string_bytes c.args.words.now in
    let rows = rows_of (found_of c.in_ok-found.found) in
    let told = subst (λ (rs : List Rule). Told rs false ws rows) c.dump_rules-rules.ensures c.in_ok-found.ensures.told in
    only_dump ws wanted reads (λ offset length address parts are places asked.
    no_place dump_rules false rows parts address [] (told_parts dump_rules false ws rows parts refl told are) c.in_default-value.ensures places)

pub returns-clause-reads : goal.returns-clause-reads
returns-clause-reads c =
    let ws = map string_bytes c.args.words.now in
    let rows = rows_of (found_of c.in_ok-found.found) in
    let told = subst (λ (rs : List Rule). Told rs false ws rows) c.dump_rules-rules.ensures c.in_ok-found.ensures.told in
    (ws, refl, told.0, told.1, (one_place dump_rules rows told.0 _ told.2 c.in-Some-value.ensures, c.in-Some.ensures told.0 told.2))
