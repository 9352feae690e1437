use Rattle.std.proofs.Common.{◌∷◌, List, [], true, map, string_bytes, refl, subst}
use Rattle.clap.specs.Matches.{found_of}
use Rattle.clap.specs.Walk.{rows_of}
use Rattle.lnbd_args.specs.Tools.{copy_rules}
use Rattle.lnbd_args.specs.Words.{Rule}
use Rattle.lnbd_args.proofs.SideLemmas.{no_sides}
use Rattle.lnbd_args.proofs.ToolLemmas.{Told, no_place, no_second, only_copy, told_parts, two_places}
use Rattle.lnbd_args.proofs.copy.copy_words.Goals as goal

pub returns-in_default-clause-usage : goal.returns-in_default-clause-usage
returns-in_default-clause-usage c = λ is wanted reads.
    let ws = map string_bytes c.args.words.now in
    let rows = rows_of (found_of c.in_ok-found.found) in
    let told = subst (λ (rs : List Rule). Told rs true ws rows) c.copy_rules-rules.ensures c.in_ok-found.ensures.told in
    only_copy ws wanted reads (λ options from to parts are places asked sides.
    c.in_default.ensures parts (told_parts copy_rules true ws rows parts refl told are) options asked)

pub returns-in_default-value-clause-usage : goal.returns-in_default-value-clause-usage
returns-in_default-value-clause-usage c = λ is wanted reads.
    let ws = map string_bytes c.args.words.now in
    let rows = rows_of (found_of c.in_ok-found.found) in
    let told = subst (λ (rs : List Rule). Told rs true ws rows) c.copy_rules-rules.ensures c.in_ok-found.ensures.told in
    only_copy ws wanted reads (λ options from to parts are places asked sides.
    no_place copy_rules true rows parts from (to ∷ []) (told_parts copy_rules true ws rows parts refl told are) c.in_default-value.ensures places)

pub returns-in_default-value-2-clause-usage : goal.returns-in_default-value-2-clause-usage
returns-in_default-value-2-clause-usage c = λ is wanted reads.
    let ws = map string_bytes c.args.words.now in
    let rows = rows_of (found_of c.in_ok-found.found) in
    let told = subst (λ (rs : List Rule). Told rs true ws rows) c.copy_rules-rules.ensures c.in_ok-found.ensures.told in
    only_copy ws wanted reads (λ options from to parts are places asked sides.
    no_second copy_rules rows parts from to (told_parts copy_rules true ws rows parts refl told are) c.in_default-value-2.ensures places)

pub returns-then-not-are_sides-clause-usage : goal.returns-then-not-are_sides-clause-usage
returns-then-not-are_sides-clause-usage c = λ is wanted reads.
    let ws = map string_bytes c.args.words.now in
    let rows = rows_of (found_of c.in_ok-found.found) in
    let told = subst (λ (rs : List Rule). Told rs true ws rows) c.copy_rules-rules.ensures c.in_ok-found.ensures.told in
    only_copy ws wanted reads (λ options from to parts are places asked sides.
    let here = two_places copy_rules rows parts _ _ (told_parts copy_rules true ws rows parts refl told are) c.in-Some-value.ensures c.in-Some-value-2.ensures in
    no_sides _ _ from to parts c.are_sides.result here places c.are_sides.ensures c.if-not-are_sides.true sides)

pub returns-clause-reads : goal.returns-clause-reads
returns-clause-reads c =
    let ws = map string_bytes c.args.words.now in
    let rows = rows_of (found_of c.in_ok-found.found) in
    let told = subst (λ (rs : List Rule). Told rs true ws rows) c.copy_rules-rules.ensures c.in_ok-found.ensures.told in
    let sides = c.are_sides.ensures.0 c.if-not-are_sides.false in
    (ws, refl, told.0, told.1, (two_places copy_rules rows told.0 _ _ told.2 c.in-Some-value.ensures c.in-Some-value-2.ensures, c.in-Some.ensures told.0 told.2, sides))
