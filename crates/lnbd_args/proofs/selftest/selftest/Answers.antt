use Rattle.std.proofs.Common.{◌∙◌, ◌∷◌, [], true, map, string_bytes, refl, sym, subst}
use Rattle.clap.specs.Matches.{found_of}
use Rattle.clap.specs.Walk.{rows_of}
use Rattle.lnbd_args.specs.Tools.{IsNumber}
use Rattle.lnbd_args.specs.Words.{Word}
use Rattle.lnbd_args.proofs.ToolLemmas.{no_place, no_second, only_selftest, same_pair, told_parts, two_places}
use Rattle.lnbd_args.proofs.selftest.selftest.Goals as goal

pub returns-in_default-clause-usage : goal.returns-in_default-clause-usage
returns-in_default-clause-usage c = λ is wanted reads.
    let ws = map string_bytes c.args.words.now in
    let rows = rows_of (found_of c.in_ok-found.found) in
    only_selftest ws wanted reads (λ first second seed size parts are places m n.
    no_place [] true rows parts first (second ∷ []) (told_parts [] true ws rows parts refl c.in_ok-found.ensures.told are) c.in_default.ensures places)

pub returns-in_default-value-clause-usage : goal.returns-in_default-value-clause-usage
returns-in_default-value-clause-usage c = λ is wanted reads.
    let ws = map string_bytes c.args.words.now in
    let rows = rows_of (found_of c.in_ok-found.found) in
    only_selftest ws wanted reads (λ first second seed size parts are places m n.
    no_second [] rows parts first second (told_parts [] true ws rows parts refl c.in_ok-found.ensures.told are) c.in_default-value.ensures places)

pub returns-in_default-number-clause-usage : goal.returns-in_default-number-clause-usage
returns-in_default-number-clause-usage c = λ is wanted reads.
    let ws = map string_bytes c.args.words.now in
    let rows = rows_of (found_of c.in_ok-found.found) in
    only_selftest ws wanted reads (λ first second seed size parts are places m n.
    let t = told_parts [] true ws rows parts refl c.in_ok-found.ensures.told are in
    let both = same_pair c.in-Some.seed.now c.in-Some-value.size.now first second (sym (two_places [] rows parts _ _ t c.in-Some.ensures c.in-Some-value.ensures) ∙ places) in
    c.in_default-number.ensures seed (subst (λ (d : Word). IsNumber d seed) (sym both.0) m))

pub returns-in_default-number-2-clause-usage : goal.returns-in_default-number-2-clause-usage
returns-in_default-number-2-clause-usage c = λ is wanted reads.
    let ws = map string_bytes c.args.words.now in
    let rows = rows_of (found_of c.in_ok-found.found) in
    only_selftest ws wanted reads (λ first second seed size parts are places m n.
    let t = told_parts [] true ws rows parts refl c.in_ok-found.ensures.told are in
    let both = same_pair c.in-Some.seed.now c.in-Some-value.size.now first second (sym (two_places [] rows parts _ _ t c.in-Some.ensures c.in-Some-value.ensures) ∙ places) in
    c.in_default-number-2.ensures size (subst (λ (d : Word). IsNumber d size) (sym both.1) n))

pub returns-clause-asked : goal.returns-clause-asked
returns-clause-asked c =
    let ws = map string_bytes c.args.words.now in
    let rows = rows_of (found_of c.in_ok-found.found) in
    let told = c.in_ok-found.ensures.told in (
      ws,
      refl,
      told.0,
      told.1,
      (
        c.in-Some.seed.now,
        c.in-Some-value.size.now,
        two_places [] rows told.0 _ _ told.2 c.in-Some.ensures c.in-Some-value.ensures,
        c.in-Some-number.ensures,
        c.in-Some-number-2.ensures,
      ),
    )
