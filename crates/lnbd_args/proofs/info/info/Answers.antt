use Rattle.std.proofs.Common.{◌≡◌, ◌∙◌, ◌∷◌, Err, List, [], false, true≢false, codes, map, string_bytes, refl, sym, ap, subst}
use Rattle.clap.specs.Matches.{found_of}
use Rattle.clap.specs.Walk.{rows_of, Row}
use Rattle.lnbd_args.specs.Tools.{Reads, info, info_rules, with_map}
use Rattle.lnbd_args.specs.Words.{Rule, Word, is_given}
use Rattle.lnbd_args.proofs.ToolLemmas.{Told, first_misplaced, handed_on, no_place, one_place, only_info, told_parts}
use Rattle.lnbd_args.proofs.info.info.Goals as goal

-- the same words, by the rules as the grammar has them
told_of : (rs : List Rule) (ws vs : List Word) (rows : List Row) → rs ≡ info_rules → ws ≡ vs → Told rs false ws rows → Told info_rules false vs rows
told_of rs ws vs rows e f h = subst (λ (x : List Word). Told info_rules false x rows) f (subst (λ (x : List Rule). Told x false ws rows) e h)

pub returns-then-not-is_fitting-clause-usage : goal.returns-then-not-is_fitting-clause-usage
returns-then-not-is_fitting-clause-usage c = λ is wanted reads.
    let ws = map string_bytes c.args.words.now in
    let rows = rows_of (found_of c.in_ok-found.found) in
    let told = told_of _ _ (with_map ws) rows c.info_rules-rules.ensures (ap (map string_bytes) c.deref.ensures.value ∙ c.in-Ok.ensures) c.in_ok-found.ensures.told in
    only_info ws wanted reads (λ asked json address parts are places h.
    let t = told_parts info_rules false (with_map ws) rows parts refl told are in
    true≢false (sym h.fits ∙ sym (c.is_fitting.ensures parts t) ∙ c.if-not-is_fitting.true))

pub returns-in_err-what-clause-usage : goal.returns-in_err-what-clause-usage
returns-in_err-what-clause-usage c = λ is wanted reads.
    let ws = map string_bytes c.args.words.now in
    let rows = rows_of (found_of c.in_ok-found.found) in
    let told = told_of _ _ (with_map ws) rows c.info_rules-rules.ensures (ap (map string_bytes) c.deref.ensures.value ∙ c.in-Ok.ensures) c.in_ok-found.ensures.told in
    only_info ws wanted reads (λ asked json address parts are places h.
    let t = told_parts info_rules false (with_map ws) rows parts refl told are in
    c.in_err-what.ensures.usage parts t (ap Err (handed_on c.from_residual-in_err-what.result _ _ c.from_residual-in_err-what.ensures.1 is)) asked h.what_is)

pub returns-in_default-clause-usage : goal.returns-in_default-clause-usage
returns-in_default-clause-usage c = λ is wanted reads.
    let ws = map string_bytes c.args.words.now in
    let rows = rows_of (found_of c.in_ok-found.found) in
    let told = told_of _ _ (with_map ws) rows c.info_rules-rules.ensures (ap (map string_bytes) c.deref.ensures.value ∙ c.in-Ok.ensures) c.in_ok-found.ensures.told in
    only_info ws wanted reads (λ asked json address parts are places h.
    no_place info_rules false rows parts address [] (told_parts info_rules false (with_map ws) rows parts refl told are) c.in_default.ensures places)

pub returns-in_err-place-clause-address : goal.returns-in_err-place-clause-address
returns-in_err-place-clause-address c fault is =
    let ws = map string_bytes c.args.words.now in
    let rows = rows_of (found_of c.in_ok-found.found) in
    let told = told_of _ _ (with_map ws) rows c.info_rules-rules.ensures (ap (map string_bytes) c.deref.ensures.value ∙ c.in-Ok.ensures) c.in_ok-found.ensures.told in
    let reads : Reads (codes "nbdinfo" ∷ ws) (info c.in_ok-what.what (is_given (codes "json") told.0) c.in-Some.address.now) = (
      ws,
      refl,
      told.0,
      told.1,
      one_place info_rules rows told.0 _ told.2 c.in-Some.ensures,
      record { what_is = c.in_ok-what.ensures.what told.0 told.2; json_is = refl; fits = sym (c.is_fitting.ensures told.0 told.2) ∙ c.if-not-is_fitting.false },
    ) in
    first_misplaced (codes "nbdinfo" ∷ ws) (info c.in_ok-what.what (is_given (codes "json") told.0) c.in-Some.address.now) c.in-Some.address.now [] c.in_err-place.field-0.0 fault
    reads refl c.in_err-place.ensures.fault (handed_on c.from_residual-in_err-place.result _ _ c.from_residual-in_err-place.ensures.1 is)

pub returns-clause-asked : goal.returns-clause-asked
returns-clause-asked c =
    let ws = map string_bytes c.args.words.now in
    let rows = rows_of (found_of c.in_ok-found.found) in
    let told = told_of _ _ (with_map ws) rows c.info_rules-rules.ensures (ap (map string_bytes) c.deref.ensures.value ∙ c.in-Ok.ensures) c.in_ok-found.ensures.told in (
      c.in-Some.address.now,
      (
        ws,
        refl,
        told.0,
        told.1,
        one_place info_rules rows told.0 _ told.2 c.in-Some.ensures,
        record { what_is = c.in_ok-what.ensures.what told.0 told.2; json_is = c.is_given-json.ensures ∙ told.2.flag (codes "json") _ refl refl; fits = sym (c.is_fitting.ensures told.0 told.2) ∙ c.if-not-is_fitting.false },
      ),
      c.in_ok-place.ensures.place,
    )
