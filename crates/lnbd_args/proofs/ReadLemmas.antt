-- clap takes a tool's words exactly where they are parts, and tells what the parts tell.
use Rattle.std.proofs.Common.{◌≡◌, ◌∙◌, ◌≤◌, ℕ, ◌==◌, ◌&&◌, ◌||◌, Bool, true, false, not, List, [], ◌∷◌, length, Option, Some, None, is_some, refl, sym, ap, arith, true≢false, subst}
use Rattle.std.specs.Prelude.{nat_lt, fold}
use Rattle.std.specs.List.{list_all}
use Rattle.std.specs.Option.{option_map_or}
use Rattle.std.specs.Str.{bytes_eq}
use Rattle.std.specs.Cmp.Lexicographic.{same_text}
use Rattle.std.proofs.lemmas.Bool.{and_parts}
use Rattle.std.proofs.lemmas.Bool.Decides.{nat_tests}
use Rattle.clap.specs.Faults.{fault_of, is_simple_and_free}
use Rattle.clap.specs.Kinds.{Kinds}
use Rattle.clap.specs.Lexer.{has_byte}
use Rattle.clap.specs.Simple.{matches_of}
use Rattle.clap.specs.Walk.{Row, with_default, idle}
use Rattle.lnbd_args.specs.Words.{AreParts, Part, flag, value, place, Rule, Word, places, rule_lettered, rule_named}
use Rattle.lnbd_args.specs.Clap.{Tells, are_fair, first_id, has_flag, is_fair, is_fit_letter, is_fit_rule, is_same, is_table, is_true, room, second_id, tool_app}
use Rattle.lnbd_args.proofs.Scan.{scan}
use Rattle.lnbd_args.proofs.ClapLemmas.{args, ok}
use Rattle.lnbd_args.proofs.StepLemmas.{at, run}
use Rattle.lnbd_args.proofs.LawLemmas.{Fits, added, are_ascii_flags, first, grown, named_name, walk_law}
use Rattle.lnbd_args.proofs.LevelLemmas.{fails_is, rows_is}
use Rattle.lnbd_args.proofs.LookLemmas.{first_value, found_added, found_with_defaults, row_in, told_with_defaults}
use Rattle.lnbd_args.proofs.FaceLemmas.{fair_flags}
use Rattle.lnbd_args.proofs.SpellLemmas.{AreFilled, HaveRules, complete, have_rules, spelled_from}
use Rattle.lnbd_args.proofs.OnceLemmas.{Kept, adds, given_value, kept_by, told_first, told_flag, told_second, told_value, room as spots_left}

none_some : {X : Type 0} (x : X) → ◌≡◌ {A = Option X} None (Some x) → ⊥
none_some x e = absurd (cc)

some_is : {X : Type 0} (x y : X) → Some x ≡ Some y → x ≡ y
some_is x y e = cc

turned : (t : Bool) → not t ≡ true → t ≡ false
turned true e = absurd (true≢false (sym e))
turned false e = refl

-- ---- a table that passes the test fits the law

named_passes : (rs qs : List Rule) (name : Word) (r : Rule) → list_all (is_fit_rule rs) qs ≡ true → rule_named qs name ≡ Some r → is_fit_rule rs r ≡ true
named_passes rs [] name r all e = absurd (none_some r e)
named_passes rs (q ∷ qs) name r all e = go (bytes_eq q.name name) refl (named_passes rs qs name r (and_parts (is_fit_rule rs q) _ all).1)
  where
    go : (t : Bool) → bytes_eq q.name name ≡ t → (rule_named qs name ≡ Some r → is_fit_rule rs r ≡ true) → is_fit_rule rs r ≡ true
    go true t ih = subst (λ x. is_fit_rule rs x ≡ true) (some_is q r (rw t at e)) (and_parts (is_fit_rule rs q) _ all).0
    go false t ih = ih (rw t at e)

lettered_passes : (rs qs : List Rule) (x : ℕ) (r : Rule) → list_all (is_fit_rule rs) qs ≡ true → rule_lettered qs x ≡ Some r
    → (is_fit_rule rs r ≡ true) × (option_map_or (λ l. l == x) r.letter false ≡ true)
lettered_passes rs [] x r all e = absurd (none_some r e)
lettered_passes rs (q ∷ qs) x r all e = go (option_map_or (λ l. l == x) q.letter false) refl (lettered_passes rs qs x r (and_parts (is_fit_rule rs q) _ all).1)
  where
    go : (t : Bool) → option_map_or (λ l. l == x) q.letter false ≡ t → (rule_lettered qs x ≡ Some r → (is_fit_rule rs r ≡ true) × (option_map_or (λ l. l == x) r.letter false ≡ true))
        → (is_fit_rule rs r ≡ true) × (option_map_or (λ l. l == x) r.letter false ≡ true)
    go true t ih = subst (λ y. (is_fit_rule rs y ≡ true) × (option_map_or (λ l. l == x) y.letter false ≡ true)) (some_is q r (rw t at e)) ((and_parts (is_fit_rule rs q) _ all).0, t)
    go false t ih = ih (rw t at e)

equal : (a b : ℕ) → (a == b) ≡ true → a ≡ b
equal a b e = grind (arith, nat_tests)

record FitParts (rs : List Rule) (r : Rule) : Type 0 where
  named : nat_lt 0 (length r.name) ≡ true
  plain : has_byte 61 r.name ≡ false
  letter : option_map_or (is_fit_letter rs r) r.letter true ≡ true
  kind : (not r.has_value || not (has_flag r.name rs)) ≡ true

fit_parts : (rs : List Rule) (r : Rule) → is_fit_rule rs r ≡ true → FitParts rs r
fit_parts rs r fit =
    let a = and_parts (nat_lt 0 (length r.name)) _ fit in
    let c = and_parts (not (has_byte 61 r.name)) _ a.1 in
    let d = and_parts (option_map_or (is_fit_letter rs r) r.letter true) (not r.has_value || not (has_flag r.name rs)) c.1 in
    record { named = a.0; plain = turned (has_byte 61 r.name) c.0; letter = d.0; kind = d.1 }

letter_fits : (rs : List Rule) (r : Rule) (x : ℕ) → is_fit_rule rs r ≡ true → option_map_or (λ l. l == x) r.letter false ≡ true → is_fit_letter rs r x ≡ true
letter_fits rs r x fit e = go r.letter refl
  where
    go : (o : Option ℕ) → r.letter ≡ o → is_fit_letter rs r x ≡ true
    go None l = absurd (true≢false (sym (rw l at e)))
    go (Some l) is =
        let same : (l == x) ≡ true = rw is at e in
        let test : is_fit_letter rs r l ≡ true = sym (ap (λ (o : Option ℕ). option_map_or (is_fit_letter rs r) o true) is) ∙ (fit_parts rs r fit).letter in
        subst (λ y. is_fit_letter rs r y ≡ true) (equal l x same) test

same_is : (o : Option Rule) (r : Rule) → r.has_value ≡ true → is_same o r ≡ true → o ≡ Some r
same_is None r v e = absurd (true≢false (sym e))
same_is (Some q) r v e = go r.letter refl q.letter refl
  where
    go : (a : Option ℕ) → r.letter ≡ a → (c : Option ℕ) → q.letter ≡ c → Some q ≡ Some r
    go None a c d = absurd (true≢false (sym (and_parts (bytes_eq q.name r.name && q.has_value) false (rw a at e)).1))
    go (Some l) a None d = absurd (true≢false (sym (and_parts (bytes_eq q.name r.name && q.has_value) false (rw (a, d) at e)).1))
    go (Some l) a (Some k) d =
        let h = and_parts (bytes_eq q.name r.name && q.has_value) (k == l) (rw (a, d) at e) in
        let g = and_parts (bytes_eq q.name r.name) q.has_value h.0 in
        let letters : q.letter ≡ r.letter = d ∙ ap (λ y. Some y) (equal k l h.1) ∙ sym a in
        let names = same_text q.name r.name (sym g.0) in
        let kinds : q.has_value ≡ r.has_value = g.1 ∙ sym v in
        λ i. Some (record { name = names i; letter = letters i; has_value = kinds i })

pub fits_from : (rs : List Rule) (b : Bool) → is_table rs b ≡ true → Fits rs
fits_from rs b e =
    let p = and_parts (list_all (is_fit_rule rs) rs) _ e in
    let q = and_parts (not (is_some (rule_named rs first_id))) _ p.1 in
    let u = and_parts (not (is_some (rule_named rs second_id))) _ q.1 in
    record {
      no_first = no_some (rule_named rs first_id) q.0;
      no_second = no_some (rule_named rs second_id) u.0;
      letters = λ x r l.
          let h = lettered_passes rs rs x r p.0 l in
          let f = and_parts _ _ (letter_fits rs r x h.0 h.1) in
          let g = and_parts _ _ (and_parts _ _ f.1).1 in
          (same_is (rule_named rs r.name) r g.0 g.1, g.0);
      marks = λ x r l.
          let h = lettered_passes rs rs x r p.0 l in
          let f = and_parts _ _ (letter_fits rs r x h.0 h.1) in
          (turned (x == 45) f.0, (and_parts _ _ f.1).0);
      plain = λ name r n.
          let h = fit_parts rs r (named_passes rs rs name r p.0 n) in
          let same = named_name rs name r n in
          (subst (λ (y : Word). nat_lt 0 (length y) ≡ true) same h.named, subst (λ (y : Word). has_byte 61 y ≡ false) same h.plain);
    }
  where
    no_some : (o : Option Rule) → not (is_some o) ≡ true → o ≡ None
    no_some None e = refl
    no_some (Some r) e = absurd (true≢false (sym e))

pub simple_from : (rs : List Rule) (b : Bool) → is_table rs b ≡ true → is_simple_and_free (tool_app rs b) ≡ true
simple_from rs b e =
    let p = and_parts (list_all (is_fit_rule rs) rs) _ e in
    let q = and_parts (not (is_some (rule_named rs first_id))) _ p.1 in
    (and_parts (not (is_some (rule_named rs second_id))) _ q.1).1

value_no_flag : (rs : List Rule) (b : Bool) (name : Word) (r : Rule) → is_table rs b ≡ true → rule_named rs name ≡ Some r → r.has_value ≡ true → has_flag name rs ≡ false
value_no_flag rs b name r e n v =
    let p = and_parts (list_all (is_fit_rule rs) rs) _ e in
    let h = fit_parts rs r (named_passes rs rs name r p.0 n) in
    subst (λ (y : Word). has_flag y rs ≡ false) (named_name rs name r n) (go r.has_value v (has_flag r.name rs) h.kind)
  where
    go : (t : Bool) → t ≡ true → (f : Bool) → (not t || not f) ≡ true → f ≡ false
    go true v false e = refl
    go true v true e = absurd (true≢false (sym e))
    go false v f e = absurd (true≢false (sym v))

unnamed_no_flag : (rs : List Rule) (name : Word) → rule_named rs name ≡ None → has_flag name rs ≡ false
unnamed_no_flag [] name e = refl
unnamed_no_flag (r ∷ rs) name e = go (bytes_eq r.name name) refl r.has_value refl (unnamed_no_flag rs name)
  where
    go : (t : Bool) → bytes_eq r.name name ≡ t → (v : Bool) → r.has_value ≡ v → (rule_named rs name ≡ None → has_flag name rs ≡ false) → has_flag name (r ∷ rs) ≡ false
    go true t v f ih = absurd (none_some r (sym (rw t at e)))
    go false t true v ih = rw v (ih (rw t at e))
    go false t false v ih = rw (v, t) (ih (rw t at e))

fair_is : (ws : List Word) → are_fair ws ≡ true → are_ascii_flags ws ≡ true
fair_is [] e = refl
fair_is (w ∷ ws) e = go (bytes_eq w (45 ∷ 45 ∷ [])) refl (is_fair w) refl (fair_is ws)
  where
    go : (t : Bool) → bytes_eq w (45 ∷ 45 ∷ []) ≡ t → (f : Bool) → is_fair w ≡ f → (are_fair ws ≡ true → are_ascii_flags ws ≡ true) → are_ascii_flags (w ∷ ws) ≡ true
    go true t f g ih = rw t refl
    go false t true f ih = rw (t, fair_flags w f) (ih (rw (t, f) at e))
    go false t false f ih = absurd (true≢false (sym (rw (t, f) at e)))

room_is : (b : Bool) → spots_left b first ≡ room b
room_is true = refl
room_is false = refl

module _ (rs : List Rule) (b : Bool) (table : is_table rs b ≡ true) (ws : List Word) where
  run_is : are_fair ws ≡ true → run rs b ws (at [] None idle 1 false) ≡ grown b first (scan rs ws None) []
  run_is fair = walk_law rs b (fits_from rs b table) ws (fair_is ws fair)

  told : (parts : List Part) (rows : List Row) → scan rs ws None ≡ Some parts → added b first parts [] ≡ Some rows → HaveRules rs (fits_from rs b table) parts → Kept b first parts
      → Tells rs b (fold with_default rows (args rs b)) parts
  told parts rows s e have kept = record {
    flag = λ name r n v. told_with_defaults b name rs rows ∙ ap (λ o. is_true (first_value o)) (found_added b name parts first [] rows e)
        ∙ told_flag rs (fits_from rs b table) b name r n v parts first have kept.fits;
    value = λ name r n v. ap first_value (found_with_defaults b name rs rows (value_no_flag rs b name r table n v) ∙ found_added b name parts first [] rows e)
        ∙ told_value rs (fits_from rs b table) b name r n v parts first have kept.fits;
    given = λ name r n v. given_value rs (fits_from rs b table) name r n v parts have ∙ sym (ap is_some
        (ap first_value (found_with_defaults b name rs rows (value_no_flag rs b name r table n v) ∙ found_added b name parts first [] rows e)
        ∙ told_value rs (fits_from rs b table) b name r n v parts first have kept.fits));
    first = ap first_value (found_with_defaults b first_id rs rows (unnamed_no_flag rs first_id (fits_from rs b table).no_first) ∙ found_added b first_id parts first [] rows e)
        ∙ told_first rs (fits_from rs b table) b parts have;
    second = λ is. ap first_value (found_with_defaults b second_id rs rows (unnamed_no_flag rs second_id (fits_from rs b table).no_second) ∙ found_added b second_id parts first [] rows e)
        ∙ ap (λ c. first_value (row_in c first second_id parts)) is ∙ told_second rs (fits_from rs b table) parts have;
    fits = subst (λ n. length (places parts) ≤ n) (room_is b) kept.fits;
  }

  -- where clap finds no fault, the words are parts, and its rows tell them
  pub read : are_fair ws ≡ true → fault_of (tool_app rs b) ws ≡ []
      → (parts : List Part) × AreParts rs ws parts × Tells rs b (matches_of (tool_app rs b) ws) parts
  read fair none = by_scan (scan rs ws None) refl
    where
      passes : is_some (grown b first (scan rs ws None) []) ≡ true
      passes = ap is_some (sym (run_is fair)) ∙ sym (fails_is rs b ws) ∙ ap ok none

      by_rows : (parts : List Part) → scan rs ws None ≡ Some parts → (o : Option (List Row)) → added b first parts [] ≡ o → is_some o ≡ true
          → (parts : List Part) × AreParts rs ws parts × Tells rs b (matches_of (tool_app rs b) ws) parts
      by_rows parts s None e p = absurd (true≢false (sym p))
      by_rows parts s (Some rows) e p =
          let kept = kept_by b parts first [] rows e in
          let spelled = spelled_from rs (fits_from rs b table) ws parts fair s kept.filled in
          let have = have_rules rs (fits_from rs b table) parts ws spelled in
          let walked : run rs b ws (at [] None idle 1 false) ≡ Some rows = run_is fair ∙ ap (λ o. grown b first o []) s ∙ e in
          (parts, record { spelled = spelled; once = kept.once }, subst (λ m. Tells rs b m parts) (sym (rows_is rs b ws rows walked)) (told parts rows s e have kept))

      by_scan : (o : Option (List Part)) → scan rs ws None ≡ o → (parts : List Part) × AreParts rs ws parts × Tells rs b (matches_of (tool_app rs b) ws) parts
      by_scan None s = absurd (true≢false (sym passes ∙ ap (λ o. is_some (grown b first o [])) s))
      by_scan (Some parts) s = by_rows parts s (added b first parts []) refl (sym (ap (λ o. is_some (grown b first o [])) s) ∙ passes)

  kept_from : (parts : List Part) → AreParts rs ws parts → length (places parts) ≤ room b → HaveRules rs (fits_from rs b table) parts → Kept b first parts
  kept_from parts h k have = record { once = h.once; filled = filled parts have; fits = subst (λ n. length (places parts) ≤ n) (sym (room_is b)) k }
    where
      filled : (parts : List Part) → HaveRules rs (fits_from rs b table) parts → AreFilled parts
      filled [] h = tt
      filled (flag n ∷ parts) h = filled parts h.1
      filled (value n v ∷ parts) h = (h.0.3, filled parts h.1)
      filled (place w ∷ parts) h = filled parts h.1

  -- words that are parts are fair
  pub fair_words : (parts : List Part) → AreParts rs ws parts → are_fair ws ≡ true
  fair_words parts h = (complete rs (fits_from rs b table) parts ws h.spelled).1

  -- clap finds no fault in words that are parts
  pub taken : (parts : List Part) → AreParts rs ws parts → length (places parts) ≤ room b → fault_of (tool_app rs b) ws ≡ []
  taken parts h k =
      let found = complete rs (fits_from rs b table) parts ws h.spelled in
      let have = have_rules rs (fits_from rs b table) parts ws h.spelled in
      let rows = adds rs (fits_from rs b table) b parts first [] (kept_from parts h k have) have (refl, refl) (λ n g. refl) in
      empty _ (fails_is rs b ws ∙ ap is_some (run_is found.1 ∙ ap (λ o. grown b first o []) found.0 ∙ rows.1))
    where
      empty : (kinds : Kinds) → ok kinds ≡ true → kinds ≡ []
      empty [] e = refl
      empty (k ∷ ks) e = absurd (true≢false (sym e))

  -- words are parts in one way
  pub parts_once : (p q : List Part) → AreParts rs ws p → AreParts rs ws q → p ≡ q
  parts_once p q h k =
      some_is p q (sym (complete rs (fits_from rs b table) p ws h.spelled).0 ∙ (complete rs (fits_from rs b table) q ws k.spelled).0)
