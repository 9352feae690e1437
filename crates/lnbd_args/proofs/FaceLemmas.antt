-- What a word looks like: as clap cuts it, and as the grammar spells it.
use Rattle.std.proofs.Common.{◌≡◌, ◌∙◌, ◌⊎◌, inl, inr, ℕ, zero, suc, ◌==◌, ◌||◌, Bool, true, false, List, [], ◌∷◌, ◌++◌, length, get_or, Option, Some, None, codes, refl, sym, ap, arith, true≢false}
use Rattle.std.specs.Prelude.{if◌then◌else◌, nat_lt}
use Rattle.std.specs.List.{after_first}
use Rattle.std.specs.Str.{bytes_eq}
use Rattle.std.specs.Cmp.Lexicographic.{other_text}
use Rattle.std.proofs.lemmas.Bool.Decides.{nat_tests}
use borrow.Author.Tests.{lt-ltb}
use Rattle.clap.specs.Lexer.{has_byte, long_of, name_and_value, short_of}
use Rattle.clap.specs.Walk.{attached_value}
use Rattle.clap.proofs.CutLemmas.{Lacks, before_first-Lacks}
use Rattle.clap.proofs.LexerLemmas.{name_and_value-at, name_and_value-without}
use Rattle.lnbd_args.specs.Words.{Word, IsDashed, long}
use Rattle.lnbd_args.proofs.Scan.{is_ascii_flags}
use Rattle.lnbd_args.specs.Clap.{is_fair}

or_no : (a c : Bool) → (a || c) ≡ false → (a ≡ false) × (c ≡ false)
or_no true c e = absurd (true≢false e)
or_no false c e = (refl, e)

pub lacks_from : (c : ℕ) (xs : List ℕ) → has_byte c xs ≡ false → Lacks c xs
lacks_from c [] e i lt = absurd (omega arith)
lacks_from c (x ∷ xs) e zero lt = let ne = (or_no (x == c) (has_byte c xs) e).0 in grind (arith, nat_tests)
lacks_from c (x ∷ xs) e (suc i) lt = lacks_from c xs (or_no (x == c) (has_byte c xs) e).1 i (omega arith)

none_some : {X : Type 0} (x : X) → ◌≡◌ {A = Option X} None (Some x) → ⊥
none_some x e = absurd (cc)

some_is : {X : Type 0} (x y : X) → Some x ≡ Some y → x ≡ y
some_is x y e = cc

is_dash : (c k : ℕ) → (c == k) ≡ true → c ≡ k
is_dash c k e = grind (arith, nat_tests)

same_dash : (k : ℕ) → (k == k) ≡ true
same_dash k = grind (arith, nat_tests)

-- ---- from clap's cuts to the spelling

-- the first `=` cuts the text
cut_of : (text : List ℕ) → has_byte 61 text ≡ true → (name : List ℕ) × (v : List ℕ) × (has_byte 61 name ≡ false) × (text ≡ name ++ 61 ∷ v)
cut_of [] h = absurd (true≢false (sym h))
cut_of (x ∷ xs) h = go (x == 61) refl (λ h. cut_of xs h)
  where
    go : (t : Bool) → (x == 61) ≡ t → (has_byte 61 xs ≡ true → (name : List ℕ) × (v : List ℕ) × (has_byte 61 name ≡ false) × (xs ≡ name ++ 61 ∷ v))
        → (name : List ℕ) × (v : List ℕ) × (has_byte 61 name ≡ false) × (x ∷ xs ≡ name ++ 61 ∷ v)
    go true t ih = ([], xs, refl, ap (λ c. c ∷ xs) (is_dash x 61 t))
    go false t ih =
        let more = ih (rw t at h) in
        (x ∷ more.0, more.1, rw (t, more.2) refl, ap (λ cs. x ∷ cs) more.3)

named_alone : (text name : List ℕ) → name_and_value text ≡ (name, None) → text ≡ name
named_alone text name e = go (has_byte 61 text) refl
  where
    go : (t : Bool) → has_byte 61 text ≡ t → text ≡ name
    go true t = absurd (none_some _ (sym (ap (λ (o : Word × Option Word). o.1) e) ∙ ap (λ (b : Bool). if b then Some (after_first (λ x. x == 61) text) else None) t))
    go false t = sym (before_first-Lacks 61 text (lacks_from 61 text t)) ∙ ap (λ (o : Word × Option Word). o.0) e

named_value : (text name v : List ℕ) → name_and_value text ≡ (name, Some v) → text ≡ name ++ 61 ∷ v
named_value text name v e = go (has_byte 61 text) refl
  where
    go : (t : Bool) → has_byte 61 text ≡ t → text ≡ name ++ 61 ∷ v
    go false t = absurd (none_some v (sym (ap (λ (b : Bool). if b then Some (after_first (λ x. x == 61) text) else None) t) ∙ ap (λ (o : Word × Option Word). o.1) e))
    go true t =
        let cut = cut_of text t in
        let told : name_and_value text ≡ (cut.0, Some cut.1) = ap name_and_value cut.3 ∙ name_and_value-at cut.0 cut.1 (lacks_from 61 cut.0 cut.2) in
        let first : cut.0 ≡ name = sym (ap (λ (o : Word × Option Word). o.0) told) ∙ ap (λ (o : Word × Option Word). o.0) e in
        let second : Some cut.1 ≡ Some v = sym (ap (λ (o : Word × Option Word). o.1) told) ∙ ap (λ (o : Word × Option Word). o.1) e in
        let value : cut.1 ≡ v = some_is _ _ second in
        cut.3 ∙ ap (λ x. x ++ 61 ∷ cut.1) first ∙ ap (λ x. name ++ 61 ∷ x) value

dashed_twice : (w : Word) (p : Word × Option Word) → long_of w ≡ Some p → (text : Word) × (w ≡ 45 ∷ 45 ∷ text) × (name_and_value text ≡ p)
dashed_twice [] p e = absurd (none_some p e)
dashed_twice (c ∷ []) p e = go (c == 45) refl
  where
    go : (t : Bool) → (c == 45) ≡ t → (text : Word) × (c ∷ [] ≡ 45 ∷ 45 ∷ text) × (name_and_value text ≡ p)
    go true t = absurd (none_some p (rw t at e))
    go false t = absurd (none_some p (rw t at e))
dashed_twice (c ∷ d ∷ []) p e = go (c == 45) refl (d == 45) refl
  where
    go : (t : Bool) → (c == 45) ≡ t → (u : Bool) → (d == 45) ≡ u → (text : Word) × (c ∷ d ∷ [] ≡ 45 ∷ 45 ∷ text) × (name_and_value text ≡ p)
    go true t true u = absurd (none_some p (rw (t, u) at e))
    go true t false u = absurd (none_some p (rw (t, u) at e))
    go false t u v = absurd (none_some p (rw t at e))
dashed_twice (c ∷ d ∷ x ∷ xs) p e = go (c == 45) refl (d == 45) refl
  where
    go : (t : Bool) → (c == 45) ≡ t → (u : Bool) → (d == 45) ≡ u → (text : Word) × (c ∷ d ∷ x ∷ xs ≡ 45 ∷ 45 ∷ text) × (name_and_value text ≡ p)
    go true t true u =
        let told : Some (name_and_value (x ∷ xs)) ≡ Some p = rw (t, u) at e in
        (x ∷ xs, ap (λ a. a ∷ d ∷ x ∷ xs) (is_dash c 45 t) ∙ ap (λ a. 45 ∷ a ∷ x ∷ xs) (is_dash d 45 u), some_is _ _ told)
    go true t false u = absurd (none_some p (rw (t, u) at e))
    go false t u v = absurd (none_some p (rw t at e))

pub long_alone : (w name : Word) → long_of w ≡ Some (name, None) → w ≡ long name
long_alone w name e = let cut = dashed_twice w (name, None) e in cut.1 ∙ ap (λ x. 45 ∷ 45 ∷ x) (named_alone cut.0 name cut.2)

pub long_value : (w name v : Word) → long_of w ≡ Some (name, Some v) → w ≡ long name ++ (codes "=" ++ v)
long_value w name v e = let cut = dashed_twice w (name, Some v) e in cut.1 ∙ ap (λ x. 45 ∷ 45 ∷ x) (named_value cut.0 name v cut.2)

pub short_is : (w : Word) (x : ℕ) (rest : List ℕ) → short_of w ≡ Some (x ∷ rest) → w ≡ 45 ∷ x ∷ rest
short_is [] x rest e = absurd (none_some _ e)
short_is (c ∷ []) x rest e = go (c == 45) refl
  where
    go : (t : Bool) → (c == 45) ≡ t → c ∷ [] ≡ 45 ∷ x ∷ rest
    go true t = absurd (none_some _ (rw t at e))
    go false t = absurd (none_some _ (rw t at e))
short_is (c ∷ d ∷ ds) x rest e = go (c == 45) refl (d == 45) refl
  where
    go : (t : Bool) → (c == 45) ≡ t → (u : Bool) → (d == 45) ≡ u → c ∷ d ∷ ds ≡ 45 ∷ x ∷ rest
    go true t true u = absurd (none_some _ (rw (t, u) at e))
    go true t false u =
        let told : Some (d ∷ ds) ≡ Some (x ∷ rest) = rw (t, u) at e in
        ap (λ a. a ∷ d ∷ ds) (is_dash c 45 t) ∙ ap (λ r. 45 ∷ r) (some_is _ _ told)
    go false t u v = absurd (none_some _ (rw t at e))

nonempty : (c : ℕ) (rest : Word) → nat_lt 0 (length (c ∷ rest)) ≡ true
nonempty c rest = lt-ltb 0 (length (c ∷ rest)) (omega arith)

-- a value at once isn't empty, and doesn't begin with `=`
pub attached_is : (rest v : Word) → attached_value rest ≡ Some v
    → (rest ≡ 61 ∷ v) ⊎ ((rest ≡ v) × (nat_lt 0 (length v) ≡ true) × ((more : Word) → v ≡ 61 ∷ more → ⊥))
attached_is [] v e = absurd (none_some v e)
attached_is (c ∷ rest) v e = go (c == 61) refl
  where
    go : (t : Bool) → (c == 61) ≡ t → (c ∷ rest ≡ 61 ∷ v) ⊎ ((c ∷ rest ≡ v) × (nat_lt 0 (length v) ≡ true) × ((more : Word) → v ≡ 61 ∷ more → ⊥))
    go true t =
        let told : Some rest ≡ Some v = rw t at e in
        inl (ap (λ a. a ∷ rest) (is_dash c 61 t) ∙ ap (λ r. 61 ∷ r) (some_is _ _ told))
    go false t =
        let told : Some (c ∷ rest) ≡ Some v = rw t at e in
        let same : c ∷ rest ≡ v = some_is _ _ told in
        inr (
          same,
          ap (λ (x : Word). nat_lt 0 (length x)) (sym same) ∙ nonempty c rest,
          λ more is.
              let heads : c ≡ 61 = ap (λ (x : Word). get_or x 0 0) (same ∙ is) in
              true≢false (sym (ap (λ x. x == 61) heads ∙ same_dash 61) ∙ t),
        )

pub attached_none : (rest : Word) → attached_value rest ≡ None → rest ≡ []
attached_none [] e = refl
attached_none (c ∷ rest) e = go (c == 61) refl
  where
    go : (t : Bool) → (c == 61) ≡ t → c ∷ rest ≡ []
    go true t = absurd (none_some _ (sym (rw t at e)))
    go false t = absurd (none_some _ (sym (rw t at e)))

-- a fair word that clap takes for no option doesn't begin with `-`
pub plain_is : (w : Word) → bytes_eq w (45 ∷ 45 ∷ []) ≡ false → long_of w ≡ None → short_of w ≡ None → is_fair w ≡ true → IsDashed w → ⊥
plain_is w e l s f ([], is) = true≢false (sym f ∙ ap is_fair is)
plain_is w e l s f (x ∷ xs, is) = go (x == 45) refl xs refl
  where
    go : (t : Bool) → (x == 45) ≡ t → (ys : Word) → xs ≡ ys → ⊥
    go true t [] y =
        let whole : w ≡ 45 ∷ 45 ∷ [] = is ∙ ap (λ a. 45 ∷ a ∷ xs) (is_dash x 45 t) ∙ ap (λ r. 45 ∷ 45 ∷ r) y in
        other_text w (45 ∷ 45 ∷ []) (sym e) whole
    go true t (z ∷ zs) y =
        let whole : w ≡ 45 ∷ 45 ∷ z ∷ zs = is ∙ ap (λ a. 45 ∷ a ∷ xs) (is_dash x 45 t) ∙ ap (λ r. 45 ∷ 45 ∷ r) y in
        none_some _ (sym l ∙ ap long_of whole)
    go false t ys y = none_some _ (sym (sym (ap short_of is ∙ ap (λ (b : Bool). if b then None else Some (x ∷ xs)) t) ∙ s))

pub fair_flags : (w : Word) → is_fair w ≡ true → is_ascii_flags (short_of w) ≡ true
fair_flags [] f = refl
fair_flags (c ∷ []) f = go (c == 45) refl
  where
    go : (t : Bool) → (c == 45) ≡ t → is_ascii_flags (short_of (c ∷ [])) ≡ true
    go true t = rw t refl
    go false t = rw t refl
fair_flags (c ∷ d ∷ ds) f = go (c == 45) refl (d == 45) refl
  where
    go : (t : Bool) → (c == 45) ≡ t → (u : Bool) → (d == 45) ≡ u → is_ascii_flags (short_of (c ∷ d ∷ ds)) ≡ true
    go true t true u = rw (t, u) refl
    go true t false u = rw (t, u) (rw t at f)
    go false t u v = rw t refl

-- ---- from the spelling to clap's cuts

pub alone_long : (name : Word) → nat_lt 0 (length name) ≡ true → has_byte 61 name ≡ false → (bytes_eq (long name) (45 ∷ 45 ∷ []) ≡ false) × (long_of (long name) ≡ Some (name, None))
alone_long [] n h = absurd (true≢false (sym n))
alone_long (x ∷ xs) n h = (refl, ap (λ p. Some p) (name_and_value-without (x ∷ xs) (lacks_from 61 (x ∷ xs) h)))

pub value_long_of : (name v : Word) → nat_lt 0 (length name) ≡ true → has_byte 61 name ≡ false
    → (bytes_eq (long name ++ (codes "=" ++ v)) (45 ∷ 45 ∷ []) ≡ false) × (long_of (long name ++ (codes "=" ++ v)) ≡ Some (name, Some v))
value_long_of [] v n h = absurd (true≢false (sym n))
value_long_of (x ∷ xs) v n h = (refl, ap (λ p. Some p) (name_and_value-at (x ∷ xs) v (lacks_from 61 (x ∷ xs) h)))

pub short_face : (l : ℕ) (rest : Word) → (l == 45) ≡ false
    → (bytes_eq (45 ∷ l ∷ rest) (45 ∷ 45 ∷ []) ≡ false) × (long_of (45 ∷ l ∷ rest) ≡ None) × (short_of (45 ∷ l ∷ rest) ≡ Some (l ∷ rest))
short_face l rest e = (rw e refl, rw e refl, rw e refl)

pub attached_at_once : (v : Word) → nat_lt 0 (length v) ≡ true → ((more : Word) → v ≡ 61 ∷ more → ⊥) → attached_value v ≡ Some v
attached_at_once [] n h = absurd (true≢false (sym n))
attached_at_once (c ∷ v) n h = go (c == 61) refl
  where
    go : (t : Bool) → (c == 61) ≡ t → attached_value (c ∷ v) ≡ Some (c ∷ v)
    go true t = absurd (h v (ap (λ a. a ∷ v) (is_dash c 61 t)))
    go false t = rw t refl

pub plain_face : (w : Word) → (IsDashed w → ⊥) → (bytes_eq w (45 ∷ 45 ∷ []) ≡ false) × (long_of w ≡ None) × (short_of w ≡ None) × (is_fair w ≡ true)
plain_face [] h = (refl, refl, refl, refl)
plain_face (c ∷ w) h = go (c == 45) refl
  where
    go : (t : Bool) → (c == 45) ≡ t → (bytes_eq (c ∷ w) (45 ∷ 45 ∷ []) ≡ false) × (long_of (c ∷ w) ≡ None) × (short_of (c ∷ w) ≡ None) × (is_fair (c ∷ w) ≡ true)
    go true t = absurd (h (w, ap (λ a. a ∷ w) (is_dash c 45 t)))
    go false t = (rw t refl, rw t refl, rw t refl, rw t refl)
