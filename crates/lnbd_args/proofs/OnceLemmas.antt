-- Rows are added for parts exactly where each option is given once, no value is empty and the places fit.
use Rattle.std.proofs.Common.{◌≡◌, ◌∙◌, ◌≤◌, ℕ, suc, ◌||◌, Bool, true, false, List, [], ◌∷◌, ◌++◌, length, Option, Some, None, is_some, refl, sym, ap, arith, true≢false, subst}
use Rattle.std.specs.Prelude.{⊤, slice_get}
use Rattle.std.specs.Str.{bytes_eq}
use Rattle.std.specs.Cmp.Lexicographic.{same_text, other_text}
use Rattle.clap.specs.Walk.{Row, has_row}
use Rattle.lnbd_args.specs.Words.{Rule, Word, Part, flag, value, place, rule_named, is_given, value_of, places, IsOnce}
use Rattle.lnbd_args.specs.Clap.{first_id, second_id, is_true}
use Rattle.lnbd_args.proofs.LawLemmas.{Fits, Spot, first, second, full, added, after, flag_row, place_into, place_row, position_of, spot_id, value_row}
use Rattle.lnbd_args.proofs.LookLemmas.{admitted, first_value, row_in, spot_row, valued}
use Rattle.lnbd_args.proofs.SpellLemmas.{AreFilled, HaveRules}

none_some : {X : Type 0} (x : X) → ◌≡◌ {A = Option X} None (Some x) → ⊥
none_some x e = absurd (cc)

some_is : {X : Type 0} (x y : X) → Some x ≡ Some y → x ≡ y
some_is x y e = cc

same_bytes : (xs : Word) → bytes_eq xs xs ≡ true
same_bytes xs = go (bytes_eq xs xs) refl
  where
    go : (t : Bool) → bytes_eq xs xs ≡ t → t ≡ true
    go true e = refl
    go false e = absurd (other_text xs xs (sym e) refl)

has_row_push : (n : Word) (rows : List Row) (r : Row) → has_row n (rows ++ r ∷ []) ≡ (has_row n rows || bytes_eq r.id n)
has_row_push n [] r = go (bytes_eq r.id n)
  where
    go : (t : Bool) → (t || false) ≡ t
    go true = refl
    go false = refl
has_row_push n (q ∷ rows) r = go (bytes_eq q.id n) (has_row_push n rows r)
  where
    go : (t : Bool) → has_row n (rows ++ r ∷ []) ≡ (has_row n rows || bytes_eq r.id n) → (t || has_row n (rows ++ r ∷ [])) ≡ ((t || has_row n rows) || bytes_eq r.id n)
    go true ih = refl
    go false ih = ih

still : (n : Word) (rows : List Row) (r : Row) → has_row n rows ≡ true → has_row n (rows ++ r ∷ []) ≡ true
still n rows r h = has_row_push n rows r ∙ ap (λ t. t || bytes_eq r.id n) h

now : (rows : List Row) (r : Row) → has_row r.id (rows ++ r ∷ []) ≡ true
now rows r = has_row_push r.id rows r ∙ ap (λ t. has_row r.id rows || t) (same_bytes r.id) ∙ go (has_row r.id rows)
  where
    go : (t : Bool) → (t || true) ≡ true
    go true = refl
    go false = refl

not_yet : (n : Word) (rows : List Row) (r : Row) → has_row n rows ≡ false → bytes_eq r.id n ≡ false → has_row n (rows ++ r ∷ []) ≡ false
not_yet n rows r h e = has_row_push n rows r ∙ ap (λ t. t || bytes_eq r.id n) h ∙ e

-- how many places are left
abbrev pub room : Bool → Spot → ℕ
room true first = 2
room true second = 1
room false first = 1
room b sp = 0

spot_room : (b : Bool) (sp : Spot) (id : Word) → spot_id b sp ≡ Some id → room b sp ≡ suc (room b (after sp))
spot_room true first id e = refl
spot_room false first id e = refl
spot_room true second id e = refl
spot_room false second id e = absurd (none_some id e)
spot_room b full id e = absurd (none_some id e)

no_room : (b : Bool) (sp : Spot) → spot_id b sp ≡ None → room b sp ≡ 0
no_room b first e = absurd (none_some _ (sym e))
no_room true second e = absurd (none_some _ (sym e))
no_room false second e = refl
no_room true full e = refl
no_room false full e = refl

-- ---- what was added is given once

-- a name with a row isn't given again
used_later : (b : Bool) (n : Word) (parts : List Part) (sp : Spot) (rows out : List Row) → has_row n rows ≡ true → added b sp parts rows ≡ Some out → is_given n parts ≡ false
used_later b n [] sp rows out h e = refl
used_later b n (flag m ∷ parts) sp rows out h e =
    let a = admitted m (flag_row m) (added b sp parts) rows out e in
    go (bytes_eq m n) refl a.0 (used_later b n parts sp (rows ++ flag_row m ∷ []) out (still n rows (flag_row m) h) a.1)
  where
    go : (t : Bool) → bytes_eq m n ≡ t → has_row m rows ≡ false → is_given n parts ≡ false → (bytes_eq m n || is_given n parts) ≡ false
    go true t nay ih = absurd (true≢false (sym h ∙ ap (λ x. has_row x rows) (sym (same_text m n (sym t))) ∙ nay))
    go false t nay ih = rw (t, ih) refl
used_later b n (value m v ∷ parts) sp rows out h e =
    let a = admitted m (value_row m v) (added b sp parts) rows out (valued m v (added b sp parts) rows out e).1 in
    go (bytes_eq m n) refl a.0 (used_later b n parts sp (rows ++ value_row m v ∷ []) out (still n rows (value_row m v) h) a.1)
  where
    go : (t : Bool) → bytes_eq m n ≡ t → has_row m rows ≡ false → is_given n parts ≡ false → (bytes_eq m n || is_given n parts) ≡ false
    go true t nay ih = absurd (true≢false (sym h ∙ ap (λ x. has_row x rows) (sym (same_text m n (sym t))) ∙ nay))
    go false t nay ih = rw (t, ih) refl
used_later b n (place w ∷ parts) sp rows out h e = go (spot_id b sp) e (λ rows h e. used_later b n parts (after sp) rows out h e)
  where
    go : (o : Option Word) → place_into o (position_of sp) w (added b (after sp) parts) rows ≡ Some out
        → ((rows : List Row) → has_row n rows ≡ true → added b (after sp) parts rows ≡ Some out → is_given n parts ≡ false) → is_given n parts ≡ false
    go None e ih = absurd (none_some out e)
    go (Some id) e ih =
        let a = admitted id (place_row (position_of sp) id w) (added b (after sp) parts) rows out e in
        ih (rows ++ place_row (position_of sp) id w ∷ []) (still n rows (place_row (position_of sp) id w) h) a.1

pub record Kept (b : Bool) (sp : Spot) (parts : List Part) : Type 0 where
  pub once : IsOnce parts
  pub filled : AreFilled parts
  pub fits : length (places parts) ≤ room b sp

pub kept_by : (b : Bool) (parts : List Part) (sp : Spot) (rows out : List Row) → added b sp parts rows ≡ Some out → Kept b sp parts
kept_by b [] sp rows out e = record { once = tt; filled = tt; fits = omega arith }
kept_by b (flag m ∷ parts) sp rows out e =
    let a = admitted m (flag_row m) (added b sp parts) rows out e in
    let rest = kept_by b parts sp (rows ++ flag_row m ∷ []) out a.1 in
    record { once = (used_later b m parts sp (rows ++ flag_row m ∷ []) out (now rows (flag_row m)) a.1, rest.once); filled = rest.filled; fits = rest.fits }
kept_by b (value m v ∷ parts) sp rows out e =
    let given = valued m v (added b sp parts) rows out e in
    let a = admitted m (value_row m v) (added b sp parts) rows out given.1 in
    let rest = kept_by b parts sp (rows ++ value_row m v ∷ []) out a.1 in
    record { once = (used_later b m parts sp (rows ++ value_row m v ∷ []) out (now rows (value_row m v)) a.1, rest.once); filled = (given.0, rest.filled); fits = rest.fits }
kept_by b (place w ∷ parts) sp rows out e = go (spot_id b sp) refl e (λ rows e. kept_by b parts (after sp) rows out e)
  where
    go : (o : Option Word) → spot_id b sp ≡ o → place_into o (position_of sp) w (added b (after sp) parts) rows ≡ Some out
        → ((rows : List Row) → added b (after sp) parts rows ≡ Some out → Kept b (after sp) parts) → Kept b sp (place w ∷ parts)
    go None s e ih = absurd (none_some out e)
    go (Some id) s e ih =
        let rest = ih _ (admitted id (place_row (position_of sp) id w) (added b (after sp) parts) rows out e).1 in
        let left = rest.fits in
        let more = spot_room b sp id s in
        record { once = rest.once; filled = rest.filled; fits = omega arith }

-- ---- names of options are no names of places

module _ (rs : List Rule) (fits : Fits rs) where
  not_first : (n : Word) (r : Rule) → rule_named rs n ≡ Some r → bytes_eq n first_id ≡ false
  not_first n r e = go (bytes_eq n first_id) refl
    where
      go : (t : Bool) → bytes_eq n first_id ≡ t → bytes_eq n first_id ≡ false
      go true t = absurd (none_some r (sym fits.no_first ∙ ap (rule_named rs) (sym (same_text n first_id (sym t))) ∙ e))
      go false t = t

  not_second : (n : Word) (r : Rule) → rule_named rs n ≡ Some r → bytes_eq n second_id ≡ false
  not_second n r e = go (bytes_eq n second_id) refl
    where
      go : (t : Bool) → bytes_eq n second_id ≡ t → bytes_eq n second_id ≡ false
      go true t = absurd (none_some r (sym fits.no_second ∙ ap (rule_named rs) (sym (same_text n second_id (sym t))) ∙ e))
      go false t = t

  turned : (x y : Word) → bytes_eq x y ≡ false → bytes_eq y x ≡ false
  turned x y e = go (bytes_eq y x) refl
    where
      go : (t : Bool) → bytes_eq y x ≡ t → bytes_eq y x ≡ false
      go true t = absurd (other_text x y (sym e) (sym (same_text y x (sym t))))
      go false t = t

  -- an option that is given has its rule
  given_rule : (n : Word) (parts : List Part) → HaveRules rs fits parts → is_given n parts ≡ true → (r : Rule) × (rule_named rs n ≡ Some r)
  given_rule n [] h e = absurd (true≢false (sym e))
  given_rule n (flag m ∷ parts) h e = go (bytes_eq m n) refl (λ e. given_rule n parts h.1 e)
    where
      go : (t : Bool) → bytes_eq m n ≡ t → (is_given n parts ≡ true → (r : Rule) × (rule_named rs n ≡ Some r)) → (r : Rule) × (rule_named rs n ≡ Some r)
      go true t ih = (h.0.0, ap (rule_named rs) (sym (same_text m n (sym t))) ∙ h.0.1)
      go false t ih = ih (rw t at e)
  given_rule n (value m v ∷ parts) h e = go (bytes_eq m n) refl (λ e. given_rule n parts h.1 e)
    where
      go : (t : Bool) → bytes_eq m n ≡ t → (is_given n parts ≡ true → (r : Rule) × (rule_named rs n ≡ Some r)) → (r : Rule) × (rule_named rs n ≡ Some r)
      go true t ih = (h.0.0, ap (rule_named rs) (sym (same_text m n (sym t))) ∙ h.0.1)
      go false t ih = ih (rw t at e)
  given_rule n (place w ∷ parts) h e = given_rule n parts h.1 e

  -- ---- what is given once is added
  abbrev pub Free : Spot → List Row → Type 0
  Free first rows = (has_row first_id rows ≡ false) × (has_row second_id rows ≡ false)
  Free second rows = has_row second_id rows ≡ false
  Free full rows = ⊤

  still_free : (sp : Spot) (rows : List Row) (row : Row) (r : Rule) → rule_named rs row.id ≡ Some r → Free sp rows → Free sp (rows ++ row ∷ [])
  still_free first rows row r e f = (not_yet first_id rows row f.0 (not_first row.id r e), not_yet second_id rows row f.1 (not_second row.id r e))
  still_free second rows row r e f = not_yet second_id rows row f (not_second row.id r e)
  still_free full rows row r e f = tt

  -- a name that is yet to be given has no row
  abbrev pub Ahead : List Part → List Row → Type 0
  Ahead parts rows = (n : Word) → is_given n parts ≡ true → has_row n rows ≡ false

  abbrev Adds : Bool → Spot → List Part → List Row → Type 0
  Adds b sp parts rows = (out : List Row) × (added b sp parts rows ≡ Some out)

  pub adds : (b : Bool) (parts : List Part) (sp : Spot) (rows : List Row) → Kept b sp parts → HaveRules rs fits parts → Free sp rows → Ahead parts rows → Adds b sp parts rows
  adds b [] sp rows k h f a = (rows, refl)
  adds b (flag m ∷ parts) sp rows k h f a =
      let fresh = a m (ap (λ t. t || is_given m parts) (same_bytes m)) in
      let rest = adds b parts sp (rows ++ flag_row m ∷ []) (record { once = k.once.1; filled = k.filled; fits = k.fits }) h.1 (still_free sp rows (flag_row m) h.0.0 h.0.1 f)
      (λ n g. not_yet n rows (flag_row m) (a n (ap (λ t. bytes_eq m n || t) g ∙ any_or (bytes_eq m n))) (differs m n parts k.once.0 g)) in
      (rest.0, rw fresh rest.1)
    where
      any_or : (t : Bool) → (t || true) ≡ true
      any_or true = refl
      any_or false = refl

      differs : (m n : Word) (parts : List Part) → is_given m parts ≡ false → is_given n parts ≡ true → bytes_eq m n ≡ false
      differs m n parts nay yea = go (bytes_eq m n) refl
        where
          go : (t : Bool) → bytes_eq m n ≡ t → bytes_eq m n ≡ false
          go true t = absurd (true≢false (sym yea ∙ ap (λ x. is_given x parts) (sym (same_text m n (sym t))) ∙ nay))
          go false t = t
  adds b (value m v ∷ parts) sp rows k h f a =
      let fresh = a m (ap (λ t. t || is_given m parts) (same_bytes m)) in
      let rest = adds b parts sp (rows ++ value_row m v ∷ []) (record { once = k.once.1; filled = k.filled.1; fits = k.fits }) h.1 (still_free sp rows (value_row m v) h.0.0 h.0.1 f)
      (λ n g. not_yet n rows (value_row m v) (a n (ap (λ t. bytes_eq m n || t) g ∙ any_or (bytes_eq m n))) (differs m n parts k.once.0 g)) in
      (rest.0, rw (k.filled.0, fresh) rest.1)
    where
      any_or : (t : Bool) → (t || true) ≡ true
      any_or true = refl
      any_or false = refl

      differs : (m n : Word) (parts : List Part) → is_given m parts ≡ false → is_given n parts ≡ true → bytes_eq m n ≡ false
      differs m n parts nay yea = go (bytes_eq m n) refl
        where
          go : (t : Bool) → bytes_eq m n ≡ t → bytes_eq m n ≡ false
          go true t = absurd (true≢false (sym yea ∙ ap (λ x. is_given x parts) (sym (same_text m n (sym t))) ∙ nay))
          go false t = t
  adds b (place w ∷ parts) sp rows k h f a = go b sp k f (λ c sp rows k f a. adds c parts sp rows k h.1 f a)
    where
      id_free : (id : Word) → (id ≡ first_id) → (n : Word) → is_given n parts ≡ true → bytes_eq id n ≡ false
      id_free id e n g = let r = given_rule n parts h.1 g in subst (λ x. bytes_eq x n ≡ false) (sym e) (turned n first_id (not_first n r.0 r.1))

      second_free : (n : Word) → is_given n parts ≡ true → bytes_eq second_id n ≡ false
      second_free n g = let r = given_rule n parts h.1 g in turned n second_id (not_second n r.0 r.1)

      go : (c : Bool) (sp : Spot) → Kept c sp (place w ∷ parts) → Free sp rows
          → ((c : Bool) (sp : Spot) (rows : List Row) → Kept c sp parts → Free sp rows → Ahead parts rows → Adds c sp parts rows) → Adds c sp (place w ∷ parts) rows
      go true first k f ih =
          let bound = k.fits in
          let rest = ih true second (rows ++ place_row 1 first_id w ∷ []) (record { once = k.once; filled = k.filled; fits = omega arith })
          (not_yet second_id rows (place_row 1 first_id w) f.1 refl) (λ n g. not_yet n rows (place_row 1 first_id w) (a n g) (id_free first_id refl n g)) in
          (rest.0, rw f.0 rest.1)
      go false first k f ih =
          let bound = k.fits in
          let rest = ih false second (rows ++ place_row 1 first_id w ∷ []) (record { once = k.once; filled = k.filled; fits = omega arith })
          (not_yet second_id rows (place_row 1 first_id w) f.1 refl) (λ n g. not_yet n rows (place_row 1 first_id w) (a n g) (id_free first_id refl n g)) in
          (rest.0, rw f.0 rest.1)
      go true second k f ih =
          let bound = k.fits in
          let rest = ih true full (rows ++ place_row 2 second_id w ∷ []) (record { once = k.once; filled = k.filled; fits = omega arith })
          tt (λ n g. not_yet n rows (place_row 2 second_id w) (a n g) (second_free n g)) in
          (rest.0, rw f rest.1)
      go false second k f ih = let bound = k.fits in absurd (omega arith)
      go true full k f ih = let bound = k.fits in absurd (omega arith)
      go false full k f ih = let bound = k.fits in absurd (omega arith)

  -- ---- what the rows tell

  same_rule : (n name : Word) (q r : Rule) → bytes_eq n name ≡ true → rule_named rs n ≡ Some q → rule_named rs name ≡ Some r → q.has_value ≡ r.has_value
  same_rule n name q r t e f = ap (λ (x : Rule). x.has_value) (some_is q r (sym e ∙ ap (rule_named rs) (same_text n name (sym t)) ∙ f))

  pub told_value : (b : Bool) (name : Word) (r : Rule) → rule_named rs name ≡ Some r → r.has_value ≡ true → (parts : List Part) (sp : Spot) → HaveRules rs fits parts
      → length (places parts) ≤ room b sp → first_value (row_in b sp name parts) ≡ value_of name parts
  told_value b name r e v [] sp h k = refl
  told_value b name r e v (flag n ∷ parts) sp h k = go (bytes_eq n name) refl (told_value b name r e v parts sp h.1 k)
    where
      go : (t : Bool) → bytes_eq n name ≡ t → first_value (row_in b sp name parts) ≡ value_of name parts → first_value (row_in b sp name (flag n ∷ parts)) ≡ value_of name parts
      go true t ih = absurd (true≢false (sym v ∙ sym (same_rule n name h.0.0 r t h.0.1 e) ∙ h.0.2))
      go false t ih = rw t ih
  told_value b name r e v (value n x ∷ parts) sp h k = go (bytes_eq n name) refl (told_value b name r e v parts sp h.1 k)
    where
      go : (t : Bool) → bytes_eq n name ≡ t → first_value (row_in b sp name parts) ≡ value_of name parts
          → first_value (row_in b sp name (value n x ∷ parts)) ≡ value_of name (value n x ∷ parts)
      go true t ih = rw t refl
      go false t ih = rw t ih
  told_value b name r e v (place w ∷ parts) sp h k = go (spot_id b sp) refl (λ k. told_value b name r e v parts (after sp) h.1 k)
    where
      named : (id : Word) → spot_id b sp ≡ Some id → bytes_eq id name ≡ false
      named id s = by_spot b sp s
        where
          by_spot : (c : Bool) (sp : Spot) → spot_id c sp ≡ Some id → bytes_eq id name ≡ false
          by_spot c first s = subst (λ x. bytes_eq x name ≡ false) (some_is _ _ s) (turned name first_id (not_first name r e))
          by_spot true second s = subst (λ x. bytes_eq x name ≡ false) (some_is _ _ s) (turned name second_id (not_second name r e))
          by_spot false second s = absurd (none_some id s)
          by_spot c full s = absurd (none_some id s)

      go : (o : Option Word) → spot_id b sp ≡ o → (length (places parts) ≤ room b (after sp) → first_value (row_in b (after sp) name parts) ≡ value_of name parts)
          → first_value (spot_row (spot_id b sp) (position_of sp) w name (row_in b (after sp) name parts)) ≡ value_of name parts
      go None s ih = let none = no_room b sp s in absurd (omega arith)
      go (Some id) s ih = let more = spot_room b sp id s in rw (s, named id s) (ih (omega arith))

  pub told_flag : (b : Bool) (name : Word) (r : Rule) → rule_named rs name ≡ Some r → r.has_value ≡ false → (parts : List Part) (sp : Spot) → HaveRules rs fits parts
      → length (places parts) ≤ room b sp → is_true (first_value (row_in b sp name parts)) ≡ is_given name parts
  told_flag b name r e v [] sp h k = refl
  told_flag b name r e v (flag n ∷ parts) sp h k = go (bytes_eq n name) refl (told_flag b name r e v parts sp h.1 k)
    where
      go : (t : Bool) → bytes_eq n name ≡ t → is_true (first_value (row_in b sp name parts)) ≡ is_given name parts → is_true (first_value (row_in b sp name (flag n ∷ parts))) ≡ (bytes_eq n name || is_given name parts)
      go true t ih = rw t refl
      go false t ih = rw t ih
  told_flag b name r e v (value n x ∷ parts) sp h k = go (bytes_eq n name) refl (told_flag b name r e v parts sp h.1 k)
    where
      go : (t : Bool) → bytes_eq n name ≡ t → is_true (first_value (row_in b sp name parts)) ≡ is_given name parts
          → is_true (first_value (row_in b sp name (value n x ∷ parts))) ≡ (bytes_eq n name || is_given name parts)
      go true t ih = absurd (true≢false (sym h.0.2 ∙ same_rule n name h.0.0 r t h.0.1 e ∙ v))
      go false t ih = rw t ih
  told_flag b name r e v (place w ∷ parts) sp h k = go (spot_id b sp) refl (λ k. told_flag b name r e v parts (after sp) h.1 k)
    where
      named : (id : Word) → spot_id b sp ≡ Some id → bytes_eq id name ≡ false
      named id s = by_spot b sp s
        where
          by_spot : (c : Bool) (sp : Spot) → spot_id c sp ≡ Some id → bytes_eq id name ≡ false
          by_spot c first s = subst (λ x. bytes_eq x name ≡ false) (some_is _ _ s) (turned name first_id (not_first name r e))
          by_spot true second s = subst (λ x. bytes_eq x name ≡ false) (some_is _ _ s) (turned name second_id (not_second name r e))
          by_spot false second s = absurd (none_some id s)
          by_spot c full s = absurd (none_some id s)

      go : (o : Option Word) → spot_id b sp ≡ o → (length (places parts) ≤ room b (after sp) → is_true (first_value (row_in b (after sp) name parts)) ≡ is_given name parts)
          → is_true (first_value (spot_row (spot_id b sp) (position_of sp) w name (row_in b (after sp) name parts))) ≡ is_given name parts
      go None s ih = let none = no_room b sp s in absurd (omega arith)
      go (Some id) s ih = let more = spot_room b sp id s in rw (s, named id s) (ih (omega arith))

  pub told_first : (b : Bool) (parts : List Part) → HaveRules rs fits parts → first_value (row_in b first first_id parts) ≡ slice_get (places parts) 0
  told_first b [] h = refl
  told_first b (flag n ∷ parts) h = rw (not_first n h.0.0 h.0.1) (told_first b parts h.1)
  told_first b (value n x ∷ parts) h = rw (not_first n h.0.0 h.0.1) (told_first b parts h.1)
  told_first b (place w ∷ parts) h = refl

  told_later : (parts : List Part) → HaveRules rs fits parts → first_value (row_in true second second_id parts) ≡ slice_get (places parts) 0
  told_later [] h = refl
  told_later (flag n ∷ parts) h = rw (not_second n h.0.0 h.0.1) (told_later parts h.1)
  told_later (value n x ∷ parts) h = rw (not_second n h.0.0 h.0.1) (told_later parts h.1)
  told_later (place w ∷ parts) h = refl

  pub told_second : (parts : List Part) → HaveRules rs fits parts → first_value (row_in true first second_id parts) ≡ slice_get (places parts) 1
  told_second [] h = refl
  told_second (flag n ∷ parts) h = rw (not_second n h.0.0 h.0.1) (told_second parts h.1)
  told_second (value n x ∷ parts) h = rw (not_second n h.0.0 h.0.1) (told_second parts h.1)
  told_second (place w ∷ parts) h = told_later parts h.1

  -- an option with a value is given where its value is
  pub given_value : (name : Word) (r : Rule) → rule_named rs name ≡ Some r → r.has_value ≡ true → (parts : List Part) → HaveRules rs fits parts
      → is_given name parts ≡ is_some (value_of name parts)
  given_value name r e v [] h = refl
  given_value name r e v (flag n ∷ parts) h = go (bytes_eq n name) refl (given_value name r e v parts h.1)
    where
      go : (t : Bool) → bytes_eq n name ≡ t → is_given name parts ≡ is_some (value_of name parts) → (bytes_eq n name || is_given name parts) ≡ is_some (value_of name parts)
      go true t ih = absurd (true≢false (sym v ∙ sym (same_rule n name h.0.0 r t h.0.1 e) ∙ h.0.2))
      go false t ih = rw t ih
  given_value name r e v (value n x ∷ parts) h = go (bytes_eq n name) refl (given_value name r e v parts h.1)
    where
      go : (t : Bool) → bytes_eq n name ≡ t → is_given name parts ≡ is_some (value_of name parts)
          → (bytes_eq n name || is_given name parts) ≡ is_some (value_of name (value n x ∷ parts))
      go true t ih = rw t refl
      go false t ih = rw t ih
  given_value name r e v (place w ∷ parts) h = given_value name r e v parts h.1
