-- What is found under a name, in the rows of a walk and with their defaults.
use Rattle.std.proofs.Common.{◌≡◌, ◌∙◌, ℕ, ◌&&◌, ◌||◌, Bool, true, false, not, List, [], ◌∷◌, ◌++◌, Option, Some, None, codes, refl, sym, ap, true≢false}
use Rattle.std.specs.Prelude.{if◌then◌else◌, fold, find, nat_lt, length, option_and_then, slice_get}
use Rattle.std.specs.Str.{bytes_eq}
use Rattle.clap.specs.Walk.{Row, has_row, first_of, reading_by, with_default}
use Rattle.clap.specs.declared.parser.matches.ValueSource.TheVariants.{DefaultValue}
use Rattle.lnbd_args.specs.Words.{Rule, Word, Part, flag, value, place}
use Rattle.lnbd_args.specs.Clap.{has_flag, is_true}
use Rattle.lnbd_args.proofs.ClapLemmas.{args, built_arg, flag_arg, spots, with_fresh}
use Rattle.lnbd_args.proofs.LawLemmas.{Spot, added, admit, after, flag_row, place_into, place_row, position_of, spot_id, value_row}

abbrev pub found : Word → List Row → Option Row
found name rows = find (λ r. bytes_eq r.id name) rows

abbrev pub first_value : Option Row → Option Word
first_value o = option_and_then (λ r. slice_get r.values 0) o

abbrev pub or_row : Option Row → Option Row → Option Row
or_row (Some r) o = Some r
or_row None o = o

or_row_assoc : (a b c : Option Row) → or_row (or_row a b) c ≡ or_row a (or_row b c)
or_row_assoc (Some r) b c = refl
or_row_assoc None b c = refl

pub found_push : (name : Word) (rows : List Row) (r : Row) → found name (rows ++ r ∷ []) ≡ or_row (found name rows) (if bytes_eq r.id name then Some r else None)
found_push name [] r = refl
found_push name (q ∷ rows) r = go (bytes_eq q.id name) refl (found_push name rows r)
  where
    go : (t : Bool) → bytes_eq q.id name ≡ t → found name (rows ++ r ∷ []) ≡ or_row (found name rows) (if bytes_eq r.id name then Some r else None)
        → found name (q ∷ rows ++ r ∷ []) ≡ or_row (found name (q ∷ rows)) (if bytes_eq r.id name then Some r else None)
    go true t ih = rw t refl
    go false t ih = rw t ih

-- the first row that the parts make under a name
abbrev pub if_named : Word → Word → Row → Option Row → Option Row
if_named n name r rest = if bytes_eq n name then Some r else rest

abbrev pub spot_row : Option Word → ℕ → Word → Word → Option Row → Option Row
spot_row None i w name rest = None
spot_row (Some id) i w name rest = if_named id name (place_row i id w) rest

abbrev pub row_in : Bool → Spot → Word → List Part → Option Row
row_in b sp name [] = None
row_in b sp name (flag n ∷ parts) = if_named n name (flag_row n) (row_in b sp name parts)
row_in b sp name (value n v ∷ parts) = if_named n name (value_row n v) (row_in b sp name parts)
row_in b sp name (place w ∷ parts) = spot_row (spot_id b sp) (position_of sp) w name (row_in b (after sp) name parts)

none_some : {X : Type 0} (x : X) → ◌≡◌ {A = Option X} None (Some x) → ⊥
none_some x e = absurd (cc)

-- what an admitted row leaves: the name had none, and the rest was added
pub admitted : (n : Word) (r : Row) (next : List Row → Option (List Row)) (rows out : List Row) → admit n r next rows ≡ Some out
    → (has_row n rows ≡ false) × (next (rows ++ r ∷ []) ≡ Some out)
admitted n r next rows out e = go (has_row n rows) refl
  where
    go : (t : Bool) → has_row n rows ≡ t → (has_row n rows ≡ false) × (next (rows ++ r ∷ []) ≡ Some out)
    go true t = absurd (none_some out (rw t at e))
    go false t = (t, rw t at e)

pub valued : (n v : Word) (next : List Row → Option (List Row)) (rows out : List Row) → (if nat_lt 0 (length v) then admit n (value_row n v) next rows else None) ≡ Some out
    → (nat_lt 0 (length v) ≡ true) × (admit n (value_row n v) next rows ≡ Some out)
valued n v next rows out e = go (nat_lt 0 (length v)) refl
  where
    go : (t : Bool) → nat_lt 0 (length v) ≡ t → (nat_lt 0 (length v) ≡ true) × (admit n (value_row n v) next rows ≡ Some out)
    go true t = (t, rw t at e)
    go false t = absurd (none_some out (rw t at e))

named_first : (n name : Word) (r : Row) (o : Option Row) → or_row (if bytes_eq n name then Some r else None) o ≡ if_named n name r o
named_first n name r o = go (bytes_eq n name) refl
  where
    go : (t : Bool) → bytes_eq n name ≡ t → or_row (if bytes_eq n name then Some r else None) o ≡ if_named n name r o
    go true t = rw t refl
    go false t = rw t refl

pub found_added : (b : Bool) (name : Word) (parts : List Part) (sp : Spot) (rows out : List Row) → added b sp parts rows ≡ Some out
    → found name out ≡ or_row (found name rows) (row_in b sp name parts)
found_added b name [] sp rows out e = let same : rows ≡ out = cc in ap (found name) (sym same) ∙ go (found name rows)
  where
    go : (o : Option Row) → o ≡ or_row o None
    go None = refl
    go (Some r) = refl
found_added b name (flag n ∷ parts) sp rows out e =
    let h = admitted n (flag_row n) (added b sp parts) rows out e in
    found_added b name parts sp (rows ++ flag_row n ∷ []) out h.1
    ∙ ap (λ o. or_row o (row_in b sp name parts)) (found_push name rows (flag_row n))
    ∙ or_row_assoc (found name rows) _ _ ∙ ap (or_row (found name rows)) (named_first n name (flag_row n) (row_in b sp name parts))
found_added b name (value n v ∷ parts) sp rows out e =
    let h = admitted n (value_row n v) (added b sp parts) rows out (valued n v (added b sp parts) rows out e).1 in
    found_added b name parts sp (rows ++ value_row n v ∷ []) out h.1
    ∙ ap (λ o. or_row o (row_in b sp name parts)) (found_push name rows (value_row n v))
    ∙ or_row_assoc (found name rows) _ _ ∙ ap (or_row (found name rows)) (named_first n name (value_row n v) (row_in b sp name parts))
found_added b name (place w ∷ parts) sp rows out e = go (spot_id b sp) e (found_added b name parts (after sp))
  where
    go : (o : Option Word) → place_into o (position_of sp) w (added b (after sp) parts) rows ≡ Some out
        → ((rows out : List Row) → added b (after sp) parts rows ≡ Some out → found name out ≡ or_row (found name rows) (row_in b (after sp) name parts))
        → found name out ≡ or_row (found name rows) (spot_row o (position_of sp) w name (row_in b (after sp) name parts))
    go None e ih = absurd (none_some out e)
    go (Some id) e ih =
        let h = admitted id (place_row (position_of sp) id w) (added b (after sp) parts) rows out e in
        ih (rows ++ place_row (position_of sp) id w ∷ []) out h.1
        ∙ ap (λ o. or_row o (row_in b (after sp) name parts)) (found_push name rows (place_row (position_of sp) id w))
        ∙ or_row_assoc (found name rows) _ _ ∙ ap (or_row (found name rows)) (named_first id name (place_row (position_of sp) id w) (row_in b (after sp) name parts))

-- ---- defaults

abbrev default_row : Word → Row
default_row n = record { id = n; values = codes "false" ∷ []; count = None; source = Some DefaultValue; reading = reading_by (flag_arg n None) }

defaulted : (r : Rule) (rows : List Row) → r.has_value ≡ false → has_row r.name rows ≡ false → with_default rows (built_arg r) ≡ rows ++ default_row r.name ∷ []
defaulted r rows v t = rw (v, t) (with_fresh r.name _ DefaultValue (codes "false" ∷ []) rows t)

kept : (r : Rule) (rows : List Row) → r.has_value ≡ true → with_default rows (built_arg r) ≡ rows
kept r rows v = go (has_row r.name rows) refl
  where
    go : (t : Bool) → has_row r.name rows ≡ t → with_default rows (built_arg r) ≡ rows
    go true t = rw (v, t) refl
    go false t = rw (v, t) refl

had : (r : Rule) (rows : List Row) → has_row r.name rows ≡ true → with_default rows (built_arg r) ≡ rows
had r rows t = go r.has_value refl
  where
    go : (v : Bool) → r.has_value ≡ v → with_default rows (built_arg r) ≡ rows
    go true v = rw (v, t) refl
    go false v = rw (v, t) refl

spots_kept : (b : Bool) (rows : List Row) → fold with_default rows (spots b) ≡ rows
spots_kept b rows = go b (has_row (codes "FIRST") rows) refl (has_row (codes "SECOND") rows) refl
  where
    go : (b t : Bool) → has_row (codes "FIRST") rows ≡ t → (u : Bool) → has_row (codes "SECOND") rows ≡ u → fold with_default rows (spots b) ≡ rows
    go true true t true u = rw (t, u) refl
    go true true t false u = rw (t, u) refl
    go true false t true u = rw (t, u) refl
    go true false t false u = rw (t, u) refl
    go false true t u v = rw t refl
    go false false t u v = rw t refl

or_none : (o : Option Row) → or_row o None ≡ o
or_none None = refl
or_none (Some r) = refl

-- a value or a place keeps its row
pub found_with_defaults : (b : Bool) (name : Word) (rs : List Rule) (rows : List Row) → has_flag name rs ≡ false → found name (fold with_default rows (args rs b)) ≡ found name rows
found_with_defaults b name [] rows e = ap (found name) (spots_kept b rows)
found_with_defaults b name (r ∷ rs) rows e = go r.has_value refl (has_row r.name rows) refl (λ rows. found_with_defaults b name rs rows (or_second _ _ e))
  where
    or_second : (a c : Bool) → (a || c) ≡ false → c ≡ false
    or_second true c e = absurd (true≢false e)
    or_second false c e = e

    or_first : (a c : Bool) → (a || c) ≡ false → a ≡ false
    or_first true c e = absurd (true≢false e)
    or_first false c e = refl

    go : (v : Bool) → r.has_value ≡ v → (t : Bool) → has_row r.name rows ≡ t → ((rows : List Row) → found name (fold with_default rows (args rs b)) ≡ found name rows)
        → found name (fold with_default (with_default rows (built_arg r)) (args rs b)) ≡ found name rows
    go true v t h ih = ap (λ x. found name (fold with_default x (args rs b))) (kept r rows v) ∙ ih rows
    go false v true h ih = ap (λ x. found name (fold with_default x (args rs b))) (had r rows h) ∙ ih rows
    go false v false h ih =
        let other : bytes_eq r.name name ≡ false = rw v at (or_first (not r.has_value && bytes_eq r.name name) (has_flag name rs) e) in
        ap (λ x. found name (fold with_default x (args rs b))) (defaulted r rows v h) ∙ ih (rows ++ default_row r.name ∷ [])
        ∙ found_push name rows (default_row r.name) ∙ rw other (or_none (found name rows))

-- an option with no value is told true where it was, whatever its default
pub told_with_defaults : (b : Bool) (name : Word) (rs : List Rule) (rows : List Row)
    → is_true (first_of name (fold with_default rows (args rs b))) ≡ is_true (first_of name rows)
told_with_defaults b name [] rows = ap (λ x. is_true (first_of name x)) (spots_kept b rows)
told_with_defaults b name (r ∷ rs) rows = go r.has_value refl (has_row r.name rows) refl (λ rows. told_with_defaults b name rs rows)
  where
    pushed : (o : Option Row) (t : Bool) → is_true (first_value (or_row o (if t then Some (default_row r.name) else None))) ≡ is_true (first_value o)
    pushed (Some q) t = refl
    pushed None true = refl
    pushed None false = refl

    go : (v : Bool) → r.has_value ≡ v → (t : Bool) → has_row r.name rows ≡ t
        → ((rows : List Row) → is_true (first_of name (fold with_default rows (args rs b))) ≡ is_true (first_of name rows))
        → is_true (first_of name (fold with_default (with_default rows (built_arg r)) (args rs b))) ≡ is_true (first_of name rows)
    go true v t h ih = ap (λ x. is_true (first_of name (fold with_default x (args rs b)))) (kept r rows v) ∙ ih rows
    go false v true h ih = ap (λ x. is_true (first_of name (fold with_default x (args rs b)))) (had r rows h) ∙ ih rows
    go false v false h ih =
        ap (λ x. is_true (first_of name (fold with_default x (args rs b)))) (defaulted r rows v h) ∙ ih (rows ++ default_row r.name ∷ [])
        ∙ ap (λ o. is_true (first_value o)) (found_push name rows (default_row r.name)) ∙ pushed (found name rows) (bytes_eq r.name name)
