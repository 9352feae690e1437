-- One word of clap's walk.
use Rattle.std.proofs.Common.{◌≡◌, ◌<◌, lit<, ℕ, zero, suc, ◌+◌, ◌&&◌, Bool, true, false, List, [], ◌∷◌, length, min, drop, Option, Some, None, codes, refl, sym, ap}
use Rattle.std.specs.Prelude.{if◌then◌else◌, nat_lt, encode_utf8, slice_get}
use Rattle.std.specs.Str.{bytes_eq, chars, IsAscii}
use Rattle.std.proofs.lemmas.Str.{chars-append, chars-IsAscii, IsUtf8-from_ascii}
use Rattle.std.specs.Cmp.Lexicographic.{other_text}
use borrow.Author.Tests.{ltb-true}
use Rattle.clap.specs.Lexer.{long_of, short_of}
use Rattle.clap.specs.Simple.{Shape, new_shape}
use Rattle.clap.specs.Walk.{Row, Held, Waiting, Walk, idle, option, arg_by_index, settled, settled_rows, used, walked, attached_value, bundle_met, is_pending}
use Rattle.clap.specs.Faults.{flags_fault, react_fault, settle_fault, turn_fault}
use Rattle.clap.specs.Kinds.{Kinds}
use Rattle.lnbd_args.specs.Words.{Rule, Word, rule_named, rule_lettered}
use Rattle.lnbd_args.proofs.ClapLemmas.{args, by_id_is, by_long_is, by_short_is, flag_arg, ok, ok_nil, spot_arg, value_arg}

abbrev pub shape : List Rule → Bool → Shape
shape rs b = record (new_shape (codes "lnbd")) {
  rules = args rs b;
  no_binary_name = true;
  disable_help_flag = true;
  disable_help_subcommand = true;
  disable_version_flag = true;
  is_built = true;
}

abbrev pub Pending : Type 0
Pending = Option (Word × List Word)

abbrev pub held : List Row → Pending → Held
held rows pending = record { rows = rows; pending = pending; skip = 0 }

abbrev pub at : List Row → Pending → Waiting → ℕ → Bool → Walk
at rows pending waiting i trailing = record { held = held rows pending; waiting = waiting; position = i; is_trailing = trailing; stopped = None }

-- what the walk over the words comes to: the rows, unless something fails
abbrev pub run : List Rule → Bool → List Word → Walk → Option (List Row)
run rs b [] w = if ok (settle_fault (args rs b) false w.held) then Some (settled (args rs b) w.held).rows else None
run rs b (word ∷ ws) w = if ok (turn_fault (shape rs b) [] w word) then run rs b ws (walked (args rs b) [] w word) else None

-- what is pending passes, and the rows with it
abbrev pub is_ready : List Rule → Bool → List Row → Pending → Bool
is_ready rs b rows pending = ok (settle_fault (args rs b) false (held rows pending))

abbrev pub rows_with : List Rule → Bool → List Row → Pending → List Row
rows_with rs b rows pending = settled_rows (args rs b) pending rows

-- the rest of the walk, unless this fails
abbrev pub taken : Kinds → Option (List Row) → Option (List Row)
taken kinds rest = if ok kinds then rest else None

one_ascii : (x : ℕ) → x < 128 → IsAscii (x ∷ [])
one_ascii x h zero = h
one_ascii x h (suc i) = lit< tt

-- an ASCII byte is a character by itself
first_char : (x : ℕ) (rest : List ℕ) → nat_lt x 128 ≡ true → slice_get (chars (x ∷ rest)) 0 ≡ Some x
first_char x rest a =
    let ascii : IsAscii (x ∷ []) = one_ascii x (ltb-true x 128 a) in
    rw (chars-append (x ∷ []) rest (IsUtf8-from_ascii (x ∷ []) ascii), chars-IsAscii (x ∷ []) ascii) refl

encoded : (x : ℕ) → nat_lt x 128 ≡ true → encode_utf8 x ≡ x ∷ []
unfolding lib.Utf8.encode
encoded x a = rw a refl

and_false : (t : Bool) → (t && false) ≡ false
and_false true = refl
and_false false = refl

bytes_eq-refl : (xs : List ℕ) → bytes_eq xs xs ≡ true
bytes_eq-refl xs = go (bytes_eq xs xs) refl
  where
    go : (t : Bool) → bytes_eq xs xs ≡ t → t ≡ true
    go true e = refl
    go false e = absurd (other_text xs xs (sym e) refl)

module _ (rs : List Rule) (b : Bool) where
  -- ---- `--`
  pub stop_idle : (rows : List Row) (pending : Pending) (i : ℕ) (word : Word) (ws : List Word) → bytes_eq word (45 ∷ 45 ∷ []) ≡ true
      → run rs b (word ∷ ws) (at rows pending idle i false) ≡ run rs b ws (at rows pending idle i true)
  unfolding walked
  stop_idle rows pending i word ws e = rw e refl

  pub stop_waiting : (rows : List Row) (pending : Pending) (id : Word) (i : ℕ) (word : Word) (ws : List Word) → bytes_eq word (45 ∷ 45 ∷ []) ≡ true
      → run rs b (word ∷ ws) (at rows pending (option id) i false) ≡ run rs b ws (at rows pending (option id) i true)
  unfolding walked
  stop_waiting rows pending id i word ws e = rw e refl

  -- ---- an option by its name, while nothing waits
  pub unknown_long : (rows : List Row) (pending : Pending) (i : ℕ) (word name : Word) (v : Option Word) (ws : List Word) → bytes_eq word (45 ∷ 45 ∷ []) ≡ false
      → long_of word ≡ Some (name, v) → rule_named rs name ≡ None → run rs b (word ∷ ws) (at rows pending idle i false) ≡ None
  unfolding walked
  unknown_long rows pending i word name v ws e l n = rw (e, l, by_long_is rs b name, n) refl

  pub unneeded_long : (rows : List Row) (pending : Pending) (i : ℕ) (word name v : Word) (r : Rule) (ws : List Word) → bytes_eq word (45 ∷ 45 ∷ []) ≡ false
      → long_of word ≡ Some (name, Some v) → rule_named rs name ≡ Some r → r.has_value ≡ false → run rs b (word ∷ ws) (at rows pending idle i false) ≡ None
  unfolding walked
  unneeded_long rows pending i word name v r ws e l n f = rw (e, l, by_long_is rs b name, n, f) refl

  pub flag_long : (rows : List Row) (pending : Pending) (i : ℕ) (word name : Word) (r : Rule) (ws : List Word) → bytes_eq word (45 ∷ 45 ∷ []) ≡ false
      → long_of word ≡ Some (name, None) → rule_named rs name ≡ Some r → r.has_value ≡ false
      → run rs b (word ∷ ws) (at rows pending idle i false)
      ≡ taken (react_fault (args rs b) false (flag_arg r.name r.letter) [] (held rows pending))
      (run rs b ws (at (used (flag_arg r.name r.letter) [] (rows_with rs b rows pending)) None idle i false))
  unfolding walked
  flag_long rows pending i word name r ws e l n f = rw (e, l, by_long_is rs b name, n, f) (ap (λ t. if t then run rs b ws (at (used (flag_arg r.name r.letter) [] (rows_with rs b rows pending)) None idle i false) else None) (ok_nil _))

  pub value_long : (rows : List Row) (pending : Pending) (i : ℕ) (word name v : Word) (r : Rule) (ws : List Word) → bytes_eq word (45 ∷ 45 ∷ []) ≡ false
      → long_of word ≡ Some (name, Some v) → rule_named rs name ≡ Some r → r.has_value ≡ true
      → run rs b (word ∷ ws) (at rows pending idle i false)
      ≡ taken (react_fault (args rs b) false (value_arg r.name r.letter) (v ∷ []) (held rows pending))
      (run rs b ws (at (used (value_arg r.name r.letter) (v ∷ []) (rows_with rs b rows pending)) None idle i false))
  unfolding walked
  value_long rows pending i word name v r ws e l n f = rw (e, l, by_long_is rs b name, n, f) (ap (λ t. if t then run rs b ws (at (used (value_arg r.name r.letter) (v ∷ []) (rows_with rs b rows pending)) None idle i false) else None) (ok_nil _))

  pub open_long : (rows : List Row) (pending : Pending) (i : ℕ) (word name : Word) (r : Rule) (ws : List Word) → bytes_eq word (45 ∷ 45 ∷ []) ≡ false
      → long_of word ≡ Some (name, None) → rule_named rs name ≡ Some r → r.has_value ≡ true
      → run rs b (word ∷ ws) (at rows pending idle i false)
      ≡ taken (settle_fault (args rs b) false (held rows pending)) (run rs b ws (at (rows_with rs b rows pending) (Some (r.name, [])) (option r.name) i false))
  unfolding walked
  open_long rows pending i word name r ws e l n f = rw (e, l, by_long_is rs b name, n, f) (ap (λ t. if t then run rs b ws (at (rows_with rs b rows pending) (Some (r.name, [])) (option r.name) i false) else None) (ok_nil _))

  -- ---- an option by its letter, while nothing waits
  pub unknown_short : (rows : List Row) (pending : Pending) (i : ℕ) (word : Word) (x : ℕ) (rest : List ℕ) (ws : List Word) → bytes_eq word (45 ∷ 45 ∷ []) ≡ false
      → long_of word ≡ None → short_of word ≡ Some (x ∷ rest) → nat_lt x 128 ≡ true → rule_lettered rs x ≡ None
      → run rs b (word ∷ ws) (at rows pending idle i false) ≡ None
  unfolding walked flags_fault bundle_met
  unknown_short rows pending i word x rest ws e l s a n = rw (e, l, s, first_char x rest a, by_short_is rs b x, n) refl

  pub value_short : (rows : List Row) (pending : Pending) (i : ℕ) (word : Word) (x : ℕ) (rest : List ℕ) (v : Word) (r : Rule) (ws : List Word) → bytes_eq word (45 ∷ 45 ∷ []) ≡ false
      → long_of word ≡ None → short_of word ≡ Some (x ∷ rest) → nat_lt x 128 ≡ true → rule_lettered rs x ≡ Some r → r.has_value ≡ true → attached_value rest ≡ Some v
      → run rs b (word ∷ ws) (at rows pending idle i false)
      ≡ taken (react_fault (args rs b) false (value_arg r.name r.letter) (v ∷ []) (held rows pending))
      (run rs b ws (at (used (value_arg r.name r.letter) (v ∷ []) (rows_with rs b rows pending)) None idle i false))
  unfolding walked flags_fault bundle_met
  value_short rows pending i word x rest v r ws e l s a n f h = rw (e, l, s, first_char x rest a, by_short_is rs b x, n, f, encoded x a, h) (ap (λ t. if t then run rs b ws (at (used (value_arg r.name r.letter) (v ∷ []) (rows_with rs b rows pending)) None idle i false) else None) (ok_nil _))

  pub open_short : (rows : List Row) (pending : Pending) (i : ℕ) (word : Word) (x : ℕ) (rest : List ℕ) (r : Rule) (ws : List Word) → bytes_eq word (45 ∷ 45 ∷ []) ≡ false
      → long_of word ≡ None → short_of word ≡ Some (x ∷ rest) → nat_lt x 128 ≡ true → rule_lettered rs x ≡ Some r → r.has_value ≡ true → attached_value rest ≡ None
      → run rs b (word ∷ ws) (at rows pending idle i false)
      ≡ taken (settle_fault (args rs b) false (held rows pending)) (run rs b ws (at (rows_with rs b rows pending) (Some (r.name, [])) (option r.name) i false))
  unfolding walked flags_fault bundle_met
  open_short rows pending i word x rest r ws e l s a n f h = rw (e, l, s, first_char x rest a, by_short_is rs b x, n, f, encoded x a, h) (ap (λ t. if t then run rs b ws (at (rows_with rs b rows pending) (Some (r.name, [])) (option r.name) i false) else None) (ok_nil _))

  -- ---- a word while an option waits for its value
  pub long_waiting : (rows : List Row) (r : Rule) (i : ℕ) (word name : Word) (v : Option Word) (ws : List Word) → bytes_eq word (45 ∷ 45 ∷ []) ≡ false
      → long_of word ≡ Some (name, v) → rule_named rs r.name ≡ Some r → r.has_value ≡ true
      → run rs b (word ∷ ws) (at rows (Some (r.name, [])) (option r.name) i false) ≡ None
  unfolding walked
  long_waiting rows r i word name v ws e l n f = go (rule_named rs name) refl
    where
      go : (q : Option Rule) → rule_named rs name ≡ q → run rs b (word ∷ ws) (at rows (Some (r.name, [])) (option r.name) i false) ≡ None
      go None m = rw (e, l, by_long_is rs b name, m) refl
      go (Some q) m = by_kind q.has_value refl v refl
        where
          by_kind : (t : Bool) → q.has_value ≡ t → (u : Option Word) → v ≡ u → run rs b (word ∷ ws) (at rows (Some (r.name, [])) (option r.name) i false) ≡ None
          by_kind true t None u = rw (e, l, by_long_is rs b name, m, t, u, by_id_is rs b r.name r n, f) refl
          by_kind true t (Some w) u = rw (e, l, by_long_is rs b name, m, t, u, by_id_is rs b r.name r n, f) refl
          by_kind false t None u = rw (e, l, by_long_is rs b name, m, t, u, by_id_is rs b r.name r n, f) refl
          by_kind false t (Some w) u = rw (e, l, by_long_is rs b name, m, t, u) refl

  pub short_waiting : (rows : List Row) (r : Rule) (i : ℕ) (word : Word) (x : ℕ) (rest : List ℕ) (ws : List Word) → bytes_eq word (45 ∷ 45 ∷ []) ≡ false
      → long_of word ≡ None → short_of word ≡ Some (x ∷ rest) → nat_lt x 128 ≡ true → rule_named rs r.name ≡ Some r → r.has_value ≡ true
      → run rs b (word ∷ ws) (at rows (Some (r.name, [])) (option r.name) i false) ≡ None
  unfolding walked flags_fault bundle_met
  short_waiting rows r i word x rest ws e l s a n f = go (rule_lettered rs x) refl
    where
      go : (q : Option Rule) → rule_lettered rs x ≡ q → run rs b (word ∷ ws) (at rows (Some (r.name, [])) (option r.name) i false) ≡ None
      go None m = rw (e, l, s, first_char x rest a, by_short_is rs b x, m) refl
      go (Some q) m = by_kind q.has_value refl (attached_value (drop (length (encode_utf8 x)) (x ∷ rest))) refl
        where
          by_kind : (t : Bool) → q.has_value ≡ t → (u : Option Word) → attached_value (drop (length (encode_utf8 x)) (x ∷ rest)) ≡ u → run rs b (word ∷ ws) (at rows (Some (r.name, [])) (option r.name) i false) ≡ None
          by_kind true t None u = rw (e, l, s, first_char x rest a, by_short_is rs b x, m, t, u, by_id_is rs b r.name r n, f) refl
          by_kind true t (Some w) u = rw (e, l, s, first_char x rest a, by_short_is rs b x, m, t, u, by_id_is rs b r.name r n, f) refl
          by_kind false t u v = rw (e, l, s, first_char x rest a, by_short_is rs b x, m, t, by_id_is rs b r.name r n, f) refl

  pub plain_waiting : (rows : List Row) (r : Rule) (i : ℕ) (word : Word) (ws : List Word) → bytes_eq word (45 ∷ 45 ∷ []) ≡ false
      → long_of word ≡ None → short_of word ≡ None → rule_named rs r.name ≡ Some r → r.has_value ≡ true
      → run rs b (word ∷ ws) (at rows (Some (r.name, [])) (option r.name) i false) ≡ run rs b ws (at rows (Some (r.name, word ∷ [])) idle i false)
  unfolding walked
  plain_waiting rows r i word ws e l s n f = rw (e, l, s, by_id_is rs b r.name r n, f, bytes_eq-refl r.name) refl

  -- ---- words behind `--`, and those that are no option
  pub place_here : (rows : List Row) (pending : Pending) (waiting : Waiting) (i k : ℕ) (id word : Word) (ws : List Word) → arg_by_index (args rs b) i ≡ Some (spot_arg k id)
      → run rs b (word ∷ ws) (at rows pending waiting i true)
      ≡ taken (settle_fault (args rs b) false (held rows pending)) (run rs b ws (at (rows_with rs b rows pending) (Some (id, word ∷ [])) idle (min (i + 1) 18446744073709551615) true))
  unfolding walked
  place_here rows pending waiting i k id word ws n = rw (n, and_false (is_pending (spot_arg k id) pending)) refl

  pub no_place : (rows : List Row) (pending : Pending) (waiting : Waiting) (i : ℕ) (word : Word) (ws : List Word) → arg_by_index (args rs b) i ≡ None
      → run rs b (word ∷ ws) (at rows pending waiting i true) ≡ None
  unfolding walked
  no_place rows pending waiting i word ws n = rw n refl

  pub place_idle : (rows : List Row) (pending : Pending) (i k : ℕ) (id word : Word) (ws : List Word) → bytes_eq word (45 ∷ 45 ∷ []) ≡ false
      → long_of word ≡ None → short_of word ≡ None → arg_by_index (args rs b) i ≡ Some (spot_arg k id)
      → run rs b (word ∷ ws) (at rows pending idle i false)
      ≡ taken (settle_fault (args rs b) false (held rows pending)) (run rs b ws (at (rows_with rs b rows pending) (Some (id, word ∷ [])) idle (min (i + 1) 18446744073709551615) false))
  unfolding walked
  place_idle rows pending i k id word ws e l s n = rw (e, l, s, n, and_false (is_pending (spot_arg k id) pending)) refl

  pub no_place_idle : (rows : List Row) (pending : Pending) (i : ℕ) (word : Word) (ws : List Word) → bytes_eq word (45 ∷ 45 ∷ []) ≡ false
      → long_of word ≡ None → short_of word ≡ None → arg_by_index (args rs b) i ≡ None → run rs b (word ∷ ws) (at rows pending idle i false) ≡ None
  unfolding walked
  no_place_idle rows pending i word ws e l s n = rw (e, l, s, n) refl
