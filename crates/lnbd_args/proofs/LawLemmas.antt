-- The law between clap's walk and the parts that the words spell: what `run` comes to.
use Rattle.std.proofs.Common.{◌≡◌, ◌∙◌, ℕ, ◌+◌, ◌==◌, ◌&&◌, ◌||◌, Bool, true, false, not, List, [], ◌∷◌, ◌++◌, map, length, min, Option, Some, None, codes, option_map, refl, sym, ap, subst, true≢false}
use Rattle.std.specs.Prelude.{if◌then◌else◌, nat_lt}
use Rattle.std.specs.Str.{bytes_eq}
use Rattle.std.specs.Cmp.Lexicographic.{same_text}
use Rattle.std.proofs.lemmas.Bool.{and_parts}
use Rattle.clap.specs.Lexer.{has_byte, long_of, short_of}
use Rattle.clap.specs.Walk.{Row, Waiting, idle, option, arg_by_id, arg_by_index, attached_value, has_row, used}
use Rattle.clap.specs.Faults.{react_fault, settle_fault, use_fault}
use Rattle.lnbd_args.specs.Words.{Rule, Word, Part, flag, value, place, rule_named, rule_lettered}
use Rattle.lnbd_args.specs.Clap.{first_id, second_id}
use Rattle.lnbd_args.proofs.Scan.{by_found, cons, scan, stepped, is_ascii_flags}
use Rattle.lnbd_args.proofs.ClapLemmas.{args, by_id_is, by_index_is, first_by_id, flag_arg, ok_flag, ok_or, ok_spot, ok_value, put_fresh, row_of, second_by_id, spot_arg, spots, value_arg}
use Rattle.lnbd_args.proofs.StepLemmas.{Pending, at, flag_long, held, is_ready, long_waiting, no_place, no_place_idle, open_long, open_short, place_here, place_idle, plain_waiting, rows_with, run, short_waiting, stop_idle, stop_waiting, taken, unknown_long, unknown_short, unneeded_long, value_long, value_short}

-- ---- the rows of the parts

abbrev pub flag_row : Word → Row
flag_row n = row_of (flag_arg n None) (codes "true" ∷ [])

abbrev pub value_row : Word → Word → Row
value_row n v = row_of (value_arg n None) (v ∷ [])

abbrev pub place_row : ℕ → Word → Word → Row
place_row i id w = row_of (spot_arg i id) (w ∷ [])

-- which place comes next
pub data Spot : Type 0 where
  first : Spot
  second : Spot
  full : Spot

abbrev pub position_of : Spot → ℕ
position_of first = 1
position_of second = 2
position_of full = 3

abbrev pub after : Spot → Spot
after first = second
after _ = full

abbrev pub spot_id : Bool → Spot → Option Word
spot_id b first = Some first_id
spot_id true second = Some second_id
spot_id false second = None
spot_id b full = None

-- one row more, unless its name has one
abbrev pub admit : Word → Row → (List Row → Option (List Row)) → List Row → Option (List Row)
admit id r next rows = if has_row id rows then None else next (rows ++ r ∷ [])

abbrev pub place_into : Option Word → ℕ → Word → (List Row → Option (List Row)) → List Row → Option (List Row)
place_into None i w next rows = None
place_into (Some id) i w next rows = admit id (place_row i id w) next rows

-- the rows with those of the parts, unless a name comes twice, a value is empty or a place too many
abbrev pub added : Bool → Spot → List Part → List Row → Option (List Row)
added b sp [] rows = Some rows
added b sp (flag n ∷ parts) rows = admit n (flag_row n) (added b sp parts) rows
added b sp (value n v ∷ parts) rows = if nat_lt 0 (length v) then admit n (value_row n v) (added b sp parts) rows else None
added b sp (place w ∷ parts) rows = place_into (spot_id b sp) (position_of sp) w (added b (after sp) parts) rows

abbrev pub grown : Bool → Spot → Option (List Part) → List Row → Option (List Row)
grown b sp None rows = None
grown b sp (Some parts) rows = added b sp parts rows

-- ---- what the law asks of the rules

pub record Fits (rs : List Rule) : Type 0 where
  pub no_first : rule_named rs first_id ≡ None
  pub no_second : rule_named rs second_id ≡ None
  pub letters : (x : ℕ) (r : Rule) → rule_lettered rs x ≡ Some r → (rule_named rs r.name ≡ Some r) × (r.has_value ≡ true)
  pub marks : (x : ℕ) (r : Rule) → rule_lettered rs x ≡ Some r → ((x == 45) ≡ false) × (nat_lt x 128 ≡ true)
  pub plain : (name : Word) (r : Rule) → rule_named rs name ≡ Some r → (nat_lt 0 (length name) ≡ true) × (has_byte 61 name ≡ false)

pub named_name : (rs : List Rule) (name : Word) (r : Rule) → rule_named rs name ≡ Some r → r.name ≡ name
named_name [] name r e = absurd (cc)
named_name (q ∷ rs) name r e = go (named_name rs name r) (bytes_eq q.name name) refl
  where
    go : (rule_named rs name ≡ Some r → r.name ≡ name) → (t : Bool) → bytes_eq q.name name ≡ t → r.name ≡ name
    go ih true t =
        let same : Some q ≡ Some r = rw t at e in
        let is : q ≡ r = cc in
        sym (ap (λ (x : Rule). x.name) is) ∙ same_text q.name name (sym t)
    go ih false t = ih (rw t at e)

pub named_self : (rs : List Rule) (name : Word) (r : Rule) → rule_named rs name ≡ Some r → rule_named rs r.name ≡ Some r
named_self rs name r e = ap (rule_named rs) (named_name rs name r e) ∙ e

-- each word until `--` that begins with one `-` goes on with an ASCII character
abbrev pub are_ascii_flags : List Word → Bool
are_ascii_flags [] = true
are_ascii_flags (w ∷ ws) = bytes_eq w (45 ∷ 45 ∷ []) || (is_ascii_flags (short_of w) && are_ascii_flags ws)

-- ---- one part more

abbrev nothing : Option (List Row)
nothing = None

none_either : (t : Bool) → nothing ≡ (if t then nothing else nothing)
none_either true = refl
none_either false = refl

either_none : (t : Bool) → (if t then nothing else nothing) ≡ nothing
either_none true = refl
either_none false = refl

both_asked : (s t : Bool) (y z : Option (List Row)) → (if t then y else None) ≡ z → (if s && t then y else None) ≡ (if s then z else None)
both_asked true t y z e = e
both_asked false t y z e = refl

module _ (rs : List Rule) (b : Bool) where
  flag_grown : (sp : Spot) (n : Word) (l : Option ℕ) (X : Option (List Part)) (R : List Row)
      → (if not (has_row n R) then grown b sp X (used (flag_arg n l) [] R) else None) ≡ grown b sp (cons (flag n) X) R
  flag_grown sp n l None R = either_none (not (has_row n R))
  flag_grown sp n l (Some parts) R = go (has_row n R) refl
    where
      go : (t : Bool) → has_row n R ≡ t → (if not (has_row n R) then added b sp parts (used (flag_arg n l) [] R) else None) ≡ admit n (flag_row n) (added b sp parts) R
      go true t = rw t refl
      go false t = rw t (ap (added b sp parts) (put_fresh n _ (codes "true" ∷ []) R t))

  value_grown : (sp : Spot) (n : Word) (l : Option ℕ) (v : Word) (X : Option (List Part)) (R : List Row)
      → (if not (has_row n R) && nat_lt 0 (length v) then grown b sp X (used (value_arg n l) (v ∷ []) R) else None) ≡ grown b sp (cons (value n v) X) R
  value_grown sp n l v None R = either_none (not (has_row n R) && nat_lt 0 (length v))
  value_grown sp n l v (Some parts) R = go (has_row n R) refl (nat_lt 0 (length v)) refl
    where
      go : (t : Bool) → has_row n R ≡ t → (u : Bool) → nat_lt 0 (length v) ≡ u
          → (if not (has_row n R) && nat_lt 0 (length v) then added b sp parts (used (value_arg n l) (v ∷ []) R) else None)
          ≡ (if nat_lt 0 (length v) then admit n (value_row n v) (added b sp parts) R else None)
      go true t true u = rw (t, u) refl
      go true t false u = rw (t, u) refl
      go false t true u = rw (t, u) (ap (added b sp parts) (put_fresh n _ (v ∷ []) R t))
      go false t false u = rw (t, u) refl

  place_grown : (sp : Spot) (id w : Word) (X : Option (List Part)) (R : List Row) → spot_id b sp ≡ Some id
      → (if not (has_row id R) then grown b (after sp) X (used (spot_arg (position_of sp) id) (w ∷ []) R) else None) ≡ grown b sp (cons (place w) X) R
  place_grown sp id w None R e = either_none (not (has_row id R))
  place_grown sp id w (Some parts) R e = go (has_row id R) refl
    where
      go : (t : Bool) → has_row id R ≡ t
          → (if not (has_row id R) then added b (after sp) parts (used (spot_arg (position_of sp) id) (w ∷ []) R) else None)
          ≡ place_into (spot_id b sp) (position_of sp) w (added b (after sp) parts) R
      go true t = rw (t, e, t) refl
      go false t = rw (t, e, t) (ap (added b (after sp) parts) (put_fresh id _ (w ∷ []) R t))

  -- ---- the same, as clap takes it
  took_flag : (sp : Spot) (n : Word) (l : Option ℕ) (X : Option (List Part)) (rows : List Row) (pending : Pending)
      → taken (react_fault (args rs b) false (flag_arg n l) [] (held rows pending)) (grown b sp X (used (flag_arg n l) [] (rows_with rs b rows pending)))
      ≡ (if is_ready rs b rows pending then grown b sp (cons (flag n) X) (rows_with rs b rows pending) else None)
  took_flag sp n l X rows pending =
      let R = rows_with rs b rows pending in
      ap (λ (t : Bool). if t then grown b sp X (used (flag_arg n l) [] R) else None)
      (ok_or (settle_fault (args rs b) false (held rows pending)) (use_fault false (flag_arg n l) [] R) ∙ ap (λ t. is_ready rs b rows pending && t) (ok_flag n l R))
      ∙ both_asked (is_ready rs b rows pending) (not (has_row n R)) _ _ (flag_grown sp n l X R)

  took_value : (sp : Spot) (n : Word) (l : Option ℕ) (v : Word) (X : Option (List Part)) (rows : List Row) (pending : Pending)
      → taken (react_fault (args rs b) false (value_arg n l) (v ∷ []) (held rows pending)) (grown b sp X (used (value_arg n l) (v ∷ []) (rows_with rs b rows pending)))
      ≡ (if is_ready rs b rows pending then grown b sp (cons (value n v) X) (rows_with rs b rows pending) else None)
  took_value sp n l v X rows pending =
      let R = rows_with rs b rows pending in
      ap (λ (t : Bool). if t then grown b sp X (used (value_arg n l) (v ∷ []) R) else None)
      (ok_or (settle_fault (args rs b) false (held rows pending)) (use_fault false (value_arg n l) (v ∷ []) R) ∙ ap (λ t. is_ready rs b rows pending && t) (ok_value n l v R))
      ∙ both_asked (is_ready rs b rows pending) (not (has_row n R) && nat_lt 0 (length v)) _ _ (value_grown sp n l v X R)

  -- ---- what is pending
  waited_value : (sp : Spot) (r : Rule) (v : Word) (X : Option (List Part)) (rows : List Row) → rule_named rs r.name ≡ Some r → r.has_value ≡ true
      → (if is_ready rs b rows (Some (r.name, v ∷ [])) then grown b sp X (rows_with rs b rows (Some (r.name, v ∷ []))) else None) ≡ grown b sp (cons (value r.name v) X) rows
  waited_value sp r v X rows n f =
      rw (by_id_is rs b r.name r n, f, ok_value r.name r.letter v rows) (value_grown sp r.name r.letter v X rows)

  pub spot_found : (sp : Spot) → arg_by_index (args rs b) (position_of sp) ≡ option_map (λ id. spot_arg (position_of sp) id) (spot_id b sp)
  spot_found sp = by_index_is rs b (position_of sp) ∙ go b sp
    where
      go : (c : Bool) (sp : Spot) → arg_by_index (spots c) (position_of sp) ≡ option_map (λ id. spot_arg (position_of sp) id) (spot_id c sp)
      go true first = refl
      go true second = refl
      go true full = refl
      go false first = refl
      go false second = refl
      go false full = refl

  next_position_is : (sp : Spot) (id : Word) → spot_id b sp ≡ Some id → min (position_of sp + 1) 18446744073709551615 ≡ position_of (after sp)
  next_position_is first id e = refl
  next_position_is second id e = refl
  next_position_is full id e = absurd (cc)

  module _ (fits : Fits rs) where
    spot_by_id : (sp : Spot) (id : Word) → spot_id b sp ≡ Some id → arg_by_id (args rs b) id ≡ Some (spot_arg (position_of sp) id)
    spot_by_id sp id e = go b sp e
      where
        go : (c : Bool) (sp : Spot) → spot_id c sp ≡ Some id → arg_by_id (args rs c) id ≡ Some (spot_arg (position_of sp) id)
        go c first e = let is : first_id ≡ id = cc in subst (λ (x : Word). arg_by_id (args rs c) x ≡ Some (spot_arg 1 x)) is (first_by_id rs c fits.no_first)
        go true second e = let is : second_id ≡ id = cc in subst (λ (x : Word). arg_by_id (args rs true) x ≡ Some (spot_arg 2 x)) is (second_by_id rs fits.no_second)
        go false second e = absurd (cc)
        go c full e = absurd (cc)

    waited_place : (sp : Spot) (id w : Word) (X : Option (List Part)) (rows : List Row) → spot_id b sp ≡ Some id
        → (if is_ready rs b rows (Some (id, w ∷ [])) then grown b (after sp) X (rows_with rs b rows (Some (id, w ∷ []))) else None) ≡ grown b sp (cons (place w) X) rows
    waited_place sp id w X rows e =
        rw (spot_by_id sp id e, ok_spot (position_of sp) id w rows) (place_grown sp id w X rows e)

    -- ---- the law
    -- behind `--`
    trail : (ws : List Word) (rows : List Row) (pending : Pending) (waiting : Waiting) (sp : Spot)
        → run rs b ws (at rows pending waiting (position_of sp) true) ≡ (if is_ready rs b rows pending then added b sp (map place ws) (rows_with rs b rows pending) else None)
    trail [] rows pending waiting sp = refl
    trail (w ∷ ws) rows pending waiting sp = go (spot_id b sp) refl (λ id. trail ws (rows_with rs b rows pending) (Some (id, w ∷ [])) idle (after sp))
      where
        go : (o : Option Word) → spot_id b sp ≡ o
            → ((id : Word) → run rs b ws (at (rows_with rs b rows pending) (Some (id, w ∷ [])) idle (position_of (after sp)) true)
            ≡ (if is_ready rs b (rows_with rs b rows pending) (Some (id, w ∷ [])) then added b (after sp) (map place ws) (rows_with rs b (rows_with rs b rows pending) (Some (id, w ∷ []))) else None))
            → run rs b (w ∷ ws) (at rows pending waiting (position_of sp) true)
            ≡ (if is_ready rs b rows pending then added b sp (place w ∷ map place ws) (rows_with rs b rows pending) else None)
        go None e ih =
            no_place rs b rows pending waiting (position_of sp) w ws (spot_found sp ∙ ap (option_map (λ id. spot_arg (position_of sp) id)) e)
            ∙ rw e (none_either (is_ready rs b rows pending))
        go (Some id) e ih =
            place_here rs b rows pending waiting (position_of sp) (position_of sp) id w ws (spot_found sp ∙ ap (option_map (λ id. spot_arg (position_of sp) id)) e)
            ∙ ap (λ x. taken (settle_fault (args rs b) false (held rows pending)) x)
            (ap (λ i. run rs b ws (at (rows_with rs b rows pending) (Some (id, w ∷ [])) idle i true)) (next_position_is sp id e)
            ∙ ih id ∙ waited_place sp id w (Some (map place ws)) (rows_with rs b rows pending) e)

    -- until `--`, while nothing waits
    abbrev Idle : List Word → Type 0
    Idle ws = (rows : List Row) (pending : Pending) (sp : Spot) → run rs b ws (at rows pending idle (position_of sp) false)
        ≡ (if is_ready rs b rows pending then grown b sp (scan rs ws None) (rows_with rs b rows pending) else None)

    -- until `--`, while an option waits for its value
    abbrev Waits : List Word → Type 0
    Waits ws = (rows : List Row) (r : Rule) (sp : Spot) → rule_named rs r.name ≡ Some r → r.has_value ≡ true
        → run rs b ws (at rows (Some (r.name, [])) (option r.name) (position_of sp) false) ≡ grown b sp (scan rs ws (Some r.name)) rows

    idle_end : Idle []
    idle_end rows pending sp = refl

    waits_end : Waits []
    waits_end rows r sp n f = rw (by_id_is rs b r.name r n, f) refl

    idle_stop : (w : Word) (ws : List Word) → bytes_eq w (45 ∷ 45 ∷ []) ≡ true → Idle (w ∷ ws)
    idle_stop w ws e rows pending sp = stop_idle rs b rows pending (position_of sp) w ws e ∙ trail ws rows pending idle sp ∙ rw e refl

    waits_stop : (w : Word) (ws : List Word) → bytes_eq w (45 ∷ 45 ∷ []) ≡ true → Waits (w ∷ ws)
    waits_stop w ws e rows r sp n f = stop_waiting rs b rows (Some (r.name, [])) r.name (position_of sp) w ws e ∙ trail ws rows (Some (r.name, [])) (option r.name) sp
        ∙ rw (e, by_id_is rs b r.name r n, f) refl

    idle_long : (w name : Word) (v : Option Word) (ws : List Word) → bytes_eq w (45 ∷ 45 ∷ []) ≡ false → long_of w ≡ Some (name, v) → Idle ws → Waits ws → Idle (w ∷ ws)
    idle_long w name v ws e l ih wait rows pending sp = go (rule_named rs name) refl
      where
        by_kind : (r : Rule) → rule_named rs name ≡ Some r → (t : Bool) → r.has_value ≡ t → (u : Option Word) → v ≡ u → run rs b (w ∷ ws) (at rows pending idle (position_of sp) false)
            ≡ (if is_ready rs b rows pending then grown b sp (scan rs (w ∷ ws) None) (rows_with rs b rows pending) else None)
        by_kind r n true t None u =
            open_long rs b rows pending (position_of sp) w name r ws e (l ∙ ap (λ x. Some (name, x)) u) n t
            ∙ ap (λ x. taken (settle_fault (args rs b) false (held rows pending)) x) (wait (rows_with rs b rows pending) r sp (named_self rs name r n) t)
            ∙ rw (e, l, n, u, t) refl
        by_kind r n true t (Some x) u =
            value_long rs b rows pending (position_of sp) w name x r ws e (l ∙ ap (λ x. Some (name, x)) u) n t
            ∙ ap (λ y. taken (react_fault (args rs b) false (value_arg r.name r.letter) (x ∷ []) (held rows pending)) y) (ih _ None sp)
            ∙ took_value sp r.name r.letter x (scan rs ws None) rows pending ∙ rw (e, l, n, u, t) refl
        by_kind r n false t None u =
            flag_long rs b rows pending (position_of sp) w name r ws e (l ∙ ap (λ x. Some (name, x)) u) n t
            ∙ ap (λ y. taken (react_fault (args rs b) false (flag_arg r.name r.letter) [] (held rows pending)) y) (ih _ None sp)
            ∙ took_flag sp r.name r.letter (scan rs ws None) rows pending ∙ rw (e, l, n, u, t) refl
        by_kind r n false t (Some x) u =
            unneeded_long rs b rows pending (position_of sp) w name x r ws e (l ∙ ap (λ x. Some (name, x)) u) n t
            ∙ rw (e, l, n, u, t) (none_either (is_ready rs b rows pending))

        go : (o : Option Rule) → rule_named rs name ≡ o → run rs b (w ∷ ws) (at rows pending idle (position_of sp) false)
            ≡ (if is_ready rs b rows pending then grown b sp (scan rs (w ∷ ws) None) (rows_with rs b rows pending) else None)
        go None n = unknown_long rs b rows pending (position_of sp) w name v ws e l n ∙ rw (e, l, n) (none_either (is_ready rs b rows pending))
        go (Some r) n = by_kind r n r.has_value refl v refl

    idle_short : (w : Word) (x : ℕ) (rest : List ℕ) (ws : List Word) → bytes_eq w (45 ∷ 45 ∷ []) ≡ false → long_of w ≡ None → short_of w ≡ Some (x ∷ rest) → nat_lt x 128 ≡ true
        → Idle ws → Waits ws → Idle (w ∷ ws)
    idle_short w x rest ws e l s a ih wait rows pending sp = go (rule_lettered rs x) refl
      where
        by_kind : (r : Rule) → rule_lettered rs x ≡ Some r → (u : Option Word) → attached_value rest ≡ u → run rs b (w ∷ ws) (at rows pending idle (position_of sp) false)
            ≡ (if is_ready rs b rows pending then grown b sp (scan rs (w ∷ ws) None) (rows_with rs b rows pending) else None)
        by_kind r n None u =
            let known = fits.letters x r n in
            open_short rs b rows pending (position_of sp) w x rest r ws e l s a n known.1 u
            ∙ ap (λ y. taken (settle_fault (args rs b) false (held rows pending)) y) (wait (rows_with rs b rows pending) r sp known.0 known.1)
            ∙ rw (e, l, s, n, u, known.1) refl
        by_kind r n (Some v) u =
            let known = fits.letters x r n in
            value_short rs b rows pending (position_of sp) w x rest v r ws e l s a n known.1 u
            ∙ ap (λ y. taken (react_fault (args rs b) false (value_arg r.name r.letter) (v ∷ []) (held rows pending)) y) (ih _ None sp)
            ∙ took_value sp r.name r.letter v (scan rs ws None) rows pending ∙ rw (e, l, s, n, u, known.1) refl

        go : (o : Option Rule) → rule_lettered rs x ≡ o → run rs b (w ∷ ws) (at rows pending idle (position_of sp) false)
            ≡ (if is_ready rs b rows pending then grown b sp (scan rs (w ∷ ws) None) (rows_with rs b rows pending) else None)
        go None n = unknown_short rs b rows pending (position_of sp) w x rest ws e l s a n ∙ rw (e, l, s, n) (none_either (is_ready rs b rows pending))
        go (Some r) n = by_kind r n (attached_value rest) refl

    idle_plain : (w : Word) (ws : List Word) → bytes_eq w (45 ∷ 45 ∷ []) ≡ false → long_of w ≡ None → short_of w ≡ None → Idle ws → Idle (w ∷ ws)
    idle_plain w ws e l s ih rows pending sp = go (spot_id b sp) refl
      where
        no_spot : (o : Option (List Part)) → spot_id b sp ≡ None → nothing ≡ (if is_ready rs b rows pending then grown b sp (cons (place w) o) (rows_with rs b rows pending) else None)
        no_spot None n = none_either (is_ready rs b rows pending)
        no_spot (Some parts) n = rw n (none_either (is_ready rs b rows pending))

        go : (o : Option Word) → spot_id b sp ≡ o → run rs b (w ∷ ws) (at rows pending idle (position_of sp) false)
            ≡ (if is_ready rs b rows pending then grown b sp (scan rs (w ∷ ws) None) (rows_with rs b rows pending) else None)
        go None n =
            no_place_idle rs b rows pending (position_of sp) w ws e l s (spot_found sp ∙ ap (option_map (λ id. spot_arg (position_of sp) id)) n)
            ∙ rw (e, l, s) (no_spot (scan rs ws None) n)
        go (Some id) n =
            place_idle rs b rows pending (position_of sp) (position_of sp) id w ws e l s (spot_found sp ∙ ap (option_map (λ id. spot_arg (position_of sp) id)) n)
            ∙ ap (λ x. taken (settle_fault (args rs b) false (held rows pending)) x)
            (ap (λ i. run rs b ws (at (rows_with rs b rows pending) (Some (id, w ∷ [])) idle i false)) (next_position_is sp id n)
            ∙ ih (rows_with rs b rows pending) (Some (id, w ∷ [])) (after sp) ∙ waited_place sp id w (scan rs ws None) (rows_with rs b rows pending) n)
            ∙ rw (e, l, s) refl

    -- an option's name where a value is due is refused, whatever rule it has
    refused : (o : Option Rule) (v : Option Word) (r : Rule) (w : Word) (ws : List Word) (sp : Spot) (rows : List Row)
        → grown b sp (stepped (by_found o v) w ws (scan rs ws) (Some r.name)) rows ≡ None
    refused None v r w ws sp rows = refl
    refused (Some q) v r w ws sp rows = go q.has_value refl v
      where
        go : (t : Bool) → q.has_value ≡ t → (v : Option Word) → grown b sp (stepped (by_found (Some q) v) w ws (scan rs ws) (Some r.name)) rows ≡ None
        go true t None = rw t refl
        go true t (Some v) = rw t refl
        go false t None = rw t refl
        go false t (Some v) = rw t refl

    waits_long : (w name : Word) (v : Option Word) (ws : List Word) → bytes_eq w (45 ∷ 45 ∷ []) ≡ false → long_of w ≡ Some (name, v) → Waits (w ∷ ws)
    waits_long w name v ws e l rows r sp n f =
        long_waiting rs b rows r (position_of sp) w name v ws e l n f ∙ rw (e, l) (sym (refused (rule_named rs name) v r w ws sp rows))

    waits_short : (w : Word) (x : ℕ) (rest : List ℕ) (ws : List Word) → bytes_eq w (45 ∷ 45 ∷ []) ≡ false → long_of w ≡ None → short_of w ≡ Some (x ∷ rest) → nat_lt x 128 ≡ true
        → Waits (w ∷ ws)
    waits_short w x rest ws e l s a rows r sp n f =
        short_waiting rs b rows r (position_of sp) w x rest ws e l s a n f ∙ rw (e, l, s) (sym (refused (rule_lettered rs x) (attached_value rest) r w ws sp rows))

    waits_plain : (w : Word) (ws : List Word) → bytes_eq w (45 ∷ 45 ∷ []) ≡ false → long_of w ≡ None → short_of w ≡ None → Idle ws → Waits (w ∷ ws)
    waits_plain w ws e l s ih rows r sp n f =
        plain_waiting rs b rows r (position_of sp) w ws e l s n f ∙ ih rows (Some (r.name, w ∷ [])) sp
        ∙ waited_value sp r w (scan rs ws None) rows n f ∙ rw (e, l, s) refl

    both_steps : (w : Word) (ws : List Word) → are_ascii_flags (w ∷ ws) ≡ true → (are_ascii_flags ws ≡ true → Idle ws × Waits ws) → Idle (w ∷ ws) × Waits (w ∷ ws)
    both_steps w ws fair ih = go (bytes_eq w (45 ∷ 45 ∷ [])) refl
      where
        by_short : (o : Option (List ℕ)) → short_of w ≡ o → bytes_eq w (45 ∷ 45 ∷ []) ≡ false → long_of w ≡ None → is_ascii_flags o ≡ true → Idle ws × Waits ws → Idle (w ∷ ws) × Waits (w ∷ ws)
        by_short None s e l a h = (idle_plain w ws e l s h.0, waits_plain w ws e l s h.0)
        by_short (Some []) s e l a h = absurd (true≢false (sym a))
        by_short (Some (x ∷ rest)) s e l a h = (idle_short w x rest ws e l s a h.0 h.1, waits_short w x rest ws e l s a)

        by_long : (o : Option (Word × Option Word)) → long_of w ≡ o → bytes_eq w (45 ∷ 45 ∷ []) ≡ false → is_ascii_flags (short_of w) ≡ true → Idle ws × Waits ws → Idle (w ∷ ws) × Waits (w ∷ ws)
        by_long None l e a h = by_short (short_of w) refl e l a h
        by_long (Some p) l e a h = (idle_long w p.0 p.1 ws e l h.0 h.1, waits_long w p.0 p.1 ws e l)

        go : (t : Bool) → bytes_eq w (45 ∷ 45 ∷ []) ≡ t → Idle (w ∷ ws) × Waits (w ∷ ws)
        go true e = (idle_stop w ws e, waits_stop w ws e)
        go false e =
            let parts = and_parts _ _ (rw e at fair) in
            by_long (long_of w) refl e parts.0 (ih parts.1)

    law : (ws : List Word) → are_ascii_flags ws ≡ true → Idle ws × Waits ws
    law [] fair = (idle_end, waits_end)
    law (w ∷ ws) fair = both_steps w ws fair (law ws)

    -- clap's walk over the words gives the rows of the parts that they spell, and fails where they spell none
    pub walk_law : (ws : List Word) → are_ascii_flags ws ≡ true → run rs b ws (at [] None idle 1 false) ≡ grown b first (scan rs ws None) []
    walk_law ws fair = (law ws fair).0 [] None first
