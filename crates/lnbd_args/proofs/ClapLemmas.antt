-- What clap makes of a tool's rules.
use Rattle.std.proofs.Common.{◌≡◌, ◌∙◌, ℕ, ◌==◌, ◌&&◌, ◌||◌, Bool, true, false, not, List, [], ◌∷◌, ◌++◌, map, length, Option, Some, None, option_map, refl, ap, rules, true≢false}
use Rattle.std.specs.Prelude.{if◌then◌else◌, nat_lt}
use Rattle.std.specs.Option.{option_map_or}
use Rattle.std.specs.Str.{bytes_eq}
use Rattle.clap.specs.Simple.{filled, filled_from, new_rule}
use Rattle.clap.specs.Walk.{Rule as Arg, Row, arg_by_id, arg_by_index, arg_by_long, arg_by_short, has_row, reading_by, with_values, without}
use Rattle.clap.specs.Faults.{use_fault}
use Rattle.clap.specs.Kinds.{Kinds, or_else}
use Rattle.clap.specs.declared.builder.action.ArgAction.TheVariants.{Set, SetTrue}
use Rattle.clap.specs.declared.builder.value_parser.ValueParser.TheVariants.{NonEmptyString}
use Rattle.clap.specs.declared.builder.value_parser.Reading.{Reading}
use Rattle.clap.specs.declared.parser.matches.ValueSource.{ValueSource}
use Rattle.clap.specs.declared.parser.matches.ValueSource.TheVariants.{CommandLine}
use Rattle.lnbd_args.specs.Words.{Rule, Word, rule_named, rule_lettered}
use Rattle.lnbd_args.specs.Clap.{arg_of, place_arg, place_args, first_id, second_id}

-- ---- the arguments that clap builds

abbrev pub value_arg : Word → Option ℕ → Arg
value_arg name letter = filled (record (new_rule name) { long = Some name; short = letter; action = Some Set; parser = Some NonEmptyString })

abbrev pub flag_arg : Word → Option ℕ → Arg
flag_arg name letter = filled (record (new_rule name) { long = Some name; short = letter; action = Some SetTrue })

abbrev pub built_arg : Rule → Arg
built_arg r = if r.has_value then value_arg r.name r.letter else flag_arg r.name r.letter

abbrev pub spot_arg : ℕ → Word → Arg
spot_arg i id = record (filled (place_arg id)) { index = Some i }

abbrev pub spots : Bool → List Arg
spots false = spot_arg 1 first_id ∷ []
spots true = spot_arg 1 first_id ∷ spot_arg 2 second_id ∷ []

abbrev pub args : List Rule → Bool → List Arg
args rules b = map built_arg rules ++ spots b

filled_options : (rs : List Rule) (ps : List Arg) → filled_from 1 (map arg_of rs ++ ps) ≡ map built_arg rs ++ filled_from 1 ps
filled_options [] ps = refl
filled_options (r ∷ rs) ps = go (filled_options rs ps) r.has_value refl
  where
    go : filled_from 1 (map arg_of rs ++ ps) ≡ map built_arg rs ++ filled_from 1 ps → (v : Bool) → r.has_value ≡ v → filled_from 1 (map arg_of (r ∷ rs) ++ ps) ≡ map built_arg (r ∷ rs) ++ filled_from 1 ps
    go ih true e = rw (e, ih) refl
    go ih false e = rw (e, ih) refl

filled_spots : (b : Bool) → filled_from 1 (place_args b) ≡ spots b
filled_spots true = refl
filled_spots false = refl

pub filled_args : (rs : List Rule) (b : Bool) → filled_from 1 (map arg_of rs ++ place_args b) ≡ args rs b
filled_args rs b = filled_options rs (place_args b) ∙ ap (λ ps. map built_arg rs ++ ps) (filled_spots b)

-- ---- look-ups

or_false : (b : Bool) → (b || false) ≡ b
or_false true = refl
or_false false = refl

pub by_long_is : (rs : List Rule) (b : Bool) (name : Word) → arg_by_long (args rs b) name ≡ option_map built_arg (rule_named rs name)
by_long_is [] true name = refl
by_long_is [] false name = refl
by_long_is (r ∷ rs) b name = go (by_long_is rs b name) r.has_value refl (bytes_eq r.name name) refl
  where
    go : arg_by_long (args rs b) name ≡ option_map built_arg (rule_named rs name) → (v : Bool) → r.has_value ≡ v → (t : Bool) → bytes_eq r.name name ≡ t → arg_by_long (args (r ∷ rs) b) name ≡ option_map built_arg (rule_named (r ∷ rs) name)
    go ih true e true t = rw (e, t) refl
    go ih false e true t = rw (e, t) refl
    go ih true e false t = rw (e, t) ih
    go ih false e false t = rw (e, t) ih

pub by_short_is : (rs : List Rule) (b : Bool) (x : ℕ) → arg_by_short (args rs b) x ≡ option_map built_arg (rule_lettered rs x)
by_short_is [] true x = refl
by_short_is [] false x = refl
by_short_is (r ∷ rs) b x = go (by_short_is rs b x) r.has_value refl (option_map_or (λ l. l == x) r.letter false) refl
  where
    go : arg_by_short (args rs b) x ≡ option_map built_arg (rule_lettered rs x) → (v : Bool) → r.has_value ≡ v → (t : Bool) → option_map_or (λ l. l == x) r.letter false ≡ t → arg_by_short (args (r ∷ rs) b) x ≡ option_map built_arg (rule_lettered (r ∷ rs) x)
    go ih true e true t = rw (e, t) refl
    go ih false e true t = rw (e, t) refl
    go ih true e false t = rw (e, t) ih
    go ih false e false t = rw (e, t) ih

or_found : {X : Type 0} → Option X → Option X → Option X
or_found (Some x) y = Some x
or_found None y = y

by_id_or : (rs : List Rule) (ps : List Arg) (id : Word) → arg_by_id (map built_arg rs ++ ps) id ≡ or_found (option_map built_arg (rule_named rs id)) (arg_by_id ps id)
unfolding or_found
by_id_or [] ps id = refl
by_id_or (r ∷ rs) ps id = go (by_id_or rs ps id) r.has_value refl (bytes_eq r.name id) refl
  where
    go : arg_by_id (map built_arg rs ++ ps) id ≡ or_found (option_map built_arg (rule_named rs id)) (arg_by_id ps id) → (v : Bool) → r.has_value ≡ v → (t : Bool) → bytes_eq r.name id ≡ t
        → arg_by_id (map built_arg (r ∷ rs) ++ ps) id ≡ or_found (option_map built_arg (rule_named (r ∷ rs) id)) (arg_by_id ps id)
    go ih true e true t = rw (e, t) refl
    go ih false e true t = rw (e, t) refl
    go ih true e false t = rw (e, t) ih
    go ih false e false t = rw (e, t) ih

pub by_id_is : (rs : List Rule) (b : Bool) (id : Word) (r : Rule) → rule_named rs id ≡ Some r → arg_by_id (args rs b) id ≡ Some (built_arg r)
unfolding or_found
by_id_is rs b id r e = by_id_or rs (spots b) id ∙ rw e refl

pub first_by_id : (rs : List Rule) (b : Bool) → rule_named rs first_id ≡ None → arg_by_id (args rs b) first_id ≡ Some (spot_arg 1 first_id)
unfolding or_found
first_by_id rs true e = by_id_or rs (spots true) first_id ∙ rw e refl
first_by_id rs false e = by_id_or rs (spots false) first_id ∙ rw e refl

pub second_by_id : (rs : List Rule) → rule_named rs second_id ≡ None → arg_by_id (args rs true) second_id ≡ Some (spot_arg 2 second_id)
unfolding or_found
second_by_id rs e = by_id_or rs (spots true) second_id ∙ rw e refl

pub by_index_is : (rs : List Rule) (b : Bool) (i : ℕ) → arg_by_index (args rs b) i ≡ arg_by_index (spots b) i
by_index_is [] b i = refl
by_index_is (r ∷ rs) b i = go (by_index_is rs b i) r.has_value refl
  where
    go : arg_by_index (args rs b) i ≡ arg_by_index (spots b) i → (v : Bool) → r.has_value ≡ v → arg_by_index (args (r ∷ rs) b) i ≡ arg_by_index (spots b) i
    go ih true e = rw e ih
    go ih false e = rw e ih

-- ---- kinds

abbrev pub ok : Kinds → Bool
ok [] = true
ok (k ∷ ks) = false

pub ok_or : (a b : Kinds) → ok (or_else a b) ≡ (ok a && ok b)
ok_or [] b = refl
ok_or (k ∷ ks) b = refl

pub ok_nil : (a : Kinds) → ok (or_else a []) ≡ ok a
ok_nil [] = refl
ok_nil (k ∷ ks) = refl

-- ---- rows

abbrev pub row_of : Arg → List Word → Row
row_of a values = record { id = a.id; values = values; count = None; source = Some CommandLine; reading = reading_by a }

pub without_fresh : (id : Word) (rows : List Row) → has_row id rows ≡ false → without id rows ≡ rows
without_fresh id [] e = refl
without_fresh id (r ∷ rows) e = go (without_fresh id rows) (bytes_eq r.id id) refl
  where
    go : (has_row id rows ≡ false → without id rows ≡ rows) → (t : Bool) → bytes_eq r.id id ≡ t → without id (r ∷ rows) ≡ r ∷ rows
    go ih true t = absurd (true≢false (rw t at e))
    go ih false t = rw t (ap (λ rs. r ∷ rs) (ih (rw t at e)))

pub with_fresh : (id : Word) (how : Reading) (from : ValueSource) (values : List Word) (rows : List Row) → has_row id rows ≡ false
    → with_values id how from values rows ≡ rows ++ record { id = id; values = values; count = None; source = Some from; reading = how } ∷ []
with_fresh id how from values [] e = refl
with_fresh id how from values (r ∷ rows) e = go (with_fresh id how from values rows) (bytes_eq r.id id) refl
  where
    go : (has_row id rows ≡ false → with_values id how from values rows ≡ rows ++ record { id = id; values = values; count = None; source = Some from; reading = how } ∷ [])
        → (t : Bool) → bytes_eq r.id id ≡ t
        → with_values id how from values (r ∷ rows) ≡ r ∷ rows ++ record { id = id; values = values; count = None; source = Some from; reading = how } ∷ []
    go ih true t = absurd (true≢false (rw t at e))
    go ih false t = rw t (ap (λ rs. r ∷ rs) (ih (rw t at e)))

pub put_fresh : (id : Word) (how : Reading) (values : List Word) (rows : List Row) → has_row id rows ≡ false
    → with_values id how CommandLine values (without id rows) ≡ rows ++ record { id = id; values = values; count = None; source = Some CommandLine; reading = how } ∷ []
put_fresh id how values rows e = ap (with_values id how CommandLine values) (without_fresh id rows e) ∙ with_fresh id how CommandLine values rows e

-- ---- what one use asks

pub ok_flag : (n : Word) (l : Option ℕ) (rows : List Row) → ok (use_fault false (flag_arg n l) [] rows) ≡ not (has_row n rows)
ok_flag n l rows = go (has_row n rows) refl
  where
    go : (t : Bool) → has_row n rows ≡ t → ok (use_fault false (flag_arg n l) [] rows) ≡ not (has_row n rows)
    go true t = rw t refl
    go false t = rw t refl

pub ok_value : (n : Word) (l : Option ℕ) (v : Word) (rows : List Row) → ok (use_fault false (value_arg n l) (v ∷ []) rows) ≡ (not (has_row n rows) && nat_lt 0 (length v))
ok_value n l v rows = go (has_row n rows) refl (nat_lt 0 (length v)) refl
  where
    go : (t : Bool) → has_row n rows ≡ t → (u : Bool) → nat_lt 0 (length v) ≡ u
        → ok (use_fault false (value_arg n l) (v ∷ []) rows) ≡ (not (has_row n rows) && nat_lt 0 (length v))
    go true t u e = rw t refl
    go false t true e = rw (t, e) refl
    go false t false e = rw (t, e) refl

pub ok_spot : (i : ℕ) (n : Word) (v : Word) (rows : List Row) → ok (use_fault false (spot_arg i n) (v ∷ []) rows) ≡ not (has_row n rows)
ok_spot i n v rows = go (has_row n rows) refl
  where
    go : (t : Bool) → has_row n rows ≡ t → ok (use_fault false (spot_arg i n) (v ∷ []) rows) ≡ not (has_row n rows)
    go true t = rw t refl
    go false t = rw t refl
