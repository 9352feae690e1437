-- clap's answer to a tool's words, as its walk over them.
use Rattle.std.proofs.Common.{◌≡◌, ◌∙◌, ◌&&◌, Bool, true, false, not, List, [], ◌∷◌, ◌++◌, map, Option, Some, None, codes, is_some, refl, ap}
use Rattle.std.specs.Prelude.{if◌then◌else◌, fold}
use Rattle.std.specs.List.{list_any}
use Rattle.clap.specs.Simple.{built, matches_of}
use Rattle.clap.specs.Takes.{is_given}
use Rattle.clap.specs.Walk.{Rule as Arg, Row, Held, Walk, idle, has_row, finished, nothing_held, settled, walk_from, walked, with_default}
use Rattle.clap.specs.Faults.{check_fault, defaults_fault, fault_of, settle_fault, turn_fault, walk_fault}
use Rattle.clap.specs.Kinds.{Kinds, or_else}
use Rattle.clap.proofs.FaultLemmas.{leaf_fault}
use Rattle.lnbd_args.specs.Words.{Rule, Word}
use Rattle.lnbd_args.specs.Clap.{tool_app}
use Rattle.lnbd_args.proofs.ClapLemmas.{args, built_arg, filled_args, ok, spots}
use Rattle.lnbd_args.proofs.StepLemmas.{at, run, shape}

-- ---- what comes after the walk fails at nothing

no_default_fault : (rs : List Rule) (ps : List Arg) (rows : List Row) → ((rows : List Row) → defaults_fault rows ps ≡ []) → defaults_fault rows (map built_arg rs ++ ps) ≡ []
unfolding defaults_fault
no_default_fault [] ps rows h = h rows
no_default_fault (r ∷ rs) ps rows h = go r.has_value refl (has_row r.name rows) refl (λ rows. no_default_fault rs ps rows h)
  where
    go : (v : Bool) → r.has_value ≡ v → (t : Bool) → has_row r.name rows ≡ t → ((rows : List Row) → defaults_fault rows (map built_arg rs ++ ps) ≡ [])
        → defaults_fault rows (map built_arg (r ∷ rs) ++ ps) ≡ []
    go true v true t ih = rw (v, t) (ih _)
    go true v false t ih = rw (v, t) (ih _)
    go false v true t ih = rw (v, t) (ih _)
    go false v false t ih = rw (v, t) (ih _)

no_spot_fault : (b : Bool) (rows : List Row) → defaults_fault rows (spots b) ≡ []
unfolding defaults_fault
no_spot_fault b rows = go b (has_row (codes "FIRST") rows) refl (has_row (codes "SECOND") rows) refl
  where
    go : (b t : Bool) → has_row (codes "FIRST") rows ≡ t → (u : Bool) → has_row (codes "SECOND") rows ≡ u → defaults_fault rows (spots b) ≡ []
    go true true t true u = rw (t, u) refl
    go true true t false u = rw (t, u) refl
    go true false t true u = rw (t, u) refl
    go true false t false u = rw (t, u) refl
    go false true t u v = rw t refl
    go false false t u v = rw t refl

none_required : (rs : List Rule) (b : Bool) (rows : List Row) → list_any (λ a. a.required && not (is_given a.id rows)) (args rs b) ≡ false
none_required [] true rows = refl
none_required [] false rows = refl
none_required (r ∷ rs) b rows = go r.has_value refl (none_required rs b rows)
  where
    go : (v : Bool) → r.has_value ≡ v → list_any (λ a. a.required && not (is_given a.id rows)) (args rs b) ≡ false
        → list_any (λ a. a.required && not (is_given a.id rows)) (args (r ∷ rs) b) ≡ false
    go true v ih = rw (v, ih) refl
    go false v ih = rw (v, ih) refl

none_some : (rows : List Row) → ◌≡◌ {A = Option (List Row)} None (Some rows) → ⊥
none_some rows e = absurd (cc)

module _ (rs : List Rule) (b : Bool) where
  abbrev end_fault : Held → Kinds
  end_fault h = or_else (settle_fault (args rs b) false h) (or_else (defaults_fault (settled (args rs b) h).rows (args rs b)) (check_fault (shape rs b) (finished (args rs b) h) false))

  end_is : (h : Held) → ok (end_fault h) ≡ ok (settle_fault (args rs b) false h)
  end_is h =
      rw (no_default_fault rs (spots b) (settled (args rs b) h).rows (no_spot_fault b), none_required rs b (finished (args rs b) h)) (go (settle_fault (args rs b) false h))
    where
      go : (k : Kinds) → ok (or_else k []) ≡ ok k
      go [] = refl
      go (k ∷ ks) = refl

  walk_fails : (ws : List Word) (w : Walk) → ok (or_else (walk_fault (shape rs b) [] w ws) (end_fault (fold (walked (args rs b) []) w ws).held)) ≡ is_some (run rs b ws w)
  unfolding walk_fault
  walk_fails [] w = end_is w.held ∙ go (ok (settle_fault (args rs b) false w.held))
    where
      go : (t : Bool) → t ≡ is_some (if t then Some (settled (args rs b) w.held).rows else None)
      go true = refl
      go false = refl
  walk_fails (word ∷ ws) w = go (turn_fault (shape rs b) [] w word) (walk_fails ws (walked (args rs b) [] w word))
    where
      go : (k : Kinds) → ok (or_else (walk_fault (shape rs b) [] (walked (args rs b) [] w word) ws) (end_fault (fold (walked (args rs b) []) (walked (args rs b) [] w word) ws).held)) ≡ is_some (run rs b ws (walked (args rs b) [] w word))
          → ok (or_else (or_else k (walk_fault (shape rs b) [] (walked (args rs b) [] w word) ws)) (end_fault (fold (walked (args rs b) []) (walked (args rs b) [] w word) ws).held))
          ≡ is_some (if ok k then run rs b ws (walked (args rs b) [] w word) else None)
      go [] ih = ih
      go (k ∷ ks) ih = refl

  walk_rows : (ws : List Word) (w : Walk) (rows : List Row) → run rs b ws w ≡ Some rows → (settled (args rs b) (fold (walked (args rs b) []) w ws).held).rows ≡ rows
  walk_rows [] w rows e = go (ok (settle_fault (args rs b) false w.held)) refl
    where
      go : (t : Bool) → ok (settle_fault (args rs b) false w.held) ≡ t → (settled (args rs b) w.held).rows ≡ rows
      go true t = let same : Some (settled (args rs b) w.held).rows ≡ Some rows = rw t at e in cc
      go false t = absurd (none_some rows (rw t at e))
  walk_rows (word ∷ ws) w rows e = go (ok (turn_fault (shape rs b) [] w word)) refl (walk_rows ws (walked (args rs b) [] w word) rows)
    where
      go : (t : Bool) → ok (turn_fault (shape rs b) [] w word) ≡ t
          → (run rs b ws (walked (args rs b) [] w word) ≡ Some rows → (settled (args rs b) (fold (walked (args rs b) []) (walked (args rs b) [] w word) ws).held).rows ≡ rows)
          → (settled (args rs b) (fold (walked (args rs b) []) (walked (args rs b) [] w word) ws).held).rows ≡ rows
      go true t ih = ih (rw t at e)
      go false t ih = absurd (none_some rows (rw t at e))

  pub fails_is : (ws : List Word) → ok (fault_of (tool_app rs b) ws) ≡ is_some (run rs b ws (at [] None idle 1 false))
  fails_is ws = ap ok (leaf_fault (built (tool_app rs b)) nothing_held ws refl) ∙ rw (filled_args rs b) (walk_fails ws (walk_from nothing_held))

  pub rows_is : (ws : List Word) (rows : List Row) → run rs b ws (at [] None idle 1 false) ≡ Some rows → matches_of (tool_app rs b) ws ≡ fold with_default rows (args rs b)
  rows_is ws rows e = rw (filled_args rs b) (ap (λ rows. fold with_default rows (args rs b)) (walk_rows ws (walk_from nothing_held) rows e))
