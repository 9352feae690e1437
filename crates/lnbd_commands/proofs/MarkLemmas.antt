-- Which rows are done.
use Rattle.std.proofs.Common.{◌≡◌, ℕ, ◌+◌, ◌<◌, List, [], ◌∷◌, ◌++◌, Bool, true, false, cond, refl, ap, sym, subst, arith, Some, None, Option, ◌==◌, ◌∙◌}
use Rattle.std.specs.Prelude.{is_none, is_some, not}
use Rattle.std.specs.List.{count_by}
use Rattle.std.proofs.lemmas.Grind.{common_steps}
use Rattle.std.proofs.lemmas.List.Sums.{sum_by-cons}
use Rattle.lnbd_keyed.specs.Keyed.{value_at, with_value, without, keys, IsAbove, IsRising}
use Rattle.lnbd_inflight.specs.Done.{is_done}
use Rattle.lnbd_inflight.proofs.Order.{done_append}
use Rattle.lnbd_history.specs.Commands.{Flight}
use Rattle.lnbd_machine.specs.Machine.{Row, flying}
use Rattle.lnbd_commands.specs.Sound.{IsFresh, IsRow, AreRows}

module _ {K : Type 0} where
  -- the row of a cookie is as rows are
  pub row_of : (c : ℕ) (r : Row K) (done : List ℕ) (rows : List (ℕ × Row K)) → AreRows done rows → value_at c rows ≡ Some r → IsRow (is_done c done) r
  row_of c r done [] a h = absurd (cc (h))
  row_of c r done (x ∷ xs) a h =
      elim (c == x.0) as (λ b. (c == x.0) ≡ b → cond b (Some x.1) (value_at c xs) ≡ Some r → IsRow (is_done c done) r) [
        | true ↦ λ t e.
            let cookie : x.0 ≡ c = grind (arith, common_steps) in
            let same : x.1 ≡ r = cc in
            subst (λ (s : Row K). IsRow (is_done c done) s) same (subst (λ (n : ℕ). IsRow (is_done n done) x.1) cookie a.0)
        | false ↦ λ t e. row_of c r done xs a.1 e
      ] refl h

  -- a row in flight is not done, its completion is still to come, and nothing is kept of it
  pub unmarked : (c : ℕ) (r : Row K) (f : Flight K) (done : List ℕ) (rows : List (ℕ × Row K)) → AreRows done rows → value_at c rows ≡ Some r → r.flight ≡ Some f → is_done c done ≡ false
  unmarked c r f done rows a h k = (row_of c r done rows a h).flies ∙ ap is_none k

  pub fresh : (c : ℕ) (r : Row K) (f : Flight K) (done : List ℕ) (rows : List (ℕ × Row K)) → AreRows done rows → value_at c rows ≡ Some r → r.flight ≡ Some f → f.done.completed ≡ false
  fresh c r f done rows a h k = subst (λ (o : Option (Flight K)). IsFresh o) k (row_of c r done rows a h).fresh

  pub unkept : (c : ℕ) (r : Row K) (f : Flight K) (done : List ℕ) (rows : List (ℕ × Row K)) → AreRows done rows → value_at c rows ≡ Some r → r.flight ≡ Some f → is_some r.kept ≡ false
  unkept c r f done rows a h k = (row_of c r done rows a h).kept ∙ ap is_none k

  rows_above : (c : ℕ) (done : List ℕ) (rows : List (ℕ × Row K)) → IsAbove c rows → AreRows done rows → AreRows (done ++ c ∷ []) rows
  rows_above c done [] a h = tt
  rows_above c done (x ∷ xs) a h =
      let l : c < x.0 = a.0 in
      let e = done_append x.0 c done in
      let same : is_done x.0 (done ++ c ∷ []) ≡ is_done x.0 done = grind (arith, common_steps) in
      (subst (λ (b : Bool). IsRow b x.1) (sym same) h.0, rows_above c done xs a.1 h.1)

  -- a row that lands and is kept is marked
  pub rows_mark : (c : ℕ) (s : Row K) (done : List ℕ) (rows : List (ℕ × Row K)) → IsRising rows → AreRows done rows → IsRow true s → AreRows (done ++ c ∷ []) (with_value c s rows)
  rows_mark c s done [] up a n = tt
  rows_mark c s done (x ∷ xs) up a n =
      elim (c == x.0) as (λ b. (c == x.0) ≡ b → AreRows (done ++ c ∷ []) (cond b ((x.0, s) ∷ xs) (x ∷ with_value c s xs))) [
        | true ↦ λ t.
            let same : c ≡ x.0 = grind (arith, common_steps) in
            let m = done_append x.0 c done in
            let now : is_done x.0 (done ++ c ∷ []) ≡ true = grind (arith, common_steps) in
            (subst (λ (b : Bool). IsRow b s) (sym now) n, rows_above c done xs (rw same up.0) a.1)
        | false ↦ λ t.
            let m = done_append x.0 c done in
            let now : is_done x.0 (done ++ c ∷ []) ≡ is_done x.0 done = grind (arith, common_steps) in
            (subst (λ (b : Bool). IsRow b x.1) (sym now) a.0, rows_mark c s done xs up.1 a.1 n)
      ] refl

  pub rows_without : (c : ℕ) (done : List ℕ) (rows : List (ℕ × Row K)) → AreRows done rows → AreRows done (without c rows)
  rows_without c done [] a = tt
  rows_without c done (x ∷ xs) a = elim (c == x.0) as (λ b. AreRows done (cond b xs (x ∷ without c xs))) [ true ↦ a.1 | false ↦ (a.0, rows_without c done xs a.1) ]

  pub rows_append : (c : ℕ) (r : Row K) (done : List ℕ) (rows : List (ℕ × Row K)) → AreRows done rows → IsRow (is_done c done) r → AreRows done (rows ++ (c, r) ∷ [])
  rows_append c r done [] a m = (m, tt)
  rows_append c r done (x ∷ xs) a m = (a.0, rows_append c r done xs a.1 m)

  -- those that aren't done are those in flight
  pub undone_flying : (done : List ℕ) (rows : List (ℕ × Row K)) → AreRows done rows → count_by (λ cookie. not (is_done cookie done)) (keys rows) ≡ flying rows
  undone_flying done [] a = refl
  undone_flying done (x ∷ xs) a =
      let rest = undone_flying done xs a.1 in
      sum_by-cons (λ cookie. cond (not (is_done cookie done)) 1 0) x.0 (keys xs) ∙ one (is_done x.0 done) x.1.flight a.0.flies rest
    where
      one : (b : Bool) (o : Option (Flight K)) → b ≡ is_none o → count_by (λ cookie. not (is_done cookie done)) (keys xs) ≡ flying xs →
          cond (not b) 1 0 + count_by (λ cookie. not (is_done cookie done)) (keys xs) ≡ cond (is_some o) 1 0 + flying xs
      one b None e r = rw e (omega arith)
      one b (Some f) e r = rw e (omega arith)
