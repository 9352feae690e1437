-- A walk over the cookies of the table is the walk over all cookies that were given out.
use Rattle.std.proofs.Common.{◌≡◌, ℕ, zero, suc, ◌+◌, ◌<◌, Bool, true, false, List, [], ◌∷◌, ◌++◌, Option, Some, None, refl, ap, sym, subst, ◌∙◌, arith, ◌≢◌, ◌⊎◌, inl, inr}
use Rattle.std.proofs.lemmas.Bool.{cases_eq}
use Rattle.lnbd_keyed.specs.Keyed.{value_at, keys, IsAbove, IsBelow, IsRising}
use Rattle.lnbd_keyed.proofs.OrderLaws.{IsAbove_less}
use Rattle.lnbd_keyed.proofs.LookupLaws.{value_at_with_other, value_at_without_other, value_at_above, value_at_tail}
use Rattle.lnbd_history.specs.Commands.{Flight}
use Rattle.lnbd_history.specs.Entries.{Item}
use Rattle.lnbd_history.specs.History.{cookies}
use Rattle.lnbd_machine.specs.Machine.{Row, Doing, filed, file_flight, file_row, file_in, file_all}

-- so many numbers behind this one
abbrev from : ℕ → ℕ → List ℕ
from a zero = []
from a (suc n) = suc a ∷ from (suc a) n

from_last : (a n k : ℕ) → k ≡ a + n + 1 → from a n ++ k ∷ [] ≡ from a (suc n)
from_last a zero k e = let is : k ≡ suc a = omega (arith, e) in ap (λ (x : ℕ). x ∷ []) is
from_last a (suc n) k e = ap (λ r. suc a ∷ r) (from_last (suc a) n k (omega (arith, e)))

cookies_from : (n : ℕ) → cookies n ≡ from 0 n
cookies_from zero = refl
cookies_from (suc n) = ap (λ r. r ++ suc n ∷ []) (cookies_from n) ∙ from_last 0 n (suc n) (omega arith)

module _ {K : Type 0} where
  pub file_none : (c : ℕ) (item : Item) (doing : Doing K) → value_at c doing.state.rows ≡ None → file_in c item doing ≡ doing
  file_none c item doing e = ap (λ r. file_row r c item doing) e

  filed_none : (b : Bool) (c k : ℕ) (row : Row K) (rows : List (ℕ × Row K)) → c ≢ k → value_at c rows ≡ None → value_at c (filed b k row rows) ≡ None
  filed_none true c k row rows other e = value_at_without_other c k rows other ∙ e
  filed_none false c k row rows other e = value_at_with_other c k row rows other ∙ e

  none_other : (c k : ℕ) (row : Row K) (rows : List (ℕ × Row K)) → value_at k rows ≡ Some row → value_at c rows ≡ None → c ≢ k
  none_other c k row rows there none same = let bad : None ≡ Some row = sym none ∙ ap (λ (x : ℕ). value_at x rows) same ∙ there in cc

  -- no command comes into the table by being filed under
  still_none : (c k : ℕ) (item : Item) (doing : Doing K) → value_at c doing.state.rows ≡ None → value_at c (file_in k item doing).state.rows ≡ None
  still_none c k item doing none = go (value_at k doing.state.rows) refl
    where
      in_row : (row : Row K) → value_at k doing.state.rows ≡ Some row → (flight : Option (Flight K)) → value_at c (file_flight flight row k item doing).state.rows ≡ None
      in_row row there None = none
      in_row row there (Some flight) = filed_none _ c k _ doing.state.rows (none_other c k row doing.state.rows there none) none

      go : (r : Option (Row K)) → value_at k doing.state.rows ≡ r → value_at c (file_row r k item doing).state.rows ≡ None
      go None e = none
      go (Some row) e = in_row row e row.flight

  Missing : ℕ → List (ℕ × Row K) → Doing K → Type 0
  Missing a rows doing = (c : ℕ) → a < c → value_at c rows ≡ None → value_at c doing.state.rows ≡ None

  walk_past : (n a : ℕ) (item : Item) (rows : List (ℕ × Row K)) (doing : Doing K) → value_at (suc a) rows ≡ None → Missing a rows doing →
      (Missing (suc a) rows doing → file_all item (from (suc a) n) doing ≡ file_all item (keys rows) doing) →
      file_all item (from a (suc n)) doing ≡ file_all item (keys rows) doing
  unfolding Missing
  walk_past n a item rows doing none missing rest =
      ap (λ d. file_all item (from (suc a) n) d) (file_none (suc a) item doing (missing (suc a) (omega arith) none))
      ∙ rest (λ c above gone. missing c (omega (arith, above)) gone)

  walk_at : (n a : ℕ) (item : Item) (x : ℕ × Row K) (xs : List (ℕ × Row K)) (doing : Doing K) → x.0 ≡ suc a → Missing a (x ∷ xs) doing →
      ((next : Doing K) → Missing (suc a) xs next → file_all item (from (suc a) n) next ≡ file_all item (keys xs) next) →
      file_all item (from a (suc n)) doing ≡ file_all item (keys (x ∷ xs)) doing
  unfolding Missing
  walk_at n a item x xs doing is missing rest =
      rest (file_in (suc a) item doing) (λ c above gone. still_none c (suc a) item doing (missing c (omega (arith, above)) (value_at_tail c x xs (λ same. absurd (omega (arith, same, is, above))) ∙ gone)))
      ∙ ap (λ (k : ℕ). file_all item (keys xs) (file_in k item doing)) (sym is)

  walk : (n a : ℕ) (item : Item) (rows : List (ℕ × Row K)) (doing : Doing K) → IsRising rows → IsAbove a rows → IsBelow rows (a + n + 1) → Missing a rows doing →
      file_all item (from a n) doing ≡ file_all item (keys rows) doing
  walk zero a item [] doing rising above below missing = refl
  walk zero a item (x ∷ xs) doing rising above below missing = absurd (omega (arith, above.0, below.0))
  walk (suc n) a item [] doing rising above below missing = walk_past n a item [] doing refl missing (walk n (suc a) item [] doing tt tt tt)
  walk (suc n) a item (x ∷ xs) doing rising above below missing = go (cases_eq x.0 (suc a))
      (λ next. walk n (suc a) item xs next rising.1) (walk n (suc a) item (x ∷ xs) doing rising)
    where
      go : (x.0 ≡ suc a) ⊎ (x.0 ≡ suc a → ⊥) →
          ((next : Doing K) → IsAbove (suc a) xs → IsBelow xs (suc a + n + 1) → Missing (suc a) xs next → file_all item (from (suc a) n) next ≡ file_all item (keys xs) next) →
          (IsAbove (suc a) (x ∷ xs) → IsBelow (x ∷ xs) (suc a + n + 1) → Missing (suc a) (x ∷ xs) doing → file_all item (from (suc a) n) doing ≡ file_all item (keys (x ∷ xs)) doing) →
          file_all item (from a (suc n)) doing ≡ file_all item (keys (x ∷ xs)) doing
      go (inl is) at past =
          let moved : a + suc n + 1 ≡ suc a + n + 1 = omega arith in
          walk_at n a item x xs doing is missing (λ next. at next (subst (λ (k : ℕ). IsAbove k xs) is rising.0) (subst (λ (k : ℕ). IsBelow xs k) moved below.1))
      go (inr other) at past =
          let moved : a + suc n + 1 ≡ suc a + n + 1 = omega arith in
          let high : suc a < x.0 = omega (arith, above.0, other) in
          let all : IsAbove (suc a) (x ∷ xs) = (high, IsAbove_less (suc a) x.0 xs high rising.0) in
          walk_past n a item (x ∷ xs) doing (value_at_above (suc a) (suc a) (x ∷ xs) all (omega arith)) missing (past all (subst (λ (k : ℕ). IsBelow (x ∷ xs) k) moved below))

  pub walk_keys : (item : Item) (n : ℕ) (doing : Doing K) → IsRising doing.state.rows → IsAbove 0 doing.state.rows → IsBelow doing.state.rows (n + 1) →
      file_all item (keys doing.state.rows) doing ≡ file_all item (cookies n) doing
  unfolding Missing
  walk_keys item n doing rising above below =
      let moved : n + 1 ≡ 0 + n + 1 = omega arith in
      sym (ap (λ l. file_all item l doing) (cookies_from n) ∙ walk n 0 item doing.state.rows doing rising above (subst (λ (k : ℕ). IsBelow doing.state.rows k) moved below) (λ c low none. none))
