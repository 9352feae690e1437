-- Runs and parts stay so, and more come behind them.
use Rattle.std.proofs.Common.{◌≡◌, ◌∙◌, ℕ, ◌+◌, ◌<◌, ◌≤◌, true, false, List, [], ◌∷◌, ◌++◌, Option, Some, None, sym, subst, arith}
use Rattle.std.specs.Prelude.{slice_get}
use Rattle.lnbd_reel.specs.declared.reel.Part.{Part}
use Rattle.lnbd_reel.specs.declared.reel.Run.{Run}
use Rattle.lnbd_reel.specs.Reel.{AreLaid, AreRuns, AreSpared, IsBegun}
use Rattle.lnbd_reel.proofs.ReelLemmas.{runs_up}

pub runs_keep : (zero zero' : ℕ → Type 0) → ((p : ℕ) → zero p → zero' p) → (from : ℕ) (runs : List Run) (to : ℕ) → AreRuns zero from runs to → AreRuns zero' from runs to
runs_keep zero zero' k from [] to h = h
runs_keep zero zero' k from (run ∷ runs) to h = (h.0, (λ is p low high. k p (h.1 is p low high)), runs_keep zero zero' k run.end runs to h.2)

-- what is spared is spared where nothing else is so, from a position on
pub spared_keep : (zero is is' : ℕ → Type 0) (low : ℕ) → ((p : ℕ) → low ≤ p → is' p → is p) → (from : ℕ) (runs : List Run) (to : ℕ) → low ≤ from → AreRuns zero from runs to → AreSpared is from runs to → AreSpared is' from runs to
spared_keep zero is is' low k from [] to up h s = s
spared_keep zero is is' low k from (run ∷ runs) to up h s =
    let order = h.0 in
    ((λ e p above below i. s.0 e p above below (k p (omega (arith, up, above)) i)), spared_keep zero is is' low k run.end runs to (omega (arith, up, order)) h.2 s.1)

module _ (zero zero' : ℕ → Type 0) (read read' : ℕ → ℕ → ℕ → Type 0) (z : (p : ℕ) → zero p → zero' p) (r : (cookie offset count : ℕ) → read cookie offset count → read' cookie offset count) where
  begun_keeps : (start count : ℕ) (cookie : Option ℕ) → IsBegun zero read start count cookie → IsBegun zero' read' start count cookie
  begun_keeps start count None b = λ p low high. z p (b p low high)
  begun_keeps start count (Some cookie) b = r cookie start count b

  pub laid_keeps : (from : ℕ) (parts : List Part) (to : ℕ) → AreLaid zero read from parts to → AreLaid zero' read' from parts to
  laid_keeps from [] to h = h
  laid_keeps from (part ∷ parts) to h = (h.0, h.1, begun_keeps part.start part.length part.cookie h.2, laid_keeps (from + part.length) parts to h.3)

module _ (zero : ℕ → Type 0) (read : ℕ → ℕ → ℕ → Type 0) where
  pub laid_more : (from : ℕ) (parts : List Part) (to : ℕ) (part : Part) → AreLaid zero read from parts to → part.start ≡ to → 0 < part.length → IsBegun zero read part.start part.length part.cookie → (end : ℕ) → end ≡ to + part.length → AreLaid zero read from (parts ++ part ∷ []) end
  laid_more from [] to part h e some is end f = (e ∙ sym h, some, is, (let a : from + part.length ≡ end = omega (arith, h, f) in a))
  laid_more from (first ∷ parts) to part h e some is end f = (h.0, h.1, h.2, laid_more (from + first.length) parts to part h.3 e some is end f)

  pub laid_up : (from : ℕ) (parts : List Part) (to : ℕ) → AreLaid zero read from parts to → from ≤ to
  laid_up from [] to h = omega (arith, h)
  laid_up from (part ∷ parts) to h = let r = laid_up (from + part.length) parts to h.3 in omega (arith, r)

-- The first run is begun in part,
pub runs_left : (zero : ℕ → Type 0) (at at' : ℕ) (runs : List Run) (to : ℕ) (run : Run) → slice_get runs 0 ≡ Some run → at ≤ at' → at' < run.end → AreRuns zero at runs to → AreRuns zero at' runs to
runs_left zero at at' [] to run is up less h = absurd (cc is)
runs_left zero at at' (first ∷ runs) to run is up less h =
    let same : first ≡ run = cc is in
    (subst (λ (r : Run). at' < r.end) (sym same) less, (λ z p low high. h.1 z p (omega (arith, up, low)) high), h.2)

-- or wholly.
pub runs_taken : (zero : ℕ → Type 0) (at : ℕ) (runs rest : List Run) (to : ℕ) (run : Run) → slice_get runs 0 ≡ Some run → runs ≡ run ∷ rest → AreRuns zero at runs to → AreRuns zero run.end rest to
runs_taken zero at runs rest to run is parts h = (subst (λ (l : List Run). AreRuns zero at l to) parts h).2

-- The same of what is spared.
pub spared_left : (is : ℕ → Type 0) (at at' : ℕ) (runs : List Run) (to : ℕ) (run : Run) → slice_get runs 0 ≡ Some run → at ≤ at' → AreSpared is at runs to → AreSpared is at' runs to
spared_left is at at' [] to run first up s = absurd (cc first)
spared_left is at at' (one ∷ runs) to run first up s = ((λ e p low high i. s.0 e p (omega (arith, up, low)) high i), s.1)

pub spared_taken : (is : ℕ → Type 0) (at : ℕ) (runs rest : List Run) (to : ℕ) (run : Run) → runs ≡ run ∷ rest → AreSpared is at runs to → AreSpared is run.end rest to
spared_taken is at runs rest to run parts s = (subst (λ (l : List Run). AreSpared is at l to) parts s).1

pub first_spared : (is : ℕ → Type 0) (at : ℕ) (runs : List Run) (to : ℕ) (run : Run) → slice_get runs 0 ≡ Some run → AreSpared is at runs to → run.zero ≡ false → (p : ℕ) → at ≤ p → p < run.end → is p → ⊥
first_spared is at [] to run first s = absurd (cc first)
first_spared is at (one ∷ runs) to run first s =
    let same : one ≡ run = cc first in
    subst (λ (r : Run). r.zero ≡ false → (p : ℕ) → at ≤ p → p < r.end → is p → ⊥) same s.0

pub first_run : (zero : ℕ → Type 0) (at : ℕ) (runs : List Run) (to : ℕ) (run : Run) → slice_get runs 0 ≡ Some run → AreRuns zero at runs to → (at < run.end) × (run.end ≤ to) × (run.zero ≡ true → (p : ℕ) → at ≤ p → p < run.end → zero p)
first_run zero at [] to run is h = absurd (cc is)
first_run zero at (first ∷ runs) to run is h =
    let same : first ≡ run = cc is in
    let up = runs_up zero first.end runs to h.2 in
    subst (λ (r : Run). (at < r.end) × (r.end ≤ to) × (r.zero ≡ true → (p : ℕ) → at ≤ p → p < r.end → zero p)) same (h.0, up, h.1)
