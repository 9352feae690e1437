-- The status of positions, run by run.
use Rattle.std.proofs.Common.{◌≡◌, ℕ, zero, suc, ◌+◌, ◌-◌, ◌<◌, ◌≤◌, Bool, true, false, not, List, [], ◌∷◌, ◌++◌, length, take, refl, ap, sym, subst, ◌∙◌, arith, cond, ◌==◌, append_assoc, append-nil}
use Rattle.std.proofs.lemmas.Bool.{eq-eqb}
use Rattle.std.proofs.lemmas.List.{take_all, take_at}
use Rattle.lnbd_model.specs.declared.export.Extent.{Extent}
use Rattle.lnbd_export.specs.Export.{flags}
use Rattle.lnbd_export.specs.Statuses.{status_of, longer, statuses}
use Rattle.lnbd_export.specs.Walks.{IsRun}
use Rattle.lnbd_export.specs.declared.statuses.Run.{Run}

abbrev pub extent : ℕ → ℕ → Extent
extent n flags = record { length = n; flags = flags }

abbrev pub told_by : (ℕ → Bool) → (start n : ℕ) → List Extent
told_by zeros start n = statuses (flags zeros start n)

same_flags : (flags n : ℕ) (more : List Extent) → longer flags (extent n flags ∷ more) ≡ extent (n + 1) flags ∷ more
same_flags flags n more = let same = eq-eqb flags flags refl in rw same refl

other_flags : (flags other n : ℕ) (more : List Extent) → (other == flags) ≡ false → longer flags (extent n other ∷ more) ≡ extent 1 flags ∷ extent n other ∷ more
other_flags flags other n more e = rw e refl

status_differs : (flag : Bool) → (status_of (not flag) == status_of flag) ≡ false
status_differs true = refl
status_differs false = refl

longer_begins : (flags : ℕ) (extents : List Extent) → (k : ℕ) × (rest : List Extent) × (longer flags extents ≡ extent (suc k) flags ∷ rest)
longer_begins flags [] = (0, [], refl)
longer_begins flags (first ∷ more) = go (first.flags == flags) refl
  where
    go : (b : Bool) → (first.flags == flags) ≡ b → (k : ℕ) × (rest : List Extent) × (cond b (extent (first.length + 1) flags ∷ more) (extent 1 flags ∷ first ∷ more) ≡ extent (suc k) flags ∷ rest)
    go true e = (first.length, more, let n : first.length + 1 ≡ suc first.length = omega arith in ap (λ k. extent k flags ∷ more) n)
    go false e = (0, first ∷ more, refl)

after_other : (flag : Bool) (zeros : ℕ → Bool) (start n : ℕ) → (0 < n → zeros start ≡ not flag) → longer (status_of flag) (told_by zeros start n) ≡ extent 1 (status_of flag) ∷ told_by zeros start n
after_other flag zeros start zero turns = refl
after_other flag zeros start (suc n) turns =
    let other : zeros start ≡ not flag = turns (omega arith) in
    let h = longer_begins (status_of (zeros start)) (told_by zeros (start + 1) n) in
    let differs : (status_of (zeros start) == status_of flag) ≡ false = ap (λ b. status_of b == status_of flag) other ∙ status_differs flag in
    ap (longer (status_of flag)) h.2 ∙ other_flags (status_of flag) (status_of (zeros start)) (suc h.0) h.1 differs ∙ ap (λ es. extent 1 (status_of flag) ∷ es) (sym h.2)

-- a run in front is one descriptor
pub run_first : (flag : Bool) (zeros : ℕ → Bool) (k start n : ℕ) → ((p : ℕ) → start ≤ p → p < start + suc k → zeros p ≡ flag) → (0 < n → zeros (start + suc k) ≡ not flag) →
    told_by zeros start (suc k + n) ≡ extent (suc k) (status_of flag) ∷ told_by zeros (start + suc k) n
run_first flag zeros zero start n alike otherwise =
    let size : suc zero + n ≡ suc n = omega arith in
    let here : zeros start ≡ flag = alike start (omega arith) (omega arith) in
    ap (told_by zeros start) size ∙ ap (λ b. longer (status_of b) (told_by zeros (start + 1) n)) here ∙ after_other flag zeros (start + 1) n otherwise
run_first flag zeros (suc k) start n alike otherwise =
    let size : suc (suc k) + n ≡ suc (suc k + n) = omega arith in
    let here : zeros start ≡ flag = alike start (omega arith) (omega arith) in
    let there : start + 1 + suc k ≡ start + suc (suc k) = omega arith in
    let one : suc k + 1 ≡ suc (suc k) = omega arith in
    let more = run_first flag zeros k (start + 1) n (λ p low high. alike p (omega arith) (omega arith)) (λ some. ap zeros there ∙ otherwise some) in
    ap (told_by zeros start) size
    ∙ ap (λ b. longer (status_of b) (told_by zeros (start + 1) (suc k + n))) here
    ∙ ap (longer (status_of flag)) more
    ∙ same_flags (status_of flag) (suc k) (told_by zeros (start + 1 + suc k) n)
    ∙ ap (λ m. extent m (status_of flag) ∷ told_by zeros (start + 1 + suc k) n) one
    ∙ ap (λ s. extent (suc (suc k)) (status_of flag) ∷ told_by zeros s n) there

-- by what the walk knows
pub run_step : (zeros : ℕ → Bool) (at end : ℕ) (run : Run) → at < end → IsRun zeros at end run →
    told_by zeros at (end - at) ≡ extent run.length (status_of run.zero) ∷ told_by zeros (at + run.length) (end - (at + run.length))
run_step zeros at end run some is = go run.length refl
  where
    go : (n : ℕ) → run.length ≡ n → told_by zeros at (end - at) ≡ extent run.length (status_of run.zero) ∷ told_by zeros (at + run.length) (end - (at + run.length))
    go zero e = let h = is.some in absurd (omega arith)
    go (suc k) e =
        let h = is.within in
        let size : end - at ≡ suc k + (end - (at + suc k)) = omega arith in
        let first = run_first run.zero zeros k at (end - (at + suc k)) (λ p low high. is.alike p low (omega arith))
        (λ more. subst (λ (n : ℕ). zeros (at + n) ≡ not run.zero) e (is.otherwise (omega arith))) in
        ap (told_by zeros at) size ∙ first ∙ ap (λ n. extent n (status_of run.zero) ∷ told_by zeros (at + n) (end - (at + n))) (sym e)

pub walked : (zeros : ℕ → Bool) (at end : ℕ) (run : Run) (extents new all : List Extent) (flags : ℕ) → at < end → IsRun zeros at end run → flags ≡ status_of run.zero →
    new ≡ extents ++ extent run.length flags ∷ [] → extents ++ told_by zeros at (end - at) ≡ all →
    new ++ told_by zeros (at + run.length) (end - (at + run.length)) ≡ all
walked zeros at end run extents new all flags some is f e so_far =
    ap (λ xs. xs ++ told_by zeros (at + run.length) (end - (at + run.length))) (e ∙ ap (λ n. extents ++ extent run.length n ∷ []) f)
    ∙ append_assoc extents (extent run.length (status_of run.zero) ∷ []) (told_by zeros (at + run.length) (end - (at + run.length)))
    ∙ ap (λ xs. extents ++ xs) (sym (run_step zeros at end run some is)) ∙ so_far

-- the walk is at its end, or has as many as are asked for
pub walked_out : (zeros : ℕ → Bool) (at end most : ℕ) (extents all : List Extent) → end ≤ at → length extents ≤ most → extents ++ told_by zeros at (end - at) ≡ all → extents ≡ take most all
walked_out zeros at end most extents all past few so_far =
    let none : end - at ≡ 0 = omega arith in
    let is : extents ≡ all = sym (append-nil extents) ∙ ap (λ n. extents ++ told_by zeros at n) (sym none) ∙ so_far in
    is ∙ sym (take_all most all (subst (λ (xs : List Extent). length xs ≤ most) is few))

pub walked_enough : (most : ℕ) (extents rest all : List Extent) → length extents ≡ most → extents ++ rest ≡ all → extents ≡ take most all
walked_enough most extents rest all full so_far = sym (ap (take most) (sym so_far) ∙ take_at extents rest most full)
