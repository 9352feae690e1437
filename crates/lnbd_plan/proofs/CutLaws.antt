-- Runs of positions told alike, and the slices of each.
use Rattle.std.proofs.Common.{◌≡◌, ℕ, zero, suc, ◌+◌, ◌-◌, ◌%◌, ◌<◌, ◌≤◌, ◌||◌, Bool, true, false, not, List, [], ◌∷◌, ◌++◌, length, subst, sym, ◌∙◌, ap, refl, inl, inr, arith, cond, append_assoc, min, take, drop}
use Rattle.std.proofs.lemmas.Bool.{eq-eqb, eqb-true}
use Rattle.std.proofs.Math.Nat.{mod-lt}
use Rattle.std.proofs.lemmas.List.{append-nil}
use Rattle.lnbd_plan.proofs.GridLaws.{no_multiple, end_begins}
use Rattle.lnbd_plan.specs.declared.grid.Slice.{Slice}
use Rattle.lnbd_plan.specs.declared.cells.Cells.{Cells}
use Rattle.lnbd_plan.specs.Slices.{slice, unlike, growing, slices_of}
use Rattle.lnbd_plan.specs.Plans.{is_multiple, is_cut, copied, window_slices, run_slices, runs_slices, AreRuns, IsAlikeRun}
use Rattle.lnbd_plan.proofs.SliceLaws.{Ends, run_first, unlike_same}
use Rattle.lnbd_plan.proofs.SliceLaws.Ends.{Nothing, Cut, Other}
use Rattle.lnbd_plan.proofs.BlockLaws.{choose}
use Rattle.lnbd_plan.proofs.PieceLaws.{kept_on}

pub one_slice : (cut : ℕ → Bool) (s : ℕ) (z : Bool) → slices_of (λ _. z) cut s (suc zero) ≡ slice s 1 z ∷ []
unfolding slices_of
one_slice cut s z = elim (cut (s + 1) || unlike z z) as (λ b. cond b (slice s 1 z ∷ []) (growing s z []) ≡ slice s 1 z ∷ []) [ true ↦ refl | false ↦ refl ]

pub cond_some : (c : Bool) (p : ℕ) (z : Bool) (xs : List Slice) → 0 < length (cond c (slice p 1 z ∷ xs) (growing p z xs))
cond_some true p z xs = omega arith
cond_some false p z [] = omega arith
cond_some false p z (x ∷ xs) = omega arith

pub slices_some : (told cut : ℕ → Bool) (p n : ℕ) → 0 < length (slices_of told cut p (suc n))
unfolding slices_of
slices_some told cut p n = cond_some (cut (p + 1) || unlike (told p) (told (p + 1))) p (told p) (slices_of told cut (p + 1) n)

pub split_cond : (c : Bool) (s : ℕ) (z : Bool) (xs a b : List Slice) → xs ≡ a ++ b → 0 < length a
    → cond c (slice s 1 z ∷ xs) (growing s z xs) ≡ cond c (slice s 1 z ∷ a) (growing s z a) ++ b
split_cond c s z xs [] b e some = absurd (omega arith)
split_cond true s z xs (x ∷ a) b e some = ap (λ (l : List Slice). slice s 1 z ∷ l) e
split_cond false s z xs (x ∷ a) b e some = ap (λ (l : List Slice). growing s z l) e

-- the slices of a run and those behind it
pub split_run : (told cut cut2 : ℕ → Bool) (z : Bool) (s n k q rest : ℕ) → n ≡ k + rest → q ≡ s + k → 0 < k
    → ((p : ℕ) → s ≤ p → p < q → told p ≡ z)
    → ((p : ℕ) → s < p → p < q → cut p ≡ cut2 p)
    → Ends told cut z q rest
    → slices_of told cut s n ≡ slices_of (λ _. z) cut2 s k ++ slices_of told cut q rest
unfolding slices_of
split_run told cut cut2 z s n zero q rest e at some same cuts ends = absurd (omega arith)
split_run told cut cut2 z s zero (suc k) q rest e at some same cuts ends = absurd (omega arith)
split_run told cut cut2 z s (suc n) (suc zero) q rest e at some same cuts ends =
    run_first told cut z s (suc n) 1 q rest e at (omega arith) same (λ p le lt. absurd (omega arith)) ends
    ∙ ap (λ (l : List Slice). l ++ slices_of told cut q rest) (sym (one_slice cut2 s z))
split_run told cut cut2 z s (suc n) (suc (suc k)) q rest e at some same cuts ends =
    let first : told s ≡ z = same s (omega arith) (omega arith) in
    let second : told (s + 1) ≡ z = same (s + 1) (omega arith) (omega arith) in
    let alike : unlike (told s) (told (s + 1)) ≡ unlike z z = unlike_same (told s) (told (s + 1)) (first ∙ sym second) ∙ sym (unlike_same z z refl) in
    let cut_same : cut (s + 1) ≡ cut2 (s + 1) = cuts (s + 1) (omega arith) (omega arith) in
    let c_same : cut (s + 1) || unlike (told s) (told (s + 1)) ≡ cut2 (s + 1) || unlike z z =
    ap (λ (b : Bool). cut (s + 1) || b) alike ∙ ap (λ (b : Bool). b || unlike z z) cut_same in
    let others : slices_of told cut (s + 1) n ≡ slices_of (λ _. z) cut2 (s + 1) (suc k) ++ slices_of told cut q rest =
    split_run told cut cut2 z (s + 1) n (suc k) q rest (omega arith) (omega arith) (omega arith) (λ p le lt. same p (omega arith) lt) (λ p le lt. cuts p (omega arith) lt) ends in
    ap (λ (b : Bool). cond b (slice s 1 (told s) ∷ slices_of told cut (s + 1) n) (growing s (told s) (slices_of told cut (s + 1) n))) c_same
    ∙ ap (λ (b : Bool). cond (cut2 (s + 1) || unlike z z) (slice s 1 b ∷ slices_of told cut (s + 1) n) (growing s b (slices_of told cut (s + 1) n))) first
    ∙ split_cond (cut2 (s + 1) || unlike z z) s z (slices_of told cut (s + 1) n) (slices_of (λ _. z) cut2 (s + 1) (suc k)) (slices_of told cut q rest) others
    (slices_some (λ _. z) cut2 (s + 1) k)

-- every slice is told so
abbrev pub AllTold : Bool → List Slice → Type 0
AllTold z [] = Unit {0}
AllTold z (s ∷ ss) = (s.zero ≡ z) × AllTold z ss

pub cond_told : (c : Bool) (p : ℕ) (z : Bool) (xs : List Slice) → AllTold z xs → AllTold z (cond c (slice p 1 z ∷ xs) (growing p z xs))
cond_told true p z xs h = (refl, h)
cond_told false p z [] h = (refl, tt)
cond_told false p z (x ∷ xs) h = (refl, h.1)

pub slices_told : (cut : ℕ → Bool) (z : Bool) (p n : ℕ) → AllTold z (slices_of (λ _. z) cut p n)
unfolding slices_of
slices_told cut z p zero = tt
slices_told cut z p (suc n) = cond_told (cut (p + 1) || unlike z z) p z (slices_of (λ _. z) cut (p + 1) n) (slices_told cut z (p + 1) n)

pub all_copied : (zeros z : Bool) (xs : List Slice) → zeros || not z ≡ true → AllTold z xs → copied zeros xs ≡ xs
all_copied zeros z [] e h = refl
all_copied zeros z (x ∷ xs) e h =
    let test : zeros || not x.zero ≡ true = ap (λ (b : Bool). zeros || not b) h.0 ∙ e in
    let others = all_copied zeros z xs e h.1 in
    rw test (ap (λ (l : List Slice). x ∷ l) others)

pub none_copied : (zeros z : Bool) (xs : List Slice) → zeros || not z ≡ false → AllTold z xs → copied zeros xs ≡ []
none_copied zeros z [] e h = refl
none_copied zeros z (x ∷ xs) e h =
    let test : zeros || not x.zero ≡ false = ap (λ (b : Bool). zeros || not b) h.0 ∙ e in
    let others = none_copied zeros z xs e h.1 in
    rw test others

pub copied_told : (zeros z : Bool) (xs : List Slice) → AllTold z xs → copied zeros xs ≡ cond (zeros || not z) xs []
copied_told zeros z xs h =
    elim (zeros || not z) as (λ b. zeros || not z ≡ b → copied zeros xs ≡ cond b xs []) [ true ↦ λ e. all_copied zeros z xs e h | false ↦ λ e. none_copied zeros z xs e h ] refl

pub copied_append : (zeros : Bool) (a b : List Slice) → copied zeros (a ++ b) ≡ copied zeros a ++ copied zeros b
copied_append zeros [] b = refl
copied_append zeros (x ∷ a) b =
    let others = copied_append zeros a b in
    elim (zeros || not x.zero) as (λ t. cond t (x ∷ copied zeros (a ++ b)) (copied zeros (a ++ b)) ≡ cond t (x ∷ copied zeros a) (copied zeros a) ++ copied zeros b)
    [ true ↦ ap (λ (l : List Slice). x ∷ l) others | false ↦ others ]

-- positions told alike are cut by the cell of their kind
pub kind_cut : (cells : Cells) (told : ℕ → Bool) (z : Bool) (p : ℕ) → told p ≡ z → is_cut cells told p ≡ is_multiple (cond z cells.zero_cell cells.cell) p
kind_cut cells told z p e = ap (λ (b : Bool). cond b (is_multiple cells.zero_cell p) (is_multiple cells.cell p)) e
    ∙ elim z as (λ b. cond b (is_multiple cells.zero_cell p) (is_multiple cells.cell p) ≡ is_multiple (cond b cells.zero_cell cells.cell) p) [ true ↦ refl | false ↦ refl ]

-- a window is its first run and what is behind it
pub window_step : (cells : Cells) (told : ℕ → Bool) (at end : ℕ) (run : Slice) → IsAlikeRun told at end run
    → window_slices cells told at (end - at) ≡ cond (cells.zeros || not run.zero) (run_slices cells run) [] ++ window_slices cells told (at + run.length) (end - (at + run.length))
window_step cells told at end run is =
    let begins = is.begins in
    let some = is.some in
    let within = is.within in
    let split = split_run told (is_cut cells told) (is_multiple (cond run.zero cells.zero_cell cells.cell)) run.zero at (end - at) run.length (at + run.length) (end - (at + run.length))
    (omega arith) refl some is.alike (λ p le lt. kind_cut cells told run.zero p (is.alike p (omega arith) lt))
    (elim (choose (at + run.length) end) [ inl h ↦ Other (is.otherwise h) | inr h ↦ Nothing (omega arith) ]) in
    ap (λ (l : List Slice). copied cells.zeros l) split
    ∙ copied_append cells.zeros (slices_of (λ _. run.zero) (is_multiple (cond run.zero cells.zero_cell cells.cell)) at run.length) (slices_of told (is_cut cells told) (at + run.length) (end - (at + run.length)))
    ∙ ap (λ (l : List Slice). l ++ window_slices cells told (at + run.length) (end - (at + run.length)))
    (copied_told cells.zeros run.zero (slices_of (λ _. run.zero) (is_multiple (cond run.zero cells.zero_cell cells.cell)) at run.length)
    (slices_told (is_multiple (cond run.zero cells.zero_cell cells.cell)) run.zero at run.length)
    ∙ ap (λ (m : ℕ). cond (cells.zeros || not run.zero) (slices_of (λ _. run.zero) (is_multiple (cond run.zero cells.zero_cell cells.cell)) m run.length) []) (sym begins))

pub runs_append : (cells : Cells) (runs : List Slice) (run : Slice) → runs_slices cells (runs ++ run ∷ []) ≡ runs_slices cells runs ++ run_slices cells run
unfolding runs_slices
runs_append cells [] run = append-nil (run_slices cells run)
runs_append cells (r ∷ runs) run = ap (λ (l : List Slice). run_slices cells r ++ l) (runs_append cells runs run) ∙ sym (append_assoc (run_slices cells r) (runs_slices cells runs) (run_slices cells run))

-- what a run that is kept, or left out, adds
pub runs_with : (cells : Cells) (c : Bool) (old now : List Slice) (run : Slice) → now ≡ cond c (old ++ run ∷ []) old
    → runs_slices cells now ≡ runs_slices cells old ++ cond c (run_slices cells run) []
runs_with cells true old now run e = ap (λ (l : List Slice). runs_slices cells l) e ∙ runs_append cells old run
runs_with cells false old now run e = ap (λ (l : List Slice). runs_slices cells l) e ∙ sym (append-nil (runs_slices cells old))

pub uncut : (c x p : ℕ) → 0 < c → x < p → p < x + (c - x % c) → is_multiple c p ≡ false
uncut c x p some from below =
    elim (is_multiple c p) as (λ b. is_multiple c p ≡ b → b ≡ false) [ true ↦ λ e. absurd (no_multiple c x p some from below (eqb-true (p % c) 0 e)) | false ↦ λ e. refl ] refl

-- the first slice of a run ends with its cell, or with the run
pub first_of_run : (cells : Cells) (run now : Slice) (c k : ℕ) → c ≡ cond run.zero cells.zero_cell cells.cell → 0 < c → 0 < run.length
    → k ≡ min (c - run.start % c) run.length → now ≡ slice (run.start + k) (run.length - k) run.zero
    → run_slices cells run ≡ slice run.start k run.zero ∷ run_slices cells now
first_of_run cells run now c k is some more size after =
    let small : run.start % c < c = mod-lt run.start some in
    subst (λ (r : Slice). run_slices cells run ≡ slice run.start k run.zero ∷ run_slices cells r) (sym after)
    (subst (λ (b : ℕ). slices_of (λ _. run.zero) (is_multiple b) run.start run.length
    ≡ slice run.start k run.zero ∷ slices_of (λ _. run.zero) (is_multiple b) (run.start + k) (run.length - k)) is
    (run_first (λ _. run.zero) (is_multiple c) run.zero run.start run.length k (run.start + k) (run.length - k)
    (omega arith) refl (omega arith) (λ p le lt. refl)
    (λ p le lt. uncut c run.start p some le (omega arith))
    (elim (choose (c - run.start % c) run.length) [
      | inl h ↦ let e : run.start + (c - run.start % c) ≡ run.start + k = omega arith in
          Cut (subst (λ (p : ℕ). is_multiple c p ≡ true) e (eq-eqb ((run.start + (c - run.start % c)) % c) 0 (end_begins c run.start some)))
      | inr h ↦ Nothing (omega arith)
    ])))

pub so_on : (new now add w w2 all : List Slice) → new ≡ now ++ add → w ≡ add ++ w2 → now ++ w ≡ all → new ++ w2 ≡ all
so_on new now add w w2 all e f h = rw e (append_assoc now add w2 ∙ ap (λ (l : List Slice). now ++ l) (sym f) ∙ h)

pub are_runs_more : (end : ℕ) (runs : List Slice) (run : Slice) → 0 < run.length → run.start + run.length ≤ end → AreRuns end runs → AreRuns end (runs ++ run ∷ [])
are_runs_more end [] run some within are = (some, within, tt)
are_runs_more end (r ∷ runs) run some within are = (are.0, are.1, are_runs_more end runs run some within are.2)

pub are_runs_with : (end : ℕ) (c : Bool) (old now : List Slice) (run : Slice) → 0 < run.length → run.start + run.length ≤ end → AreRuns end old
    → now ≡ cond c (old ++ run ∷ []) old → AreRuns end now
are_runs_with end true old now run some within are e = subst (λ (l : List Slice). AreRuns end l) (sym e) (are_runs_more end old run some within are)
are_runs_with end false old now run some within are e = subst (λ (l : List Slice). AreRuns end l) (sym e) are

pub kept_with : (c : Bool) (first old now : List Slice) (run : Slice) → take (length first) old ≡ first → now ≡ cond c (old ++ run ∷ []) old → take (length first) now ≡ first
kept_with true first old now run kept e = kept_on (length first) first old now run kept refl e
kept_with false first old now run kept e = subst (λ (l : List Slice). take (length first) l ≡ first) (sym e) kept

-- slices, where the first run has none
pub none_first : (cells : Cells) (run : Slice) (l : List Slice) → run.length ≡ 0 → run_slices cells run ++ l ≡ l
unfolding slices_of
none_first cells run l e = subst (λ (n : ℕ). slices_of (λ _. run.zero) (is_multiple (cond run.zero cells.zero_cell cells.cell)) run.start n ++ l ≡ l) (sym e) refl

pub no_runs : (cells : Cells) (runs : List Slice) → runs ≡ [] → runs_slices cells runs ≡ []
unfolding runs_slices
no_runs cells runs e = subst (λ (l : List Slice). runs_slices cells l ≡ []) (sym e) refl

pub runs_cons : (cells : Cells) (runs : List Slice) (run : Slice) (others : List Slice) → runs ≡ run ∷ others → runs_slices cells runs ≡ run_slices cells run ++ runs_slices cells others
unfolding runs_slices
runs_cons cells runs run others e = ap (λ (l : List Slice). runs_slices cells l) e

pub nothing_more : (cells : Cells) (told : ℕ → Bool) (s n : ℕ) (now all : List Slice) → n ≡ 0 → now ++ window_slices cells told s n ≡ all → now ≡ all
unfolding slices_of
nothing_more cells told s n now all e h = sym (append-nil now) ∙ subst (λ (m : ℕ). now ++ window_slices cells told s m ≡ all) e h

pub none_but_first : {A : Type 0} (l : List A) → l ≡ drop 1 l → l ≡ []
none_but_first [] e = refl
none_but_first {A} (x ∷ l) e = let k = ap (λ (m : List A). length m) e in absurd (omega arith)
