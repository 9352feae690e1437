-- Each position is planned once.
use Rattle.std.proofs.Common.{◌≡◌, ℕ, ◌+◌, ◌<◌, ◌≤◌, ◌⊎◌, ◌||◌, Bool, true, false, not, List, [], ◌∷◌, ◌++◌, subst, sym, ◌∙◌, ap, refl, inl, inr, arith, cond, nat_lt}
use Rattle.std.proofs.lemmas.Grind.{common_steps}
use Rattle.std.proofs.lemmas.List.{append-nil}
use Rattle.lnbd_extents.specs.Positions.{within}
use Rattle.lnbd_plan.specs.declared.grid.Slice.{Slice}
use Rattle.lnbd_plan.specs.declared.cells.Cells.{Cells}
use Rattle.lnbd_plan.specs.Plans.{is_cut, copied}
use Rattle.lnbd_plan.specs.Laws.{LieBetween, AreWhole, IsInOne, IsPlannedOnce, AllWindowsArePlannedOnce, Window, WindowsArePlannedOnce, slices_at, told_by, windows_end, windows_slices}
use Rattle.lnbd_plan.proofs.BlockLaws.{choose}
use Rattle.lnbd_plan.proofs.LongestLaws.{longest}
use Rattle.lnbd_plan.proofs.WalkLaws.{is_within, is_before, is_behind}

pub ends_up : (a e : ℕ) (ss : List Slice) → LieBetween a e ss → a ≤ e
ends_up a e [] lie = omega (arith, lie)
ends_up a e (s ∷ ss) lie = let k = ends_up (a + s.length) e ss lie.2 in omega arith

-- slices that lie elsewhere do not have a position
pub none_at : (p a e : ℕ) (ss : List Slice) → LieBetween a e ss → (p < a) ⊎ (e ≤ p) → slices_at p ss ≡ []
none_at p a e [] lie h = refl
none_at p a e (s ∷ ss) lie h =
    let begins = lie.0 in
    let up = ends_up (a + s.length) e ss lie.2 in
    let not_here : within (s.start, s.length) p ≡ false =
    elim h [ inl k ↦ is_before (s.start, s.length) p (omega arith) | inr k ↦ is_behind (s.start, s.length) p (omega arith) ] in
    let others = none_at p (a + s.length) e ss lie.2 (elim h [ inl k ↦ inl (omega arith) | inr k ↦ inr k ]) in
    rw (not_here, others) refl

-- one of the slices that lie end to end has a position between their ends
pub one_at : (told cut : ℕ → Bool) (p a e : ℕ) (ss : List Slice) → LieBetween a e ss → AreWhole told cut ss → a ≤ p → p < e → IsInOne (told p) p ss
one_at told cut p a e [] lie whole le lt = absurd (omega (arith, lie))
one_at told cut p a e (s ∷ ss) lie whole le lt =
    let begins = lie.0 in
    elim (choose p (a + s.length)) [
      | inl h ↦
          let here : within (s.start, s.length) p ≡ true = is_within (s.start, s.length) p (omega arith) (omega arith) in
          let others = none_at p (a + s.length) e ss lie.2 (inl h) in
          record { slice = s; one = rw (here, others) refl; alike = sym (whole.0.alike p (omega arith) (omega arith)) }
      | inr h ↦
          let not_here : within (s.start, s.length) p ≡ false = is_behind (s.start, s.length) p (omega arith) in
          let other = one_at told cut p (a + s.length) e ss lie.2 whole.1 h lt in
          record { slice = other.slice; one = rw not_here other.one; alike = other.alike }
    ]

-- the copied slices that have a position are the copied ones of those that have it
pub at_copied : (zeros : Bool) (p : ℕ) (ss : List Slice) → slices_at p (copied zeros ss) ≡ copied zeros (slices_at p ss)
at_copied zeros p [] = refl
at_copied zeros p (s ∷ ss) =
    let others = at_copied zeros p ss in
    elim (zeros || not s.zero)
    as (λ t. zeros || not s.zero ≡ t → slices_at p (cond t (s ∷ copied zeros ss) (copied zeros ss)) ≡ copied zeros (cond (within (s.start, s.length) p) (s ∷ slices_at p ss) (slices_at p ss))) [
      | true ↦ λ e.
          elim (within (s.start, s.length) p)
          as (λ b. cond b (s ∷ slices_at p (copied zeros ss)) (slices_at p (copied zeros ss)) ≡ copied zeros (cond b (s ∷ slices_at p ss) (slices_at p ss)))
          [ true ↦ rw e (ap (λ (l : List Slice). s ∷ l) others) | false ↦ others ]
      | false ↦ λ e.
          elim (within (s.start, s.length) p)
          as (λ b. slices_at p (copied zeros ss) ≡ copied zeros (cond b (s ∷ slices_at p ss) (slices_at p ss)))
          [ true ↦ rw e others | false ↦ others ]
    ] refl

pub copied_one : (zeros told : Bool) (s : Slice) → s.zero ≡ told → zeros || not told ≡ true → copied zeros (s ∷ []) ≡ s ∷ []
copied_one zeros told s alike is =
    let test : zeros || not s.zero ≡ true = ap (λ (b : Bool). zeros || not b) alike ∙ is in rw test refl

pub copied_none : (zeros told : Bool) (s : Slice) → s.zero ≡ told → zeros || not told ≡ false → copied zeros (s ∷ []) ≡ []
copied_none zeros told s alike is =
    let test : zeros || not s.zero ≡ false = ap (λ (b : Bool). zeros || not b) alike ∙ is in rw test refl

pub planned_once : WindowsArePlannedOnce
planned_once cells told start n p =
    let l = longest told (is_cut cells told) start n in
    let all = at_copied cells.zeros p _ in
    record {
      one = λ le lt is. let found = one_at told (is_cut cells told) p start (start + n) _ l.between l.whole le lt in
          record {
            slice = found.slice;
            one = all ∙ ap (λ (ss : List Slice). copied cells.zeros ss) found.one ∙ copied_one cells.zeros (told p) found.slice found.alike is;
            alike = found.alike;
          };
      none = λ le lt is. let found = one_at told (is_cut cells told) p start (start + n) _ l.between l.whole le lt in
          all ∙ ap (λ (ss : List Slice). copied cells.zeros ss) found.one ∙ copied_none cells.zeros (told p) found.slice found.alike is;
      outside = λ h. all ∙ ap (λ (ss : List Slice). copied cells.zeros ss) (none_at p start (start + n) _ l.between h);
    }

pub at_both : (p : ℕ) (a b : List Slice) → slices_at p (a ++ b) ≡ slices_at p a ++ slices_at p b
at_both p [] b = refl
at_both p (s ∷ a) b =
    let others = at_both p a b in
    elim (within (s.start, s.length) p)
    as (λ t. cond t (s ∷ slices_at p (a ++ b)) (slices_at p (a ++ b)) ≡ cond t (s ∷ slices_at p a) (slices_at p a) ++ slices_at p b)
    [ true ↦ ap (λ (l : List Slice). s ∷ l) others | false ↦ others ]

pub none_of_both : (p : ℕ) (a b : List Slice) → slices_at p a ≡ [] → slices_at p b ≡ [] → slices_at p (a ++ b) ≡ []
none_of_both p a b h k = at_both p a b ∙ rw (h, k) refl

pub first_of_both : (p : ℕ) (a b xs : List Slice) → slices_at p a ≡ xs → slices_at p b ≡ [] → slices_at p (a ++ b) ≡ xs
first_of_both p a b xs h k = at_both p a b ∙ rw (h, k) (append-nil xs)

pub second_of_both : (p : ℕ) (a b xs : List Slice) → slices_at p a ≡ [] → slices_at p b ≡ xs → slices_at p (a ++ b) ≡ xs
second_of_both p a b xs h k = at_both p a b ∙ rw (h, k) refl

pub end_up : (start : ℕ) (ws : List Window) → start ≤ windows_end start ws
end_up start [] = omega arith
end_up start (w ∷ ws) = let k = end_up (start + w.count) ws in omega arith

-- what a position in the first window is told, and what one behind it
pub told_first : (start : ℕ) (w : Window) (ws : List Window) (p : ℕ) → p < start + w.count → told_by start (w ∷ ws) p ≡ w.told p
told_first start w ws p lt = let test : nat_lt p (start + w.count) ≡ true = grind (arith, common_steps) in rw test refl

pub told_behind : (start : ℕ) (w : Window) (ws : List Window) (p : ℕ) → start + w.count ≤ p → told_by start (w ∷ ws) p ≡ told_by (start + w.count) ws p
told_behind start w ws p le = let test : nat_lt p (start + w.count) ≡ false = grind (arith, common_steps) in rw test refl

pub retold : (p : ℕ) (a b : Bool) (ss : List Slice) → a ≡ b → IsInOne a p ss → IsInOne b p ss
retold p a b ss e one = subst (λ (t : Bool). IsInOne t p ss) e one

pub planned_first : (cells : Cells) (start : ℕ) (w : Window) (ws : List Window) (p : ℕ) → p < start + w.count
    → IsPlannedOnce cells (told_by (start + w.count) ws) (start + w.count) (windows_end (start + w.count) ws) p (windows_slices cells (start + w.count) ws)
    → IsPlannedOnce cells (told_by start (w ∷ ws)) start (windows_end start (w ∷ ws)) p (windows_slices cells start (w ∷ ws))
planned_first cells start w ws p lt others =
    let first = planned_once cells w.told start w.count p in
    let is = told_first start w ws p lt in
    let rest = others.outside (inl lt) in
    record {
      one = λ le below test.
          let found = first.one le lt (ap (λ (b : Bool). cells.zeros || not b) (sym is) ∙ test) in
          record { slice = found.slice; one = first_of_both p _ _ _ found.one rest; alike = found.alike ∙ sym is };
      none = λ le below test. none_of_both p _ _ (first.none le lt (ap (λ (b : Bool). cells.zeros || not b) (sym is) ∙ test)) rest;
      outside = λ h. none_of_both p _ _ (first.outside (elim h [ inl k ↦ inl k | inr k ↦ let up = end_up (start + w.count) ws in absurd (omega arith) ])) rest;
    }

pub planned_behind : (cells : Cells) (start : ℕ) (w : Window) (ws : List Window) (p : ℕ) → start + w.count ≤ p
    → IsPlannedOnce cells (told_by (start + w.count) ws) (start + w.count) (windows_end (start + w.count) ws) p (windows_slices cells (start + w.count) ws)
    → IsPlannedOnce cells (told_by start (w ∷ ws)) start (windows_end start (w ∷ ws)) p (windows_slices cells start (w ∷ ws))
planned_behind cells start w ws p behind others =
    let first = (planned_once cells w.told start w.count p).outside (inr behind) in
    let is = told_behind start w ws p behind in
    record {
      one = λ le below test.
          let found = others.one behind below (ap (λ (b : Bool). cells.zeros || not b) (sym is) ∙ test) in
          record { slice = found.slice; one = second_of_both p _ _ _ first found.one; alike = found.alike ∙ sym is };
      none = λ le below test. none_of_both p _ _ first (others.none behind below (ap (λ (b : Bool). cells.zeros || not b) (sym is) ∙ test));
      outside = λ h. none_of_both p _ _ first (others.outside (elim h [ inl k ↦ absurd (omega arith) | inr k ↦ inr k ]));
    }

pub all_planned_once : AllWindowsArePlannedOnce
all_planned_once cells start [] p = record {
  one = λ le lt test. absurd (omega arith);
  none = λ le lt test. absurd (omega arith);
  outside = λ h. refl;
}
all_planned_once cells start (w ∷ ws) p =
    let others = all_planned_once cells (start + w.count) ws p in
    elim (choose p (start + w.count)) [ inl h ↦ planned_first cells start w ws p h others | inr h ↦ planned_behind cells start w ws p h others ]
