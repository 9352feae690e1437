-- Windows are planned one behind the other, and what they hold as zero was told so.
use Rattle.std.proofs.Common.{◌≡◌, ◌<◌, ◌≤◌, ℕ, suc, eqb-true, ltb-true, leb-true, ◌+◌, ◌-◌, ◌%◌, ◌^◌, ◌⊎◌, ◌&&◌, ◌||◌, not, Bool, true, false, List, [], ◌∷◌, ◌++◌, Option, Some, None, refl, ap, sym, subst, ◌∙◌, inl, inr, arith, cond, nat_lt, nat_le, if◌then◌else◌, min, drop, nat_eq, bit_and, length, get_or}
use Rattle.std.proofs.Math.Seq.{drop-cons}
use Rattle.std.proofs.Math.Nat.{mod-lt}
use Rattle.std.proofs.lemmas.Bool.{cases_lt, eq-eqb, false≢true}
use Rattle.std.proofs.lemmas.Grind.{common_steps}
use Rattle.std.proofs.lemmas.List.{append_assoc, append-nil}
use Rattle.lnbd_model.specs.declared.export.Extent.{Extent}
use Rattle.lnbd_records.specs.Numbers.{has_bit}
use Rattle.lnbd_extents.specs.Positions.{within, holds}
use Rattle.lnbd_extents.specs.Lists.{flags_at, span}
use Rattle.lnbd_extents.proofs.ListLaws.{flags_at_left, flags_at_right}
use Rattle.lnbd_plan.specs.declared.grid.Slice.{Slice}
use Rattle.lnbd_plan.specs.declared.cells.Cells.{Cells}
use Rattle.lnbd_plan.specs.Plans.{AreCells, Planned, window_slices, copied, is_cut, is_multiple}
use Rattle.lnbd_plan.specs.Slices.{slices_of}
use Rattle.lnbd_plan.specs.Laws.{Window, windows_slices, windows_end, told_by, AreWhole, IsWhole, LieBetween}
use Rattle.lnbd_plan.proofs.GridLaws.{end_begins}
use Rattle.lnbd_plan.proofs.LongestLaws.{longest}
use Rattle.lnbd_plan.proofs.OnceLaws.{ends_up}
use Rattle.lnbd_asked.specs.Transcript.{is_zero, zero_in}
use Rattle.lnbd_tracks.specs.Saying.{is_told}
use Rattle.lnbd_copy.specs.Windows.{Seen, IsPlanned, AreFit, AreKept, zero_within, zero_heard, wanted, window_end}
use Rattle.lnbd_conduct.specs.Slices.{AreFullWindows, window}

-- Windows one behind the other.

pub slices_behind : (cells : Cells) (start : ℕ) (parts : List Window) (w : Window) → windows_slices cells start (parts ++ w ∷ []) ≡ windows_slices cells start parts ++ window_slices cells w.told (windows_end start parts) w.count
slices_behind cells start [] w = append-nil _
slices_behind cells start (v ∷ parts) w =
    ap (λ (l : List Slice). window_slices cells v.told start v.count ++ l) (slices_behind cells (start + v.count) parts w) ∙ sym (append_assoc (window_slices cells v.told start v.count) (windows_slices cells (start + v.count) parts) _)

pub end_behind : (start : ℕ) (parts : List Window) (w : Window) → windows_end start (parts ++ w ∷ []) ≡ windows_end start parts + w.count
end_behind start [] w = refl
end_behind start (v ∷ parts) w = end_behind (start + v.count) parts w

told_behind : (start : ℕ) (parts : List Window) (w : Window) (p : ℕ) → told_by start (parts ++ w ∷ []) p ≡ true → (told_by start parts p ≡ true) ⊎ (w.told p ≡ true)
told_behind start [] w p = elim (nat_lt p (start + w.count)) as (λ b. (if b then w.told p else false) ≡ true → (false ≡ true) ⊎ (w.told p ≡ true)) [ true ↦ λ e. inr e | false ↦ λ e. inl e ]
told_behind start (v ∷ parts) w p =
    elim (nat_lt p (start + v.count))
    as (λ b. (if b then v.told p else told_by (start + v.count) (parts ++ w ∷ []) p) ≡ true → ((if b then v.told p else told_by (start + v.count) parts p) ≡ true) ⊎ (w.told p ≡ true))
    [ true ↦ λ e. inl e | false ↦ λ e. told_behind (start + v.count) parts w p e ]

whole_behind : (size start : ℕ) (parts : List Window) (w : Window) → AreFullWindows size start parts → (w.count ≡ window) ⊎ (windows_end start parts + w.count ≡ size) → AreFullWindows size start (parts ++ w ∷ [])
whole_behind size start [] w whole last = (last, tt)
whole_behind size start (v ∷ parts) w whole last = (whole.0, whole_behind size (start + v.count) parts w whole.1 last)

-- What ends where a window does is one.
is_whole_window : (start n size : ℕ) → start + n ≡ min (start + window) size → (n ≡ window) ⊎ (start + n ≡ size)
is_whole_window start n size ends = elim (cases_lt (start + window) size) [
  | inl below ↦ inl (omega arith)
  | inr above ↦ inr (omega arith)
]

-- A window more is planned: so many positions, of which those that are held are zero.
pub window_planned : (windows new : Seen) (blank : ℕ → Bool) (slices : List Slice) (start n : ℕ) (held : List (ℕ × ℕ)) → IsPlanned windows blank slices → windows.plan.end ≡ start →
    new.plan ≡ record windows.plan { end = start + n; slices = windows.plan.slices ++ window_slices windows.plan.cells (holds held) start n } →
    start + n ≤ new.size → ((p : ℕ) → holds held p ≡ true → blank p ≡ true) → ((p : ℕ) → holds new.zero p ≡ true → blank p ≡ true) → new.size ≡ windows.size → (n ≡ window) ⊎ (start + n ≡ windows.size) → IsPlanned new blank slices
window_planned windows new blank slices start n held planned begins is fits told under size last =
    let w : Window = record { count = n; told = holds held } in
    let at_end = planned.end ∙ begins in
    record {
      parts = planned.parts ++ w ∷ [];
      are = subst (λ (p : Planned). slices ++ p.slices ≡ windows_slices p.cells 0 (planned.parts ++ w ∷ [])) (sym is)
          (sym (append_assoc slices windows.plan.slices _)
          ∙ ap (λ (l : List Slice). l ++ window_slices windows.plan.cells (holds held) start n) planned.are
          ∙ ap (λ (e : ℕ). windows_slices windows.plan.cells 0 planned.parts ++ window_slices windows.plan.cells (holds held) e n) (sym at_end)
          ∙ sym (slices_behind windows.plan.cells 0 planned.parts w));
      end = end_behind 0 planned.parts w ∙ ap (λ (e : ℕ). e + n) at_end ∙ sym (ap (λ (p : Planned). p.end) is);
      within = subst (λ (p : Planned). p.end ≤ new.size) (sym is) fits;
      told = λ p e. elim (told_behind 0 planned.parts w p e) [ inl k ↦ planned.told p k | inr k ↦ told p k ];
      under_way = under;
      whole = subst (λ (s : ℕ). AreFullWindows s 0 (planned.parts ++ w ∷ [])) (sym size)
          (whole_behind windows.size 0 planned.parts w planned.whole (subst (λ (e : ℕ). (n ≡ window) ⊎ (e + n ≡ windows.size)) (sym at_end) last));
    }

-- More is known to be zero.
pub planned_more : (windows new : Seen) (blank more : ℕ → Bool) (slices : List Slice) → IsPlanned windows blank slices → new.plan ≡ windows.plan → new.size ≡ windows.size → ((p : ℕ) → blank p ≡ true → more p ≡ true) →
    ((p : ℕ) → holds new.zero p ≡ true → more p ≡ true) → IsPlanned new more slices
planned_more windows new blank more slices planned is size known under = record {
  parts = planned.parts;
  are = subst (λ (p : Planned). slices ++ p.slices ≡ windows_slices p.cells 0 planned.parts) (sym is) planned.are;
  end = planned.end ∙ sym (ap (λ (p : Planned). p.end) is);
  within = let within = planned.within in let ends = ap (λ (p : Planned). p.end) is in omega (arith, within, ends, size);
  told = λ p e. known p (planned.told p e);
  under_way = under;
  whole = subst (λ (s : ℕ). AreFullWindows s 0 planned.parts) (sym size) planned.whole;
}

-- Slices of a window may be begun.

may_copy : (a b : Bool) → a || not b ≡ true → b ≡ true → a ≡ true
may_copy true b e z = refl
may_copy false true e z = e
may_copy false false e z = z

-- where none but the first position of a slice is a multiple of its cell, it is no longer than that
few_uncut : (cell start length : ℕ) → 0 < cell → ((p : ℕ) → start < p → p < start + length → is_multiple cell p ≡ false) → length ≤ cell
few_uncut cell start length some uncut = elim (cases_lt cell length) [
  | inl more ↦
      let small : start % cell < cell = mod-lt start some in
      let next : ℕ = start + (cell - start % cell) in
      let cut : is_multiple cell next ≡ true = eq-eqb (next % cell) 0 (end_begins cell start some) in
      absurd (false≢true (sym (uncut next (omega (arith, small)) (omega (arith, small, more))) ∙ cut))
  | inr few ↦ few
]

slice_few : (cells : Cells) (told : ℕ → Bool) (s : Slice) → AreCells cells → IsWhole told (is_cut cells told) s → s.length ≤ (if s.zero then cells.zero_cell else cells.cell)
slice_few cells told s some whole = go s.zero refl
  where
    uncut : (zero : Bool) → s.zero ≡ zero → (p : ℕ) → s.start < p → p < s.start + s.length → (if zero then is_multiple cells.zero_cell p else is_multiple cells.cell p) ≡ false
    uncut zero is p after before = ap (λ (b : Bool). if b then is_multiple cells.zero_cell p else is_multiple cells.cell p) (sym (whole.alike p (omega (arith, after)) before ∙ is)) ∙ whole.uncut p after before

    go : (zero : Bool) → s.zero ≡ zero → s.length ≤ (if zero then cells.zero_cell else cells.cell)
    go true is = few_uncut cells.zero_cell s.start s.length some.1 (uncut true is)
    go false is = few_uncut cells.cell s.start s.length some.0 (uncut false is)

module _ (size : ℕ) (cells : Cells) (told : ℕ → Bool) (some : AreCells cells) (room : size ≤ 2 ^ 63) where
  fit_lie : (a e : ℕ) (ss : List Slice) → LieBetween a e ss → AreWhole told (is_cut cells told) ss → e ≤ size → AreFit size cells (copied cells.zeros ss)
  fit_lie a e [] lie whole inside = tt
  fit_lie a e (s ∷ ss) lie whole inside =
      let begins = lie.0 in
      let up = ends_up (a + s.length) e ss lie.2 in
      let rest = fit_lie (a + s.length) e ss lie.2 whole.1 inside in
      elim (cells.zeros || not s.zero)
      as (λ b. cells.zeros || not s.zero ≡ b → AreFit size cells (cond b (s ∷ copied cells.zeros ss) (copied cells.zeros ss))) [
        | true ↦ λ is. (record { some = lie.1; within = omega (arith, begins, up, inside); room = omega (arith, begins, up, inside, room); few = slice_few cells told s some whole.0; copied = may_copy cells.zeros s.zero is }, rest)
        | false ↦ λ is. rest
      ] refl

  fit_window : (start n : ℕ) → start + n ≤ size → AreFit size cells (window_slices cells told start n)
  fit_window start n inside = let runs = longest told (is_cut cells told) start n in fit_lie start (start + n) (slices_of told (is_cut cells told) start n) runs.between runs.whole inside

fit_both : (size : ℕ) (cells : Cells) (a b : List Slice) → AreFit size cells a → AreFit size cells b → AreFit size cells (a ++ b)
fit_both size cells [] b fit more = more
fit_both size cells (s ∷ a) b fit more = (fit.0, fit_both size cells a b fit.1 more)

-- With a window more the windows are kept.
pub window_kept : (plan new : Planned) (start at size grain n last : ℕ) (held : List (ℕ × ℕ)) → AreKept plan start at size grain → start + n ≡ last → last ≤ size →
    new ≡ record plan { end = start + n; slices = plan.slices ++ window_slices plan.cells (holds held) start n } → AreKept new last last size grain
window_kept plan new start at size grain n last held kept ends inside is = record {
  begins = ap (λ (p : Planned). p.end) is ∙ ends;
  ahead = omega arith;
  inside = inside;
  room = kept.room;
  some = kept.some;
  cells = subst (λ (p : Planned). AreCells p.cells) (sym is) kept.cells;
  fit = subst (λ (p : Planned). AreFit size p.cells p.slices) (sym is)
      (fit_both size plan.cells plan.slices _ kept.fit (fit_window size plan.cells (holds held) kept.cells kept.room start n (omega (arith, ends, inside))));
  left = λ some. omega (arith, some);
}

-- Extents laid end to end.

-- Of these extents some were passed: the positions behind them are those of the rest, as far as positions are asked for, and each before was told of.
pub record Walks (told : List Extent) (index reached most : ℕ) : Type 0 where
  pub inside : reached ≤ most
  pub rest : reached < most → (q : ℕ) → flags_at told (reached + q) ≡ flags_at (drop index told) q
  pub all : (p : ℕ) → p < reached → is_told (flags_at told p) ≡ true

pub walk_begins : (told : List Extent) (most : ℕ) → Walks told 0 0 most
walk_begins told most = record { inside = omega arith; rest = λ some q. ap (flags_at told) (omega arith); all = λ p low. absurd (omega (arith, low)) }

pub next_any : (told : List Extent) (index : ℕ) (d : Extent) → index < length told → drop index told ≡ get_or told index d ∷ drop (index + 1) told
next_any told index d within = let more : index + 1 ≡ suc index = omega arith in rw more (drop-cons told index d within)

first_flags : (item : Extent) (others : List Extent) (q : ℕ) → q < item.length → flags_at (item ∷ others) q ≡ Some item.flags
first_flags item others q l = let test : nat_lt q item.length ≡ true = grind (arith, common_steps) in rw test refl

later_flags : (item : Extent) (others : List Extent) (q : ℕ) → flags_at (item ∷ others) (item.length + q) ≡ flags_at others q
later_flags item others q = let test : nat_lt (item.length + q) item.length ≡ false = grind (arith, common_steps) in rw test (ap (flags_at others) (omega arith))

module _ (told : List Extent) (index reached most : ℕ) (item : Extent) (walks : Walks told index reached most) (is : drop index told ≡ item ∷ drop (index + 1) told) (n : ℕ) (as_many : n ≡ min item.length (most - reached)) where
  pub walk_here : (q : ℕ) → q < n → flags_at told (reached + q) ≡ Some item.flags
  walk_here q l =
      let inside = walks.inside in
      walks.rest (omega arith) q ∙ ap (λ (l : List Extent). flags_at l q) is ∙ first_flags item (drop (index + 1) told) q (omega arith)

  pub walk_on : Walks told (index + 1) (reached + n) most
  walk_on =
      let inside = walks.inside in
      record {
        inside = omega arith;
        rest = λ some q.
            let whole : n ≡ item.length = omega arith in
            let place : reached + n + q ≡ reached + (item.length + q) = omega arith in
            ap (flags_at told) place ∙ walks.rest (omega arith) (item.length + q) ∙ ap (λ (l : List Extent). flags_at l (item.length + q)) is ∙ later_flags item (drop (index + 1) told) q;
        all = λ p low. elim (cases_lt p reached) [
          | inl before ↦ walks.all p before
          | inr behind ↦
              let place : p ≡ reached + (p - reached) = omega (arith, behind) in
              ap (λ (q : ℕ). is_told (flags_at told q)) place ∙ ap (λ (o : Option ℕ). is_told o) (walk_here (p - reached) (omega (arith, low, behind)))
        ];
      }

-- The zero flag alone is zero where the flags are.
flag_alone : (flags : ℕ) → has_bit 2 (bit_and flags 2) ≡ true → has_bit 2 flags ≡ true
flag_alone flags e =
    elim (nat_eq (bit_and flags 2) 0) as (λ b. nat_eq (bit_and flags 2) 0 ≡ b → not b ≡ true) [
      | true ↦ λ none. let no : has_bit 2 0 ≡ true = subst (λ (n : ℕ). has_bit 2 n ≡ true) (eqb-true (bit_and flags 2) 0 none) e in no
      | false ↦ λ some. refl
    ] refl

-- What was joined so far of what was told.
pub record Joins (told list : List Extent) (index left most : ℕ) : Type 0 where
  pub walks : Walks told index (span list) most
  pub left_ : span list + left ≡ most
  pub blank : (p : ℕ) → is_zero (flags_at list p) ≡ true → is_zero (flags_at told p) ≡ true

pub join_begins : (told list : List Extent) (most : ℕ) → list ≡ [] → Joins told list 0 most most
join_begins told list most is = subst (λ (l : List Extent). Joins told l 0 most most) (sym is) (record { walks = walk_begins told most; left_ = omega arith; blank = λ p e. absurd (false≢true e) })

pub less_or_more : (n p : ℕ) → (p < n) ⊎ ((q : ℕ) × (p ≡ n + q))
less_or_more n p = elim (nat_lt p n) as (λ b. nat_lt p n ≡ b → (p < n) ⊎ ((q : ℕ) × (p ≡ n + q))) [ true ↦ λ e. inl (grind (arith, common_steps)) | false ↦ λ e. inr (p - n, grind (arith, common_steps)) ] refl

one_flags : (n flags q : ℕ) → is_zero (flags_at (record { length = n; flags = flags } ∷ []) q) ≡ true → (q < n) × (has_bit 2 flags ≡ true)
one_flags n flags q e =
    elim (nat_lt q n) as (λ b. nat_lt q n ≡ b → is_zero (if b then Some flags else None) ≡ true → (q < n) × (has_bit 2 flags ≡ true))
    [ true ↦ λ l k. (grind (arith, common_steps), k) | false ↦ λ l k. absurd (false≢true k) ] refl e

pub join_on : (told list list' : List Extent) (index left most n : ℕ) (item : Extent) → Joins told list index left most → drop index told ≡ item ∷ drop (index + 1) told → n ≡ min item.length left →
    ((p : ℕ) → flags_at list' p ≡ flags_at (list ++ record { length = n; flags = bit_and item.flags 2 } ∷ []) p) → span list' ≡ span list + n → Joins told list' (index + 1) (left - n) most
join_on told list list' index left most n item joins is as_many flags spans =
    let left_ = joins.left_ in
    let exact : n ≡ min item.length (most - span list) = omega arith in
    let on = walk_on told index (span list) most item joins.walks is n exact in
    record {
      walks = subst (λ (m : ℕ). Walks told (index + 1) m most) (sym spans) on;
      left_ = omega arith;
      blank = λ p e.
          let k = subst (λ (o : Option ℕ). is_zero o ≡ true) (flags p) e in
          elim (less_or_more (span list) p) [
            | inl l ↦ joins.blank p (subst (λ (o : Option ℕ). is_zero o ≡ true) (flags_at_left list _ p l) k)
            | inr m ↦
                let here = subst (λ (r : ℕ). is_zero (flags_at (list ++ record { length = n; flags = bit_and item.flags 2 } ∷ []) r) ≡ true) m.1 k in
                let one = one_flags n (bit_and item.flags 2) m.0 (subst (λ (o : Option ℕ). is_zero o ≡ true) (flags_at_right list (record { length = n; flags = bit_and item.flags 2 } ∷ []) m.0) here) in
                subst (λ (r : ℕ). is_zero (flags_at told r) ≡ true) (sym m.1)
                (subst (λ (o : Option ℕ). is_zero o ≡ true) (sym (walk_here told index (span list) most item joins.walks is n exact m.0 one.0)) (flag_alone item.flags one.1))
          ];
    }

-- What is held as zero was told so.
pub record HoldsTold (told : List Extent) (before now : List (ℕ × ℕ)) (from index reached most : ℕ) : Type 0 where
  pub walks : Walks told index reached most
  pub held : (p : ℕ) → holds now p ≡ true → holds before p || zero_within (from, most) told p ≡ true

pub or_first : (a b : Bool) → a ≡ true → a || b ≡ true
or_first true b e = refl
or_first false b e = absurd (false≢true e)

pub or_second : (a b : Bool) → b ≡ true → a || b ≡ true
or_second true b e = refl
or_second false b e = e

pub or_cases : (a b : Bool) → a || b ≡ true → (a ≡ true) ⊎ (b ≡ true)
or_cases true b e = inl refl
or_cases false b e = inr e

pub both_true : (a b : Bool) → a ≡ true → b ≡ true → a && b ≡ true
both_true a b e k = rw (e, k) refl

pub and_left : (a b : Bool) → a && b ≡ true → a ≡ true
and_left true b e = refl
and_left false b e = e

pub and_right : (a b : Bool) → a && b ≡ true → b ≡ true
and_right true b e = e
and_right false b e = absurd (false≢true e)

pub hold_begins : (told : List Extent) (before now : List (ℕ × ℕ)) (from most : ℕ) → now ≡ before → HoldsTold told before now from 0 0 most
hold_begins told before now from most is = record { walks = walk_begins told most; held = λ p e. or_first (holds before p) _ (subst (λ (r : List (ℕ × ℕ)). holds r p ≡ true) is e) }

pub hold_passes : (told : List Extent) (before now : List (ℕ × ℕ)) (from index reached most n : ℕ) (item : Extent) → HoldsTold told before now from index reached most → drop index told ≡ item ∷ drop (index + 1) told →
    n ≡ min item.length (most - reached) → HoldsTold told before now from (index + 1) (reached + n) most
hold_passes told before now from index reached most n item holding is as_many = record { walks = walk_on told index reached most item holding.walks is n as_many; held = holding.held }

told_here : (told : List Extent) (from index reached most n : ℕ) (item : Extent) → Walks told index reached most → drop index told ≡ item ∷ drop (index + 1) told →
    n ≡ min item.length (most - reached) → has_bit 2 item.flags ≡ true → (p : ℕ) → within (from + reached, n) p ≡ true → zero_within (from, most) told p ≡ true
told_here told from index reached most n item walks is as_many blank p here =
    let inside = walks.inside in
    let low : from + reached ≤ p = leb-true (from + reached) p (and_left (nat_le (from + reached) p) _ here) in
    let high : p < from + reached + n = ltb-true p (from + reached + n) (and_right (nat_le (from + reached) p) _ here) in
    let le : nat_le from p ≡ true = grind (arith, common_steps) in
    let lt : nat_lt p (from + most) ≡ true = grind (arith, common_steps) in
    let place : p - from ≡ reached + (p - (from + reached)) = omega arith in
    let flags = walk_here told index reached most item walks is n as_many (p - (from + reached)) (omega arith) in
    both_true (within (from, most) p) (zero_in from told p) (both_true (nat_le from p) (nat_lt p (from + most)) le lt)
    (both_true (nat_le from p) (is_zero (flags_at told (p - from))) le
    (subst (λ (q : ℕ). is_zero (flags_at told q) ≡ true) (sym place) (subst (λ (o : Option ℕ). is_zero o ≡ true) (sym flags) blank)))

pub hold_on : (told : List Extent) (before now now' : List (ℕ × ℕ)) (from index reached most n : ℕ) (item : Extent) → HoldsTold told before now from index reached most → drop index told ≡ item ∷ drop (index + 1) told →
    n ≡ min item.length (most - reached) → has_bit 2 item.flags ≡ true → ((p : ℕ) → holds now' p ≡ true → within (from + reached, n) p || holds now p ≡ true) →
    HoldsTold told before now' from (index + 1) (reached + n) most
hold_on told before now now' from index reached most n item holding is as_many blank held = record {
  walks = walk_on told index reached most item holding.walks is n as_many;
  held = λ p e. elim (or_cases (within (from + reached, n) p) (holds now p) (held p e)) [
    | inl k ↦ or_second (holds before p) _ (told_here told from index reached most n item holding.walks is as_many blank p k)
    | inr k ↦ holding.held p k
  ];
}

-- What is told of joined extents was told.
pub zero_of_joined : (range : ℕ × ℕ) (told list : List Extent) → ((p : ℕ) → is_zero (flags_at list p) ≡ true → is_zero (flags_at told p) ≡ true) → (p : ℕ) → zero_within range list p ≡ true → zero_within range told p ≡ true
zero_of_joined range told list blank p e =
    let inside = and_left (within range p) (zero_in range.0 list p) e in
    let here = and_right (within range p) (zero_in range.0 list p) e in
    both_true (within range p) (zero_in range.0 told p) inside
    (both_true (nat_le range.0 p) _ (and_left (nat_le range.0 p) _ here) (blank (p - range.0) (and_right (nat_le range.0 p) _ here)))

-- What was heard of the range that was wanted.

module _ (windows : Seen) (start end : ℕ) (told list joined : List Extent) (now : List (ℕ × ℕ)) (begins : windows.plan.end ≡ start) (ends : end ≡ min (start + window) windows.size) (left : windows.at < end) (is_list : list ≡ joined)
    (joins : (p : ℕ) → is_zero (flags_at joined p) ≡ true → is_zero (flags_at told p) ≡ true) (holding : (p : ℕ) → holds now p ≡ true → holds windows.zero p || zero_within (windows.at, end - windows.at) list p ≡ true) where
  wanted_is : wanted windows ≡ Some (windows.at, end - windows.at)
  wanted_is =
      let same : window_end windows ≡ end = ap (λ (e : ℕ). min (e + window) windows.size) begins ∙ sym ends in
      let test : nat_lt windows.at end ≡ true = grind (arith, common_steps) in
      ap (λ (e : ℕ). if nat_lt windows.at e then Some (windows.at, e - windows.at) else None) same ∙ ap (λ (b : Bool). if b then Some (windows.at, end - windows.at) else None) test

  heard_known : (blank : ℕ → Bool) → ((p : ℕ) → holds windows.zero p ≡ true → blank p ≡ true) → (p : ℕ) → holds now p ≡ true → blank p || zero_heard (wanted windows) told p ≡ true
  heard_known blank known p e = elim (or_cases (holds windows.zero p) (zero_within (windows.at, end - windows.at) list p) (holding p e)) [
    | inl k ↦ or_first (blank p) _ (known p k)
    | inr k ↦ or_second (blank p) _
        (subst (λ (r : Option (ℕ × ℕ)). zero_heard r told p ≡ true) (sym wanted_is)
        (zero_of_joined (windows.at, end - windows.at) told joined joins p (subst (λ (l : List Extent). zero_within (windows.at, end - windows.at) l p ≡ true) is_list k)))
  ]

  -- a part of the window was told
  pub hear_partly : (new : Seen) → new.plan ≡ windows.plan → new.size ≡ windows.size → new.zero ≡ now → (blank : ℕ → Bool) (slices : List Slice) → IsPlanned windows blank slices → IsPlanned new (λ p. blank p || zero_heard (wanted windows) told p) slices
  hear_partly new is size held blank slices planned =
      planned_more windows new blank (λ p. blank p || zero_heard (wanted windows) told p) slices planned is size (λ p e. or_first (blank p) _ e)
      (λ p e. heard_known blank planned.under_way p (subst (λ (r : List (ℕ × ℕ)). holds r p ≡ true) held e))

  -- all of it was, and it is planned
  pub hear_wholly : (new : Seen) (n : ℕ) → new.plan ≡ record windows.plan { end = start + n; slices = windows.plan.slices ++ window_slices windows.plan.cells (holds now) start n } → start + n ≤ new.size → new.zero ≡ [] → new.size ≡ windows.size → start + n ≡ end →
      (blank : ℕ → Bool) (slices : List Slice) → IsPlanned windows blank slices → IsPlanned new (λ p. blank p || zero_heard (wanted windows) told p) slices
  hear_wholly new n is fits none size last blank slices planned =
      let held : Seen = record windows { zero = now } in
      let wider = hear_partly held refl refl refl blank slices planned in
      window_planned held new (λ p. blank p || zero_heard (wanted windows) told p) slices start n now wider begins is fits wider.under_way
      (λ p e. let no : false ≡ true = subst (λ (r : List (ℕ × ℕ)). holds r p ≡ true) none e in absurd (false≢true no))
      size (is_whole_window start n windows.size (last ∙ ends))
