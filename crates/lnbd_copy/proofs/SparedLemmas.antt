-- The blocks of a source that one answer told as zero whole are planned as zero.
use Rattle.std.proofs.Common.{◌≡◌, ◌≢◌, ◌<◌, ◌≤◌, ℕ, zero, suc, ltb-true, leb-true, ◌+◌, ◌-◌, ◌*◌, ◌/◌, ◌%◌, ◌||◌, not, Bool, true, false, List, [], ◌∷◌, ◌++◌, Option, Some, None, refl, ap, sym, subst, ◌∙◌, inl, inr, arith, nat_lt, nat_le, if◌then◌else◌, min, drop, bit_and, ◌==◌}
use Rattle.std.proofs.lemmas.Bool.{cases_lt, false≢true}
use Rattle.std.proofs.lemmas.Grind.{common_steps}
use Rattle.std.proofs.lemmas.List.{append_assoc}
use Rattle.std.proofs.lemmas.Nat.{and_assoc, and_le_r, div-add-mod'}
use Rattle.std.proofs.Math.Nat.{div-mul-le_self, le-div_iff_mul-le, lt-div-mul-add, mul-le-mul_right}
use Rattle.lnbd_model.specs.declared.export.Extent.{Extent}
use Rattle.lnbd_records.specs.Numbers.{has_bit}
use Rattle.lnbd_extents.specs.Positions.{within, holds}
use Rattle.lnbd_extents.specs.Lists.{flags_at, span, AreJoined, StartsOtherwise}
use Rattle.lnbd_extents.proofs.ListLaws.{flags_at_left, flags_at_right}
use Rattle.lnbd_extents.proofs.PositionLaws.{all_elim, all_intro}
use Rattle.lnbd_plan.specs.declared.grid.Slice.{Slice}
use Rattle.lnbd_plan.specs.Plans.{Planned, window_slices}
use Rattle.lnbd_plan.specs.Laws.{Window, windows_slices, windows_end, told_by}
use Rattle.lnbd_asked.specs.Transcript.{is_zero, zero_in}
use Rattle.lnbd_copy.specs.Spared.{HaveOneFlag, IsInside, IsSpared, whole_heard, whole_within}
use Rattle.lnbd_copy.specs.Windows.{IsPlanned, Seen, wanted, window_end, zero_within}
use Rattle.lnbd_conduct.specs.Slices.{window}
use Rattle.lnbd_copy.proofs.WindowLemmas.{Joins, Walks, and_left, and_right, both_true, end_behind, less_or_more, or_cases, or_first, slices_behind, walk_here, walk_on}

-- Blocks.

-- no block begins between a place and the first one that doesn't begin before it
pub first_begins : (start block p : ℕ) → 0 < block → start ≤ p / block * block → (start % block ≡ 0 → ⊥) → start - start % block + block ≤ p / block * block
first_begins start block p some begins uneven =
    let whole : start / block * block + start % block ≡ start = div-add-mod' start block in
    elim (cases_lt (start / block) (p / block)) [
      | inl less ↦
          let more : (start / block + 1) * block ≤ p / block * block = mul-le-mul_right block (omega (arith, less)) in
          let is : (start / block + 1) * block ≡ start / block * block + block = omega arith in
          omega (arith, whole, more, is)
      | inr least ↦
          let most : p / block * block ≤ start / block * block = mul-le-mul_right block least in
          absurd (uneven (omega (arith, whole, most, begins)))
    ]

-- and none ends behind the last one that ends by a place
pub last_ends : (end block p : ℕ) → 0 < block → p / block * block + block ≤ end → p / block * block + block ≤ end - end % block
last_ends end block p some ends =
    let whole : end / block * block + end % block ≡ end = div-add-mod' end block in
    let is : (p / block + 1) * block ≡ p / block * block + block = omega arith in
    let within : (p / block + 1) * block ≤ end = omega (arith, is, ends) in
    let count : p / block + 1 ≤ end / block = (le-div_iff_mul-le some).1 within in
    let most : (p / block + 1) * block ≤ end / block * block = mul-le-mul_right block count in
    omega (arith, whole, most, is)

-- A block that lies in a range is held with the blocks from the first one to the last.
pub block_held : (was now : List (ℕ × ℕ)) (block start count first last p : ℕ) → 0 < block → IsInside block start count p → ((p : ℕ) → start ≤ p / block * block → first ≤ p / block * block) →
    ((p : ℕ) → p / block * block + block ≤ start + count → p / block * block + block ≤ last) → ((p : ℕ) → holds now p ≡ within (first, last - first) p || holds was p) → holds now p ≡ true
block_held was now block start count first last p some inside begins ends held =
    let low = begins p inside.begins in
    let high = ends p inside.ends in
    let from : p / block * block ≤ p = div-mul-le_self p block in
    let to : p < p / block * block + block = lt-div-mul-add some in
    let le : nat_le first p ≡ true = grind (arith, common_steps) in
    let lt : nat_lt p (first + (last - first)) ≡ true = grind (arith, common_steps) in
    held p ∙ or_first (within (first, last - first) p) (holds was p) (both_true (nat_le first p) (nat_lt p (first + (last - first))) le lt)

-- there is such a block only where the first begins before the last ends
pub none_inside : {A : Type 0} (block start count first last p : ℕ) → 0 < block → IsInside block start count p → ((p : ℕ) → start ≤ p / block * block → first ≤ p / block * block) →
    ((p : ℕ) → p / block * block + block ≤ start + count → p / block * block + block ≤ last) → (first < last → ⊥) → A
none_inside block start count first last p some inside begins ends none =
    let low = begins p inside.begins in
    let high = ends p inside.ends in
    absurd (none (omega (arith, low, high, some)))

-- One flag.

-- the zero flag alone is as it was
same_flag : (flags : ℕ) → has_bit 2 (bit_and flags 2) ≡ has_bit 2 flags
same_flag flags = ap (λ (n : ℕ). not (n == 0)) (and_assoc 2 flags 2)

zero_flag : (flags : ℕ) → flags ≤ 2 → has_bit 2 flags ≡ true → flags ≡ 2
zero_flag zero low e = absurd (false≢true e)
zero_flag (suc zero) low e = absurd (false≢true e)
zero_flag (suc (suc zero)) low e = refl
zero_flag (suc (suc (suc n))) low e = omega (arith, low)

-- What was joined of what was told.

-- so far it is joined, has the zero flag alone, and each position that was told as zero is so
pub record JoinsAll (told list : List Extent) (index left most : ℕ) : Type 0 where
  pub joins : Joins told list index left most
  pub joined : AreJoined list
  pub one : HaveOneFlag list
  pub all : (p : ℕ) → p < span list → is_zero (flags_at told p) ≡ true → is_zero (flags_at list p) ≡ true

none_some : (flags : ℕ) → None ≡ Some flags → ⊥
none_some flags e = cc

some_same : (one other : ℕ) → Some one ≡ Some other → one ≡ other
some_same one other e = cc

pub all_begins : (told list : List Extent) (most : ℕ) → list ≡ [] → Joins told list 0 most most → JoinsAll told list 0 most most
all_begins told list most is joins = subst (λ (l : List Extent). Joins told l 0 most most → JoinsAll told l 0 most most) (sym is)
    (λ j. record { joins = j; joined = tt; one = λ p flags e. absurd (none_some flags e); all = λ p low e. absurd (omega (arith, low)) }) joins

one_at : (n flags q : ℕ) → q < n → flags_at (record { length = n; flags = flags } ∷ []) q ≡ Some flags
one_at n flags q low = let test : nat_lt q n ≡ true = grind (arith, common_steps) in rw test refl

one_is : (n flags q f : ℕ) → flags_at (record { length = n; flags = flags } ∷ []) q ≡ Some f → flags ≡ f
one_is n flags q f = elim (nat_lt q n) as (λ b. (if b then Some flags else None) ≡ Some f → flags ≡ f) [ true ↦ λ e. some_same flags f e | false ↦ λ e. absurd (none_some f e) ]

module _ (told list list' : List Extent) (index left most n : ℕ) (item : Extent) (so : JoinsAll told list index left most) (is : drop index told ≡ item ∷ drop (index + 1) told) (as_many : n ≡ min item.length left)
    (flags : (p : ℕ) → flags_at list' p ≡ flags_at (list ++ record { length = n; flags = bit_and item.flags 2 } ∷ []) p) (spans : span list' ≡ span list + n) where
  abbrev one_more : Extent
  one_more = record { length = n; flags = bit_and item.flags 2 }

  still_one : HaveOneFlag list'
  still_one p f e = elim (less_or_more (span list) p) [
    | inl l ↦ so.one p f (sym (flags_at_left list (one_more ∷ []) p l) ∙ sym (flags p) ∙ e)
    | inr m ↦
        let here : flags_at (one_more ∷ []) m.0 ≡ Some f = sym (flags_at_right list (one_more ∷ []) m.0) ∙ ap (λ (r : ℕ). flags_at (list ++ one_more ∷ []) r) (sym m.1) ∙ sym (flags p) ∙ e in
        let low : bit_and item.flags 2 ≤ 2 = and_le_r item.flags 2 in
        let same : bit_and item.flags 2 ≡ f = one_is n (bit_and item.flags 2) m.0 f here in
        omega (arith, low, same)
  ]

  still_all : (p : ℕ) → p < span list' → is_zero (flags_at told p) ≡ true → is_zero (flags_at list' p) ≡ true
  still_all p low e = elim (less_or_more (span list) p) [
    | inl l ↦ subst (λ (o : Option ℕ). is_zero o ≡ true) (sym (flags p ∙ flags_at_left list (one_more ∷ []) p l)) (so.all p l e)
    | inr m ↦
        let left_ = so.joins.left_ in
        let exact : n ≡ min item.length (most - span list) = omega arith in
        let q : m.0 < n = (let is = m.1 in omega (arith, is, low, spans)) in
        let was : has_bit 2 item.flags ≡ true =
        subst (λ (o : Option ℕ). is_zero o ≡ true) (walk_here told index (span list) most item so.joins.walks is n exact m.0 q) (subst (λ (r : ℕ). is_zero (flags_at told r) ≡ true) m.1 e) in
        let there : flags_at list' p ≡ Some (bit_and item.flags 2) = flags p ∙ ap (λ (r : ℕ). flags_at (list ++ one_more ∷ []) r) m.1 ∙ flags_at_right list (one_more ∷ []) m.0 ∙ one_at n (bit_and item.flags 2) m.0 q in
        subst (λ (o : Option ℕ). is_zero o ≡ true) (sym there) (same_flag item.flags ∙ was)
  ]

  pub all_on : Joins told list' (index + 1) (left - n) most → AreJoined list' → JoinsAll told list' (index + 1) (left - n) most
  all_on joins joined = record { joins = joins; joined = joined; one = still_one; all = still_all }

-- Where all that was told is passed, no position behind it is told, as far as positions are asked for.
pub past_none : (told : List Extent) (index reached most p : ℕ) → Walks told index reached most → drop index told ≡ [] → reached ≤ p → p < most → flags_at told p ≡ None
past_none told index reached most p walks none from low =
    ap (flags_at told) (let e : p ≡ reached + (p - reached) = omega arith in e) ∙ walks.rest (omega arith) (p - reached) ∙ ap (λ (l : List Extent). flags_at l (p - reached)) none

pub all_joined : (told list : List Extent) (index left most : ℕ) → JoinsAll told list index left most → drop index told ≡ [] → (p : ℕ) → p < most → is_zero (flags_at told p) ≡ true → is_zero (flags_at list p) ≡ true
all_joined told list index left most so none p low e = elim (cases_lt p (span list)) [
  | inl l ↦ so.all p l e
  | inr h ↦ absurd (false≢true (subst (λ (o : Option ℕ). is_zero o ≡ true) (past_none told index (span list) most p so.joins.walks none h low) e))
]

-- What is held as zero.

-- The blocks are held that lie in what was passed and were told as zero whole.
pub record HoldsWhole (told : List Extent) (now : List (ℕ × ℕ)) (from block index reached most : ℕ) : Type 0 where
  pub walks : Walks told index reached most
  pub joined : AreJoined (drop index told)
  pub differs : 0 < reached → reached < most → (flags : ℕ) → flags_at told (reached - 1) ≡ Some flags → StartsOtherwise flags (drop index told)
  pub whole : (p : ℕ) → whole_within block (from, most) told p ≡ true → p / block * block + block ≤ from + reached → holds now p ≡ true

pub whole_begins : (told : List Extent) (now : List (ℕ × ℕ)) (from block most : ℕ) → 0 < block → AreJoined told → Walks told 0 0 most → HoldsWhole told now from block 0 0 most
whole_begins told now from block most some joined walks = record {
  walks = walks;
  joined = joined;
  differs = λ l. absurd (omega (arith, l));
  whole = λ p e ends.
      let b : (p / block * block) < p / block * block + block = omega (arith, some) in
      let first = all_elim (zero_within (from, most) told) (p / block * block) block e (p / block * block) (omega arith) b in
      let low : from ≤ p / block * block = leb-true from (p / block * block) (and_left (nat_le from (p / block * block)) _ (and_left (within (from, most) (p / block * block)) _ first)) in
      absurd (omega (arith, low, ends, some));
}

-- a position of a block that was told as zero whole is one of the range, and its flags are those of zero
pub record IsTold (told : List Extent) (from most q : ℕ) : Type 0 where
  pub low : from ≤ q
  pub high : q < from + most
  pub zero : is_zero (flags_at told (q - from)) ≡ true

pub told_at : (told : List Extent) (from most q : ℕ) → zero_within (from, most) told q ≡ true → IsTold told from most q
told_at told from most q e =
    let inside = and_left (within (from, most) q) (zero_in from told q) e in
    record {
      low = leb-true from q (and_left (nat_le from q) _ inside);
      high = ltb-true q (from + most) (and_right (nat_le from q) _ inside);
      zero = and_right (nat_le from q) _ (and_right (within (from, most) q) (zero_in from told q) e);
    }

pub at_block : (told : List Extent) (from most block p q : ℕ) → whole_within block (from, most) told p ≡ true → p / block * block ≤ q → q < p / block * block + block → IsTold told from most q
at_block told from most block p q e low high = told_at told from most q (all_elim (zero_within (from, most) told) (p / block * block) block e q low high)

has_flags : (o : Option ℕ) → is_zero o ≡ true → (flags : ℕ) × (o ≡ Some flags) × (has_bit 2 flags ≡ true)
has_flags None e = absurd (false≢true e)
has_flags (Some flags) e = (flags, refl, e)

module _ (told : List Extent) (now now' : List (ℕ × ℕ)) (from block index reached most n : ℕ) (item : Extent) (some : 0 < block) (one : HaveOneFlag told) (so : HoldsWhole told now from block index reached most)
    (is : drop index told ≡ item ∷ drop (index + 1) told) (as_many : n ≡ min item.length (most - reached)) (kept : (p : ℕ) → holds now p ≡ true → holds now' p ≡ true)
    (held : has_bit 2 item.flags ≡ true → (p : ℕ) → IsInside block (from + reached) n p → holds now' p ≡ true) where
  here : (q : ℕ) → q < n → flags_at told (reached + q) ≡ Some item.flags
  here q low = walk_here told index reached most item so.walks is n as_many q low

  next_joined : (0 < item.length) × StartsOtherwise item.flags (drop (index + 1) told) × AreJoined (drop (index + 1) told)
  next_joined = subst AreJoined is so.joined

  pub whole_on : HoldsWhole told now' from block (index + 1) (reached + n) most
  whole_on = record { walks = walk_on told index reached most item so.walks is n as_many; joined = next_joined.2; differs = differs; whole = whole }
    where
      differs : 0 < reached + n → reached + n < most → (flags : ℕ) → flags_at told (reached + n - 1) ≡ Some flags → StartsOtherwise flags (drop (index + 1) told)
      differs l more flags e =
          let long = next_joined.0 in
          let last : reached + n - 1 ≡ reached + (n - 1) = omega arith in
          let same : item.flags ≡ flags = some_same item.flags flags (sym (here (n - 1) (omega arith)) ∙ ap (flags_at told) (sym last) ∙ e) in
          subst (λ (f : ℕ). StartsOtherwise f (drop (index + 1) told)) same next_joined.1

      -- the block ends in this extent
      ends_here : (p : ℕ) → whole_within block (from, most) told p ≡ true → p / block * block + block ≤ from + (reached + n) → from + reached < p / block * block + block → holds now' p ≡ true
      ends_here p e ends more =
          let last = at_block told from most block p (p / block * block + block - 1) e (omega (arith, some)) (omega (arith, some)) in
          let place : p / block * block + block - 1 - from ≡ reached + (p / block * block + block - 1 - from - reached) = omega (arith, more) in
          let flag : has_bit 2 item.flags ≡ true =
          subst (λ (o : Option ℕ). is_zero o ≡ true) (here (p / block * block + block - 1 - from - reached) (omega (arith, more, ends))) (subst (λ (q : ℕ). is_zero (flags_at told q) ≡ true) place last.zero) in
          elim (cases_lt (p / block * block) (from + reached)) [
            | inl before ↦
                let prior = at_block told from most block p (from + reached - 1) e (omega (arith, before)) (omega (arith, more, before)) in
                let first = at_block told from most block p (p / block * block) e (omega arith) (omega (arith, some)) in
                let low = first.low in
                let l : 0 < reached = omega (arith, low, before) in
                let at : from + reached - 1 - from ≡ reached - 1 = omega (arith, l) in
                let f = has_flags (flags_at told (reached - 1)) (subst (λ (q : ℕ). is_zero (flags_at told q) ≡ true) at prior.zero) in
                let two : f.0 ≡ 2 = zero_flag f.0 (one (reached - 1) f.0 f.1) f.2 in
                let some_here : 0 < n = omega (arith, more, ends) in
                let two' : item.flags ≡ 2 = zero_flag item.flags (one (reached + 0) item.flags (here 0 some_here)) flag in
                let other : f.0 ≢ item.flags = subst (StartsOtherwise f.0) is (so.differs l (omega (arith, as_many, some_here)) f.0 f.1) in
                absurd (other (two ∙ sym two'))
            | inr behind ↦ held flag p (record { begins = behind; ends = omega (arith, ends) })
          ]

      whole : (p : ℕ) → whole_within block (from, most) told p ≡ true → p / block * block + block ≤ from + (reached + n) → holds now' p ≡ true
      whole p e ends = elim (cases_lt (from + reached) (p / block * block + block)) [ inl more ↦ ends_here p e ends more | inr less ↦ kept p (so.whole p e less) ]

-- At the end each block is held that was told as zero whole.
pub whole_held : (told : List Extent) (now : List (ℕ × ℕ)) (from block index reached most : ℕ) → 0 < block → HoldsWhole told now from block index reached most → drop index told ≡ [] →
    (p : ℕ) → whole_within block (from, most) told p ≡ true → holds now p ≡ true
whole_held told now from block index reached most some so none p e = elim (cases_lt (from + reached) (p / block * block + block)) [
  | inl more ↦
      let last = at_block told from most block p (p / block * block + block - 1) e (omega (arith, some)) (omega (arith, some)) in
      let low = last.low in
      let high = last.high in
      let gone = past_none told index reached most (p / block * block + block - 1 - from) so.walks none (omega (arith, more)) (omega (arith, low, high)) in
      absurd (false≢true (subst (λ (o : Option ℕ). is_zero o ≡ true) gone last.zero))
  | inr less ↦ so.whole p e less
]

-- Windows.

ends_up : (start : ℕ) (parts : List Window) → start ≤ windows_end start parts
ends_up start [] = omega arith
ends_up start (v ∷ parts) = let up = ends_up (start + v.count) parts in omega (arith, up)

told_before : (start : ℕ) (parts : List Window) (w : Window) (p : ℕ) → p < windows_end start parts → told_by start parts p ≡ true → told_by start (parts ++ w ∷ []) p ≡ true
told_before start [] w p low e = absurd (false≢true e)
told_before start (v ∷ parts) w p low e =
    elim (nat_lt p (start + v.count))
    as (λ b. (if b then v.told p else told_by (start + v.count) parts p) ≡ true → (if b then v.told p else told_by (start + v.count) (parts ++ w ∷ []) p) ≡ true)
    [ true ↦ λ k. k | false ↦ λ k. told_before (start + v.count) parts w p low k ] e

told_last : (start : ℕ) (parts : List Window) (w : Window) (p : ℕ) → windows_end start parts ≤ p → p < windows_end start parts + w.count → w.told p ≡ true → told_by start (parts ++ w ∷ []) p ≡ true
told_last start [] w p low high e = let test : nat_lt p (start + w.count) ≡ true = grind (arith, common_steps) in ap (λ (b : Bool). if b then w.told p else false) test ∙ e
told_last start (v ∷ parts) w p low high e =
    let up = ends_up (start + v.count) parts in
    let test : nat_lt p (start + v.count) ≡ false = grind (arith, common_steps) in
    ap (λ (b : Bool). if b then v.told p else told_by (start + v.count) (parts ++ w ∷ []) p) test ∙ told_last (start + v.count) parts w p low high e

-- What was heard of the range that was wanted.

module _ (windows : Seen) (start end block : ℕ) (told list : List Extent) (now : List (ℕ × ℕ)) (begins : windows.plan.end ≡ start) (ahead : start ≤ windows.at) (ends : end ≡ min (start + window) windows.size) (left : windows.at < end) (some : 0 < block)
    (joins : (p : ℕ) → p < end - windows.at → is_zero (flags_at told p) ≡ true → is_zero (flags_at list p) ≡ true)
    (kept : (p : ℕ) → holds windows.zero p ≡ true → holds now p ≡ true) (holding : (p : ℕ) → whole_within block (windows.at, end - windows.at) list p ≡ true → holds now p ≡ true) where
  wanted_is : wanted windows ≡ Some (windows.at, end - windows.at)
  wanted_is =
      let same : window_end windows ≡ end = ap (λ (e : ℕ). min (e + window) windows.size) begins ∙ sym ends in
      let test : nat_lt windows.at end ≡ true = grind (arith, common_steps) in
      ap (λ (e : ℕ). if nat_lt windows.at e then Some (windows.at, e - windows.at) else None) same ∙ ap (λ (b : Bool). if b then Some (windows.at, end - windows.at) else None) test

  -- a block that was told as zero whole lies in the range, and is held
  pub record IsHeard (p : ℕ) : Type 0 where
    pub low : windows.at ≤ p
    pub high : p < end
    pub zero : holds now p ≡ true

  heard_is : (p : ℕ) → whole_heard block (wanted windows) told p ≡ true → IsHeard p
  heard_is p e =
      let here : whole_within block (windows.at, end - windows.at) told p ≡ true = subst (λ (r : Option (ℕ × ℕ)). whole_heard block r told p ≡ true) wanted_is e in
      let from : p / block * block ≤ p = div-mul-le_self p block in
      let to : p < p / block * block + block = lt-div-mul-add some in
      let at = at_block told windows.at (end - windows.at) block p p here from to in
      let high = at.high in
      record {
        low = at.low;
        high = omega (arith, high, left);
        zero = holding p (all_intro (zero_within (windows.at, end - windows.at) list) (p / block * block) block (λ q l h.
            let t = at_block told windows.at (end - windows.at) block p q here l h in
            let tl = t.low in
            let th = t.high in
            let le : nat_le windows.at q ≡ true = grind (arith, common_steps) in
            let lt : nat_lt q (windows.at + (end - windows.at)) ≡ true = grind (arith, common_steps) in
            both_true (within (windows.at, end - windows.at) q) (zero_in windows.at list q) (both_true (nat_le windows.at q) (nat_lt q (windows.at + (end - windows.at))) le lt)
            (both_true (nat_le windows.at q) (is_zero (flags_at list (q - windows.at))) le (joins (q - windows.at) (omega (arith, tl, th)) t.zero))));
      }

  same_end : (new : Seen) → new.plan ≡ windows.plan → new.size ≡ windows.size → window_end new ≡ end
  same_end new is size = ap (λ (p : Planned). min (p.end + window) new.size) is ∙ ap (λ (n : ℕ). min (windows.plan.end + window) n) size ∙ ap (λ (e : ℕ). min (e + window) windows.size) begins ∙ sym ends

  at_end : window_end windows ≡ end
  at_end = ap (λ (e : ℕ). min (e + window) windows.size) begins ∙ sym ends

  -- a part of the window was told
  pub spared_partly : (new : Seen) → new.plan ≡ windows.plan → new.size ≡ windows.size → new.zero ≡ now → (whole : ℕ → Bool) (slices : List Slice) → IsSpared windows whole slices → IsSpared new (λ p. whole p || whole_heard block (wanted windows) told p) slices
  spared_partly new is size held whole slices spared = record {
    parts = spared.parts;
    are = subst (λ (p : Planned). slices ++ p.slices ≡ windows_slices p.cells 0 spared.parts) (sym is) spared.are;
    end = spared.end ∙ sym (ap (λ (p : Planned). p.end) is);
    planned = λ p e low.
        let low' : p < windows.plan.end = subst (λ (x : Planned). p < x.end) is low in
        elim (or_cases (whole p) (whole_heard block (wanted windows) told p) e) [ inl was ↦ spared.planned p was low' | inr h ↦ (let k = (heard_is p h).low in absurd (omega (arith, k, ahead, begins, low'))) ];
    under_way = λ p e low.
        let low' : windows.plan.end ≤ p = subst (λ (x : Planned). x.end ≤ p) is low in
        subst (λ (r : List (ℕ × ℕ)). holds r p ≡ true) (sym held)
        (elim (or_cases (whole p) (whole_heard block (wanted windows) told p) e) [ inl was ↦ kept p (spared.under_way p was low') | inr h ↦ (heard_is p h).zero ]);
    inside = λ p e. subst (λ (n : ℕ). p < n) (sym (same_end new is size))
        (elim (or_cases (whole p) (whole_heard block (wanted windows) told p) e) [ inl was ↦ subst (λ (n : ℕ). p < n) at_end (spared.inside p was) | inr h ↦ (heard_is p h).high ]);
  }

  -- all of it was, and it is planned
  pub spared_wholly : (new : Seen) (n : ℕ) → new.plan ≡ record windows.plan { end = start + n; slices = windows.plan.slices ++ window_slices windows.plan.cells (holds now) start n } → start + n ≡ end → start + n ≤ new.size →
      (whole : ℕ → Bool) (slices : List Slice) → IsSpared windows whole slices → IsSpared new (λ p. whole p || whole_heard block (wanted windows) told p) slices
  spared_wholly new n is last fits whole slices spared =
      let w : Window = record { count = n; told = holds now } in
      let from = spared.end ∙ begins in
      let ends_at : new.plan.end ≡ end = ap (λ (x : Planned). x.end) is ∙ last in
      record {
        parts = spared.parts ++ w ∷ [];
        are = subst (λ (p : Planned). slices ++ p.slices ≡ windows_slices p.cells 0 (spared.parts ++ w ∷ [])) (sym is)
            (sym (append_assoc slices windows.plan.slices _)
            ∙ ap (λ (l : List Slice). l ++ window_slices windows.plan.cells (holds now) start n) spared.are
            ∙ ap (λ (e : ℕ). windows_slices windows.plan.cells 0 spared.parts ++ window_slices windows.plan.cells (holds now) e n) (sym from)
            ∙ sym (slices_behind windows.plan.cells 0 spared.parts w));
        end = end_behind 0 spared.parts w ∙ ap (λ (e : ℕ). e + n) from ∙ sym (ap (λ (p : Planned). p.end) is);
        planned = λ p e low. told_all p e;
        under_way = λ p e low. (let high = under p e in absurd (omega (arith, low, ends_at, high)));
        inside = λ p e. (let high = under p e in let room : new.plan.end ≤ window_end new = omega (arith, fits, ends_at, last) in omega (arith, high, ends_at, room));
      }
    where
      under : (p : ℕ) → whole p || whole_heard block (wanted windows) told p ≡ true → p < end
      under p e = elim (or_cases (whole p) (whole_heard block (wanted windows) told p) e) [ inl was ↦ subst (λ (n : ℕ). p < n) at_end (spared.inside p was) | inr h ↦ (heard_is p h).high ]

      -- in the window that is planned
      told_now : (p : ℕ) → start ≤ p → p < end → holds now p ≡ true → told_by 0 (spared.parts ++ record { count = n; told = holds now } ∷ []) p ≡ true
      told_now p low high zeroed =
          let from = spared.end ∙ begins in
          told_last 0 spared.parts (record { count = n; told = holds now }) p (omega (arith, from, low)) (omega (arith, from, last, high)) zeroed

      told_all : (p : ℕ) → whole p || whole_heard block (wanted windows) told p ≡ true → told_by 0 (spared.parts ++ record { count = n; told = holds now } ∷ []) p ≡ true
      told_all p e = elim (or_cases (whole p) (whole_heard block (wanted windows) told p) e) [
        | inl was ↦ elim (cases_lt p windows.plan.end) [
          | inl low ↦ (let at = spared.end in told_before 0 spared.parts (record { count = n; told = holds now }) p (omega (arith, at, low)) (spared.planned p was low))
          | inr high ↦ told_now p (omega (arith, high, begins)) (subst (λ (n : ℕ). p < n) at_end (spared.inside p was)) (kept p (spared.under_way p was high))
        ]
        | inr h ↦ (let heard = heard_is p h in let low = heard.low in told_now p (omega (arith, low, ahead)) heard.high heard.zero)
      ]

-- Before any is known each is spared.
pub spared_none : (windows : Seen) (blank whole : ℕ → Bool) (slices : List Slice) → ((p : ℕ) → whole p ≡ false) → IsPlanned windows blank slices → IsSpared windows whole slices
spared_none windows blank whole slices unknown planned = record {
  parts = planned.parts;
  are = planned.are;
  end = planned.end;
  planned = λ p e. absurd (false≢true (sym (unknown p) ∙ e));
  under_way = λ p e. absurd (false≢true (sym (unknown p) ∙ e));
  inside = λ p e. absurd (false≢true (sym (unknown p) ∙ e));
}
