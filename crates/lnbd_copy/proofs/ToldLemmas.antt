-- No more of a copy's source was told of than is planned, but less than a block behind the place where asking goes on.
use Rattle.std.proofs.Common.{◌≡◌, ◌<◌, ◌≤◌, ℕ, ltb-true, leb-true, ◌+◌, ◌-◌, ◌||◌, Bool, true, false, List, [], ◌∷◌, Option, Some, None, refl, ap, sym, subst, ◌∙◌, inl, inr, arith, nat_lt, nat_le, if◌then◌else◌, min, drop}
use Rattle.std.proofs.lemmas.Bool.{cases_lt, false≢true}
use Rattle.std.proofs.lemmas.Grind.{common_steps}
use Rattle.lnbd_model.specs.declared.export.Extent.{Extent}
use Rattle.lnbd_extents.specs.Positions.{within}
use Rattle.lnbd_extents.specs.Lists.{flags_at, span}
use Rattle.lnbd_plan.specs.Plans.{Planned}
use Rattle.lnbd_tracks.specs.Saying.{is_told, said_in}
use Rattle.lnbd_copy.specs.Reached.{IsToldTo, told_heard, told_within}
use Rattle.lnbd_copy.specs.Windows.{Seen, wanted, window_end}
use Rattle.lnbd_conduct.specs.Slices.{window}
use Rattle.lnbd_copy.proofs.SparedLemmas.{JoinsAll, past_none}
use Rattle.lnbd_copy.proofs.WindowLemmas.{Walks, and_left, and_right, or_cases}

-- What extents reach.

-- Where all that was told is passed, each position that was told of is.
pub told_before : (told : List Extent) (index reached most : ℕ) → Walks told index reached most → drop index told ≡ [] → (p : ℕ) → p < most → is_told (flags_at told p) ≡ true → p < reached
told_before told index reached most walks none p low e = elim (cases_lt p reached) [
  | inl before ↦ before
  | inr behind ↦ absurd (false≢true (subst (λ (o : Option ℕ). is_told o ≡ true) (past_none told index reached most p walks none behind low) e))
]

told_inside : (list : List Extent) (p : ℕ) → p < span list → is_told (flags_at list p) ≡ true
told_inside [] p low = absurd (omega (arith, low))
told_inside (first ∷ others) p low =
    elim (nat_lt p first.length) as (λ b. nat_lt p first.length ≡ b → is_told (if b then Some first.flags else flags_at others (p - first.length)) ≡ true) [
      | true ↦ λ here. refl
      | false ↦ λ there. told_inside others (p - first.length) (grind (arith, common_steps))
    ] refl

told_below : (list : List Extent) (p : ℕ) → is_told (flags_at list p) ≡ true → p < span list
told_below [] p e = absurd (false≢true e)
told_below (first ∷ others) p e = elim (cases_lt p first.length) [
  | inl low ↦ omega (arith, low)
  | inr high ↦
      let test : nat_lt p first.length ≡ false = grind (arith, common_steps) in
      let rest = told_below others (p - first.length) (sym (ap (λ (b : Bool). is_told (if b then Some first.flags else flags_at others (p - first.length))) test) ∙ e) in
      omega (arith, rest, high)
]

-- So they tell of nothing else.
pub told_only : (told list : List Extent) (index left most : ℕ) → JoinsAll told list index left most → (p : ℕ) → is_told (flags_at list p) ≡ true → is_told (flags_at told p) ≡ true
told_only told list index left most so p e = so.joins.walks.all p (told_below list p e)

-- The extents that were joined tell of what was told.
pub told_joined : (told list : List Extent) (index left most : ℕ) → JoinsAll told list index left most → drop index told ≡ [] → (p : ℕ) → p < most → is_told (flags_at told p) ≡ true → is_told (flags_at list p) ≡ true
told_joined told list index left most so none p low e = told_inside list p (told_before told index (span list) most so.joins.walks none p low e)

-- Windows.

-- Nothing was told of.
pub told_none : (windows : Seen) (reach : ℕ → Bool) → ((p : ℕ) → reach p ≡ false) → IsToldTo windows reach
told_none windows reach none = record { near = λ p e. absurd (false≢true (sym (none p) ∙ e)); inside = λ p e. absurd (false≢true (sym (none p) ∙ e)) }

-- Slices were handed out.
pub told_handed : (plan plan' : Seen) (reach : ℕ → Bool) → plan' ≡ record plan { plan = record plan.plan { slices = plan'.plan.slices } } → IsToldTo plan reach → IsToldTo plan' reach
told_handed plan plan' reach others told = subst (λ (w : Seen). IsToldTo w reach) (sym others) (record { near = told.near; inside = told.inside })

-- No range is wanted.
pub told_still : (windows : Seen) (start end : ℕ) (list : List Extent) → windows.plan.end ≡ start → end ≡ min (start + window) windows.size → end ≤ windows.at → (reach : ℕ → Bool) → IsToldTo windows reach → IsToldTo windows (λ p. reach p || told_heard (wanted windows) list p)
told_still windows start end list begins ends past reach told = record { near = λ p e. told.near p (was p e); inside = λ p e. told.inside p (was p e) }
  where
    none : wanted windows ≡ None
    none =
        let same : window_end windows ≡ end = ap (λ (e : ℕ). min (e + window) windows.size) begins ∙ sym ends in
        let test : nat_lt windows.at end ≡ false = grind (arith, common_steps) in
        ap (λ (e : ℕ). if nat_lt windows.at e then Some (windows.at, e - windows.at) else None) same ∙ ap (λ (b : Bool). if b then Some (windows.at, end - windows.at) else None) test

    was : (p : ℕ) → (reach p || told_heard (wanted windows) list p) ≡ true → reach p ≡ true
    was p e = elim (or_cases (reach p) (told_heard (wanted windows) list p) e) [ inl k ↦ k | inr k ↦ absurd (false≢true (ap (λ (r : Option (ℕ × ℕ)). told_heard r list p) (sym none) ∙ k)) ]

-- What was told of the range that was wanted: so many bytes, by which so many are passed.
module _ (windows : Seen) (start end reached n : ℕ) (told list : List Extent) (begins : windows.plan.end ≡ start) (ahead : start ≤ windows.at) (ends : end ≡ min (start + window) windows.size) (left : windows.at < end)
    (joins : (p : ℕ) → p < end - windows.at → is_told (flags_at told p) ≡ true → is_told (flags_at list p) ≡ true) (far : (p : ℕ) → p < end - windows.at → is_told (flags_at list p) ≡ true → p < reached)
    (most : reached ≤ end - windows.at) (few : n ≤ end - windows.at) (whole : reached ≡ end - windows.at → n ≡ end - windows.at) (near : reached < n + windows.grain) where
  wanted_is : wanted windows ≡ Some (windows.at, end - windows.at)
  wanted_is =
      let same : window_end windows ≡ end = ap (λ (e : ℕ). min (e + window) windows.size) begins ∙ sym ends in
      let test : nat_lt windows.at end ≡ true = grind (arith, common_steps) in
      ap (λ (e : ℕ). if nat_lt windows.at e then Some (windows.at, e - windows.at) else None) same ∙ ap (λ (b : Bool). if b then Some (windows.at, end - windows.at) else None) test

  -- a position of the range that was told of
  record IsHere (p : ℕ) : Type 0 where
    low : windows.at ≤ p
    high : p < end
    reaches : p < windows.at + reached

  here : (p : ℕ) → told_heard (wanted windows) told p ≡ true → IsHere p
  here p e =
      let so : told_within (windows.at, end - windows.at) told p ≡ true = subst (λ (r : Option (ℕ × ℕ)). told_heard r told p ≡ true) wanted_is e in
      let inside = and_left (within (windows.at, end - windows.at) p) (said_in is_told windows.at told p) so in
      let low : windows.at ≤ p = leb-true windows.at p (and_left (nat_le windows.at p) _ inside) in
      let high : p < windows.at + (end - windows.at) = ltb-true p (windows.at + (end - windows.at)) (and_right (nat_le windows.at p) _ inside) in
      let flags = and_right (nat_le windows.at p) _ (and_right (within (windows.at, end - windows.at) p) (said_in is_told windows.at told p) so) in
      let under : p - windows.at < end - windows.at = omega (arith, low, high) in
      let before = far (p - windows.at) under (joins (p - windows.at) under flags) in
      record { low = low; high = omega (arith, high, left); reaches = omega (arith, before, low) }

  at_end : window_end windows ≡ end
  at_end = ap (λ (e : ℕ). min (e + window) windows.size) begins ∙ sym ends

  -- a part of the window was told
  pub told_partly : (new : Seen) → new.plan ≡ windows.plan → new.size ≡ windows.size → new.grain ≡ windows.grain → new.at ≡ windows.at + n → windows.at + n < end → (reach : ℕ → Bool) → IsToldTo windows reach → IsToldTo new (λ p. reach p || told_heard (wanted windows) told p)
  told_partly new is size grain at less reach was = record {
    near = λ p e behind. elim (or_cases (reach p) (told_heard (wanted windows) told p) e) [
      | inl k ↦ (let l = was.near p k (same_end p behind) in omega (arith, l, at, grain))
      | inr k ↦ (let h = here p k in let l = h.reaches in omega (arith, l, at, grain, near))
    ];
    inside = λ p e behind. elim (or_cases (reach p) (told_heard (wanted windows) told p) e) [
      | inl k ↦ (let l = was.inside p k (same_end p behind) in omega (arith, l, same_window))
      | inr k ↦ (let h = here p k in let l = h.reaches in let u = under in omega (arith, l, u, same_window, at_end, left))
    ];
  }
    where
      same_end : (p : ℕ) → new.plan.end ≤ p → windows.plan.end ≤ p
      same_end p behind = subst (λ (x : Planned). x.end ≤ p) is behind

      same_window : window_end new ≡ window_end windows
      same_window = ap (λ (x : Planned). min (x.end + window) new.size) is ∙ ap (λ (s : ℕ). min (windows.plan.end + window) s) size

      under : reached < end - windows.at
      under = elim (cases_lt reached (end - windows.at)) [
        | inl l ↦ l
        | inr all ↦ (let same : reached ≡ end - windows.at = omega (arith, all, most) in let n_all = whole same in absurd (omega (arith, n_all, less, left)))
      ]

  -- all of it was, and it is planned
  pub told_wholly : (new : Seen) → new.plan.end ≡ end → (reach : ℕ → Bool) → IsToldTo windows reach → IsToldTo new (λ p. reach p || told_heard (wanted windows) told p)
  told_wholly new planned reach was = record { near = λ p e behind. none p e behind; inside = λ p e behind. none p e behind }
    where
      before : (p : ℕ) → (reach p || told_heard (wanted windows) told p) ≡ true → p < end
      before p e = elim (or_cases (reach p) (told_heard (wanted windows) told p) e) [
        | inl k ↦ elim (cases_lt p windows.plan.end) [
          | inl low ↦ omega (arith, low, begins, ahead, left)
          | inr high ↦ (let l = was.inside p k high in omega (arith, l, at_end))
        ]
        | inr k ↦ (here p k).high
      ]

      none : {A : Type 0} (p : ℕ) → (reach p || told_heard (wanted windows) told p) ≡ true → new.plan.end ≤ p → A
      none p e behind = let l = before p e in absurd (omega (arith, l, behind, planned))
