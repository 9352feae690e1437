-- Spans: what is told after a change.
use Rattle.std.proofs.Common.{◌≡◌, ℕ, zero, suc, ◌+◌, ◌-◌, ◌*◌, ◌/◌, ◌<◌, ◌≤◌, Bool, true, false, not, ◌&&◌, ◌||◌, List, [], ◌∷◌, ◌++◌, Result, Ok, Err, length, take, get_or, if◌then◌else◌, refl, ap, sym, ◌∙◌, inl, inr, arith, slice_get, Some}
use Rattle.std.specs.Prelude.{OnOk, OnErr}
use Rattle.std.proofs.lemmas.Bool.{cases_lt}
use Rattle.std.proofs.lemmas.List.{take_more}
use Rattle.std.proofs.lemmas.Option.{get_or_from_slice_get}
use Rattle.lnbd_extents.specs.Positions.{within, holds}
use Rattle.lnbd_export.specs.declared.spans.Span.{Span}
use Rattle.lnbd_export.specs.Spans.{all_told, tells, tells_at, is_told_by}
use Rattle.lnbd_export.specs.Walks.{IsReach}
use Rattle.lnbd_export.specs.Edges.{is_told, differ}
use mathlib.Core.Bool.{beq}
use Rattle.lnbd_export.proofs.WalkLaws.{is_within, is_before, is_behind}

-- One span.

turned_over : (inverted flag told told' inside : Bool) → told' ≡ (if inside then not (beq flag inverted) else told) → differ inverted told' ≡ (if inside then flag else differ inverted told)
turned_over true true told told' true e = ap not e
turned_over true false told told' true e = ap not e
turned_over false true told told' true e = e
turned_over false false told told' true e = e
turned_over true flag told told' false e = ap not e
turned_over false flag told told' false e = e

pub tells_now : {T E : Type 0} (r : Result T E) (start n : ℕ) (flag : Bool) (old new : Span) → new.inverted ≡ old.inverted →
    OnOk r ((p : ℕ) → is_told new.edges p ≡ (if within (start, n) p then not (beq flag old.inverted) else is_told old.edges p)) →
    OnOk r ((p : ℕ) → tells new p ≡ (if within (start, n) p then flag else tells old p))
tells_now (Ok x) start n flag old new same ok = λ p. ap (λ (b : Bool). differ b (is_told new.edges p)) same ∙ turned_over old.inverted flag (is_told old.edges p) (is_told new.edges p) (within (start, n) p) (ok p)
tells_now (Err e) start n flag old new same ok = ok

pub reach_of_span : (span : Span) (at end until : ℕ) → IsReach (is_told span.edges) at end until → IsReach (tells span) at end until
reach_of_span span at end until is = record { some = is.some; within = is.within; alike = λ p low high. ap (differ span.inverted) (is.alike p low high) }

-- Up to where all is told alike, as a span shows, or as there is none.

pub reach_inside : (spans : List Span) (at end next until : ℕ) → next ≡ (at / 65536 + 1) * 65536 → next ≤ end → IsReach (tells (get_or spans (at / 65536) (all_told false))) at next until → IsReach (is_told_by spans) at end until
reach_inside spans at end next until is less reach =
    let within = reach.within in
    record {
      some = reach.some;
      within = omega arith;
      alike = λ p low high. let here : p / 65536 ≡ at / 65536 = omega arith in ap (λ (k : ℕ). tells_at spans k p) here ∙ reach.alike p low high;
    }

get_or_past : (spans : List Span) (k : ℕ) (d : Span) → length spans ≤ k → get_or spans k d ≡ d
get_or_past [] k d le = refl
get_or_past (x ∷ xs) (suc k) d le = get_or_past xs k d (omega arith)
get_or_past (x ∷ xs) zero d le = absurd (omega arith)

pub none_behind : (spans : List Span) (p : ℕ) → length spans ≤ p / 65536 → is_told_by spans p ≡ false
none_behind spans p le = ap (λ (s : Span). tells s p) (get_or_past spans (p / 65536) (all_told false) le)

pub reach_behind : (spans : List Span) (at end : ℕ) → at < end → length spans ≤ at / 65536 → IsReach (is_told_by spans) at end end
reach_behind spans at end some le = record {
  some = some;
  within = omega arith;
  alike = λ p low high. none_behind spans p (omega arith) ∙ sym (none_behind spans at le);
}

-- what all spans tell after a change of more than one: the first, the last, and those between them
pub told_across : (f front ended put new : ℕ → ℕ → Bool) (start n first last next begins : ℕ) (flag : Bool) → first ≡ start / 65536 → last ≡ (start + n - 1) / 65536 → first < last →
    next ≡ (first + 1) * 65536 → begins ≡ last * 65536 →
    ((p : ℕ) → front first p ≡ (if within (start, next - start) p then flag else f first p)) →
    ((p : ℕ) → ended last p ≡ (if within (begins, start + n - begins) p then flag else f last p)) →
    ((k p : ℕ) → (k ≡ last → ⊥) → ended k p ≡ f k p) →
    ((p : ℕ) → put first p ≡ front first p) → ((k p : ℕ) → (k ≡ first → ⊥) → put k p ≡ ended k p) →
    ((k p : ℕ) → new k p ≡ (if within (first + 1, last - (first + 1)) k then flag else put k p)) →
    (p : ℕ) → new (p / 65536) p ≡ (if within (start, n) p then flag else f (p / 65536) p)
told_across f front ended put new start n first last next begins flag first_is last_is across next_is begins_is in_front in_last in_others put_first put_others all p =
    elim (cases_lt (p / 65536) first) [
      | inl low ↦ outside (is_before (first + 1, last - (first + 1)) (p / 65536) (omega arith)) ∙ put_others (p / 65536) p (λ e. omega arith) ∙ in_others (p / 65536) p (λ e. omega arith)
          ∙ sym (not_within (is_before (start, n) p (omega arith)))
      | inr least ↦ elim (cases_lt first (p / 65536)) [
        | inr most ↦
            let here : p / 65536 ≡ first = omega arith in
            outside (is_before (first + 1, last - (first + 1)) (p / 65536) (omega arith)) ∙ ap (λ (k : ℕ). put k p) here ∙ put_first p ∙ in_front p
            ∙ ap (λ (k : ℕ). if within (start, next - start) p then flag else f k p) (sym here)
            ∙ ap (λ (b : Bool). if b then flag else f (p / 65536) p) (elim (cases_lt p start) [
              | inl before ↦ is_before (start, next - start) p before ∙ sym (is_before (start, n) p before)
              | inr from ↦ is_within (start, next - start) p from (omega arith) ∙ sym (is_within (start, n) p from (omega arith))
            ])
        | inl behind ↦ elim (cases_lt (p / 65536) last) [
          | inl between ↦ all (p / 65536) p ∙ ap (λ (b : Bool). if b then flag else put (p / 65536) p) (is_within (first + 1, last - (first + 1)) (p / 65536) (omega arith) (omega arith))
              ∙ sym (ap (λ (b : Bool). if b then flag else f (p / 65536) p) (is_within (start, n) p (omega arith) (omega arith)))
          | inr late ↦ elim (cases_lt last (p / 65536)) [
            | inl past ↦ outside (is_behind (first + 1, last - (first + 1)) (p / 65536) (omega arith)) ∙ put_others (p / 65536) p (λ e. omega arith) ∙ in_others (p / 65536) p (λ e. omega arith)
                ∙ sym (not_within (is_behind (start, n) p (omega arith)))
            | inr most ↦
                let here : p / 65536 ≡ last = omega arith in
                outside (is_behind (first + 1, last - (first + 1)) (p / 65536) (omega arith)) ∙ put_others (p / 65536) p (λ e. omega arith) ∙ ap (λ (k : ℕ). ended k p) here ∙ in_last p
                ∙ ap (λ (k : ℕ). if within (begins, start + n - begins) p then flag else f k p) (sym here)
                ∙ ap (λ (b : Bool). if b then flag else f (p / 65536) p) (elim (cases_lt p (start + n)) [
                  | inl before ↦ is_within (begins, start + n - begins) p (omega arith) (omega arith) ∙ sym (is_within (start, n) p (omega arith) before)
                  | inr from ↦ is_behind (begins, start + n - begins) p (omega arith) ∙ sym (is_behind (start, n) p from)
                ])
          ]
        ]
      ]
    ]
  where
    outside : within (first + 1, last - (first + 1)) (p / 65536) ≡ false → new (p / 65536) p ≡ put (p / 65536) p
    outside e = all (p / 65536) p ∙ ap (λ (b : Bool). if b then flag else put (p / 65536) p) e

    not_within : within (start, n) p ≡ false → (if within (start, n) p then flag else f (p / 65536) p) ≡ f (p / 65536) p
    not_within e = ap (λ (b : Bool). if b then flag else f (p / 65536) p) e

-- and of one span alone

told_inside : (old mid new : ℕ → ℕ → Bool) (start n first last : ℕ) (flag : Bool) → 0 < n → first ≡ start / 65536 → last ≡ (start + n - 1) / 65536 → first ≡ last → ((k p : ℕ) → mid k p ≡ old k p) →
    ((p : ℕ) → new first p ≡ (if within (start, n) p then flag else mid first p)) → ((k p : ℕ) → (k ≡ first → ⊥) → new k p ≡ mid k p) →
    (p : ℕ) → new (p / 65536) p ≡ (if within (start, n) p then flag else old (p / 65536) p)
told_inside old mid new start n first last flag some first_is last_is one same here others p = elim (cases_lt (p / 65536) first) [
  | inl low ↦ others (p / 65536) p (λ e. omega arith) ∙ same (p / 65536) p ∙ sym (ap (λ (b : Bool). if b then flag else old (p / 65536) p) (is_before (start, n) p (omega arith)))
  | inr least ↦ elim (cases_lt first (p / 65536)) [
    | inl high ↦ others (p / 65536) p (λ e. omega arith) ∙ same (p / 65536) p ∙ sym (ap (λ (b : Bool). if b then flag else old (p / 65536) p) (is_behind (start, n) p (omega arith)))
    | inr most ↦
        let there : p / 65536 ≡ first = omega arith in
        ap (λ (k : ℕ). new k p) there ∙ here p ∙ ap (λ (k : ℕ). if within (start, n) p then flag else mid k p) (sym there)
        ∙ ap (λ (b : Bool). if within (start, n) p then flag else b) (same (p / 65536) p)
  ]
]

-- by the answer of the call that changes them

pub told_in_one : {T E : Type 0} (r : Result T E) (old mid new : List Span) (start n first last : ℕ) (flag : Bool) → 0 < n → first ≡ start / 65536 → last ≡ (start + n - 1) / 65536 → first ≡ last →
    ((k p : ℕ) → tells_at mid k p ≡ tells_at old k p) → OnOk r ((p : ℕ) → tells_at new first p ≡ (if within (start, n) p then flag else tells_at mid first p)) →
    ((k p : ℕ) → (k ≡ first → ⊥) → tells_at new k p ≡ tells_at mid k p) →
    OnOk r ((p : ℕ) → is_told_by new p ≡ (if within (start, n) p then flag else is_told_by old p))
told_in_one (Ok x) old mid new start n first last flag some first_is last_is one same here others =
    told_inside (tells_at old) (tells_at mid) (tells_at new) start n first last flag some first_is last_is one same here others
told_in_one (Err e) old mid new start n first last flag some first_is last_is one same here others = here

pub kept_in_one : {T E : Type 0} (r : Result T E) (old mid new : List Span) → ((k p : ℕ) → tells_at mid k p ≡ tells_at old k p) → OnErr r ((k p : ℕ) → tells_at new k p ≡ tells_at mid k p) →
    OnErr r ((p : ℕ) → is_told_by new p ≡ is_told_by old p)
kept_in_one (Ok x) old mid new same kept = kept
kept_in_one (Err e) old mid new same kept = λ p. kept (p / 65536) p ∙ same (p / 65536) p

pub told_in_more : {T E : Type 0} (r : Result T E) (old mid new : List Span) (range : ℕ × ℕ) (flag : Bool) → ((k p : ℕ) → tells_at mid k p ≡ tells_at old k p) →
    OnOk r ((p : ℕ) → is_told_by new p ≡ (if within range p then flag else is_told_by mid p)) → OnOk r ((p : ℕ) → is_told_by new p ≡ (if within range p then flag else is_told_by old p))
told_in_more (Ok x) old mid new range flag same told = λ p. told p ∙ ap (λ (b : Bool). if within range p then flag else b) (same (p / 65536) p)
told_in_more (Err e) old mid new range flag same told = told

pub kept_in_more : {T E : Type 0} (r : Result T E) (old mid new : List Span) → ((k p : ℕ) → tells_at mid k p ≡ tells_at old k p) → OnErr r ((p : ℕ) → is_told_by new p ≡ is_told_by mid p) →
    OnErr r ((p : ℕ) → is_told_by new p ≡ is_told_by old p)
kept_in_more (Ok x) old mid new same kept = kept
kept_in_more (Err e) old mid new same kept = λ p. kept p ∙ same (p / 65536) p

-- The positions of ranges.

holds_more : (ranges : List (ℕ × ℕ)) (range : ℕ × ℕ) (p : ℕ) → holds (ranges ++ range ∷ []) p ≡ (if within range p then true else holds ranges p)
holds_more [] range p = go (within range p)
  where
    go : (b : Bool) → b || false ≡ (if b then true else false)
    go true = refl
    go false = refl
holds_more (first ∷ ranges) range p = ap (λ (b : Bool). within first p || b) (holds_more ranges range p) ∙ go (within first p) (within range p)
  where
    go : (a b : Bool) → a || (if b then true else holds ranges p) ≡ (if b then true else a || holds ranges p)
    go true true = refl
    go true false = refl
    go false true = refl
    go false false = refl

pub range_told : (ranges : List (ℕ × ℕ)) (i : ℕ) (range : ℕ × ℕ) (old new : ℕ → Bool) → slice_get ranges i ≡ Some range → i < length ranges → ((p : ℕ) → old p ≡ holds (take i ranges) p) →
    ((p : ℕ) → new p ≡ (if within range p then true else old p)) → (p : ℕ) → new p ≡ holds (take (i + 1) ranges) p
range_told ranges i range old new at l so_far told p =
    let is : get_or ranges i (0, 0) ≡ range = get_or_from_slice_get ranges i range (0, 0) at in
    let one : take (i + 1) ranges ≡ take i ranges ++ range ∷ [] = take_more ranges i (0, 0) l ∙ ap (λ (r : ℕ × ℕ). take i ranges ++ r ∷ []) is in
    told p ∙ ap (λ (b : Bool). if within range p then true else b) (so_far p) ∙ sym (ap (λ (rs : List (ℕ × ℕ)). holds rs p) one ∙ holds_more (take i ranges) range p)

-- Told as zero, or no more.

pub or_before : (inside told : Bool) → (if inside then true else told) ≡ inside || told
or_before true told = refl
or_before false told = refl

pub and_before : (inside told : Bool) → (if inside then false else told) ≡ not inside && told
and_before true told = refl
and_before false told = refl
