-- Laws of positions: what is said of the ranges is said of each position.
use Rattle.std.proofs.Common.{◌≡◌, ℕ, ◌+◌, ◌<◌, ◌≤◌, List, [], ◌∷◌, Bool, true, false, ◌&&◌, ◌||◌, refl, sym, subst, ◌∙◌, arith, inl, inr, zero, suc, ◌↔◌, ap}
use Rattle.std.proofs.lemmas.Grind.{common_steps}
use Rattle.lnbd_extents.specs.Positions.{within, holds, any_at, all_at}
use Rattle.lnbd_extents.specs.Spots.{crosses, meets, covers}
use Rattle.lnbd_extents.specs.Ranges.{IsFrom}
use Rattle.lnbd_extents.proofs.RangeLaws.{or_left, or_right, same_or_less, less_or_le}

-- at each of the positions alike
pub any_alike : (f g : ℕ → Bool) (s n : ℕ) → ((p : ℕ) → s ≤ p → p < s + n → f p ≡ g p) → any_at f s n ≡ any_at g s n
any_alike f g s zero e = refl
any_alike f g s (suc n) e = let h : f s ≡ g s = e s (omega arith) (omega arith) in let i = any_alike f g (s + 1) n (λ p a b. e p (omega arith) (omega arith)) in cc

pub all_alike : (f g : ℕ → Bool) (s n : ℕ) → ((p : ℕ) → s ≤ p → p < s + n → f p ≡ g p) → all_at f s n ≡ all_at g s n
all_alike f g s zero e = refl
all_alike f g s (suc n) e = let h : f s ≡ g s = e s (omega arith) (omega arith) in let i = all_alike f g (s + 1) n (λ p a b. e p (omega arith) (omega arith)) in cc

-- all of them, said of each
pub all_intro : (f : ℕ → Bool) (s n : ℕ) → ((p : ℕ) → s ≤ p → p < s + n → f p ≡ true) → all_at f s n ≡ true
all_intro f s zero e = refl
all_intro f s (suc n) e = let h : f s ≡ true = e s (omega arith) (omega arith) in let i = all_intro f (s + 1) n (λ p a b. e p (omega arith) (omega arith)) in rw (h, i) refl

and_left : (a b : Bool) → a && b ≡ true → a ≡ true
and_left true b e = refl
and_left false b e = absurd (cc (e))

and_right : (a b : Bool) → a && b ≡ true → b ≡ true
and_right true b e = e
and_right false b e = absurd (cc (e))

pub all_elim : (f : ℕ → Bool) (s n : ℕ) → all_at f s n ≡ true → (p : ℕ) → s ≤ p → p < s + n → f p ≡ true
all_elim f s zero e p a b = absurd (omega arith)
all_elim f s (suc n) e p a b = elim (same_or_less s p a) [
  | inl same ↦ subst (λ q. f q ≡ true) same (and_left (f s) (all_at f (s + 1) n) e)
  | inr less ↦ all_elim f (s + 1) n (and_right (f s) (all_at f (s + 1) n) e) p (omega arith) (omega arith)
]

or_first : (x y : Bool) → x ≡ true → x || y ≡ true
or_first true y e = refl
or_first false y e = absurd (cc (e))

or_second : (x y : Bool) → y ≡ true → x || y ≡ true
or_second true y e = refl
or_second false y e = e

pub any_intro : (f : ℕ → Bool) (s n p : ℕ) → s ≤ p → p < s + n → f p ≡ true → any_at f s n ≡ true
any_intro f s zero p a b e = absurd (omega arith)
any_intro f s (suc n) p a b e = elim (same_or_less s p a) [
  | inl same ↦ or_first (f s) (any_at f (s + 1) n) (subst (λ q. f q ≡ true) (sym same) e)
  | inr less ↦ or_second (f s) (any_at f (s + 1) n) (any_intro f (s + 1) n p (omega arith) (omega arith) e)
]

pub any_none : (f : ℕ → Bool) (s n : ℕ) → any_at f s n ≡ false → (p : ℕ) → s ≤ p → p < s + n → f p ≡ false
any_none f s zero e p a b = absurd (omega arith)
any_none f s (suc n) e p a b = elim (same_or_less s p a) [
  | inl same ↦ subst (λ q. f q ≡ false) same (or_left (f s) (any_at f (s + 1) n) e)
  | inr less ↦ any_none f (s + 1) n (or_right (f s) (any_at f (s + 1) n) e) p (omega arith) (omega arith)
]

-- of two tests
pub any_or : (f g : ℕ → Bool) (s n : ℕ) → any_at (λ p. f p || g p) s n ≡ any_at f s n || any_at g s n
any_or f g s zero = refl
any_or f g s (suc n) = let i = any_or f g (s + 1) n in grind (arith, common_steps)

any_false : (s n : ℕ) → any_at (λ p. false) s n ≡ false
any_false s zero = refl
any_false s (suc n) = any_false (s + 1) n

-- One of the positions lies in a range exactly where the two have a position in common.
pub any_within : (r : ℕ × ℕ) (s n : ℕ) → 0 < r.1 → any_at (within r) s (suc n) ≡ crosses s (suc n) r
any_within r s zero h = grind (arith, common_steps)
any_within r s (suc n) h = let i = any_within r (s + 1) n h in grind (arith, common_steps)

-- Some of the positions is held exactly where the ranges say so.
pub meets-positions : (m s n : ℕ) (rs : List (ℕ × ℕ)) → IsFrom m rs → 0 < n → any_at (holds rs) s n ≡ meets s n rs
meets-positions m s zero rs f h = absurd (omega arith)
meets-positions m s (suc n) [] f h = any_false s (suc n)
meets-positions m s (suc n) (r ∷ rs) f h = any_or (within r) (holds rs) s (suc n) ∙ rw (any_within r s n f.1, meets-positions (r.0 + r.1 + 1) s (suc n) rs f.2 h) refl

-- what is below the first range is not held
pub holds_none : (m p : ℕ) (rs : List (ℕ × ℕ)) → IsFrom m rs → p < m → holds rs p ≡ false
holds_none m p [] f l = refl
holds_none m p (r ∷ rs) f l = let low = f.0 in let i = holds_none (r.0 + r.1 + 1) p rs f.2 (omega arith) in grind (arith, common_steps)

covers_all : (m s n p : ℕ) (rs : List (ℕ × ℕ)) → covers s n rs ≡ true → s ≤ p → p < s + n → holds rs p ≡ true
covers_all m s n p [] e a b = absurd (cc (e))
covers_all m s n p (r ∷ rs) e a b = let i : covers s n rs ≡ true → holds rs p ≡ true = λ h. covers_all m s n p rs h a b in grind (arith, common_steps, i)

all_covers : (m s n : ℕ) (rs : List (ℕ × ℕ)) → IsFrom m rs → 0 < n → ((p : ℕ) → s ≤ p → p < s + n → holds rs p ≡ true) → covers s n rs ≡ true
all_covers m s n [] f h e = absurd (let k : false ≡ true = e s (omega arith) (omega arith) in cc)
all_covers m s n (r ∷ rs) f h e = elim (less_or_le s r.0) [
  | inl x ↦ absurd (let k : false ≡ true = sym (holds_none r.0 s (r ∷ rs) (omega arith, f.1, f.2) x) ∙ e s (omega arith) (omega arith) in cc)
  | inr x ↦ elim (less_or_le s (r.0 + r.1)) [
    | inl y ↦ elim (less_or_le (r.0 + r.1) (s + n)) [
      | inl z ↦ absurd (let k : within r (r.0 + r.1) || holds rs (r.0 + r.1) ≡ true = e (r.0 + r.1) (omega arith) z in
          let no : holds rs (r.0 + r.1) ≡ false = holds_none (r.0 + r.1 + 1) (r.0 + r.1) rs f.2 (omega arith) in grind (arith, common_steps))
      | inr z ↦ or_first _ (covers s n rs) (grind (arith, common_steps))
    ]
    | inr y ↦ or_second _ (covers s n rs) (all_covers (r.0 + r.1 + 1) s n rs f.2 h (λ p a b. let k : within r p || holds rs p ≡ true = e p a b in grind (arith, common_steps)))
  ]
]

no_all : (b : Bool) → (b ≡ true → false ≡ true) → b ≡ false
no_all true h = sym (h refl)
no_all false h = refl

-- All the positions are held exactly where one of the ranges has them.
pub covers-positions : (m s n : ℕ) (rs : List (ℕ × ℕ)) → IsFrom m rs → 0 < n → all_at (holds rs) s n ≡ covers s n rs
covers-positions m s n rs f h = elim (covers s n rs) as (λ t. covers s n rs ≡ t → all_at (holds rs) s n ≡ t) [
  | true ↦ (λ e. all_intro (holds rs) s n (λ p a b. covers_all m s n p rs e a b))
  | false ↦ (λ e. no_all (all_at (holds rs) s n) (λ y. let k : false ≡ true = sym e ∙ all_covers m s n rs f h (all_elim (holds rs) s n y) in cc))
] refl

-- all of a span is each of its positions, and some of it is one of them
pub all_each : (f : ℕ → Bool) (s n : ℕ) → (all_at f s n ≡ true) ↔ ((p : ℕ) → s ≤ p → p < s + n → f p ≡ true)
all_each f s n = (all_elim f s n, all_intro f s n)

pub any_elim : (f : ℕ → Bool) (s n : ℕ) → any_at f s n ≡ true → (p : ℕ) × (s ≤ p) × (p < s + n) × (f p ≡ true)
any_elim f s zero e = absurd (cc (e))
any_elim f s (suc n) e = go (f s) refl (λ h. any_elim f (s + 1) n h)
  where
    go : (b : Bool) → f s ≡ b → (any_at f (s + 1) n ≡ true → (p : ℕ) × (s + 1 ≤ p) × (p < s + 1 + n) × (f p ≡ true)) → (p : ℕ) × (s ≤ p) × (p < s + suc n) × (f p ≡ true)
    go true w ih = (s, omega arith, omega arith, w)
    go false w ih =
        let rest : any_at f (s + 1) n ≡ true = ap (λ b. b || any_at f (s + 1) n) (sym w) ∙ e in
        let r = ih rest in
        (r.0, omega (arith, r.1), omega (arith, r.2), r.3)

pub any_one : (f : ℕ → Bool) (s n : ℕ) → (any_at f s n ≡ true) ↔ ((p : ℕ) × (s ≤ p) × (p < s + n) × (f p ≡ true))
any_one f s n = (any_elim f s n, λ one. any_intro f s n one.0 one.1 one.2 one.3)
