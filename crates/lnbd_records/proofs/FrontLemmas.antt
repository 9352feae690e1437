-- What stands at the front of some bytes is one thing.
use Rattle.std.proofs.Common.{◌≡◌, ℕ, zero, suc, ◌≤◌, List, [], ◌∷◌, length, inl, inr, refl, sym, ap, subst, ◌∙◌, arith}
use Rattle.lnbd_records.specs.Numbers.{Field, number, IsRow, Begins, widths, total, number_at, fields_at}
use Rattle.lnbd_records.specs.Fronts.{Front, Whole, Short, Other, IsShort, HasOther, IsFront}
use Rattle.lnbd_records.proofs.NumberLaws.{begins_read, first_of}

-- These fields are those of a record with this magic and size, whose widths are ws.
pub record IsHead (T : Type 0) (fields : T → List Field) (width magic size : ℕ) (ws : List ℕ) : Type 0 where
  pub first : (head : T) → (others : List Field) × (fields head ≡ number width magic ∷ others)
  pub wide : (head : T) → widths (fields head) ≡ ws
  pub whole : total ws ≡ size
  pub back : List Field → T
  pub undone : (head : T) → back (fields head) ≡ head

-- what is there where a record begins
record There (width magic size : ℕ) (bytes : List ℕ) : Type 0 where
  four : width ≤ length bytes
  number_is : number_at 0 width bytes ≡ magic
  long : size ≤ length bytes

there_of : {T : Type 0} (fields : T → List Field) (width magic size : ℕ) (ws : List ℕ) → IsHead T fields width magic size ws → (bytes : List ℕ) (head : T) → Begins (IsRow (fields head)) bytes → There width magic size bytes
there_of fields width magic size ws k bytes head b =
    let first = k.first head in
    let P : List Field → Type 0 = λ fs. Begins (IsRow fs) bytes in
    let f = first_of width magic first.0 bytes (subst P first.1 b) in
    let r = begins_read (fields head) bytes b in
    let size_is : total (widths (fields head)) ≡ size = ap total (k.wide head) ∙ k.whole in
    record { four = f.0; number_is = f.1; long = omega (arith, r.long, size_is) }

short_there : (width magic size : ℕ) (bytes : List ℕ) → There width magic size bytes → IsShort width magic size bytes → ⊥
short_there width magic size bytes f h = elim h [ inl few ↦ omega (arith, f.four) | inr part ↦ omega (arith, f.long) ]

other_there : (width magic size m : ℕ) (bytes : List ℕ) → There width magic size bytes → HasOther width magic m bytes → ⊥
other_there width magic size m bytes f h = h.0 (sym (first_of width m [] bytes h.1).1 ∙ f.number_is)

other_short : (width magic size m : ℕ) (bytes : List ℕ) → IsShort width magic size bytes → HasOther width magic m bytes → ⊥
other_short width magic size m bytes s h =
    let f = first_of width m [] bytes h.1 in
    elim s [ inl few ↦ omega (arith, f.0) | inr part ↦ h.0 (sym f.1 ∙ (first_of width magic [] bytes part.0).1) ]

pub one_front : {T : Type 0} (fields : T → List Field) (width magic size : ℕ) (ws : List ℕ) → IsHead T fields width magic size ws → (bytes : List ℕ) (a b : Front T) → IsFront fields width magic size bytes a → IsFront fields width magic size bytes b → a ≡ b
one_front fields width magic size ws k bytes (Whole x) (Whole y) p q =
    let a = begins_read (fields x) bytes p in
    let b = begins_read (fields y) bytes q in
    let wide : widths (fields x) ≡ widths (fields y) = k.wide x ∙ sym (k.wide y) in
    ap Whole (sym (k.undone x) ∙ ap k.back (sym a.fields ∙ ap (λ (vs : List ℕ). fields_at 0 vs bytes) wide ∙ b.fields) ∙ k.undone y)
one_front fields width magic size ws k bytes (Whole x) Short p q = absurd (short_there width magic size bytes (there_of fields width magic size ws k bytes x p) q)
one_front fields width magic size ws k bytes (Whole x) (Other m) p q = absurd (other_there width magic size m bytes (there_of fields width magic size ws k bytes x p) q)
one_front fields width magic size ws k bytes Short (Whole y) p q = absurd (short_there width magic size bytes (there_of fields width magic size ws k bytes y q) p)
one_front fields width magic size ws k bytes Short Short p q = refl
one_front fields width magic size ws k bytes Short (Other m) p q = absurd (other_short width magic size m bytes p q)
one_front fields width magic size ws k bytes (Other n) (Whole y) p q = absurd (other_there width magic size n bytes (there_of fields width magic size ws k bytes y q) p)
one_front fields width magic size ws k bytes (Other n) Short p q = absurd (other_short width magic size n bytes q p)
one_front fields width magic size ws k bytes (Other n) (Other m) p q = ap Other (sym (first_of width n [] bytes p.1).1 ∙ (first_of width m [] bytes q.1).1)

-- the number in a field, to build records back
unfoldable pub number_of : Field → ℕ
number_of (number w x) = x

unfoldable pub nth : ℕ → List Field → ℕ
nth i [] = 0
nth zero (f ∷ fs) = number_of f
nth (suc i) (f ∷ fs) = nth i fs
