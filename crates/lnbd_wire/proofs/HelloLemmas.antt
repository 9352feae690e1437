-- A hello is read in one way.
use Rattle.std.proofs.Common.{◌≡◌, ◌≢◌, ◌↔◌, ℕ, ◌≤◌, List, [], ◌∷◌, length, inl, inr, refl, sym, ap, subst, ◌∙◌, arith}
use Rattle.lnbd_records.specs.Numbers.{Field, number, IsBytes, IsRow, Begins, number_at, fields_at}
use Rattle.lnbd_records.specs.Handshake.{init_magic, option_magic, hello}
use Rattle.lnbd_records.proofs.NumberLaws.{begins_read, read_begins, first_of}
use Rattle.lnbd_wire.specs.declared.hello.HelloRead.{HelloRead}
use Rattle.lnbd_wire.specs.declared.hello.HelloRead.TheVariants.{Value, NeedMore, BadFirst, BadSecond}
use Rattle.lnbd_wire.specs.Hello.{IsCut, IsHelloRead}

-- what the first and the second number are
record Two (first second : ℕ) (bytes : List ℕ) : Type 0 where
  long : 16 ≤ length bytes
  first_is : number_at 0 8 bytes ≡ first
  second_is : number_at 8 8 bytes ≡ second

two_of : (first second : ℕ) (bytes : List ℕ) → Begins (IsRow (number 8 first ∷ number 8 second ∷ [])) bytes → Two first second bytes
two_of first second bytes b =
    let r = begins_read (number 8 first ∷ number 8 second ∷ []) bytes b in
    let e = r.fields in
    record { long = omega (arith, r.long); first_is = cc; second_is = cc }

record Three (flags : ℕ) (bytes : List ℕ) : Type 0 where
  long : 18 ≤ length bytes
  first_is : number_at 0 8 bytes ≡ init_magic
  second_is : number_at 8 8 bytes ≡ option_magic
  flags_is : number_at 16 2 bytes ≡ flags

three_of : (flags : ℕ) (bytes : List ℕ) → Begins (IsRow (hello flags)) bytes → Three flags bytes
three_of flags bytes b =
    let r = begins_read (hello flags) bytes b in
    let e = r.fields in
    record { long = omega (arith, r.long); first_is = cc; second_is = cc; flags_is = cc }

-- Where the bytes are cut, one of these is not there.
cut_three : (flags : ℕ) (bytes : List ℕ) → Three flags bytes → IsCut bytes → ⊥
cut_three flags bytes t c = elim c [ inl a ↦ omega (arith, a, t.long) | inr d ↦ elim d [ inl a ↦ omega (arith, a.1, t.long) | inr a ↦ omega (arith, a.1, t.long) ] ]

first_begins : (first : ℕ) (bytes : List ℕ) → Begins (IsRow (number 8 first ∷ [])) bytes → (8 ≤ length bytes) × (number_at 0 8 bytes ≡ first)
first_begins first bytes b = first_of 8 first [] bytes b

cut_first : (other : ℕ) (bytes : List ℕ) → other ≢ init_magic → Begins (IsRow (number 8 other ∷ [])) bytes → IsCut bytes → ⊥
cut_first other bytes n b c =
    let f = first_begins other bytes b in
    elim c [
      | inl a ↦ omega (arith, a, f.0)
      | inr d ↦ elim d [
        | inl a ↦ n (sym f.1 ∙ (first_begins init_magic bytes a.0).1)
        | inr a ↦ n (sym f.1 ∙ (two_of init_magic option_magic bytes a.0).first_is)
      ]
    ]

cut_second : (other : ℕ) (bytes : List ℕ) → other ≢ option_magic → Two init_magic other bytes → IsCut bytes → ⊥
cut_second other bytes n t c =
    elim c [
      | inl a ↦ omega (arith, a, t.long)
      | inr d ↦ elim d [
        | inl a ↦ omega (arith, a.1, t.long)
        | inr a ↦ n (sym t.second_is ∙ (two_of init_magic option_magic bytes a.0).second_is)
      ]
    ]

one_hello : (bytes : List ℕ) (a b : HelloRead) → IsHelloRead bytes a → IsHelloRead bytes b → a ≡ b
one_hello bytes (Value f) (Value g) p q = ap Value (sym (three_of f bytes p).flags_is ∙ (three_of g bytes q).flags_is)
one_hello bytes (Value f) NeedMore p q = absurd (cut_three f bytes (three_of f bytes p) q)
one_hello bytes (Value f) (BadFirst m) p q = absurd (q.0 (sym (first_begins m bytes q.1).1 ∙ (three_of f bytes p).first_is))
one_hello bytes (Value f) (BadSecond m) p q = absurd (q.0 (sym (two_of init_magic m bytes q.1).second_is ∙ (three_of f bytes p).second_is))
one_hello bytes NeedMore (Value g) p q = absurd (cut_three g bytes (three_of g bytes q) p)
one_hello bytes NeedMore NeedMore p q = refl
one_hello bytes NeedMore (BadFirst m) p q = absurd (cut_first m bytes q.0 q.1 p)
one_hello bytes NeedMore (BadSecond m) p q = absurd (cut_second m bytes q.0 (two_of init_magic m bytes q.1) p)
one_hello bytes (BadFirst n) (Value g) p q = absurd (p.0 (sym (first_begins n bytes p.1).1 ∙ (three_of g bytes q).first_is))
one_hello bytes (BadFirst n) NeedMore p q = absurd (cut_first n bytes p.0 p.1 q)
one_hello bytes (BadFirst n) (BadFirst m) p q = ap BadFirst (sym (first_begins n bytes p.1).1 ∙ (first_begins m bytes q.1).1)
one_hello bytes (BadFirst n) (BadSecond m) p q = absurd (p.0 (sym (first_begins n bytes p.1).1 ∙ (two_of init_magic m bytes q.1).first_is))
one_hello bytes (BadSecond n) (Value g) p q = absurd (p.0 (sym (two_of init_magic n bytes p.1).second_is ∙ (three_of g bytes q).second_is))
one_hello bytes (BadSecond n) NeedMore p q = absurd (cut_second n bytes p.0 (two_of init_magic n bytes p.1) q)
one_hello bytes (BadSecond n) (BadFirst m) p q = absurd (q.0 (sym (first_begins m bytes q.1).1 ∙ (two_of init_magic n bytes p.1).first_is))
one_hello bytes (BadSecond n) (BadSecond m) p q = ap BadSecond (sym (two_of init_magic n bytes p.1).second_is ∙ (two_of init_magic m bytes q.1).second_is)

-- What is said of some bytes is what is read.
pub exactly : (bytes : List ℕ) (a : HelloRead) → IsHelloRead bytes a → (b : HelloRead) → (a ≡ b) ↔ IsHelloRead bytes b
exactly bytes a p b =
    let P : HelloRead → Type 0 = λ v. IsHelloRead bytes v in
    (λ e. subst P e p, λ q. one_hello bytes a b p q)

-- From what stands where.

pub two_there : (first second : ℕ) (bytes : List ℕ) → IsBytes bytes → 16 ≤ length bytes → number_at 0 8 bytes ≡ first → number_at 8 8 bytes ≡ second → Begins (IsRow (number 8 first ∷ number 8 second ∷ [])) bytes
two_there first second bytes h long e f =
    let P : List Field → Type 0 = λ fs. Begins (IsRow fs) bytes in
    let there = read_begins (8 ∷ 8 ∷ []) bytes h (omega (arith, long)) in
    let fields : fields_at 0 (8 ∷ 8 ∷ []) bytes ≡ number 8 first ∷ number 8 second ∷ [] = cc in
    subst P fields there

pub hello_there : (flags : ℕ) (bytes : List ℕ) → IsBytes bytes → 18 ≤ length bytes → number_at 0 8 bytes ≡ init_magic → number_at 8 8 bytes ≡ option_magic → number_at 16 2 bytes ≡ flags → Begins (IsRow (hello flags)) bytes
hello_there flags bytes h long e f g =
    let P : List Field → Type 0 = λ fs. Begins (IsRow fs) bytes in
    let there = read_begins (8 ∷ 8 ∷ 2 ∷ []) bytes h (omega (arith, long)) in
    let fields : fields_at 0 (8 ∷ 8 ∷ 2 ∷ []) bytes ≡ hello flags = cc in
    subst P fields there
