-- A reply's body by its fields and by what stands where is told the same.
use Rattle.std.proofs.Common.{◌≡◌, ℕ, ◌+◌, ◌-◌, ◌^◌, ◌≤◌, Bool, true, false, ◌&&◌, List, [], ◌∷◌, ◌++◌, length, take, drop, Option, Some, None, refl, sym, ap, subst, ◌∙◌, arith, inl, inr, nat_le, ◌==◌, length-append, length-drop, length-take}
use Rattle.std.proofs.lemmas.List.{take-append-drop, drop-drop, drop_all}
use Rattle.lnbd_records.specs.Numbers.{number, IsBytes, IsRow, IsRowThen, number_at, fields_at}
use Rattle.lnbd_records.specs.Told.{Told, Size, Body}
use Rattle.lnbd_records.specs.Told as told
use Rattle.lnbd_records.specs.Replies.{are_texts, are_blocks, blocks_told, fits, server_body, context_body, info_of_type, info_body, body_of, export, block_size, IsPassed, Tells}
use Rattle.lnbd_records.proofs.Basics.{le_true, both_true, le_of, eq_of, both_of, parts, nothing}
use Rattle.lnbd_records.proofs.NumberLaws.{then_reads, reads_then, row_alone, row_then}

abbrev pub body_with : Told → Body
body_with t = record { told = t; texts = are_texts t }

-- What fits is told.
fits_true : (form : Bool) (t t' : Told) → form ≡ true → t ≡ t' → fits form t ≡ Some (body_with t')
fits_true form t t' e h = rw e (ap (λ (u : Told). Some (body_with u)) h)

tells_error : (type code : ℕ) (bytes : List ℕ) → type ≡ 2 ^ 31 + code → body_of type bytes ≡ Some (body_with (told.Error code))
unfolding body_of
tells_error type code bytes h =
    let big : nat_le (2 ^ 31) type ≡ true = le_true (2 ^ 31) type (omega arith) in
    let less : type - 2 ^ 31 ≡ code = omega arith in
    rw (big, less) refl

tells_ack : (type : ℕ) (bytes : List ℕ) → type ≡ 1 → bytes ≡ [] → body_of type bytes ≡ Some (body_with told.Ack)
unfolding body_of
tells_ack type bytes e h = rw (e, h) refl

tells_server : (bytes name description : List ℕ) → IsRowThen (number 4 (length name) ∷ []) (name ++ description) bytes → server_body bytes ≡ Some (body_with (told.Server (record { name = name; description = description })))
tells_server bytes name description r =
    let read = then_reads (number 4 (length name) ∷ []) (name ++ description) bytes r in
    let size : number_at 0 4 bytes ≡ length name = let e = read.fields in cc in
    let all : length bytes ≡ 4 + length (name ++ description) = read.size in
    let both : length (name ++ description) ≡ length name + length description = length-append name description in
    let there = parts (number_at 0 4 bytes) bytes name description size read.behind in
    fits_true _ _ _
    (both_true _ _ (le_true 4 (length bytes) (omega (arith, all))) (le_true (4 + number_at 0 4 bytes) (length bytes) (omega (arith, all, both, size))))
    (rw (there.0, there.1) refl)

tells_context : (bytes name : List ℕ) (id : ℕ) → IsRowThen (number 4 id ∷ []) name bytes → context_body bytes ≡ Some (body_with (told.Context (record { id = id; name = name })))
tells_context bytes name id r =
    let read = then_reads (number 4 id ∷ []) name bytes r in
    let first : number_at 0 4 bytes ≡ id = let e = read.fields in cc in
    let all : length bytes ≡ 4 + length name = read.size in
    let behind : drop 4 bytes ≡ name = read.behind in
    fits_true _ _ _ (le_true 4 (length bytes) (omega (arith, all))) (rw (first, behind) refl)

-- Information begins with its type.
info_type : (bytes rest : List ℕ) (type : ℕ) → IsRowThen (number 2 type ∷ []) rest bytes → (info_body bytes ≡ info_of_type type bytes) × (drop 2 bytes ≡ rest)
info_type bytes rest type r =
    let read = then_reads (number 2 type ∷ []) rest bytes r in
    let first : number_at 0 2 bytes ≡ type = let e = read.fields in cc in
    let all : length bytes ≡ 2 + length rest = read.size in
    let long : nat_le 2 (length bytes) ≡ true = le_true 2 (length bytes) (omega (arith, all)) in
    (rw (long, first) refl, read.behind)

tells_name : (bytes name : List ℕ) → IsRowThen (number 2 1 ∷ []) name bytes → info_body bytes ≡ Some (body_with (told.Name name))
tells_name bytes name r =
    let e = info_type bytes name 1 r in
    e.0 ∙ rw (e.1) refl

tells_description : (bytes name : List ℕ) → IsRowThen (number 2 2 ∷ []) name bytes → info_body bytes ≡ Some (body_with (told.Description name))
tells_description bytes name r =
    let e = info_type bytes name 2 r in
    e.0 ∙ rw (e.1) refl

tells_export : (bytes : List ℕ) (size : Size) → IsRow (export size) bytes → info_body bytes ≡ Some (body_with (told.Export size))
tells_export bytes size r =
    let read = then_reads (export size) [] bytes (row_then (export size) bytes r) in
    let e = read.fields in
    let kind : number_at 0 2 bytes ≡ 0 = cc in
    let a : number_at 2 8 bytes ≡ size.size = cc in
    let b : number_at 10 2 bytes ≡ size.flags = cc in
    let all : length bytes ≡ 12 = read.size in
    rw (all, kind, a, b) refl

blocks_body : (bytes : List ℕ) (minimum preferred maximum : ℕ) → IsRow (block_size minimum preferred maximum) bytes → info_body bytes ≡ Some (body_with (blocks_told minimum preferred maximum))
blocks_body bytes minimum preferred maximum r =
    let read = then_reads (block_size minimum preferred maximum) [] bytes (row_then (block_size minimum preferred maximum) bytes r) in
    let e = read.fields in
    let kind : number_at 0 2 bytes ≡ 3 = cc in
    let a : number_at 2 4 bytes ≡ minimum = cc in
    let b : number_at 6 4 bytes ≡ preferred = cc in
    let c : number_at 10 4 bytes ≡ maximum = cc in
    let all : length bytes ≡ 14 = read.size in
    rw (all, kind, a, b, c) refl

passed_type : (type : ℕ) (bytes : List ℕ) → 4 ≤ type → info_of_type type bytes ≡ Some (body_with told.Passed)
passed_type type bytes h =
    let a : (type == 0) ≡ false = grind (arith, h) in
    let b : (type == 1) ≡ false = grind (arith, h) in
    let c : (type == 2) ≡ false = grind (arith, h) in
    let d : (type == 3) ≡ false = grind (arith, h) in
    rw (a, b, c, d) refl

tells_passed : (bytes : List ℕ) → IsPassed bytes → info_body bytes ≡ Some (body_with told.Passed)
tells_passed bytes p = elim p [
  | inl unknown ↦ (info_type bytes unknown.1 unknown.0 unknown.3).0 ∙ passed_type unknown.0 bytes unknown.2
  | inr blocks ↦ blocks_body bytes blocks.0 blocks.1 blocks.2 blocks.4 ∙ rw (blocks.3) refl
]

tells_blocks : (bytes : List ℕ) (minimum preferred maximum : ℕ) → are_blocks minimum preferred maximum ≡ true → IsRow (block_size minimum preferred maximum) bytes → info_body bytes ≡ Some (body_with (told.Blocks (record { minimum = minimum; preferred = preferred; maximum = maximum })))
tells_blocks bytes minimum preferred maximum e r = blocks_body bytes minimum preferred maximum r ∙ rw e refl

pub told_so : (type : ℕ) (bytes : List ℕ) (t : Told) → Tells type bytes t → body_of type bytes ≡ Some (body_with t)
unfolding body_of
told_so type bytes told.Ack h = tells_ack type bytes h.0 h.1
told_so type bytes (told.Error code) h = tells_error type code bytes h
told_so type bytes (told.Server listed) h = rw (h.0) (tells_server bytes listed.name listed.description h.1)
told_so type bytes (told.Export size) h = rw (h.0) (tells_export bytes size h.1)
told_so type bytes (told.Name name) h = rw (h.0) (tells_name bytes name h.1)
told_so type bytes (told.Description description) h = rw (h.0) (tells_description bytes description h.1)
told_so type bytes (told.Blocks blocks) h = rw (h.0) (tells_blocks bytes blocks.minimum blocks.preferred blocks.maximum h.1 h.2)
told_so type bytes told.Passed h = rw (h.0) (tells_passed bytes h.1)
told_so type bytes (told.Context context) h = rw (h.0) (tells_context bytes context.name context.id h.1)

-- The other way: what fits was spelled so.

-- what a body tells is told of its bytes, and its texts are tested
pub record IsTold (type : ℕ) (bytes : List ℕ) (body : Body) : Type 0 where
  pub tells : Tells type bytes body.told
  pub texts : body.texts ≡ are_texts body.told

told_with : (type : ℕ) (bytes : List ℕ) (t : Told) (body : Body) → body_with t ≡ body → Tells type bytes t → IsTold type bytes body
told_with type bytes t body e h =
    let P : Body → Type 0 = λ b. IsTold type bytes b in
    subst P e (record { tells = h; texts = refl })

-- what fits has the form, and is what is told
from_fits : (form : Bool) (t : Told) (body : Body) → fits form t ≡ Some body → (form ≡ true) × (body_with t ≡ body)
from_fits true t body e = (refl, cc)
from_fits false t body e = absurd (cc)

from_server : (bytes : List ℕ) (body : Body) → IsBytes bytes → server_body bytes ≡ Some body → IsTold 2 bytes body
from_server bytes body h e =
    let n = number_at 0 4 bytes in
    let name = take n (drop 4 bytes) in
    let description = drop (4 + n) bytes in
    let f = from_fits (nat_le 4 (length bytes) && nat_le (4 + n) (length bytes)) (told.Server (record { name = name; description = description })) body e in
    let both = both_of (nat_le 4 (length bytes)) (nat_le (4 + n) (length bytes)) f.0 in
    let four = le_of 4 (length bytes) both.0 in
    let long = le_of (4 + n) (length bytes) both.1 in
    let read = reads_then (4 ∷ []) bytes h four in
    let size : length name ≡ n = simp (length-take, length-drop) (omega arith) in
    let rest : drop n (drop 4 bytes) ≡ drop (4 + n) bytes = drop-drop n 4 bytes in
    let seam : take n (drop 4 bytes) ++ drop n (drop 4 bytes) ≡ drop 4 bytes = take-append-drop n (drop 4 bytes) in
    let whole : name ++ description ≡ drop 4 bytes = ap (λ (t : List ℕ). take n (drop 4 bytes) ++ t) (sym rest) ∙ seam in
    let P : ℕ → Type 0 = λ k. IsRowThen (number 4 k ∷ []) (drop 4 bytes) bytes in
    let Q : List ℕ → Type 0 = λ t. IsRowThen (number 4 (length name) ∷ []) t bytes in
    told_with 2 bytes (told.Server (record { name = name; description = description })) body f.1 (refl, subst Q (sym whole) (subst P (sym size) read))

from_context : (bytes : List ℕ) (body : Body) → IsBytes bytes → context_body bytes ≡ Some body → IsTold 4 bytes body
from_context bytes body h e =
    let f = from_fits (nat_le 4 (length bytes)) (told.Context (record { id = number_at 0 4 bytes; name = drop 4 bytes })) body e in
    told_with 4 bytes (told.Context (record { id = number_at 0 4 bytes; name = drop 4 bytes })) body f.1 (refl, reads_then (4 ∷ []) bytes h (le_of 4 (length bytes) f.0))

type_there : (bytes : List ℕ) (type : ℕ) → IsBytes bytes → 2 ≤ length bytes → number_at 0 2 bytes ≡ type → IsRowThen (number 2 type ∷ []) (drop 2 bytes) bytes
type_there bytes type h long e =
    let P : ℕ → Type 0 = λ k. IsRowThen (number 2 k ∷ []) (drop 2 bytes) bytes in
    subst P e (reads_then (2 ∷ []) bytes h long)

from_export : (bytes : List ℕ) (body : Body) → IsBytes bytes → number_at 0 2 bytes ≡ 0 → fits (length bytes == 12) (told.Export (record { size = number_at 2 8 bytes; flags = number_at 10 2 bytes })) ≡ Some body → IsTold 3 bytes body
from_export bytes body h kind e =
    let f = from_fits (length bytes == 12) (told.Export (record { size = number_at 2 8 bytes; flags = number_at 10 2 bytes })) body e in
    let all : length bytes ≡ 12 = eq_of (length bytes) 12 f.0 in
    let read = reads_then (2 ∷ 8 ∷ 2 ∷ []) bytes h (omega (arith, all)) in
    let none : drop 12 bytes ≡ [] = drop_all 12 bytes (omega (arith, all)) in
    let Q : List ℕ → Type 0 = λ t. IsRowThen (fields_at 0 (2 ∷ 8 ∷ 2 ∷ []) bytes) t bytes in
    let alone = row_alone (fields_at 0 (2 ∷ 8 ∷ 2 ∷ []) bytes) bytes (subst Q none read) in
    let P : ℕ → Type 0 = λ k. IsRow (number 2 k ∷ number 8 (number_at 2 8 bytes) ∷ number 2 (number_at 10 2 bytes) ∷ []) bytes in
    told_with 3 bytes (told.Export (record { size = number_at 2 8 bytes; flags = number_at 10 2 bytes })) body f.1 (refl, subst P kind alone)

from_block_size : (bytes : List ℕ) (body : Body) → IsBytes bytes → number_at 0 2 bytes ≡ 3 → fits (length bytes == 14) (blocks_told (number_at 2 4 bytes) (number_at 6 4 bytes) (number_at 10 4 bytes)) ≡ Some body → IsTold 3 bytes body
from_block_size bytes body h kind e =
    let a = number_at 2 4 bytes in
    let b = number_at 6 4 bytes in
    let c = number_at 10 4 bytes in
    let f = from_fits (length bytes == 14) (blocks_told a b c) body e in
    let all : length bytes ≡ 14 = eq_of (length bytes) 14 f.0 in
    let read = reads_then (2 ∷ 4 ∷ 4 ∷ 4 ∷ []) bytes h (omega (arith, all)) in
    let none : drop 14 bytes ≡ [] = drop_all 14 bytes (omega (arith, all)) in
    let Q : List ℕ → Type 0 = λ t. IsRowThen (fields_at 0 (2 ∷ 4 ∷ 4 ∷ 4 ∷ []) bytes) t bytes in
    let alone = row_alone (fields_at 0 (2 ∷ 4 ∷ 4 ∷ 4 ∷ []) bytes) bytes (subst Q none read) in
    let P : ℕ → Type 0 = λ k. IsRow (number 2 k ∷ number 4 a ∷ number 4 b ∷ number 4 c ∷ []) bytes in
    blocks_are a b c (are_blocks a b c) refl bytes body f.1 (subst P kind alone)
  where
    blocks_are : (a b c : ℕ) (test : Bool) → are_blocks a b c ≡ test → (bytes : List ℕ) (body : Body) → body_with (blocks_told a b c) ≡ body → IsRow (block_size a b c) bytes → IsTold 3 bytes body
    blocks_are a b c true e bytes body f r =
        let t : blocks_told a b c ≡ told.Blocks (record { minimum = a; preferred = b; maximum = c }) = rw e refl in
        told_with 3 bytes (told.Blocks (record { minimum = a; preferred = b; maximum = c })) body (ap body_with (sym t) ∙ f) (refl, e, r)
    blocks_are a b c false e bytes body f r =
        let t : blocks_told a b c ≡ told.Passed = rw e refl in
        told_with 3 bytes told.Passed body (ap body_with (sym t) ∙ f) (refl, inr (a, b, c, e, r))

from_passed : (bytes : List ℕ) (body : Body) → IsBytes bytes → 2 ≤ length bytes → 4 ≤ number_at 0 2 bytes → Some (body_with told.Passed) ≡ Some body → IsTold 3 bytes body
from_passed bytes body h long big e =
    told_with 3 bytes told.Passed body (cc) (refl, inl (number_at 0 2 bytes, drop 2 bytes, big, reads_then (2 ∷ []) bytes h long))

from_info : (bytes : List ℕ) (body : Body) → IsBytes bytes → info_body bytes ≡ Some body → IsTold 3 bytes body
from_info bytes body h e = go (nat_le 2 (length bytes)) refl
  where
    by_type : (n : ℕ) → number_at 0 2 bytes ≡ n → 2 ≤ length bytes → (a b c d : Bool) → (n == 0) ≡ a → (n == 1) ≡ b → (n == 2) ≡ c → (n == 3) ≡ d → info_of_type n bytes ≡ Some body → IsTold 3 bytes body
    by_type n k long true b c d p q r s f = from_export bytes body h (k ∙ eq_of n 0 p) (rw p at f)
    by_type n k long false true c d p q r s f =
        told_with 3 bytes (told.Name (drop 2 bytes)) body (let g = rw (p, q) at f in cc) (refl, type_there bytes 1 h long (k ∙ eq_of n 1 q))
    by_type n k long false false true d p q r s f =
        told_with 3 bytes (told.Description (drop 2 bytes)) body (let g = rw (p, q, r) at f in cc) (refl, type_there bytes 2 h long (k ∙ eq_of n 2 r))
    by_type n k long false false false true p q r s f = from_block_size bytes body h (k ∙ eq_of n 3 s) (rw (p, q, r, s) at f)
    by_type n k long false false false false p q r s f = from_passed bytes body h long (rw k (above n p q r s)) (rw (p, q, r, s) at f)
      where
        above : (n : ℕ) → (n == 0) ≡ false → (n == 1) ≡ false → (n == 2) ≡ false → (n == 3) ≡ false → 4 ≤ n
        above n p q r s = grind (arith, p, q, r, s)

    go : (b : Bool) → nat_le 2 (length bytes) ≡ b → IsTold 3 bytes body
    go true t = by_type (number_at 0 2 bytes) refl (le_of 2 (length bytes) t) _ _ _ _ refl refl refl refl (rw t at e)
    go false t = absurd (let f : (let none : Option Body = None in none) ≡ Some body = rw t at e in cc)

at_type : (type n : ℕ) (bytes : List ℕ) (body : Body) → type ≡ n → IsTold n bytes body → IsTold type bytes body
at_type type n bytes body e h =
    let P : ℕ → Type 0 = λ k. IsTold k bytes body in
    subst P (sym e) h

none_some : (body : Body) → (let none : Option Body = None in none) ≡ Some body → ⊥
none_some body e = cc

from_type : (type : ℕ) (bytes : List ℕ) (body : Body) → IsBytes bytes → (z a b c d : Bool) → nat_le (2 ^ 31) type ≡ z → (type == 1) ≡ a → (type == 2) ≡ b → (type == 3) ≡ c → (type == 4) ≡ d → body_of type bytes ≡ Some body → IsTold type bytes body
unfolding body_of
from_type type bytes body h true a b c d x p q r s e =
    let big : 2 ^ 31 ≤ type = le_of (2 ^ 31) type x in
    told_with type bytes (told.Error (type - 2 ^ 31)) body (let g = rw x at e in cc) (omega (arith, big))
from_type type bytes body h false true b c d x p q r s e =
    let f = from_fits (length bytes == 0) told.Ack body (rw (x, p) at e) in
    told_with type bytes told.Ack body f.1 (eq_of type 1 p, nothing bytes (eq_of (length bytes) 0 f.0))
from_type type bytes body h false false true c d x p q r s e = at_type type 2 bytes body (eq_of type 2 q) (from_server bytes body h (rw (x, p, q) at e))
from_type type bytes body h false false false true d x p q r s e = at_type type 3 bytes body (eq_of type 3 r) (from_info bytes body h (rw (x, p, q, r) at e))
from_type type bytes body h false false false false true x p q r s e = at_type type 4 bytes body (eq_of type 4 s) (from_context bytes body h (rw (x, p, q, r, s) at e))
from_type type bytes body h false false false false false x p q r s e = absurd (none_some body (rw (x, p, q, r, s) at e))

pub from_told : (type : ℕ) (bytes : List ℕ) (body : Body) → IsBytes bytes → body_of type bytes ≡ Some body → IsTold type bytes body
from_told type bytes body h e = from_type type bytes body h _ _ _ _ _ refl refl refl refl refl e
