-- Ranges counted from another place hold the same places.
use Rattle.std.proofs.Common.{◌≡◌, ◌↔◌, ℕ, zero, suc, ◌+◌, ◌-◌, ◌≤◌, List, [], ◌∷◌, Bool, true, false, ◌||◌, ◌&&◌, Ok, Err, refl, ap, sym, ◌∙◌, arith, if◌then◌else◌, ◌==◌, nat_le, nat_lt}
use Rattle.std.proofs.lemmas.Grind.{common_steps}
use Rattle.lnbd_extents.specs.Positions.{within, holds, any_at, all_at}
use Rattle.lnbd_extents.specs.Ranges.{adding, with_positions}
use Rattle.std.proofs.lemmas.Bool.{and_parts, leb-true}
use Rattle.lnbd_chunks.specs.Chunk.{Waiting, lies_within}
use Rattle.lnbd_outcome.specs.Pieces.{is_whole}
use Rattle.lnbd_structured.specs.Assembly.{Assembled, clashes, waiting_of}
use Rattle.lnbd_structured.specs.Shift.{shift}

pub le_shift : (o a b : ℕ) → nat_le (a + o) (b + o) ≡ nat_le a b
le_shift o a b = grind (arith, common_steps)

pub lt_shift : (o a b c : ℕ) → c ≡ a + o → nat_lt c (b + o) ≡ nat_lt a b
lt_shift o a b c e = grind (arith, common_steps)

pub lt_shift_right : (o a b c : ℕ) → c ≡ b + o → nat_lt (a + o) c ≡ nat_lt a b
lt_shift_right o a b c e = grind (arith, common_steps)

pub eq_shift : (o a b c : ℕ) → c ≡ a + o → (c == b + o) ≡ (a == b)
eq_shift o a b c e = grind (arith, common_steps)

pub within_shift : (o p : ℕ) (r : ℕ × ℕ) → within (r.0 + o, r.1) (p + o) ≡ within r p
within_shift o p r = rw (le_shift o r.0 p, lt_shift_right o p (r.0 + r.1) (r.0 + o + r.1) (omega arith)) refl

pub holds_shift : (o p : ℕ) (rs : List (ℕ × ℕ)) → holds (shift o rs) (p + o) ≡ holds rs p
holds_shift o p [] = refl
holds_shift o p (r ∷ rs) = rw (within_shift o p r, holds_shift o p rs) refl

pub any_shift : (o s n t : ℕ) (rs : List (ℕ × ℕ)) → t ≡ s + o → any_at (holds (shift o rs)) t n ≡ any_at (holds rs) s n
any_shift o s zero t rs e = refl
any_shift o s (suc n) t rs e =
    let i = any_shift o (s + 1) n (t + 1) rs (omega (arith, e)) in
    let h : holds (shift o rs) t ≡ holds rs s = ap (holds (shift o rs)) e ∙ holds_shift o s rs in
    rw (h, i) refl

pub all_shift : (o s n t : ℕ) (rs : List (ℕ × ℕ)) → t ≡ s + o → all_at (holds (shift o rs)) t n ≡ all_at (holds rs) s n
all_shift o s zero t rs e = refl
all_shift o s (suc n) t rs e =
    let i = all_shift o (s + 1) n (t + 1) rs (omega (arith, e)) in
    let h : holds (shift o rs) t ≡ holds rs s = ap (holds (shift o rs)) e ∙ holds_shift o s rs in
    rw (h, i) refl

pub adding_shift : (o s n t : ℕ) (rs : List (ℕ × ℕ)) → t ≡ s + o → adding t n (shift o rs) ≡ shift o (adding s n rs)
adding_shift o s n t [] e = rw e refl
adding_shift o s n t (r ∷ rs) e =
    let a : nat_lt (t + n) (r.0 + o) ≡ nat_lt (s + n) r.0 = lt_shift o (s + n) r.0 (t + n) (omega (arith, e)) in
    let b : (t + n == r.0 + o) ≡ (s + n == r.0) = eq_shift o (s + n) r.0 (t + n) (omega (arith, e)) in
    let c : (r.0 + o + r.1 == t) ≡ (r.0 + r.1 == s) = ap (λ x. r.0 + o + r.1 == x) e ∙ eq_shift o (r.0 + r.1) s (r.0 + o + r.1) (omega arith) in
    rw (a, b, c) (go (nat_lt (s + n) r.0) (s + n == r.0) (r.0 + r.1 == s) (adding_shift o r.0 (r.1 + n) (r.0 + o) rs refl) (adding_shift o s n t rs e))
  where
    go : (x y z : Bool) → adding (r.0 + o) (r.1 + n) (shift o rs) ≡ shift o (adding r.0 (r.1 + n) rs) → adding t n (shift o rs) ≡ shift o (adding s n rs) →
        (if x then (t, n) ∷ (r.0 + o, r.1) ∷ shift o rs else if y then (t, n + r.1) ∷ shift o rs else if z then adding (r.0 + o) (r.1 + n) (shift o rs) else (r.0 + o, r.1) ∷ adding t n (shift o rs))
        ≡ shift o (if x then (s, n) ∷ r ∷ rs else if y then (s, n + r.1) ∷ rs else if z then adding r.0 (r.1 + n) rs else r ∷ adding s n rs)
    go true y z i j = rw e refl
    go false true z i j = rw e refl
    go false false true i j = i
    go false false false i j = ap (λ xs. (r.0 + o, r.1) ∷ xs) j

pub with_shift : (o s n t : ℕ) (rs : List (ℕ × ℕ)) → t ≡ s + o → with_positions t n (shift o rs) ≡ shift o (with_positions s n rs)
with_shift o s n t rs e = rw (adding_shift o s n t rs e) (go (n == 0))
  where
    go : (b : Bool) → (if b then shift o rs else shift o (adding s n rs)) ≡ shift o (if b then rs else adding s n rs)
    go true = refl
    go false = refl

-- What lies within a command, counted from the command's offset.

pub from_offset : (waiting : Waiting) (offset n : ℕ) → lies_within waiting offset n ≡ true → waiting.offset ≤ offset
from_offset waiting offset n e = leb-true waiting.offset offset (and_parts _ _ e).0

pub up_to_end : (waiting : Waiting) (offset n : ℕ) → lies_within waiting offset n ≡ true → offset + n ≤ waiting.offset + waiting.length
up_to_end waiting offset n e = leb-true (offset + n) (waiting.offset + waiting.length) (and_parts _ _ e).1

pub again : (o offset : ℕ) → o ≤ offset → offset ≡ offset - o + o
again o offset h = omega (arith, h)

pub clash : (came met : Bool) (o offset n : ℕ) (rs : List (ℕ × ℕ)) → o ≤ offset → came ≡ false → met ≡ any_at (holds rs) (offset - o) n → met ≡ came || any_at (holds (shift o rs)) offset n
clash came met o offset n rs h is e = e ∙ sym (any_shift o (offset - o) n offset rs (again o offset h)) ∙ ap (λ (b : Bool). b || any_at (holds (shift o rs)) offset n) (sym is)

-- An addition that was taken met nothing.
pub missed : {T E : Type 0} (x : T) (e : E) (met : Bool) → ((Ok x ≡ Err e) ↔ (met ≡ true)) → false ≡ met
missed x e true h = let no : Ok x ≡ Err e = h.1 refl in absurd (cc)
missed x e false h = refl

-- What a command's ranges meet is a clash, where no content came again.
pub clash_of : (command : Assembled) (o offset n : ℕ) (met : Bool) (rs : List (ℕ × ℕ)) → o ≡ command.query.offset → shift o rs ≡ command.facts.told → lies_within (waiting_of command) offset n ≡ true →
    (is_whole command.query && command.facts.came) ≡ false → met ≡ any_at (holds rs) (offset - o) n → met ≡ clashes command offset n
clash_of command o offset n met rs here told inside once e =
    let low : o ≤ offset = omega (arith, here, from_offset (waiting_of command) offset n inside) in
    clash (is_whole command.query && command.facts.came) met o offset n rs low once e
    ∙ ap (λ (all : List (ℕ × ℕ)). (is_whole command.query && command.facts.came) || any_at (holds all) offset n) told
