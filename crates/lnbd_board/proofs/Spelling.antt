-- Lemmas on slices and the pieces of their bytes.
use Rattle.std.proofs.Common.{◌≡◌, ℕ, zero, suc, ◌+◌, ◌-◌, ◌<◌, ◌≤◌, List, [], ◌∷◌, ◌++◌, Bool, true, false, cond, refl, ap, sym, ◌∙◌, arith, length, get_or, append_assoc, length-append, inl, inr, Some}
use Rattle.std.proofs.lemmas.Grind.{common_steps}
use Rattle.std.proofs.lemmas.Bool.Decides.{nat_tests}
use Rattle.std.proofs.Math.ListN.{length-replicate, get_or-replicate}
use Rattle.std.proofs.lemmas.Option.{slice_get-get_or}
use Rattle.lnbd_extents.specs.Positions.{within}
use Rattle.lnbd_asked.specs.Honest.{covers, has}
use Rattle.lnbd_plan.specs.declared.grid.Slice.{Slice}
use Rattle.lnbd_plan.specs.Laws.{slices_at}
use Rattle.lnbd_board.specs.declared.how.How.{How}
use Rattle.lnbd_board.specs.Requests.{Said, done, done_with, over_said, said_unanswered, Suits}
use Rattle.lnbd_board.specs.Pieces.{Piece, Bytes, Zeros, spell, spell1, ask_of, is_passed, kind_of, wrote}
use Rattle.lnbd_board.specs.Carried.{Puts}
use Rattle.lnbd_board.specs.Rows.{slice_at, lies_in}

-- What the test says.

pub within_at : (from size p : ℕ) → from ≤ p → p < from + size → within (from, size) p ≡ true
within_at from size p h k = grind (arith, nat_tests, common_steps)

pub within_true : (from size p : ℕ) → within (from, size) p ≡ true → (from ≤ p) × (p < from + size)
within_true from size p h = grind (arith, nat_tests, common_steps)

pub within_below : (from size p : ℕ) → p < from → within (from, size) p ≡ false
within_below from size p h = grind (arith, nat_tests, common_steps)

pub within_above : (from size p : ℕ) → from + size ≤ p → within (from, size) p ≡ false
within_above from size p h = grind (arith, nat_tests, common_steps)

pub within_false : (from size p : ℕ) → within (from, size) p ≡ false → from ≤ p → from + size ≤ p
within_false from size p h k = grind (arith, nat_tests, common_steps)

-- Slices that have a position.

pub some_at : (p i : ℕ) (ss : List Slice) → i < length ss → lies_in (slice_at ss i) p ≡ true → 0 < length (slices_at p ss)
some_at p i [] l h = absurd (omega (arith, l))
some_at p zero (s ∷ ss) l h = rw h (omega arith)
some_at p (suc i) (s ∷ ss) l h =
    let k = some_at p i ss (omega (arith, l)) h in
    elim (within (s.start, s.length) p) as (λ b. 0 < length (cond b (s ∷ slices_at p ss) (slices_at p ss))) [ true ↦ omega arith | false ↦ k ]

pub apart : (p i j : ℕ) (ss : List Slice) → length (slices_at p ss) ≤ 1 → i < length ss → j < length ss → lies_in (slice_at ss i) p ≡ true → lies_in (slice_at ss j) p ≡ true → i ≡ j
apart p i j [] few l m h k = absurd (omega (arith, l))
apart p zero zero (s ∷ ss) few l m h k = refl
apart p zero (suc j) (s ∷ ss) few l m h k = absurd (let o = some_at p j ss (omega (arith, m)) k in let f = rw h at few in omega (arith, o, f))
apart p (suc i) zero (s ∷ ss) few l m h k = absurd (let o = some_at p i ss (omega (arith, l)) h in let f = rw k at few in omega (arith, o, f))
apart p (suc i) (suc j) (s ∷ ss) few l m h k = ap suc (apart p i j ss (fewer (within (s.start, s.length) p) few) (omega (arith, l)) (omega (arith, m)) h k)
  where
    fewer : (b : Bool) → length (cond b (s ∷ slices_at p ss) (slices_at p ss)) ≤ 1 → length (slices_at p ss) ≤ 1
    fewer true f = omega (arith, f)
    fewer false f = f

-- the number of the slice that has a position
pub record Found (p : ℕ) (s : Slice) (ss : List Slice) : Type 0 where
  pub number : ℕ
  pub held : number < length ss
  pub is : slice_at ss number ≡ s
  pub has : lies_in (slice_at ss number) p ≡ true

pub found : (p : ℕ) (s : Slice) (ss more : List Slice) → slices_at p ss ≡ s ∷ more → Found p s ss
found p s [] more h = absurd (cc)
found p s (x ∷ ss) more h =
    elim (within (x.start, x.length) p) as (λ b. within (x.start, x.length) p ≡ b → cond b (x ∷ slices_at p ss) (slices_at p ss) ≡ s ∷ more → Found p s (x ∷ ss)) [
      | true ↦ λ e k. record { number = 0; held = omega arith; is = cc; has = e }
      | false ↦ λ e k. let f = found p s ss more k in record { number = suc f.number; held = (let l = f.held in omega (arith, l)); is = f.is; has = f.has }
    ] refl h

-- Pieces.

-- a piece changes its own stretch
pub covers_piece : (how : How) (p at : ℕ) (piece : Piece) → covers (ask_of how at piece) p ≡ within (at, length (spell1 piece)) p
covers_piece how p at (Bytes bytes) = refl
covers_piece how p at (Zeros n) = rw (length-replicate {A = ℕ} n 0) refl

-- a piece is asked for by its kind
pub ask_kind : (how : How) (at : ℕ) (piece : Piece) → (ask_of how at piece).kind ≡ kind_of piece
ask_kind how at (Bytes bytes) = refl
ask_kind how at (Zeros n) = refl

pub has_piece : (how : How) (p at : ℕ) (piece : Piece) → has (ask_of how at piece) p ≡ within (at, length (spell1 piece)) p
has_piece how p at (Bytes bytes) = refl
has_piece how p at (Zeros n) = rw (length-replicate {A = ℕ} n 0) refl

-- and puts its bytes there
pub puts_piece : (how : How) (p at byte : ℕ) (piece : Piece) → within (at, length (spell1 piece)) p ≡ true → get_or (spell1 piece) (p - at) 0 ≡ byte → Puts (ask_of how at piece) p byte
puts_piece how p at byte (Bytes bytes) h is =
    let w = within_true at (length bytes) p h in
    inl (refl, slice_get-get_or bytes (p - at) 0 (omega (arith, w.0, w.1)) ∙ ap (λ (b : ℕ). Some b) is)
puts_piece how p at byte (Zeros n) h is =
    let w = within_true at (length (spell1 (Zeros n))) p h in
    let e = length-replicate {A = ℕ} n 0 in
    inr (refl, sym is ∙ get_or-replicate n (p - at) 0 0 (omega (arith, w.0, w.1, e)))

-- what comes back of a change is what it was asked with
pub suits_piece : (how : How) (at : ℕ) (piece : Piece) (buf : List ℕ) → Suits (ask_of how at piece) buf → done_with (ask_of how at piece) buf ≡ done (ask_of how at piece)
suits_piece how at (Bytes bytes) buf s = ap (done_with (ask_of how at (Bytes bytes))) (s.change refl)
suits_piece how at (Zeros n) buf s = ap (done_with (ask_of how at (Zeros n))) (s.change refl)

-- one change stands over the position and leaves this byte, or it was passed over
pub data Covered (how : How) (p b : ℕ) (said : List Said) : Type 0 where
  Once : (at : ℕ) (piece : Piece) → over_said p said ≡ done (ask_of how at piece) ∷ [] → within (at, length (spell1 piece)) p ≡ true → get_or (spell1 piece) (p - at) 0 ≡ b → Covered how p b said
  Never : how.skip ≡ true → over_said p said ≡ [] → b ≡ 0 → Covered how p b said

pub wrote_before : (how : How) (p at : ℕ) (pieces : List Piece) → p < at → over_said p (wrote how at pieces) ≡ []
wrote_before how p at [] h = refl
wrote_before how p at (piece ∷ pieces) h =
    let e = wrote_before how p (at + length (spell1 piece)) pieces (omega arith) in
    let c = covers_piece how p at piece ∙ within_below at (length (spell1 piece)) p h in
    elim (is_passed how piece) as (λ b. over_said p (cond b (wrote how (at + length (spell1 piece)) pieces) (done (ask_of how at piece) ∷ wrote how (at + length (spell1 piece)) pieces)) ≡ [])
    [ true ↦ e | false ↦ rw c e ]

pub wrote_after : (how : How) (p at : ℕ) (pieces : List Piece) → at + length (spell pieces) ≤ p → over_said p (wrote how at pieces) ≡ []
wrote_after how p at [] h = refl
wrote_after how p at (piece ∷ pieces) h =
    let l = length-append (spell1 piece) (spell pieces) in
    let e = wrote_after how p (at + length (spell1 piece)) pieces (omega arith) in
    let c = covers_piece how p at piece ∙ within_above at (length (spell1 piece)) p (omega arith) in
    elim (is_passed how piece) as (λ b. over_said p (cond b (wrote how (at + length (spell1 piece)) pieces) (done (ask_of how at piece) ∷ wrote how (at + length (spell1 piece)) pieces)) ≡ [])
    [ true ↦ e | false ↦ rw c e ]

passed_zero : (how : How) (piece : Piece) (k : ℕ) → is_passed how piece ≡ true → k < length (spell1 piece) → (how.skip ≡ true) × (get_or (spell1 piece) k 0 ≡ 0)
passed_zero how (Bytes bytes) k h l = absurd (cc)
passed_zero how (Zeros n) k h l = let e = length-replicate {A = ℕ} n 0 in (h, get_or-replicate n k 0 0 (omega (arith, l, e)))

get_or-front : (xs ys : List ℕ) (k : ℕ) → k < length xs → get_or (xs ++ ys) k 0 ≡ get_or xs k 0
get_or-front xs ys k h = grind (arith, common_steps)

get_or-back : (xs ys : List ℕ) (k j : ℕ) → k ≡ length xs + j → get_or (xs ++ ys) k 0 ≡ get_or ys j 0
get_or-back xs ys k j h = grind (arith, common_steps)

covered_here : (how : How) (p at : ℕ) (piece : Piece) (pieces : List Piece) → within (at, length (spell1 piece)) p ≡ true → Covered how p (get_or (spell (piece ∷ pieces)) (p - at) 0) (wrote how at (piece ∷ pieces))
covered_here how p at piece pieces h =
    let w = within_true at (length (spell1 piece)) p h in
    let rest = wrote_before how p (at + length (spell1 piece)) pieces (omega (arith, w.1)) in
    let c = covers_piece how p at piece ∙ h in
    let f = get_or-front (spell1 piece) (spell pieces) (p - at) (omega (arith, w.0, w.1)) in
    elim (is_passed how piece) as (λ b. is_passed how piece ≡ b → Covered how p (get_or (spell (piece ∷ pieces)) (p - at) 0) (cond b (wrote how (at + length (spell1 piece)) pieces) (done (ask_of how at piece) ∷ wrote how (at + length (spell1 piece)) pieces))) [
      | true ↦ λ e. let z = passed_zero how piece (p - at) e (omega (arith, w.0, w.1)) in Never z.0 rest (f ∙ z.1)
      | false ↦ λ e. Once at piece (rw (c, rest) refl) h (sym f)
    ] refl

covered_there : (how : How) (p at : ℕ) (piece : Piece) (pieces : List Piece) → at + length (spell1 piece) ≤ p → Covered how p (get_or (spell pieces) (p - (at + length (spell1 piece))) 0) (wrote how (at + length (spell1 piece)) pieces) → Covered how p (get_or (spell (piece ∷ pieces)) (p - at) 0) (wrote how at (piece ∷ pieces))
covered_there how p at piece pieces h k =
    let c = covers_piece how p at piece ∙ within_above at (length (spell1 piece)) p h in
    let f = get_or-back (spell1 piece) (spell pieces) (p - at) (p - (at + length (spell1 piece))) (omega arith) in
    let k2 : Covered how p (get_or (spell (piece ∷ pieces)) (p - at) 0) (wrote how (at + length (spell1 piece)) pieces) = rw f k in
    elim (is_passed how piece) as (λ b. Covered how p (get_or (spell (piece ∷ pieces)) (p - at) 0) (cond b (wrote how (at + length (spell1 piece)) pieces) (done (ask_of how at piece) ∷ wrote how (at + length (spell1 piece)) pieces))) [
      | true ↦ k2
      | false ↦ elim k2 [ Once a x e w b ↦ Once a x (rw c e) w b | Never s e b ↦ Never s (rw c e) b ]
    ]

pub covered : (how : How) (p at : ℕ) (pieces : List Piece) → at ≤ p → p < at + length (spell pieces) → Covered how p (get_or (spell pieces) (p - at) 0) (wrote how at pieces)
covered how p at [] h k = absurd (omega arith)
covered how p at (piece ∷ pieces) h k =
    let l = length-append (spell1 piece) (spell pieces) in
    elim (within (at, length (spell1 piece)) p) as (λ b. within (at, length (spell1 piece)) p ≡ b → Covered how p (get_or (spell (piece ∷ pieces)) (p - at) 0) (wrote how at (piece ∷ pieces))) [
      | true ↦ λ e. covered_here how p at piece pieces e
      | false ↦ λ e. let a = within_false at (length (spell1 piece)) p e h in
          covered_there how p at piece pieces a (covered how p (at + length (spell1 piece)) pieces a (omega arith))
    ] refl

-- One more piece.

pub spell_more : (pieces : List Piece) (piece : Piece) → spell (pieces ++ piece ∷ []) ≡ spell pieces ++ spell1 piece
spell_more [] piece = grind (arith, common_steps)
spell_more (x ∷ pieces) piece = ap (λ l. spell1 x ++ l) (spell_more pieces piece) ∙ sym (append_assoc (spell1 x) (spell pieces) (spell1 piece))

pub wrote_more : (how : How) (at to : ℕ) (pieces : List Piece) (piece : Piece) → is_passed how piece ≡ false → to ≡ at + length (spell pieces) → wrote how at (pieces ++ piece ∷ []) ≡ wrote how at pieces ++ done (ask_of how to piece) ∷ []
wrote_more how at to [] piece h e = let k : to ≡ at = omega (arith, e) in rw (k, h) refl
wrote_more how at to (x ∷ pieces) piece h e =
    let l = length-append (spell1 x) (spell pieces) in
    let k = wrote_more how (at + length (spell1 x)) to pieces piece h (omega (arith, e, l)) in
    elim (is_passed how x) as (λ b. cond b (wrote how (at + length (spell1 x)) (pieces ++ piece ∷ [])) (done (ask_of how at x) ∷ wrote how (at + length (spell1 x)) (pieces ++ piece ∷ [])) ≡ cond b (wrote how (at + length (spell1 x)) pieces) (done (ask_of how at x) ∷ wrote how (at + length (spell1 x)) pieces) ++ done (ask_of how to piece) ∷ [])
    [ true ↦ k | false ↦ ap (λ l. done (ask_of how at x) ∷ l) k ]

pub wrote_passed : (how : How) (at : ℕ) (pieces : List Piece) (piece : Piece) → is_passed how piece ≡ true → wrote how at (pieces ++ piece ∷ []) ≡ wrote how at pieces
wrote_passed how at [] piece h = rw h refl
wrote_passed how at (x ∷ pieces) piece h =
    let k = wrote_passed how (at + length (spell1 x)) pieces piece h in
    elim (is_passed how x) as (λ b. cond b (wrote how (at + length (spell1 x)) (pieces ++ piece ∷ [])) (done (ask_of how at x) ∷ wrote how (at + length (spell1 x)) (pieces ++ piece ∷ [])) ≡ cond b (wrote how (at + length (spell1 x)) pieces) (done (ask_of how at x) ∷ wrote how (at + length (spell1 x)) pieces))
    [ true ↦ k | false ↦ ap (λ l. done (ask_of how at x) ∷ l) k ]

pub wrote_idle : (how : How) (at : ℕ) (pieces : List Piece) → said_unanswered (wrote how at pieces) ≡ 0
wrote_idle how at [] = refl
wrote_idle how at (piece ∷ pieces) =
    let e = wrote_idle how (at + length (spell1 piece)) pieces in
    elim (is_passed how piece) as (λ b. said_unanswered (cond b (wrote how (at + length (spell1 piece)) pieces) (done (ask_of how at piece) ∷ wrote how (at + length (spell1 piece)) pieces)) ≡ 0)
    [ true ↦ e | false ↦ omega (arith, e) ]
