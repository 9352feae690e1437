-- The pieces of a slice that was read are the longest runs, those that are written and those that are left.
use Rattle.std.proofs.Common.{◌≡◌, ℕ, ◌+◌, ◌≤◌, List, [], ◌∷◌, ◌++◌, Bool, refl, ap, sym, subst, ◌∙◌, arith, length, append_assoc, length-append}
use Rattle.lnbd_plan.specs.declared.grid.Slice.{Slice}
use Rattle.lnbd_plan.specs.Laws.{ArePartedBy, LieBetween}
use Rattle.lnbd_plan.proofs.OnceLaws.{ends_up}
use Rattle.lnbd_board.specs.declared.how.How.{How}
use Rattle.lnbd_board.specs.Pieces.{AreLeft, AreRuns, Piece, is_zeros, spell, spell1, stretch, stretches}

pub parted_rest : (cut : ℕ → Bool) (piece : Slice) (left : List Slice) → ArePartedBy cut (piece ∷ left) → ArePartedBy cut left
parted_rest cut piece [] h = tt
parted_rest cut piece (next ∷ left) h = h.1

-- all are left at first
pub runs_left : (how : How) (s : Slice) (bytes : List ℕ) (left : List Slice) → AreLeft how s bytes 0 left → AreRuns how s bytes left
runs_left how s bytes left h =
    let e : s.start + 0 ≡ s.start = omega arith in
    record { between = subst (λ (n : ℕ). LieBetween n (s.start + s.length) left) e h.between; whole = h.whole; parted = h.parted }

-- and none at the end
pub none_between : (from end : ℕ) (left : List Slice) → LieBetween from end left → end ≤ from → left ≡ []
none_between from end [] h l = refl
none_between from end (piece ∷ left) h l = let up = ends_up (from + piece.length) end left h.2 in let some = h.1 in absurd (omega (arith, up, some, l))

-- One more piece.

pub stretches_more : (at to : ℕ) (did : List Piece) (now : Piece) → to ≡ at + length (spell did) → stretches at (did ++ now ∷ []) ≡ stretches at did ++ stretch to now ∷ []
stretches_more at to [] now e = let same : at ≡ to = omega (arith, e) in ap (λ (n : ℕ). stretch n now ∷ []) same
stretches_more at to (piece ∷ did) now e =
    let l = length-append (spell1 piece) (spell did) in
    ap (λ (ss : List Slice). stretch at piece ∷ ss) (stretches_more (at + length (spell1 piece)) to did now (omega (arith, e, l)))

stretch_is : (to : ℕ) (now : Piece) (piece : Slice) → piece.start ≡ to → piece.length ≡ length (spell1 now) → piece.zero ≡ is_zeros now → piece ≡ stretch to now
stretch_is to now piece start size alike =
    ap (λ (n : ℕ). record piece { start = n }) start
    ∙ ap (λ (n : ℕ). (let s : Slice = record { start = to; length = n; zero = piece.zero } in s)) size
    ∙ ap (λ (b : Bool). (let s : Slice = record { start = to; length = length (spell1 now); zero = b } in s)) alike

-- The stretches stay the same when the first of those that are left is written.
pub taken : (at to : ℕ) (did : List Piece) (now : Piece) (piece : Slice) (left : List Slice) → to ≡ at + length (spell did) → piece.start ≡ to → piece.length ≡ length (spell1 now) → piece.zero ≡ is_zeros now →
    stretches at (did ++ now ∷ []) ++ left ≡ stretches at did ++ piece ∷ left
taken at to did now piece left place start size alike =
    ap (λ (ss : List Slice). ss ++ left) (stretches_more at to did now place)
    ∙ append_assoc (stretches at did) (stretch to now ∷ []) left
    ∙ ap (λ (s : Slice). stretches at did ++ s ∷ left) (sym (stretch_is to now piece start size alike))
