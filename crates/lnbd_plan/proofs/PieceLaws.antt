-- Pieces, one after another.
use Rattle.std.proofs.Common.{◌≡◌, ℕ, ◌+◌, ◌-◌, ◌<◌, ◌≤◌, ◌↔◌, Bool, false, List, [], ◌∷◌, ◌++◌, length, get_or, take, subst, sym, ◌∙◌, ap, refl, inl, inr, arith, IsTrue, append_assoc}
use Rattle.std.proofs.lemmas.List.{take-append-le, length-take, append-nil}
use Rattle.lnbd_plan.specs.declared.grid.Slice.{Slice}
use Rattle.lnbd_plan.specs.Slices.{slice, slices_of}
use Rattle.lnbd_plan.specs.Blocks.{in_zero_block, IsBlockEnd, IsPieceEnd}
use Rattle.lnbd_plan.proofs.BlockLaws.{look_told, choose}
use Rattle.lnbd_plan.proofs.SliceLaws.{run_first}
use Rattle.lnbd_plan.proofs.SliceLaws.Ends.{Nothing, Other}

pub first_told : (b start : ℕ) (bytes : List ℕ) (end : ℕ) (z : Bool) → 0 < b → IsBlockEnd b start (length bytes) 0 end
    → (IsTrue z ↔ ((i : ℕ) → i < length (take end bytes) → get_or (take end bytes) i 0 ≡ 0))
    → 0 < length bytes → in_zero_block b start bytes (start + 0) ≡ z
first_told b start bytes end z some is_end iff lt =
    let e : end ≡ end - 0 = omega arith in
    look_told b start bytes 0 end z some (inl refl) lt is_end
    (subst (λ (n : ℕ). IsTrue z ↔ ((i : ℕ) → i < length (take n bytes) → get_or (take n bytes) i 0 ≡ 0)) e iff)

pub from_start : (told cut : ℕ → Bool) (s n : ℕ) → slices_of told cut (s + 0) (n - 0) ≡ slices_of told cut s n
from_start told cut s n =
    let a : s ≡ s + 0 = omega arith in
    let b : n ≡ n - 0 = omega arith in
    subst (λ (m : ℕ). slices_of told cut m (n - 0) ≡ slices_of told cut s n) a (subst (λ (m : ℕ). slices_of told cut s m ≡ slices_of told cut s n) b refl)

pub none_left : (told cut : ℕ → Bool) (s n : ℕ) (now all : List Slice) → n ≡ 0 → now ++ slices_of told cut s n ≡ all → now ≡ all
unfolding slices_of
none_left told cut s n now all e h = sym (append-nil now) ∙ subst (λ (m : ℕ). now ++ slices_of told cut s m ≡ all) e h

pub piece_first : (b start : ℕ) (bytes : List ℕ) (from end : ℕ) (z : Bool) → IsPieceEnd b start bytes from z end
    → slices_of (in_zero_block b start bytes) (λ _. false) (start + from) (length bytes - from)
    ≡ slice (start + from) (end - from) z ∷ slices_of (in_zero_block b start bytes) (λ _. false) (start + end) (length bytes - end)
piece_first b start bytes from end z piece =
    let some = piece.some in
    let within = piece.within in
    run_first (in_zero_block b start bytes) (λ _. false) z (start + from) (length bytes - from) (end - from) (start + end) (length bytes - end)
    (omega arith) (omega arith) (omega arith) piece.alike (λ p le lt. refl)
    (elim (choose end (length bytes)) [ inl h ↦ Other (piece.otherwise h) | inr h ↦ Nothing (omega arith) ])

-- what was appended and what is to come, where one more piece is appended
pub pieces_on : (old now all : List Slice) (s : Slice) (rest left : List Slice) → left ≡ s ∷ rest → now ++ left ≡ all → old ≡ now ++ s ∷ [] → old ++ rest ≡ all
pieces_on old now all s rest left is so_far pushed =
    rw pushed (append_assoc now (s ∷ []) rest ∙ ap (λ (l : List Slice). now ++ l) (sym is) ∙ so_far)

pub kept_on : (n : ℕ) (first now old : List Slice) (s : Slice) → take n now ≡ first → n ≡ length first → old ≡ now ++ s ∷ [] → take n old ≡ first
kept_on n first now old s kept count pushed =
    let long : n ≤ length now = omega (arith, ap length kept, length-take n now) in
    rw pushed (take-append-le n now (s ∷ []) long ∙ kept)
