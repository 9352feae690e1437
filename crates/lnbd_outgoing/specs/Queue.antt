-- A queue of pieces.
use Rattle.std.specs.Prelude.{◌≡◌, ℕ, ◌+◌, ◌-◌, ◌<◌, Bool, false, List, [], ◌∷◌, ◌++◌, map, drop, Option, Some, None, if◌then◌else◌, nat_lt}
use Rattle.lnbd_history.specs.Outgoing.{Part}
use Rattle.lnbd_outgoing.specs.declared.piece.Piece.{Piece}
use Rattle.lnbd_outgoing.specs.Pieces.{Writes, part_of, size_of, ends_of, write_of, Fits}

-- the pieces, how many bytes of the first have gone out, for how many pieces more there is room beside the last of all,
-- and whether that one was queued
pub record Queue : Type 0 where
  pub pieces : List Piece
  pub cursor : ℕ
  pub room : ℕ
  pub ended : Bool

-- the parts without the bytes of the first that have gone out
abbrev pub cut : ℕ → List Part → List Part
cut n [] = []
cut n (part ∷ parts) = record { bytes = drop n part.bytes; ends = part.ends } ∷ parts

-- what waits to go out
abbrev pub waits : Writes → Queue → List Part
waits writes q = cut q.cursor (map (part_of writes) q.pieces)

-- Each write has as many own bytes as it was queued with.
abbrev pub AllFit : Writes → List Piece → Type 0
AllFit writes [] = Unit {0}
AllFit writes (piece ∷ pieces) = Fits writes piece × AllFit writes pieces

-- how many bytes of the first piece have not gone out
abbrev pub left_of : ℕ → List Piece → ℕ
left_of cursor [] = 0
left_of cursor (piece ∷ pieces) = size_of piece - cursor

abbrev pub left : Queue → ℕ
left q = left_of q.cursor q.pieces

-- the cookie of the write whose own bytes come first
abbrev pub first_write : List Piece → Option ℕ
first_write [] = None
first_write (piece ∷ pieces) = write_of piece

-- these are the own bytes of the write that comes first, if one does
abbrev pub AreFirstOwn : Writes → List Piece → List ℕ → Type 0
AreFirstOwn writes pieces own = (cookie : ℕ) → first_write pieces ≡ Some cookie → own ≡ writes cookie

-- The cursor stands within the first piece, and no piece is empty.
abbrev pub IsWithin : ℕ → List Piece → Type 0
IsWithin n [] = n ≡ 0
IsWithin n (piece ∷ pieces) = n < size_of piece

abbrev pub AllFull : List Piece → Type 0
AllFull [] = Unit {0}
AllFull (piece ∷ pieces) = (0 < size_of piece) × AllFull pieces

-- a piece is queued behind the others
abbrev pub pushed : Piece → Queue → Queue
pushed piece q = record q { pieces = q.pieces ++ piece ∷ [] }

-- the pieces that are left where so many bytes more of the first have gone out
abbrev pub left_after : ℕ → (cursor : ℕ) → List Piece → List Piece
left_after n cursor [] = []
left_after n cursor (piece ∷ pieces) = if nat_lt (cursor + n) (size_of piece) then piece ∷ pieces else pieces

-- and whether a command ends with them
abbrev pub ends_after : ℕ → (cursor : ℕ) → List Piece → Bool
ends_after n cursor [] = false
ends_after n cursor (piece ∷ pieces) = if nat_lt (cursor + n) (size_of piece) then false else ends_of piece
