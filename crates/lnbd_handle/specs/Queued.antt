-- What is queued of a request.
use Rattle.std.specs.Prelude.{ℕ, ◌==◌, List, [], ◌∷◌, if◌then◌else◌}
use Rattle.lnbd_history.specs.Outgoing.{Part, plain, last_of}
use Rattle.lnbd_outgoing.specs.declared.piece.Piece.{Piece}
use Rattle.lnbd_outgoing.specs.declared.piece.Piece.TheVariants.{Whole, Head, Own}
use Rattle.lnbd_outgoing.specs.declared.piece.RequestBytes.{RequestBytes}

-- a request with a head, and so many bytes behind it
abbrev pub pieces_of : RequestBytes → (cookie size : ℕ) → List Piece
pieces_of head cookie size = if size == 0 then Whole head ∷ [] else Head head ∷ Own cookie size ∷ []

abbrev pub parts_of : (head : List ℕ) → (size : ℕ) → (own : List ℕ) → List Part
parts_of head size own = if size == 0 then last_of head ∷ [] else plain head ∷ last_of own ∷ []
