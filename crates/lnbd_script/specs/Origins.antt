-- Where a command's first error came from is told by what its chunk or extents callback was told and answered, and by the number of the error.
use Rattle.std.specs.Prelude.{◌≡◌, ◌<◌, ℕ, Bool, true, false, not, ◌==◌, ◌&&◌, ◌||◌, List, [], ◌∷◌, Option, Some, None}
use Rattle.lnbd_outcome.specs.Hearing.{Hearing, Chunk, Extents, hearing}
use Rattle.lnbd_outcome.specs.Outcome.{error_number, failure}
use Rattle.lnbd_outcome.specs.Pieces.{Query, Piece, content_of, is_error, number_of}
use Rattle.lnbd_script.specs.Kept.{failure_of}

-- A callback that was told no error and answers one, 0 being none, is the first to fail its command.
abbrev pub fails_by : Option Hearing → (answered : ℕ) → Bool
fails_by None answered = false
fails_by (Some (Chunk bytes offset status error)) answered = (error == 0) && not (answered == 0)
fails_by (Some (Extents context offset entries error)) answered = (error == 0) && not (answered == 0)

abbrev pub fails_itself : Query → List Piece → Bool
fails_itself query [] = false
fails_itself query (piece ∷ earlier) = fails_itself query earlier || fails_by (hearing query earlier piece.contexts piece.item) piece.heard

-- A callback answers only where it is called, and an error that the peer tells is one.
pub record IsHeard (query : Query) (earlier : List Piece) (piece : Piece) : Type 0 where
  pub called : hearing query earlier piece.contexts piece.item ≡ None → piece.heard ≡ 0
  pub told : is_error (content_of piece.item) ≡ true → 0 < number_of (content_of piece.item)

abbrev pub AreHeard : Query → List Piece → Type 0
AreHeard query [] = Unit {0}
AreHeard query (piece ∷ earlier) = IsHeard query earlier piece × AreHeard query earlier

-- For every command its first error came from where it is counted.
abbrev pub OriginsAreTold : Type 0
OriginsAreTold = (query : Query) (pieces : List Piece) → AreHeard query pieces → failure query pieces ≡ failure_of (fails_itself query pieces) (error_number (failure query pieces))
