-- Laws of what commands come to.
use Rattle.std.specs.Prelude.{◌≡◌, ℕ, true, List, ◌∷◌, ◌++◌, None}
use Rattle.lnbd_outcome.specs.Pieces.{Query, Piece, content_of, has_place, byte_of}
use Rattle.lnbd_outcome.specs.Faults.{byte_told}
use Rattle.lnbd_outcome.specs.Outcome.{error_number, failure}
use Rattle.lnbd_outcome.specs.Facts.{Same, facts_of, without_payload}

-- The number of a failure isn't 0: where it is, there is none.
abbrev pub FailuresHaveNumbers : Type 0
FailuresHaveNumbers = (query : Query) (pieces : List Piece) → error_number (failure query pieces) ≡ 0 → failure query pieces ≡ None

-- Where a command has no error, the byte at a place is that of the content that has the place, whichever it is and whatever came before and after it.
abbrev pub ContentIsHeld : Type 0
ContentIsHeld =
    (query : Query) (later earlier : List Piece) (piece : Piece) (p : ℕ) → error_number (failure query (later ++ piece ∷ earlier)) ≡ 0 → has_place (content_of piece.item) p ≡ true →
    byte_told query (later ++ piece ∷ earlier) p ≡ byte_of (content_of piece.item) p

-- The facts that are kept say what all that came says.
abbrev pub FactsStand : Type 0
FactsStand = (query : Query) (pieces : List Piece) → Same query pieces (facts_of (without_payload query) pieces)
