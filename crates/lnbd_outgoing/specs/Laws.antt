-- Laws of a queue of pieces.
use Rattle.std.specs.Prelude.{◌≡◌, List, [], ◌∷◌, length}
use Rattle.lnbd_history.specs.Outgoing.{out}
use Rattle.lnbd_outgoing.specs.declared.piece.Piece.{Piece}
use Rattle.lnbd_outgoing.specs.Pieces.{Writes, part_of}
use Rattle.lnbd_outgoing.specs.Queue.{Queue, waits, left, AllFit}

-- The writes that these pieces name have the same own bytes.
abbrev pub AgreeOn : Writes → Writes → List Piece → Type 0
AgreeOn old new [] = Unit {0}
AgreeOn old new (piece ∷ pieces) = (part_of new piece ≡ part_of old piece) × AgreeOn old new pieces

-- Where other writes come, go or change, the same waits to go out.
abbrev pub OthersWait : Type 0
OthersWait = (old new : Writes) (q : Queue) → AgreeOn old new q.pieces → waits new q ≡ waits old q

-- And those that are named have as many bytes as before.
abbrev pub OthersFit : Type 0
OthersFit = (old new : Writes) (pieces : List Piece) → AgreeOn old new pieces → AllFit old pieces → AllFit new pieces

-- How many bytes are left is how many are offered.
abbrev pub LeftIsOffered : Type 0
LeftIsOffered = (writes : Writes) (q : Queue) → AllFit writes q.pieces → left q ≡ length (out (waits writes q))
