-- Pieces, and the parts that they stand for.
use Rattle.std.specs.Prelude.{◌≡◌, ℕ, Bool, true, false, List, length, Option, Some, None}
use Rattle.lnbd_history.specs.Outgoing.{Part, plain, last_of}
use Rattle.lnbd_outgoing.specs.declared.piece.RequestBytes.{RequestBytes}
use Rattle.lnbd_outgoing.specs.declared.piece.RequestBytes.TheVariants.{Compact, Extended}
use Rattle.lnbd_outgoing.specs.declared.piece.Piece.{Piece}
use Rattle.lnbd_outgoing.specs.declared.piece.Piece.TheVariants.{Text, Abort, Whole, Head, Own}

-- the own bytes of each write, by its cookie
abbrev pub Writes : Type 0
Writes = ℕ → List ℕ

-- a request's head, whether extended headers are on or off
abbrev pub head_bytes : RequestBytes → List ℕ
head_bytes (Compact bytes) = bytes
head_bytes (Extended bytes) = bytes

abbrev pub part_of : Writes → Piece → Part
part_of writes (Text bytes) = plain bytes
part_of writes (Abort bytes) = plain bytes
part_of writes (Whole head) = last_of (head_bytes head)
part_of writes (Head head) = plain (head_bytes head)
part_of writes (Own cookie size) = last_of (writes cookie)

-- how many bytes a piece was queued with
abbrev pub size_of : Piece → ℕ
size_of (Text bytes) = length bytes
size_of (Abort bytes) = length bytes
size_of (Whole head) = length (head_bytes head)
size_of (Head head) = length (head_bytes head)
size_of (Own cookie size) = size

-- A write has as many own bytes as its piece was queued with.
abbrev pub Fits : Writes → Piece → Type 0
Fits writes (Text bytes) = Unit {0}
Fits writes (Abort bytes) = Unit {0}
Fits writes (Whole head) = Unit {0}
Fits writes (Head head) = Unit {0}
Fits writes (Own cookie size) = length (writes cookie) ≡ size

-- whether a command ends with a piece
abbrev pub ends_of : Piece → Bool
ends_of (Text bytes) = false
ends_of (Abort bytes) = false
ends_of (Whole head) = true
ends_of (Head head) = false
ends_of (Own cookie size) = true

-- the cookie of the write whose own bytes a piece names
abbrev pub write_of : Piece → Option ℕ
write_of (Text bytes) = None
write_of (Abort bytes) = None
write_of (Whole head) = None
write_of (Head head) = None
write_of (Own cookie size) = Some cookie

-- these are the own bytes of the write that the piece names, if it names one
abbrev pub AreOwn : Writes → Piece → List ℕ → Type 0
AreOwn writes piece own = (cookie : ℕ) → write_of piece ≡ Some cookie → own ≡ writes cookie
