-- The heads of the transmission phase, and what is read where one is wanted.
use Rattle.std.specs.Prelude.{◌≡◌, ℕ, ◌≤◌, List, [], ◌∷◌, length}
use Rattle.lnbd_records.specs.Numbers.{Field, number, number_at, IsRow, Begins}
use Rattle.lnbd_records.specs.Fronts.{Front, Whole, Short, Other, IsShort, HasOther}
use Rattle.lnbd_records.specs.Transmission.{request, simple_reply, chunk_head, extended_request, extended_chunk_head}
use Rattle.lnbd_wire.specs.declared.chunk.ChunkHead.{ChunkHead}
use Rattle.lnbd_wire.specs.declared.extended_chunk.ExtHead.{ExtHead}
use Rattle.lnbd_wire.specs.declared.extended_request.ExtRequest.{ExtRequest}
use Rattle.lnbd_wire.specs.declared.request.RequestHead.{RequestHead}
use Rattle.lnbd_wire.specs.declared.simple.SimpleHead.{SimpleHead}
use Rattle.lnbd_wire.specs.declared.read.Judged.{Judged}
use Rattle.lnbd_wire.specs.declared.read.Judged.TheVariants as judged
use Rattle.lnbd_wire.specs.declared.read.Read.{Read}
use Rattle.lnbd_wire.specs.declared.read.Read.TheVariants.{Value, NeedMore, BadMagic}
use Rattle.lnbd_wire.specs.declared.read.Start.{Start}

abbrev pub simple_fields : SimpleHead → List Field
simple_fields head = simple_reply head.error head.cookie

abbrev pub chunk_fields : ChunkHead → List Field
chunk_fields head = chunk_head head.flags head.kind head.cookie head.length

abbrev pub request_fields : RequestHead → List Field
request_fields head = request head.flags head.kind head.cookie head.offset head.length

abbrev pub extended_chunk_fields : ExtHead → List Field
extended_chunk_fields head = extended_chunk_head head.flags head.kind head.cookie head.offset head.length

abbrev pub extended_request_fields : ExtRequest → List Field
extended_request_fields head = extended_request head.flags head.kind head.cookie head.offset head.length

-- what is said of the front of some bytes
abbrev pub front_of : {T : Type 0} → Read T → Front T
front_of (Value head) = Whole head
front_of NeedMore = Short
front_of (BadMagic other) = Other other

-- the same before the fields behind the magic are read
abbrev pub IsJudged : (magic size : ℕ) → List ℕ → Judged → Type 0
IsJudged magic size bytes judged.Whole = (size ≤ length bytes) × Begins (IsRow (number 4 magic ∷ [])) bytes
IsJudged magic size bytes judged.NeedMore = IsShort 4 magic size bytes
IsJudged magic size bytes (judged.BadMagic other) = HasOther 4 magic other bytes

-- All bytes of a head are there, behind its magic these numbers.
pub record BeginsWith (magic size : ℕ) (bytes : List ℕ) (start : Start) : Type 0 where
  pub there : size ≤ length bytes
  pub magic_there : Begins (IsRow (number 4 magic ∷ [])) bytes
  pub flags : start.flags ≡ number_at 4 2 bytes
  pub kind : start.kind ≡ number_at 6 2 bytes
  pub cookie : start.cookie ≡ number_at 8 8 bytes

-- the same as what is judged, where a head begins so
abbrev pub IsStarted : (magic size : ℕ) → List ℕ → Read Start → Type 0
IsStarted magic size bytes (Value start) = BeginsWith magic size bytes start
IsStarted magic size bytes NeedMore = IsShort 4 magic size bytes
IsStarted magic size bytes (BadMagic other) = HasOther 4 magic other bytes
