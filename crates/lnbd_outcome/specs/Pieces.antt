-- What was asked by one command, and what came for it.
use Rattle.std.specs.Prelude.{ℕ, ◌-◌, Bool, true, false, ◌||◌, List, [], ◌∷◌, length, replicate, get_or}
use Rattle.lnbd_extents.specs.Positions.{within}
use Rattle.lnbd_model.specs.declared.export.Context.{Context as MetaContext}
use Rattle.lnbd_model.specs.declared.kind.Kind.{Kind}
use Rattle.lnbd_records.specs.Content.{Content, Data, Hole, Status, Error, ErrorAt, Nothing, Bare}
use Rattle.lnbd_records.specs.Numbers.{has_bit}
use Rattle.lnbd_records.specs.Flags.{cmd_flag_df, cmd_flag_req_one}

-- What was asked.

-- the kind, the command flags, the range, and the bytes to be written
pub record Query : Type 0 where
  pub kind : Kind
  pub flags : ℕ
  pub offset : ℕ
  pub length : ℕ
  pub payload : List ℕ

-- DF (4): one chunk has the content of the whole read.
abbrev pub is_whole : Query → Bool
is_whole query = has_bit cmd_flag_df query.flags

-- REQ_ONE (8): one descriptor is told for each context.
abbrev pub is_single : Query → Bool
is_single query = has_bit cmd_flag_req_one query.flags

-- What came.

-- a frame, and whether it is the last; or that the connection died; or that the handle was closed
pub data Item : Type 0 where
  Framed : Content → Bool → Item
  Lost : Item
  Dropped : Item

-- an item, with the meta contexts that were agreed when it came, and the error that the command's callback answered to it, 0 being none
pub record Piece : Type 0 where
  pub item : Item
  pub contexts : List MetaContext
  pub heard : ℕ

-- The completion callback is called at a command's end, but not where the handle was closed.
abbrev pub completes : Item → Bool
completes (Framed content last) = last
completes Lost = true
completes Dropped = false

-- what ends a command
abbrev pub ends : Item → Bool
ends (Framed content last) = last
ends Lost = true
ends Dropped = true

-- the last frame
abbrev pub is_last : Item → Bool
is_last (Framed content last) = last
is_last Lost = false
is_last Dropped = false

abbrev pub content_of : Item → Content
content_of (Framed content last) = content
content_of Lost = Nothing
content_of Dropped = Nothing

-- Content of a read: data and zeros.

abbrev pub is_content : Content → Bool
is_content (Data offset bytes) = true
is_content (Hole offset size) = true
is_content (Status context descriptors) = false
is_content (Error number) = false
is_content (ErrorAt number offset) = false
is_content Nothing = false
is_content Bare = false

-- from which place of the export on
abbrev pub start_of : Content → ℕ
start_of (Data offset bytes) = offset
start_of (Hole offset size) = offset
start_of (Status context descriptors) = 0
start_of (Error number) = 0
start_of (ErrorAt number offset) = 0
start_of Nothing = 0
start_of Bare = 0

abbrev pub bytes_of : Content → List ℕ
bytes_of (Data offset bytes) = bytes
bytes_of (Hole offset size) = replicate size 0
bytes_of (Status context descriptors) = []
bytes_of (Error number) = []
bytes_of (ErrorAt number offset) = []
bytes_of Nothing = []
bytes_of Bare = []

-- how many bytes
abbrev pub size_of : Content → ℕ
size_of (Data offset bytes) = length bytes
size_of (Hole offset size) = size
size_of (Status context descriptors) = 0
size_of (Error number) = 0
size_of (ErrorAt number offset) = 0
size_of Nothing = 0
size_of Bare = 0

-- whether it has this place of the export
abbrev pub has_place : Content → ℕ → Bool
has_place content p = within (start_of content, size_of content) p

-- its byte there
abbrev pub byte_of : Content → ℕ → ℕ
byte_of content p = get_or (bytes_of content) (p - start_of content) 0

-- an error that a reply tells
abbrev pub is_error : Content → Bool
is_error (Data offset bytes) = false
is_error (Hole offset size) = false
is_error (Status context descriptors) = false
is_error (Error number) = true
is_error (ErrorAt number offset) = true
is_error Nothing = false
is_error Bare = false

-- its number as the peer told it
abbrev pub number_of : Content → ℕ
number_of (Data offset bytes) = 0
number_of (Hole offset size) = 0
number_of (Status context descriptors) = 0
number_of (Error number) = number
number_of (ErrorAt number offset) = number
number_of Nothing = 0
number_of Bare = 0

-- content came
abbrev pub came : List Piece → Bool
came [] = false
came (piece ∷ earlier) = is_content (content_of piece.item) || came earlier

abbrev pub is_ended : List Piece → Bool
is_ended [] = false
is_ended (piece ∷ earlier) = ends piece.item || is_ended earlier

-- its last frame came, or the connection died before
abbrev pub is_completed : List Piece → Bool
is_completed [] = false
is_completed (piece ∷ earlier) = completes piece.item || is_completed earlier
