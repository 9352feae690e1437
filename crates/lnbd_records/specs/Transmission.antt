-- The records of the transmission phase: the protocol's "Request message", "Simple reply message" and "Structured reply chunk message",
-- and with extended headers "Extended request message" and "Extended reply chunk message".
use Rattle.std.specs.Prelude.{◌≡◌, ◌≢◌, ℕ, ◌^◌, ◌<◌, ◌≤◌, List, [], ◌∷◌, ◌++◌, length, flat_map}
use Rattle.lnbd_model.specs.declared.export.Extent.{Extent}
use Rattle.lnbd_records.specs.Flags.{no_cmd_flags}
use Rattle.lnbd_records.specs.Limits.{max_data, max_descriptors, max_text, max_other_error}
use Rattle.lnbd_records.specs.Numbers.{Field, number, row, IsRow, IsRowThen}

abbrev pub request_magic : ℕ
request_magic = 0x25609513

abbrev pub simple_reply_magic : ℕ
simple_reply_magic = 0x67446698

abbrev pub structured_reply_magic : ℕ
structured_reply_magic = 0x668e33ef

abbrev pub extended_request_magic : ℕ
extended_request_magic = 0x21e41c71

abbrev pub extended_reply_magic : ℕ
extended_reply_magic = 0x6e8a278c

-- a request up to its data
abbrev pub request : (flags type cookie offset length : ℕ) → List Field
request flags type cookie offset length =
    number 4 request_magic ∷ number 2 flags ∷ number 2 type ∷ number 8 cookie ∷ number 8 offset ∷ number 4 length ∷ []

-- the types of WRITE and DISC
abbrev pub type_write : ℕ
type_write = 1

abbrev pub type_disc : ℕ
type_disc = 2

-- DISC, the request that ends a session: beside its type all is 0
abbrev pub disconnect : List Field
disconnect = request no_cmd_flags type_disc 0 0 0

-- a simple reply up to its data
abbrev pub simple_reply : (error cookie : ℕ) → List Field
simple_reply error cookie = number 4 simple_reply_magic ∷ number 4 error ∷ number 8 cookie ∷ []

-- a structured reply chunk up to its payload
abbrev pub chunk_head : (flags type cookie length : ℕ) → List Field
chunk_head flags type cookie length =
    number 4 structured_reply_magic ∷ number 2 flags ∷ number 2 type ∷ number 8 cookie ∷ number 4 length ∷ []

-- The same with extended headers.

-- an extended request up to its data
abbrev pub extended_request : (flags type cookie offset length : ℕ) → List Field
extended_request flags type cookie offset length =
    number 4 extended_request_magic ∷ number 2 flags ∷ number 2 type ∷ number 8 cookie ∷ number 8 offset ∷ number 8 length ∷ []

-- DISC with extended headers
abbrev pub extended_disconnect : List Field
extended_disconnect = extended_request no_cmd_flags type_disc 0 0 0

-- an extended reply chunk up to its payload
abbrev pub extended_chunk_head : (flags type cookie offset length : ℕ) → List Field
extended_chunk_head flags type cookie offset length =
    number 4 extended_reply_magic ∷ number 2 flags ∷ number 2 type ∷ number 8 cookie ∷ number 8 offset ∷ number 8 length ∷ []

-- how many bytes the heads take
abbrev pub simple_head_size : ℕ
simple_head_size = 16

abbrev pub chunk_head_size : ℕ
chunk_head_size = 20

abbrev pub extended_head_size : ℕ
extended_head_size = 32

-- The types of chunks, by the standard's names; bit 15 is set for errors.

abbrev pub reply_type_none : ℕ
reply_type_none = 0

abbrev pub reply_type_offset_data : ℕ
reply_type_offset_data = 1

abbrev pub reply_type_offset_hole : ℕ
reply_type_offset_hole = 2

abbrev pub reply_type_block_status : ℕ
reply_type_block_status = 5

abbrev pub reply_type_block_status_ext : ℕ
reply_type_block_status_ext = 6

abbrev pub first_reply_type_error : ℕ
first_reply_type_error = 32768

abbrev pub reply_type_error : ℕ
reply_type_error = 32769

abbrev pub reply_type_error_offset : ℕ
reply_type_error_offset = 32770

-- The payloads of chunks.

-- content: its place in the export (and then the bytes)
abbrev pub offset_data : ℕ → List Field
offset_data offset = number 8 offset ∷ []

-- zeros: their place in the export, and how many
abbrev pub offset_hole : (offset size : ℕ) → List Field
offset_hole offset size = number 8 offset ∷ number 4 size ∷ []

-- a block status descriptor: how many bytes, and their status flags
abbrev pub descriptor : (length flags : ℕ) → List Field
descriptor length flags = number 4 length ∷ number 4 flags ∷ []

-- a block status: the meta context's id, and the descriptors
abbrev pub block_status : ℕ → List Extent → List Field
block_status context descriptors = number 4 context ∷ flat_map (λ d. descriptor d.length d.flags) descriptors

-- The same with extended headers: a descriptor's numbers are longer, and how many descriptors there are stands before them.
abbrev pub extended_descriptor : (length flags : ℕ) → List Field
extended_descriptor length flags = number 8 length ∷ number 8 flags ∷ []

abbrev pub extended_block_status : ℕ → List Extent → List Field
extended_block_status context descriptors =
    number 4 context ∷ number 4 (length descriptors) ∷ flat_map (λ d. extended_descriptor d.length d.flags) descriptors

-- an error up to its message
abbrev pub error_head : (error message_length : ℕ) → List Field
error_head error message_length = number 4 error ∷ number 2 message_length ∷ []

pub data Payload : Type 0 where
  Nothing : Payload
  Data : (offset : ℕ) → (bytes : List ℕ) → Payload
  Hole : (offset size : ℕ) → Payload
  Status : (context : ℕ) → (descriptors : List Extent) → Payload
  ExtendedStatus : (context : ℕ) → (descriptors : List Extent) → Payload
  Error : (error : ℕ) → (message : List ℕ) → Payload
  ErrorAt : (error : ℕ) → (message : List ℕ) → (offset : ℕ) → Payload
  -- an error of another type, whose bytes after the message aren't known
  OtherError : (error : ℕ) → (message rest : List ℕ) → Payload

-- an error's bytes: its head, a message that isn't too long, and what follows it
abbrev pub IsError : ℕ → List ℕ → List ℕ → List ℕ → Type 0
IsError error message rest bytes = (length message ≤ max_text) × IsRowThen (error_head error (length message)) (message ++ rest) bytes

-- The payload of a chunk of this type. Bit 15 of the type is set for errors.
abbrev pub IsPayload : ℕ → List ℕ → Payload → Type 0
IsPayload type bytes Nothing = (type ≡ reply_type_none) × (bytes ≡ [])
IsPayload type bytes (Data offset content) =
    (type ≡ reply_type_offset_data) × (1 ≤ length content) × (length content ≤ max_data) × IsRowThen (offset_data offset) content bytes
IsPayload type bytes (Hole offset size) = (type ≡ reply_type_offset_hole) × IsRow (offset_hole offset size) bytes
IsPayload type bytes (Status context descriptors) =
    (type ≡ reply_type_block_status) × (1 ≤ length descriptors) × (length descriptors ≤ max_descriptors) × IsRow (block_status context descriptors) bytes
IsPayload type bytes (ExtendedStatus context descriptors) =
    (type ≡ reply_type_block_status_ext) × (1 ≤ length descriptors) × (length descriptors ≤ max_descriptors) × IsRow (extended_block_status context descriptors) bytes
IsPayload type bytes (Error error message) = (type ≡ reply_type_error) × IsError error message [] bytes
IsPayload type bytes (ErrorAt error message offset) = (type ≡ reply_type_error_offset) × IsError error message (row (number 8 offset ∷ [])) bytes × (offset < 2 ^ 64)
IsPayload type bytes (OtherError error message rest) =
    (first_reply_type_error ≤ type) × (type < 2 ^ 16) × (type ≢ reply_type_error) × (type ≢ reply_type_error_offset) × IsError error message rest bytes × (length bytes ≤ max_other_error)
