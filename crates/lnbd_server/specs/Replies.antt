-- The bytes of a reply to a request: a simple reply, or one chunk that is the last.
use Rattle.std.specs.Prelude.{ℕ, List, [], ◌∷◌, ◌++◌, length}
use Rattle.lnbd_records.specs.Flags.{reply_flag_done}
use Rattle.lnbd_records.specs.Numbers.{row}
use Rattle.lnbd_records.specs.Transmission.{simple_reply, chunk_head, extended_chunk_head, reply_type_none, reply_type_offset_data, reply_type_block_status, reply_type_block_status_ext, reply_type_error, offset_data, block_status, extended_block_status, error_head}
use Rattle.lnbd_export.specs.Requests.{Reply, Refused, Done, Content, Status}
use Rattle.lnbd_export.specs.declared.request.Replies.{Replies}
use Rattle.lnbd_export.specs.declared.request.Replies.TheVariants.{Simple, Structured, Extended}
use Rattle.lnbd_export.specs.declared.request.Request.{Request}
use Rattle.lnbd_server.specs.Options.{allocation_id}

abbrev pub put_simple : (cookie : ℕ) → Reply → List ℕ
put_simple cookie (Refused error) = row (simple_reply error cookie)
put_simple cookie Done = row (simple_reply 0 cookie)
put_simple cookie (Content bytes) = row (simple_reply 0 cookie) ++ bytes
put_simple cookie (Status descriptors) = row (simple_reply 0 cookie)

-- a chunk's type and payload
pub record Chunk : Type 0 where
  pub type : ℕ
  pub payload : List ℕ

abbrev pub nothing : Chunk
nothing = record { type = reply_type_none; payload = [] }

-- a read of no bytes has no chunk of data
abbrev pub content_chunk : (offset : ℕ) → List ℕ → Chunk
content_chunk offset [] = nothing
content_chunk offset (byte ∷ bytes) = record { type = reply_type_offset_data; payload = row (offset_data offset) ++ (byte ∷ bytes) }

-- an error has no message
abbrev pub error_chunk : ℕ → Chunk
error_chunk error = record { type = reply_type_error; payload = row (error_head error 0) }

abbrev pub chunk_of : (offset : ℕ) → Reply → Chunk
chunk_of offset (Refused error) = error_chunk error
chunk_of offset Done = nothing
chunk_of offset (Content bytes) = content_chunk offset bytes
chunk_of offset (Status descriptors) = record { type = reply_type_block_status; payload = row (block_status allocation_id descriptors) }

-- with extended headers the numbers of descriptors are longer
abbrev pub extended_chunk_of : (offset : ℕ) → Reply → Chunk
extended_chunk_of offset (Refused error) = error_chunk error
extended_chunk_of offset Done = nothing
extended_chunk_of offset (Content bytes) = content_chunk offset bytes
extended_chunk_of offset (Status descriptors) = record { type = reply_type_block_status_ext; payload = row (extended_block_status allocation_id descriptors) }

abbrev pub put_chunk : (cookie : ℕ) → Chunk → List ℕ
put_chunk cookie chunk = row (chunk_head reply_flag_done chunk.type cookie (length chunk.payload)) ++ chunk.payload

abbrev pub put_extended : (cookie offset : ℕ) → Chunk → List ℕ
put_extended cookie offset chunk = row (extended_chunk_head reply_flag_done chunk.type cookie offset (length chunk.payload)) ++ chunk.payload

-- a chunk in the form that is agreed; simple replies have none
abbrev pub put_framed : Replies → Request → Chunk → List ℕ
put_framed Simple request chunk = []
put_framed Structured request chunk = put_chunk request.cookie chunk
put_framed Extended request chunk = put_extended request.cookie request.offset chunk

-- the bytes of a reply, by which form of replies is agreed
abbrev pub put_reply : Replies → Request → Reply → List ℕ
put_reply Simple request reply = put_simple request.cookie reply
put_reply Structured request reply = put_chunk request.cookie (chunk_of request.offset reply)
put_reply Extended request reply = put_extended request.cookie request.offset (extended_chunk_of request.offset reply)
