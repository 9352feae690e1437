-- Bytes of the worked transcripts.
use Rattle.std.specs.Prelude.{ℕ, List, [], ◌∷◌, ◌++◌, length, codes}
use Rattle.lnbd_model.specs.declared.export.Extent.{Extent}
use Rattle.lnbd_records.specs.Numbers.{number, row, number_at}
use Rattle.lnbd_records.specs.Handshake as handshake
use Rattle.lnbd_records.specs.Handshake.{option_head, option_reply_head, export_name_reply}
use Rattle.lnbd_records.specs.Requests.{info_request, meta_request, asked_of}
use Rattle.lnbd_records.specs.Replies.{body_of, are_blocks}
use Rattle.lnbd_records.specs.Transmission.{request, extended_request, disconnect, simple_reply, chunk_head, extended_chunk_head, offset_data, block_status, extended_block_status}
use Rattle.std.specs.Str.{chars, is_utf8}
use Rattle.std.specs.Char.{encode_utf8}
use Rattle.lnbd_stream.specs.Grammar.{once, wants}
use Rattle.lnbd_chunks.specs.Chunk.{shows_data, shows_hole, shows_status, shows_extended_status, shows_error, shows_chunk}
use Rattle.lnbd_chunks.specs.Reply.{shows_simple, shows_chunk_for, shows_compact, shows_extended, shows_reply}
use Rattle.lnbd_history.specs.Arrivals.{shows_hello, shows_option, shows_by_name, shows_frame}
use Rattle.lnbd_asked.specs.Client.{says_flags, says_option, says_request, says_next, type_write}

-- what is unfolded so that bytes are computed with
unfoldable pub computing : Unit {0}
unfolding once wants number_at row body_of are_blocks is_utf8 chars encode_utf8 shows_hello shows_option shows_by_name shows_frame shows_reply shows_compact shows_extended shows_simple shows_chunk_for shows_chunk shows_data shows_hole shows_status shows_extended_status shows_error says_flags says_option says_request says_next asked_of
computing = tt

-- The other types of a request, and no flags of it.

abbrev pub type_read : ℕ
type_read = 0

abbrev pub type_zeroes : ℕ
type_zeroes = 6

abbrev pub type_status : ℕ
type_status = 7

abbrev pub no_flags : ℕ
no_flags = 0

-- What a server sends first, with both flags.
abbrev pub hello : List ℕ
hello = row (handshake.hello 3)

-- What a client asks: its flags, EXPORT_NAME (1) and GO (7) for the export a, STRUCTURED_REPLY (8), SET_META_CONTEXT (10) for base:allocation, EXTENDED_HEADERS (11).

abbrev pub flags : List ℕ
flags = row (handshake.client_flags 3)

abbrev pub option : ℕ → List ℕ → List ℕ
option which body = row (option_head which (length body)) ++ body

abbrev pub by_name : List ℕ
by_name = option 1 (0x61 ∷ [])

abbrev pub go : List ℕ
go = option 7 (info_request (0x61 ∷ []) (1 ∷ 2 ∷ 3 ∷ []))

abbrev pub structured : List ℕ
structured = option 8 []

abbrev pub allocation : List ℕ
allocation = codes "base:allocation"

abbrev pub meta : List ℕ
meta = option 10 (meta_request (0x61 ∷ []) (allocation ∷ []))

abbrev pub extended : List ℕ
extended = option 11 []

-- Replies: ACK, UNSUP, to GO an export of this size, the reply to EXPORT_NAME, and to SET_META_CONTEXT the id 1.

abbrev pub ack : ℕ → List ℕ
ack which = row (option_reply_head which 1 0)

abbrev pub unsup : ℕ → List ℕ
unsup which = row (option_reply_head which 0x80000001 0)

abbrev pub gone_to : ℕ → List ℕ
gone_to size = row (option_reply_head 7 3 12) ++ row (number 2 0 ∷ number 8 size ∷ number 2 1 ∷ []) ++ ack 7

abbrev pub by_name_reply : List ℕ
by_name_reply = row (export_name_reply 4 1)

abbrev pub context_told : List ℕ
context_told = row (option_reply_head 10 4 19) ++ row (number 4 1 ∷ []) ++ allocation ++ ack 10

-- Requests: a READ of 2 bytes from 1 on, a WRITE of the bytes 5 and 6 to 0, a BLOCK_STATUS of 4 bytes from 0 on, a WRITE_ZEROES of 2 bytes from
-- 0 on under cookie 2, and DISC.

abbrev pub read : List ℕ
read = row (request no_flags type_read 1 1 2)

abbrev pub write : List ℕ
write = row (request no_flags type_write 1 0 2) ++ 5 ∷ 6 ∷ []

abbrev pub status : List ℕ
status = row (request no_flags type_status 1 0 4)

abbrev pub zeroes : List ℕ
zeroes = row (request no_flags type_zeroes 2 0 2)

abbrev pub disc : List ℕ
disc = row disconnect

-- With extended headers the same BLOCK_STATUS, the same WRITE, and one without PAYLOAD_LEN.

abbrev pub extended_status : List ℕ
extended_status = row (extended_request no_flags type_status 1 0 4)

abbrev pub extended_write : List ℕ
extended_write = row (extended_request 0x20 type_write 1 0 2) ++ 5 ∷ 6 ∷ []

abbrev pub lacking_write : List ℕ
lacking_write = row (extended_request no_flags type_write 1 0 2) ++ 5 ∷ 6 ∷ []

-- Simple replies to 1: done, with these bytes, and EIO.

abbrev pub done : List ℕ
done = row (simple_reply 0 1)

abbrev pub done_with : List ℕ → List ℕ
done_with bytes = done ++ bytes

abbrev pub failed : List ℕ
failed = row (simple_reply 5 1)

-- Chunks for 1: the bytes 8 and 9 of the READ, the later first; the status of one byte and three; and with extended headers, the end.

abbrev pub chunks_8_9 : List ℕ
chunks_8_9 = row (chunk_head 0 1 1 9) ++ row (offset_data 2) ++ 9 ∷ row (chunk_head 1 1 1 9) ++ row (offset_data 1) ++ 8 ∷ []

abbrev pub extent : (length flags : ℕ) → Extent
extent length flags = record { length = length; flags = flags }

abbrev pub status_told : List ℕ
status_told = row (chunk_head 1 5 1 20) ++ row (block_status 1 (extent 1 0 ∷ extent 3 3 ∷ []))

abbrev pub extended_done : List ℕ
extended_done = row (extended_chunk_head 1 0 1 0 0)

abbrev pub extended_status_told : List ℕ
extended_status_told = row (extended_chunk_head 1 6 1 0 40) ++ row (extended_block_status 1 (extent 1 0 ∷ extent 3 3 ∷ []))
