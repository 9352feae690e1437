-- What a client writes: its handshake flags, and then option requests and requests, one after another. The magic at its front tells which of
-- the two a thing is. The protocol's "Option haggling", "Request message" and, once extended headers are on, "Extended request message".
use Rattle.std.specs.Prelude.{◌≡◌, ℕ, ◌+◌, Bool, false, not, ◌&&◌, List, [], ◌++◌, length, take, drop, Option, Some, None, if◌then◌else◌, ◌==◌}
use Rattle.lnbd_records.specs.Flags.{cmd_flag_payload_len}
use Rattle.lnbd_records.specs.Numbers.{Field, number_at, row, AllFit, has_bit}
use Rattle.lnbd_records.specs.Handshake.{option_magic, option_head, client_flags}
use Rattle.lnbd_records.specs.Transmission.{request_magic, request, extended_request_magic, extended_request}
pub use Rattle.lnbd_records.specs.Transmission.{type_write}
use Rattle.lnbd_stream.specs.Grammar.{once, wants}

-- an option request
pub record Wish : Type 0 where
  pub option : ℕ
  pub body : List ℕ

-- a request, and the data that follows it
pub record Order : Type 0 where
  pub flags : ℕ
  pub type : ℕ
  pub cookie : ℕ
  pub offset : ℕ
  pub length : ℕ
  pub payload : List ℕ

pub data Said : Type 0 where
  Flags : (flags : ℕ) → Said
  Wishes : Wish → Said
  Orders : Order → Said
  -- these bytes are no client's, and nothing counts after them
  Stray : Said

unfoldable pub says_flags : List ℕ → Option Said
says_flags bytes = once 4 bytes (Some (Flags (number_at 0 4 bytes)))

-- magic (64 bits), option (32), length (32), and that many bytes
unfoldable pub says_option : List ℕ → Option Said
says_option bytes =
    once 8 bytes (wants (number_at 0 8 bytes == option_magic) Stray
    (once 16 bytes (once (16 + number_at 12 4 bytes) bytes
    (Some (Wishes (record { option = number_at 8 4 bytes; body = take (number_at 12 4 bytes) (drop 16 bytes) }))))))

-- Requests.

-- how many bytes follow the head of a request: the data of a WRITE, and with extended headers of each request that has PAYLOAD_LEN
abbrev pub data_size : (extended : Bool) (type flags length : ℕ) → ℕ
data_size extended type flags length = if (if extended then has_bit cmd_flag_payload_len flags else type == type_write) then length else 0

-- with extended headers a WRITE has PAYLOAD_LEN
abbrev pub lacks_data : (extended : Bool) (type flags : ℕ) → Bool
lacks_data extended type flags = extended && (type == type_write) && not (has_bit cmd_flag_payload_len flags)

-- a length has 32 bits, and with extended headers 64
abbrev pub length_size : (extended : Bool) → ℕ
length_size extended = if extended then 8 else 4

abbrev pub head_size : (extended : Bool) → ℕ
head_size extended = 24 + length_size extended

abbrev pub magic_of : (extended : Bool) → ℕ
magic_of extended = if extended then extended_request_magic else request_magic

-- magic (32 bits), flags (16), type (16), cookie (64), offset (64), length, and the data
unfoldable pub says_request : (extended : Bool) → List ℕ → Option Said
says_request extended bytes =
    let flags = number_at 4 2 bytes in
    let type = number_at 6 2 bytes in
    let size = number_at 24 (length_size extended) bytes in
    once (head_size extended) bytes (wants (not (lacks_data extended type flags)) Stray
    (once (head_size extended + data_size extended type flags size) bytes
    (Some (Orders (record {
      flags = flags;
      type = type;
      cookie = number_at 8 8 bytes;
      offset = number_at 16 8 bytes;
      length = size;
      payload = take (data_size extended type flags size) (drop (head_size extended) bytes);
    })))))

unfoldable pub says_next : (extended : Bool) → List ℕ → Option Said
says_next extended bytes = once 4 bytes (if number_at 0 4 bytes == magic_of extended then says_request extended bytes else says_option bytes)

-- by whether bytes strayed, whether the flags have come, and whether extended headers are on
abbrev pub says : (strayed greeted extended : Bool) → List ℕ → Option Said
says strayed greeted extended bytes = if strayed then None else if greeted then says_next extended bytes else says_flags bytes

-- how many bytes a thing takes
abbrev pub size_of : (extended : Bool) → Said → ℕ
size_of extended (Flags flags) = 4
size_of extended (Wishes wish) = 16 + length wish.body
size_of extended (Orders order) = head_size extended + length order.payload
size_of extended Stray = 0

-- The bytes of a thing, and whether its numbers fit theirs.

abbrev pub order_head : (extended : Bool) → Order → List Field
order_head extended order =
    if extended then extended_request order.flags order.type order.cookie order.offset order.length
    else request order.flags order.type order.cookie order.offset order.length

abbrev pub spell : (extended : Bool) → Said → List ℕ
spell extended (Flags flags) = row (client_flags flags)
spell extended (Wishes wish) = row (option_head wish.option (length wish.body)) ++ wish.body
spell extended (Orders order) = row (order_head extended order) ++ order.payload
spell extended Stray = []

-- a request's numbers fit, and as much data follows as has to
pub record OrderFits (extended : Bool) (order : Order) : Type 0 where
  pub fit : AllFit (order_head extended order)
  pub says_so : lacks_data extended order.type order.flags ≡ false
  pub sized : length order.payload ≡ data_size extended order.type order.flags order.length

abbrev pub Fits : (extended : Bool) → Said → Type 0
Fits extended (Flags flags) = AllFit (client_flags flags)
Fits extended (Wishes wish) = AllFit (option_head wish.option (length wish.body))
Fits extended (Orders order) = OrderFits extended order
Fits extended Stray = ⊥
