-- What the bytes of a client say: its handshake flags, then option requests, and then requests, one after another: the protocol's
-- "Newstyle negotiation", "Option haggling" and "Transmission phase". Which of them is read, the stage of the session says.
use Rattle.std.specs.Prelude.{ℕ, ◌+◌, Bool, true, false, not, ◌&&◌, ◌||◌, List, take, drop, Option, Some, None, if◌then◌else◌, ◌==◌, nat_le}
use Rattle.lnbd_model.specs.Kind.{type_of}
use Rattle.lnbd_model.specs.declared.kind.Kind.{Kind}
use Rattle.lnbd_model.specs.declared.kind.Kind.TheVariants.{Read, Write, Flush, Trim, Cache, Zero, BlockStatus}
use Rattle.lnbd_records.specs.Flags.{flag_fixed_newstyle, flag_no_zeroes, cmd_flag_payload_len}
use Rattle.lnbd_records.specs.Handshake.{option_magic}
use Rattle.lnbd_records.specs.Limits.{max_data}
use Rattle.lnbd_records.specs.Numbers.{number_at, has_bit}
use Rattle.lnbd_records.specs.Transmission.{request_magic, extended_request_magic, extended_head_size, type_disc, type_write}
use Rattle.lnbd_stream.specs.Grammar.{once, wants, each_byte}
use Rattle.lnbd_export.specs.declared.request.Request.{Request}
use Rattle.lnbd_server.specs.declared.stage.Stage.{Stage}
use Rattle.lnbd_server.specs.declared.stage.Stage.TheVariants.{Greeting, Haggling, Serving, Ended, Strayed}

pub data Said : Type 0 where
  Flags : (flags : ℕ) → Said
  OptionRequest : (option : ℕ) (body : List ℕ) → Said
  Asks : (request : Request) (payload : List ℕ) → Said
  -- DISC
  Disconnect : Said
  -- these bytes are no client's
  Stray : Said
  -- a byte after the session's end
  Ignored : Said

-- a thing, and how many bytes say it
pub record Heard : Type 0 where
  pub size : ℕ
  pub said : Said

abbrev pub heard : ℕ → Said → Option Heard
heard n said = Some (record { size = n; said = said })

-- shown as soon as the bytes show it
abbrev pub stray : Heard
stray = record { size = 0; said = Stray }

-- the longest data of an option request that is read, and the most bytes of one client: this project's own limits
abbrev pub max_option_request : ℕ
max_option_request = 131072

abbrev pub max_client : ℕ
max_client = 4611686018427387904

abbrev pub request_head_size : ℕ
request_head_size = 28

-- bit 0, and bit 1 or not
abbrev pub are_client_flags : ℕ → Bool
are_client_flags flags = (flags == flag_fixed_newstyle) || (flags == flag_fixed_newstyle + flag_no_zeroes)

unfoldable pub says_flags : List ℕ → Option Heard
says_flags bytes = once 4 bytes (wants (are_client_flags (number_at 0 4 bytes)) stray (heard 4 (Flags (number_at 0 4 bytes))))

-- magic (64 bits), option (32), length (32), and that many bytes
unfoldable pub says_option : List ℕ → Option Heard
says_option bytes =
    once 8 bytes (wants (number_at 0 8 bytes == option_magic) stray
    (once 16 bytes (wants (nat_le (number_at 12 4 bytes) max_option_request) stray
    (once (16 + number_at 12 4 bytes) bytes (heard (16 + number_at 12 4 bytes) (OptionRequest (number_at 8 4 bytes) (take (number_at 12 4 bytes) (drop 16 bytes))))))))

-- Requests.

-- the command of a type, if one has it
abbrev pub kind_of : ℕ → Option Kind
kind_of type =
    if type == type_of Read then Some Read
    else if type == type_of Write then Some Write
    else if type == type_of Flush then Some Flush
    else if type == type_of Trim then Some Trim
    else if type == type_of Cache then Some Cache
    else if type == type_of Zero then Some Zero
    else if type == type_of BlockStatus then Some BlockStatus
    else None

-- how many bytes of data follow a head: those of a write, and with extended headers of each request that says so
abbrev pub data_size : (extended : Bool) (type flags length : ℕ) → ℕ
data_size extended type flags n =
    if (if extended then has_bit cmd_flag_payload_len flags else type == type_write) then n else 0

-- with extended headers a write says that its data follows
abbrev pub lacks_data : (extended : Bool) (type flags : ℕ) → Bool
lacks_data extended type flags = extended && (type == type_write) && not (has_bit cmd_flag_payload_len flags)

abbrev pub asks_of : (type flags cookie offset length : ℕ) → List ℕ → Said
asks_of type flags cookie offset n payload =
    if type == type_disc then Disconnect
    else Asks (record { kind = kind_of type; flags = flags; cookie = cookie; offset = offset; length = n }) payload

-- a request by its whole head of so many bytes, and its data
unfoldable pub says_asked : (extended : Bool) (size type flags cookie offset length : ℕ) → List ℕ → Option Heard
says_asked extended size type flags cookie offset n bytes =
    wants (not (lacks_data extended type flags) && nat_le (data_size extended type flags n) max_data) stray
    (once (size + data_size extended type flags n) bytes
    (heard (size + data_size extended type flags n) (asks_of type flags cookie offset n (take (data_size extended type flags n) (drop size bytes)))))

-- magic (32 bits), flags (16), type (16), cookie (64), offset (64), length (32), and data
unfoldable pub says_request : List ℕ → Option Heard
says_request bytes =
    once 4 bytes (wants (number_at 0 4 bytes == request_magic) stray
    (once request_head_size bytes
    (says_asked false request_head_size (number_at 6 2 bytes) (number_at 4 2 bytes) (number_at 8 8 bytes) (number_at 16 8 bytes) (number_at 24 4 bytes) bytes)))

-- the same with a length of 64 bits
unfoldable pub says_extended : List ℕ → Option Heard
says_extended bytes =
    once 4 bytes (wants (number_at 0 4 bytes == extended_request_magic) stray
    (once extended_head_size bytes
    (says_asked true extended_head_size (number_at 6 2 bytes) (number_at 4 2 bytes) (number_at 8 8 bytes) (number_at 16 8 bytes) (number_at 24 8 bytes) bytes)))

-- what bytes say at a stage
abbrev pub says : Stage → (extended : Bool) → List ℕ → Option Heard
says Greeting extended bytes = says_flags bytes
says Haggling extended bytes = says_option bytes
says Serving extended bytes = if extended then says_extended bytes else says_request bytes
says Ended extended bytes = each_byte (record { size = 1; said = Ignored }) bytes
says Strayed extended bytes = each_byte (record { size = 1; said = Ignored }) bytes
