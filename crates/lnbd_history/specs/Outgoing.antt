-- What the client sends, and what of it still waits.
use Rattle.std.specs.Prelude.{ℕ, ◌+◌, ◌-◌, Bool, true, false, not, ◌&&◌, List, [], ◌∷◌, length, drop, if◌then◌else◌, ◌==◌, nat_lt, bit_and}
use Rattle.lnbd_model.specs.Kind.{type_of, has_range}
use Rattle.lnbd_model.specs.declared.kind.Kind.{Kind}
use Rattle.lnbd_records.specs.Numbers.{row}
use Rattle.lnbd_records.specs.Handshake as handshake
pub use Rattle.lnbd_records.specs.Handshake.{option_request}
use Rattle.lnbd_records.specs.Requests.{asked_information, info_request, meta_request}
use Rattle.lnbd_records.specs.Transmission as transmission
use Rattle.lnbd_records.specs.Flags.{cmd_flag_payload_len, flag_fixed_newstyle, flag_no_zeroes}
use Rattle.lnbd_records.specs.Options.{opt_abort, opt_export_name, opt_set_meta_context}
use Rattle.lnbd_history.specs.declared.kinds.Phase.{Phase}
use Rattle.lnbd_history.specs.declared.kinds.Phase.TheVariants.{Greeting, Asked, AskedByName, OptMode, Ready, Refused}
use Rattle.lnbd_history.specs.Agreement.{Turn, is_empty, name_now, contexts_now, phase, is_info}
use Rattle.lnbd_history.specs.Commands.{Command, is_write}

-- Negotiation.

-- the handshake flags that the client sends: of the server's flags the two that it knows
abbrev pub client_flags : ℕ → List ℕ
client_flags flags = row (handshake.client_flags (bit_and flags (flag_fixed_newstyle + flag_no_zeroes)))

-- INFO and GO ask for NAME (1), DESCRIPTION (2) and BLOCK_SIZE (3).
abbrev pub option_body : ℕ → List ℕ → List (List ℕ) → List ℕ
option_body option name contexts =
    if is_info option then info_request name asked_information
    else if option == opt_set_meta_context then meta_request name contexts
    else if option == opt_export_name then name
    else []

-- the request that is sent where negotiation comes to this phase
abbrev pub request_at : Phase → List ℕ → List (List ℕ) → List (List ℕ)
request_at (Asked option) name contexts = option_request option (option_body option name contexts) ∷ []
request_at AskedByName name contexts = option_request opt_export_name (option_body opt_export_name name contexts) ∷ []
request_at Greeting name contexts = []
request_at OptMode name contexts = []
request_at Ready name contexts = []
request_at (Refused code) name contexts = []

abbrev pub next_request : List Turn → List (List ℕ)
next_request turns = request_at (phase turns) (name_now turns) (contexts_now turns)

-- Parts.

-- some bytes, and whether a command ends with them
pub record Part : Type 0 where
  pub bytes : List ℕ
  pub ends : Bool

-- bytes with which no command ends
abbrev pub plain : List ℕ → Part
plain bytes = record { bytes = bytes; ends = false }

abbrev pub last_of : List ℕ → Part
last_of bytes = record { bytes = bytes; ends = true }

-- PAYLOAD_LEN (32): the length of an extended request is that of the data that follows it.
abbrev pub sent_flags : Kind → ℕ → ℕ
sent_flags kind flags = if is_write kind then flags + cmd_flag_payload_len else flags

-- a head, with extended headers or without
abbrev pub head : (extended : Bool) → Kind → (flags cookie offset length : ℕ) → List ℕ
head extended kind flags cookie offset length =
    if extended then row (transmission.extended_request (sent_flags kind flags) (type_of kind) cookie offset length)
    else row (transmission.request flags (type_of kind) cookie offset length)

-- Flush has no range: its offset and its length are 0.
abbrev pub head_of : {K : Type 0} → (extended : Bool) → ℕ → Command K → List ℕ
head_of extended cookie command =
    if has_range command.kind then head extended command.kind command.flags cookie command.offset command.length
    else head extended command.kind command.flags cookie 0 0

-- a command's head, and a write's bytes behind it, if it has any
abbrev pub command_parts : {K : Type 0} → (extended : Bool) → ℕ → Command K → List Part
command_parts extended cookie command =
    if is_write command.kind && not (is_empty command.payload) then plain (head_of extended cookie command) ∷ last_of command.payload ∷ []
    else last_of (head_of extended cookie command) ∷ []

-- DISC (2), which has no answer
abbrev pub disconnect_part : (extended : Bool) → Part
disconnect_part extended =
    plain (if extended then row transmission.extended_disconnect else row transmission.disconnect)

-- ABORT (2)
abbrev pub abort_part : Part
abort_part = plain (option_request opt_abort [])

-- What waits where so many bytes have gone out.
abbrev pub waiting : List Part → ℕ → List Part
waiting [] n = []
waiting (part ∷ parts) n =
    if n == 0 then part ∷ parts
    else if nat_lt n (length part.bytes) then record { bytes = drop n part.bytes; ends = part.ends } ∷ parts
    else waiting parts (n - length part.bytes)

abbrev pub one_if : Bool → ℕ
one_if test = if test then 1 else 0

-- How many commands are wholly written: those whose last part has no waiting byte.
abbrev pub whole : List Part → ℕ → ℕ
whole [] n = 0
whole (part ∷ parts) n =
    if n == 0 then 0
    else if nat_lt n (length part.bytes) then 0
    else one_if part.ends + whole parts (n - length part.bytes)

-- how many bytes these are
abbrev pub total : List Part → ℕ
total [] = 0
total (part ∷ parts) = length part.bytes + total parts

-- what is offered: the rest of the first part that waits
abbrev pub out : List Part → List ℕ
out [] = []
out (part ∷ parts) = part.bytes

-- Of what waits, so many bytes of the first part have gone out.
abbrev pub wrote : List Part → ℕ → List Part
wrote [] n = []
wrote (part ∷ parts) n =
    if n == 0 then part ∷ parts
    else if nat_lt n (length part.bytes) then record { bytes = drop n part.bytes; ends = part.ends } ∷ parts
    else parts

-- how many commands end with these bytes
abbrev pub ended : List Part → ℕ → ℕ
ended [] n = 0
ended (part ∷ parts) n =
    if n == 0 then 0
    else if nat_lt n (length part.bytes) then 0
    else one_if part.ends
