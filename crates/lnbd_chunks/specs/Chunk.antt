-- What one chunk shows to the command that it is for. Each fault is shown at the byte that shows it: those of the head with the whole
-- head, those of an offset, a size, a count or the front of an error with its last byte. Of two faults at one byte the one with the
-- lower number is shown, which stands first.
use Rattle.std.specs.Prelude.{ℕ, zero, suc, ◌+◌, ◌-◌, ◌*◌, ◌/◌, ◌%◌, Bool, true, false, not, ◌&&◌, ◌||◌, List, [], ◌∷◌, take, drop, Option, Some, if◌then◌else◌, ◌==◌, nat_lt, nat_le}
use Rattle.lnbd_model.specs.Kind.{is_read, is_status}
use Rattle.lnbd_model.specs.declared.breach.Breach.{Breach}
use Rattle.lnbd_model.specs.declared.breach.Breach.TheVariants.{BadChunkLength, BadChunkType, OutOfRange, ZeroError, TooManyErrors}
use Rattle.lnbd_model.specs.declared.export.Extent.{Extent}
use Rattle.lnbd_model.specs.declared.kind.Kind.{Kind}
use Rattle.lnbd_records.specs.Content.{Content}
use Rattle.lnbd_records.specs.Content as content
use Rattle.lnbd_records.specs.Limits.{max_data, max_descriptors, max_text, max_other_error, max_faults}
use Rattle.lnbd_records.specs.Numbers.{number_at, has_bit}
use Rattle.lnbd_records.specs.Transmission.{reply_type_none, reply_type_offset_data, reply_type_offset_hole, reply_type_block_status, reply_type_block_status_ext, reply_type_error, reply_type_error_offset, first_reply_type_error}
use Rattle.lnbd_records.specs.Flags.{reply_flag_done}
use Rattle.lnbd_stream.specs.Grammar.{once, wants}
use Rattle.lnbd_chunks.specs.declared.form.Form.{Form}
use Rattle.lnbd_chunks.specs.declared.form.Form.TheVariants.{Empty, Data, Hole, Status, ExtendedStatus, Error, ErrorAt, OtherError, Unknown}

-- By what a chunk is judged.

-- what is known of a command that is wholly written and in flight: its kind, its range, and how many of its chunks so far were errors
-- or had a content fault
pub record Waiting : Type 0 where
  pub kind : Kind
  pub offset : ℕ
  pub length : ℕ
  pub faults : ℕ

-- what the head of a chunk says of it: its flags, its type, and how many bytes of payload follow
pub record Head : Type 0 where
  pub flags : ℕ
  pub type : ℕ
  pub length : ℕ

-- bit 0 of the flags is DONE, and the others are passed over
abbrev pub is_done : Head → Bool
is_done head = has_bit reply_flag_done head.flags

-- Types.

-- NONE 0, OFFSET_DATA 1, OFFSET_HOLE 2, BLOCK_STATUS 5 and with extended headers BLOCK_STATUS_EXT 6 in its place, ERROR 2^15 + 1,
-- ERROR_OFFSET 2^15 + 2; bit 15 is set for errors.
abbrev pub form_of : Bool → ℕ → Form
form_of extended type =
    if type == reply_type_none then Empty
    else if type == reply_type_offset_data then Data
    else if type == reply_type_offset_hole then Hole
    else if type == reply_type_block_status then if extended then Unknown else Status
    else if type == reply_type_block_status_ext then if extended then ExtendedStatus else Unknown
    else if type == reply_type_error then Error
    else if type == reply_type_error_offset then ErrorAt
    else if nat_le first_reply_type_error type then OtherError
    else Unknown

abbrev pub is_error : Form → Bool
is_error Empty = false
is_error Data = false
is_error Hole = false
is_error Status = false
is_error ExtendedStatus = false
is_error Error = true
is_error ErrorAt = true
is_error OtherError = true
is_error Unknown = false

-- The head.

abbrev pub is_between : (least most : ℕ) → ℕ → Bool
is_between least most n = nat_le least n && nat_le n most

-- How long a payload may be. The type that isn't lawful here has no length to be judged.
abbrev pub fits_length : Form → ℕ → Bool
fits_length Empty n = n == 0
fits_length Data n = is_between (8 + 1) (8 + max_data) n
fits_length Hole n = n == 12
fits_length Status n = is_between (4 + 8) (4 + 8 * max_descriptors) n && (n % 8 == 4)
fits_length ExtendedStatus n = is_between (8 + 16) (8 + 16 * max_descriptors) n && (n % 16 == 8)
fits_length Error n = is_between 6 (6 + max_text) n
fits_length ErrorAt n = is_between 14 (14 + max_text) n
fits_length OtherError n = is_between 6 max_other_error n
fits_length Unknown n = true

-- Which commands a chunk may be for. One without payload is the last.
abbrev pub fits_command : Form → Bool → Kind → Bool
fits_command Empty done kind = done
fits_command Data done kind = is_read kind
fits_command Hole done kind = is_read kind
fits_command Status done kind = is_status kind
fits_command ExtendedStatus done kind = is_status kind
fits_command Error done kind = true
fits_command ErrorAt done kind = true
fits_command OtherError done kind = true
fits_command Unknown done kind = false

-- After so many chunks that were errors or had a content fault only a last chunk that is no error may come.
abbrev pub may_come : ℕ → Form → Bool → Bool
may_come faults form done = nat_lt faults max_faults || (done && not (is_error form))

-- Payloads.

-- whether so many bytes from this place of the export on lie within the command's range
abbrev pub lies_within : Waiting → (offset length : ℕ) → Bool
lies_within waiting offset length = nat_le waiting.offset offset && nat_le (offset + length) (waiting.offset + waiting.length)

-- whether a message of so many bytes fits an error whose payload has n bytes
abbrev pub fits_message : Form → (n message : ℕ) → Bool
fits_message Error n message = n == 6 + message
fits_message ErrorAt n message = n == 14 + message
fits_message other n message = nat_le message max_text && nat_le (6 + message) n

-- so many descriptors, one behind the other: a length and flags of 32 bits each, or of 64
abbrev pub descriptors_in : ℕ → List ℕ → List Extent
descriptors_in zero bytes = []
descriptors_in (suc n) bytes = record { length = number_at 0 4 bytes; flags = number_at 4 4 bytes } ∷ descriptors_in n (drop 8 bytes)

abbrev pub extended_descriptors_in : ℕ → List ℕ → List Extent
extended_descriptors_in zero bytes = []
extended_descriptors_in (suc n) bytes = record { length = number_at 0 8 bytes; flags = number_at 8 8 bytes } ∷ extended_descriptors_in n (drop 16 bytes)

-- what an error whose payload has n bytes tells
abbrev pub error_told : Form → ℕ → List ℕ → Content
error_told ErrorAt n payload = content.ErrorAt (number_at 0 4 payload) (number_at (n - 8) 8 payload)
error_told other n payload = content.Error (number_at 0 4 payload)

-- What is shown by the bytes behind a head that announces n of them, where a breach is shown by `broken` and what is told by `told`.
module _ {R : Type 0} (broken : Breach → R) (told : Content → R) where
  -- place (64 bits), and the data
  unfoldable pub shows_data : Waiting → ℕ → List ℕ → Option R
  shows_data waiting n payload =
      once 8 payload (wants (lies_within waiting (number_at 0 8 payload) (n - 8)) (broken OutOfRange)
      (once n payload (Some (told (content.Data (number_at 0 8 payload) (take (n - 8) (drop 8 payload)))))))

  -- place (64 bits), and how many zeros (32): judged by its place alone, and then whole
  unfoldable pub shows_hole : Waiting → List ℕ → Option R
  shows_hole waiting payload =
      once 8 payload (wants (lies_within waiting (number_at 0 8 payload) 0) (broken OutOfRange)
      (once 12 payload (wants (lies_within waiting (number_at 0 8 payload) (number_at 8 4 payload)) (broken OutOfRange)
      (Some (told (content.Hole (number_at 0 8 payload) (number_at 8 4 payload)))))))

  -- meta context (32 bits), and the descriptors
  unfoldable pub shows_status : ℕ → List ℕ → Option R
  shows_status n payload =
      once n payload (Some (told (content.Status (number_at 0 4 payload) (descriptors_in ((n - 4) / 8) (drop 4 payload)))))

  -- meta context (32 bits), how many descriptors (32), and the descriptors
  unfoldable pub shows_extended_status : ℕ → List ℕ → Option R
  shows_extended_status n payload =
      once 8 payload (wants (8 + 16 * number_at 4 4 payload == n) (broken BadChunkLength)
      (once n payload (Some (told (content.Status (number_at 0 4 payload) (extended_descriptors_in ((n - 8) / 16) (drop 8 payload)))))))

  -- error (32 bits), the length of its message (16), and the message
  unfoldable pub shows_error : Form → ℕ → List ℕ → Option R
  shows_error form n payload =
      once 6 payload (wants (fits_message form n (number_at 4 2 payload)) (broken BadChunkLength)
      (wants (not (number_at 0 4 payload == 0)) (broken ZeroError)
      (once n payload (Some (told (error_told form n payload))))))

  abbrev pub shows_payload : Form → Waiting → ℕ → List ℕ → Option R
  shows_payload Empty waiting n payload = Some (told content.Nothing)
  shows_payload Data waiting n payload = shows_data waiting n payload
  shows_payload Hole waiting n payload = shows_hole waiting payload
  shows_payload Status waiting n payload = shows_status n payload
  shows_payload ExtendedStatus waiting n payload = shows_extended_status n payload
  shows_payload Error waiting n payload = shows_error Error n payload
  shows_payload ErrorAt waiting n payload = shows_error ErrorAt n payload
  shows_payload OtherError waiting n payload = shows_error OtherError n payload
  shows_payload Unknown waiting n payload = Some (broken BadChunkType)

  -- a chunk of this form
  abbrev pub shows_form : Form → Waiting → Head → List ℕ → Option R
  shows_form form waiting head payload =
      wants (fits_length form head.length) (broken BadChunkLength)
      (wants (fits_command form (is_done head) waiting.kind) (broken BadChunkType)
      (wants (may_come waiting.faults form (is_done head)) (broken TooManyErrors)
      (shows_payload form waiting head.length payload)))

  -- a chunk for this command, by its head and the bytes behind it, where extended headers are on or not
  unfoldable pub shows_chunk : Bool → Waiting → Head → List ℕ → Option R
  shows_chunk extended waiting head payload = shows_form (form_of extended head.type) waiting head payload
