-- What a reply tells stands at the front of the bytes as a whole record of the protocol: a simple reply with the data of a read, or the head
-- of a chunk with its payload.
use Rattle.std.specs.Prelude.{◌≡◌, ℕ, Bool, true, false, List, ◌++◌, length, Option, Some, None, ◌⊎◌}
use Rattle.lnbd_model.specs.declared.breach.Breach.{Breach}
use Rattle.lnbd_records.specs.Content.{Content}
use Rattle.lnbd_records.specs.Content as content
use Rattle.lnbd_records.specs.Numbers.{Field, IsRowThen, IsBytes, has_bit}
use Rattle.lnbd_records.specs.Transmission.{simple_reply, chunk_head, extended_chunk_head, Payload, Nothing, Data, Hole, Status, ExtendedStatus, Error, ErrorAt, OtherError, IsPayload}
use Rattle.lnbd_records.specs.Flags.{reply_flag_done}
use Rattle.lnbd_chunks.specs.Chunk.{Waiting}
use Rattle.lnbd_chunks.specs.Reply.{content_size, simple_content, shows_reply}

-- what a reply tells, to which command, and whether it is that command's last
pub record Said : Type 0 where
  pub cookie : ℕ
  pub content : Content
  pub last : Bool

-- a simple reply to a command, and as much data as it has to have
pub record BeginsWithSimple (command : Waiting) (said : Said) (bytes : List ℕ) : Type 0 where
  pub error : ℕ
  pub data_ : List ℕ
  pub rest : List ℕ
  pub spelled : IsRowThen (simple_reply error said.cookie) (data_ ++ rest) bytes
  pub sized : length data_ ≡ content_size command error
  pub tells : said.content ≡ simple_content command error data_
  pub last : said.last ≡ true

-- what a payload tells
abbrev pub told_by : Payload → Content
told_by Nothing = content.Nothing
told_by (Data offset bytes) = content.Data offset bytes
told_by (Hole offset size) = content.Hole offset size
told_by (Status context descriptors) = content.Status context descriptors
told_by (ExtendedStatus context descriptors) = content.Status context descriptors
told_by (Error error message) = content.Error error
told_by (ErrorAt error message offset) = content.ErrorAt error offset
told_by (OtherError error message rest) = content.Error error

abbrev pub head_of : (extended : Bool) → (flags type cookie offset length : ℕ) → List Field
head_of true flags type cookie offset length = extended_chunk_head flags type cookie offset length
head_of false flags type cookie offset length = chunk_head flags type cookie length

-- the head of a chunk, and the payload that it announces
pub record BeginsWithChunk (extended : Bool) (said : Said) (bytes : List ℕ) : Type 0 where
  pub flags : ℕ
  pub type : ℕ
  pub offset : ℕ
  pub payload : List ℕ
  pub rest : List ℕ
  pub spelled : IsRowThen (head_of extended flags type said.cookie offset (length payload)) (payload ++ rest) bytes
  pub means : Payload
  pub is : IsPayload type payload means
  pub tells : said.content ≡ told_by means
  -- bit 0 of the flags is DONE
  pub last : said.last ≡ has_bit reply_flag_done flags

-- a whole reply to a command that waits
pub record BeginsWithReply (extended : Bool) (waited : ℕ → Option Waiting) (said : Said) (bytes : List ℕ) : Type 0 where
  pub command : Waiting
  pub waits : waited said.cookie ≡ Some command
  pub whole : BeginsWithSimple command said bytes ⊎ BeginsWithChunk extended said bytes

-- Whatever things are shown: what one of them tells is the whole reply at the front of the bytes. `said` reads what a thing shown tells; of a breach it reads nothing.
abbrev pub RepliesAreWhole : Type 0 → Type 0
RepliesAreWhole R =
    (broken : Breach → R) (told : ℕ → Content → Bool → R) (said : R → Option Said) →
    ((breach : Breach) → said (broken breach) ≡ None) →
    ((cookie : ℕ) (content : Content) (last : Bool) → said (told cookie content last) ≡ Some (record { cookie = cookie; content = content; last = last })) →
    (structured extended : Bool) (waited : ℕ → Option Waiting) (bytes : List ℕ) (found : R) (reply : Said) → IsBytes bytes →
    shows_reply broken told structured extended waited bytes ≡ Some found → said found ≡ Some reply → BeginsWithReply extended waited reply bytes
