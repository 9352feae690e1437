-- What a server may lawfully reply to a command is told, and no breach: the protocol's "Simple reply message", "Structured reply chunk message",
-- "Extended reply chunk message" and "Structured reply types". The rules are said here by the records' own fields, and not by how a client tests them.
use Rattle.std.specs.Prelude.{◌≡◌, ◌≢◌, ℕ, ◌+◌, ◌<◌, ◌≤◌, Bool, true, false, List, [], ◌++◌, length, Option, Some, ◌⊎◌}
use Rattle.lnbd_model.specs.declared.breach.Breach.{Breach}
use Rattle.lnbd_model.specs.declared.kind.Kind.TheVariants.{Read, BlockStatus}
use Rattle.lnbd_records.specs.Content.{Content}
use Rattle.lnbd_records.specs.Content as content
use Rattle.lnbd_records.specs.Limits.{max_faults}
use Rattle.lnbd_records.specs.Numbers.{IsRowThen}
use Rattle.lnbd_records.specs.Transmission.{simple_reply, Payload, Nothing, Data, Hole, Status, ExtendedStatus, Error, ErrorAt, OtherError}
use Rattle.lnbd_chunks.specs.Chunk.{Waiting}
use Rattle.lnbd_chunks.specs.Reply.{shows_reply}
use Rattle.lnbd_chunks.specs.Whole.{Said, BeginsWithChunk}

-- so many bytes from this place of the export on are the command's
abbrev pub LiesWithin : Waiting → (offset length : ℕ) → Type 0
LiesWithin command offset length = (command.offset ≤ offset) × (offset + length ≤ command.offset + command.length)

-- Chunks.

-- Data and holes answer a READ and lie in its range. The status of extents answers a BLOCK_STATUS, in a chunk of type BLOCK_STATUS_EXT where extended
-- headers are on and of type BLOCK_STATUS where they aren't. An error has a number, and a chunk without payload is the last.
abbrev pub MayAnswer : (extended : Bool) → Waiting → (last : Bool) → Payload → Type 0
MayAnswer extended command last Nothing = last ≡ true
MayAnswer extended command last (Data offset bytes) = (command.kind ≡ Read) × LiesWithin command offset (length bytes)
MayAnswer extended command last (Hole offset size) = (command.kind ≡ Read) × LiesWithin command offset size
MayAnswer extended command last (Status context descriptors) = (command.kind ≡ BlockStatus) × (extended ≡ false)
MayAnswer extended command last (ExtendedStatus context descriptors) = (command.kind ≡ BlockStatus) × (extended ≡ true)
MayAnswer extended command last (Error error message) = error ≢ 0
MayAnswer extended command last (ErrorAt error message offset) = error ≢ 0
MayAnswer extended command last (OtherError error message rest) = error ≢ 0

abbrev pub is_error : Payload → Bool
is_error Nothing = false
is_error (Data offset bytes) = false
is_error (Hole offset size) = false
is_error (Status context descriptors) = false
is_error (ExtendedStatus context descriptors) = false
is_error (Error error message) = true
is_error (ErrorAt error message offset) = true
is_error (OtherError error message rest) = true

-- Fewer than 1,024 chunks of the command were errors or had a content fault so far, or this one is no error and the last.
abbrev pub IsBearable : Waiting → (last : Bool) → Payload → Type 0
IsBearable command last payload = (command.faults < max_faults) ⊎ ((last ≡ true) × (is_error payload ≡ false))

-- The bytes begin with a chunk that may come, where structured replies or extended headers were agreed: its payload is one of the standard's
-- (`IsPayload`), for a command that waits.
pub record BeginsWithLawfulChunk (structured extended : Bool) (command : Waiting) (said : Said) (bytes : List ℕ) : Type 0 where
  pub chunk : BeginsWithChunk extended said bytes
  pub agreed : (structured ≡ true) ⊎ (extended ≡ true)
  pub answers : MayAnswer extended command said.last chunk.means
  pub bearable : IsBearable command said.last chunk.means

-- Simple replies.

-- A simple reply tells its error, and then has no data; without error a read's has the data that were asked, and another's tells nothing.
abbrev pub MayTell : Waiting → (error : ℕ) → (bytes : List ℕ) → Content → Type 0
MayTell command error bytes (content.Error number) = (error ≢ 0) × (number ≡ error) × (bytes ≡ [])
MayTell command error bytes (content.Data offset data_) = (error ≡ 0) × (command.kind ≡ Read) × (offset ≡ command.offset) × (data_ ≡ bytes) × (length bytes ≡ command.length)
MayTell command error bytes content.Bare = (error ≡ 0) × (command.kind ≢ Read) × (bytes ≡ [])
MayTell command error bytes other = ⊥

-- The bytes begin with a simple reply that may come: no extended headers were agreed, and for a read no structured replies.
pub record BeginsWithLawfulSimple (structured extended : Bool) (command : Waiting) (said : Said) (bytes : List ℕ) : Type 0 where
  pub error : ℕ
  pub data_ : List ℕ
  pub rest : List ℕ
  pub spelled : IsRowThen (simple_reply error said.cookie) (data_ ++ rest) bytes
  pub tells : MayTell command error data_ said.content
  pub plain : extended ≡ false
  pub agreed : (structured ≡ false) ⊎ (command.kind ≢ Read)
  pub last : said.last ≡ true

-- The law.

-- a reply that may come, to a command that waits
pub record BeginsWithLawfulReply (structured extended : Bool) (waited : ℕ → Option Waiting) (said : Said) (bytes : List ℕ) : Type 0 where
  pub command : Waiting
  pub waits : waited said.cookie ≡ Some command
  pub lawful : BeginsWithLawfulSimple structured extended command said bytes ⊎ BeginsWithLawfulChunk structured extended command said bytes

-- It is told just as it stands, whatever follows it, and is no breach.
abbrev pub LawfulRepliesAreTold : Type 0 → Type 0
LawfulRepliesAreTold R =
    (broken : Breach → R) (told : ℕ → Content → Bool → R) (structured extended : Bool) (waited : ℕ → Option Waiting) (said : Said) (bytes : List ℕ) →
    BeginsWithLawfulReply structured extended waited said bytes → shows_reply broken told structured extended waited bytes ≡ Some (told said.cookie said.content said.last)
