-- What is seen at the front of some bytes, by how the server replies.
use Rattle.std.specs.Prelude.{◌≡◌, ℕ, ◌+◌, ◌-◌, ◌<◌, ◌≤◌, ◌==◌, ◌&&◌, not, Bool, true, false, if◌then◌else◌, List, ◌++◌, length, take, drop, Option, Some, None, is_some}
use Rattle.lnbd_records.specs.Numbers.{number_at}
use Rattle.lnbd_chunks.specs.Chunk.{Waiting, is_done}
use Rattle.lnbd_chunks.specs.Laws.{breach_of}
use Rattle.lnbd_chunks.specs.Reply.{content_size, simple_content}
use Rattle.lnbd_structured.specs.Told.{MayCome}
use Rattle.lnbd_history.specs.Arrivals.{Shown, Reply, Broken, shows_frame, reply}
use Rattle.lnbd_model.specs.Kind.{is_read}
use Rattle.lnbd_records.specs.Content.{Data}
use Rattle.lnbd_records.specs.Transmission.{simple_reply_magic, simple_head_size, chunk_head_size, extended_head_size, reply_type_offset_data}
use Rattle.lnbd_structured.specs.Assembly.{head_of}
use Rattle.lnbd_arrivals.specs.Heads.{head_in, head_size, magic_of}
use Rattle.lnbd_arrivals.specs.Payloads.{told_in, payload_in, IsPayload}
use Rattle.lnbd_arrivals.specs.declared.announced.Announced.{Announced}
use Rattle.lnbd_arrivals.specs.declared.announced.Carrier.{Carrier}
use Rattle.lnbd_arrivals.specs.declared.announced.Carrier.TheVariants as carrier
use Rattle.lnbd_arrivals.specs.declared.chunk.Chunk.{Chunk}
use Rattle.lnbd_arrivals.specs.declared.frame.Seen.{Seen}
use Rattle.lnbd_arrivals.specs.declared.frame.Seen.TheVariants as seen
use Rattle.lnbd_arrivals.specs.declared.replies.Replies.{Replies}
use Rattle.lnbd_arrivals.specs.declared.replies.Replies.TheVariants.{Simple, Structured, Extended}

-- structured replies are on
abbrev pub is_structured : Replies → Bool
is_structured Simple = false
is_structured Structured = true
is_structured Extended = true

-- extended headers are on
abbrev pub is_extended : Replies → Bool
is_extended Simple = false
is_extended Structured = false
is_extended Extended = true

-- how a server replies where structured replies and extended headers are on or not
abbrev pub replies_by : (structured extended : Bool) → Replies
replies_by structured true = Extended
replies_by true false = Structured
replies_by false false = Simple

-- what bytes show there
abbrev pub shows_by : Replies → (ℕ → Option Waiting) → List ℕ → Option Shown
shows_by replies waited bytes = shows_frame (is_structured replies) (is_extended replies) waited bytes

-- A whole simple reply to the command that waits under this cookie: its head, and as many bytes as that command gets.
pub record IsReply (replies : Replies) (waited : ℕ → Option Waiting) (bytes : List ℕ) (cookie error size : ℕ) : Type 0 where
  pub command : Waiting
  pub waits : waited cookie ≡ Some command
  pub sized : size ≡ content_size command error
  pub there : 16 + size ≤ length bytes
  pub cookie_is : cookie ≡ number_at 8 8 bytes
  pub error_is : error ≡ number_at 4 4 bytes
  -- it is shown by its last byte, and nothing is by fewer bytes
  pub shown : shows_by replies waited (take (16 + size) bytes) ≡ Some (Reply (record { cookie = cookie; content = simple_content command error (take size (drop 16 bytes)); last = true }))
  pub before : (front more : List ℕ) → bytes ≡ front ++ more → length front < 16 + size → shows_by replies waited front ≡ None

-- A whole chunk, where chunks come, to the command that waits under its cookie: its head and the payload that it announces. It may be filed.
pub record IsChunk (replies : Replies) (waited : ℕ → Option Waiting) (bytes : List ℕ) (chunk : Chunk) : Type 0 where
  pub agreed : is_structured replies ≡ true
  pub extended : chunk.extended ≡ is_extended replies
  pub command : Waiting
  pub waits : waited chunk.head.cookie ≡ Some command
  pub cookie_is : chunk.head.cookie ≡ number_at 8 8 bytes
  pub sized : chunk.size ≡ head_size chunk.extended + chunk.head.length
  pub there : chunk.size ≤ length bytes
  pub payload : IsPayload chunk (payload_in chunk bytes)
  pub may_come : MayCome command (told_in chunk (payload_in chunk bytes)) (is_done (head_of chunk.head))
  -- it is shown by its last byte, and nothing is by fewer bytes
  pub shown : shows_by replies waited (take chunk.size bytes) ≡ Some (reply chunk.head.cookie (told_in chunk (payload_in chunk bytes)) (is_done (head_of chunk.head)))
  pub before : (front more : List ℕ) → bytes ≡ front ++ more → length front < chunk.size → shows_by replies waited front ≡ None

-- the head of a simple reply without error, and nothing else
pub record IsSuccess (head : List ℕ) : Type 0 where
  pub sized : length head ≡ 16
  pub magic : number_at 0 4 head ≡ simple_reply_magic
  pub error : number_at 4 4 head ≡ 0

-- Replies that bring data to a read, of which all that stands before the data is there.

-- so many bytes stand before the data: the head, and in a chunk behind it their place
abbrev pub front_size : Replies → ℕ
front_size Simple = simple_head_size
front_size Structured = chunk_head_size + 8
front_size Extended = extended_head_size + 8

abbrev pub is_chunk : Carrier → Bool
is_chunk carrier.Reply = false
is_chunk (carrier.Chunk last) = true

-- nothing follows for the same read
abbrev pub is_last : Carrier → Bool
is_last carrier.Reply = true
is_last (carrier.Chunk last) = last

-- the front of a chunk of data for this command, which breaks no rule
pub record IsDataFront (extended : Bool) (command : Waiting) (front : List ℕ) : Type 0 where
  pub sized : length front ≡ head_size extended + 8
  pub magic : number_at 0 4 front ≡ magic_of extended
  pub type : (head_in extended front).type ≡ reply_type_offset_data
  pub lawful : breach_of extended command (head_in extended front) (drop (head_size extended) front) ≡ None

-- the data of a chunk with this front
abbrev pub data_announced : (extended : Bool) → (front : List ℕ) → Announced
data_announced extended front = record {
  cookie = number_at 8 8 front;
  offset = number_at 0 8 (drop (head_size extended) front);
  size = (head_in extended front).length - 8;
  carrier = carrier.Chunk (is_done (head_in extended front));
}

-- the front of a reply without error that brings data to this command
abbrev pub IsFront : Replies → Waiting → List ℕ → Type 0
IsFront Simple command front = (is_read command.kind ≡ true) × IsSuccess front
IsFront Structured command front = IsDataFront false command front
IsFront Extended command front = IsDataFront true command front

-- The data that such a front announces to this command: a simple reply has all that was asked for; a chunk tells their place behind its head, and has a payload of so many
-- bytes with it.
abbrev pub announced_by : Replies → Waiting → List ℕ → Announced
announced_by Simple command front = record { cookie = number_at 8 8 front; offset = command.offset; size = command.length; carrier = carrier.Reply }
announced_by Structured command front = data_announced false front
announced_by Extended command front = data_announced true front

-- The whole reply that was announced, with these data. It may be filed, and a simple reply brings all that its command asked for.
pub record Carries (replies : Replies) (waited : ℕ → Option Waiting) (bytes : List ℕ) (announced : Announced) (content : List ℕ) : Type 0 where
  pub command : Waiting
  pub waits : waited announced.cookie ≡ Some command
  pub may_come : MayCome command (Data announced.offset content) (is_last announced.carrier)
  pub all : is_chunk announced.carrier ≡ false → (announced.offset ≡ command.offset) × (announced.size ≡ command.length)
  -- it is shown by its last byte, and nothing is by fewer bytes
  pub shown : shows_by replies waited bytes ≡ Some (reply announced.cookie (Data announced.offset content) (is_last announced.carrier))
  pub before : (front more : List ℕ) → bytes ≡ front ++ more → length front < length bytes → shows_by replies waited front ≡ None

-- The front of a reply that brings so many bytes of data: with fewer bytes behind it nothing is shown yet, and with so many the whole reply is there. To reads chunks come exactly where structured replies are on.
pub record Announces (replies : Replies) (waited : ℕ → Option Waiting) (front : List ℕ) (announced : Announced) : Type 0 where
  pub sized : length front ≡ front_size replies
  pub cookie_is : announced.cookie ≡ number_at 8 8 front
  pub carried : is_chunk announced.carrier ≡ is_structured replies
  pub partial : (content : List ℕ) → length content < announced.size → shows_by replies waited (front ++ content) ≡ None
  pub whole : (content : List ℕ) → length content ≡ announced.size → Carries replies waited (front ++ content) announced content

-- Whether some bytes are such a front, as a test.

abbrev pub is_success : List ℕ → Bool
is_success front = (length front == simple_head_size) && ((number_at 0 4 front == simple_reply_magic) && (number_at 4 4 front == 0))

abbrev pub is_data_front : (extended : Bool) → Waiting → List ℕ → Bool
is_data_front extended command front =
    (length front == head_size extended + 8)
    && ((number_at 0 4 front == magic_of extended)
    && (((head_in extended front).type == reply_type_offset_data) && not (is_some (breach_of extended command (head_in extended front) (drop (head_size extended) front)))))

abbrev pub is_front : Replies → Waiting → List ℕ → Bool
is_front Simple command front = is_read command.kind && is_success front
is_front Structured command front = is_data_front false command front
is_front Extended command front = is_data_front true command front

-- the data that these bytes announce to a command, where they are such a front
abbrev pub announced_to : Replies → Option Waiting → List ℕ → Option Announced
announced_to replies None front = None
announced_to replies (Some command) front = if is_front replies command front then Some (announced_by replies command front) else None

-- the data that these bytes announce to the command that waits for their cookie
abbrev pub announced_in : Replies → (ℕ → Option Waiting) → List ℕ → Option Announced
announced_in replies waited front = announced_to replies (waited (number_at 8 8 front)) front

-- The bytes show nothing yet, and begin with the front of a reply that brings data.
pub record IsBegun (replies : Replies) (waited : ℕ → Option Waiting) (bytes : List ℕ) (announced : Announced) : Type 0 where
  pub nothing : shows_by replies waited bytes ≡ None
  pub says : announced_in replies waited (take (front_size replies) bytes) ≡ Some announced
  pub announces : Announces replies waited (take (front_size replies) bytes) announced

-- What was seen is what the bytes show, and what their front announces where they show nothing yet.
abbrev pub SeenAs : Replies → (ℕ → Option Waiting) → List ℕ → Seen → Type 0
SeenAs replies waited bytes seen.Nothing = (shows_by replies waited bytes ≡ None) × (announced_in replies waited (take (front_size replies) bytes) ≡ None)
SeenAs replies waited bytes (seen.Begun announced) = IsBegun replies waited bytes announced
SeenAs replies waited bytes (seen.Broken breach) = shows_by replies waited bytes ≡ Some (Broken breach)
SeenAs replies waited bytes (seen.Whole cookie error size) = IsReply replies waited bytes cookie error size
SeenAs replies waited bytes (seen.Chunk chunk) = IsChunk replies waited bytes chunk
