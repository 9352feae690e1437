-- Replies count when they are there whole, and what they tell is what their bytes spell.
use Rattle.std.specs.Prelude.{◌≡◌, ◌↔◌, ℕ, ◌+◌, ◌-◌, ◌^◌, ◌<◌, ◌≤◌, Bool, true, false, List, ◌∷◌, ◌++◌, length, get_or, Option, Some, None}
use Rattle.lnbd_model.specs.declared.breach.Breach.TheVariants.{SizeTooBig}
use Rattle.lnbd_model.specs.declared.kind.Kind.TheVariants.{Read}
use Rattle.lnbd_records.specs.Handshake.{hello, option_reply_head, export_name_reply, padding}
use Rattle.lnbd_records.specs.Numbers.{IsBytes, IsRow, IsRowThen, Begins}
use Rattle.lnbd_records.specs.Replies.{Tells}
use Rattle.lnbd_records.specs.Told.{Told}
use Rattle.lnbd_records.specs.Transmission.{simple_reply}
use Rattle.lnbd_history.specs.Arrivals.{Data, Hello, OptionReply, ExportReply, Reply, Broken, Waiting, Sight, is_asked, shows_hello, shows_option, shows_by_name, shows_frame}
use Rattle.lnbd_history.specs.Entries.{Framed, Filing, own, error_in, bytes_in}
use Rattle.lnbd_history.specs.Events.{History}
use Rattle.lnbd_history.specs.History.{request, reading}

-- The hello, and the replies to options.

-- A hello that is told stands at the front of the bytes.
abbrev pub HelloIsWhole : Type 0
HelloIsWhole = (flags : ℕ) (bytes : List ℕ) → IsBytes bytes → shows_hello bytes ≡ Some (Hello flags) → Begins (IsRow (hello flags)) bytes

-- The bytes begin with a reply to the option that was asked, whose body tells this.
pub record BeginsWithOptionReply (sight : Sight) (told : Told) (bytes : List ℕ) : Type 0 where
  pub option : ℕ
  pub type : ℕ
  pub body : List ℕ
  pub rest : List ℕ
  pub spelled : IsRowThen (option_reply_head option type (length body)) (body ++ rest) bytes
  pub asked : is_asked option sight.phase ≡ true
  pub tells : Tells type body told

-- So does a reply that is told.
abbrev pub OptionReplyIsWhole : Type 0
OptionReplyIsWhole = (sight : Sight) (told : Told) (bytes : List ℕ) → IsBytes bytes → shows_option sight bytes ≡ Some (OptionReply told) → BeginsWithOptionReply sight told bytes

-- The reply to EXPORT_NAME.

-- The bytes begin with this size and these flags, and with the 124 bytes behind them unless NO_ZEROES was agreed.
pub record BeginsWithExport (no_zeroes : Bool) (size flags : ℕ) (bytes : List ℕ) : Type 0 where
  pub rest : List ℕ
  pub spelled : IsRowThen (export_name_reply size flags) rest bytes
  pub padded : padding no_zeroes ≤ length rest

-- Nothing is shown exactly as long as the reply isn't there whole.
abbrev pub ExportIsAwaited : Type 0
ExportIsAwaited = (no_zeroes : Bool) (bytes : List ℕ) → (shows_by_name no_zeroes bytes ≡ None) ↔ (length bytes < 10 + padding no_zeroes)

-- A size and flags are told exactly where the bytes begin with the reply that spells them, and the size is below 2^63.
abbrev pub ExportIsTold : Type 0
ExportIsTold = (no_zeroes : Bool) (size flags : ℕ) (bytes : List ℕ) → IsBytes bytes →
    (shows_by_name no_zeroes bytes ≡ Some (ExportReply size flags)) ↔ ((size < 2 ^ 63) × BeginsWithExport no_zeroes size flags bytes)

-- The connection breaks exactly where the bytes begin with a reply that spells a size of 2^63 or more.
abbrev pub ExportIsTooBig : Type 0
ExportIsTooBig = (no_zeroes : Bool) (bytes : List ℕ) → IsBytes bytes →
    (shows_by_name no_zeroes bytes ≡ Some (Broken SizeTooBig)) ↔ ((size flags : ℕ) × (2 ^ 63 ≤ size) × BeginsWithExport no_zeroes size flags bytes)

-- The replies to reads.

-- The bytes begin with a simple reply without error to this cookie, and this content right behind its head.
pub record BeginsWithContent (cookie : ℕ) (content bytes : List ℕ) : Type 0 where
  pub rest : List ℕ
  pub spelled : IsRowThen (simple_reply 0 cookie) (content ++ rest) bytes

-- While structured replies and extended headers are off, a frame of content is shown exactly where a read of so many bytes from there waits for
-- it, and the bytes begin with its reply and that content. It is the read's last.
abbrev pub ContentIsShown : Type 0
ContentIsShown = (waited : ℕ → Option Waiting) (cookie offset : ℕ) (content : List ℕ) (last : Bool) (bytes : List ℕ) → IsBytes bytes →
    (shows_frame false false waited bytes ≡ Some (Reply (record { cookie = cookie; content = Data offset content; last = last })))
    ↔ ((faults : ℕ) × (last ≡ true) × (waited cookie ≡ Some (record { kind = Read; offset = offset; length = length content; faults = faults })) × BeginsWithContent cookie content bytes)

module _ {K : Type 0} where
  -- This content is a read's: the command of this cookie is a read, and the content lies in its range. Where the read has no error, these are
  -- the bytes that it has there.
  pub record FillsRead (history : History K) (cookie : ℕ) (filing : Filing K) (earlier : List (Filing K)) (offset : ℕ) (content : List ℕ) : Type 0 where
    pub asked : request history cookie ≡ Some filing.request
    pub read : filing.request.kind ≡ Read
    pub from : filing.request.offset ≤ offset
    pub within : offset + length content ≤ filing.request.offset + filing.request.length
    pub bytes : error_in filing.request (filing ∷ earlier) ≡ 0 → (i : ℕ) → i < length content →
        get_or (bytes_in filing.request (filing ∷ earlier)) (offset - filing.request.offset + i) 0 ≡ get_or content i 0

-- Whatever content a history filed is its read's.
abbrev pub PayloadIsFilled : Type 0 → Type 0
PayloadIsFilled K =
    (history : History K) (cookie : ℕ) (later earlier : List (Filing K)) (filing : Filing K) (offset : ℕ) (content : List ℕ) (last : Bool) →
    own cookie (reading history).known.entries ≡ later ++ filing ∷ earlier → filing.item ≡ Framed (Data offset content) last →
    FillsRead history cookie filing earlier offset content
