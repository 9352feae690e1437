-- How a command in flight is told what a frame brings, and how it ends. To a simple reply and to a death the meta contexts that are agreed make
-- no difference: they are read as where there are none.
use Rattle.std.specs.Prelude.{◌≡◌, ℕ, ◌≤◌, Bool, not, ◌&&◌, ◌||◌, List, [], ◌++◌, length, map, true, false, Option, Some, None, is_some, if◌then◌else◌, ◌==◌}
use Rattle.lnbd_model.specs.declared.export.Context.{Context as MetaContext}
use Rattle.lnbd_model.specs.declared.failure.Failure.{Failure}
use Rattle.lnbd_records.specs.Content.{Content as Told}
use Rattle.lnbd_extents.specs.Positions.{holds, any_at, all_at}
use Rattle.lnbd_model.specs.Errors.{error_of}
use Rattle.lnbd_model.specs.Kind.{is_read, is_status}
use Rattle.lnbd_model.specs.declared.errors.TheConstants.{EPROTO}
use Rattle.lnbd_model.specs.declared.failure.Origin.TheVariants as from
use Rattle.lnbd_model.specs.declared.kind.Kind.{Kind}
use Rattle.lnbd_outcome.specs.Pieces.{is_whole}
use Rattle.lnbd_commands.specs.declared.content.Content.{Content}
use Rattle.lnbd_commands.specs.Contents.{bytes_in}
use Rattle.lnbd_chunks.specs.Chunk.{Waiting}
use Rattle.lnbd_chunks.specs.Reply.{content_size, simple_content}
use Rattle.lnbd_outcome.specs.Facts.{closing, is_told}
use Rattle.lnbd_outcome.specs.Hearing.{Hearing, Chunk, read_data}
use Rattle.lnbd_outcome.specs.Outcome.{buffer, error_number, failing}
use Rattle.lnbd_structured.specs.Told.{IsInside}
use Rattle.lnbd_callbacks.specs.Calls.{Call, counted}
use Rattle.lnbd_callbacks.specs.Desk.{Log}
use Rattle.lnbd_callbacks.specs.declared.caller.Heard.{Heard}
use Rattle.lnbd_history.specs.Commands.{Flight}
use Rattle.lnbd_history.specs.Entries.{Item, Framed, Lost, hears, first_acts, call_of, note_of}
use Rattle.lnbd_machine.specs.Machine.{Row, query_in, heard_in, hearing, result_bytes}
use Rattle.lnbd_commands.specs.Flights.{IsLiveFlight}

-- Its callbacks, what its chunk callback answered to the last item, and the error, if any, and the bytes that it comes to.
pub record Landing (K : Type 0) : Type 0 where
  pub flight : Flight K
  pub heard : Option Heard
  pub failure : Option Failure
  pub bytes : List ℕ

-- an answer as it counts
abbrev pub IsCounted : Option Heard → Type 0
IsCounted None = Unit {0}
IsCounted (Some heard) = counted heard ≡ heard

-- what a simple reply with this error fails its command with, where it is said whether it has a content fault
abbrev pub reply_failure : (bad : Bool) → (error : ℕ) → Option Failure
reply_failure bad error = if bad then failing from.Content EPROTO else failing from.Told (error_of error)

-- what it tells the chunk callback of a read at this offset, whose error so far is `before`: its bytes, if it has neither a fault nor an error
abbrev pub reply_hearing : Kind → (bad : Bool) → (error offset : ℕ) → List ℕ → (before : ℕ) → Option Hearing
reply_hearing kind bad error offset bytes before =
    if bad || not (error == 0) then None else if is_read kind then Some (Chunk bytes offset read_data before) else None

module _ {K : Type 0} where
  -- Data of the whole read have a content fault where content came before, or some of it was told. An answer without error and data to a block status has one.
  abbrev pub reply_bad : Row K → (error : ℕ) → Bool
  reply_bad row error =
      (error == 0)
      && (if is_read row.kind then (is_whole (query_in row) && row.facts.came) || any_at (holds row.facts.told) row.offset row.length else is_status row.kind)

  -- the whole read was told, or these bytes are as many as it has
  abbrev pub IsWhole : Option Content → Row K → Type 0
  IsWhole None row = all_at (holds row.facts.told) row.offset row.length ≡ true
  IsWhole (Some content) row = length (bytes_in content) ≡ row.length

module _ {K : Type 0} where
  -- what is known of the command of a row
  abbrev pub known_of : Row K → Waiting
  known_of row = record { kind = row.kind; offset = row.offset; length = row.length; faults = row.facts.faults }

  -- a simple reply with this error and these bytes to the command of a row
  abbrev pub reply_item : Row K → ℕ → List ℕ → Item
  reply_item row error bytes = Framed (simple_content (known_of row) error bytes) true

  -- the callbacks of a row in flight are live on the desk
  abbrev pub IsLiveRow : Option (Flight K) → Log → Type 0
  IsLiveRow None log = Unit {0}
  IsLiveRow (Some flight) log = IsLiveFlight flight log

-- what a command comes to at death: an earlier error of its own stands, and else it is 107
abbrev pub lost : {K : Type 0} → Row K → Flight K → Landing K
lost row flight = record { flight = flight; heard = None; failure = (hearing row [] Lost None).facts.failure; bytes = result_bytes (hearing row [] Lost None) }

-- This was told to the chunk or extents callback of a row in flight, if there is something to tell and the command has such a callback.
pub record Hears {K World : Type 0} (steps : World → List (Call K) → World → Type 0) (flown : Option (Flight K)) (told : Option Hearing) (heard : Option Heard) (before after : Log) (start end : World) : Type 0 where
  pub hears : (flight : Flight K) → flown ≡ Some flight → is_some heard ≡ hears flight told
  pub counted : IsCounted heard
  pub calls : (flight : Flight K) → flown ≡ Some flight → steps start (map call_of (first_acts flight.first told heard)) end
  pub log : (flight : Flight K) → flown ≡ Some flight → after ≡ record before { notes = before.notes ++ map note_of (first_acts flight.first told heard) }

module _ {K : Type 0} where
  -- A row that is told what a chunk brings: it is in flight, and the content lies in what was asked.
  pub record CanTell (row : Row K) (content : Told) (log : Log) : Type 0 where
    pub flies : is_some row.flight ≡ true
    pub held : row.kept ≡ None
    pub live : IsLiveRow row.flight log
    pub few : row.facts.faults ≤ 1024
    pub inside : IsInside (known_of row) content

  abbrev pub TellableAt : Option (Row K) → Told → Log → Type 0
  TellableAt None content log = ⊥
  TellableAt (Some row) content log = CanTell row content log

  -- the row that was told what a chunk brings, whose callback answered this
  abbrev pub told_row : List MetaContext → Told → Option Heard → Row K → Row K
  told_row contexts content heard row = hearing row contexts (Framed content false) heard

  -- what a command lacks at its last frame
  abbrev pub lacking : List MetaContext → Row K → Option Failure
  lacking contexts row = if true && not (is_told (query_in row) contexts row.facts) then failing from.Content EPROTO else None

  -- the first error of a row at its last frame
  abbrev pub last_failure : List MetaContext → Row K → Option Failure
  last_failure contexts row = (closing true (query_in row) contexts row.facts).failure

  -- what a command comes to at its last frame, by its row alone
  pub record EndsAs (contexts : List MetaContext) (row : Row K) (answer : Option Heard) (landing : Landing K) : Type 0 where
    pub flight : row.flight ≡ Some landing.flight
    pub heard : landing.heard ≡ answer
    pub failure : landing.failure ≡ last_failure contexts row
    pub bytes : landing.bytes ≡ buffer row.kind row.length row.bytes (error_number landing.failure) row.bytes

-- The item was told to the chunk callback, if it has content and the command has such a callback, and the command comes to what the machine says.
pub record Lands {K World : Type 0} (steps : World → List (Call K) → World → Type 0) (row : Row K) (item : Item) (landing : Landing K) (before after : Log) (start end : World) : Type 0 where
  pub flight : row.flight ≡ Some landing.flight
  pub heard : is_some landing.heard ≡ hears landing.flight (heard_in row [] item)
  pub counted : IsCounted landing.heard
  pub failure : landing.failure ≡ (hearing row [] item landing.heard).facts.failure
  pub bytes : landing.bytes ≡ result_bytes (hearing row [] item landing.heard)
  pub calls : steps start (map call_of (first_acts landing.flight.first (heard_in row [] item) landing.heard)) end
  pub log : after ≡ record before { notes = before.notes ++ map note_of (first_acts landing.flight.first (heard_in row [] item) landing.heard) }

-- The same of a row that a cookie may have.
module _ {K : Type 0} where
  -- in flight, with live callbacks, and with as many bytes as the reply has to have
  pub record IsAnswerable (row : Row K) (error : ℕ) (bytes : List ℕ) (log : Log) : Type 0 where
    pub flies : is_some row.flight ≡ true
    pub held : row.kept ≡ None
    pub live : IsLiveRow row.flight log
    pub sized : length bytes ≡ content_size (known_of row) error

  abbrev pub AnswerableAt : Option (Row K) → ℕ → List ℕ → Log → Type 0
  AnswerableAt None error bytes log = ⊥
  AnswerableAt (Some row) error bytes log = IsAnswerable row error bytes log

  pub record IsLosable (row : Row K) : Type 0 where
    pub flies : is_some row.flight ≡ true
    pub held : row.kept ≡ None

  abbrev pub LosableAt : Option (Row K) → Type 0
  LosableAt None = ⊥
  LosableAt (Some row) = IsLosable row
