-- What a row's fields stand for, and how a row ends.
use Rattle.std.specs.Prelude.{◌≡◌, ℕ, ◌-◌, List, [], ◌∷◌, ◌++◌, length, get_or, Bool, true, false, Option, Some, None, if◌then◌else◌, ◌==◌}
use Rattle.lnbd_model.specs.declared.kind.Kind.{Kind}
use Rattle.lnbd_keyed.specs.Keyed.{value_at, with_value, without}
use Rattle.lnbd_callbacks.specs.declared.caller.Verdict.{Verdict}
use Rattle.lnbd_callbacks.specs.declared.caller.Verdict.TheVariants.{Keep, Retire}
use Rattle.lnbd_inflight.specs.Table.{Table}
use Rattle.lnbd_inflight.specs.Done.{forgetting}
use Rattle.lnbd_extents.specs.Positions.{holds}
use Rattle.lnbd_model.specs.Kind.{is_read, is_write}
use Rattle.lnbd_model.specs.declared.failure.Failure.{Failure}
use Rattle.lnbd_outcome.specs.Facts.{Facts, no_facts}
use Rattle.lnbd_outcome.specs.Outcome.{each, error_number}
use Rattle.lnbd_outcome.specs.Pieces.{Query}
use Rattle.lnbd_structured.specs.Assembly.{Assembled}
use Rattle.lnbd_history.specs.Commands.{Flight}
use Rattle.lnbd_history.specs.Entries.{Kept}
use Rattle.lnbd_machine.specs.Machine.{Row, first_bytes}

-- the bytes of a read that were told, of a buffer that may hold others: 0 where nothing was told
abbrev pub masked : List (ℕ × ℕ) → (offset size : ℕ) → List ℕ → List ℕ
masked told offset size buf = each (λ p. if holds told p then get_or buf (p - offset) 0 else 0) offset size

-- Until something is kept a read has what was told of it, and a write its own bytes; later the buffer is gone.
abbrev pub open_bytes : Kind → List (ℕ × ℕ) → (offset size : ℕ) → List ℕ → List ℕ
open_bytes kind told offset size buf = if is_read kind then masked told offset size buf else if is_write kind then buf else []

abbrev pub seen_bytes : Option Kept → Kind → List (ℕ × ℕ) → (offset size : ℕ) → List ℕ → List ℕ
seen_bytes None kind told offset size buf = open_bytes kind told offset size buf
seen_bytes (Some kept) kind told offset size buf = []

-- an error has a number
abbrev pub IsReal : Option Failure → Type 0
IsReal None = Unit {0}
IsReal (Some failure) = (failure.error == 0) ≡ false

-- Until then the buffer of a read has the asked length, and what is kept of its chunks is of this command.
pub record IsOpen (query : Query) (buf : List ℕ) (assembly : Assembled) : Type 0 where
  pub buffer : is_read query.kind ≡ true → length buf ≡ query.length
  pub own : assembly.query ≡ query
  pub real : IsReal assembly.facts.failure

abbrev pub IsHeld : Option Kept → Query → List ℕ → Assembled → Type 0
IsHeld None query buf assembly = IsOpen query buf assembly
IsHeld (Some kept) query buf assembly = Unit {0}

-- Of what was told of a command only its first error is held at last.
abbrev pub ended_facts : Option Failure → Facts
ended_facts failure = record no_facts { failure = failure }

abbrev pub seen_facts : Option Kept → Assembled → Option Failure → Facts
seen_facts None assembly failure = assembly.facts
seen_facts (Some kept) assembly failure = ended_facts failure

-- what is kept of a command until its completion callback has answered
abbrev pub unanswered : Option Failure → Kept
unanswered failure = record { error = error_number failure; bytes = [] }

module _ {K : Type 0} where
  -- the row of a command whose callbacks are not admitted yet
  abbrev pub unflown : Kind → (flags offset size : ℕ) → List ℕ → Row K
  unflown kind flags offset size buf = record { kind = kind; flags = flags; offset = offset; length = size; flight = None; bytes = first_bytes kind size buf; facts = no_facts; kept = None }

  -- the row with callbacks
  abbrev pub flown : Flight K → Row K → Row K
  flown flight row = record row { flight = Some flight }

  -- the row whose command came to this error, if any, and then what was kept of it
  abbrev pub landed : Option Failure → Kept → Row K → Row K
  landed failure kept row = record row { flight = None; bytes = []; facts = ended_facts failure; kept = Some kept }

  abbrev pub keeping : Kept → Row K → Row K
  keeping kept row = record row { kept = Some kept }

  -- the rows after a change of one of them
  abbrev pub changing : (Row K → Row K) → ℕ → Option (Row K) → List (ℕ × Row K) → List (ℕ × Row K)
  changing change cookie None rows = rows
  changing change cookie (Some row) rows = with_value cookie (change row) rows

  abbrev pub changed : (Row K → Row K) → ℕ → List (ℕ × Row K) → List (ℕ × Row K)
  changed change cookie rows = changing change cookie (value_at cookie rows) rows

  abbrev pub flight_of_row : Option (Row K) → Option (Flight K)
  flight_of_row None = None
  flight_of_row (Some row) = row.flight

  -- the row is that of a read
  abbrev pub is_read_row : Option (Row K) → Bool
  is_read_row None = false
  is_read_row (Some row) = is_read row.kind

  -- the table after a command that landed was kept or retired
  abbrev pub ended : Verdict → ℕ → Table (Row K) → Table (Row K)
  ended (Keep error bytes) cookie table = record { rows = changed (keeping (record { error = error; bytes = bytes })) cookie table.rows; done = table.done ++ cookie ∷ [] }
  ended Retire cookie table = record { rows = without cookie table.rows; done = forgetting cookie table.done }
