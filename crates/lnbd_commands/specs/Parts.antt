-- Filing in two steps: what a frame brings is told to its command, and a command ends by its row alone.
use Rattle.std.specs.Prelude.{◌≡◌, ℕ, ◌+◌, List, ◌++◌, true, false, Option, Some, None, is_some, map}
use Rattle.lnbd_model.specs.declared.export.Context.{Context as MetaContext}
use Rattle.lnbd_model.specs.declared.failure.Origin.TheVariants as from
use Rattle.lnbd_model.specs.declared.errors.TheConstants.{ENOTCONN}
use Rattle.lnbd_keyed.specs.Keyed.{value_at, with_value}
use Rattle.lnbd_callbacks.specs.declared.caller.Heard.{Heard}
use Rattle.lnbd_callbacks.specs.declared.caller.Verdict.{Verdict}
use Rattle.lnbd_records.specs.Content.{Content}
use Rattle.lnbd_outcome.specs.Facts.{Facts, is_bad, telling, closing}
use Rattle.lnbd_outcome.specs.Outcome.{failing, or_else}
use Rattle.lnbd_history.specs.Commands.{Flight}
use Rattle.lnbd_history.specs.Events.{Answer}
use Rattle.lnbd_history.specs.Entries.{Item, Framed, Lost, Dropped, completes, heard_error, kept_by, first_acts, end_acts, hears, call_of, note_of, frees}
use Rattle.lnbd_history.specs.History.{next_heard, next_verdict, left}
use Rattle.lnbd_machine.specs.Machine.{Row, Doing, query_in, heard_in, told_bytes, error_of_row, result_bytes, ending, filed, is_retiring, marked, file_in}

-- how a command ends: its last frame came, the connection died, or the handle was closed
pub data End : Type 0 where
  Last : End
  Died : End
  Closed : End

-- the item that is such an end and brings nothing
abbrev pub end_item : End → Item
end_item Last = Framed Rattle.lnbd_records.specs.Content.Nothing true
end_item Died = Lost
end_item Closed = Dropped

-- what is lacking at the last frame, or the loss
abbrev pub closed_by : End → List MetaContext → {K : Type 0} → Row K → Facts
closed_by Last contexts row = closing true (query_in row) contexts row.facts
closed_by Died contexts row = record row.facts { failure = or_else row.facts.failure (failing from.Lost ENOTCONN) }
closed_by Closed contexts row = row.facts

module _ {K : Type 0} where
  -- the row with what a frame brings, and with the answer of its callback
  abbrev pub telling_row : List MetaContext → Content → Option Heard → Row K → Row K
  telling_row contexts content heard row = record row {
    bytes = told_bytes (is_bad (query_in row) contexts row.facts content) row.kind row.offset row.length content row.bytes;
    facts = telling (query_in row) contexts (Framed content false) (heard_error heard) row.facts;
  }

  abbrev pub closing_row : End → List MetaContext → Row K → Row K
  closing_row end contexts row = record row { facts = closed_by end contexts row }

  abbrev pub tell_with : ℕ → Row K → Flight K → Content → Option Heard → List Answer → Doing K → Doing K
  tell_with cookie row flight content heard rest doing =
      let acts = first_acts flight.first (heard_in row doing.state.talk.contexts (Framed content false)) heard in
      record {
        state = record doing.state { rows = with_value cookie (telling_row doing.state.talk.contexts content heard row) doing.state.rows; notes = doing.state.notes ++ map note_of acts };
        answers = rest;
        calls = doing.calls ++ map call_of acts;
      }

  abbrev pub tell_flight : Option (Flight K) → Row K → ℕ → Content → Doing K → Doing K
  tell_flight None row cookie content doing = doing
  tell_flight (Some flight) row cookie content doing =
      let calls = hears flight (heard_in row doing.state.talk.contexts (Framed content false)) in
      tell_with cookie row flight content (next_heard calls doing.answers) (left calls doing.answers) doing

  abbrev pub tell_row : Option (Row K) → ℕ → Content → Doing K → Doing K
  tell_row None cookie content doing = doing
  tell_row (Some row) cookie content doing = tell_flight row.flight row cookie content doing

  -- what a frame brings is told to its command
  abbrev pub tell_in : ℕ → Content → Doing K → Doing K
  tell_in cookie content doing = tell_row (value_at cookie doing.state.rows) cookie content doing

  abbrev pub land_with : ℕ → Row K → Flight K → End → Option Verdict → List Answer → Doing K → Doing K
  land_with cookie row flight end verdict rest doing =
      let closed = closing_row end doing.state.talk.contexts row in
      let acts = end_acts flight (end_item end) verdict (error_of_row closed) (result_bytes closed) in
      record {
        state = record doing.state {
          rows = filed (is_retiring (end_item end) verdict) cookie (ending true verdict closed) doing.state.rows;
          done = marked (is_some (kept_by verdict)) cookie doing.state.done;
          notes = doing.state.notes ++ map note_of acts;
          freed = doing.state.freed + frees (map note_of acts);
        };
        answers = rest;
        calls = doing.calls ++ map call_of acts;
      }

  abbrev pub land_flight : Option (Flight K) → Row K → ℕ → End → Doing K → Doing K
  land_flight None row cookie end doing = doing
  land_flight (Some flight) row cookie end doing =
      let calls = completes (end_item end) in
      land_with cookie row flight end (next_verdict calls doing.answers) (left calls doing.answers) doing

  abbrev pub land_row : Option (Row K) → ℕ → End → Doing K → Doing K
  land_row None cookie end doing = doing
  land_row (Some row) cookie end doing = land_flight row.flight row cookie end doing

  -- a command ends, by its row alone
  abbrev pub land_in : ℕ → End → Doing K → Doing K
  land_in cookie end doing = land_row (value_at cookie doing.state.rows) cookie end doing

-- Filing a frame is telling it, and after the last one ending the command; a death and a close are such ends alone.
pub record FilesByParts (K : Type 0) : Type 0 where
  pub frame : (cookie : ℕ) (content : Content) (doing : Doing K) → file_in cookie (Framed content false) doing ≡ tell_in cookie content doing
  pub last : (cookie : ℕ) (content : Content) (doing : Doing K) → file_in cookie (Framed content true) doing ≡ land_in cookie Last (tell_in cookie content doing)
  pub lost : (cookie : ℕ) (doing : Doing K) → file_in cookie Lost doing ≡ land_in cookie Died doing
  pub dropped : (cookie : ℕ) (doing : Doing K) → file_in cookie Dropped doing ≡ land_in cookie Closed doing
