-- What each call answers, read from the machine's state.
use Rattle.std.specs.Prelude.{ℕ, List, length, Option, Some, None}
use Rattle.lnbd_model.specs.declared.export.ExportInfo.{ExportInfo}
use Rattle.lnbd_model.specs.declared.failure.Failure.{Failure}
use Rattle.lnbd_model.specs.declared.refusal.Why.{Why}
use Rattle.lnbd_model.specs.declared.state.State.{State as Standing}
use Rattle.lnbd_keyed.specs.Keyed.{value_at}
use Rattle.lnbd_history.specs.declared.kinds.Completed.{Completed}
use Rattle.lnbd_history.specs.declared.kinds.Completed.TheVariants.{NotYet, NoSuchCookie}
use Rattle.lnbd_history.specs.declared.kinds.Peeked.{Peeked}
use Rattle.lnbd_history.specs.Commands.{Command}
use Rattle.lnbd_history.specs.Outgoing.{out}
use Rattle.lnbd_history.specs.Entries.{Kept}
use Rattle.lnbd_history.specs.Answers.{state_at, is_living, direction_of, info_of, kept_as, peeked_of}
use Rattle.lnbd_history.specs.Refusals.{Terms, terms_of, refusal}
use Rattle.lnbd_machine.specs.Machine.{Row, State, flying}

-- A command is completed once something is kept of it.

abbrev pub completed_with : Option Kept → Completed
completed_with None = NotYet
completed_with (Some kept) = kept_as (Some kept)

abbrev pub failure_with : Option Kept → Option Failure → Option Failure
failure_with None failure = None
failure_with (Some kept) failure = failure

module _ {K : Type 0} where
  abbrev pub state_now : State K → Standing
  state_now state = state_at state.stage state.talk.phase

  abbrev pub in_flight_now : State K → ℕ
  in_flight_now state = flying state.rows

  abbrev pub out_now : State K → List ℕ
  out_now state = out state.waits

  abbrev pub direction_now : State K → ℕ
  direction_now state = direction_of (is_living state.stage) (out_now state)

  abbrev pub peeked_now : State K → Peeked
  peeked_now state = peeked_of state.done (length state.rows)

  abbrev pub completed_row : Option (Row K) → Completed
  completed_row None = NoSuchCookie
  completed_row (Some row) = completed_with row.kept

  abbrev pub completed_now : State K → ℕ → Completed
  completed_now state cookie = completed_row (value_at cookie state.rows)

  -- the first error of a command that is completed, with where it came from
  abbrev pub failure_row : Option (Row K) → Option Failure
  failure_row None = None
  failure_row (Some row) = failure_with row.kept row.facts.failure

  abbrev pub failure_now : State K → ℕ → Option Failure
  failure_now state cookie = failure_row (value_at cookie state.rows)

  abbrev pub info_now : State K → Option ExportInfo
  info_now state = info_of state.talk.export state.talk.contexts state.talk.structured state.talk.extended

  abbrev pub terms_now : State K → Terms
  terms_now state = terms_of (state_now state) (length state.rows) state.talk.export state.talk.contexts state.talk.structured state.talk.extended state.strict

  abbrev pub refusal_now : ℕ → State K → Command K → Option Why
  refusal_now limit state command = refusal limit (terms_now state) command.kind command.flags command.offset command.length
