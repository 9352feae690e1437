-- The table machine: what is kept of a history, and how each event changes it. No history and no list of entries.
use Rattle.std.specs.Prelude.{ℕ, zero, suc, ◌+◌, ◌-◌, Bool, true, false, not, ◌&&◌, List, [], ◌∷◌, ◌++◌, filter, length, map, nat_eq, replicate, get_or, Option, Some, None, is_some, if◌then◌else◌, nat_le}
use Rattle.lnbd_model.specs.declared.kind.Kind.{Kind}
use Rattle.lnbd_model.specs.declared.note.Note.{Note}
use Rattle.lnbd_model.specs.declared.state.Cause.{Cause}
use Rattle.lnbd_model.specs.declared.state.Cause.TheVariants as cause
use Rattle.lnbd_records.specs.Flags.{flag_no_zeroes}
use Rattle.lnbd_records.specs.Options.{opt_go}
use Rattle.lnbd_keyed.specs.Keyed.{value_at, with_value, without, keys}
use Rattle.lnbd_stream.specs.Stream.{Rules, Held, feed}
use Rattle.lnbd_callbacks.specs.Calls.{Call}
use Rattle.lnbd_callbacks.specs.declared.caller.Heard.{Heard}
use Rattle.lnbd_callbacks.specs.declared.caller.Verdict.{Verdict}
use Rattle.lnbd_history.specs.declared.kinds.Phase.{Phase}
use Rattle.lnbd_history.specs.declared.kinds.Phase.TheVariants as phase
use Rattle.lnbd_history.specs.declared.kinds.Stage.{Stage}
use Rattle.lnbd_history.specs.declared.kinds.Stage.TheVariants.{Created, Open, Disconnecting, Aborting, Closed, Dead}
use Rattle.lnbd_model.specs.declared.export.Context.{Context as MetaContext}
use Rattle.lnbd_outcome.specs.Pieces.{Query, content_of, is_content, has_place, byte_of}
use Rattle.lnbd_outcome.specs.Outcome.{error_number, each, buffer}
use Rattle.lnbd_outcome.specs.Hearing.{Hearing}
use Rattle.lnbd_outcome.specs.Facts.{Facts, no_facts, is_bad, facts_with, heard_by}
use Rattle.lnbd_history.specs.Strict.{all_strict}
use Rattle.lnbd_history.specs.Commands.{Command, Flight, Request, request_of, flight_of, callbacks, is_read, is_write}
use Rattle.lnbd_history.specs.Events.{Answer, Event, History, StrictMode, Start, Opt, Abort, Issue, Refuse, Disconnect, Wrote, Arrived, End, LinkFailed, Retire, ClearLog, Close}
use Rattle.lnbd_history.specs.Events as event
use Rattle.lnbd_history.specs.Agreement.{Turn, Replied, ByName, Opted}
use Rattle.lnbd_history.specs.Agreement as turn
use Rattle.lnbd_history.specs.Talk.{Talk, taking, sent}
use Rattle.lnbd_history.specs.Talk as talk
use Rattle.lnbd_history.specs.Outgoing.{Part, plain, client_flags, command_parts, disconnect_part, abort_part, wrote, ended}
use Rattle.lnbd_history.specs.Arrivals.{Content, Shown, Hello, OptionReply, ExportReply, Reply, Broken, Passed, Ignored, Waiting, Sight, has_bit, shows_at}
use Rattle.lnbd_history.specs.Entries.{Item, Framed, Lost, Dropped, Kept, Act, completes, ends, hears, heard_error, kept_by, free_acts, filing_acts, note_of, call_of, frees}
use Rattle.lnbd_history.specs.History.{next_heard, next_verdict, left}

-- A command's row: what was asked, its callbacks while it is in flight, its buffer and what was told of it until it ends, its first
-- error, and what its completion callback kept.
pub record Row (K : Type 0) : Type 0 where
  pub kind : Kind
  pub flags : ℕ
  pub offset : ℕ
  pub length : ℕ
  pub flight : Option (Flight K)
  pub bytes : List ℕ
  pub facts : Facts
  pub kept : Option Kept

pub record State (K : Type 0) : Type 0 where
  pub stage : Stage
  -- the bits of strict mode
  pub strict : ℕ
  -- the hello's flags
  pub flags : ℕ
  pub talk : Talk
  -- how many bytes were passed over after an abort
  pub passed : ℕ
  -- the parts that wait to go out
  pub waits : List Part
  -- how many commands are wholly written, and how many are issued
  pub written : ℕ
  pub issued : ℕ
  -- the commands that are not retired, by rising cookie, and those of them that completed, in that order
  pub rows : List (ℕ × Row K)
  pub done : List ℕ
  -- the notes since the log was last cleared, and how many callbacks were admitted and freed
  pub notes : List Note
  pub admitted : ℕ
  pub freed : ℕ

-- The state with the bytes that are no whole record yet.
abbrev pub Machine : Type 0 → Type 0
Machine K = Held (State K)

-- An event under way: the state, the answers of callbacks that were not yet given, and the calls that were made.
pub record Doing (K : Type 0) : Type 0 where
  pub state : State K
  pub answers : List Answer
  pub calls : List (Call K)

-- Rows.

-- the buffer with which a command begins: of a read nothing is told
abbrev pub first_bytes : Kind → ℕ → List ℕ → List ℕ
first_bytes kind length payload =
    if is_read kind then replicate length 0
    else if is_write kind then payload
    else []

-- the buffer of a read with content that has no fault
abbrev pub told_bytes : (bad : Bool) → Kind → (offset length : ℕ) → Content → List ℕ → List ℕ
told_bytes bad kind offset length content old =
    if is_read kind && is_content content && not bad then each (λ p. if has_place content p then byte_of content p else get_or old (p - offset) 0) offset length
    else old

-- A command that ends and isn't kept is retired.
abbrev pub is_retiring : Item → Option Verdict → Bool
is_retiring item verdict = ends item && not (is_some (kept_by verdict))

module _ {K : Type 0} where
  abbrev pub new_row : Request K → Row K
  new_row asks = record {
    kind = asks.kind;
    flags = asks.flags;
    offset = asks.offset;
    length = asks.length;
    flight = Some asks.flight;
    bytes = first_bytes asks.kind asks.length asks.payload;
    facts = no_facts;
    kept = None;
  }

  -- what was asked, less the bytes to be written
  abbrev pub query_in : Row K → Query
  query_in row = record { kind = row.kind; flags = row.flags; offset = row.offset; length = row.length; payload = [] }

  -- what an item tells the chunk or extents callback, where these meta contexts are agreed
  abbrev pub heard_in : Row K → List MetaContext → Item → Option Hearing
  heard_in row contexts item = heard_by (query_in row) row.facts contexts item

  -- the row with what an item tells, and with the answer of the chunk or extents callback
  abbrev pub hearing : Row K → List MetaContext → Item → Option Heard → Row K
  hearing row contexts item heard = record row {
    bytes = told_bytes (is_bad (query_in row) contexts row.facts (content_of item)) row.kind row.offset row.length (content_of item) row.bytes;
    facts = facts_with (query_in row) contexts item (heard_error heard) row.facts;
  }

  abbrev pub error_of_row : Row K → ℕ
  error_of_row row = error_number row.facts.failure

  -- the row after its end: its buffer went to the completion callback, and of what was told only its first error stays
  abbrev pub ending : Bool → Option Verdict → Row K → Row K
  ending false verdict row = row
  ending true verdict row = record row { flight = None; bytes = []; facts = record no_facts { failure = row.facts.failure }; kept = kept_by verdict }

  abbrev pub add : Row K → List MetaContext → Item → Option Heard → Option Verdict → Row K
  add row contexts item heard verdict = ending (ends item) verdict (hearing row contexts item heard)

  -- the bytes that go to the completion callback
  abbrev pub result_bytes : Row K → List ℕ
  result_bytes row = buffer row.kind row.length row.bytes (error_of_row row) row.bytes

  -- the table after an item: the command is retired where it ended and nothing was kept
  abbrev pub filed : Bool → ℕ → Row K → List (ℕ × Row K) → List (ℕ × Row K)
  filed true cookie row rows = without cookie rows
  filed false cookie row rows = with_value cookie row rows

-- the list without a cookie
abbrev pub dropped : ℕ → List ℕ → List ℕ
dropped cookie done = filter (λ other. not (nat_eq other cookie)) done

abbrev pub marked : Bool → ℕ → List ℕ → List ℕ
marked true cookie done = done ++ cookie ∷ []
marked false cookie done = done

module _ {K : Type 0} where
  -- Filing.

  -- the calls of one filing under a row in flight
  abbrev pub acts_in : Row K → Flight K → List MetaContext → Item → Option Heard → Option Verdict → List (Act K)
  acts_in row flight contexts item heard verdict =
      filing_acts flight (heard_in row contexts item) item heard verdict (error_of_row (hearing row contexts item heard)) (result_bytes (hearing row contexts item heard))

  -- the state after these calls, of which this row was left
  abbrev pub file_state : ℕ → Row K → Item → Option Verdict → List (Act K) → State K → State K
  file_state cookie row item verdict acts state = record state {
    rows = filed (is_retiring item verdict) cookie row state.rows;
    done = marked (is_some (kept_by verdict)) cookie state.done;
    notes = state.notes ++ map note_of acts;
    freed = state.freed + frees (map note_of acts);
  }

  abbrev pub file_with : ℕ → Row K → Flight K → Item → Option Heard → Option Verdict → List Answer → Doing K → Doing K
  file_with cookie row flight item heard verdict rest doing =
      let contexts = doing.state.talk.contexts in
      let acts = acts_in row flight contexts item heard verdict in
      record {
        state = file_state cookie (add row contexts item heard verdict) item verdict acts doing.state;
        answers = rest;
        calls = doing.calls ++ map call_of acts;
      }

  -- whether an item calls the chunk or extents callback of a row in flight
  abbrev pub hears_in : Row K → Flight K → List MetaContext → Item → Bool
  hears_in row flight contexts item = hears flight (heard_in row contexts item)

  -- an item under a command in flight, with the next answers for the callbacks that it calls
  abbrev pub file_flight : Option (Flight K) → Row K → ℕ → Item → Doing K → Doing K
  file_flight None row cookie item doing = doing
  file_flight (Some flight) row cookie item doing =
      let calls_first = hears_in row flight doing.state.talk.contexts item in
      file_with cookie row flight item
      (next_heard calls_first doing.answers)
      (next_verdict (completes item) (left calls_first doing.answers))
      (left (completes item) (left calls_first doing.answers))
      doing

  abbrev pub file_row : Option (Row K) → ℕ → Item → Doing K → Doing K
  file_row None cookie item doing = doing
  file_row (Some row) cookie item doing = file_flight row.flight row cookie item doing

  abbrev pub file_in : ℕ → Item → Doing K → Doing K
  file_in cookie item doing = file_row (value_at cookie doing.state.rows) cookie item doing

  -- the same item under each of these commands that is in flight
  abbrev pub file_all : Item → List ℕ → Doing K → Doing K
  file_all item [] doing = doing
  file_all item (cookie ∷ cookies) doing = file_all item cookies (file_in cookie item doing)

  abbrev pub on_state : (State K → State K) → Doing K → Doing K
  on_state f doing = record { state = f doing.state; answers = doing.answers; calls = doing.calls }

  -- Each command in flight is lost, in order of cookies, and nothing waits.
  abbrev pub kill : Cause → Doing K → Doing K
  kill cause doing = file_all Lost (keys doing.state.rows) (on_state (λ state. record state { stage = Dead cause; waits = [] }) doing)

  -- Negotiation.

  abbrev pub asking : List Part → State K → State K
  asking parts state = record state { waits = state.waits ++ parts }

  abbrev pub turned : Turn → State K → State K
  turned turn state = record state { talk = taking turn state.talk; waits = state.waits ++ map plain (sent turn state.talk) }

  abbrev pub if_refused : Phase → Doing K → Doing K
  if_refused (phase.Refused code) doing = kill (cause.Refused opt_go code) doing
  if_refused other doing = doing

  abbrev pub greeted : ℕ → State K → State K
  greeted flags state = turned turn.Hello (record state { flags = flags; waits = state.waits ++ plain (client_flags flags) ∷ [] })

  abbrev pub replied : Doing K → Doing K
  replied doing = if_refused doing.state.talk.phase doing

  abbrev pub enter : Shown → Doing K → Doing K
  enter (Hello flags) doing = on_state (greeted flags) doing
  enter (OptionReply told) doing = replied (on_state (turned (Replied told)) doing)
  enter (ExportReply size flags) doing = on_state (turned (ByName size flags)) doing
  enter (Reply frame) doing = file_in frame.cookie (Framed frame.content frame.last) doing
  enter (Broken breach) doing = kill (cause.Broke breach) doing
  enter Passed doing = on_state (λ state. record state { passed = state.passed + 1 }) doing
  enter Ignored doing = doing

  -- By what bytes are judged.

  abbrev pub sight : State K → Sight
  sight state = record {
    stage = state.stage;
    phase = state.talk.phase;
    count = state.talk.pending.count;
    size = state.talk.pending.size;
    no_zeroes = has_bit flag_no_zeroes state.flags;
    structured = state.talk.structured;
    extended = state.talk.extended;
    passed = state.passed;
  }

  abbrev pub waiting_row : Option (Flight K) → Row K → Option Waiting
  waiting_row None row = None
  waiting_row (Some flight) row = Some (record { kind = row.kind; offset = row.offset; length = row.length; faults = row.facts.faults })

  abbrev pub waited_of : Bool → Option (Row K) → Option Waiting
  waited_of true (Some row) = waiting_row row.flight row
  waited_of true None = None
  waited_of false row = None

  -- the command of this cookie, where it is wholly written and in flight
  abbrev pub waited : State K → ℕ → Option Waiting
  waited state cookie = waited_of (nat_le cookie state.written) (value_at cookie state.rows)

  abbrev pub table_rules : Rules (Doing K) Shown
  table_rules = record { shows = λ doing. shows_at doing.state.stage (sight doing.state) (waited doing.state); enter = enter }

  -- The events.

  abbrev pub issued : Command K → State K → State K
  issued command state = record state {
    waits = state.waits ++ command_parts state.talk.extended (state.issued + 1) command;
    issued = state.issued + 1;
    rows = state.rows ++ (state.issued + 1, new_row (request_of state.admitted command)) ∷ [];
    admitted = state.admitted + callbacks command.first;
  }

  -- a refused command's callbacks are admitted and freed
  abbrev pub refused : Flight K → ℕ → Doing K → Doing K
  refused flight count doing = record {
    state = record doing.state {
      notes = doing.state.notes ++ map note_of (free_acts flight);
      admitted = doing.state.admitted + count;
      freed = doing.state.freed + frees (map note_of (free_acts flight));
    };
    answers = doing.answers;
    calls = doing.calls ++ map call_of (free_acts flight);
  }

  abbrev pub writing : ℕ → State K → State K
  writing n state = record state { waits = wrote state.waits n; written = state.written + ended state.waits n }

  abbrev pub retired : ℕ → State K → State K
  retired cookie state = record state { rows = without cookie state.rows; done = dropped cookie state.done }

  -- how many commands are in flight
  abbrev pub flying : List (ℕ × Row K) → ℕ
  flying [] = 0
  flying (entry ∷ rows) = (if is_some entry.1.flight then 1 else 0) + flying rows

  abbrev pub ended_closing : ℕ → Doing K → Doing K
  ended_closing zero doing = on_state (λ state. record state { stage = Closed; waits = [] }) doing
  ended_closing (suc n) doing = kill cause.Ended doing

  abbrev pub change : (Doing K → Doing K) → Held (Doing K) → Held (Doing K)
  change f held = record { known = f held.known; pending = held.pending }

  -- the same, and the bytes that are no whole record are dropped
  abbrev pub finish : (Doing K → Doing K) → Held (Doing K) → Held (Doing K)
  finish f held = record { known = f held.known; pending = [] }

  abbrev pub ended_at : Stage → Held (Doing K) → Held (Doing K)
  ended_at Open held = finish (kill cause.Ended) held
  ended_at Disconnecting held = finish (ended_closing (flying held.known.state.rows)) held
  ended_at Aborting held = finish (ended_closing (flying held.known.state.rows)) held
  ended_at Created held = held
  ended_at Closed held = held
  ended_at (Dead cause) held = held

  abbrev pub failed_at : Stage → Held (Doing K) → Held (Doing K)
  failed_at Open held = finish (kill cause.LinkFailed) held
  failed_at Disconnecting held = finish (kill cause.LinkFailed) held
  failed_at Aborting held = finish (kill cause.LinkFailed) held
  failed_at Created held = held
  failed_at Closed held = held
  failed_at (Dead cause) held = held

  -- Close frees the callbacks of each command in flight and completes none.
  abbrev pub closed : Doing K → Doing K
  closed doing = file_all Dropped (keys doing.state.rows) (on_state (λ state. record state { stage = Closed; waits = [] }) doing)

  abbrev pub begin : List Answer → Machine K → Held (Doing K)
  begin answers machine = record { known = record { state = machine.known; answers = answers; calls = [] }; pending = machine.pending }

  -- An event from its beginning to its end.
  abbrev pub course : Machine K → Event K → Held (Doing K)
  course machine (event.Set setting) = change (on_state (turned (turn.Set setting))) (begin [] machine)
  course machine (StrictMode bits) = change (on_state (λ state. record state { strict = bits })) (begin [] machine)
  course machine Start = change (on_state (λ state. record state { stage = Open })) (begin [] machine)
  course machine (Opt option) = change (on_state (turned (Opted option))) (begin [] machine)
  course machine Abort = finish (on_state (λ state. asking (abort_part ∷ []) (record state { stage = Aborting }))) (begin [] machine)
  course machine (Issue command) = change (on_state (issued command)) (begin [] machine)
  course machine (Refuse command why) = change (refused (flight_of machine.known.admitted command.first command.done) (callbacks command.first)) (begin [] machine)
  course machine Disconnect = change (on_state (λ state. asking (disconnect_part state.talk.extended ∷ []) (record state { stage = Disconnecting }))) (begin [] machine)
  course machine (Wrote n) = change (on_state (writing n)) (begin [] machine)
  course machine (Arrived bytes answers) = feed table_rules (begin answers machine) bytes
  course machine (End answers) = ended_at machine.known.stage (begin answers machine)
  course machine (LinkFailed answers) = failed_at machine.known.stage (begin answers machine)
  course machine (Retire cookie) = change (on_state (retired cookie)) (begin [] machine)
  course machine ClearLog = change (on_state (λ state. record state { notes = [] })) (begin [] machine)
  course machine Close = finish closed (begin [] machine)

  -- the machine after an event, and the calls on callbacks that the event made
  abbrev pub step : Machine K → Event K → Machine K
  step machine event = record { known = (course machine event).known.state; pending = (course machine event).pending }

  abbrev pub calls : Machine K → Event K → List (Call K)
  calls machine event = (course machine event).known.calls

  abbrev pub created : Machine K
  created = record {
    known = record {
      stage = Created;
      strict = all_strict;
      flags = 0;
      talk = talk.begun;
      passed = 0;
      waits = [];
      written = 0;
      issued = 0;
      rows = [];
      done = [];
      notes = [];
      admitted = 0;
      freed = 0;
    };
    pending = [];
  }

  -- the machine that stands for a history
  abbrev pub machine : History K → Machine K
  machine [] = created
  machine (event ∷ before) = step (machine before) event
