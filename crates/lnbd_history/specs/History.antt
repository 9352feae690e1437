-- What a history means. The latest event stands first. What only other events change is read from the history before an
-- event; what the bytes themselves change is in what is known.
use Rattle.std.specs.Prelude.{ℕ, zero, suc, ◌+◌, Bool, true, false, not, ◌&&◌, ◌||◌, List, [], ◌∷◌, ◌++◌, length, map, Option, Some, None, is_some, if◌then◌else◌, ◌==◌, nat_le}
use Rattle.lnbd_model.specs.declared.state.Cause.{Cause}
use Rattle.lnbd_model.specs.declared.state.Cause.TheVariants as cause
use Rattle.lnbd_model.specs.declared.export.Context.{Context as MetaContext}
use Rattle.lnbd_callbacks.specs.Calls.{counted}
use Rattle.lnbd_callbacks.specs.declared.caller.Heard.{Heard}
use Rattle.lnbd_callbacks.specs.declared.caller.Heard.TheVariants.{Going}
use Rattle.lnbd_callbacks.specs.declared.caller.Verdict.{Verdict}
use Rattle.lnbd_callbacks.specs.declared.caller.Verdict.TheVariants as verdict
use Rattle.lnbd_stream.specs.Stream.{Rules, Held, feed}
use Rattle.lnbd_records.specs.Flags.{flag_no_zeroes}
use Rattle.lnbd_records.specs.Options.{opt_go}
use Rattle.lnbd_history.specs.declared.kinds.Phase.{Phase}
use Rattle.lnbd_history.specs.declared.kinds.Phase.TheVariants as phase
use Rattle.lnbd_history.specs.declared.kinds.Stage.{Stage}
use Rattle.lnbd_history.specs.declared.kinds.Stage.TheVariants.{Created, Open, Disconnecting, Aborting, Closed, Dead}
use Rattle.lnbd_history.specs.Commands.{Flight, Request, flight_of, request_of, callbacks}
use Rattle.lnbd_history.specs.Events.{Answer, Hears, Decides, Event, History, StrictMode, Start, Opt, Abort, Issue, Refuse, Disconnect, Wrote, Arrived, End, LinkFailed, Retire, ClearLog, Close}
use Rattle.lnbd_history.specs.Events as event
use Rattle.lnbd_history.specs.Agreement.{Turn, Replied, ByName, Opted, phase, under_way, end_of, size_told, structured, extended, contexts, steps}
use Rattle.lnbd_history.specs.Agreement as turn
use Rattle.lnbd_history.specs.Outgoing.{Part, plain, client_flags, next_request, command_parts, disconnect_part, abort_part, waiting, whole}
use Rattle.lnbd_history.specs.Arrivals.{Shown, Hello, OptionReply, ExportReply, Reply, Broken, Passed, Ignored, Waiting, Sight, has_bit, shows_at}
use Rattle.lnbd_history.specs.Entries.{Item, Framed, Lost, Dropped, Filing, Entry, Filed, Freed, Cleared, completes, hears, own, is_ended, is_retired, hearing_in, faults_in}
use Rattle.lnbd_history.specs.Strict.{all_strict}

-- The answers of callbacks.

-- the answer of a chunk callback, where it is called, and of a completion callback
abbrev pub next_heard : Bool → List Answer → Option Heard
next_heard false answers = None
next_heard true [] = Some Going
next_heard true (Hears heard ∷ answers) = Some (counted heard)
next_heard true (Decides verdict ∷ answers) = Some Going

abbrev pub next_verdict : Bool → List Answer → Option Verdict
next_verdict false answers = None
next_verdict true [] = Some verdict.Retire
next_verdict true (Decides verdict ∷ answers) = Some verdict
next_verdict true (Hears heard ∷ answers) = Some verdict.Retire

-- the answers that are left
abbrev pub left : Bool → List Answer → List Answer
left false answers = answers
left true [] = []
left true (answer ∷ answers) = answers

-- From the events alone.

-- how many commands were issued, how many callbacks admitted, how many bytes went out
pub record Asked : Type 0 where
  pub issued : ℕ
  pub admitted : ℕ
  pub wrote : ℕ

module _ {K : Type 0} where
  abbrev pub asked : History K → Asked
  asked [] = record { issued = 0; admitted = 0; wrote = 0 }
  asked (Issue command ∷ before) = record { issued = (asked before).issued + 1; admitted = (asked before).admitted + callbacks command.first; wrote = (asked before).wrote }
  asked (Refuse command why ∷ before) = record { issued = (asked before).issued; admitted = (asked before).admitted + callbacks command.first; wrote = (asked before).wrote }
  asked (Wrote n ∷ before) = record { issued = (asked before).issued; admitted = (asked before).admitted; wrote = (asked before).wrote + n }
  asked (event ∷ before) = asked before

  -- Cookies are 1, 2, 3 in order of accepted commands.
  abbrev pub request : History K → ℕ → Option (Request K)
  request [] cookie = None
  request (Issue command ∷ before) cookie =
      if (asked before).issued + 1 == cookie then Some (request_of (asked before).admitted command)
      else request before cookie
  request (event ∷ before) cookie = request before cookie

  -- whether the caller took its result
  abbrev pub is_taken : History K → ℕ → Bool
  is_taken [] cookie = false
  is_taken (Retire other ∷ before) cookie = (other == cookie) || is_taken before cookie
  is_taken (event ∷ before) cookie = is_taken before cookie

  -- the bits of strict mode
  abbrev pub strict_mode : History K → ℕ
  strict_mode [] = all_strict
  strict_mode (StrictMode bits ∷ before) = bits
  strict_mode (event ∷ before) = strict_mode before

-- What is known.
pub record Known (K : Type 0) : Type 0 where
  pub stage : Stage
  -- the hello's flags
  pub flags : ℕ
  -- what came in negotiation, the latest first
  pub turns : List Turn
  -- how many bytes were passed over after an abort
  pub passed : ℕ
  -- the parts to be sent, in order of asking
  pub parts : List Part
  -- what was filed, the latest first
  pub entries : List (Entry K)
  -- of the event, the answers that were not yet given
  pub answers : List Answer

-- the cookies 1 to n
abbrev pub cookies : ℕ → List ℕ
cookies zero = []
cookies (suc n) = cookies n ++ suc n ∷ []

-- The request that a turn makes the client send, if any.
abbrev pub if_ended : Bool → List (List ℕ) → List (List ℕ)
if_ended ended requests = if ended then requests else []

abbrev pub sent_by : Turn → List Turn → List (List ℕ)
sent_by turn.Hello before = next_request (turn.Hello ∷ before)
sent_by (Replied reply) before = if_ended (is_some (end_of reply)) (next_request (Replied reply ∷ before))
sent_by (ByName size flags) before = []
sent_by (turn.Set setting) before = []
sent_by (Opted option) before = next_request (Opted option ∷ before)

module _ {K : Type 0} where
  -- Filing.

  abbrev pub agreed_contexts : Known K → List MetaContext
  agreed_contexts known = contexts (steps known.turns)

  abbrev pub is_extended : Known K → Bool
  is_extended known = extended (steps known.turns)

  -- an item under this cookie, where these were filed before, with the next answers for the callbacks that it calls
  abbrev pub filing_of : Request K → ℕ → List (Filing K) → List MetaContext → Item → List Answer → Filing K
  filing_of asks cookie earlier contexts item answers = record {
    cookie = cookie;
    request = asks;
    contexts = contexts;
    item = item;
    heard = next_heard (hears asks.flight (hearing_in asks earlier contexts item)) answers;
    verdict = next_verdict (completes item) (left (hears asks.flight (hearing_in asks earlier contexts item)) answers);
  }

  -- the answers that it leaves
  abbrev pub answers_after : Request K → List (Filing K) → List MetaContext → Item → List Answer → List Answer
  answers_after asks earlier contexts item answers = left (completes item) (left (hears asks.flight (hearing_in asks earlier contexts item)) answers)

  abbrev pub file_under : Option (Request K) → ℕ → Item → Known K → Known K
  file_under None cookie item known = known
  file_under (Some asks) cookie item known = record known {
    entries = Filed (filing_of asks cookie (own cookie known.entries) (agreed_contexts known) item known.answers) ∷ known.entries;
    answers = answers_after asks (own cookie known.entries) (agreed_contexts known) item known.answers;
  }

  abbrev pub file : History K → ℕ → Item → Known K → Known K
  file before cookie item known = file_under (request before cookie) cookie item known

  -- In flight are the issued commands that are not ended.
  abbrev pub in_flight : History K → List (Entry K) → ℕ → Bool
  in_flight before entries cookie = is_some (request before cookie) && not (is_ended (own cookie entries))

  -- the same item under each of these cookies that is in flight
  abbrev pub file_all : History K → Item → List ℕ → Known K → Known K
  file_all before item [] known = known
  file_all before item (cookie ∷ cookies) known = file_all before item cookies (if in_flight before known.entries cookie then file before cookie item known else known)

  -- At death each command in flight is lost, in order of cookies, whether or not its request was sent.
  abbrev pub die : History K → Cause → Known K → Known K
  die before cause known = file_all before Lost (cookies (asked before).issued) (record known { stage = Dead cause })

  -- Negotiation.

  -- one turn more, with its request
  abbrev pub turned : Turn → Known K → Known K
  turned turn known = record known { turns = turn ∷ known.turns; parts = known.parts ++ map plain (sent_by turn known.turns) }

  -- GO (7) was refused.
  abbrev pub if_refused : Phase → History K → Known K → Known K
  if_refused (phase.Refused code) before known = die before (cause.Refused opt_go code) known
  if_refused other before known = known

  abbrev pub greeted : ℕ → Known K → Known K
  greeted flags known = turned turn.Hello (record known { flags = flags; parts = known.parts ++ plain (client_flags flags) ∷ [] })

  abbrev pub replied : History K → Known K → Known K
  replied before known = if_refused (phase known.turns) before known

  abbrev pub entered : History K → Shown → Known K → Known K
  entered before (Hello flags) known = greeted flags known
  entered before (OptionReply told) known = replied before (turned (Replied told) known)
  entered before (ExportReply size flags) known = turned (ByName size flags) known
  entered before (Reply frame) known = file before frame.cookie (Framed frame.content frame.last) known
  entered before (Broken breach) known = die before (cause.Broke breach) known
  entered before Passed known = record known { passed = known.passed + 1 }
  entered before Ignored known = known

  -- By what bytes are judged.

  abbrev pub sight : Known K → Sight
  sight known = record {
    stage = known.stage;
    phase = phase known.turns;
    count = length (under_way known.turns);
    size = size_told (under_way known.turns);
    no_zeroes = has_bit flag_no_zeroes known.flags;
    structured = structured (steps known.turns);
    extended = extended (steps known.turns);
    passed = known.passed;
  }

  abbrev pub waiting_of : (written ended : Bool) → List (Filing K) → Option (Request K) → Option Waiting
  waiting_of true false own (Some asks) = Some (record { kind = asks.kind; offset = asks.offset; length = asks.length; faults = faults_in asks own })
  waiting_of true false own None = None
  waiting_of true true own asks = None
  waiting_of false ended own asks = None

  -- the command of this cookie, where it was wholly written before the event and is in flight
  abbrev pub waited : History K → Known K → ℕ → Option Waiting
  waited before known cookie =
      waiting_of (nat_le cookie (whole known.parts (asked before).wrote)) (is_ended (own cookie known.entries)) (own cookie known.entries) (request before cookie)

  abbrev pub rules : History K → Rules (Known K) Shown
  rules before = record { shows = λ known. shows_at known.stage (sight known) (waited before known); enter = entered before }

  -- The events.

  abbrev pub begun : Known K
  begun = record { stage = Created; flags = 0; turns = []; passed = 0; parts = []; entries = []; answers = [] }

  abbrev pub change : (Known K → Known K) → Held (Known K) → Held (Known K)
  change f held = record { known = f held.known; pending = held.pending }

  -- the same, and the bytes that are no whole record are dropped
  abbrev pub finish : (Known K → Known K) → Held (Known K) → Held (Known K)
  finish f held = record { known = f held.known; pending = [] }

  abbrev pub with_answers : List Answer → Known K → Known K
  with_answers answers known = record known { answers = answers }

  abbrev pub asking : List Part → Known K → Known K
  asking parts known = record known { parts = known.parts ++ parts }

  -- so many of the commands 1 to n are in flight
  abbrev pub flying : History K → List (Entry K) → ℕ → ℕ
  flying before entries zero = 0
  flying before entries (suc n) = flying before entries n + (if in_flight before entries (suc n) then 1 else 0)

  -- where DISC or ABORT was asked and no command is in flight, the end was asked for
  abbrev pub ended_closing : ℕ → History K → Known K → Known K
  ended_closing zero before known = record known { stage = Closed }
  ended_closing (suc n) before known = die before cause.Ended known

  abbrev pub ended_at : Stage → History K → Held (Known K) → Held (Known K)
  ended_at Open before held = finish (die before cause.Ended) held
  ended_at Disconnecting before held = finish (ended_closing (flying before held.known.entries (asked before).issued) before) held
  ended_at Aborting before held = finish (ended_closing (flying before held.known.entries (asked before).issued) before) held
  ended_at Created before held = held
  ended_at Closed before held = held
  ended_at (Dead cause) before held = held

  abbrev pub failed_at : Stage → History K → Held (Known K) → Held (Known K)
  failed_at Open before held = finish (die before cause.LinkFailed) held
  failed_at Disconnecting before held = finish (die before cause.LinkFailed) held
  failed_at Aborting before held = finish (die before cause.LinkFailed) held
  failed_at Created before held = held
  failed_at Closed before held = held
  failed_at (Dead cause) before held = held

  -- Close frees the callbacks of each command in flight and completes none.
  abbrev pub closed : History K → Known K → Known K
  closed before known = file_all before Dropped (cookies (asked before).issued) (record known { stage = Closed })

  abbrev pub freed : Flight K → Known K → Known K
  freed flight known = record known { entries = Freed flight ∷ known.entries }

  abbrev pub reading : History K → Held (Known K)
  reading [] = record { known = begun; pending = [] }
  reading (event.Set setting ∷ before) = change (turned (turn.Set setting)) (reading before)
  reading (StrictMode bits ∷ before) = reading before
  reading (Start ∷ before) = change (λ known. record known { stage = Open }) (reading before)
  reading (Opt option ∷ before) = change (turned (Opted option)) (reading before)
  reading (Abort ∷ before) = finish (λ known. asking (abort_part ∷ []) (record known { stage = Aborting })) (reading before)
  reading (Issue command ∷ before) = change (λ known. asking (command_parts (is_extended known) ((asked before).issued + 1) command) known) (reading before)
  reading (Refuse command why ∷ before) = change (freed (flight_of (asked before).admitted command.first command.done)) (reading before)
  reading (Disconnect ∷ before) = change (λ known. asking (disconnect_part (is_extended known) ∷ []) (record known { stage = Disconnecting })) (reading before)
  reading (Wrote n ∷ before) = reading before
  reading (Arrived bytes answers ∷ before) = feed (rules before) (change (with_answers answers) (reading before)) bytes
  reading (End answers ∷ before) = ended_at (reading before).known.stage before (change (with_answers answers) (reading before))
  reading (LinkFailed answers ∷ before) = failed_at (reading before).known.stage before (change (with_answers answers) (reading before))
  reading (Retire cookie ∷ before) = reading before
  reading (ClearLog ∷ before) = change (λ known. record known { entries = Cleared ∷ known.entries }) (reading before)
  reading (Close ∷ before) = finish (closed before) (change (with_answers []) (reading before))

  -- retired: by the caller, or by the answer of its completion callback, or by a close
  abbrev pub is_gone : History K → List (Entry K) → ℕ → Bool
  is_gone before entries cookie = is_taken before cookie || is_retired (own cookie entries)

-- What waits to go out: nothing after death and in Closed.
abbrev pub waiting_at : Stage → List Part → ℕ → List Part
waiting_at Created parts n = waiting parts n
waiting_at Open parts n = waiting parts n
waiting_at Disconnecting parts n = waiting parts n
waiting_at Aborting parts n = waiting parts n
waiting_at Closed parts n = []
waiting_at (Dead cause) parts n = []

abbrev pub waits : {K : Type 0} → History K → List Part
waits history = waiting_at (reading history).known.stage (reading history).known.parts (asked history).wrote
