-- How many bytes may still come and go, and be held, without a new call of the caller. It is an upper bound, and a rough one.
use Rattle.std.specs.Prelude.{◌≡◌, ℕ, false, ◌+◌, ◌-◌, ◌*◌, ◌<◌, true, List, [], ◌∷◌, length, map, is_some, if◌then◌else◌, ◌==◌}
use Rattle.lnbd_model.specs.declared.export.Context.{Context as MetaContext}
use Rattle.lnbd_records.specs.Handshake.{export_name_reply_size, hello_size, option_reply_head_size, padding}
use Rattle.lnbd_records.specs.Limits.{max_data, max_option_reply, max_passed}
use Rattle.lnbd_records.specs.Options.{opt_extended_headers, opt_go, opt_set_meta_context, opt_structured_reply}
use Rattle.lnbd_records.specs.Transmission.{extended_head_size}
use Rattle.lnbd_history.specs.declared.kinds.Phase.{Phase}
use Rattle.lnbd_history.specs.declared.kinds.Phase.TheVariants.{Greeting, Asked, AskedByName, OptMode, Ready, Refused}
use Rattle.lnbd_history.specs.declared.kinds.Stage.{Stage}
use Rattle.lnbd_history.specs.declared.kinds.Stage.TheVariants.{Created, Open, Disconnecting, Aborting, Closed, Dead}
use Rattle.lnbd_history.specs.Answers.{is_living}
use Rattle.lnbd_history.specs.Arrivals.{limit}
use Rattle.lnbd_history.specs.Events.{Event, History, Wrote, Arrived, End, LinkFailed}
use Rattle.lnbd_history.specs.Outgoing.{plain, request_at, total}
use Rattle.lnbd_machine.specs.Machine.{Row, State, Machine, query_in, step}
use Rattle.lnbd_standing.specs.Standing.{StandsFor, May}
use Rattle.lnbd_bounds.specs.Owed.{owed}

-- The most bytes of the next record, where a reply to a command has at most `frame`. In opt mode no option is unanswered: a head is a breach.
abbrev pub most : (frame : ℕ) → Phase → ℕ
most frame Greeting = hello_size
most frame (Asked option) = option_reply_head_size + max_option_reply
most frame AskedByName = export_name_reply_size + padding false
most frame OptMode = option_reply_head_size
most frame Ready = frame
most frame (Refused code) = 0

-- What may follow the next record. Each phase counts one, its request, its next record, and what may follow that.
module _ (name : List ℕ) (contexts : List (List ℕ)) (frame frames : ℕ) where
  -- the request of a phase
  abbrev pub request : Phase → ℕ
  request phase = total (map plain (request_at phase name contexts))

  -- the replies that may still come
  abbrev pub replies : ℕ
  replies = frames * (1 + frame)

  abbrev pub ready : ℕ
  ready = 1 + frame + replies

  -- EXPORT_NAME is asked, and what may follow
  abbrev pub by_name : ℕ
  by_name = request AskedByName + 1 + (export_name_reply_size + padding false) + ready

  -- an option is asked: its request, as many replies as it may have, and the one that ends the answer
  abbrev pub asking : ℕ → ℕ
  asking option = request (Asked option) + (limit option + 1) * (1 + option_reply_head_size + max_option_reply)

  -- The answer to GO may lead to EXPORT_NAME or to opt mode, that to SET_META_CONTEXT to GO, that to STRUCTURED_REPLY to
  -- SET_META_CONTEXT, that to EXTENDED_HEADERS to STRUCTURED_REPLY, and the hello to EXTENDED_HEADERS.
  unfoldable pub past_go : ℕ
  past_go = 1 + option_reply_head_size + by_name

  unfoldable pub past_contexts : ℕ
  past_contexts = asking opt_go + past_go

  unfoldable pub past_structured : ℕ
  past_structured = asking opt_set_meta_context + past_contexts

  unfoldable pub past_extended : ℕ
  past_extended = asking opt_structured_reply + past_structured

  unfoldable pub past_hello : ℕ
  past_hello = asking opt_extended_headers + past_extended

  -- what may follow the answer to an option
  abbrev pub past_option : ℕ → ℕ
  past_option option =
      if option == opt_extended_headers then past_extended
      else if option == opt_structured_reply then past_structured
      else if option == opt_go then past_go
      else past_contexts

  -- What may follow the next record, where so many replies of the answer that isn't ended are counted. The hello is
  -- answered with 4 bytes of flags.
  abbrev pub later : (count : ℕ) → Phase → ℕ
  later count Greeting = 4 + past_hello
  later count (Asked option) = (limit option - count) * (1 + option_reply_head_size + max_option_reply) + past_option option
  later count AskedByName = ready
  later count OptMode = 0
  later count Ready = replies
  later count (Refused code) = 0

-- a sum over a map
abbrev pub total_of : {V : Type 0} → (V → ℕ) → List (ℕ × V) → ℕ
total_of measure [] = 0
total_of measure (x ∷ xs) = measure x.1 + total_of measure xs

module _ {K : Type 0} where
  -- the bytes that are asked of a command in flight, and the replies that may still come to it
  abbrev pub asked_of : Row K → ℕ
  asked_of row = if is_some row.flight then row.length else 0

  abbrev pub owed_of : List MetaContext → Row K → ℕ
  owed_of contexts row = if is_some row.flight then owed (query_in row) contexts row.facts else 0

  -- the same of all commands
  abbrev pub asked_in : State K → ℕ
  asked_in state = total_of asked_of state.rows

  abbrev pub owed_in : State K → ℕ
  owed_in state = total_of (owed_of state.talk.contexts) state.rows

  -- A reply to a command has a head, and behind it no more than a chunk may have or are asked of all.
  abbrev pub frame_of : State K → ℕ
  frame_of state = extended_head_size + (8 + max_data) + asked_in state

  abbrev pub record_of : State K → ℕ
  record_of state = most (frame_of state) state.talk.phase

  abbrev pub later_of : State K → ℕ
  later_of state = later state.talk.name state.talk.wanted (frame_of state) (owed_in state) state.talk.pending.count state.talk.phase

  -- what may still come in this stage, where so many bytes are held; after an abort some bytes are passed over
  abbrev pub coming : Stage → State K → ℕ → ℕ
  coming Created state held = 0
  coming Open state held = 1 + (record_of state - held) + later_of state
  coming Disconnecting state held = 1 + (record_of state - held) + later_of state
  coming Aborting state held = 1 + (max_passed - state.passed)
  coming Closed state held = 0
  coming (Dead cause) state held = 0

  -- what may still come, and what waits to go out
  abbrev pub left : State K → ℕ → ℕ
  left state held = coming state.stage state held + total state.waits

  unfoldable pub budget : Machine K → ℕ
  budget machine = left machine.known (length machine.pending)

  -- bytes came or went, or the connection ended
  abbrev pub IsSpending : Machine K → Event K → Type 0
  IsSpending now (Wrote n) = 0 < n
  IsSpending now (Arrived bytes answers) = 0 < length bytes
  IsSpending now (End answers) = is_living now.known.stage ≡ true
  IsSpending now (LinkFailed answers) = is_living now.known.stage ≡ true
  IsSpending now other = ⊥

-- Each of them leaves less.
abbrev pub EventsSpend : Type 0 → Type 0
EventsSpend K = (limit : ℕ) (history : History K) (now : Machine K) (event : Event K) → StandsFor limit history now → May limit now event → IsSpending now event → budget (step now event) < budget now
