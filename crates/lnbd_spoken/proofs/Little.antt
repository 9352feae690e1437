-- A handle that isn't in opt mode writes no more on its link than a handshake has and what it was asked. What its phase may still send falls with each request of the handshake.
use Rattle.std.proofs.Common.{◌≡◌, ◌≢◌, ℕ, zero, suc, ◌+◌, ◌≤◌, Bool, true, false, not, ◌&&◌, List, [], ◌∷◌, ◌++◌, length, map, Option, Some, None, is_some, refl, ap, sym, subst, ◌∙◌, arith, ◌==◌, nat_lt, if◌then◌else◌, ◌⊎◌, inl, inr, length-append}
use Rattle.std.proofs.lemmas.Bool.{false≢true, eq-eqb}
use Rattle.std.proofs.lemmas.List.Concat.{flat_map-append}
use Rattle.lnbd_model.specs.Kind.{type_of, has_range}
use Rattle.lnbd_model.specs.declared.kind.Kind.{Kind}
use Rattle.lnbd_model.specs.declared.breach.Breach.TheVariants.{TooManyReplies}
use Rattle.lnbd_model.specs.declared.state.Cause.{Cause}
use Rattle.lnbd_model.specs.declared.state.Cause.TheVariants as cause
use Rattle.lnbd_model.specs.declared.state.State.TheVariants as state
use Rattle.lnbd_records.specs.Handshake.{option_head, option_request}
use Rattle.lnbd_records.specs.Limits.{max_passed}
use Rattle.lnbd_records.specs.Numbers.{number, row, counted}
use Rattle.lnbd_records.specs.Options.{opt_extended_headers, opt_structured_reply, opt_go, opt_set_meta_context, opt_export_name, err_unsup}
use Rattle.lnbd_records.specs.Requests.{all_counted, information_types, info_request, meta_request}
use Rattle.lnbd_records.specs.Told.{Told}
use Rattle.lnbd_records.specs.Transmission as transmission
use Rattle.lnbd_records.proofs.NumberLaws.{length-row}
use Rattle.lnbd_stream.specs.Stream.{Held, feed}
use Rattle.lnbd_stream.specs.Laws.{Lasts}
use Rattle.lnbd_stream.proofs.Stream.{feed_lasts}
use Rattle.lnbd_history.specs.declared.kinds.Phase.{Phase}
use Rattle.lnbd_history.specs.declared.kinds.Phase.TheVariants.{Greeting, Asked, AskedByName, OptMode, Ready, Refused}
use Rattle.lnbd_history.specs.declared.kinds.Stage.{Stage}
use Rattle.lnbd_history.specs.declared.kinds.Stage.TheVariants.{Created, Open, Disconnecting, Aborting, Closed, Dead}
use Rattle.lnbd_history.specs.Agreement.{Turn, Replied, ByName, End, Acknowledged, Failed, phase, end_of, opt_mode, name_now, contexts_now, asks_structured, asks_extended, is_empty, is_acknowledged, after_answer, after_structured, after_extended, after_go, after_hello, after_reply}
use Rattle.lnbd_history.specs.Agreement as turn
use Rattle.lnbd_history.specs.Answers.{is_living, state_at, state_after}
use Rattle.lnbd_history.specs.Arrivals.{Shown, Hello, OptionReply, ExportReply, Reply, Broken, Passed, Ignored, Waiting, Sight, shows_ignored, shows_passed, shows_in, shows_at}
use Rattle.lnbd_history.specs.Commands.{Command, is_write}
use Rattle.lnbd_history.specs.Entries.{Framed, Lost, Dropped}
use Rattle.lnbd_history.specs.Events.{Setting, Name, Context, Structured, Extended, Event, History, StrictMode, Start, Opt, Abort, Issue, Refuse, Disconnect, Wrote, Arrived, LinkFailed, Retire, ClearLog, Close}
use Rattle.lnbd_history.specs.Events as event
use Rattle.lnbd_history.specs.History.{Known, asked, request, reading, rules, sight, waited, waiting_at, entered, file_all, turned, greeted, if_ended, if_refused, die, cookies, flying, change, with_answers, is_extended, ended_at, ended_closing, failed_at}
use Rattle.lnbd_history.specs.Laws.{Lawful, CanFollow, CanSet, may_name}
use Rattle.lnbd_history.specs.Outgoing.{Part, plain, client_flags, request_at, head, head_of, sent_flags, command_parts, disconnect_part, waiting, total, out}
use Rattle.lnbd_history.proofs.PartLaws.{total-more, total-append}
use Rattle.lnbd_link.specs.Room.{sent_by}
use Rattle.lnbd_link.specs.Call.{Call, Connect, Listen, Accept, Read, Write, Pause, Shut, WriteTold, Moved, Unready, Ended, ReadFault, Sent, Full, WriteFault}
use Rattle.lnbd_link.specs.Traffic.{went_by, bytes_written}
use Rattle.lnbd_asked.specs.Driven.{Drives, Begins, Does, Passes, Writes, Writes_none, Reads, Reads_none, Arrives, Ends, Fails_to_read, Fails_to_write, AllSpell, Spells, is_inward}
use Rattle.lnbd_asked.specs.Laws.{is_on}
use Rattle.lnbd_asked.proofs.Acting.{named_at}
use Rattle.lnbd_asked.proofs.Doing.{state_of, unrefused}
use Rattle.lnbd_asked.proofs.Match.{file_still, all_still}
use Rattle.lnbd_asked.proofs.Phases.{AreShort}
use Rattle.lnbd_asked.proofs.Plain.{IsPlain}
use Rattle.lnbd_asked.proofs.Staying.{die_turns}
use Rattle.lnbd_asked.proofs.ShownBy.{Each, hello_kinds, option_kinds, by_name_kinds}
use Rattle.lnbd_asked.proofs.Steps.{AreFrames, frame_shown}
use Rattle.lnbd_spoken.specs.Little.{longest_handshake, asked_bytes, DrivenWriteLittle}
use Rattle.lnbd_spoken.proofs.Driving.{plain_earlier}

-- What a phase may still send, beyond its own request. The hello leads to EXTENDED_HEADERS (11), the answer to that to STRUCTURED_REPLY (8), that to SET_META_CONTEXT (10),
-- that to GO (7), and that to EXPORT_NAME (1). The numbers are rough.

abbrev past_option : (extended structured go : Bool) → ℕ
past_option extended structured go = if extended then 81000 else if structured then 80000 else if go then 5000 else 10000

abbrev later : Phase → ℕ
later Greeting = 83000
later (Asked option) = past_option (option == opt_extended_headers) (option == opt_structured_reply) (option == opt_go)
later AskedByName = 0
later OptMode = 0
later Ready = 0
later (Refused code) = 0

-- no phase of opt mode
abbrev IsOurs : Phase → Type 0
IsOurs OptMode = ⊥
IsOurs other = Unit {0}

-- the request for the end may still be sent
abbrev ending : Stage → ℕ
ending Created = 32
ending Open = 32
ending Disconnecting = 0
ending Aborting = 0
ending Closed = 0
ending (Dead why) = 0

-- How long the requests are.

counted_long : (bytes : List ℕ) → length (counted bytes) ≡ 4 + length bytes
counted_long bytes = length-append (row (number 4 (length bytes) ∷ [])) bytes ∙ ap (λ n. n + length bytes) (length-row (number 4 (length bytes) ∷ []))

info_long : (name : List ℕ) → length (info_request name (1 ∷ 2 ∷ 3 ∷ [])) ≡ 12 + length name
info_long name =
    let whole = length-append (counted name) (row (information_types (1 ∷ 2 ∷ 3 ∷ []))) in
    let types = length-row (information_types (1 ∷ 2 ∷ 3 ∷ [])) in
    let front = counted_long name in
    omega (arith, whole, types, front)

meta_long : (name : List ℕ) (contexts : List (List ℕ)) → length (meta_request name contexts) ≡ 8 + length name + length (all_counted contexts)
meta_long name contexts =
    let whole = length-append (counted name) (row (number 4 (length contexts) ∷ []) ++ all_counted contexts) in
    let rest = length-append (row (number 4 (length contexts) ∷ [])) (all_counted contexts) in
    let count = length-row (number 4 (length contexts) ∷ []) in
    let front = counted_long name in
    omega (arith, whole, rest, count, front)

all_more : (names : List (List ℕ)) (name : List ℕ) → length (all_counted (names ++ name ∷ [])) ≡ length (all_counted names) + (4 + length name)
all_more [] name =
    let whole = length-append (counted name) [] in
    let one = counted_long name in
    omega (arith, whole, one)
all_more (first ∷ names) name =
    let left = length-append (counted first) (all_counted (names ++ name ∷ [])) in
    let right = length-append (counted first) (all_counted names) in
    let rest = all_more names name in
    omega (arith, left, right, rest)

request_long : (option : ℕ) (body : List ℕ) → length (option_request option body) ≡ 16 + length body
request_long option body = length-append (row (option_head option (length body))) body ∙ ap (λ n. n + length body) (length-row (option_head option (length body)))

flags_long : (flags : ℕ) → length (client_flags flags) ≡ 4
flags_long flags = length-row _

-- a head is that of a request, with extended headers or without
head_short : (extended : Bool) (kind : Kind) (flags cookie offset size : ℕ) → length (head extended kind flags cookie offset size) ≤ 32
head_short true kind flags cookie offset size = let n = length-row (transmission.extended_request (sent_flags kind flags) (type_of kind) cookie offset size) in omega (arith, n)
head_short false kind flags cookie offset size = let n = length-row (transmission.request flags (type_of kind) cookie offset size) in omega (arith, n)

disconnect_short : (extended : Bool) → total (disconnect_part extended ∷ []) ≤ 32
disconnect_short true = let n = length-row transmission.extended_disconnect in omega (arith, n)
disconnect_short false = let n = length-row transmission.disconnect in omega (arith, n)

command_short : {K : Type 0} (extended : Bool) (cookie : ℕ) (command : Command K) → total (command_parts extended cookie command) ≤ 32 + length command.payload
command_short extended cookie command = go (is_write command.kind && not (is_empty command.payload))
  where
    front : (ranged : Bool) → length (if ranged then head extended command.kind command.flags cookie command.offset command.length else head extended command.kind command.flags cookie 0 0) ≤ 32
    front true = head_short extended command.kind command.flags cookie command.offset command.length
    front false = head_short extended command.kind command.flags cookie 0 0

    go : (b : Bool) → total (if b then plain (head_of extended cookie command) ∷ record { bytes = command.payload; ends = true } ∷ [] else record { bytes = head_of extended cookie command; ends = true } ∷ []) ≤ 32 + length command.payload
    go true = let n = front (has_range command.kind) in omega (arith, n)
    go false = let n = front (has_range command.kind) in omega (arith, n)

-- What a phase costs that negotiation comes to: its request, and what it may still send.
module _ (turns : List Turn) (s : AreShort turns) where
  abbrev sent : Phase → ℕ
  sent p = total (map plain (request_at p (name_now turns) (contexts_now turns)))

  record Leads (p : Phase) (most : ℕ) : Type 0 where
    cheap : sent p + later p ≤ most
    ours : IsOurs p

  go_sent : sent (Asked opt_go) ≤ 4124
  go_sent =
      let n = request_long opt_go (info_request (name_now turns) (1 ∷ 2 ∷ 3 ∷ [])) in
      let m = info_long (name_now turns) in
      let short = s.name in
      omega (arith, n, m, short)

  contexts_sent : sent (Asked opt_set_meta_context) ≤ 69720
  contexts_sent =
      let n = request_long opt_set_meta_context (meta_request (name_now turns) (contexts_now turns)) in
      let m = meta_long (name_now turns) (contexts_now turns) in
      let name = s.name in
      let few = s.few in
      let short = s.short in
      omega (arith, n, m, name, few, short)

  structured_sent : sent (Asked opt_structured_reply) ≤ 16
  structured_sent = let n = request_long opt_structured_reply [] in omega (arith, n)

  extended_sent : sent (Asked opt_extended_headers) ≤ 16
  extended_sent = let n = request_long opt_extended_headers [] in omega (arith, n)

  name_sent : sent AskedByName ≤ 4112
  name_sent = let n = request_long opt_export_name (name_now turns) in let short = s.name in omega (arith, n, short)

  structured_leads : (on : Bool) → Leads (after_structured false (contexts_now turns) on) 80000
  structured_leads on = go (on && not (is_empty (contexts_now turns)))
    where
      go : (b : Bool) → Leads (if b then Asked opt_set_meta_context else Asked opt_go) 80000
      go true = record { cheap = let n = contexts_sent in omega (arith, n); ours = tt }
      go false = record { cheap = let n = go_sent in omega (arith, n); ours = tt }

  wider : (p : Phase) (least most : ℕ) → least ≤ most → Leads p least → Leads p most
  wider p least most less l = record { cheap = let n = l.cheap in omega (arith, n, less); ours = l.ours }

  extended_leads : (structured on : Bool) → Leads (after_extended structured false (contexts_now turns) on) 81000
  extended_leads structured on = go (not on && structured)
    where
      go : (b : Bool) → Leads (if b then Asked opt_structured_reply else after_structured false (contexts_now turns) on) 81000
      go true = record { cheap = let n = structured_sent in omega (arith, n); ours = tt }
      go false = wider _ 80000 81000 (omega arith) (structured_leads on)

  hello_leads : (extended structured : Bool) → Leads (after_hello extended structured false (contexts_now turns)) 82000
  hello_leads true structured = record { cheap = let n = extended_sent in omega (arith, n); ours = tt }
  hello_leads false structured = wider _ 81000 82000 (omega arith) (extended_leads structured false)

  go_leads : (end : End) → Leads (after_go false end) 5000
  go_leads Acknowledged = record { cheap = omega arith; ours = tt }
  go_leads (Failed code) = go (code == err_unsup)
    where
      go : (b : Bool) → Leads (if b then AskedByName else Refused code) 5000
      go true = record { cheap = let n = name_sent in omega (arith, n); ours = tt }
      go false = record { cheap = omega arith; ours = tt }

  answer_leads : (structured : Bool) (option : ℕ) (end : End) → Leads (after_answer structured false (contexts_now turns) option end) (later (Asked option))
  answer_leads structured option end = go (option == opt_extended_headers) (option == opt_structured_reply) (option == opt_go)
    where
      go : (a b c : Bool) →
          Leads (if a then after_extended structured false (contexts_now turns) (is_acknowledged end) else if b then after_structured false (contexts_now turns) (is_acknowledged end) else if c then after_go false end else Asked opt_go) (past_option a b c)
      go true b c = extended_leads structured (is_acknowledged end)
      go false true c = structured_leads (is_acknowledged end)
      go false false true = go_leads end
      go false false false = record { cheap = let n = go_sent in omega (arith, n); ours = tt }

-- By what is shown: a hello comes first, and no option reply once EXPORT_NAME is asked.

abbrev Comes : Phase → Shown → Type 0
Comes Greeting found = Unit {0}
Comes (Asked option) (Hello flags) = ⊥
Comes (Asked option) found = Unit {0}
Comes AskedByName (Hello flags) = ⊥
Comes AskedByName (OptionReply told) = ⊥
Comes AskedByName found = Unit {0}
Comes OptMode (Hello flags) = ⊥
Comes OptMode found = Unit {0}
Comes Ready (Hello flags) = ⊥
Comes Ready found = Unit {0}
Comes (Refused code) (Hello flags) = ⊥
Comes (Refused code) found = Unit {0}

ignored_comes : (p : Phase) (bytes : List ℕ) → Each (Comes p) (shows_ignored bytes)
ignored_comes p [] = tt
ignored_comes Greeting (byte ∷ bytes) = tt
ignored_comes (Asked option) (byte ∷ bytes) = tt
ignored_comes AskedByName (byte ∷ bytes) = tt
ignored_comes OptMode (byte ∷ bytes) = tt
ignored_comes Ready (byte ∷ bytes) = tt
ignored_comes (Refused code) (byte ∷ bytes) = tt

passed_comes : (p : Phase) (passed : ℕ) (bytes : List ℕ) → Each (Comes p) (shows_passed passed bytes)
passed_comes p passed [] = tt
passed_comes p passed (byte ∷ bytes) = go (nat_lt passed max_passed) p
  where
    go : (b : Bool) (p : Phase) → Each (Comes p) (if b then Some Passed else Some (Broken TooManyReplies))
    go true Greeting = tt
    go true (Asked option) = tt
    go true AskedByName = tt
    go true OptMode = tt
    go true Ready = tt
    go true (Refused code) = tt
    go false Greeting = tt
    go false (Asked option) = tt
    go false AskedByName = tt
    go false OptMode = tt
    go false Ready = tt
    go false (Refused code) = tt

frames_come : (s : Option Shown) → AreFrames s → Each (Comes Ready) s
frames_come None are = tt
frames_come (Some (Hello flags)) are = are
frames_come (Some (OptionReply told)) are = tt
frames_come (Some (ExportReply size flags)) are = tt
frames_come (Some (Reply frame)) are = tt
frames_come (Some (Broken breach)) are = tt
frames_come (Some Passed) are = tt
frames_come (Some Ignored) are = tt

comes_in : (p : Phase) (sight : Sight) (waited : ℕ → Option Waiting) (bytes : List ℕ) → Each (Comes p) (shows_in p sight waited bytes)
comes_in Greeting sight waited bytes = hello_kinds (Comes Greeting) (λ breach. tt) bytes (λ flags. tt)
comes_in (Asked option) sight waited bytes = option_kinds (Comes (Asked option)) (λ breach. tt) sight bytes (λ told. tt)
comes_in AskedByName sight waited bytes = by_name_kinds (Comes AskedByName) (λ breach. tt) sight.no_zeroes bytes (λ size flags. tt)
comes_in OptMode sight waited bytes = option_kinds (Comes OptMode) (λ breach. tt) sight bytes (λ told. tt)
comes_in Ready sight waited bytes = frames_come _ (frame_shown sight.structured sight.extended waited bytes)
comes_in (Refused code) sight waited bytes = ignored_comes (Refused code) bytes

comes_at : (stage : Stage) (sight : Sight) (waited : ℕ → Option Waiting) (bytes : List ℕ) → Each (Comes sight.phase) (shows_at stage sight waited bytes)
comes_at Created sight waited bytes = ignored_comes sight.phase bytes
comes_at Open sight waited bytes = comes_in sight.phase sight waited bytes
comes_at Disconnecting sight waited bytes = comes_in sight.phase sight waited bytes
comes_at Aborting sight waited bytes = passed_comes sight.phase sight.passed bytes
comes_at Closed sight waited bytes = ignored_comes sight.phase bytes
comes_at (Dead why) sight waited bytes = ignored_comes sight.phase bytes

-- An option reply makes no more be sent than the phase might still send.
record Answered (turns : List Turn) (least : ℕ) (p q : Phase) (ended : Bool) : Type 0 where
  cheap : total (map plain (if_ended ended (request_at q (name_now turns) (contexts_now turns)))) + later q ≤ least
  ours : IsOurs q

reply_sends : (turns : List Turn) (s : AreShort turns) (told : Told) (end : Option End) (p : Phase) → IsOurs p → Comes p (OptionReply told) →
    Answered turns (later p) p (after_reply (asks_structured turns) false (contexts_now turns) end p) (is_some end)
reply_sends turns s told None p ours comes = record { cheap = omega arith; ours = ours }
reply_sends turns s told (Some end) (Asked option) ours comes = let l = answer_leads turns s (asks_structured turns) option end in record { cheap = l.cheap; ours = l.ours }
reply_sends turns s told (Some end) Greeting ours comes = record { cheap = omega arith; ours = tt }
reply_sends turns s told (Some end) AskedByName ours comes = absurd comes
reply_sends turns s told (Some end) OptMode ours comes = absurd ours
reply_sends turns s told (Some end) Ready ours comes = record { cheap = omega arith; ours = tt }
reply_sends turns s told (Some end) (Refused code) ours comes = record { cheap = omega arith; ours = tt }

offered_less : (stage : Stage) (parts : List Part) (n : ℕ) → length (out (waiting_at stage parts n)) ≤ length (out (waiting parts n))
offered_less Created parts n = omega arith
offered_less Open parts n = omega arith
offered_less Disconnecting parts n = omega arith
offered_less Aborting parts n = omega arith
offered_less Closed parts n = omega arith
offered_less (Dead why) parts n = omega arith

ending_most : (stage : Stage) → ending stage ≤ 32
ending_most Created = omega arith
ending_most Open = omega arith
ending_most Disconnecting = omega arith
ending_most Aborting = omega arith
ending_most Closed = omega arith
ending_most (Dead why) = omega arith

living_started : (stage : Stage) → is_living stage ≡ true → stage ≢ Created
living_started Created e = absurd (false≢true e)
living_started Open e = λ c. cc
living_started Disconnecting e = λ c. cc
living_started Aborting e = λ c. cc
living_started Closed e = λ c. cc
living_started (Dead why) e = λ c. cc

created_open : (stage : Stage) (p : Phase) → IsOurs p → state_at stage p ≡ state.Created → ending stage ≡ 32
created_open stage p ours e = go (named_at stage p (ap may_name e))
  where
    go : (stage ≡ Created) ⊎ ((stage ≡ Open) × (p ≡ OptMode)) → ending stage ≡ 32
    go (inl c) = ap ending c
    go (inr o) = ap ending o.0

-- the caller's options are for opt mode
never_opt : (stage : Stage) (p : Phase) → IsOurs p → state_at stage p ≡ state.OptMode → ⊥
never_opt stage p ours e = go (named_at stage p (ap may_name e))
  where
    no : state.Created ≢ state.OptMode
    no e = cc

    go : (stage ≡ Created) ⊎ ((stage ≡ Open) × (p ≡ OptMode)) → ⊥
    go (inl c) = no (sym (ap (λ st. state_at st p) c) ∙ e)
    go (inr o) = subst IsOurs o.1 ours

module _ {K : Type 0} (wrote most : ℕ) where
  -- The parts have the bytes that went out, and with what may still be sent no more than so many.
  record Bounded (known : Known K) : Type 0 where
    short : AreShort known.turns
    ours : IsOurs (phase known.turns)
    enough : wrote ≤ total known.parts
    little : total known.parts + later (phase known.turns) + ending known.stage ≤ most

  -- the same, and not in opt mode
  record Plainly (known : Known K) : Type 0 where
    bounded : Bounded known
    mode : opt_mode known.turns ≡ false

  -- the same parts and turns, and no later stage
  kept : (known after : Known K) → after.turns ≡ known.turns → after.parts ≡ known.parts → ending after.stage ≤ ending known.stage → Bounded known → Bounded after
  kept known after turns parts stage b =
      let same = ap total parts in
      let phases = ap (λ ts. later (phase ts)) turns in
      let enough = b.enough in
      let little = b.little in
      record {
        short = subst AreShort (sym turns) b.short;
        ours = subst (λ ts. IsOurs (phase ts)) (sym turns) b.ours;
        enough = omega (arith, same, enough);
        little = omega (arith, same, phases, stage, little);
      }

  died : (before : History K) (why : Cause) (known : Known K) → Bounded known → Bounded (die before why known)
  died before why known b =
      let s = all_still before Lost (cookies (asked before).issued) (record known { stage = Dead why }) in
      let e = ap ending s.stage in
      kept known (die before why known) s.turns s.parts (omega (arith, e)) b

  filed_all : (before : History K) (known : Known K) → Bounded known → Bounded (file_all before Dropped (cookies (asked before).issued) (record known { stage = Closed }))
  filed_all before known b =
      let s = all_still before Dropped (cookies (asked before).issued) (record known { stage = Closed }) in
      let e = ap ending s.stage in
      kept known (file_all before Dropped (cookies (asked before).issued) (record known { stage = Closed })) s.turns s.parts (omega (arith, e)) b

  refused_plainly : (before : History K) (p : Phase) (known : Known K) → Plainly known → Plainly (if_refused p before known)
  refused_plainly before Greeting known b = b
  refused_plainly before (Asked option) known b = b
  refused_plainly before AskedByName known b = b
  refused_plainly before OptMode known b = b
  refused_plainly before Ready known b = b
  refused_plainly before (Refused code) known b = record {
    bounded = died before (cause.Refused opt_go code) known b.bounded;
    mode = ap opt_mode (die_turns before (cause.Refused opt_go code) known) ∙ b.mode;
  }

  hello_bounded : (flags : ℕ) (known : Known K) → Plainly known → Comes (phase known.turns) (Hello flags) → Plainly (greeted flags known)
  hello_bounded flags known b comes =
      let turns = known.turns in
      let leads : Leads turns b.bounded.short (phase (turn.Hello ∷ turns)) 82000 = subst (λ m. Leads turns b.bounded.short (after_hello (asks_extended turns) (asks_structured turns) m (contexts_now turns)) 82000) (sym b.mode) (hello_leads turns b.bounded.short (asks_extended turns) (asks_structured turns)) in
      let cheap = leads.cheap in
      let joined = total-append (known.parts ++ plain (client_flags flags) ∷ []) (map plain (request_at (phase (turn.Hello ∷ turns)) (name_now turns) (contexts_now turns))) in
      let first = total-append known.parts (plain (client_flags flags) ∷ []) in
      let four = flags_long flags in
      let was = first_phase (phase known.turns) comes in
      let enough = b.bounded.enough in
      let little = b.bounded.little in
      record {
        bounded = record {
          short = record { name = b.bounded.short.name; few = b.bounded.short.few; short = b.bounded.short.short };
          ours = leads.ours;
          enough = omega (arith, joined, first, four, enough);
          little = omega (arith, joined, first, four, was, cheap, little);
        };
        mode = b.mode;
      }
    where
      first_phase : (p : Phase) → Comes p (Hello flags) → later p ≡ 83000
      first_phase Greeting comes = refl
      first_phase (Asked option) comes = absurd comes
      first_phase AskedByName comes = absurd comes
      first_phase OptMode comes = absurd comes
      first_phase Ready comes = absurd comes
      first_phase (Refused code) comes = absurd comes

  replied_bounded : (told : Told) (known : Known K) → Plainly known → Comes (phase known.turns) (OptionReply told) → Plainly (turned (Replied told) known)
  replied_bounded told known b comes =
      let turns = known.turns in
      let a : Answered turns (later (phase turns)) (phase turns) (phase (Replied told ∷ turns)) (is_some (end_of told)) = subst (λ m. Answered turns (later (phase turns)) (phase turns) (after_reply (asks_structured turns) m (contexts_now turns) (end_of told) (phase turns)) (is_some (end_of told))) (sym b.mode) (reply_sends turns b.bounded.short told (end_of told) (phase turns) b.bounded.ours comes) in
      let cheap = a.cheap in
      let joined = total-append known.parts (map plain (if_ended (is_some (end_of told)) (request_at (phase (Replied told ∷ turns)) (name_now turns) (contexts_now turns)))) in
      let enough = b.bounded.enough in
      let little = b.bounded.little in
      record {
        bounded = record {
          short = record { name = b.bounded.short.name; few = b.bounded.short.few; short = b.bounded.short.short };
          ours = a.ours;
          enough = omega (arith, joined, enough);
          little = omega (arith, joined, cheap, little);
        };
        mode = b.mode;
      }

  named_bounded : (size flags : ℕ) (known : Known K) → Plainly known → Plainly (turned (ByName size flags) known)
  named_bounded size flags known b =
      let joined = total-append known.parts [] in
      let enough = b.bounded.enough in
      let little = b.bounded.little in
      record {
        bounded = record {
          short = record { name = b.bounded.short.name; few = b.bounded.short.few; short = b.bounded.short.short };
          ours = tt;
          enough = omega (arith, joined, enough);
          little = omega (arith, joined, little);
        };
        mode = b.mode;
      }

  bounded_lasts : (before : History K) → Lasts (rules before) Plainly
  bounded_lasts before known bytes found b e = go found (subst (Each (Comes (phase known.turns))) e (comes_at known.stage (sight known) (waited before known) bytes))
    where
      go : (found : Shown) → Comes (phase known.turns) found → Plainly (entered before found known)
      go (Hello flags) comes = hello_bounded flags known b comes
      go (OptionReply told) comes = refused_plainly before (phase (Replied told ∷ known.turns)) (turned (Replied told) known) (replied_bounded told known b comes)
      go (ExportReply size flags) comes = named_bounded size flags known b
      go (Reply frame) comes =
          let s = file_still (request before frame.cookie) frame.cookie (Framed frame.content frame.last) known in
          let e = ap ending s.stage in
          record { bounded = kept known (entered before (Reply frame) known) s.turns s.parts (omega (arith, e)) b.bounded; mode = ap opt_mode s.turns ∙ b.mode }
      go (Broken breach) comes = record { bounded = died before (cause.Broke breach) known b.bounded; mode = ap opt_mode (die_turns before (cause.Broke breach) known) ∙ b.mode }
      go Passed comes = record { bounded = kept known (record known { passed = known.passed + 1 }) refl refl (omega arith) b.bounded; mode = b.mode }
      go Ignored comes = b

  arrived_bounded : (before : History K) (held : Held (Known K)) (bytes : List ℕ) → Bounded held.known → opt_mode held.known.turns ≡ false → Bounded (feed (rules before) held bytes).known
  arrived_bounded before held bytes b mode = (feed_lasts (rules before) Plainly (bounded_lasts before) held bytes (record { bounded = b; mode = mode })).bounded

  closing_bounded : (n : ℕ) (before : History K) (known : Known K) → Bounded known → Bounded (ended_closing n before known)
  closing_bounded zero before known b = kept known (record known { stage = Closed }) refl refl (omega arith) b
  closing_bounded (suc n) before known b = died before cause.Ended known b

  ended_bounded : (stage : Stage) (before : History K) (held : Held (Known K)) → Bounded held.known → Bounded (ended_at stage before held).known
  ended_bounded Created before held b = b
  ended_bounded Open before held b = died before cause.Ended held.known b
  ended_bounded Disconnecting before held b = closing_bounded (flying before held.known.entries (asked before).issued) before held.known b
  ended_bounded Aborting before held b = closing_bounded (flying before held.known.entries (asked before).issued) before held.known b
  ended_bounded Closed before held b = b
  ended_bounded (Dead why) before held b = b

  failed_bounded : (stage : Stage) (before : History K) (held : Held (Known K)) → Bounded held.known → Bounded (failed_at stage before held).known
  failed_bounded Created before held b = b
  failed_bounded Open before held b = died before cause.LinkFailed held.known b
  failed_bounded Disconnecting before held b = died before cause.LinkFailed held.known b
  failed_bounded Aborting before held b = died before cause.LinkFailed held.known b
  failed_bounded Closed before held b = b
  failed_bounded (Dead why) before held b = b

module _ {K : Type 0} where
  set_short : (before : History K) (one : Setting) → CanSet before one → Spells before (event.Set one) → AreShort (reading before).known.turns → AreShort (turn.Set one ∷ (reading before).known.turns)
  set_short before (Name name) can fits s = record { name = fits; few = s.few; short = s.short }
  set_short before (Context name) can fits s =
      let wanted = contexts_now (reading before).known.turns in
      let n = length-append wanted (name ∷ []) in
      let m = all_more wanted name in
      let few = can.1 in
      let short = s.short in
      record { name = s.name; few = omega (arith, n, few); short = omega (arith, n, m, short, fits) }
  set_short before (Structured on) can fits s = record { name = s.name; few = s.few; short = s.short }
  set_short before (Extended on) can fits s = record { name = s.name; few = s.few; short = s.short }
  set_short before (event.OptMode on) can fits s = record { name = s.name; few = s.few; short = s.short }

  abbrev Little : History K → Type 0
  Little history = Bounded (asked history).wrote (longest_handshake + asked_bytes history) (reading history).known

  -- some parts more
  grown : (wrote most most' n : ℕ) (known after : Known K) (parts : List Part) → after.turns ≡ known.turns → after.parts ≡ known.parts ++ parts → total parts + ending after.stage ≤ ending known.stage + n → most + n ≤ most' → Bounded wrote most known → Bounded wrote most' after
  grown wrote most most' n known after parts turns is small less b =
      let all = ap total is ∙ total-append known.parts parts in
      let phases = ap (λ ts. later (phase ts)) turns in
      let enough = b.enough in
      let little = b.little in
      record {
        short = subst AreShort (sym turns) b.short;
        ours = subst (λ ts. IsOurs (phase ts)) (sym turns) b.ours;
        enough = omega (arith, all, enough);
        little = omega (arith, all, phases, small, less, little);
      }

  does_little : (limit : ℕ) (before : History K) (one : Event K) → CanFollow limit before one → Spells before one → IsPlain before → Little before → Little (one ∷ before)
  does_little limit before (event.Set one) can fits plain b =
      let joined = total-append (reading before).known.parts [] in
      let enough = b.enough in
      let little = b.little in
      record { short = set_short before one can fits b.short; ours = b.ours; enough = omega (arith, joined, enough); little = omega (arith, joined, little) }
  does_little limit before (StrictMode bits) can fits plain b = b
  does_little limit before Start can fits plain b =
      let e = created_open (reading before).known.stage (phase (reading before).known.turns) b.ours can in
      kept _ _ (reading before).known (reading (Start ∷ before)).known refl refl (omega (arith, e)) b
  does_little limit before (Opt option) can fits plain b = absurd (never_opt (reading before).known.stage (phase (reading before).known.turns) b.ours can.0)
  does_little limit before Abort can fits plain b = absurd (never_opt (reading before).known.stage (phase (reading before).known.turns) b.ours can)
  does_little limit before (Issue command) can fits plain b =
      let n = command_short (is_extended (reading before).known) ((asked before).issued + 1) command in
      grown _ (longest_handshake + asked_bytes before) _ (32 + length command.payload) (reading before).known (reading (Issue command ∷ before)).known (command_parts (is_extended (reading before).known) ((asked before).issued + 1) command)
      refl refl (omega (arith, n)) (omega arith) b
  does_little limit before (Refuse command why) can fits plain b = kept _ _ (reading before).known (reading (Refuse command why ∷ before)).known refl refl (omega arith) b
  does_little limit before Disconnect can fits plain b =
      let ready = state_of (reading before).known.stage (phase (reading before).known.turns) (unrefused (state_after before) None can) in
      let e = ap ending ready.0 in
      let n = disconnect_short (is_extended (reading before).known) in
      grown _ (longest_handshake + asked_bytes before) _ 0 (reading before).known (reading (Disconnect ∷ before)).known (disconnect_part (is_extended (reading before).known) ∷ [])
      refl refl (omega (arith, e, n)) (omega arith) b
  does_little limit before (Wrote n) can fits plain b =
      let offered = offered_less (reading before).known.stage (reading before).known.parts (asked before).wrote in
      record { short = b.short; ours = b.ours; enough = total-more (reading before).known.parts (asked before).wrote n b.enough (omega (arith, can, offered)); little = b.little }
  does_little limit before (Arrived bytes answers) can fits plain b =
      arrived_bounded _ _ before (change (with_answers answers) (reading before)) bytes
      (kept _ _ (reading before).known (with_answers answers (reading before).known) refl refl (omega arith) b)
      (plain (living_started (reading before).known.stage can))
  does_little limit before (event.End answers) can fits plain b =
      ended_bounded _ _ (reading before).known.stage before (change (with_answers answers) (reading before))
      (kept _ _ (reading before).known (with_answers answers (reading before).known) refl refl (omega arith) b)
  does_little limit before (LinkFailed answers) can fits plain b =
      failed_bounded _ _ (reading before).known.stage before (change (with_answers answers) (reading before))
      (kept _ _ (reading before).known (with_answers answers (reading before).known) refl refl (omega arith) b)
  does_little limit before (Retire cookie) can fits plain b = b
  does_little limit before ClearLog can fits plain b = kept _ _ (reading before).known (reading (ClearLog ∷ before)).known refl refl (omega arith) b
  does_little limit before Close can fits plain b =
      filed_all _ _ before (with_answers [] (reading before).known) (kept _ _ (reading before).known (with_answers [] (reading before).known) refl refl (omega arith) b)

  is_little : (limit : ℕ) (history : History K) → Lawful limit history → AllSpell history → IsPlain history → Little history
  is_little limit [] lawful fits plain = record { short = record { name = omega arith; few = omega arith; short = omega arith }; ours = tt; enough = omega arith; little = omega arith }
  is_little limit (one ∷ before) lawful fits plain =
      let was = plain_earlier limit before one lawful plain in
      does_little limit before one lawful.2 fits.0 was (is_little limit before lawful.0 fits.1 was)

-- What went out over a link.

none_went : (link : ℕ) (call : Call) → is_on link call ≡ false → length (went_by link call) ≡ 0
none_went link (Write n offered answer) off = ap (λ (b : Bool). length (if b then sent_by answer else [])) off
none_went link (Read n room answer) off = refl
none_went link (Connect to given) off = refl
none_went link (Listen at given) off = refl
none_went link (Accept n answer) off = refl
none_went link (Pause wants) off = refl
none_went link (Shut n) off = refl

went_so : (link offered : ℕ) (answer : WriteTold) → length (went_by link (Write link offered answer)) ≡ length (sent_by answer)
went_so link offered answer = ap (λ (b : Bool). length (if b then sent_by answer else [])) (eq-eqb link link refl)

went_more : (link : ℕ) (calls after : List Call) (call : Call) (n m : ℕ) → after ≡ calls ++ call ∷ [] → length (went_by link call) ≡ m → length (bytes_written link calls) ≡ n → length (bytes_written link after) ≡ n + m
went_more link calls after call n m is one all =
    let joined = ap (λ cs. length (bytes_written link cs)) is ∙ ap length (flat_map-append (went_by link) calls (call ∷ [])) in
    let both = length-append (bytes_written link calls) (bytes_written link (call ∷ [])) in
    let last = length-append (went_by link call) [] in
    omega (arith, joined, both, last, one, all)

module _ {K : Type 0} where
  inward_wrote : (before : History K) (one : Event K) → is_inward one ≡ true → (asked (one ∷ before)).wrote ≡ (asked before).wrote
  inward_wrote before (event.Set one) inward = refl
  inward_wrote before (StrictMode bits) inward = refl
  inward_wrote before Start inward = refl
  inward_wrote before (Opt option) inward = refl
  inward_wrote before Abort inward = refl
  inward_wrote before (Issue command) inward = refl
  inward_wrote before (Refuse command why) inward = refl
  inward_wrote before Disconnect inward = refl
  inward_wrote before (Wrote n) inward = absurd (false≢true inward)
  inward_wrote before (Arrived bytes answers) inward = refl
  inward_wrote before (event.End answers) inward = refl
  inward_wrote before (LinkFailed answers) inward = refl
  inward_wrote before (Retire cookie) inward = refl
  inward_wrote before ClearLog inward = refl
  inward_wrote before Close inward = refl

  -- so many bytes went out as the history says
  wrote_is : (link : ℕ) (calls : List Call) (history : History K) (left : List ℕ) → Drives link calls history left → length (bytes_written link calls) ≡ (asked history).wrote
  wrote_is link _ _ _ Begins = refl
  wrote_is link calls _ left (Does _ before _ one d inward) = wrote_is link calls before left d ∙ sym (inward_wrote before one inward)
  wrote_is link after history left (Passes calls _ _ call _ d off is) = went_more link calls after call _ 0 is (none_went link call off) (wrote_is link calls history left d) ∙ omega arith
  wrote_is link after _ _ (Writes calls before offered bytes _ d front is) = went_more link calls after (Write link offered (Sent bytes)) _ _ is (went_so link offered (Sent bytes)) (wrote_is link calls before [] d)
  wrote_is link after history left (Writes_none calls _ _ offered _ d is) = went_more link calls after (Write link offered Full) _ 0 is (went_so link offered Full) (wrote_is link calls history left d) ∙ omega arith
  wrote_is link after history more (Reads calls _ left room bytes _ _ d is joined) = went_more link calls after (Read link room (Moved bytes)) _ 0 is refl (wrote_is link calls history left d) ∙ omega arith
  wrote_is link after history left (Reads_none calls _ _ room _ d is) = went_more link calls after (Read link room Unready) _ 0 is refl (wrote_is link calls history left d) ∙ omega arith
  wrote_is link calls _ left (Arrives _ before all bytes _ answers d joined) = wrote_is link calls before all d
  wrote_is link after _ _ (Ends calls before room answers _ d living is) = went_more link calls after (Read link room Ended) _ 0 is refl (wrote_is link calls before [] d) ∙ omega arith
  wrote_is link after _ _ (Fails_to_read calls before room answers _ d living is) = went_more link calls after (Read link room ReadFault) _ 0 is refl (wrote_is link calls before [] d) ∙ omega arith
  wrote_is link after _ _ (Fails_to_write calls before offered answers _ d living is) = went_more link calls after (Write link offered WriteFault) _ 0 is (went_so link offered WriteFault) (wrote_is link calls before [] d) ∙ omega arith

pub driven_write_little : {K : Type 0} → DrivenWriteLittle K
driven_write_little limit link calls history unread lawful fits mode d =
    let wrote = wrote_is link calls history unread d in
    let b = is_little limit history lawful fits (λ n. mode) in
    let enough = b.enough in
    let little = b.little in
    omega (arith, wrote, enough, little)
