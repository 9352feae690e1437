-- Where nothing waits, each command was wholly written.
use Rattle.std.proofs.Common.{◌≡◌, ◌==◌, ℕ, ◌+◌, ◌-◌, ◌<◌, Bool, true, false, not, ◌&&◌, List, [], ◌∷◌, ◌++◌, length, map, drop, arith, nat_lt, bit_and, refl, ap, sym, subst, ◌∙◌, if◌then◌else◌, length-append}
use Rattle.std.proofs.lemmas.Bool.{ltb-true}
use Rattle.std.proofs.lemmas.List.{length-drop}
use Rattle.lnbd_model.specs.Kind.{type_of, has_range}
use Rattle.lnbd_model.specs.declared.kind.Kind.{Kind}
use Rattle.lnbd_model.specs.declared.state.Cause.TheVariants as cause
use Rattle.lnbd_records.specs.Handshake as handshake
use Rattle.lnbd_records.specs.Handshake.{option_head, option_request}
use Rattle.lnbd_records.specs.Numbers.{row}
use Rattle.lnbd_records.specs.Options.{opt_abort, opt_export_name}
use Rattle.lnbd_records.specs.Transmission as transmission
use Rattle.lnbd_records.proofs.NumberLaws.{length-row}
use Rattle.lnbd_stream.specs.Laws.{Lasts}
use Rattle.lnbd_stream.proofs.Stream.{feed_lasts}
use Rattle.lnbd_history.specs.declared.kinds.Phase.{Phase}
use Rattle.lnbd_history.specs.declared.kinds.Phase.TheVariants.{Greeting, Asked, AskedByName, OptMode, Ready, Refused}
use Rattle.lnbd_history.specs.declared.kinds.Stage.{Stage}
use Rattle.lnbd_history.specs.declared.kinds.Stage.TheVariants.{Created, Open, Disconnecting, Aborting, Closed, Dead}
use Rattle.lnbd_history.specs.Agreement.{Turn, Replied, ByName, Opted, is_empty, phase, name_now, contexts_now, end_of}
use Rattle.lnbd_history.specs.Agreement as turn
use Rattle.lnbd_history.specs.Answers.{direction_of, is_living}
use Rattle.lnbd_history.specs.Arrivals.{Hello, OptionReply, ExportReply, Reply, Broken, Passed, Ignored}
use Rattle.lnbd_history.specs.Commands.{Command, is_write}
use Rattle.lnbd_history.specs.Entries.{Framed}
use Rattle.lnbd_history.specs.Events.{Event, History, StrictMode, Start, Opt, Abort, Issue, Refuse, Disconnect, Wrote, Arrived, End, LinkFailed, Retire, ClearLog, Close}
use Rattle.lnbd_history.specs.Events as event
use Rattle.lnbd_history.specs.History.{asked, request, rules, turned, sent_by, is_extended, change, with_answers, reading, waiting_at}
use Rattle.lnbd_history.specs.Outgoing.{Part, plain, last_of, client_flags, option_body, request_at, sent_flags, head, head_of, command_parts, disconnect_part, abort_part, waiting, one_if, whole, out}
use Rattle.lnbd_asked.proofs.Match.{file_still}
use Rattle.lnbd_drives.specs.Laws.{NothingWaits}
use Rattle.lnbd_drives.proofs.Keeping.{dies_keep, closed_keep, refused_keep, ended_keep, failed_keep}

-- how many commands end with these parts
abbrev pub ends_in : List Part → ℕ
ends_in [] = 0
ends_in (part ∷ parts) = one_if part.ends + ends_in parts

-- no part is empty
abbrev pub AreSome : List Part → Type 0
AreSome [] = Unit {0}
AreSome (part ∷ parts) = (0 < length part.bytes) × AreSome parts

-- Where nothing is offered, all of them are out.
all_out : (parts : List Part) (n : ℕ) → AreSome parts → out (waiting parts n) ≡ [] → whole parts n ≡ ends_in parts
all_out [] n some none = refl
all_out (part ∷ parts) n some none = go (n == 0) (nat_lt n (length part.bytes)) refl none (all_out parts (n - length part.bytes) some.1)
  where
    go : (a b : Bool) → nat_lt n (length part.bytes) ≡ b → out (if a then part ∷ parts else if b then record { bytes = drop n part.bytes; ends = part.ends } ∷ parts else waiting parts (n - length part.bytes)) ≡ [] →
        (out (waiting parts (n - length part.bytes)) ≡ [] → whole parts (n - length part.bytes) ≡ ends_in parts) →
        (if a then 0 else if b then 0 else one_if part.ends + whole parts (n - length part.bytes)) ≡ one_if part.ends + ends_in parts
    go true b less none rest = let z : length part.bytes ≡ 0 = ap length none in let s = some.0 in absurd (omega (arith, z, s))
    go false true less none rest = let z : length (drop n part.bytes) ≡ 0 = ap length none in let l = ltb-true n (length part.bytes) less in absurd (omega (arith, z, l, length-drop n part.bytes))
    go false false less none rest = ap (λ m. one_if part.ends + m) (rest none)

-- no part is empty, and so many commands end with them
pub record Counted (n : ℕ) (parts : List Part) : Type 0 where
  pub some : AreSome parts
  pub ends : ends_in parts ≡ n

some_more : (parts more : List Part) → AreSome parts → AreSome more → AreSome (parts ++ more)
some_more [] more one two = two
some_more (part ∷ parts) more one two = (one.0, some_more parts more one.1 two)

ends_more : (parts more : List Part) → ends_in (parts ++ more) ≡ ends_in parts + ends_in more
ends_more [] more = omega arith
ends_more (part ∷ parts) more = let rest = ends_more parts more in omega (arith, rest)

counted_more : (n m : ℕ) (parts more : List Part) → Counted n parts → Counted m more → Counted (n + m) (parts ++ more)
counted_more n m parts more one two = record { some = some_more parts more one.some two.some; ends = let e = ends_more parts more in let x = one.ends in let y = two.ends in omega (arith, e, x, y) }

counted_with : (n : ℕ) (parts more : List Part) → Counted n parts → Counted 0 more → Counted n (parts ++ more)
counted_with n parts more one two = subst (λ k. Counted k (parts ++ more)) (plus_zero n) (counted_more n 0 parts more one two)
  where
    plus_zero : (n : ℕ) → n + 0 ≡ n
    plus_zero n = omega arith

-- Negotiation ends no command.

abbrev AreLong : List (List ℕ) → Type 0
AreLong [] = Unit {0}
AreLong (one ∷ more) = (0 < length one) × AreLong more

plain_counted : (all : List (List ℕ)) → AreLong all → Counted 0 (map plain all)
plain_counted [] long = record { some = tt; ends = refl }
plain_counted (one ∷ more) long = let rest = plain_counted more long.1 in record { some = (long.0, rest.some); ends = let e = rest.ends in omega (arith, e) }

flags_long : (flags : ℕ) → 0 < length (client_flags flags)
flags_long flags = omega (arith, length-row (handshake.client_flags (bit_and flags 3)))

option_long : (option : ℕ) (body : List ℕ) → 0 < length (option_request option body)
option_long option body = omega (arith, length-append (row (option_head option (length body))) body, length-row (option_head option (length body)))

request_long : (p : Phase) (name : List ℕ) (contexts : List (List ℕ)) → AreLong (request_at p name contexts)
request_long (Asked option) name contexts = (option_long option (option_body option name contexts), tt)
request_long AskedByName name contexts = (option_long opt_export_name (option_body opt_export_name name contexts), tt)
request_long Greeting name contexts = tt
request_long OptMode name contexts = tt
request_long Ready name contexts = tt
request_long (Refused code) name contexts = tt

next_long : (turns : List Turn) → AreLong (request_at (phase turns) (name_now turns) (contexts_now turns))
next_long turns = request_long (phase turns) (name_now turns) (contexts_now turns)

if_long : (b : Bool) (all : List (List ℕ)) → AreLong all → AreLong (if b then all else [])
if_long true all long = long
if_long false all long = tt

sent_long : (one : Turn) (before : List Turn) → AreLong (sent_by one before)
sent_long turn.Hello before = next_long (turn.Hello ∷ before)
sent_long (Replied reply) before = if_long _ _ (next_long (Replied reply ∷ before))
sent_long (ByName size flags) before = tt
sent_long (turn.Set setting) before = tt
sent_long (Opted option) before = next_long (Opted option ∷ before)

turned_counted : (n : ℕ) (parts : List Part) (one : Turn) (before : List Turn) → Counted n parts → Counted n (parts ++ map plain (sent_by one before))
turned_counted n parts one before c = counted_with n parts (map plain (sent_by one before)) c (plain_counted (sent_by one before) (sent_long one before))

-- One command ends with its parts, and none with DISC and ABORT.

head_long : (extended : Bool) (kind : Kind) (flags cookie offset size : ℕ) → 0 < length (head extended kind flags cookie offset size)
head_long true kind flags cookie offset size = omega (arith, length-row (transmission.extended_request (sent_flags kind flags) (type_of kind) cookie offset size))
head_long false kind flags cookie offset size = omega (arith, length-row (transmission.request flags (type_of kind) cookie offset size))

command_counted : {K : Type 0} (extended : Bool) (cookie : ℕ) (command : Command K) → Counted 1 (command_parts extended cookie command)
command_counted extended cookie command = go (is_write command.kind) command.payload (head_of extended cookie command) (ranged (has_range command.kind))
  where
    ranged : (b : Bool) → 0 < length (if b then head extended command.kind command.flags cookie command.offset command.length else head extended command.kind command.flags cookie 0 0)
    ranged true = head_long extended command.kind command.flags cookie command.offset command.length
    ranged false = head_long extended command.kind command.flags cookie 0 0

    go : (w : Bool) (payload first : List ℕ) → 0 < length first → Counted 1 (if w && not (is_empty payload) then plain first ∷ last_of payload ∷ [] else last_of first ∷ [])
    go true (byte ∷ bytes) first long = record { some = (long, (omega arith, tt)); ends = refl }
    go true [] first long = record { some = (long, tt); ends = refl }
    go false payload first long = record { some = (long, tt); ends = refl }

disconnect_counted : (extended : Bool) → Counted 0 (disconnect_part extended ∷ [])
disconnect_counted true = record { some = (omega (arith, length-row transmission.extended_disconnect), tt); ends = refl }
disconnect_counted false = record { some = (omega (arith, length-row transmission.disconnect), tt); ends = refl }

abort_counted : Counted 0 (abort_part ∷ [])
abort_counted = record { some = (option_long opt_abort [], tt); ends = refl }

offers_none : (bytes : List ℕ) → direction_of true bytes ≡ 1 → bytes ≡ []
offers_none [] e = refl
offers_none (byte ∷ bytes) e = absurd (omega (arith, e))

-- A handle of direction 1 is living and offers nothing.
pub one_none : (stage : Stage) (parts : List Part) (n : ℕ) → direction_of (is_living stage) (out (waiting_at stage parts n)) ≡ 1 → out (waiting parts n) ≡ []
one_none Created parts n e = absurd (omega (arith, e))
one_none Open parts n e = offers_none (out (waiting parts n)) e
one_none Disconnecting parts n e = offers_none (out (waiting parts n)) e
one_none Aborting parts n e = offers_none (out (waiting parts n)) e
one_none Closed parts n e = absurd (omega (arith, e))
one_none (Dead why) parts n e = absurd (omega (arith, e))

module _ {K : Type 0} where
  -- With the parts that are asked as many commands end as were issued.

  counted_lasts : (before : History K) (n : ℕ) → Lasts (rules before) (λ known. Counted n known.parts)
  counted_lasts before n known bytes (Hello flags) c e =
      turned_counted n (known.parts ++ plain (client_flags flags) ∷ []) turn.Hello known.turns
      (counted_with n known.parts (plain (client_flags flags) ∷ []) c (record { some = (flags_long flags, tt); ends = refl }))
  counted_lasts before n known bytes (OptionReply told) c e =
      subst (Counted n) (sym (refused_keep before (phase (Replied told ∷ known.turns)) (turned (Replied told) known)).parts) (turned_counted n known.parts (Replied told) known.turns c)
  counted_lasts before n known bytes (ExportReply size flags) c e = turned_counted n known.parts (ByName size flags) known.turns c
  counted_lasts before n known bytes (Reply frame) c e = subst (Counted n) (sym (file_still (request before frame.cookie) frame.cookie (Framed frame.content frame.last) known).parts) c
  counted_lasts before n known bytes (Broken breach) c e = subst (Counted n) (sym (dies_keep before (cause.Broke breach) known).parts) c
  counted_lasts before n known bytes Passed c e = c
  counted_lasts before n known bytes Ignored c e = c

  pub counted : (history : History K) → Counted (asked history).issued (reading history).known.parts
  counted [] = record { some = tt; ends = refl }
  counted (event.Set setting ∷ before) = turned_counted (asked before).issued (reading before).known.parts (turn.Set setting) (reading before).known.turns (counted before)
  counted (StrictMode bits ∷ before) = counted before
  counted (Start ∷ before) = counted before
  counted (Opt option ∷ before) = turned_counted (asked before).issued (reading before).known.parts (Opted option) (reading before).known.turns (counted before)
  counted (Abort ∷ before) = counted_with (asked before).issued (reading before).known.parts (abort_part ∷ []) (counted before) abort_counted
  counted (Issue command ∷ before) =
      counted_more (asked before).issued 1 (reading before).known.parts (command_parts (is_extended (reading before).known) ((asked before).issued + 1) command) (counted before)
      (command_counted (is_extended (reading before).known) ((asked before).issued + 1) command)
  counted (Refuse command why ∷ before) = counted before
  counted (Disconnect ∷ before) =
      counted_with (asked before).issued (reading before).known.parts (disconnect_part (is_extended (reading before).known) ∷ []) (counted before) (disconnect_counted (is_extended (reading before).known))
  counted (Wrote n ∷ before) = counted before
  counted (Arrived bytes answers ∷ before) =
      feed_lasts (rules before) (λ known. Counted (asked before).issued known.parts) (counted_lasts before (asked before).issued) (change (with_answers answers) (reading before)) bytes (counted before)
  counted (End answers ∷ before) = subst (Counted (asked before).issued) (sym (ended_keep before (reading before).known.stage (change (with_answers answers) (reading before))).parts) (counted before)
  counted (LinkFailed answers ∷ before) = subst (Counted (asked before).issued) (sym (failed_keep before (reading before).known.stage (change (with_answers answers) (reading before))).parts) (counted before)
  counted (Retire cookie ∷ before) = counted before
  counted (ClearLog ∷ before) = counted before
  counted (Close ∷ before) = subst (Counted (asked before).issued) (sym (closed_keep before (with_answers [] (reading before).known)).parts) (counted before)

  pub nothing_waits : NothingWaits K
  nothing_waits history e =
      let c = counted history in
      all_out (reading history).known.parts (asked history).wrote c.some (one_none (reading history).known.stage (reading history).known.parts (asked history).wrote e) ∙ c.ends
