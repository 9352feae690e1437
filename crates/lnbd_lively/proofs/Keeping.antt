-- Whatever happens to a handle that asks for no abort and no disconnect, its parts are fair.
use Rattle.std.proofs.Common.{◌≡◌, ℕ, zero, suc, ◌+◌, ◌%◌, ◌^◌, ◌<◌, ◌≤◌, Bool, true, false, not, ◌&&◌, ◌||◌, List, [], ◌∷◌, ◌++◌, length, map, Option, Some, None, is_some, ◌==◌, nat_lt, nat_le, bit_and, refl, ap, sym, subst, ◌∙◌, arith, if◌then◌else◌, append-nil, length-append}
use Rattle.std.proofs.lemmas.Bool.{false≢true, eqb-true, eq-eqb, ltb-false, leb-false}
use Rattle.std.proofs.lemmas.Nat.{and_mask}
use Rattle.lnbd_model.specs.Kind.{type_of}
use Rattle.lnbd_model.specs.declared.breach.Breach.{Breach}
use Rattle.lnbd_model.specs.declared.breach.Breach.TheVariants.{NotFixed, TooManyReplies}
use Rattle.lnbd_model.specs.declared.export.Blocks.{Blocks}
use Rattle.lnbd_model.specs.declared.kind.Kind.{Kind}
use Rattle.lnbd_model.specs.declared.kind.Kind.TheVariants.{Read, Write, Flush, Trim, Cache, Zero, BlockStatus}
use Rattle.lnbd_model.specs.declared.refusal.Lack.{Lack}
use Rattle.lnbd_model.specs.declared.refusal.Why.{Why}
use Rattle.lnbd_model.specs.declared.refusal.Why.TheVariants as why
use Rattle.lnbd_model.specs.declared.state.Cause.{Cause}
use Rattle.lnbd_model.specs.declared.state.Cause.TheVariants as cause
use Rattle.lnbd_model.specs.declared.state.State.{State}
use Rattle.lnbd_model.specs.declared.state.State.TheVariants as state
use Rattle.lnbd_records.specs.Flags.{flag_fixed_newstyle}
use Rattle.lnbd_records.specs.Handshake.{option_head, option_request}
use Rattle.lnbd_records.specs.Handshake as handshake
use Rattle.lnbd_records.specs.Limits.{max_data, max_passed}
use Rattle.lnbd_records.specs.Numbers.{number, row, counted, number_at, has_bit, AllFit}
use Rattle.lnbd_records.specs.Options.{opt_abort, opt_export_name, opt_extended_headers, opt_structured_reply, opt_go, opt_info, opt_list, opt_set_meta_context, err_unsup}
use Rattle.lnbd_records.specs.Requests.{all_counted, information_types, info_request, meta_request}
use Rattle.lnbd_records.proofs.NumberLaws.{then_reads, length-row}
use Rattle.lnbd_stream.specs.Grammar.{once, wants}
use Rattle.lnbd_stream.specs.Laws.{Lasts}
use Rattle.lnbd_stream.specs.Stream.{Held}
use Rattle.lnbd_stream.proofs.Stream.{feed_lasts}
use Rattle.lnbd_history.specs.declared.kinds.Phase.{Phase}
use Rattle.lnbd_history.specs.declared.kinds.Phase.TheVariants.{Greeting, Asked, AskedByName, OptMode, Ready, Refused}
use Rattle.lnbd_history.specs.declared.kinds.Stage.{Stage}
use Rattle.lnbd_history.specs.declared.kinds.Stage.TheVariants.{Created, Open, Disconnecting, Aborting, Closed, Dead}
use Rattle.lnbd_history.specs.Agreement.{Turn, Replied, ByName, End as AnswerEnd, Acknowledged, Failed, phase, name_now, contexts_now, is_empty, is_acknowledged, is_info, opt_mode, asks_structured, asks_extended, end_of, after_hello, after_extended, after_structured, after_go, after_answer, after_reply}
use Rattle.lnbd_history.specs.Agreement as turn
use Rattle.lnbd_history.specs.Arrivals.{Shown, Hello, OptionReply, ExportReply, Reply, Broken, Passed, Ignored, Waiting, Sight, shows_hello, shows_at, shows_in, shows_passed, shows_ignored, shows_frame}
use Rattle.lnbd_history.specs.Commands.{Command, is_write}
use Rattle.lnbd_history.specs.Entries.{Framed, Lost, Dropped}
use Rattle.lnbd_history.specs.Events.{Setting, Name, Context, Structured, Extended, Event, History, StrictMode, Start, Opt, Abort, Issue, Refuse, Disconnect, Wrote, Arrived, End, LinkFailed, Retire, ClearLog, Close}
use Rattle.lnbd_history.specs.Events as event
use Rattle.lnbd_history.specs.History.{Known, asked, request, file, closed, rules, sight, waited, turned, sent_by, if_ended, if_refused, die, cookies, flying, change, with_answers, ended_at, failed_at, ended_closing, reading, is_extended}
use Rattle.lnbd_history.specs.Laws.{Lawful, CanSet, is_call}
use Rattle.lnbd_history.specs.Outgoing.{Part, plain, client_flags, next_request, option_body, request_at, command_parts}
use Rattle.lnbd_history.specs.Refusals.{Terms, by_state, refuse, unsupported, lack_now, bad_flags, minimum, is_aligned, refusal, refusal_after, terms_after, by_range, length_limit, payload_limit}
use Rattle.lnbd_history.specs.Strict.{strict_bounds, strict_zero_size, strict_align}
use Rattle.lnbd_asked.specs.Client.{order_head}
use Rattle.lnbd_asked.specs.Driven.{AllSpell, Spells, Spelled}
use Rattle.lnbd_asked.specs.Parts.{request_parts}
use Rattle.lnbd_asked.proofs.Match.{file_still, all_still}
use Rattle.lnbd_asked.proofs.Orders.{order_for, order_parts, order_fits, kind_back}
use Rattle.lnbd_asked.proofs.Phases.{AreShort, wish_fits}
use Rattle.lnbd_asked.proofs.ShownBy.{Each, option_kinds, by_name_kinds}
use Rattle.lnbd_asked.proofs.Staying.{die_turns, ended_turns, failed_turns, refused_turns}
use Rattle.lnbd_asked.proofs.Steps.{IsFrame, AreFrames, frame_shown}
use Rattle.lnbd_server.specs.Client.{are_client_flags, max_option_request}
use Rattle.lnbd_served.proofs.Shown.{value}
use Rattle.lnbd_lively.specs.Ending.{is_named, was_named}
use Rattle.lnbd_lively.proofs.Sending.{IsFair, Greets, Asks, Heads, Ends, AreFair, order_head_is, are_still, fair_join}

-- Its flags: of the server's two bits, the first of which each hello has.

abbrev IsFixed : Shown → Type 0
IsFixed (Hello flags) = has_bit flag_fixed_newstyle flags ≡ true
IsFixed (OptionReply told) = Unit {0}
IsFixed (ExportReply size flags) = Unit {0}
IsFixed (Reply frame) = Unit {0}
IsFixed (Broken breach) = Unit {0}
IsFixed Passed = Unit {0}
IsFixed Ignored = Unit {0}

fixed_if : (test : Bool) (a b : Option Shown) → Each IsFixed a → Each IsFixed b → Each IsFixed (if test then a else b)
fixed_if true a b x y = x
fixed_if false a b x y = y

fixed_once : (n : ℕ) (bytes : List ℕ) (a : Option Shown) → Each IsFixed a → Each IsFixed (once n bytes a)
unfolding once
fixed_once n bytes a x = fixed_if (nat_lt (length bytes) n) None a tt x

fixed_wants : (test : Bool) (breach : Breach) (a : Option Shown) → Each IsFixed a → Each IsFixed (wants test (Broken breach) a)
unfolding wants
fixed_wants test breach a x = fixed_if test a (Some (Broken breach)) x tt

fixed_last : (flags : ℕ) → Each IsFixed (wants (has_bit flag_fixed_newstyle flags) (Broken NotFixed) (Some (Hello flags)))
unfolding wants
fixed_last flags = go (has_bit flag_fixed_newstyle flags) refl
  where
    go : (b : Bool) → has_bit flag_fixed_newstyle flags ≡ b → Each IsFixed (if b then Some (Hello flags) else Some (Broken NotFixed))
    go true e = e
    go false e = tt

fixed_hello : (bytes : List ℕ) → Each IsFixed (shows_hello bytes)
unfolding shows_hello
fixed_hello bytes = fixed_once _ bytes _ (fixed_wants _ _ _ (fixed_once _ bytes _ (fixed_wants _ _ _ (fixed_wants _ _ _ (fixed_once _ bytes _ (fixed_last (number_at 16 2 bytes)))))))

fixed_found : (found : Shown) → IsFrame found → IsFixed found
fixed_found (Hello flags) is = absurd is
fixed_found (OptionReply told) is = tt
fixed_found (ExportReply size flags) is = tt
fixed_found (Reply frame) is = tt
fixed_found (Broken breach) is = tt
fixed_found Passed is = tt
fixed_found Ignored is = tt

fixed_frames : (shown : Option Shown) → AreFrames shown → Each IsFixed shown
fixed_frames None are = tt
fixed_frames (Some found) are = fixed_found found are

fixed_ignored : (bytes : List ℕ) → Each IsFixed (shows_ignored bytes)
fixed_ignored [] = tt
fixed_ignored (byte ∷ bytes) = tt

fixed_passed : (passed : ℕ) (bytes : List ℕ) → Each IsFixed (shows_passed passed bytes)
fixed_passed passed [] = tt
fixed_passed passed (byte ∷ bytes) = fixed_if (nat_lt passed max_passed) (Some Passed) (Some (Broken TooManyReplies)) tt tt

fixed_in : (p : Phase) (s : Sight) (waited : ℕ → Option Waiting) (bytes : List ℕ) → Each IsFixed (shows_in p s waited bytes)
fixed_in Greeting s waited bytes = fixed_hello bytes
fixed_in (Asked option) s waited bytes = option_kinds IsFixed (λ breach. tt) s bytes (λ told. tt)
fixed_in OptMode s waited bytes = option_kinds IsFixed (λ breach. tt) s bytes (λ told. tt)
fixed_in AskedByName s waited bytes = by_name_kinds IsFixed (λ breach. tt) s.no_zeroes bytes (λ size flags. tt)
fixed_in Ready s waited bytes = fixed_frames (shows_frame s.structured s.extended waited bytes) (frame_shown s.structured s.extended waited bytes)
fixed_in (Refused code) s waited bytes = fixed_ignored bytes

fixed_at : (stage : Stage) (s : Sight) (waited : ℕ → Option Waiting) (bytes : List ℕ) → Each IsFixed (shows_at stage s waited bytes)
fixed_at Created s waited bytes = fixed_ignored bytes
fixed_at Open s waited bytes = fixed_in s.phase s waited bytes
fixed_at Disconnecting s waited bytes = fixed_in s.phase s waited bytes
fixed_at Aborting s waited bytes = fixed_passed s.passed bytes
fixed_at Closed s waited bytes = fixed_ignored bytes
fixed_at (Dead why) s waited bytes = fixed_ignored bytes

two_bits : (flags : ℕ) → has_bit flag_fixed_newstyle flags ≡ true → are_client_flags (bit_and flags 3) ≡ true
two_bits flags e = go (bit_and flags 3) refl
  where
    low : bit_and flags 1 ≡ flags % 2
    low = and_mask flags 1

    both : bit_and flags 3 ≡ flags % 4
    both = and_mask flags 2

    odd : flags % 2 ≡ 0 → ⊥
    odd z = false≢true (sym (ap (λ b. not b) (eq-eqb (bit_and flags 1) 0 (low ∙ z))) ∙ e)

    go : (r : ℕ) → bit_and flags 3 ≡ r → are_client_flags (bit_and flags 3) ≡ true
    go zero is = absurd (odd (omega (arith, both, is)))
    go (suc zero) is = ap are_client_flags is
    go (suc (suc zero)) is = absurd (odd (omega (arith, both, is)))
    go (suc (suc (suc zero))) is = ap are_client_flags is
    go (suc (suc (suc (suc r)))) is = absurd (omega (arith, both, is))

greets : (named : Bool) (flags : ℕ) → has_bit flag_fixed_newstyle flags ≡ true → IsFair named (plain (client_flags flags))
unfolding number_at
greets named flags e =
    let size : length (client_flags flags) ≡ 4 = length-row (handshake.client_flags (bit_and flags 3)) in
    let low : bit_and flags 3 ≡ flags % 4 = and_mask flags 2 in
    let r = then_reads (handshake.client_flags (bit_and flags 3)) [] (client_flags flags) (record { fit = (omega (arith, low), tt); spelled = sym (append-nil (client_flags flags)) }) in
    let is : number_at 0 4 (client_flags flags) ≡ bit_and flags 3 = ap (λ fs. value fs 0) r.fields in
    Greets refl size (ap are_client_flags is ∙ two_bits flags e)

-- Its options: LIST, INFO, GO, STRUCTURED_REPLY, SET_META_CONTEXT and EXTENDED_HEADERS, and EXPORT_NAME.

record IsKnown (option : ℕ) : Type 0 where
  small : option < 256 ^ 4
  goes : (option == opt_abort) ≡ false
  other : (option == opt_export_name) ≡ false

abbrev AsksKnown : Phase → Type 0
AsksKnown (Asked option) = IsKnown option
AsksKnown Greeting = Unit {0}
AsksKnown AskedByName = Unit {0}
AsksKnown OptMode = Unit {0}
AsksKnown Ready = Unit {0}
AsksKnown (Refused code) = Unit {0}

go_known : IsKnown opt_go
go_known = record { small = omega arith; goes = refl; other = refl }

structured_known : (mode on : Bool) (wanted : List (List ℕ)) → AsksKnown (after_structured mode wanted on)
structured_known true on wanted = tt
structured_known false true [] = go_known
structured_known false true (one ∷ more) = record { small = omega arith; goes = refl; other = refl }
structured_known false false wanted = go_known

extended_known : (structured mode on : Bool) (wanted : List (List ℕ)) → AsksKnown (after_extended structured mode wanted on)
extended_known structured mode true wanted = structured_known mode true wanted
extended_known true mode false wanted = record { small = omega arith; goes = refl; other = refl }
extended_known false mode false wanted = structured_known mode false wanted

hello_known : (extended structured mode : Bool) (wanted : List (List ℕ)) → AsksKnown (after_hello extended structured mode wanted)
hello_known true structured mode wanted = record { small = omega arith; goes = refl; other = refl }
hello_known false structured mode wanted = extended_known structured mode false wanted

after_go_known : (mode : Bool) (end : AnswerEnd) → AsksKnown (after_go mode end)
after_go_known mode Acknowledged = tt
after_go_known true (Failed code) = tt
after_go_known false (Failed code) = go (code == err_unsup)
  where
    go : (b : Bool) → AsksKnown (if b then AskedByName else Refused code)
    go true = tt
    go false = tt

answer_known : (structured mode : Bool) (wanted : List (List ℕ)) (option : ℕ) (end : AnswerEnd) → AsksKnown (after_answer structured mode wanted option end)
answer_known structured mode wanted option end = go (option == opt_extended_headers) (option == opt_structured_reply) (option == opt_go) mode refl
  where
    go : (a b c d : Bool) → mode ≡ d →
        AsksKnown (if a then after_extended structured mode wanted (is_acknowledged end) else if b then after_structured mode wanted (is_acknowledged end) else if c then after_go mode end else if d then OptMode else Asked opt_go)
    go true b c d e = extended_known structured mode (is_acknowledged end) wanted
    go false true c d e = structured_known mode (is_acknowledged end) wanted
    go false false true d e = after_go_known mode end
    go false false false true e = tt
    go false false false false e = go_known

reply_known : (structured mode : Bool) (wanted : List (List ℕ)) (end : AnswerEnd) (p : Phase) → AsksKnown (after_reply structured mode wanted (Some end) p)
reply_known structured mode wanted end (Asked option) = answer_known structured mode wanted option end
reply_known structured mode wanted end Greeting = tt
reply_known structured mode wanted end AskedByName = tt
reply_known structured mode wanted end OptMode = tt
reply_known structured mode wanted end Ready = tt
reply_known structured mode wanted end (Refused code) = tt

call_known : (option : ℕ) → is_call option ≡ true → IsKnown option
call_known option e = go (option == opt_list) refl (option == opt_info) refl (option == opt_go) refl (option == opt_set_meta_context) refl e
  where
    same : (n : ℕ) → IsKnown n → (option == n) ≡ true → IsKnown option
    same n known is = subst IsKnown (sym (eqb-true option n is)) known

    go : (a : Bool) → (option == opt_list) ≡ a → (b : Bool) → (option == opt_info) ≡ b → (c : Bool) → (option == opt_go) ≡ c → (d : Bool) → (option == opt_set_meta_context) ≡ d → ((a || b) || c) || d ≡ true → IsKnown option
    go true w b x c y d z e = same opt_list (record { small = omega arith; goes = refl; other = refl }) w
    go false w true x c y d z e = same opt_info (record { small = omega arith; goes = refl; other = refl }) x
    go false w false x true y d z e = same opt_go go_known y
    go false w false x false y true z e = same opt_set_meta_context (record { small = omega arith; goes = refl; other = refl }) z
    go false w false x false y false z e = absurd (false≢true e)

-- the data of an option are no longer than is read

counted_long : (bytes : List ℕ) → length (counted bytes) ≡ 4 + length bytes
counted_long bytes = length-append (row (number 4 (length bytes) ∷ [])) bytes ∙ ap (λ n. n + length bytes) (length-row (number 4 (length bytes) ∷ []))

body_few : (option : ℕ) (turns : List Turn) → AreShort turns → length (option_body option (name_now turns) (contexts_now turns)) ≤ max_option_request
body_few option turns s = go (is_info option) (option == opt_set_meta_context) (option == opt_export_name)
  where
    go : (a b c : Bool) → length (if a then info_request (name_now turns) (1 ∷ 2 ∷ 3 ∷ []) else if b then meta_request (name_now turns) (contexts_now turns) else if c then name_now turns else []) ≤ max_option_request
    go true b c =
        let whole = length-append (counted (name_now turns)) (row (information_types (1 ∷ 2 ∷ 3 ∷ []))) in
        let types = length-row (information_types (1 ∷ 2 ∷ 3 ∷ [])) in
        let front = counted_long (name_now turns) in
        let m = s.name in omega (arith, whole, types, front, m)
    go false true c =
        let whole = length-append (counted (name_now turns)) (row (number 4 (length (contexts_now turns)) ∷ []) ++ all_counted (contexts_now turns)) in
        let rest = length-append (row (number 4 (length (contexts_now turns)) ∷ [])) (all_counted (contexts_now turns)) in
        let count = length-row (number 4 (length (contexts_now turns)) ∷ []) in
        let front = counted_long (name_now turns) in
        let m = s.name in let k = s.few in let l = s.short in omega (arith, whole, rest, count, front, m, k, l)
    go false false true = let m = s.name in omega (arith, m)
    go false false false = omega arith

option_starts : (option n : ℕ) (body : List ℕ) → number_at 0 4 (row (option_head option n) ++ body) ≡ 0x49484156
unfolding row number_at lib.Count.ones
option_starts option n body = refl

asks : (named : Bool) (option : ℕ) (turns : List Turn) → AreShort turns → option < 256 ^ 4 → (option == opt_abort) ≡ false → ((option == opt_export_name) ≡ true → named ≡ true) →
    IsFair named (plain (option_request option (option_body option (name_now turns) (contexts_now turns))))
unfolding number_at
asks named option turns s small goes by =
    let body = option_body option (name_now turns) (contexts_now turns) in
    let size : length (option_request option body) ≡ 16 + length body = length-append (row (option_head option (length body))) body ∙ ap (λ n. n + length body) (length-row (option_head option (length body))) in
    let r = then_reads (option_head option (length body)) body (option_request option body) (record { fit = wish_fits option turns s small; spelled = refl }) in
    let is : number_at 8 4 (option_request option body) ≡ option = ap (λ fs. value fs 1) r.fields in
    let few = body_few option turns s in
    Asks refl (omega (arith, size)) (omega (arith, size, few)) (option_starts option (length body) body) (ap (λ n. n == opt_abort) is ∙ goes) (λ e. by (sym (ap (λ n. n == opt_export_name) is) ∙ e))

requests : (p : Phase) (turns : List Turn) (named : Bool) → AreShort turns → AsksKnown p → (is_named p ≡ true → named ≡ true) → AreFair named (map plain (request_at p (name_now turns) (contexts_now turns)))
requests (Asked option) turns named s known by = (asks named option turns s known.small known.goes (λ e. absurd (false≢true (sym known.other ∙ e))), tt)
requests AskedByName turns named s known by = (asks named opt_export_name turns s (omega arith) refl (λ e. by refl), tt)
requests Greeting turns named s known by = tt
requests OptMode turns named s known by = tt
requests Ready turns named s known by = tt
requests (Refused code) turns named s known by = tt

-- What was asked and set by these turns.
pub record Keeps (turns : List Turn) (parts : List Part) : Type 0 where
  pub short : AreShort turns
  pub fair : AreFair (was_named turns) parts

or_left : (a b : Bool) → a ≡ true → a || b ≡ true
or_left true b e = refl
or_left false b e = absurd (false≢true e)

or_right : (a b : Bool) → b ≡ true → a || b ≡ true
or_right true b e = refl
or_right false b e = e

-- EXPORT_NAME that was asked stays so
still_named : (one : Turn) (turns : List Turn) → was_named turns ≡ true → was_named (one ∷ turns) ≡ true
still_named one turns h = or_right (is_named (phase (one ∷ turns))) (was_named turns) h

if_fair : (named ended : Bool) (some : List (List ℕ)) → (ended ≡ true → AreFair named (map plain some)) → AreFair named (map plain (if_ended ended some))
if_fair named true some f = f refl
if_fair named false some f = tt

-- the request that a turn makes
sent_fair : (one : Turn) (before : List Turn) → AreShort (one ∷ before) → ((option : ℕ) → one ≡ turn.Opted option → IsKnown option) → AreFair (was_named (one ∷ before)) (map plain (sent_by one before))
sent_fair turn.Hello before s opted = requests (phase (turn.Hello ∷ before)) (turn.Hello ∷ before) _ s (hello_known (asks_extended before) (asks_structured before) (opt_mode before) (contexts_now before)) (or_left (is_named (phase (turn.Hello ∷ before))) (was_named before))
sent_fair (Replied told) before s opted = if_fair _ (is_some (end_of told)) (next_request (Replied told ∷ before)) (λ e. requests (phase (Replied told ∷ before)) (Replied told ∷ before) _ s (known (end_of told) refl e) (or_left (is_named (phase (Replied told ∷ before))) (was_named before)))
  where
    known : (end : Option AnswerEnd) → end_of told ≡ end → is_some (end_of told) ≡ true → AsksKnown (phase (Replied told ∷ before))
    known None e some = absurd (false≢true (sym (ap is_some e) ∙ some))
    known (Some end) e some = subst (λ (x : Option AnswerEnd). AsksKnown (after_reply (asks_structured before) (opt_mode before) (contexts_now before) x (phase before))) (sym e) (reply_known (asks_structured before) (opt_mode before) (contexts_now before) end (phase before))
sent_fair (ByName size flags) before s opted = tt
sent_fair (turn.Set setting) before s opted = tt
sent_fair (turn.Opted option) before s opted = requests (Asked option) (turn.Opted option ∷ before) _ s (opted option refl) (λ e. absurd (false≢true e))

turn_keeps : (one : Turn) (before : List Turn) (parts : List Part) → AreShort (one ∷ before) → ((option : ℕ) → one ≡ turn.Opted option → IsKnown option) → Keeps before parts → Keeps (one ∷ before) (parts ++ map plain (sent_by one before))
turn_keeps one before parts s opted k = record {
  short = s;
  fair = fair_join _ parts (map plain (sent_by one before)) (are_still (was_named before) (was_named (one ∷ before)) parts (or_right (is_named (phase (one ∷ before))) (was_named before)) k.fair) (sent_fair one before s opted);
}

-- Names that are set.

all_more : (names : List (List ℕ)) (name : List ℕ) → length (all_counted (names ++ name ∷ [])) ≡ length (all_counted names) + (4 + length name)
all_more [] name =
    let whole_ = length-append (counted name) [] in
    let one = counted_long name in
    omega (arith, whole_, one)
all_more (first ∷ names) name =
    let left = length-append (counted first) (all_counted (names ++ name ∷ [])) in
    let right = length-append (counted first) (all_counted names) in
    let rest = all_more names name in
    omega (arith, left, right, rest)

-- A write that is not refused.

some_none : {A : Type 0} (a : A) → Some a ≡ None → ⊥
some_none a e = cc

limit_low : (blocks : Option Blocks) → payload_limit blocks ≤ max_data
limit_low None = omega arith
limit_low (Some blocks) = go (nat_le max_data blocks.maximum) refl
  where
    go : (b : Bool) → nat_le max_data blocks.maximum ≡ b → (if b then max_data else blocks.maximum) ≤ max_data
    go true e = omega arith
    go false e = let m = leb-false max_data blocks.maximum e in omega (arith, m)

-- a rule that refuses nothing does not hold
passed_by : (test : Bool) (reason : Why) (later : Option Why) → refuse test reason later ≡ None → (test ≡ false) × (later ≡ None)
passed_by true reason later e = absurd (some_none reason e)
passed_by false reason later e = (refl, e)

supported : (lack : Option Lack) (later : Option Why) → unsupported lack later ≡ None → later ≡ None
supported None later e = e
supported (Some lack) later e = absurd (some_none _ e)

ready_by : (s : State) (later : Option Why) → by_state s later ≡ None → later ≡ None
ready_by state.Created later e = absurd (some_none _ e)
ready_by state.Negotiating later e = absurd (some_none _ e)
ready_by state.OptMode later e = absurd (some_none _ e)
ready_by state.Ready later e = e
ready_by state.Closing later e = absurd (some_none _ e)
ready_by state.Closed later e = absurd (some_none _ e)
ready_by (state.Dead why) later e = absurd (some_none _ e)

-- the rules on a range behind that on its length
abbrev after_length : Terms → Kind → (offset n : ℕ) → Option Why
after_length terms kind offset n =
    refuse (has_bit strict_bounds terms.strict && nat_lt terms.size (offset + n)) (why.Bounds terms.size)
    (refuse (has_bit strict_align terms.strict && not (is_aligned (minimum terms.blocks) offset n)) (why.Align (minimum terms.blocks)) None)

-- a write that is not refused has at most so many bytes
write_low : (limit : ℕ) (terms : Terms) (flags offset n : ℕ) → refusal limit terms Write flags offset n ≡ None → n ≤ max_data
write_low limit terms flags offset n e =
    let ranged : Option Why = by_range terms Write offset n in
    let flagged : Option Why = refuse (not (bad_flags terms Write flags == 0)) (why.BadFlags (bad_flags terms Write flags)) ranged in
    let lacked : Option Why = unsupported (lack_now terms Write) flagged in
    let held = passed_by (nat_le limit terms.held) (why.TooMany limit) lacked (ready_by terms.state (refuse (nat_le limit terms.held) (why.TooMany limit) lacked) e) in
    let low_flags = passed_by (not (bad_flags terms Write flags == 0)) (why.BadFlags (bad_flags terms Write flags)) ranged (supported (lack_now terms Write) flagged held.1) in
    let some : Option Why = refuse (nat_lt (length_limit terms Write) n) (why.TooBig (length_limit terms Write)) (after_length terms Write offset n) in
    let zero_ = passed_by (has_bit strict_zero_size terms.strict && (n == 0)) why.ZeroSize some low_flags.1 in
    let big = passed_by (nat_lt (length_limit terms Write) n) (why.TooBig (length_limit terms Write)) (after_length terms Write offset n) zero_.1 in
    let low = ltb-false (payload_limit terms.blocks) n big.0 in
    let most = limit_low terms.blocks in
    omega (arith, low, most)

module _ {K : Type 0} where
  set_short : (before : History K) (one : Setting) → CanSet before one → Spells before (event.Set one) → AreShort (reading before).known.turns → AreShort (turn.Set one ∷ (reading before).known.turns)
  set_short before (Name name) can fits s = record { name = fits; few = s.few; short = s.short }
  set_short before (Context name) can fits s =
      let n = length-append (contexts_now (reading before).known.turns) (name ∷ []) in
      let m = all_more (contexts_now (reading before).known.turns) name in
      let few = can.1 in
      let short = s.short in
      record { name = s.name; few = omega (arith, n, few); short = omega (arith, n, m, short, fits) }
  set_short before (Structured on) can fits s = record { name = s.name; few = s.few; short = s.short }
  set_short before (Extended on) can fits s = record { name = s.name; few = s.few; short = s.short }
  set_short before (event.OptMode on) can fits s = record { name = s.name; few = s.few; short = s.short }

  -- neither an abort nor a disconnect was asked for
  abbrev pub SpeaksOn : History K → Type 0
  SpeaksOn [] = Unit {0}
  SpeaksOn (Abort ∷ before) = ⊥
  SpeaksOn (Disconnect ∷ before) = ⊥
  SpeaksOn (event ∷ before) = SpeaksOn before

  -- Its commands.

  abbrev Holds : Known K → Type 0
  Holds known = Keeps known.turns known.parts

  same_holds : (known later : Known K) → later.turns ≡ known.turns → later.parts ≡ known.parts → Holds known → Holds later
  same_holds known later turns parts h = subst (λ ts. Keeps ts later.parts) (sym turns) (subst (λ ps. Keeps known.turns ps) (sym parts) h)

  data_low : (limit : ℕ) (before : History K) (command : Command K) (kind : Kind) → command.kind ≡ kind → refusal_after limit before command ≡ None → length command.payload ≡ (if is_write kind then command.length else 0) → (length command.payload ≤ max_data) × (0 < length command.payload → type_of command.kind ≡ 1)
  data_low limit before command Write is can n = (let m = write_low limit (terms_after before) command.flags command.offset command.length (subst (λ k. refusal limit (terms_after before) k command.flags command.offset command.length ≡ None) is can) in omega (arith, m, n), λ some. ap type_of is)
  data_low limit before command Read is can n = (omega (arith, n), λ some. absurd (omega (arith, n, some)))
  data_low limit before command Flush is can n = (omega (arith, n), λ some. absurd (omega (arith, n, some)))
  data_low limit before command Trim is can n = (omega (arith, n), λ some. absurd (omega (arith, n, some)))
  data_low limit before command Cache is can n = (omega (arith, n), λ some. absurd (omega (arith, n, some)))
  data_low limit before command Zero is can n = (omega (arith, n), λ some. absurd (omega (arith, n, some)))
  data_low limit before command BlockStatus is can n = (omega (arith, n), λ some. absurd (omega (arith, n, some)))

  -- the parts of a request
  order_fair : (named extended : Bool) (cookie : ℕ) (command : Command K) → Spelled extended cookie command → (length command.payload ≤ max_data) → (0 < length command.payload → type_of command.kind ≡ 1) → AreFair named (command_parts extended cookie command)
  order_fair named extended cookie command s low write =
      subst (AreFair named) (sym (order_parts extended cookie command s ∙ ap (λ k. request_parts (is_some k) (row (order_head extended (order_for extended cookie command))) command.payload) (kind_back command.kind)))
      (go extended command.payload (order_fits extended cookie command s).fit low write)
    where
      go : (e : Bool) (payload : List ℕ) → AllFit (order_head e (order_for e cookie command)) → length payload ≤ max_data → (0 < length payload → type_of command.kind ≡ 1) → AreFair named (request_parts true (row (order_head e (order_for e cookie command))) payload)
      go true [] fit low write = (Ends refl (let n = length-row (order_head true (order_for true cookie command)) in omega (arith, n)), tt)
      go false [] fit low write = (Ends refl (let n = length-row (order_head false (order_for false cookie command)) in omega (arith, n)), tt)
      go e (byte ∷ bytes) fit low write = let h = order_head_is e (order_for e cookie command) fit in (Heads refl h.long e h.magic (h.type_ ∙ write (omega arith)), (Ends refl low, tt))

  -- What arrives.

  die_holds : (before : History K) (why : Cause) (known : Known K) → Holds known → Holds (die before why known)
  die_holds before why known h = let s = all_still before Lost (cookies (asked before).issued) (record known { stage = Dead why }) in same_holds known (die before why known) s.turns s.parts h

  refused_holds : (p : Phase) (before : History K) (known : Known K) → Holds known → Holds (if_refused p before known)
  refused_holds Greeting before known h = h
  refused_holds (Asked option) before known h = h
  refused_holds AskedByName before known h = h
  refused_holds OptMode before known h = h
  refused_holds Ready before known h = h
  refused_holds (Refused code) before known h = die_holds before (cause.Refused opt_go code) known h

  holds_last : (before : History K) → Lasts (rules before) Holds
  holds_last before known bytes (Hello flags) h e =
      turn_keeps turn.Hello known.turns (known.parts ++ plain (client_flags flags) ∷ []) (record { name = h.short.name; few = h.short.few; short = h.short.short }) (λ option is. absurd (hello_not option is))
      (record { short = h.short; fair = fair_join _ known.parts (plain (client_flags flags) ∷ []) h.fair (greets _ flags (subst (Each IsFixed) e (fixed_at known.stage (sight known) (waited before known) bytes)), tt) })
    where
      hello_not : (option : ℕ) → turn.Hello ≡ turn.Opted option → ⊥
      hello_not option e = cc
  holds_last before known bytes (OptionReply told) h e =
      refused_holds (phase (Replied told ∷ known.turns)) before (turned (Replied told) known) (turn_keeps (Replied told) known.turns known.parts (record { name = h.short.name; few = h.short.few; short = h.short.short }) (λ option is. absurd (reply_not option is)) h)
    where
      reply_not : (option : ℕ) → Replied told ≡ turn.Opted option → ⊥
      reply_not option e = cc
  holds_last before known bytes (ExportReply size flags) h e = turn_keeps (ByName size flags) known.turns known.parts (record { name = h.short.name; few = h.short.few; short = h.short.short }) (λ option is. absurd (name_not option is)) h
    where
      name_not : (option : ℕ) → ByName size flags ≡ turn.Opted option → ⊥
      name_not option e = cc
  holds_last before known bytes (Reply frame) h e = let s = file_still (request before frame.cookie) frame.cookie (Framed frame.content frame.last) known in same_holds known (file before frame.cookie (Framed frame.content frame.last) known) s.turns s.parts h
  holds_last before known bytes (Broken breach) h e = die_holds before (cause.Broke breach) known h
  holds_last before known bytes Passed h e = h
  holds_last before known bytes Ignored h e = h

  closing_holds : (n : ℕ) (before : History K) (known : Known K) → Holds known → Holds (ended_closing n before known)
  closing_holds zero before known h = h
  closing_holds (suc n) before known h = die_holds before cause.Ended known h

  ended_holds : (stage : Stage) (before : History K) (held : Held (Known K)) → Holds held.known → Holds (ended_at stage before held).known
  ended_holds Created before held h = h
  ended_holds Open before held h = die_holds before cause.Ended held.known h
  ended_holds Disconnecting before held h = closing_holds (flying before held.known.entries (asked before).issued) before held.known h
  ended_holds Aborting before held h = closing_holds (flying before held.known.entries (asked before).issued) before held.known h
  ended_holds Closed before held h = h
  ended_holds (Dead why) before held h = h

  failed_holds : (stage : Stage) (before : History K) (held : Held (Known K)) → Holds held.known → Holds (failed_at stage before held).known
  failed_holds Created before held h = h
  failed_holds Open before held h = die_holds before cause.LinkFailed held.known h
  failed_holds Disconnecting before held h = die_holds before cause.LinkFailed held.known h
  failed_holds Aborting before held h = die_holds before cause.LinkFailed held.known h
  failed_holds Closed before held h = h
  failed_holds (Dead why) before held h = h

  asked_with : (parts : List Part) (known : Known K) → AreFair (was_named known.turns) parts → Holds known → Keeps known.turns (known.parts ++ parts)
  asked_with parts known f h = record { short = h.short; fair = fair_join _ known.parts parts h.fair f }

  pub holds : (limit : ℕ) (history : History K) → Lawful limit history → AllSpell history → SpeaksOn history → Keeps (reading history).known.turns (reading history).known.parts
  holds limit [] lawful fits none = record { short = record { name = omega arith; few = omega arith; short = omega arith }; fair = tt }
  holds limit (event.Set setting ∷ before) lawful fits none =
      let h = holds limit before lawful.0 fits.1 none in
      turn_keeps (turn.Set setting) (reading before).known.turns (reading before).known.parts (set_short before setting lawful.2 fits.0 h.short) (λ option is. absurd (set_not option is)) h
    where
      set_not : (option : ℕ) → turn.Set setting ≡ turn.Opted option → ⊥
      set_not option e = cc
  holds limit (StrictMode bits ∷ before) lawful fits none = holds limit before lawful.0 fits.1 none
  holds limit (Start ∷ before) lawful fits none = holds limit before lawful.0 fits.1 none
  holds limit (Opt option ∷ before) lawful fits none =
      let h = holds limit before lawful.0 fits.1 none in
      turn_keeps (turn.Opted option) (reading before).known.turns (reading before).known.parts (record { name = h.short.name; few = h.short.few; short = h.short.short }) (λ other is. subst IsKnown (opted_is other is) (call_known option lawful.2.1)) h
    where
      opted_is : (other : ℕ) → turn.Opted option ≡ turn.Opted other → option ≡ other
      opted_is other e = cc
  holds limit (Abort ∷ before) lawful fits none = absurd none
  holds limit (Issue command ∷ before) lawful fits none =
      let h = holds limit before lawful.0 fits.1 none in
      let d = data_low limit before command command.kind refl lawful.2.0 fits.0.data_ in
      asked_with (command_parts (is_extended (reading before).known) ((asked before).issued + 1) command) (reading before).known (order_fair _ (is_extended (reading before).known) ((asked before).issued + 1) command fits.0 d.0 d.1) h
  holds limit (Refuse command why ∷ before) lawful fits none = holds limit before lawful.0 fits.1 none
  holds limit (Disconnect ∷ before) lawful fits none = absurd none
  holds limit (Wrote n ∷ before) lawful fits none = holds limit before lawful.0 fits.1 none
  holds limit (Arrived bytes answers ∷ before) lawful fits none = feed_lasts (rules before) Holds (holds_last before) (change (with_answers answers) (reading before)) bytes (holds limit before lawful.0 fits.1 none)
  holds limit (End answers ∷ before) lawful fits none = ended_holds (reading before).known.stage before (change (with_answers answers) (reading before)) (holds limit before lawful.0 fits.1 none)
  holds limit (LinkFailed answers ∷ before) lawful fits none = failed_holds (reading before).known.stage before (change (with_answers answers) (reading before)) (holds limit before lawful.0 fits.1 none)
  holds limit (Retire cookie ∷ before) lawful fits none = holds limit before lawful.0 fits.1 none
  holds limit (ClearLog ∷ before) lawful fits none = holds limit before lawful.0 fits.1 none
  holds limit (Close ∷ before) lawful fits none =
      let s = all_still before Dropped (cookies (asked before).issued) (record (with_answers [] (reading before).known) { stage = Closed }) in
      same_holds (reading before).known (closed before (with_answers [] (reading before).known)) s.turns s.parts (holds limit before lawful.0 fits.1 none)

  -- EXPORT_NAME that was asked stays so.

  named_lasts : (before : History K) → Lasts (rules before) (λ known. was_named known.turns ≡ true)
  named_lasts before known bytes (Hello flags) h e = still_named turn.Hello known.turns h
  named_lasts before known bytes (OptionReply told) h e = ap was_named (refused_turns (phase (Replied told ∷ known.turns)) before (turned (Replied told) known)) ∙ still_named (Replied told) known.turns h
  named_lasts before known bytes (ExportReply size flags) h e = still_named (ByName size flags) known.turns h
  named_lasts before known bytes (Reply frame) h e = ap was_named (file_still (request before frame.cookie) frame.cookie (Framed frame.content frame.last) known).turns ∙ h
  named_lasts before known bytes (Broken breach) h e = ap was_named (die_turns before (cause.Broke breach) known) ∙ h
  named_lasts before known bytes Passed h e = h
  named_lasts before known bytes Ignored h e = h

  named_on : (before : History K) (one : Event K) → was_named (reading before).known.turns ≡ true → was_named (reading (one ∷ before)).known.turns ≡ true
  named_on before (event.Set setting) h = still_named (turn.Set setting) (reading before).known.turns h
  named_on before (StrictMode bits) h = h
  named_on before Start h = h
  named_on before (Opt option) h = still_named (turn.Opted option) (reading before).known.turns h
  named_on before Abort h = h
  named_on before (Issue command) h = h
  named_on before (Refuse command why) h = h
  named_on before Disconnect h = h
  named_on before (Wrote n) h = h
  named_on before (Arrived bytes answers) h = feed_lasts (rules before) (λ known. was_named known.turns ≡ true) (named_lasts before) (change (with_answers answers) (reading before)) bytes h
  named_on before (End answers) h = ap was_named (ended_turns (reading before).known.stage before (change (with_answers answers) (reading before))) ∙ h
  named_on before (LinkFailed answers) h = ap was_named (failed_turns (reading before).known.stage before (change (with_answers answers) (reading before))) ∙ h
  named_on before (Retire cookie) h = h
  named_on before ClearLog h = h
  named_on before Close h = ap was_named (all_still before Dropped (cookies (asked before).issued) (record (with_answers [] (reading before).known) { stage = Closed })).turns ∙ h

  pub never_named : (before : History K) (one : Event K) → was_named (reading (one ∷ before)).known.turns ≡ false → was_named (reading before).known.turns ≡ false
  never_named before one e = go (was_named (reading before).known.turns) refl
    where
      go : (b : Bool) → was_named (reading before).known.turns ≡ b → was_named (reading before).known.turns ≡ false
      go true h = absurd (false≢true (sym e ∙ named_on before one h))
      go false h = h

  -- nor was an end asked for before
  pub speaks_on_before : (before : History K) (one : Event K) → SpeaksOn (one ∷ before) → SpeaksOn before
  speaks_on_before before (event.Set setting) none = none
  speaks_on_before before (StrictMode bits) none = none
  speaks_on_before before Start none = none
  speaks_on_before before (Opt option) none = none
  speaks_on_before before Abort none = absurd none
  speaks_on_before before (Issue command) none = none
  speaks_on_before before (Refuse command why) none = none
  speaks_on_before before Disconnect none = absurd none
  speaks_on_before before (Wrote n) none = none
  speaks_on_before before (Arrived bytes answers) none = none
  speaks_on_before before (End answers) none = none
  speaks_on_before before (LinkFailed answers) none = none
  speaks_on_before before (Retire cookie) none = none
  speaks_on_before before ClearLog none = none
  speaks_on_before before Close none = none
