-- Bytes that come or go, and the end of the connection, leave fewer bytes that may still come and go.
use Rattle.std.proofs.Common.{◌≡◌, ℕ, zero, suc, ◌+◌, ◌-◌, ◌*◌, ◌≤◌, ◌<◌, Bool, true, false, List, [], ◌∷◌, ◌++◌, length, map, drop, Option, Some, None, is_some, refl, ap, sym, subst, ◌∙◌, arith, ◌==◌, nat_lt, if◌then◌else◌, length-append}
use Rattle.std.proofs.lemmas.Bool.{false≢true, eqb-true, ltb-false}
use Rattle.std.proofs.lemmas.List.{length-drop}
use Rattle.lnbd_model.specs.declared.breach.Breach.{Breach}
use Rattle.lnbd_model.specs.declared.state.Cause.TheVariants as cause
use Rattle.lnbd_records.specs.Handshake as handshake
use Rattle.lnbd_records.specs.Told.{Told}
use Rattle.lnbd_records.specs.Told as told
use Rattle.lnbd_records.proofs.NumberLaws.{length-row}
use Rattle.lnbd_stream.specs.Stream.{Held, settle, take_byte, feed}
use Rattle.lnbd_stream.proofs.Stream.{feed_lasts}
use Rattle.lnbd_history.specs.declared.kinds.Phase.{Phase}
use Rattle.lnbd_history.specs.declared.kinds.Phase.TheVariants as phase
use Rattle.lnbd_history.specs.declared.kinds.Stage.{Stage}
use Rattle.lnbd_history.specs.declared.kinds.Stage.TheVariants.{Created, Open, Disconnecting, Aborting, Closed, Dead}
use Rattle.lnbd_history.specs.Agreement.{Turn, Replied, ByName, end_of}
use Rattle.lnbd_history.specs.Agreement as turn
use Rattle.lnbd_history.specs.Answers.{is_living}
use Rattle.lnbd_history.specs.Arrivals.{Content, Shown, Hello, OptionReply, ExportReply, Reply, Broken, Passed, Ignored, Waiting, limit, is_asked, shows_passed, shows_ignored, shows_in, shows_at}
use Rattle.lnbd_history.specs.Entries.{Framed}
use Rattle.lnbd_history.specs.Events.{Answer, Set, StrictMode, Start, Opt, Abort, Issue, Refuse, Disconnect, Wrote, Arrived, End, LinkFailed, Retire, ClearLog, Close}
use Rattle.lnbd_history.specs.Outgoing.{Part, plain, client_flags, request_at, total, out, wrote}
use Rattle.lnbd_history.specs.Talk.{Talk, Pending, pending_with, replied, taking, sent}
use Rattle.lnbd_history.specs.Talk as talk
use Rattle.lnbd_history.proofs.PartLaws.{total-append}
use Rattle.lnbd_history.specs.History.{next_heard, next_verdict}
use Rattle.lnbd_history.specs.History as h
use Rattle.lnbd_machine.specs.Machine.{State, Machine, Doing, is_retiring, hears_in, add, on_state, flying, file_row, file_flight, file_in, turned, greeted, if_refused, enter, sight, waited, table_rules, begin, step, writing, ended_closing, ended_at, failed_at}
use Rattle.lnbd_bounds.specs.Budget.{total_of, owed_of, owed_in, most, later, frame_of, record_of, later_of, coming, left, budget, EventsSpend}
use Rattle.lnbd_bounds.proofs.Costs.{cost_less, counted_less, answer_less, hello_less, command_less}
use Rattle.lnbd_bounds.proofs.Filing.{kill_left}
use Rattle.lnbd_bounds.proofs.Idle.{is_ready, Sound, sound_lasts, machine_sound}
use Rattle.lnbd_bounds.proofs.Refusals.{speaks, is_refused}
use Rattle.lnbd_bounds.proofs.Owed.{MayFollow}
use Rattle.lnbd_bounds.proofs.Rows.{Flying, Fewer, waited_flies, flying_long, ended_fewer, told_fewer}
use Rattle.lnbd_bounds.proofs.Seen.{by_hello, by_option, by_no_option, by_export, by_frame, by_passed}

-- where negotiation goes on, or commands are answered
is_link : Stage → Bool
is_link Created = false
is_link Open = true
is_link Disconnecting = true
is_link Aborting = false
is_link Closed = false
is_link (Dead cause) = false

asked_is : (option : ℕ) (p : Phase) → is_asked option p ≡ true → p ≡ phase.Asked option
asked_is option (phase.Asked other) e = ap phase.Asked (sym (eqb-true option other e))
asked_is option phase.Greeting e = absurd (false≢true e)
asked_is option phase.AskedByName e = absurd (false≢true e)
asked_is option phase.OptMode e = absurd (false≢true e)
asked_is option phase.Ready e = absurd (false≢true e)
asked_is option (phase.Refused code) e = absurd (false≢true e)

one_more : (one : Told) (p : Pending) → (pending_with one p).count ≡ p.count + 1
one_more told.Ack p = refl
one_more (told.Error code) p = refl
one_more (told.Server listed) p = refl
one_more (told.Export size) p = refl
one_more (told.Name name) p = refl
one_more (told.Description text) p = refl
one_more (told.Blocks blocks) p = refl
one_more told.Passed p = refl
one_more (told.Context context) p = refl

-- what a talk that came to this by a reply may still bring, with the request that was sent then
reached : (frame frames : ℕ) → Option turn.End → Talk → ℕ
reached frame frames end t =
    total (map plain (if is_some end then request_at t.phase t.name t.wanted else []))
    + (1 + most frame t.phase + later t.name t.wanted frame frames t.pending.count t.phase)

reply_less : (frame frames : ℕ) (one : Told) (end : Option turn.End) (t : Talk) (option : ℕ) → is_asked option t.phase ≡ true → (end ≡ None → t.pending.count < limit option) →
    reached frame frames end (replied end one t) ≤ later t.name t.wanted frame frames t.pending.count t.phase
unfolding reached
reply_less frame frames one None t option asked few =
    subst (λ (p : Phase). 0 + (1 + most frame p + later t.name t.wanted frame frames (pending_with one t.pending).count p) ≤ later t.name t.wanted frame frames t.pending.count p) (sym (asked_is option t.phase asked))
    (subst (λ (n : ℕ). 0 + (1 + most frame (phase.Asked option) + later t.name t.wanted frame frames n (phase.Asked option)) ≤ later t.name t.wanted frame frames t.pending.count (phase.Asked option)) (sym (one_more one t.pending))
    (omega (arith, counted_less t.name t.wanted frame frames option t.pending.count (few refl))))
reply_less frame frames one (Some end) t option asked few =
    subst (λ (p : Phase). reached frame frames (Some end) (talk.ended end p t) ≤ later t.name t.wanted frame frames t.pending.count p) (sym (asked_is option t.phase asked))
    (omega (arith, answer_less t.name t.wanted frame frames t.asks_structured t.opt_mode option end))

ignored_some : (bytes : List ℕ) (byte : ℕ) → shows_ignored (bytes ++ byte ∷ []) ≡ Some Ignored
ignored_some [] byte = refl
ignored_some (b ∷ bytes) byte = refl

total_wrote : (parts : List Part) (n : ℕ) → n ≤ length (out parts) → total (wrote parts n) + n ≡ total parts
total_wrote [] n less = omega arith
total_wrote (part ∷ parts) n less = go (n == 0) refl (nat_lt n (length part.bytes)) refl
  where
    go : (a : Bool) → (n == 0) ≡ a → (b : Bool) → nat_lt n (length part.bytes) ≡ b →
        total (if a then part ∷ parts else if b then record { bytes = drop n part.bytes; ends = part.ends } ∷ parts else parts) + n ≡ length part.bytes + total parts
    go true e b f = omega (arith, eqb-true n 0 e)
    go false e true f = omega (arith, length-drop n part.bytes)
    go false e false f = omega (arith, ltb-false n (length part.bytes) f)

module _ {K : Type 0} where
  left_link : (state : State K) (held : ℕ) → is_link state.stage ≡ true → left state held ≡ 1 + (record_of state - held) + later_of state + total state.waits
  unfolding is_link
  left_link state held link = ap (λ (n : ℕ). n + total state.waits) (go state.stage link)
    where
      go : (s : Stage) → is_link s ≡ true → coming s state held ≡ 1 + (record_of state - held) + later_of state
      go Open e = refl
      go Disconnecting e = refl
      go Created e = absurd (false≢true e)
      go Aborting e = absurd (false≢true e)
      go Closed e = absurd (false≢true e)
      go (Dead cause) e = absurd (false≢true e)

  left_abort : (state : State K) (held : ℕ) → state.stage ≡ Aborting → left state held ≡ 1 + (65536 - state.passed) + total state.waits
  left_abort state held is = ap (λ s. coming s state held + total state.waits) is

  -- what may be left after the next record
  room : State K → ℕ
  room state = later_of state + total state.waits

  later_at : (state : State K) (p : Phase) → state.talk.phase ≡ p → later_of state ≡ later state.talk.name state.talk.wanted (frame_of state) (owed_in state) state.talk.pending.count p
  later_at state p is = ap (later state.talk.name state.talk.wanted (frame_of state) (owed_in state) state.talk.pending.count) is

  record_at : (state : State K) (p : Phase) → state.talk.phase ≡ p → record_of state ≡ most (frame_of state) p
  record_at state p is = ap (most (frame_of state)) is

  greeted_less : (flags : ℕ) (state : State K) → is_link state.stage ≡ true → state.talk.phase ≡ phase.Greeting → left (greeted flags state) 0 ≤ room state
  unfolding room
  greeted_less flags state link is =
      let old = state.talk in
      let new = taking turn.Hello old in
      omega (
        arith,
        left_link (greeted flags state) 0 link,
        later_at state phase.Greeting is,
        total-append (state.waits ++ plain (client_flags flags) ∷ []) (map plain (sent turn.Hello old)),
        total-append state.waits (plain (client_flags flags) ∷ []),
        length-row (handshake.client_flags (Rattle.std.proofs.Common.bit_and flags 3)),
        cost_less old.name old.wanted (frame_of state) (owed_in state) old.pending.count new.phase,
        hello_less old.name old.wanted (frame_of state) (owed_in state) old.asks_extended old.asks_structured old.opt_mode,
      )

  replied_less : (one : Told) (state : State K) (option : ℕ) → is_link state.stage ≡ true → is_asked option state.talk.phase ≡ true → (end_of one ≡ None → state.talk.pending.count < limit option) → state.rows ≡ [] → left (turned (Replied one) state) 0 ≤ room state
  unfolding room reached
  replied_less one state option link asked few none =
      let new = turned (Replied one) state in
      let same : owed_in new ≡ owed_in state = ap (total_of (owed_of new.talk.contexts)) none ∙ sym (ap (total_of (owed_of state.talk.contexts)) none) in
      omega (
        arith,
        ap (λ (n : ℕ). later new.talk.name new.talk.wanted (frame_of state) n new.talk.pending.count new.talk.phase) same,
        left_link (turned (Replied one) state) 0 link,
        total-append state.waits (map plain (sent (Replied one) state.talk)),
        reply_less (frame_of state) (owed_in state) one (end_of one) state.talk option asked few,
      )

  if_refused_less : (p : Phase) (doing : Doing K) → left (if_refused p doing).state 0 ≤ left doing.state 0
  if_refused_less (phase.Refused code) doing = omega (arith, kill_left (cause.Refused 7 code) doing 0)
  if_refused_less phase.Greeting doing = omega arith
  if_refused_less (phase.Asked option) doing = omega arith
  if_refused_less phase.AskedByName doing = omega arith
  if_refused_less phase.OptMode doing = omega arith
  if_refused_less phase.Ready doing = omega arith

  export_less : (size flags : ℕ) (state : State K) → is_link state.stage ≡ true → state.talk.phase ≡ phase.AskedByName → left (turned (ByName size flags) state) 0 ≤ room state
  unfolding room
  export_less size flags state link is =
      omega (arith, left_link (turned (ByName size flags) state) 0 link, later_at state phase.AskedByName is, total-append state.waits [])

  -- a reply to a command, which may be its last
  framed_less : (cookie : ℕ) (content : Content) (last : Bool) (command : Waiting) (doing : Doing K) → is_link doing.state.stage ≡ true → doing.state.talk.phase ≡ phase.Ready → Flying cookie command doing.state.rows → (last ≡ false → MayFollow command content) →
      left (file_in cookie (Framed content last) doing).state 0 ≤ room doing.state
  unfolding room
  framed_less cookie content last command doing link is f follows =
      subst (λ (d : Doing K). left d.state 0 ≤ later_of doing.state + total doing.state.waits)
      (sym (ap (λ r. file_row r cookie (Framed content last) doing) f.there ∙ ap (λ fl. file_flight fl f.row cookie (Framed content last) doing) f.flies)) (go last follows)
    where
      old : State K
      old = doing.state

      less : (new : State K) → is_link new.stage ≡ true → new.talk ≡ old.talk → new.waits ≡ old.waits → Fewer old.talk.contexts old.rows new.rows → left new 0 ≤ later_of old + total old.waits
      less new link talk waits fewer =
          omega (
            arith,
            left_link new 0 link,
            ap total waits,
            record_at new phase.Ready (ap (λ (t : Talk). t.phase) talk ∙ is),
            later_at new phase.Ready (ap (λ (t : Talk). t.phase) talk ∙ is),
            later_at old phase.Ready is,
            ap (λ (t : Talk). total_of (owed_of t.contexts) new.rows * (1 + frame_of new)) talk,
            command_less old.talk.name old.talk.wanted (frame_of old) (owed_in old) (frame_of new) (total_of (owed_of old.talk.contexts) new.rows) (omega (arith, fewer.shorter)) fewer.fewer,
          )

      go : (last : Bool) → (last ≡ false → MayFollow command content) → left (file_flight (Some f.flight) f.row cookie (Framed content last) doing).state 0 ≤ later_of old + total old.waits
      go true follows =
          let item = Framed content true in
          let calls = hears_in f.row f.flight doing.state.talk.contexts item in
          let verdict = next_verdict true (h.left calls doing.answers) in
          let row = add f.row doing.state.talk.contexts item (next_heard calls doing.answers) verdict in
          less (file_flight (Some f.flight) f.row cookie item doing).state link refl refl
          (ended_fewer old.talk.contexts cookie f.row f.flight f.flies old.rows f.there (is_retiring item verdict) row refl)
      go false follows =
          let item = Framed content false in
          let calls = hears_in f.row f.flight doing.state.talk.contexts item in
          less (file_flight (Some f.flight) f.row cookie item doing).state link refl refl
          (told_fewer old.talk.contexts cookie f.row f.flight f.flies old.rows f.there content (next_heard calls doing.answers) (subst (λ (w : Waiting). MayFollow w content) (sym f.same) (follows refl)))

  -- One byte more.
  module _ (doing : Doing K) (pending : List ℕ) (byte : ℕ) where
    bytes : List ℕ
    bytes = pending ++ byte ∷ []

    Less : Option Shown → Type 0
    Less shown = left (settle table_rules doing bytes shown).known.state (length (settle table_rules doing bytes shown).pending) < left doing.state (length pending)

    module _ (link : is_link doing.state.stage ≡ true) where
      none_less : length bytes ≤ record_of doing.state → Less None
      unfolding Less bytes
      none_less less =
          omega (arith, less, left_link doing.state (length (pending ++ byte ∷ [])) link, left_link doing.state (length pending) link, length-append pending (byte ∷ []))

      some_less : (shown : Shown) → left (enter shown doing).state 0 ≤ room doing.state → Less (Some shown)
      unfolding Less room
      some_less shown less = omega (arith, less, left_link doing.state (length pending) link)

      broken_less : (breach : Breach) → Less (Some (Broken breach))
      broken_less breach = some_less (Broken breach) (omega (arith, kill_left (cause.Broke breach) doing 0))

      phase_less : (p : Phase) → doing.state.talk.phase ≡ p → is_refused p ≡ false → (is_ready p ≡ false → doing.state.rows ≡ []) → Less (shows_in p (sight doing.state) (waited doing.state) bytes)
      phase_less phase.Greeting is goes idle = by_hello Less broken_less bytes
          (λ less. none_less (omega (arith, less, record_at doing.state phase.Greeting is)))
          (λ flags. some_less (Hello flags) (greeted_less flags doing.state link is))
      phase_less (phase.Asked option) is goes idle = by_option Less broken_less (sight doing.state) bytes
          (λ less. none_less (omega (arith, less, record_at doing.state (phase.Asked option) is)))
          (λ other one asked few. some_less (OptionReply one)
          (omega (arith, replied_less one doing.state other link asked few (idle refl), if_refused_less (taking (Replied one) doing.state.talk).phase (on_state (turned (Replied one)) doing))))
      phase_less phase.AskedByName is goes idle = by_export Less broken_less (sight doing.state).no_zeroes bytes
          (λ less. none_less (omega (arith, less, record_at doing.state phase.AskedByName is)))
          (λ size flags. some_less (ExportReply size flags) (export_less size flags doing.state link is))
      phase_less phase.OptMode is goes idle = by_no_option Less broken_less (sight doing.state) bytes is
          (λ less. none_less (omega (arith, less, record_at doing.state phase.OptMode is)))
      phase_less phase.Ready is goes idle = by_frame Less broken_less (sight doing.state).structured (sight doing.state).extended (waited doing.state) bytes
          (λ less. none_less (omega (arith, less, record_at doing.state phase.Ready is)))
          (λ command cookie w less. none_less (omega (arith, less, record_at doing.state phase.Ready is, flying_long cookie command doing.state.rows (waited_flies cookie command doing.state w))))
          (λ command cookie content last w follows. some_less (Reply (record { cookie = cookie; content = content; last = last }))
          (framed_less cookie content last command doing link is (waited_flies cookie command doing.state w) follows))
      phase_less (phase.Refused code) is goes idle = absurd (false≢true (sym goes))

    -- after an abort
    module _ (is : doing.state.stage ≡ Aborting) where
      abort_less : (shown : Shown) → left (enter shown doing).state 0 ≤ 65536 - doing.state.passed + total doing.state.waits → Less (Some shown)
      unfolding Less
      abort_less shown less = omega (arith, less, left_abort doing.state (length pending) is)

      abort_broken : (breach : Breach) → Less (Some (Broken breach))
      abort_broken breach = abort_less (Broken breach) (omega (arith, kill_left (cause.Broke breach) doing 0))

      pass_less : doing.state.passed < 65536 → Less (Some Passed)
      pass_less few = abort_less Passed (omega (arith, few, left_abort (enter Passed doing).state 0 is))

      passed_less : (front : List ℕ) → Less (shows_passed doing.state.passed (front ++ byte ∷ []))
      passed_less [] = by_passed Less abort_broken doing.state.passed byte [] pass_less
      passed_less (first ∷ front) = by_passed Less abort_broken doing.state.passed first (front ++ byte ∷ []) pass_less

    -- a living handle has less left after a byte
    living_less : Sound doing.state → is_living doing.state.stage ≡ true → Less (shows_at doing.state.stage (sight doing.state) (waited doing.state) bytes)
    unfolding is_link bytes
    living_less sound living = go doing.state.stage refl living
      where
        go : (s : Stage) → doing.state.stage ≡ s → is_living s ≡ true → Less (shows_at s (sight doing.state) (waited doing.state) bytes)
        go Open is e = phase_less (ap is_link is) doing.state.talk.phase refl (sound.goes (ap speaks is)) (sound.idle (ap speaks is))
        go Disconnecting is e = phase_less (ap is_link is) doing.state.talk.phase refl (sound.goes (ap speaks is)) (sound.idle (ap speaks is))
        go Aborting is e = passed_less is pending
        go Created is e = absurd (false≢true e)
        go Closed is e = absurd (false≢true e)
        go (Dead cause) is e = absurd (false≢true e)

    -- and another no more
    Most : Option Shown → Type 0
    Most shown = left (settle table_rules doing bytes shown).known.state (length (settle table_rules doing bytes shown).pending) ≤ left doing.state (length pending)

    idle_most : (s : Stage) → doing.state.stage ≡ s → is_living s ≡ false → Most (Some Ignored)
    unfolding Most
    idle_most s is idle = omega (arith, nothing 0, nothing (length pending))
      where
        none_comes : (s : Stage) → is_living s ≡ false → (held : ℕ) → coming s doing.state held ≡ 0
        none_comes Created e held = refl
        none_comes Closed e held = refl
        none_comes (Dead cause) e held = refl
        none_comes Open e held = absurd (false≢true (sym e))
        none_comes Disconnecting e held = absurd (false≢true (sym e))
        none_comes Aborting e held = absurd (false≢true (sym e))

        nothing : (held : ℕ) → coming doing.state.stage doing.state held ≡ 0
        nothing held = ap (λ t. coming t doing.state held) is ∙ none_comes s idle held

    byte_most : Sound doing.state → Most (shows_at doing.state.stage (sight doing.state) (waited doing.state) bytes)
    unfolding Most Less bytes
    byte_most sound = go (is_living doing.state.stage) refl
      where
        ignores : (s : Stage) → is_living s ≡ false → shows_at s (sight doing.state) (waited doing.state) (pending ++ byte ∷ []) ≡ Some Ignored
        ignores Created e = ignored_some pending byte
        ignores Closed e = ignored_some pending byte
        ignores (Dead cause) e = ignored_some pending byte
        ignores Open e = absurd (false≢true (sym e))
        ignores Disconnecting e = absurd (false≢true (sym e))
        ignores Aborting e = absurd (false≢true (sym e))

        go : (living : Bool) → is_living doing.state.stage ≡ living → Most (shows_at doing.state.stage (sight doing.state) (waited doing.state) bytes)
        go true e = omega (arith, living_less sound e)
        go false e = subst Most (sym (ignores doing.state.stage e)) (idle_most doing.state.stage refl e)

  -- Bytes.

  left_in : Held (Doing K) → ℕ
  left_in held = left held.known.state (length held.pending)

  taken_sound : (held : Held (Doing K)) (byte : ℕ) → Sound held.known.state → Sound (take_byte table_rules held byte).known.state
  taken_sound held byte sound = feed_lasts table_rules (λ (doing : Doing K). Sound doing.state) sound_lasts held (byte ∷ []) sound

  take_most : (held : Held (Doing K)) (byte : ℕ) → Sound held.known.state → left_in (take_byte table_rules held byte) ≤ left_in held
  unfolding left_in Most bytes
  take_most held byte sound = byte_most held.known held.pending byte sound

  feed_most : (held : Held (Doing K)) (bytes : List ℕ) → Sound held.known.state → left_in (feed table_rules held bytes) ≤ left_in held
  feed_most held [] sound = omega arith
  feed_most held (byte ∷ bytes) sound = omega (arith, take_most held byte sound, feed_most (take_byte table_rules held byte) bytes (taken_sound held byte sound))

  feed_less : (held : Held (Doing K)) (byte : ℕ) (bytes : List ℕ) → Sound held.known.state → is_living held.known.state.stage ≡ true → left_in (feed table_rules held (byte ∷ bytes)) < left_in held
  unfolding left_in Less bytes
  feed_less held byte bytes sound living =
      omega (
        arith,
        living_less held.known held.pending byte sound living,
        feed_most (take_byte table_rules held byte) bytes (taken_sound held byte sound),
      )

  -- The end.

  living_left : (now : Machine K) → is_living now.known.stage ≡ true → 0 < budget now
  unfolding budget
  living_left now living = omega (arith, go now.known.stage living)
    where
      go : (s : Stage) → is_living s ≡ true → 0 < coming s now.known (length now.pending)
      go Open e = omega arith
      go Disconnecting e = omega arith
      go Aborting e = omega arith
      go Created e = absurd (false≢true e)
      go Closed e = absurd (false≢true e)
      go (Dead cause) e = absurd (false≢true e)

  closing_left : (n : ℕ) (doing : Doing K) → left (ended_closing n doing).state 0 ≡ 0
  closing_left zero doing = refl
  closing_left (suc n) doing = kill_left cause.Ended doing 0

  ended_left : (s : Stage) (answers : List Answer) (now : Machine K) → is_living s ≡ true → left_in (ended_at s (begin answers now)) ≡ 0
  unfolding left_in
  ended_left Open answers now e = kill_left cause.Ended (begin answers now).known 0
  ended_left Disconnecting answers now e = closing_left (flying now.known.rows) (begin answers now).known
  ended_left Aborting answers now e = closing_left (flying now.known.rows) (begin answers now).known
  ended_left Created answers now e = absurd (false≢true e)
  ended_left Closed answers now e = absurd (false≢true e)
  ended_left (Dead cause) answers now e = absurd (false≢true e)

  failed_left : (s : Stage) (answers : List Answer) (now : Machine K) → is_living s ≡ true → left_in (failed_at s (begin answers now)) ≡ 0
  unfolding left_in
  failed_left Open answers now e = kill_left cause.LinkFailed (begin answers now).known 0
  failed_left Disconnecting answers now e = kill_left cause.LinkFailed (begin answers now).known 0
  failed_left Aborting answers now e = kill_left cause.LinkFailed (begin answers now).known 0
  failed_left Created answers now e = absurd (false≢true e)
  failed_left Closed answers now e = absurd (false≢true e)
  failed_left (Dead cause) answers now e = absurd (false≢true e)

  -- Bytes that go out.
  wrote_less : (n : ℕ) (now : Machine K) → n ≤ length (out now.known.waits) → 0 < n → budget (step now (Wrote n)) < budget now
  unfolding budget
  wrote_less n now may some = omega (arith, go now.known.stage, total_wrote now.known.waits n may)
    where
      go : (s : Stage) → coming s (writing n now.known) (length now.pending) ≡ coming s now.known (length now.pending)
      go Open = refl
      go Disconnecting = refl
      go Aborting = refl
      go Created = refl
      go Closed = refl
      go (Dead cause) = refl

  pub spends : EventsSpend K
  unfolding left_in budget
  spends limit history now (Wrote n) stands may some = wrote_less n now may some
  spends limit history now (Arrived [] answers) stands may some = absurd (omega arith)
  spends limit history now (Arrived (byte ∷ bytes) answers) stands may some =
      feed_less (begin answers now) byte bytes (subst (λ (m : Machine K). Sound m.known) (sym stands.same) (machine_sound limit history stands.lawful)) may
  spends limit history now (End answers) stands may living = omega (arith, ended_left now.known.stage answers now living, living_left now living)
  spends limit history now (LinkFailed answers) stands may living = omega (arith, failed_left now.known.stage answers now living, living_left now living)
  spends limit history now (Set setting) stands may never = absurd never
  spends limit history now (StrictMode bits) stands may never = absurd never
  spends limit history now Start stands may never = absurd never
  spends limit history now (Opt option) stands may never = absurd never
  spends limit history now Abort stands may never = absurd never
  spends limit history now (Issue command) stands may never = absurd never
  spends limit history now (Refuse command why) stands may never = absurd never
  spends limit history now Disconnect stands may never = absurd never
  spends limit history now (Retire cookie) stands may never = absurd never
  spends limit history now ClearLog stands may never = absurd never
  spends limit history now Close stands may never = absurd never
