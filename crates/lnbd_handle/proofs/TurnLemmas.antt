-- What a turn does, for each thing that may stand at the front.
use Rattle.std.proofs.Common.{◌≡◌, ℕ, ◌+◌, ◌<◌, ◌≤◌, Bool, true, false, List, [], ◌∷◌, ◌++◌, length, take, drop, Option, Some, None, Err, nat_lt, nat_le, ◌^◌, if◌then◌else◌, refl, ap, sym, ◌∙◌, subst, arith, append-nil}
use Rattle.std.proofs.lemmas.Bool.{leb-true, lt-ltb}
use Rattle.std.proofs.lemmas.List.{take-append-drop}
use Rattle.lnbd_model.specs.declared.breach.Breach.{Breach}
use Rattle.lnbd_model.specs.declared.breach.Breach.TheVariants.{NotFixed, SizeTooBig}
use Rattle.lnbd_model.specs.declared.state.Cause.{Cause}
use Rattle.lnbd_model.specs.declared.state.Cause.TheVariants.{Broke, Refused, Ended, LinkFailed}
use Rattle.lnbd_records.specs.Numbers.{number_at}
use Rattle.lnbd_records.specs.Told.{Told}
use Rattle.lnbd_keyed.specs.Keyed.{value_at}
use Rattle.lnbd_stream.specs.Grammar.{wants}
use Rattle.lnbd_stream.proofs.Grammar.{wants_true}
use Rattle.lnbd_stream.specs.Stream.{fresh, feed}
use Rattle.lnbd_stream.proofs.Stream.{feed-append}
use Rattle.lnbd_callbacks.specs.Calls.{Call}
use Rattle.lnbd_history.specs.declared.kinds.Phase.{Phase}
use Rattle.lnbd_history.specs.declared.kinds.Phase.TheVariants as phase
use Rattle.lnbd_history.specs.declared.kinds.Stage.{Stage}
use Rattle.lnbd_history.specs.declared.kinds.Stage.TheVariants.{Created, Open, Disconnecting, Aborting, Closed, Dead}
use Rattle.lnbd_history.specs.Agreement.{Replied, ByName}
use Rattle.lnbd_history.specs.Talk.{Talk, taking}
use Rattle.lnbd_history.specs.Entries.{Framed}
use Rattle.lnbd_outgoing.specs.Queue.{Queue, waits, AllFit}
use Rattle.lnbd_negotiate.specs.declared.kinds.TalkFault.TheVariants as fault
use Rattle.lnbd_commands.specs.Commands.{Commands, waiting_as, waiting_at}
use Rattle.lnbd_commands.specs.Takes as takes
use Rattle.lnbd_commands.specs.Takes.{Takes, TakesReply, TakesUnder}
use Rattle.lnbd_arrivals.specs.Frames.{IsChunk, IsReply, shows_by}
use Rattle.lnbd_arrivals.specs.Payloads.{payload_in, told_in}
use Rattle.lnbd_arrivals.specs.declared.chunk.Chunk.{Chunk}
use Rattle.lnbd_arrivals.specs.declared.replies.Replies.{Replies as Manner}
use Rattle.lnbd_chunks.specs.Chunk.{is_done}
use Rattle.lnbd_chunks.specs.Reply.{simple_content}
use Rattle.lnbd_structured.specs.Assembly.{head_of}
use Rattle.lnbd_history.specs.Events.{Answer}
use Rattle.lnbd_history.specs.Arrivals.{Shown, Hello, OptionReply, ExportReply, Reply, Broken, Ignored, Frame, Waiting, Sight, has_bit, shows_at, shows_in, shows_hello, shows_option, shows_by_name}
use Rattle.lnbd_machine.specs.Machine.{Row, State, Doing, enter, kill, greeted, turned, if_refused, file_in, sight, waited, waited_of, table_rules}
use Rattle.lnbd_handle.proofs.FrontLemmas.{shows, Ignores, feed_ignored, broke, took_hello, took_by_name, took_option, took_shown}
use Rattle.lnbd_handle.specs.declared.connection.Connection.{Connection}
use Rattle.lnbd_handle.specs.Runs.{doing, under, Acts, Runs}
use Rattle.lnbd_handle.specs.Seen.{state_of, machine_of}
use Rattle.lnbd_handle.specs.Announcing.{is_speaking}
use Rattle.lnbd_handle.specs.Turns.{AreAgreed, arriving, takes_options}
use Rattle.lnbd_handle.specs.Greets.{Greets, Replies, goes_on}
use Rattle.lnbd_handle.specs.Seen.{Stands, AreAhead, IsSound, writes_in, flies_in, waits_in, ends_in}
use Rattle.lnbd_handle.proofs.QueuedLemmas.{KeepsUnwritten, filed_keeps, kept_state}
use Rattle.lnbd_handle.proofs.RunLemmas.{runs_none, issued_in}

-- Where the two sides speak, the phase says what may come.
pub shows_speaking : (s : Stage) (seen : Sight) (w : ℕ → Option Waiting) (bytes : List ℕ) → is_speaking s ≡ true → shows_at s seen w bytes ≡ shows_in seen.phase seen w bytes
shows_speaking Created seen w bytes e = cc
shows_speaking Open seen w bytes e = refl
shows_speaking Disconnecting seen w bytes e = refl
shows_speaking Aborting seen w bytes e = cc
shows_speaking Closed seen w bytes e = cc
shows_speaking (Dead cause) seen w bytes e = cc

pub shows_open : (s : Stage) (seen : Sight) (w : ℕ → Option Waiting) (bytes : List ℕ) → s ≡ Open → shows_at s seen w bytes ≡ shows_in seen.phase seen w bytes
shows_open s seen w bytes e = ap (λ t. shows_at t seen w bytes) e

pub shows_options : (p : Phase) (seen : Sight) (w : ℕ → Option Waiting) (bytes : List ℕ) → takes_options p ≡ true → shows_in p seen w bytes ≡ shows_option seen bytes
shows_options phase.Greeting seen w bytes e = cc
shows_options (phase.Asked option) seen w bytes e = refl
shows_options phase.AskedByName seen w bytes e = cc
shows_options phase.OptMode seen w bytes e = refl
shows_options phase.Ready seen w bytes e = cc
shows_options (phase.Refused code) seen w bytes e = cc

pub open_stands : (stage : Stage) (at : Phase) (ended : Bool) → stage ≡ Open → ended ≡ false → Stands stage at ended
open_stands stage at ended opened e = subst (λ t. Stands t at ended) (sym opened) e

module _ {K : Type 0} where
  pub dead_ignores : (d : Doing K) (cause : Cause) → d.state.stage ≡ Dead cause → Ignores d
  dead_ignores d cause e byte = ap (λ s. shows_at s (sight d.state) (waited d.state) (byte ∷ [])) e

  -- The same is shown whatever was answered and called.
  abbrev pub ShownBy : Connection K → List ℕ → Option Shown → Type 0
  ShownBy old bytes shown = (answers : List Answer) (made : List (Call K)) → shows (doing (state_of old) answers made) bytes ≡ shown

  pub shown_open : (old : Connection K) (bytes : List ℕ) → old.stage ≡ Open → ShownBy old bytes (shows_in old.talk.phase (sight (state_of old)) (waited (state_of old)) bytes)
  shown_open old bytes opened answers made = ap (λ t. shows_at t (sight (state_of old)) (waited (state_of old)) bytes) opened

  pub shown_hello : (old : Connection K) (bytes : List ℕ) → old.stage ≡ Open → old.talk.phase ≡ phase.Greeting → ShownBy old bytes (shows_hello bytes)
  shown_hello old bytes opened greeting answers made = shown_open old bytes opened answers made ∙ ap (λ p. shows_in p (sight (state_of old)) (waited (state_of old)) bytes) greeting

  pub shown_by_name : (old : Connection K) (bytes : List ℕ) (n : Bool) → old.stage ≡ Open → old.talk.phase ≡ phase.AskedByName → n ≡ has_bit 2 old.flags → ShownBy old bytes (shows_by_name n bytes)
  shown_by_name old bytes n opened asked is answers made =
      shown_open old bytes opened answers made ∙ ap (λ p. shows_in p (sight (state_of old)) (waited (state_of old)) bytes) asked ∙ ap (λ z. shows_by_name z bytes) (sym is)

  pub shown_option : (old : Connection K) (bytes : List ℕ) → old.stage ≡ Open → takes_options old.talk.phase ≡ true → ShownBy old bytes (shows_option (sight (state_of old)) bytes)
  shown_option old bytes opened options answers made = shown_open old bytes opened answers made ∙ shows_options old.talk.phase (sight (state_of old)) (waited (state_of old)) bytes options

  pub shown_frame : (old : Connection K) (replies : Manner) (bytes : List ℕ) → is_speaking old.stage ≡ true → old.talk.phase ≡ phase.Ready → AreAgreed old replies → ShownBy old bytes (shows_by replies (waited (state_of old)) bytes)
  shown_frame old replies bytes speaking ready agreed answers made =
      shows_speaking old.stage (sight (state_of old)) (waited (state_of old)) bytes speaking ∙ ap (λ p. shows_in p (sight (state_of old)) (waited (state_of old)) bytes) ready
      ∙ sym (agreed (waited (state_of old)) bytes)

  -- What lasts.

  pub open_queue : (old : Connection K) → IsSound old → old.stage ≡ Open → old.queue.ended ≡ false
  open_queue old s opened = subst (λ t. Stands t old.talk.phase old.queue.ended) opened s.stands

  pub dead_sound : (old : Connection K) (queue : Queue) (commands : Commands K) (cause : Cause) → queue ≡ record old.queue { pieces = []; cursor = 0 } → commands.issued ≡ old.commands.issued → IsSound old →
      IsSound (record old { stage = Dead cause; queue = queue; commands = commands })
  dead_sound old queue commands cause e i s = record {
    fits = subst (λ q. AllFit (writes_in commands) q.pieces) (sym e) tt;
    ahead = subst (λ q. AreAhead (flies_in commands) old.written q.pieces) (sym e) tt;
    stands = tt;
    counted = let n : ends_in (waits (writes_in commands) queue) ≡ 0 = ap (λ q. ends_in (waits (writes_in commands) q)) e in omega (arith, n, i, s.counted);
  }

  pub waited_row : (b : Bool) (r : Option (Row K)) (command : Waiting) → waited_of b r ≡ Some command → waiting_as r ≡ Some command
  waited_row true None command e = cc
  waited_row true (Some row) command e = e
  waited_row false r command e = cc

  waited_written : (b : Bool) (r : Option (Row K)) (command : Waiting) → waited_of b r ≡ Some command → b ≡ true
  waited_written true r command e = refl
  waited_written false r command e = cc

  not_refused : (p : Phase) (d : Doing K) → goes_on p ≡ true → if_refused p d ≡ d
  not_refused phase.Greeting d e = refl
  not_refused (phase.Asked option) d e = refl
  not_refused phase.AskedByName d e = refl
  not_refused phase.OptMode d e = refl
  not_refused phase.Ready d e = refl
  not_refused (phase.Refused code) d e = cc

  pub greets_cause : (old : State K) (flags : ℕ) (cause : Cause) (new : State K) → Greets old flags (Err (fault.Cause cause)) new → (cause ≡ Broke NotFixed) × (has_bit 1 flags ≡ false) × (new ≡ old)
  greets_cause old flags (Broke breach) new g = (ap Broke g.1, g.0, g.2)
  greets_cause old flags (Refused option code) new g = absurd g
  greets_cause old flags Ended new g = absurd g
  greets_cause old flags LinkFailed new g = absurd g

module _ {K World : Type 0} (steps : World → List (Call K) → World → Type 0) where
  -- A breach at the front kills, and all behind it is ignored.
  pub turn_broken : (old middle new : Connection K) (before after : World) (rest : List ℕ) (breach : Breach) (cause : Cause) → cause ≡ Broke breach →
      ShownBy old rest (Some (Broken breach)) → state_of middle ≡ state_of old →
      Acts steps (kill cause) (state_of middle) (state_of new) before after → new.stage ≡ Dead cause → Runs steps (arriving rest) (machine_of old []) (machine_of new []) before after
  turn_broken old middle new before after rest breach cause is shown same acts dead = record {
    answers = acts.answers;
    calls = acts.calls;
    world = acts.world;
    does = λ more made.
        let d = doing (state_of old) (acts.answers ++ more) made in
        let after_it : enter (Broken breach) d ≡ doing (state_of new) more (made ++ acts.calls) =
        ap (λ k. kill k d) (sym is) ∙ ap (λ s. kill cause (doing s (acts.answers ++ more) made)) (sym same) ∙ acts.does more made in
        let stage : (enter (Broken breach) d).state.stage ≡ Dead cause = ap (λ e. e.state.stage) after_it ∙ dead in
        broke d rest breach (shown (acts.answers ++ more) made) (dead_ignores (enter (Broken breach) d) cause stage) ∙ ap fresh after_it;
  }

  -- what some bytes do that are one record
  abbrev pub Fed : Connection K → List ℕ → Shown → Type 0
  Fed old bytes found = (answers : List Answer) (made : List (Call K)) → feed (table_rules {K = K}) (fresh (doing (state_of old) answers made)) bytes ≡ fresh (enter found (doing (state_of old) answers made))

  -- a record without calls
  pub turn_quiet : ((w : World) → steps w [] w) → (old new : Connection K) (before : World) (bytes : List ℕ) (found : Shown) → Fed old bytes found →
      ((more : List Answer) (made : List (Call K)) → enter found (doing (state_of old) more made) ≡ doing (state_of new) more made) → Runs steps (arriving bytes) (machine_of old []) (machine_of new []) before before
  turn_quiet none old new before bytes found fed entered = runs_none steps none (arriving bytes) (machine_of old []) (machine_of new []) before before refl
      (λ more made. fed more made ∙ ap fresh (entered more made))

  -- a record with calls
  pub turn_acts : (old new : Connection K) (before after : World) (bytes : List ℕ) (found : Shown) → Fed old bytes found →
      Acts steps (enter found) (state_of old) (state_of new) before after → Runs steps (arriving bytes) (machine_of old []) (machine_of new []) before after
  turn_acts old new before after bytes found fed acts = record {
    answers = acts.answers;
    calls = acts.calls;
    world = acts.world;
    does = λ more made. fed (acts.answers ++ more) made ∙ ap fresh (acts.does more made);
  }

  -- a record that ends all: what is behind it is ignored
  pub turn_last : (old new : Connection K) (before after : World) (rest : List ℕ) (n : ℕ) (cause : Cause) → new.stage ≡ Dead cause →
      Runs steps (arriving (take n rest)) (machine_of old []) (machine_of new []) before after → Runs steps (arriving rest) (machine_of old []) (machine_of new []) before after
  turn_last old new before after rest n cause dead r = record {
    answers = r.answers;
    calls = r.calls;
    world = r.world;
    does = λ more made.
        ap (feed (table_rules {K = K}) (under (machine_of old []) (r.answers ++ more) made)) (sym (take-append-drop n rest))
        ∙ feed-append (table_rules {K = K}) (under (machine_of old []) (r.answers ++ more) made) (take n rest) (drop n rest)
        ∙ ap (λ h. feed (table_rules {K = K}) h (drop n rest)) (r.does more made)
        ∙ feed_ignored (doing (state_of new) more (made ++ r.calls)) (drop n rest) (dead_ignores (doing (state_of new) more (made ++ r.calls)) cause dead);
  }

  -- nothing counts
  pub turn_ignored : ((w : World) → steps w [] w) → (old : Connection K) (before : World) (rest : List ℕ) → ((byte : ℕ) → ShownBy old (byte ∷ []) (Some Ignored)) →
      Runs steps (arriving rest) (machine_of old []) (machine_of old []) before before
  turn_ignored none old before rest ignores = runs_none steps none (arriving rest) (machine_of old []) (machine_of old []) before before refl
      (λ more made. feed_ignored (doing (state_of old) more made) rest (λ byte. ignores byte more made))

  -- The hello.
  pub turn_greeted : ((w : World) → steps w [] w) → (old new : Connection K) (before : World) (rest : List ℕ) (flags : ℕ) → old.stage ≡ Open → old.talk.phase ≡ phase.Greeting → 18 ≤ length rest →
      shows_hello rest ≡ wants (has_bit 1 flags) (Broken NotFixed) (Some (Hello flags)) → has_bit 1 flags ≡ true → state_of new ≡ greeted flags (state_of old) →
      Runs steps (arriving (take 18 rest)) (machine_of old []) (machine_of new []) before before
  turn_greeted none old new before rest flags opened greeting fits shown fixed is = turn_quiet none old new before (take 18 rest) (Hello flags)
      (λ answers made. took_hello (doing (state_of old) answers made) rest flags (λ b. shown_hello old b opened greeting answers made) fits (shown ∙ wants_true _ _ _ fixed))
      (λ more made. ap (λ s. doing s more made) (sym is))

  -- The reply to EXPORT_NAME.
  pub turn_told : ((w : World) → steps w [] w) → (old : Connection K) (talk : Talk) (before : World) (rest : List ℕ) (n : Bool) (size flags : ℕ) → old.stage ≡ Open → old.talk.phase ≡ phase.AskedByName → n ≡ has_bit 2 old.flags →
      size < 2 ^ 63 → talk ≡ taking (ByName size flags) old.talk → (if n then 10 else 134) ≤ length rest → shows_by_name n rest ≡ wants (nat_lt size (2 ^ 63)) (Broken SizeTooBig) (Some (ExportReply size flags)) →
      Runs steps (arriving (take (if n then 10 else 134) rest)) (machine_of old []) (machine_of (record old { talk = talk }) []) before before
  turn_told none old talk before rest n size flags opened asked is small taken fits shown = turn_quiet none old (record old { talk = talk }) before (take (if n then 10 else 134) rest) (ExportReply size flags)
      (λ answers made. took_by_name (doing (state_of old) answers made) rest n (ExportReply size flags) (λ b. shown_by_name old b n opened asked is answers made) fits (shown ∙ wants_true _ _ _ (lt-ltb size (2 ^ 63) small)))
      (λ more made. ap (λ w. doing (record (state_of old) { talk = taking (ByName size flags) old.talk; waits = w }) more made) (append-nil (waits_in old))
      ∙ ap (λ t. doing (state_of (record old { talk = t })) more made) (sym taken))

  -- An option reply.
  pub turn_replied : ((w : World) → steps w [] w) → (old new : Connection K) (before : World) (rest : List ℕ) (size : ℕ) (told : Told) → old.stage ≡ Open → takes_options old.talk.phase ≡ true →
      size ≡ number_at 16 4 rest → 20 + size ≤ length rest → shows_option (sight (state_of old)) rest ≡ Some (OptionReply told) → state_of new ≡ turned (Replied told) (state_of old) → goes_on new.talk.phase ≡ true →
      Runs steps (arriving (take (20 + size) rest)) (machine_of old []) (machine_of new []) before before
  turn_replied none old new before rest size told opened options sized fits shown is goes = turn_quiet none old new before (take (20 + size) rest) (OptionReply told)
      (λ answers made. took_option (doing (state_of old) answers made) rest size told (λ b. shown_option old b opened options answers made) sized fits shown)
      (λ more made. ap (λ s. if_refused s.talk.phase (doing s more made)) (sym is) ∙ not_refused new.talk.phase (doing (state_of new) more made) goes)

  pub turn_refused : (old middle new : Connection K) (before after : World) (rest : List ℕ) (size : ℕ) (verdict : Option Shown) (cause : Cause) → old.stage ≡ Open → takes_options old.talk.phase ≡ true →
      size ≡ number_at 16 4 rest → 20 + size ≤ length rest → shows_option (sight (state_of old)) rest ≡ verdict → Replies (state_of old) verdict (Err (fault.Cause cause)) (state_of middle) →
      Acts steps (kill cause) (state_of middle) (state_of new) before after → new.stage ≡ Dead cause → Runs steps (arriving rest) (machine_of old []) (machine_of new []) before after
  turn_refused old middle new before after rest size verdict (Broke breach) opened options sized fits shown replies acts dead =
      turn_broken old middle new before after rest breach (Broke breach) refl (λ answers made. shown_option old rest opened options answers made ∙ shown ∙ replies.0) replies.1 acts dead
  turn_refused old middle new before after rest size verdict (Refused option code) opened options sized fits shown replies acts dead =
      turn_last old new before after rest (20 + size) (Refused option code) dead (turn_acts old new before after (take (20 + size) rest) (OptionReply replies.0)
      (λ answers made. took_option (doing (state_of old) answers made) rest size replies.0 (λ b. shown_option old b opened options answers made) sized fits (shown ∙ replies.1))
      (record {
        answers = acts.answers;
        calls = acts.calls;
        world = acts.world;
        does = λ more made.
            let d = doing (state_of middle) (acts.answers ++ more) made in
            ap (λ s. if_refused s.talk.phase (doing s (acts.answers ++ more) made)) (sym replies.2)
            ∙ ap (λ p. if_refused p d) replies.3
            ∙ ap (λ (o : ℕ). kill (Refused o code) d) (sym replies.4)
            ∙ acts.does more made;
      }))
  turn_refused old middle new before after rest size verdict Ended opened options sized fits shown replies acts dead = absurd replies
  turn_refused old middle new before after rest size verdict LinkFailed opened options sized fits shown replies acts dead = absurd replies

  -- A reply of just so many bytes to a command that waits.
  pub turn_filed : (old : Connection K) (replies : Manner) (commands : Commands K) (before after : World) (rest : List ℕ) (n : ℕ) (frame : Frame) → is_speaking old.stage ≡ true → old.talk.phase ≡ phase.Ready → AreAgreed old replies → IsSound old →
      (command : Waiting) → waited (state_of old) frame.cookie ≡ Some command → n ≤ length rest → shows_by replies (waited (state_of old)) (take n rest) ≡ Some (Reply frame) →
      ((front more : List ℕ) → rest ≡ front ++ more → length front < n → shows_by replies (waited (state_of old)) front ≡ None) →
      TakesUnder old.talk.contexts steps (file_in frame.cookie (Framed frame.content frame.last)) old.commands commands before after →
      Runs steps (arriving (take n rest)) (machine_of old []) (machine_of (record old { commands = commands }) []) before after × (commands.issued ≡ old.commands.issued) × KeepsUnwritten old.written old.commands commands
  turn_filed old replies commands before after rest n frame speaking ready agreed sound command waits fits shown fewer t =
      let written : frame.cookie ≤ old.written = leb-true frame.cookie old.written (waited_written (nat_le frame.cookie old.written) (value_at frame.cookie old.commands.rows) command waits) in
      let keeps : KeepsUnwritten old.written old.commands commands =
      filed_keeps old.written frame.cookie (Framed frame.content frame.last) old.commands commands _ written refl (ap (λ d. d.state.rows) (t.does (state_of old) refl [] [])) in (
        turn_acts old (record old { commands = commands }) before after (take n rest) (Reply frame)
            (λ answers made. took_shown (doing (state_of old) answers made) rest n (Reply frame) fits (shown_frame old replies (take n rest) speaking ready agreed answers made ∙ shown)
            (λ front more all short. shown_frame old replies front speaking ready agreed answers made ∙ fewer front more all short))
            (record { answers = t.answers; calls = t.calls; world = t.world; does = λ more made. t.does (state_of old) refl more made ∙ ap (λ s. doing s more (made ++ t.calls)) (sym (kept_state old commands keeps sound)) }),
        sym (ap (λ d. d.state.issued) (t.does (state_of old) refl [] [])) ∙ issued_in frame.cookie (Framed frame.content frame.last) _,
        keeps,
      )

  -- A simple reply.
  pub turn_reply : (old : Connection K) (replies : Manner) (commands : Commands K) (before after : World) (rest : List ℕ) (cookie error size : ℕ) (content : List ℕ) → is_speaking old.stage ≡ true → old.talk.phase ≡ phase.Ready →
      AreAgreed old replies → IsSound old → IsReply replies (waited (state_of old)) rest cookie error size → content ≡ take size (drop 16 rest) →
      TakesReply steps cookie (waiting_at cookie old.commands) error content old.commands commands before after →
      Runs steps (arriving (take (16 + size) rest)) (machine_of old []) (machine_of (record old { commands = commands }) []) before after × (commands.issued ≡ old.commands.issued) × KeepsUnwritten old.written old.commands commands
  turn_reply old replies commands before after rest cookie error size content speaking ready agreed sound r there taken =
      let row : waiting_at cookie old.commands ≡ Some r.command = waited_row (nat_le cookie old.written) (value_at cookie old.commands.rows) r.command r.waits in
      let one = subst (λ w. TakesReply steps cookie w error content old.commands commands before after) row taken in
      let t = subst (λ bytes. Takes steps (file_in cookie (Framed (simple_content r.command error bytes) true)) old.commands commands before after) there one in
      turn_filed old replies commands before after rest (16 + size) (record { cookie = cookie; content = simple_content r.command error (take size (drop 16 rest)); last = true }) speaking ready agreed sound r.command r.waits r.there r.shown r.before
      (record { answers = t.answers; calls = t.calls; world = t.world; does = λ state same more made. t.does state more made })

  -- A chunk.
  pub turn_chunk : (old : Connection K) (replies : Manner) (commands : Commands K) (before after : World) (rest : List ℕ) (chunk : Chunk) → is_speaking old.stage ≡ true → old.talk.phase ≡ phase.Ready →
      AreAgreed old replies → IsSound old → IsChunk replies (waited (state_of old)) rest chunk →
      TakesUnder old.talk.contexts steps (file_in chunk.head.cookie (Framed (told_in chunk (payload_in chunk rest)) (is_done (head_of chunk.head)))) old.commands commands before after →
      Runs steps (arriving (take chunk.size rest)) (machine_of old []) (machine_of (record old { commands = commands }) []) before after × (commands.issued ≡ old.commands.issued) × KeepsUnwritten old.written old.commands commands
  turn_chunk old replies commands before after rest chunk speaking ready agreed sound r t =
      turn_filed old replies commands before after rest chunk.size (record { cookie = chunk.head.cookie; content = told_in chunk (payload_in chunk rest); last = is_done (head_of chunk.head) }) speaking ready agreed sound r.command r.waits r.there r.shown r.before t

  -- a chunk that is shown may be filed
  pub may_file : (old : Connection K) (replies : Manner) (rest : List ℕ) (chunk : Chunk) → IsChunk replies (waited (state_of old)) rest chunk →
      takes.IsChunk (waiting_at chunk.head.cookie old.commands) (told_in chunk (payload_in chunk rest)) (is_done (head_of chunk.head))
  may_file old replies rest chunk r =
      let row : waiting_at chunk.head.cookie old.commands ≡ Some r.command = waited_row (nat_le chunk.head.cookie old.written) (value_at chunk.head.cookie old.commands.rows) r.command r.waits in
      subst (λ w. takes.IsChunk w (told_in chunk (payload_in chunk rest)) (is_done (head_of chunk.head))) (sym row) r.may_come
