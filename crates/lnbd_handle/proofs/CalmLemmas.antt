-- Where simple replies alone come: what is shown then, and that it stays so while bytes arrive.
use Rattle.std.proofs.Common.{◌≡◌, ℕ, ◌+◌, ◌<◌, ◌≤◌, Bool, true, false, ◌||◌, ◌==◌, nat_lt, nat_le, if◌then◌else◌, List, [], ◌∷◌, ◌++◌, length, replicate, Option, Some, None, refl, ap, sym, ◌∙◌, subst, arith}
use Rattle.std.specs.Prelude.{is_some}
use Rattle.std.proofs.lemmas.Bool.{and_parts, eqb-true, false≢true, leb-true, ltb-true}
use Rattle.std.proofs.lemmas.List.{length-replicate}
use Rattle.lnbd_keyed.specs.Keyed.{value_at}
use Rattle.lnbd_model.specs.Kind.{is_read}
use Rattle.lnbd_model.specs.declared.breach.Breach.TheVariants.{BadReplyMagic, TooManyReplies, UnknownCookie}
use Rattle.lnbd_records.specs.Numbers.{number_at}
use Rattle.lnbd_records.specs.Limits.{max_passed}
use Rattle.lnbd_records.specs.Transmission.{simple_reply_magic, simple_head_size}
use Rattle.lnbd_stream.specs.Grammar.{once, wants}
use Rattle.lnbd_stream.proofs.Grammar.{once_some, once_there}
use Rattle.lnbd_stream.proofs.Stream.{feed_lasts}
use Rattle.lnbd_callbacks.specs.Calls.{Call}
use Rattle.lnbd_chunks.specs.Chunk.{Waiting}
use Rattle.lnbd_chunks.specs.Reply.{content_size, shows_compact, shows_reply, shows_simple}
use Rattle.lnbd_history.specs.declared.kinds.Phase.{Phase}
use Rattle.lnbd_history.specs.declared.kinds.Phase.TheVariants as phase
use Rattle.lnbd_history.specs.declared.kinds.Stage.{Stage}
use Rattle.lnbd_history.specs.declared.kinds.Stage.TheVariants.{Created, Open, Disconnecting, Aborting, Closed, Dead}
use Rattle.lnbd_history.specs.Arrivals.{Shown, Hello, OptionReply, ExportReply, Reply, Broken, Passed, Ignored, Sight, reply, shows_at, shows_frame, shows_ignored, shows_in, shows_passed}
use Rattle.lnbd_history.specs.Commands.{Flight}
use Rattle.lnbd_history.specs.Entries.{Framed}
use Rattle.lnbd_machine.specs.Machine.{Row, Machine, State, Doing, enter, file_in, kill, sight, table_rules, waited, waited_of, waiting_row}
use Rattle.lnbd_commands.specs.Flights.{has_first}
use Rattle.lnbd_commands.specs.Rows.{flight_of_row, is_read_row}
use Rattle.lnbd_arrivals.specs.Frames.{Announces}
use Rattle.lnbd_arrivals.proofs.Fronts.{sized}
use Rattle.lnbd_arrivals.specs.declared.announced.Announced.{Announced}
use Rattle.lnbd_arrivals.specs.declared.replies.Replies.{Replies}
use Rattle.lnbd_handle.specs.Runs.{Runs, under}
use Rattle.lnbd_handle.specs.Announcing.{is_speaking}
use Rattle.lnbd_handle.specs.Turns.{arriving}
use Rattle.lnbd_handle.specs.Room.{IfFlies, IsCalm, NoneHears, ReadsFit, RepliesSimply}
use Rattle.lnbd_handle.proofs.RoomLemmas.{each_at, file_each, killed_stage, seen_in}

-- what shows where no more is negotiated
abbrev pub IsLate : Shown → Type 0
IsLate (Hello flags) = ⊥
IsLate (OptionReply told) = ⊥
IsLate (ExportReply size flags) = ⊥
IsLate (Reply frame) = Unit {0}
IsLate (Broken breach) = Unit {0}
IsLate Passed = Unit {0}
IsLate Ignored = Unit {0}

is_late : (found shown : Shown) → IsLate shown → Some shown ≡ Some found → IsLate found
is_late found shown late e = let same : shown ≡ found = cc in subst IsLate same late

-- Of a read nothing is shown before all its data are there.
pub record Lacks (waits : ℕ → Option Waiting) (bytes : List ℕ) : Type 0 where
  pub magic : number_at 0 4 bytes ≡ simple_reply_magic
  pub command : Waiting
  pub there : waits (number_at 8 8 bytes) ≡ Some command
  pub read : is_read command.kind ≡ true
  pub error : number_at 4 4 bytes ≡ 0
  pub short : length bytes < simple_head_size + command.length

once_none : (n : ℕ) (bytes : List ℕ) (shown : Shown) → once n bytes (Some shown) ≡ None → length bytes < n
unfolding once
once_none n bytes shown e = go (nat_lt (length bytes) n) refl e
  where
    go : (b : Bool) → nat_lt (length bytes) n ≡ b → (if b then None else Some shown) ≡ None → length bytes < n
    go true w e = ltb-true (length bytes) n w
    go false w e = let c : Some shown ≡ None = e in cc

module _ (waits : ℕ → Option Waiting) (bytes : List ℕ) where
  simple_late : (command : Option Waiting) (found : Shown) → shows_simple Broken reply false command bytes ≡ Some found → IsLate found
  unfolding shows_simple wants
  simple_late None found e = is_late found (Broken UnknownCookie) tt e
  simple_late (Some command) found e = is_late found _ tt (once_some _ bytes _ found e).1

  simple_lacks : (command : Option Waiting) → shows_simple Broken reply false command bytes ≡ None → (known : Waiting) × (command ≡ Some known) × (length bytes < simple_head_size + content_size known (number_at 4 4 bytes))
  unfolding shows_simple wants
  simple_lacks None e = let c : Some (Broken UnknownCookie) ≡ None = e in absurd (none_some (sym c))
    where
      none_some : None ≡ Some (Broken UnknownCookie) → ⊥
      none_some e = cc
  simple_lacks (Some command) e = (command, refl, once_none _ bytes _ e)

  compact_late : (found : Shown) → shows_compact Broken reply false waits bytes ≡ Some found → IsLate found
  unfolding shows_compact wants
  compact_late found e = go (number_at 0 4 bytes == simple_reply_magic) _ e
    where
      go : (b : Bool) (other : Option Shown) → (if b || false then (if b then once simple_head_size bytes (shows_simple Broken reply false (waits (number_at 8 8 bytes)) bytes) else other) else Some (Broken BadReplyMagic)) ≡ Some found → IsLate found
      go true other e = simple_late _ found (once_some simple_head_size bytes _ found e).1
      go false other e = is_late found (Broken BadReplyMagic) tt e

  frame_late : (found : Shown) → shows_frame false false waits bytes ≡ Some found → IsLate found
  unfolding shows_frame shows_reply
  frame_late found e = compact_late found (once_some 4 bytes _ found e).1

  compact_lacks : simple_head_size ≤ length bytes → shows_compact Broken reply false waits bytes ≡ None → Lacks waits bytes
  unfolding shows_compact wants
  compact_lacks long e = go (number_at 0 4 bytes == simple_reply_magic) refl _ e
    where
      go : (b : Bool) → (number_at 0 4 bytes == simple_reply_magic) ≡ b → (other : Option Shown) → (if b || false then (if b then once simple_head_size bytes (shows_simple Broken reply false (waits (number_at 8 8 bytes)) bytes) else other) else Some (Broken BadReplyMagic)) ≡ None → Lacks waits bytes
      go true w other e =
          let s = simple_lacks (waits (number_at 8 8 bytes)) (sym (once_there simple_head_size bytes _ long) ∙ e) in
          let r = sized s.0 (number_at 4 4 bytes) (content_size s.0 (number_at 4 4 bytes)) refl (omega (arith, s.2, long)) in
          record { magic = eqb-true _ _ w; command = s.0; there = s.1; read = r.1; error = r.0; short = omega (arith, s.2, r.2) }
      go false w other e = let c : Some (Broken BadReplyMagic) ≡ None = e in absurd (none_some (sym c))
        where
          none_some : None ≡ Some (Broken BadReplyMagic) → ⊥
          none_some e = cc

  pub frame_lacks : simple_head_size ≤ length bytes → shows_frame false false waits bytes ≡ None → Lacks waits bytes
  unfolding shows_frame shows_reply
  frame_lacks long e = compact_lacks long (sym (once_there 4 bytes _ (omega (arith, long))) ∙ e)

-- Stages.

passed_late : (passed : ℕ) (bytes : List ℕ) (found : Shown) → shows_passed passed bytes ≡ Some found → IsLate found
passed_late passed [] found e = absurd (none_some e)
  where
    none_some : None ≡ Some found → ⊥
    none_some e = cc
passed_late passed (byte ∷ bytes) found e = go (nat_lt passed max_passed) e
  where
    go : (b : Bool) → (if b then Some Passed else Some (Broken TooManyReplies)) ≡ Some found → IsLate found
    go true e = is_late found Passed tt e
    go false e = is_late found (Broken TooManyReplies) tt e

ignored_late : (bytes : List ℕ) (found : Shown) → shows_ignored bytes ≡ Some found → IsLate found
ignored_late [] found e = absurd (none_some e)
  where
    none_some : None ≡ Some found → ⊥
    none_some e = cc
ignored_late (byte ∷ bytes) found e = is_late found Ignored tt e

in_frame : (p : Phase) (structured extended : Bool) (seen : Sight) (waits : ℕ → Option Waiting) (bytes : List ℕ) → p ≡ phase.Ready → seen.structured ≡ false → seen.extended ≡ false → shows_in p seen waits bytes ≡ shows_frame false false waits bytes
in_frame p structured extended seen waits bytes ready compact short =
    ap (λ q. shows_in q seen waits bytes) ready ∙ ap (λ (b : Bool). shows_frame b seen.extended waits bytes) compact ∙ ap (λ (b : Bool). shows_frame false b waits bytes) short

-- where simple replies alone come
pub simple_shows : (stage : Stage) (seen : Sight) (waits : ℕ → Option Waiting) (bytes : List ℕ) → RepliesSimply stage seen.phase seen.structured seen.extended → shows_at stage seen waits bytes ≡ shows_frame false false waits bytes
simple_shows Created seen waits bytes s = absurd (false≢true s.speaking)
simple_shows Open seen waits bytes s = in_frame seen.phase seen.structured seen.extended seen waits bytes s.ready s.compact s.short
simple_shows Disconnecting seen waits bytes s = in_frame seen.phase seen.structured seen.extended seen waits bytes s.ready s.compact s.short
simple_shows Aborting seen waits bytes s = absurd (false≢true s.speaking)
simple_shows Closed seen waits bytes s = absurd (false≢true s.speaking)
simple_shows (Dead cause) seen waits bytes s = absurd (false≢true s.speaking)

late_at : (stage : Stage) (seen : Sight) (waits : ℕ → Option Waiting) (bytes : List ℕ) (found : Shown) → (is_speaking stage ≡ true → RepliesSimply stage seen.phase seen.structured seen.extended) → shows_at stage seen waits bytes ≡ Some found → IsLate found
late_at Created seen waits bytes found s e = ignored_late bytes found e
late_at Open seen waits bytes found s e = frame_late waits bytes found (sym (simple_shows Open seen waits bytes (s refl)) ∙ e)
late_at Disconnecting seen waits bytes found s e = frame_late waits bytes found (sym (simple_shows Disconnecting seen waits bytes (s refl)) ∙ e)
late_at Aborting seen waits bytes found s e = passed_late seen.passed bytes found e
late_at Closed seen waits bytes found s e = ignored_late bytes found e
late_at (Dead cause) seen waits bytes found s e = ignored_late bytes found e

module _ {K : Type 0} where
  -- It lasts.

  dead_calm : (state : State K) (stage : Stage) → state.stage ≡ stage → is_speaking stage ≡ false → IsCalm state
  dead_calm state stage is over speaking = absurd (false≢true (sym over ∙ ap is_speaking (sym is) ∙ speaking))

  enter_calm : (found : Shown) (d : Doing K) → IsLate found → IsCalm d.state → IsCalm (enter found d).state
  enter_calm (Hello flags) d late calm = absurd late
  enter_calm (OptionReply told) d late calm = absurd late
  enter_calm (ExportReply size flags) d late calm = absurd late
  enter_calm (Reply frame) d late calm = λ speaking.
      let item = Framed frame.content frame.last in
      let seen = seen_in frame.cookie item d in
      let quiet = calm (sym (ap is_speaking seen.0) ∙ speaking) in (
        subst (λ t. RepliesSimply (file_in frame.cookie item d).state.stage t.phase t.structured t.extended) (sym seen.1) (subst (λ s. RepliesSimply s d.state.talk.phase d.state.talk.structured d.state.talk.extended) (sym seen.0) quiet.0),
        file_each _ frame.cookie item d quiet.1,
      )
  enter_calm (Broken breach) d late calm = dead_calm (kill _ d).state (Dead _) (killed_stage _ d) refl
  enter_calm Passed d late calm = calm
  enter_calm Ignored d late calm = calm

  calm_lasts : (d : Doing K) (bytes : List ℕ) (found : Shown) → IsCalm d.state → shows_at d.state.stage (sight d.state) (waited d.state) bytes ≡ Some found → IsCalm (enter found d).state
  calm_lasts d bytes found calm e = enter_calm found d (late_at d.state.stage (sight d.state) (waited d.state) bytes found (λ speaking. (calm speaking).0) e) calm

  module _ {World : Type 0} (steps : World → List (Call K) → World → Type 0) where
    pub runs_calm : (bytes : List ℕ) (old new : Machine K) (before after : World) → Runs steps (arriving bytes) old new before after → IsCalm old.known → IsCalm new.known
    runs_calm bytes old new before after r calm =
        subst (λ h. IsCalm h.known.state) (r.does [] [])
        (feed_lasts (table_rules {K = K}) (λ d. IsCalm d.state) (λ d shown found p e. calm_lasts d shown found p e) (under old (r.answers ++ []) []) bytes calm)

  -- What waits is in flight.
  waits_fit : (size : ℕ) (b : Bool) (row : Option (Row K)) (rows : List (ℕ × Row K)) (cookie : ℕ) (command : Waiting) → ReadsFit size rows → value_at cookie rows ≡ row → waited_of b row ≡ Some command → is_read command.kind ≡ true → command.length ≤ size
  waits_fit size true None rows cookie command fits at e read = absurd (let c : None ≡ Some command = e in none_some c)
    where
      none_some : None ≡ Some command → ⊥
      none_some e = cc
  waits_fit size true (Some row) rows cookie command fits at e read = go row.flight (each_at _ cookie row rows fits at) e
    where
      go : (f : Option (Flight K)) → IfFlies (λ kind length flight. is_read kind ≡ true → length ≤ size) row.kind row.length f → waiting_row f row ≡ Some command → command.length ≤ size
      go None here e = absurd (let c : None ≡ Some command = e in none_some c)
        where
          none_some : None ≡ Some command → ⊥
          none_some e = cc
      go (Some flight) here e =
          let is : record { kind = row.kind; offset = row.offset; length = row.length; faults = row.facts.faults } ≡ command = cc in
          let long : row.length ≡ command.length = ap (λ (w : Waiting). w.length) is in
          let low = here (ap (λ (w : Waiting). is_read w.kind) is ∙ read) in omega (arith, long, low)
  waits_fit size false row rows cookie command fits at e read = absurd (let c : None ≡ Some command = e in none_some c)
    where
      none_some : None ≡ Some command → ⊥
      none_some e = cc

  pub waited_fits : (size : ℕ) (state : State K) (cookie : ℕ) (command : Waiting) → ReadsFit size state.rows → waited state cookie ≡ Some command → is_read command.kind ≡ true → command.length ≤ size
  waited_fits size state cookie command fits e read = waits_fit size (nat_le cookie state.written) (value_at cookie state.rows) state.rows cookie command fits refl e read

  -- Data that are announced to a command that waits.
  pub announces_fit : (size : ℕ) (state : State K) (replies : Replies) (front : List ℕ) (announced : Announced) → Announces replies (waited state) front announced → ReadsFit size state.rows → announced.size ≤ size
  announces_fit size state replies front announced a fits =
      let long : length (replicate {A = ℕ} announced.size 0) ≡ announced.size = length-replicate announced.size 0 in
      let r = a.whole (replicate announced.size 0) long in
      let inside = r.may_come.inside in
      let parts = and_parts (nat_le r.command.offset announced.offset) (nat_le (announced.offset + length (replicate {A = ℕ} announced.size 0)) (r.command.offset + r.command.length)) inside.1 in
      let low = leb-true r.command.offset announced.offset parts.0 in
      let high = leb-true (announced.offset + length (replicate {A = ℕ} announced.size 0)) (r.command.offset + r.command.length) parts.1 in
      let most = waited_fits size state announced.cookie r.command fits r.waits inside.0 in
      omega (arith, low, high, most, long)

  -- Where no command in flight has a chunk callback, the read of no cookie has one.
  pub first_none : (row : Option (Row K)) (rows : List (ℕ × Row K)) (cookie : ℕ) → value_at cookie rows ≡ row → NoneHears rows → is_read_row row ≡ true → has_first (flight_of_row row) ≡ true → ⊥
  first_none None rows cookie at none read has = false≢true has
  first_none (Some row) rows cookie at none read has = go row.flight (each_at _ cookie row rows none at) has
    where
      go : (f : Option (Flight K)) → IfFlies (λ kind length flight. is_read kind ≡ true → flight.first ≡ None) row.kind row.length f → has_first f ≡ true → ⊥
      go None here has = false≢true has
      go (Some flight) here has = false≢true (sym (ap is_some (here read)) ∙ has)
