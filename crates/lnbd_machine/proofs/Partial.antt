-- The bytes that are held show nothing yet.
use Rattle.std.proofs.Common.{◌≡◌, ℕ, ◌+◌, Bool, true, false, cond, List, [], ◌∷◌, ◌++◌, drop, length, Option, Some, None, refl, ap, sym, ◌∙◌, arith, ◌==◌, ◌⊎◌, inl, inr, nat_le, nat_lt, if◌then◌else◌}
use Rattle.std.proofs.lemmas.Bool.{leb-true, le-leb, cases_eq}
use Rattle.lnbd_model.specs.declared.breach.Breach.TheVariants.{BadOptionMagic, WrongOption}
use Rattle.lnbd_records.specs.Numbers.{number_at}
use Rattle.lnbd_records.specs.Handshake.{option_reply_magic}
use Rattle.lnbd_records.specs.Transmission.{simple_reply_magic}
use Rattle.lnbd_keyed.specs.Keyed.{value_at, without, IsRising}
use Rattle.lnbd_keyed.proofs.LookupLaws.{value_at_left, value_at_without_other}
use Rattle.lnbd_stream.specs.Grammar.{once, wants}
use Rattle.lnbd_stream.proofs.Stream.{feed_partial}
use Rattle.lnbd_history.specs.declared.kinds.Phase.{Phase}
use Rattle.lnbd_history.specs.declared.kinds.Phase.TheVariants as phase
use Rattle.lnbd_history.specs.declared.kinds.Stage.{Stage}
use Rattle.lnbd_history.specs.declared.kinds.Stage.TheVariants.{Created, Open, Disconnecting, Aborting, Closed, Dead}
use Rattle.lnbd_chunks.specs.Chunk.{Head}
use Rattle.lnbd_chunks.specs.Reply.{shows_simple, shows_chunk_for, shows_compact, shows_extended, shows_reply, chunk_head_in, extended_head_in}
use Rattle.lnbd_history.specs.Arrivals.{Shown, Broken, Waiting, Sight, is_asked, reply, shows_option, shows_frame, shows_ignored, shows_in, shows_at}
use Rattle.lnbd_history.specs.Commands.{Command, request_of}
use Rattle.lnbd_history.specs.Events.{Setting, Name, Context, Structured, Extended, OptMode, Answer, Set, StrictMode, Start, Opt, Abort, Issue, Refuse, Disconnect, Wrote, Arrived, End, LinkFailed, Retire, ClearLog, Close}
use Rattle.lnbd_history.specs.Outgoing.{ended}
use Rattle.lnbd_history.proofs.Steady.{stays_at, none_at}
use Rattle.lnbd_machine.specs.Laws.{IsPartial, EventsKeepPartial, TableIsSteady}
use Rattle.lnbd_machine.specs.Machine.{Row, State, Machine, Doing, new_row, sight, waited, waited_of, waiting_row, table_rules, begin, course, step, issued}
use Rattle.lnbd_machine.specs.Machine as m

pub table_steady : {K : Type 0} → TableIsSteady K
table_steady = record {
  stays = λ doing bytes more found e. stays_at doing.state.stage (sight doing.state) (waited doing.state) bytes more found e;
  none = λ doing. none_at doing.state.stage (sight doing.state) (waited doing.state);
}

-- What is waited for stays so.

Grows : (ℕ → Option Waiting) → (ℕ → Option Waiting) → Type 0
Grows early late = (c : ℕ) (command : Waiting) → early c ≡ Some command → late c ≡ Some command

-- what shows nothing early shows nothing late
Fades : Option Shown → Option Shown → Type 0
Fades early late = early ≡ None → late ≡ None

fades_if : (test : Bool) (a b x y : Option Shown) → Fades a x → Fades b y → Fades (if test then a else b) (if test then x else y)
fades_if true a b x y first second = first
fades_if false a b x y first second = second

fades_once : (n : ℕ) (bytes : List ℕ) (x y : Option Shown) → Fades x y → Fades (once n bytes x) (once n bytes y)
unfolding once Fades
fades_once n bytes x y rest = fades_if (nat_lt (length bytes) n) None x None y (λ e. refl) rest

fades_wants : (test : Bool) (fault : Shown) (x y : Option Shown) → Fades x y → Fades (wants test fault x) (wants test fault y)
unfolding wants Fades
fades_wants test fault x y rest = fades_if test x (Some fault) y (Some fault) rest (λ e. e)

-- A command that isn't known is a breach, so where nothing is shown it was known, or isn't looked up yet.
simple_fades : (structured : Bool) (early late : Option Waiting) (bytes : List ℕ) → ((command : Waiting) → early ≡ Some command → late ≡ Some command) →
    Fades (shows_simple Broken reply structured early bytes) (shows_simple Broken reply structured late bytes)
unfolding Fades shows_simple
simple_fades structured None late bytes grows e = cc
simple_fades structured (Some command) late bytes grows e = ap (λ o. shows_simple Broken reply structured o bytes) (grows command refl) ∙ e

chunk_fades : (extended : Bool) (early late : Option Waiting) (cookie : ℕ) (head : Head) (payload : List ℕ) → ((command : Waiting) → early ≡ Some command → late ≡ Some command) →
    Fades (shows_chunk_for Broken reply extended early cookie head payload) (shows_chunk_for Broken reply extended late cookie head payload)
unfolding Fades shows_chunk_for
chunk_fades extended None late cookie head payload grows e = cc
chunk_fades extended (Some command) late cookie head payload grows e = ap (λ o. shows_chunk_for Broken reply extended o cookie head payload) (grows command refl) ∙ e

module _ (early late : ℕ → Option Waiting) (bytes : List ℕ) (grows : Grows early late) where
  compact_fades : (structured : Bool) → Fades (shows_compact Broken reply structured early bytes) (shows_compact Broken reply structured late bytes)
  unfolding shows_compact Grows
  compact_fades structured = fades_wants _ _ _ _ (fades_if (number_at 0 4 bytes == simple_reply_magic) _ _ _ _
      (fades_once _ _ _ _ (simple_fades structured (early (number_at 8 8 bytes)) (late (number_at 8 8 bytes)) bytes (grows (number_at 8 8 bytes))))
      (fades_once _ _ _ _ (chunk_fades false (early (number_at 8 8 bytes)) (late (number_at 8 8 bytes)) (number_at 8 8 bytes) (chunk_head_in bytes) (drop 20 bytes) (grows (number_at 8 8 bytes)))))

  extended_fades : Fades (shows_extended Broken reply early bytes) (shows_extended Broken reply late bytes)
  unfolding shows_extended Grows
  extended_fades = fades_wants _ _ _ _ (fades_wants _ _ _ _ (fades_once _ _ _ _
      (chunk_fades true (early (number_at 8 8 bytes)) (late (number_at 8 8 bytes)) (number_at 8 8 bytes) (extended_head_in bytes) (drop 32 bytes) (grows (number_at 8 8 bytes)))))

frame_partial : (structured extended : Bool) (early late : ℕ → Option Waiting) (bytes : List ℕ) → Grows early late → shows_frame structured extended early bytes ≡ None → shows_frame structured extended late bytes ≡ None
unfolding Fades shows_frame shows_reply
frame_partial structured extended early late bytes grows =
    fades_once 4 bytes _ _ (fades_if extended _ _ _ _ (extended_fades early late bytes grows) (compact_fades early late bytes grows structured))

in_partial : (p : Phase) (sight : Sight) (early late : ℕ → Option Waiting) (bytes : List ℕ) → Grows early late → shows_in p sight early bytes ≡ None → shows_in p sight late bytes ≡ None
in_partial phase.Greeting sight early late bytes grows e = e
in_partial (phase.Asked option) sight early late bytes grows e = e
in_partial phase.OptMode sight early late bytes grows e = e
in_partial phase.AskedByName sight early late bytes grows e = e
in_partial phase.Ready sight early late bytes grows e = frame_partial sight.structured sight.extended early late bytes grows e
in_partial (phase.Refused code) sight early late bytes grows e = e

shows_partial : (s : Stage) (sight : Sight) (early late : ℕ → Option Waiting) (bytes : List ℕ) → Grows early late → shows_at s sight early bytes ≡ None → shows_at s sight late bytes ≡ None
shows_partial Created sight early late bytes grows e = e
shows_partial Open sight early late bytes grows e = in_partial sight.phase sight early late bytes grows e
shows_partial Disconnecting sight early late bytes grows e = in_partial sight.phase sight early late bytes grows e
shows_partial Aborting sight early late bytes grows e = e
shows_partial Closed sight early late bytes grows e = e
shows_partial (Dead cause) sight early late bytes grows e = e

ignored_none : (bytes : List ℕ) → shows_ignored bytes ≡ None → bytes ≡ []
ignored_none [] e = refl
ignored_none (b ∷ bytes) e = cc

-- an option that is asked where none was unanswered: what is held is shorter than a head
option_partial : (old new : Sight) (bytes : List ℕ) → old.phase ≡ phase.OptMode → shows_option old bytes ≡ None → shows_option new bytes ≡ None
unfolding shows_option once wants
option_partial old new bytes is =
    go (nat_lt (length bytes) 8) (number_at 0 8 bytes == option_reply_magic) (nat_lt (length bytes) 20) (is_asked (number_at 8 4 bytes) old.phase) (ap (is_asked (number_at 8 4 bytes)) is) _ _
  where
    go : (a b c d : Bool) → d ≡ false → (x y : Option Shown) →
        cond a None (cond b (cond c None (cond d x (Some (Broken WrongOption)))) (Some (Broken BadOptionMagic))) ≡ None →
        cond a None (cond b (cond c None y) (Some (Broken BadOptionMagic))) ≡ None
    go true b c d f x y e = refl
    go false false c d f x y e = cc
    go false true true d f x y e = refl
    go false true false true f x y e = cc
    go false true false false f x y e = cc

option_same : (stage : Stage) (sight : Sight) (bytes : List ℕ) → shows_option sight bytes ≡ shows_option (record sight { stage = stage }) bytes
unfolding shows_option
option_same stage sight bytes = refl

created_none : (s : Stage) (seen : Sight) (w : ℕ → Option Waiting) (bytes : List ℕ) → s ≡ Created → shows_at s seen w bytes ≡ None → bytes ≡ []
created_none s seen w bytes is e = ignored_none bytes (sym (ap (λ t. shows_at t seen w bytes) is) ∙ e)

module _ {K : Type 0} where
  -- The waiting commands.

  waiting_left : (b : Bool) (rows : List (ℕ × Row K)) (c : ℕ) (new : ℕ × Row K) (command : Waiting) → waited_of b (value_at c rows) ≡ Some command → waited_of b (value_at c (rows ++ new ∷ [])) ≡ Some command
  waiting_left b rows c new command e = go b (value_at c rows) refl e
    where
      go : (b : Bool) (r : Option (Row K)) → value_at c rows ≡ r → waited_of b r ≡ Some command → waited_of b (value_at c (rows ++ new ∷ [])) ≡ Some command
      go false r w e = cc
      go true None w e = cc
      go true (Some row) w e = ap (waited_of true) (value_at_left c row rows (new ∷ []) w) ∙ e

  waiting_later : (b d : Bool) (r : Option (Row K)) (command : Waiting) → (b ≡ true → d ≡ true) → waited_of b r ≡ Some command → waited_of d r ≡ Some command
  waiting_later false d r command more e = cc
  waiting_later true d r command more e = ap (λ (x : Bool). waited_of x r) (more refl) ∙ e

  issued_grows : (command : Command K) (state : State K) → Grows (waited state) (waited (issued command state))
  unfolding Grows
  issued_grows command state c w e = waiting_left (nat_le c state.written) state.rows c (state.issued + 1, new_row (request_of state.admitted command)) w e

  wrote_grows : (n : ℕ) (state : State K) → Grows (waited state) (waited (m.writing n state))
  unfolding Grows
  wrote_grows n state c w e = waiting_later (nat_le c state.written) (nat_le c (state.written + ended state.waits n)) (value_at c state.rows) w
      (λ f. le-leb c (state.written + ended state.waits n) (let low = leb-true c state.written f in omega (arith, low))) e

  retired_grows : (cookie : ℕ) (state : State K) → IsRising state.rows → ((row : Row K) → value_at cookie state.rows ≡ Some row → row.flight ≡ None) → Grows (waited state) (waited (m.retired cookie state))
  unfolding Grows
  retired_grows cookie state rising idle c w e = go (cases_eq c cookie)
    where
      none : (b : Bool) (r : Option (Row K)) → value_at cookie state.rows ≡ r → waited_of b r ≡ Some w → ⊥
      none false r v f = cc
      none true None v f = cc
      none true (Some row) v f = let bad : None ≡ Some w = sym (ap (λ fl. waiting_row fl row) (idle row v)) ∙ f in cc

      go : (c ≡ cookie) ⊎ (c ≡ cookie → ⊥) → waited_of (nat_le c state.written) (value_at c (without cookie state.rows)) ≡ Some w
      go (inl is) = absurd (none (nat_le c state.written) (value_at cookie state.rows) refl (sym (ap (λ (x : ℕ). waited_of (nat_le c state.written) (value_at x state.rows)) is) ∙ e))
      go (inr other) = ap (waited_of (nat_le c state.written)) (value_at_without_other c cookie state.rows other) ∙ e

  -- The events.

  set_partial : (setting : Setting) (machine : Machine K) → IsPartial machine → IsPartial (step machine (Set setting))
  set_partial (Name name) machine e = e
  set_partial (Context name) machine e = e
  set_partial (Structured on) machine e = e
  set_partial (Extended on) machine e = e
  set_partial (OptMode on) machine e = e

  start_partial : (machine : Machine K) → machine.known.stage ≡ Created → IsPartial machine → IsPartial (step machine Start)
  start_partial machine is e =
      let none : machine.pending ≡ [] = created_none machine.known.stage (sight machine.known) (waited machine.known) machine.pending is e in
      ap (shows_at Open (sight (record machine.known { stage = Open })) (waited (record machine.known { stage = Open }))) none ∙ none_at Open (sight (record machine.known { stage = Open })) (waited (record machine.known { stage = Open }))

  opt_partial : (option : ℕ) (machine : Machine K) → machine.known.stage ≡ Open → machine.known.talk.phase ≡ phase.OptMode → IsPartial machine → IsPartial (step machine (Opt option))
  opt_partial option machine is opt e =
      let new = (step machine (Opt option)).known in
      let held : shows_option (sight machine.known) machine.pending ≡ None =
      sym (ap (λ p. shows_in p (sight machine.known) (waited machine.known) machine.pending) opt) ∙ sym (ap (λ t. shows_at t (sight machine.known) (waited machine.known) machine.pending) is) ∙ e in
      ap (λ t. shows_at t (sight new) (waited new) machine.pending) is ∙ option_partial (sight machine.known) (sight new) machine.pending opt held

  disconnect_partial : (machine : Machine K) → machine.known.stage ≡ Open → IsPartial machine → IsPartial (step machine Disconnect)
  disconnect_partial machine is e = same (sym (ap (λ t. shows_at t (sight machine.known) (waited machine.known) machine.pending) is) ∙ e)
    where
      in_same : (p : Phase) (old new : Sight) (w : ℕ → Option Waiting) (bytes : List ℕ) → old.no_zeroes ≡ new.no_zeroes → old.structured ≡ new.structured → old.extended ≡ new.extended → (shows_option old bytes ≡ shows_option new bytes) → shows_in p old w bytes ≡ None → shows_in p new w bytes ≡ None
      in_same phase.Greeting old new w bytes z s x o e = e
      in_same (phase.Asked option) old new w bytes z s x o e = sym o ∙ e
      in_same phase.OptMode old new w bytes z s x o e = sym o ∙ e
      in_same phase.AskedByName old new w bytes z s x o e = sym (ap (λ (x : Bool). shows_in phase.AskedByName (record new { no_zeroes = x }) w bytes) z) ∙ e
      in_same phase.Ready old new w bytes z s x o e = sym (ap (λ (b : Bool). shows_frame b old.extended w bytes) s ∙ ap (λ (b : Bool). shows_frame new.structured b w bytes) x) ∙ e
      in_same (phase.Refused code) old new w bytes z s x o e = e

      same : shows_in machine.known.talk.phase (sight machine.known) (waited machine.known) machine.pending ≡ None → IsPartial (step machine Disconnect)
      same e = in_same machine.known.talk.phase (sight machine.known) (sight (step machine Disconnect).known) (waited machine.known) machine.pending refl refl refl (option_same Disconnecting (sight machine.known) machine.pending) e

  none_held : (state : State K) → shows_at state.stage (sight state) (waited state) [] ≡ None
  none_held state = none_at state.stage (sight state) (waited state)

  end_partial : (s : Stage) (answers : List Answer) (machine : Machine K) → IsPartial machine → IsPartial (record { known = (m.ended_at s (begin answers machine)).known.state; pending = (m.ended_at s (begin answers machine)).pending })
  end_partial Open answers machine e = none_held (m.ended_at Open (begin answers machine)).known.state
  end_partial Disconnecting answers machine e = none_held (m.ended_at Disconnecting (begin answers machine)).known.state
  end_partial Aborting answers machine e = none_held (m.ended_at Aborting (begin answers machine)).known.state
  end_partial Created answers machine e = e
  end_partial Closed answers machine e = e
  end_partial (Dead cause) answers machine e = e

  fail_partial : (s : Stage) (answers : List Answer) (machine : Machine K) → IsPartial machine → IsPartial (record { known = (m.failed_at s (begin answers machine)).known.state; pending = (m.failed_at s (begin answers machine)).pending })
  fail_partial Open answers machine e = none_held (m.failed_at Open (begin answers machine)).known.state
  fail_partial Disconnecting answers machine e = none_held (m.failed_at Disconnecting (begin answers machine)).known.state
  fail_partial Aborting answers machine e = none_held (m.failed_at Aborting (begin answers machine)).known.state
  fail_partial Created answers machine e = e
  fail_partial Closed answers machine e = e
  fail_partial (Dead cause) answers machine e = e

  pub step_partial : EventsKeepPartial K
  step_partial (Set setting) machine keeps e = set_partial setting machine e
  step_partial (StrictMode bits) machine keeps e = e
  step_partial Start machine keeps e = start_partial machine keeps e
  step_partial (Opt option) machine keeps e = opt_partial option machine keeps.0 keeps.1 e
  step_partial Abort machine keeps e = none_held (step machine Abort).known
  step_partial (Issue command) machine keeps e = shows_partial machine.known.stage (sight machine.known) (waited machine.known) (waited (issued command machine.known)) machine.pending (issued_grows command machine.known) e
  step_partial (Refuse command why) machine keeps e = e
  step_partial Disconnect machine keeps e = disconnect_partial machine keeps e
  step_partial (Wrote n) machine keeps e = shows_partial machine.known.stage (sight machine.known) (waited machine.known) (waited (m.writing n machine.known)) machine.pending (wrote_grows n machine.known) e
  step_partial (Arrived bytes answers) machine keeps e = feed_partial (table_rules {K = K}) (λ doing. none_at doing.state.stage (sight doing.state) (waited doing.state)) (begin answers machine) bytes e
  step_partial (End answers) machine keeps e = end_partial machine.known.stage answers machine e
  step_partial (LinkFailed answers) machine keeps e = fail_partial machine.known.stage answers machine e
  step_partial (Retire cookie) machine keeps e = shows_partial machine.known.stage (sight machine.known) (waited machine.known) (waited (m.retired cookie machine.known)) machine.pending (retired_grows cookie machine.known keeps.0 keeps.1) e
  step_partial ClearLog machine keeps e = e
  step_partial Close machine keeps e = none_held (step machine Close).known
