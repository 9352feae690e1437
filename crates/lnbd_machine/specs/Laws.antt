-- The machine answers as the history says.
use Rattle.std.specs.Prelude.{◌≡◌, ℕ, ◌∷◌, ◌++◌, false, Some, None}
use Rattle.lnbd_history.specs.Commands.{Command}
use Rattle.lnbd_history.specs.Events.{Event, History, Start, Opt, Disconnect, Retire}
use Rattle.lnbd_history.specs.Arrivals.{shows_at}
use Rattle.lnbd_history.specs.declared.kinds.Phase.TheVariants as phase
use Rattle.lnbd_history.specs.declared.kinds.Stage.TheVariants.{Created, Open}
use Rattle.lnbd_keyed.specs.Keyed.{value_at, IsRising}
use Rattle.lnbd_stream.specs.Laws.{Steady}
use Rattle.lnbd_history.specs.Agreement as agreement
use Rattle.lnbd_history.specs.Entries as entries
use Rattle.lnbd_history.specs.History.{asked, reading, waits, is_gone}
use Rattle.lnbd_history.specs.Answers.{state_after, in_flight_after, out_after, direction_after, peeked_after, completed_after, failure_after, info_after, listed_after, opt_answer_after, log_after, strict_after}
use Rattle.lnbd_history.specs.Refusals.{refusal_after}
use Rattle.lnbd_history.specs.Laws.{Lawful}
use Rattle.lnbd_machine.specs.Machine.{Row, Machine, machine, calls, step, sight, waited, table_rules}
use Rattle.lnbd_machine.specs.Now.{state_now, in_flight_now, out_now, direction_now, peeked_now, completed_now, failure_now, info_now, refusal_now}

module _ {K : Type 0} where
  -- The machine answers what the history says.
  pub record AnswersAs (history : History K) (now : Machine K) : Type 0 where
    pub state : state_now now.known ≡ state_after history
    pub in_flight : in_flight_now now.known ≡ in_flight_after history
    pub waits : now.known.waits ≡ waits history
    pub out : out_now now.known ≡ out_after history
    pub direction : direction_now now.known ≡ direction_after history
    pub peeked : peeked_now now.known ≡ peeked_after history
    pub completed : (cookie : ℕ) → completed_now now.known cookie ≡ completed_after history cookie
    -- of a command that is not retired
    pub failure : (cookie : ℕ) → is_gone history (reading history).known.entries cookie ≡ false → failure_now now.known cookie ≡ failure_after history cookie
    pub info : info_now now.known ≡ info_after history
    pub listed : now.known.talk.listing ≡ listed_after history
    pub opt_answer : now.known.talk.answer ≡ opt_answer_after history
    pub log : now.known.notes ≡ log_after history
    -- the next cookie, and the counts of callbacks
    pub issued : now.known.issued ≡ (asked history).issued
    pub admitted : now.known.admitted ≡ (asked history).admitted
    pub freed : now.known.freed ≡ entries.frees (entries.notes (reading history).known.entries)
    pub strict : now.known.strict ≡ strict_after history
    -- the meta contexts that the next request carries, and whether structured replies are on
    pub wanted : now.known.talk.wanted ≡ agreement.contexts_now (reading history).known.turns
    pub structured : now.known.talk.structured ≡ agreement.structured (agreement.steps (reading history).known.turns)
    -- whether and why a command is refused
    pub refusal : (limit : ℕ) (command : Command K) → refusal_now limit now.known command ≡ refusal_after limit history command
    -- the bytes that are no whole record yet
    pub pending : now.pending ≡ (reading history).pending

-- For every lawful history the machine answers as the history says.
abbrev pub MachineIsRight : Type 0 → Type 0
MachineIsRight K = (limit : ℕ) (history : History K) → Lawful limit history → AnswersAs history (machine history)

-- An event makes the calls that the history has more of after it.
abbrev pub CallsAreTold : Type 0 → Type 0
CallsAreTold K = (limit : ℕ) (event : Event K) (before : History K) → Lawful limit (event ∷ before) →
    entries.calls (reading (event ∷ before)).known.entries ≡ entries.calls (reading before).known.entries ++ calls (machine before) event

-- The bytes that are held show nothing yet.
abbrev pub IsPartial : {K : Type 0} → Machine K → Type 0
IsPartial machine = shows_at machine.known.stage (sight machine.known) (waited machine.known) machine.pending ≡ None

-- what is asked of an event so that this stays so
abbrev pub Keeps : {K : Type 0} → Machine K → Event K → Type 0
Keeps machine Start = machine.known.stage ≡ Created
Keeps machine (Opt option) = (machine.known.stage ≡ Open) × (machine.known.talk.phase ≡ phase.OptMode)
Keeps machine Disconnect = machine.known.stage ≡ Open
Keeps {K} machine (Retire cookie) = IsRising machine.known.rows × ((row : Row K) → value_at cookie machine.known.rows ≡ Some row → row.flight ≡ None)
Keeps machine event = Unit {0}

-- Each event keeps the held bytes without a whole record.
abbrev pub EventsKeepPartial : Type 0 → Type 0
EventsKeepPartial K = (event : Event K) (machine : Machine K) → Keeps machine event → IsPartial machine → IsPartial (step machine event)

-- What is shown by some bytes is shown whatever follows, and no bytes show nothing.
abbrev pub TableIsSteady : Type 0 → Type 0
TableIsSteady K = Steady (table_rules {K = K})
