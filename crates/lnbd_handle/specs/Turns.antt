-- What is done with the record at the front of what arrived.
use Rattle.std.specs.Prelude.{◌≡◌, ℕ, ◌<◌, ◌≤◌, Bool, true, false, List, [], length, take, drop, Option, None, Result, Ok, Err}
use Rattle.lnbd_callbacks.specs.Calls.{Call}
use Rattle.lnbd_stream.specs.Stream.{Held, feed}
use Rattle.lnbd_history.specs.Arrivals.{Waiting, shows_at, shows_frame}
use Rattle.lnbd_machine.specs.Machine.{State, Doing, table_rules, sight, waited}
use Rattle.lnbd_arrivals.specs.declared.announced.Announced.{Announced}
use Rattle.lnbd_arrivals.specs.declared.replies.Replies.{Replies}
use Rattle.lnbd_arrivals.specs.declared.replies.Replies.TheVariants.{Simple}
use Rattle.lnbd_arrivals.specs.Frames.{Announces, replies_by, shows_by}
use Rattle.lnbd_handle.specs.declared.connection.Connection.{Connection}
use Rattle.lnbd_handle.specs.declared.kinds.Turn.{Turn}
use Rattle.lnbd_handle.specs.declared.kinds.Turn.TheVariants as turn
use Rattle.lnbd_handle.specs.declared.kinds.Holding.{Holding}
use Rattle.lnbd_handle.specs.declared.kinds.Holding.TheVariants as holding
use Rattle.lnbd_handle.specs.declared.kinds.Taken.{Taken}
use Rattle.lnbd_handle.specs.declared.kinds.Short.{Short}
use Rattle.lnbd_history.specs.declared.kinds.Phase.{Phase}
use Rattle.lnbd_history.specs.declared.kinds.Phase.TheVariants as phase
use Rattle.lnbd_handle.specs.Announcing.{announced_by_front, is_speaking}
use Rattle.lnbd_handle.specs.Runs.{Runs}
use Rattle.lnbd_handle.specs.Seen.{state_of, machine_of}

-- an option reply may come
abbrev pub takes_options : Phase → Bool
takes_options phase.Greeting = false
takes_options (phase.Asked option) = true
takes_options phase.AskedByName = false
takes_options phase.OptMode = true
takes_options phase.Ready = false
takes_options (phase.Refused code) = false

module _ {K : Type 0} where
  -- these bytes arrive
  abbrev pub arriving : List ℕ → Held (Doing K) → Held (Doing K)
  arriving bytes held = feed table_rules held bytes

  -- these bytes show nothing yet
  abbrev pub ShowsNothing : State K → List ℕ → Type 0
  ShowsNothing state bytes = shows_at state.stage (sight state) (waited state) bytes ≡ None

  -- The server replies so, by what is agreed.
  abbrev pub AreAgreed : Connection K → Replies → Type 0
  AreAgreed c replies = (waits : ℕ → Option Waiting) (bytes : List ℕ) → shows_by replies waits bytes ≡ shows_frame c.talk.structured c.talk.extended waits bytes

  -- Where replies may come, these bytes are the front of one that brings data to its command.
  pub record Brings (c : Connection K) (front : List ℕ) (announced : Announced) : Type 0 where
    pub speaking : is_speaking c.stage ≡ true
    pub ready : c.talk.phase ≡ phase.Ready
    pub replies : Replies
    pub agreed : AreAgreed c replies
    pub is : replies ≡ replies_by c.talk.structured c.talk.extended
    pub simple : c.talk.structured ≡ false → c.talk.extended ≡ false → replies ≡ Simple
    pub announces : Announces replies (waited (state_of c)) front announced

  -- What one turn does with the bytes in front of it: they show nothing yet, and it is told what their front announces; so many are a record, which is taken; all are
  -- taken, since nothing counts any more; or nothing is done, for want of memory.
  abbrev pub TurnMeans : {World : Type 0} → (World → List (Call K) → World → Type 0) → Connection K → World → List ℕ → Turn → Connection K → World → Type 0
  TurnMeans steps old before rest (turn.Nothing announced) new after = (new ≡ old) × (after ≡ before) × ShowsNothing (state_of new) rest × (announced ≡ announced_by_front (state_of new) rest)
  TurnMeans steps old before rest (turn.Took n) new after = (0 < n) × (n ≤ length rest) × Runs steps (arriving (take n rest)) (machine_of old []) (machine_of new []) before after
  TurnMeans steps old before rest turn.All new after = Runs steps (arriving rest) (machine_of old []) (machine_of new []) before after
  TurnMeans steps old before rest turn.Short new after = (state_of new ≡ state_of old) × (after ≡ before)

  -- What is taken of a buffer: whole records, and the rest shows nothing yet unless memory ran out.
  pub record Drained {World : Type 0} (steps : World → List (Call K) → World → Type 0) (old : Connection K) (before : World) (buffer : List ℕ) (taken : Taken) (new : Connection K) (after : World) : Type 0 where
    pub within : taken.used ≤ length buffer
    pub so_far : Runs steps (arriving (take taken.used buffer)) (machine_of old []) (machine_of new []) before after
    pub rest : taken.short ≡ false → ShowsNothing (state_of new) (drop taken.used buffer)
    pub announces : taken.short ≡ false → taken.announced ≡ announced_by_front (state_of new) (drop taken.used buffer)

  -- What is done with bytes behind those that are held: all are held and show nothing yet; so many are taken, with the end of a
  -- record, and none are held; or nothing is done, for want of memory.
  abbrev pub HoldMeans : {World : Type 0} → (World → List (Call K) → World → Type 0) → Connection K → List ℕ → World → List ℕ → Holding → Connection K → List ℕ → World → Type 0
  HoldMeans steps old held before bytes holding.More new now after = Runs steps (arriving bytes) (machine_of old held) (machine_of new now) before after × ShowsNothing (state_of new) now
  HoldMeans steps old held before bytes (holding.Took n) new now after = (n ≤ length bytes) × Runs steps (arriving (take n bytes)) (machine_of old held) (machine_of new []) before after × (now ≡ [])
  HoldMeans steps old held before bytes holding.Short new now after = (machine_of new now ≡ machine_of old held) × (after ≡ before)

  -- These bytes arrived behind those that were held, or for want of memory so many of them.
  abbrev pub Arrives : {World : Type 0} → (World → List (Call K) → World → Type 0) → Connection K → List ℕ → World → List ℕ → Result (Unit {0}) Short → Connection K → List ℕ → World → Type 0
  Arrives steps old held before bytes (Ok done) new now after = Runs steps (arriving bytes) (machine_of old held) (machine_of new now) before after
  Arrives steps old held before bytes (Err short) new now after = (short.taken ≤ length bytes) × Runs steps (arriving (take short.taken bytes)) (machine_of old held) (machine_of new now) before after
