-- What a turn over handles and their links does, call by call.
use Rattle.std.specs.Prelude.{◌≡◌, ◌+◌, ℕ, Bool, true, false, min, List, [], ◌∷◌, ◌++◌, Option, Some, None}
use Rattle.std.specs.List.{list_any}
use Rattle.lnbd_callbacks.specs.Calls.{Call}
use Rattle.lnbd_history.specs.Events.{Answer, History, LinkFailed}
use Rattle.lnbd_handle.specs.Histories.{Plays}
use Rattle.lnbd_link.specs.Call as wire
use Rattle.lnbd_link.specs.Count.{Rises}
use Rattle.lnbd_link.specs.Listed.{has_failed}
use Rattle.lnbd_poll.specs.declared.noticed.Noticed.{Noticed}
use Rattle.lnbd_poll.specs.declared.noticed.Noticed.TheVariants as noticed
use Rattle.lnbd_poll.specs.declared.noticed.Turn.{Turn}
use Rattle.lnbd_poll.specs.declared.noticed.Turn.TheVariants as turn
use Rattle.lnbd_poll.specs.Seen.{Seen}
use Rattle.lnbd_poll.specs.Notices.{ReadsOnce, WritesOnce}

-- How much happened: so many bytes moved, or nothing happened. Where the peer ended or the link failed, something did.
abbrev pub moved_by : Noticed → Option ℕ
moved_by (noticed.Moved n) = Some n
moved_by noticed.NotReady = None
moved_by noticed.Idle = None
moved_by noticed.Ended = Some 0
moved_by noticed.LinkFailed = Some 0
moved_by noticed.NoMemory = None

abbrev pub together : Option ℕ → Option ℕ → Option ℕ
together None other = other
together (Some n) None = Some n
together (Some n) (Some m) = Some (n + m)

-- bytes moved
abbrev pub is_moved : Noticed → Bool
is_moved (noticed.Moved n) = true
is_moved noticed.NotReady = false
is_moved noticed.Idle = false
is_moved noticed.Ended = false
is_moved noticed.LinkFailed = false
is_moved noticed.NoMemory = false

-- memory ran out
abbrev pub is_short : Noticed → Bool
is_short (noticed.Moved n) = false
is_short noticed.NotReady = false
is_short noticed.Idle = false
is_short noticed.Ended = false
is_short noticed.LinkFailed = false
is_short noticed.NoMemory = true

-- the link failed
abbrev pub is_lost : Noticed → Bool
is_lost (noticed.Moved n) = false
is_lost noticed.NotReady = false
is_lost noticed.Idle = false
is_lost noticed.Ended = false
is_lost noticed.LinkFailed = true
is_lost noticed.NoMemory = false

-- A handle whose link failed is told.
abbrev pub Told : {K World : Type 0} → (World → List (Call K) → World → Type 0) → (lost : Bool) → (before : History K) → (world : World) → (after : History K) → (world' : World) → Type 0
Told steps true before world after world' = (answers : List Answer) × (after ≡ LinkFailed answers ∷ before) × Plays steps (LinkFailed answers) before world world'
Told steps false before world after world' = (after ≡ before) × (world' ≡ world)

-- One write, after which the handle is told where its link failed.
pub record WritesTold {K World : Type 0} (steps : World → List (Call K) → World → Type 0) (link : ℕ) (notice : Noticed) (before : History K) (world : World) (calls : List wire.Call) (after : History K) (world' : World) : Type 0 where
  pub middle : History K
  pub writes : WritesOnce link notice before calls middle
  pub told : Told steps (is_lost notice) middle world after world'

-- A handle writes until nothing waits or a write takes nothing.
pub data WritesAll {K World : Type 0} (steps : World → List (Call K) → World → Type 0) (link : ℕ) : History K → World → List wire.Call → History K → World → Option ℕ → Type 0 where
  Stops : (before : History K) (world : World) (calls : List wire.Call) (after : History K) (world' : World) (moved : Option ℕ) (notice : Noticed)
      → WritesTold steps link notice before world calls after world' → is_moved notice ≡ false → moved ≡ moved_by notice
      → WritesAll steps link before world calls after world' moved
  Goes_on : (before : History K) (world : World) (calls : List wire.Call) (after : History K) (world' : World) (moved : Option ℕ) (notice : Noticed) (own : List wire.Call) (middle : History K) (half : World) (other : List wire.Call) (rest : Option ℕ)
      → WritesTold steps link notice before world own middle half → is_moved notice ≡ true → WritesAll steps link middle half other after world' rest
      → calls ≡ own ++ other → moved ≡ together (moved_by notice) rest
      → WritesAll steps link before world calls after world' moved

-- One handle's part of a turn: it writes so, and then reads once.
pub record TurnsOne {K World : Type 0} (steps : World → List (Call K) → World → Type 0) (notice : Noticed) (before : Seen K) (world : World) (calls : List wire.Call) (after : Seen K) (world' : World) (moved : Option ℕ) : Type 0 where
  pub written : List wire.Call
  pub middle : History K
  pub half : World
  pub sent : Option ℕ
  pub writes : WritesAll steps before.link before.history world written middle half sent
  pub read : List wire.Call
  pub reads : ReadsOnce steps notice (record { link = before.link; history = middle; unread = before.unread }) half read after world'
  pub calls_are : calls ≡ written ++ read
  pub moved_is : moved ≡ together sent (moved_by notice)

-- how a turn over handles ends: memory was there for all that was tried, and so much moved in all; or memory ran out at a read
pub data Ending : Type 0 where
  Whole : (moved : Option ℕ) → Ending
  Short : Ending

abbrev pub with_moved : Option ℕ → Ending → Ending
with_moved moved (Whole rest) = Whole (together moved rest)
with_moved moved Short = Short

-- One handle after another takes its part. Where memory runs out, those after it are as they were. Where the turn is broken off, those that are left are
-- as they were; something has then happened, so nobody takes it for a turn in which each was tried and nothing happened.
pub data Turns {K World : Type 0} (steps : World → List (Call K) → World → Type 0) : List (Seen K) → World → List wire.Call → List (Seen K) → World → Ending → Type 0 where
  All_took : (before : List (Seen K)) (world : World) (calls : List wire.Call) (after : List (Seen K)) (world' : World) (ending : Ending)
      → before ≡ [] → calls ≡ [] → after ≡ [] → world' ≡ world → ending ≡ Whole None
      → Turns steps before world calls after world' ending
  Takes : (before : List (Seen K)) (world : World) (calls : List wire.Call) (after : List (Seen K)) (world' : World) (ending : Ending)
      → (seen : Seen K) (others : List (Seen K)) (notice : Noticed) (own : List wire.Call) (here : Seen K) (half : World) (moved : Option ℕ) (other : List wire.Call) (there : List (Seen K)) (rest : Ending)
      → before ≡ seen ∷ others → TurnsOne steps notice seen world own here half moved → is_short notice ≡ false → Turns steps others half other there world' rest
      → calls ≡ own ++ other → after ≡ here ∷ there → ending ≡ with_moved moved rest
      → Turns steps before world calls after world' ending
  Runs_short : (before : List (Seen K)) (world : World) (calls : List wire.Call) (after : List (Seen K)) (world' : World) (ending : Ending)
      → (seen : Seen K) (others : List (Seen K)) (here : Seen K) (moved : Option ℕ)
      → before ≡ seen ∷ others → TurnsOne steps noticed.NoMemory seen world calls here world' moved
      → after ≡ here ∷ others → ending ≡ Short
      → Turns steps before world calls after world' ending
  Breaks_off : (before : List (Seen K)) (world : World) (calls : List wire.Call) (after : List (Seen K)) (world' : World) (ending : Ending)
      → calls ≡ [] → after ≡ before → world' ≡ world → ending ≡ Whole (Some 0)
      → Turns steps before world calls after world' ending

module _ {K World : Type 0} {steps : World → List (Call K) → World → Type 0} where
  -- The turn was not broken off: each handle took its part, or memory ran out at one.
  abbrev pub AllTook : {before : List (Seen K)} {world : World} {calls : List wire.Call} {after : List (Seen K)} {world' : World} {ending : Ending} → Turns steps before world calls after world' ending → Type 0
  AllTook (All_took before world calls after world' ending is none after_is world_is end) = Unit {0}
  AllTook (Takes before world calls after world' ending seen others notice own here half moved other there rest is turns enough more calls_are after_is end) = AllTook more
  AllTook (Runs_short before world calls after world' ending seen others here moved is turns after_is end) = Unit {0}
  AllTook (Breaks_off before world calls after world' ending none after_is world_is end) = ⊥

-- the answer of a turn: the bytes moved in all, or the greatest usize where they are more; Still where nothing happened on any link
abbrev pub turn_of : Option ℕ → Turn
turn_of None = turn.Still
turn_of (Some n) = turn.Moved (min n 18446744073709551615)

-- A fault among the calls raised the count of faults.
abbrev pub Blames : List wire.Call → (faults faults' : ℕ) → Type 0
Blames calls faults faults' = list_any has_failed calls ≡ true → Rises 1 faults faults'
