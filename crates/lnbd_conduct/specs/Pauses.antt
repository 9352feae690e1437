-- What a copy tried before it pauses, and how often it pauses.
use Rattle.std.specs.Prelude.{Bool, true, false, ◌≡◌, ℕ, List, ◌∷◌, ◌++◌, ◌==◌, ◌||◌, [], ◌≤◌, ◌<◌, ◌≢◌, length, filter, ◌+◌}
use Rattle.std.specs.List.{list_any}
use Rattle.lnbd_link.specs.Call.{Connect, Listen, Accept, Read, Write, Pause, Shut, Moved, Unready, Ended, ReadFault, ReadTold, WriteTold}
use Rattle.lnbd_link.specs.Call as wire
use Rattle.lnbd_link.specs.declared.wires.Want.{Want}
use Rattle.lnbd_link.specs.Count.{patience}
use Rattle.lnbd_poll.specs.Still.{is_full}
use Rattle.lnbd_conduct.specs.Links.{once_if}
use Rattle.lnbd_usage.specs.Vain.{has_happened, WasReadInVain, WasWrittenInVain}
use Rattle.lnbd_usage.specs.Pauses.{is_pause}

-- a direction in which is read: to read alone, or to read and to write
abbrev pub is_for_reading : (direction : ℕ) → Bool
is_for_reading direction = (direction == 1) || (direction == 3)

-- Each link that is wanted for reading was read in vain.
abbrev pub WantsOnlyEmpty : (before : List wire.Call) → List Want → Type 0
WantsOnlyEmpty before [] = Unit {0}
WantsOnlyEmpty before (want ∷ others) = (is_for_reading want.direction ≡ true → WasReadInVain want.link before) × WantsOnlyEmpty before others

-- Each link that is wanted for writing, which 2 and 3 stand for, was written in vain.
abbrev pub WantsOnlyFull : (before : List wire.Call) → List Want → Type 0
WantsOnlyFull before [] = Unit {0}
WantsOnlyFull before (want ∷ others) = (2 ≤ want.direction → WasWrittenInVain want.link before) × WantsOnlyFull before others

-- a read of this link, a write on it

abbrev pub reads_on : (link : ℕ) → wire.Call → Bool
reads_on link (Connect to given) = false
reads_on link (Listen at listener) = false
reads_on link (Accept listener answer) = false
reads_on link (Read n room answer) = n == link
reads_on link (Write n offered answer) = false
reads_on link (Pause wants) = false
reads_on link (Shut n) = false

abbrev pub writes_on : (link : ℕ) → wire.Call → Bool
writes_on link (Connect to given) = false
writes_on link (Listen at listener) = false
writes_on link (Accept listener answer) = false
writes_on link (Read n room answer) = false
writes_on link (Write n offered answer) = n == link
writes_on link (Pause wants) = false
writes_on link (Shut n) = false

-- A link was read among these calls, and the first read of it had room for a byte.
pub record WasRead (link : ℕ) (calls : List wire.Call) : Type 0 where
  pub earlier : List wire.Call
  pub room : ℕ
  pub answer : ReadTold
  pub later : List wire.Call
  pub are : calls ≡ earlier ++ Read link room answer ∷ later
  pub first : list_any (reads_on link) earlier ≡ false
  pub some : 0 < room

-- A link was written among these calls, and the first write on it offered a byte.
pub record WasWritten (link : ℕ) (calls : List wire.Call) : Type 0 where
  pub earlier : List wire.Call
  pub offered : ℕ
  pub answer : WriteTold
  pub later : List wire.Call
  pub are : calls ≡ earlier ++ Write link offered answer ∷ later
  pub first : list_any (writes_on link) earlier ≡ false
  pub some : 0 < offered

-- What a pause wanted was tried by these calls behind it: a link that was wanted to read alone, which 1 stands for, was read, and one that was wanted for writing was
-- written.
pub record WasTried (want : Want) (calls : List wire.Call) : Type 0 where
  pub reads : want.direction ≡ 1 → WasRead want.link calls
  pub writes : 2 ≤ want.direction → WasWritten want.link calls

abbrev pub WereTried : List Want → (calls : List wire.Call) → Type 0
WereTried [] calls = Unit {0}
WereTried (want ∷ others) calls = WasTried want calls × WereTried others calls

-- At a pause: whatever a pause before it wanted was tried since.
abbrev pub TriedBefore : (before : List wire.Call) → List Want → Type 0
TriedBefore before wants = (earlier since : List wire.Call) (wanted : List Want) → before ≡ earlier ++ Pause wanted ∷ since → WereTried wanted since

-- A pause wants at least one link: one that wanted none would never end.
abbrev pub WantsSome : (before : List wire.Call) → List Want → Type 0
WantsSome before wants = wants ≢ []

-- how many pauses are among these calls
abbrev pub pauses_in : List wire.Call → ℕ
pauses_in calls = length (filter is_pause calls)

-- They pause no more often than is borne,
abbrev pub PausesWithin : List wire.Call → Type 0
PausesWithin calls = pauses_in calls ≤ patience

-- a read of this link told that nothing is there yet
abbrev pub is_unready : ℕ → wire.Call → Bool
is_unready link (Connect to given) = false
is_unready link (Listen at listener) = false
is_unready link (Accept listener answer) = false
is_unready link (Read n room (Moved bytes)) = false
is_unready link (Read n room Unready) = n == link
is_unready link (Read n room Ended) = false
is_unready link (Read n room ReadFault) = false
is_unready link (Write n offered answer) = false
is_unready link (Pause wants) = false
is_unready link (Shut n) = false

-- how many of these calls are so
abbrev pub how_many : (wire.Call → Bool) → List wire.Call → ℕ
how_many is [] = 0
how_many is (call ∷ calls) = once_if (is call) + how_many is calls

-- A link was tried in vain no more often than this by these calls: so many reads of it told that nothing is there yet, and so many writes on it took nothing.
pub record IsTriedAtMost (most link : ℕ) (calls : List wire.Call) : Type 0 where
  pub reads : how_many (is_unready link) calls ≤ most
  pub writes : how_many (is_full link) calls ≤ most

-- So it is with each link.
abbrev pub AreTriedAtMost : (most : ℕ) → List wire.Call → Type 0
AreTriedAtMost most calls = (link : ℕ) → IsTriedAtMost most link calls

-- While no pause is made and nothing else happens on any link, none is tried in vain more than twice.
abbrev pub KeepsPace : List wire.Call → Type 0
KeepsPace calls = (before since after : List wire.Call) → calls ≡ before ++ (since ++ after) → list_any has_happened since ≡ false → AreTriedAtMost 2 since
