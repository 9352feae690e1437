-- What the callbacks of a script's commands answer, and what they were told.
use Rattle.std.specs.Prelude.{◌≡◌, ◌+◌, ◌-◌, ◌^◌, ◌==◌, ◌||◌, min, ℕ, Bool, true, false, List, [], ◌∷◌, ◌++◌, All, Option, Some, None, if◌then◌else◌, codes, flat_map, get_or, set, string_bytes}
use Rattle.lnbd_model.specs.declared.errors.TheConstants.{EPROTO, ENOTCONN}
use Rattle.lnbd_model.specs.declared.failure.Failure.{Failure}
use Rattle.lnbd_model.specs.declared.failure.Origin.{Origin}
use Rattle.lnbd_model.specs.declared.failure.Origin.TheVariants as from
use Rattle.lnbd_outcome.specs.Outcome.{failing}
use Rattle.lnbd_callbacks.specs.Calls.{Call, Chunk, Extents, Complete, Free, counted}
use Rattle.lnbd_callbacks.specs.declared.caller.Heard.{Heard}
use Rattle.lnbd_callbacks.specs.declared.caller.Heard.TheVariants.{Going, Fail}
use Rattle.lnbd_callbacks.specs.declared.caller.Verdict.{Verdict}
use Rattle.lnbd_callbacks.specs.declared.caller.Verdict.TheVariants.{Keep, Retire}
use Rattle.lnbd_lines.specs.declared.command.Manner.{Manner}
use Rattle.lnbd_lines.specs.declared.command.Manner.TheVariants as manner
use Rattle.lnbd_texts.specs.Heard.{chunk_text, complete_text, extents_text}
use Rattle.lnbd_script.specs.declared.keeper.Keeper.{Keeper}
use Rattle.lnbd_script.specs.declared.keeper.Heeded.{Heeded}

-- Answers.

-- both callbacks of a command of this number
abbrev pub keeper_of : ℕ → Manner → Keeper
keeper_of number manner.Keep = record { command = number; retires = false; fails = None }
keeper_of number manner.Retire = record { command = number; retires = true; fails = None }
keeper_of number (manner.Fail error) = record { command = number; retires = false; fails = Some error }

-- A chunk or extents callback goes on or fails its command, always by one number.
abbrev pub heard_of : Option ℕ → Heard
heard_of None = Going
heard_of (Some error) = Fail error

-- A completion is kept as it is handed over, or retires its command.
abbrev pub verdict_of : Bool → ℕ → List ℕ → Verdict
verdict_of false error bytes = Keep error bytes
verdict_of true error bytes = Retire

abbrev pub IsAnswered : Call Keeper → Type 0
IsAnswered (Chunk callback bytes offset status error heard) = heard ≡ counted (heard_of callback.fails)
IsAnswered (Extents callback context offset entries error heard) = heard ≡ counted (heard_of callback.fails)
IsAnswered (Complete callback error bytes verdict) = verdict ≡ verdict_of callback.retires error bytes
IsAnswered (Free callback) = Unit {0}

-- What was told.

-- the first of two, where there is one
abbrev pub or_first : {A : Type 0} → Option A → Option A → Option A
or_first None later = later
or_first (Some first) later = Some first

-- What calls on the callbacks come to.
pub record Tally : Type 0 where
  -- the first error that the peer told a command
  pub error : Option ℕ
  -- a command failed by faulty content
  pub faulty : Bool
  -- of each command that was issued, by its number, whether its first error is its own callback's
  pub failed : List Bool

abbrev pub no_tally : Tally
no_tally = record { error = None; faulty = false; failed = [] }

-- A callback that is told no error and fails is the first to fail its command.
abbrev pub fails_first : ℕ → Heard → Bool
fails_first error Going = false
fails_first error (Fail number) = error == 0

abbrev pub marking : Bool → ℕ → Tally → Tally
marking true command tally = record { error = tally.error; faulty = tally.faulty; failed = set tally.failed command true }
marking false command tally = tally

abbrev pub is_own : ℕ → List Bool → Bool
is_own command failed = get_or failed command false

-- one command more was issued
abbrev pub joined : Tally → Tally
joined tally = record { error = tally.error; faulty = tally.faulty; failed = tally.failed ++ false ∷ [] }

-- Where the error of a completed command came from: its own callback answered it first; else EPROTO is that of content at fault, ENOTCONN
-- that of a lost connection, and no peer tells these, since an unknown number of a peer counts as EINVAL; each other one the peer told.
abbrev pub origin_of : (own : Bool) → ℕ → Origin
origin_of own error =
    if own then from.Callback
    else if error == EPROTO then from.Content
    else if error == ENOTCONN then from.Lost
    else from.Told

-- how a completed command failed, if it did
abbrev pub failure_of : (own : Bool) → ℕ → Option Failure
failure_of own error = failing (origin_of own error) error

abbrev pub told_from : Origin → ℕ → Option ℕ
told_from from.Told error = Some error
told_from from.Content error = None
told_from from.Callback error = None
told_from from.Lost error = None

-- the error that the peer told
abbrev pub told_by : Option Failure → Option ℕ
told_by None = None
told_by (Some failure) = told_from failure.origin failure.error

abbrev pub is_content : Origin → Bool
is_content from.Told = false
is_content from.Content = true
is_content from.Callback = false
is_content from.Lost = false

-- it failed by content at fault
abbrev pub is_faulty : Option Failure → Bool
is_faulty None = false
is_faulty (Some failure) = is_content failure.origin

abbrev pub settling : ℕ → ℕ → Tally → Tally
settling command error tally = record {
  error = or_first tally.error (told_by (failure_of (is_own command tally.failed) error));
  faulty = tally.faulty || is_faulty (failure_of (is_own command tally.failed) error);
  failed = tally.failed;
}

-- after one call more
abbrev pub heed : Tally → Call Keeper → Tally
heed tally (Chunk callback bytes offset status error heard) = marking (fails_first error heard) callback.command tally
heed tally (Extents callback context offset entries error heard) = marking (fails_first error heard) callback.command tally
heed tally (Complete callback error bytes verdict) = settling callback.command error tally
heed tally (Free callback) = tally

-- after these calls, the earliest first
abbrev pub tallied : Tally → List (Call Keeper) → Tally
tallied tally [] = tally
tallied tally (call ∷ calls) = tallied (heed tally call) calls

-- the line that a call leaves, and its end; a free leaves none
abbrev pub line_of : Call Keeper → List ℕ
line_of (Chunk callback bytes offset status error heard) = chunk_text bytes offset status error ++ codes "\n"
line_of (Extents callback context offset entries error heard) = extents_text context offset entries error ++ codes "\n"
line_of (Complete callback error bytes verdict) = complete_text error bytes ++ codes "\n"
line_of (Free callback) = []

abbrev pub lines_of : List (Call Keeper) → List ℕ
lines_of calls = flat_map line_of calls

-- how many of the calls free a callback
abbrev pub frees_in : List (Call Keeper) → ℕ
frees_in [] = 0
frees_in (Free callback ∷ calls) = 1 + frees_in calls
frees_in (Chunk callback bytes offset status error heard ∷ calls) = frees_in calls
frees_in (Extents callback context offset entries error heard ∷ calls) = frees_in calls
frees_in (Complete callback error bytes verdict ∷ calls) = frees_in calls

-- a count that stands still at its end
abbrev pub counted_on : ℕ → ℕ
counted_on count = min (count + 1) (2 ^ 64 - 1)

-- how many callbacks were freed
abbrev pub freed_by : ℕ → List (Call Keeper) → ℕ
freed_by count [] = count
freed_by count (Free callback ∷ calls) = freed_by (counted_on count) calls
freed_by count (other ∷ calls) = freed_by count calls

-- The world.

abbrev pub tally_of : Heeded → Tally
tally_of heeded = record { error = heeded.error; faulty = heeded.faulty; failed = heeded.failed.items }

-- These calls lead from one world of the callbacks to the other. Lines are kept where a line of the script asks for them, until one
-- finds no memory.
pub record Heeds (before : Heeded) (calls : List (Call Keeper)) (after : Heeded) : Type 0 where
  pub answered : All IsAnswered calls
  pub tally : tally_of after ≡ tallied (tally_of before) calls
  pub hears : after.hears ≡ true → before.hears ≡ true
  pub heard : after.hears ≡ true → string_bytes after.heard ≡ string_bytes before.heard ++ lines_of calls
  pub freed : after.freed ≡ freed_by before.freed calls

-- One step of a callback changes the tally so, and leaves this line where lines are kept.
pub record Notes (before after : Heeded) (change : Tally → Tally) (line : List ℕ) : Type 0 where
  pub tally : tally_of after ≡ change (tally_of before)
  pub hears : after.hears ≡ true → before.hears ≡ true
  pub heard : after.hears ≡ true → string_bytes after.heard ≡ string_bytes before.heard ++ line
  pub freed : after.freed ≡ before.freed
