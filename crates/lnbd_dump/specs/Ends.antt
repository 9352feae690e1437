-- What came of a conversation, and of a dump, by the calls that were made.
use Rattle.std.specs.Prelude.{◌≡◌, ◌⊎◌, ℕ, ◌+◌, ◌≤◌, List, ◌∷◌, Option, Some, Result, Ok, Err, true, length}
use Rattle.lnbd_model.specs.declared.target.Place.{Place}
use Rattle.lnbd_history.specs.Events.{History}
use Rattle.lnbd_records.specs.Limits.{max_text}
use Rattle.lnbd_link.specs.Call as wire
use Rattle.lnbd_link.specs.Call.{Connect}
use Rattle.lnbd_link.specs.Part.{Grows}
use Rattle.lnbd_asked.specs.Transcript.{dealt_with}
use Rattle.lnbd_poll.specs.Seen.{Seen}
use Rattle.lnbd_usage.specs.OneLink.{UseOneLink}
use Rattle.lnbd_waits.specs.Begun.{base_allocation, begins}
use Rattle.lnbd_dump.specs.declared.fault.DumpFault.{DumpFault}
use Rattle.lnbd_dump.specs.declared.reader.Reader.{Reader}
use Rattle.lnbd_dump.specs.Conduct.{Conduct, Dumps, IsAnswer, IsWhole}
use Rattle.lnbd_dump.specs.Leads.{IsGoing, Leads, Tells}
use Rattle.lnbd_reel.specs.Ranges.{length_given, length_shown}
use Rattle.lnbd_reel.specs.Said.{Shown}
use Rattle.lnbd_reel.specs.Said.{ShownPart}
use Rattle.lnbd_dump.specs.Told.{NothingChanges, Told}

-- a name that may be asked for
abbrev pub IsShort : (name : List ℕ) → Type 0
IsShort name = length name ≤ max_text

-- what was shown, by what the handle was told
abbrev pub IsLeft : Result ℕ DumpFault → (offset : ℕ) → (given : Option ℕ) → (taken taken' : Option (List ℕ)) → History Reader → Type 0
IsLeft (Ok count) offset given taken taken' ended = IsWhole offset given ended count × Shown (Tells ended) offset count taken taken'
IsLeft (Err why) offset given taken taken' ended = (taken' ≡ taken) ⊎ ((count : ℕ) × IsWhole offset given ended count × ShownPart (Tells ended) offset count taken taken')

-- The conversation on a link that was had.
pub record Conversed (link : ℕ) (place : Place) (offset : ℕ) (given : Option ℕ) (told told' : Option (List wire.Call)) (taken taken' : Option (List ℕ)) (answer : Result ℕ DumpFault) : Type 0 where
  pub calls : List wire.Call
  pub grown : Grows told told' calls
  pub after : Seen Reader
  pub ended : Seen Reader
  pub leads : Leads true (begins link place.name base_allocation) calls after ended
  pub going : IsGoing after.history
  pub conduct : Conduct after.history
  pub answer_is : IsAnswer offset given after.history answer
  pub left : IsLeft answer offset given taken taken' ended.history

-- By these calls the export told a size that has the range, and nothing was asked that changes a byte.
pub record IsFit (place : Place) (made : List wire.Call) (offset : ℕ) (given : Option ℕ) (count : ℕ) : Type 0 where
  pub none : NothingChanges (dealt_with place made)
  pub link : ℕ
  pub size : ℕ
  pub told : (dealt_with place made).size link ≡ Some size
  pub fits : offset + length_given given ≤ size
  pub is : count ≡ length_shown offset given size

-- what was shown, by what was dealt with the export
abbrev pub IsDumped : (place : Place) → (made : List wire.Call) → (offset : ℕ) → (given : Option ℕ) → (taken taken' : Option (List ℕ)) → Result ℕ DumpFault → Type 0
IsDumped place made offset given taken taken' (Ok count) = IsFit place made offset given count × Shown (Told (dealt_with place made)) offset count taken taken'
IsDumped place made offset given taken taken' (Err why) = (taken' ≡ taken) ⊎ ((count : ℕ) × IsFit place made offset given count × ShownPart (Told (dealt_with place made)) offset count taken taken')

-- a dump, by all its calls
pub record IsDump (place : Place) (offset : ℕ) (given : Option ℕ) (made : List wire.Call) (taken taken' : Option (List ℕ)) (answer : Result ℕ DumpFault) : Type 0 where
  pub uses : UseOneLink place.to made
  pub dumps : Dumps place offset given made answer
  pub made_is : IsDumped place made offset given taken taken' answer

-- what follows the connect that gave this link
pub record DumpedOn (link : ℕ) (place : Place) (offset : ℕ) (given : Option ℕ) (told told' : Option (List wire.Call)) (taken taken' : Option (List ℕ)) (answer : Result ℕ DumpFault) : Type 0 where
  pub calls : List wire.Call
  pub grown : Grows told told' calls
  pub is : IsDump place offset given (Connect place.to (Some link) ∷ calls) taken taken' answer

-- the whole
pub record DumpedAll (place : Place) (offset : ℕ) (given : Option ℕ) (told told' : Option (List wire.Call)) (taken taken' : Option (List ℕ)) (answer : Result ℕ DumpFault) : Type 0 where
  pub calls : List wire.Call
  pub grown : Grows told told' calls
  pub is : IsDump place offset given calls taken taken' answer
