-- Laws of clients whose links handles drive.
use Rattle.std.specs.Prelude.{◌≡◌, ℕ, false, List, ◌++◌, All}
use Rattle.lnbd_link.specs.Call.{Call}
use Rattle.lnbd_asked.specs.Laws.{is_on}
use Rattle.lnbd_spoken.specs.Driven.{IsDriven}
use Rattle.lnbd_spoken.specs.Speaking.{SpeaksWell}

-- They speak well, whatever the server sends and however early.
abbrev pub DrivenSpeakWell : Type 0 → Type 0
DrivenSpeakWell K = (link : ℕ) (calls : List Call) → IsDriven K link calls → SpeaksWell link calls

-- A link that no call reads or writes is driven, by a handle to which nothing happened yet.
abbrev pub UnusedAreDriven : Type 0 → Type 0
UnusedAreDriven K = (link : ℕ) (calls : List Call) → All (λ call. is_on link call ≡ false) calls → IsDriven K link calls

-- Calls on other links change nothing, so a link that a handle drove stays driven by what that handle was.
abbrev pub DrivenStaySo : Type 0 → Type 0
DrivenStaySo K = (link : ℕ) (calls more : List Call) → IsDriven K link calls → All (λ call. is_on link call ≡ false) more → IsDriven K link (calls ++ more)
