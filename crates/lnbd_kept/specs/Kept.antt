-- Results that are kept as they are handed over.
use Rattle.std.specs.Prelude.{◌≡◌, ℕ, false, List, [], ◌∷◌, Option, Some, None}
use Rattle.lnbd_callbacks.specs.declared.caller.Verdict.{Verdict}
use Rattle.lnbd_callbacks.specs.declared.caller.Verdict.TheVariants.{Keep}
use Rattle.lnbd_outcome.specs.Outcome as outcome
use Rattle.lnbd_history.specs.declared.kinds.Completed.TheVariants as completed
use Rattle.lnbd_history.specs.Answers.{completed_after, completed_of, outcome_after, outcome_of}
use Rattle.lnbd_history.specs.Commands.{Request}
use Rattle.lnbd_callbacks.specs.Calls.{Call}
use Rattle.lnbd_callbacks.specs.Calls as call
use Rattle.lnbd_history.specs.Events.{History}
use Rattle.lnbd_history.specs.History.{request, reading}
use Rattle.lnbd_history.specs.Entries.{Cleared, Entry, Filed, Filing, Freed, bytes_in, calls, completes, error_in, is_ended, kept_in, own}

module _ {K : Type 0} where
  -- What was filed last under a command that these were filed under before: it was in flight; where it isn't completed, no verdict was heard; and where one was heard, it
  -- keeps what was handed over.
  pub record IsWellFiled (asks : Request K) (filing : Filing K) (earlier : List (Filing K)) : Type 0 where
    pub request : filing.request ≡ asks
    pub going : is_ended earlier ≡ false
    pub silent : completes filing.item ≡ false → filing.verdict ≡ None
    pub handed : (verdict : Verdict) → filing.verdict ≡ Some verdict → verdict ≡ Keep (error_in asks (filing ∷ earlier)) (bytes_in asks (filing ∷ earlier))

  abbrev pub AreWellFiled : Request K → List (Filing K) → Type 0
  AreWellFiled asks [] = Unit {0}
  AreWellFiled asks (filing ∷ earlier) = IsWellFiled asks filing earlier × AreWellFiled asks earlier

-- Then what is told of a command as done is what it came to.
abbrev pub KeptIsOutcome : Type 0 → Type 0
KeptIsOutcome K = (asks : Request K) (own : List (Filing K)) (buf : List ℕ) → AreWellFiled asks own → completed_of (outcome_of (Some asks) own) (kept_in own) ≡ completed.Done buf →
    outcome_of (Some asks) own ≡ outcome.Done buf

-- From the entries of a history.

module _ {K : Type 0} where
  -- a completion is answered that all is to be kept as it is
  abbrev pub IsKeeping : Call K → Type 0
  IsKeeping (call.Complete callback error bytes verdict) = verdict ≡ Keep error bytes
  IsKeeping (call.Chunk callback bytes offset status error heard) = Unit {0}
  IsKeeping (call.Extents callback context offset entries error heard) = Unit {0}
  IsKeeping (call.Free callback) = Unit {0}

  abbrev pub AllKeep : List (Call K) → Type 0
  AllKeep [] = Unit {0}
  AllKeep (made ∷ more) = IsKeeping made × AllKeep more

  -- Each filing is of the request of its cookie, which was in flight; where it doesn't complete the command no verdict was heard.
  abbrev pub AreFiled : (asks : ℕ → Option (Request K)) → List (Entry K) → Type 0
  AreFiled asks [] = Unit {0}
  AreFiled asks (Filed filing ∷ earlier) =
      (asks filing.cookie ≡ Some filing.request) × (is_ended (own filing.cookie earlier) ≡ false) × (completes filing.item ≡ false → filing.verdict ≡ None) × AreFiled asks earlier
  AreFiled asks (Freed flight ∷ earlier) = AreFiled asks earlier
  AreFiled asks (Cleared ∷ earlier) = AreFiled asks earlier

-- Where callbacks keep what they are handed, what is told of a command as done is what it came to.
abbrev pub AllKeptAreOutcomes : Type 0 → Type 0
AllKeptAreOutcomes K = (asks : ℕ → Option (Request K)) (entries : List (Entry K)) (cookie : ℕ) (buf : List ℕ) (q : Request K) → AreFiled asks entries → AllKeep (calls entries) → asks cookie ≡ Some q →
    completed_of (outcome_of (Some q) (own cookie entries)) (kept_in (own cookie entries)) ≡ completed.Done buf → outcome_of (Some q) (own cookie entries) ≡ outcome.Done buf

-- Of histories.

-- So is what every history files.
abbrev pub EntriesAreFiled : Type 0 → Type 0
EntriesAreFiled K = (history : History K) → AreFiled (request history) (reading history).known.entries

-- What is told of one of its commands as done is what that came to.
abbrev pub DoneIsOutcome : Type 0 → Type 0
DoneIsOutcome K = (history : History K) (cookie : ℕ) (buf : List ℕ) → AllKeep (calls (reading history).known.entries) → completed_after history cookie ≡ completed.Done buf → outcome_after history cookie ≡ outcome.Done buf
