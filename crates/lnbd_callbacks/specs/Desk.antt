-- What contracts see of a `Desk`.
use Rattle.std.specs.Prelude.{ℕ, ◌+◌, List, [], ◌∷◌, ◌++◌, Bool, true, false}
use Rattle.lnbd_keyed.specs.Keyed.{with_value, without}
use Rattle.lnbd_model.specs.declared.note.Note.{Note}
use Rattle.lnbd_model.specs.declared.note.Note.TheVariants.{Completed, Freed}
use Rattle.lnbd_callbacks.specs.declared.caller.Verdict.{Verdict}
use Rattle.lnbd_callbacks.specs.Calls.{is_keep}

-- how many callbacks were admitted; those not freed, by rising number, each with whether it was completed;
-- and the notes since the last clearing, the earliest first
pub record Log : Type 0 where
  pub admitted : ℕ
  pub live : List (ℕ × Bool)
  pub notes : List Note

-- the log, and for how many notes there is room beside those that live callbacks own
pub record Desk : Type 0 where
  pub log : Log
  pub room : ℕ

-- the log of a new desk
abbrev pub empty_log : Log
empty_log = record { admitted = 0; live = []; notes = [] }

-- the log with one callback more, which has the next number
abbrev pub with_admission : Log → Log
with_admission log = record log { admitted = log.admitted + 1; live = log.live ++ (log.admitted + 1, false) ∷ [] }

-- the log with one note more
abbrev pub with_note : Log → Note → Log
with_note log note = record log { notes = log.notes ++ note ∷ [] }

-- the log after the callback of this number completed
abbrev pub with_completion : Log → ℕ → ℕ → Verdict → Log
with_completion log number error verdict = record (with_note log (Completed number error (is_keep verdict))) { live = with_value number true log.live }

-- the log after the callback of this number was freed
abbrev pub with_free : Log → ℕ → Log
with_free log number = record (with_note log (Freed number)) { live = without number log.live }
