-- What the callbacks of the tests leave in their worlds.
use Rattle.std.specs.Prelude.{◌≡◌, ◌⊎◌, ℕ, ◌+◌, ◌-◌, ◌^◌, min, List, [], ◌∷◌, ◌++◌, length}
use Rattle.lnbd_model.specs.declared.note.Note.{Note}
use Rattle.lnbd_model.specs.declared.note.Note.TheVariants as note
use Rattle.lnbd_callbacks.specs.declared.caller.Heard.TheVariants.{Fail}
use Rattle.lnbd_callbacks.specs.declared.caller.Verdict.TheVariants.{Retire}
use Rattle.lnbd_callbacks.specs.Calls.{Call, Chunk, Extents, Complete, Free, heard_number, is_keep}
use Rattle.lnbd_callbacks.specs.Entries.{count_of}

-- a count that stands still at its end
abbrev pub counted_on : ℕ → ℕ
counted_on count = min (count + 1) (2 ^ 64 - 1)

-- what a scribe wrote, and how often it found no memory for it
pub record Journal : Type 0 where
  pub notes : List Note
  pub missed : ℕ

module _ {K : Type 0} where
  -- the note that a scribe makes of a call, under its own tag; it knows no number of a context
  abbrev pub scribe_note : (K → ℕ) → Call K → Note
  scribe_note tag (Chunk callback bytes offset status error heard) = note.Chunk (tag callback) offset (length bytes) status error (heard_number heard)
  scribe_note tag (Extents callback context offset entries error heard) = note.Extents (tag callback) 0 offset (count_of entries) error (heard_number heard)
  scribe_note tag (Complete callback error buf verdict) = note.Completed (tag callback) error (is_keep verdict)
  scribe_note tag (Free callback) = note.Freed (tag callback)

  -- the journal has that note at its end, or counts it as missed
  abbrev pub Scribes : (K → ℕ) → Journal → Call K → Journal → Type 0
  Scribes tag old call new = (new ≡ record old { notes = old.notes ++ scribe_note tag call ∷ [] }) ⊎ (new ≡ record old { missed = counted_on old.missed })

  -- a refuser fails all that it is told by 71, and retires its command
  abbrev pub IsRefusal : Call K → Type 0
  IsRefusal (Chunk callback bytes offset status error heard) = heard ≡ Fail 71
  IsRefusal (Extents callback context offset entries error heard) = heard ≡ Fail 71
  IsRefusal (Complete callback error buf verdict) = verdict ≡ Retire
  IsRefusal (Free callback) = Unit {0}

  -- and counts its calls
  abbrev pub Refuses : ℕ → Call K → ℕ → Type 0
  Refuses old call new = (new ≡ counted_on old) × IsRefusal call
