-- How a run of nbdcopy between two files ends. What it leaves in the store, by which calls, is known by `lnbd_copyfile`.
use Rattle.std.specs.Prelude.{◌≡◌, ◌⊎◌, ◌∷◌, ◌<◌, ℕ, Bool, true, List, [], Option, Ok, Err}
use Rattle.lnbd_plan.specs.declared.summary.Summary.{Summary}
use Rattle.lnbd_store.specs.Call.{Call as Move}
use Rattle.lnbd_store.specs.Shelf.{Shelf}
use Rattle.lnbd_copyfile.specs.FileCopy.{AreUntold, Duplication, HasDuplicated, HasStopped}
use Rattle.lnbd_copyfile.specs.declared.fault.Stop.TheVariants as stop
use Rattle.lnbd_cli.specs.declared.ending.Fault.TheVariants as fault
use Rattle.lnbd_cli.specs.declared.ending.Ruling.TheVariants as ruling
use Rattle.lnbd_cli.specs.Ends.{End, is_one_of}

-- How such a run ends; Untouched says that no call was made. A source that ended before as many bytes came as it told is none of a store that tells its files.
pub data DuplicateEnds (d : Duplication) (moved moved' : Option (List Move)) (shelf shelf' : Option Shelf) (given given' taken taken' : ℕ) (Untouched : Type 0) (end : End) : Type 0 where
  Duplicated : (summary : Summary) → end ≡ Ok true → HasDuplicated d summary moved moved' shelf shelf' given given' taken taken'
      → DuplicateEnds d moved moved' shelf shelf' given given' taken taken' Untouched end
  Store_failed : end ≡ Err fault.Store → HasStopped d moved moved' stop.Failed → DuplicateEnds d moved moved' shelf shelf' given given' taken taken' Untouched end
  Source_changed : (length last : ℕ) → end ≡ Err (fault.Rule (ruling.Changed length last)) → last < length → AreUntold shelf' → HasStopped d moved moved' (stop.Changed length last)
      → DuplicateEnds d moved moved' shelf shelf' given given' taken taken' Untouched end
  Lacked_memory : end ≡ Err fault.NoMemory → HasStopped d moved moved' stop.NoMemory → DuplicateEnds d moved moved' shelf shelf' given given' taken taken' Untouched end
  Unbegun : end ≡ Err fault.NoMemory → Untouched → DuplicateEnds d moved moved' shelf shelf' given given' taken taken' Untouched end

-- the statuses of such a run, and those of one in which no count rose
abbrev pub is_duplicate_status : (status : ℕ) → Bool
is_duplicate_status status = is_one_of (0 ∷ 6 ∷ 9 ∷ 11 ∷ []) status

abbrev pub IsDuplicateDone : (now : Option Shelf) → ℕ → Type 0
IsDuplicateDone now status = (status ≡ 0) ⊎ ((status ≡ 9) ⊎ ((status ≡ 6) × AreUntold now))
