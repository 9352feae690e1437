-- What a run of nbdcopy is: whether what was asked was copied, by which calls, and how the run ended.
use Rattle.std.specs.Prelude.{◌≡◌, ◌≢◌, ◌⊎◌, ◌∷◌, ℕ, Bool, true, List, [], Option, Ok, Err}
use Rattle.lnbd_link.specs.Call.{Call}
use Rattle.lnbd_plan.specs.declared.fault.CopyFault.{CopyFault}
use Rattle.lnbd_plan.specs.declared.fault.CopyFault.TheVariants as copying
use Rattle.lnbd_plan.specs.declared.options.CopyOptions.{CopyOptions}
use Rattle.lnbd_plan.specs.declared.summary.Summary.{Summary}
use Rattle.lnbd_model.specs.declared.target.Place.{Place}
use Rattle.lnbd_course.specs.Asks.{GrewBy}
use Rattle.lnbd_course.specs.Copied.{Copies}
use Rattle.lnbd_course.specs.Driven.{AreDriven}
use Rattle.lnbd_conduct.specs.Conduct.{Conducts}
use Rattle.lnbd_conduct.specs.Links.{AllConnected}
use Rattle.lnbd_conduct.specs.Connects.{ConnectsAsTold, AreLeftBy}
use Rattle.lnbd_conduct.specs.Decided.{IsDecided}
use Rattle.lnbd_conduct.specs.Grounds.{IsGrounded}
use Rattle.lnbd_conduct.specs.Made.{IsMade}
use Rattle.lnbd_cli.specs.declared.copying.Transfer.{Transfer}
use Rattle.lnbd_cli.specs.declared.ending.Fault.{Fault}
use Rattle.lnbd_cli.specs.declared.ending.Fault.TheVariants as fault
use Rattle.lnbd_cli.specs.declared.ending.Ruling.TheVariants as ruling
use Rattle.lnbd_cli.specs.Ends.{End, is_one_of}

-- This is told of a fault of copying.
abbrev pub TellsCopyFault : CopyFault → Fault → Type 0
TellsCopyFault (copying.Peer option code) told = told ≡ fault.Told option code
TellsCopyFault (copying.Broke broken) told = told ≡ fault.Broke broken
TellsCopyFault (copying.Link before after) told = told ≡ fault.Link
TellsCopyFault (copying.Rule rule) told = told ≡ fault.Rule (ruling.Copy rule)
TellsCopyFault (copying.Silent idles) told = told ≡ fault.Silent
TellsCopyFault copying.NoMemory told = told ≡ fault.NoMemory

-- By these calls a copy was made as these options say, of which some summary tells.
abbrev pub WasMade : CopyOptions → (from to : Place) → List Call → Type 0
WasMade options from to calls = (summary : Summary) × IsMade options from to summary calls

-- The calls of a copy that came to its end, be it from a place to itself: it connected to both places as often as its options and what both sides told say, each connect
-- gave a link, and each link was left well.
pub record CameToEnd (options : CopyOptions) (from to : Place) (calls : List Call) : Type 0 where
  pub connects : ConnectsAsTold options from to calls
  pub connected : AllConnected calls
  pub driven : AreDriven calls
  pub left : AreLeftBy options from to calls

-- What was asked to be copied, from one place to another, was copied by the calls that this transcript grew by, and these were made as the words say: whatever the servers keep,
-- each byte that was told of the source was asked to be written, unchanged, and that was done. From a place to itself too they conduct such a copy to its end.
pub record HasCopied (asked : Transfer) (told told' : Option (List Call)) : Type 0 where
  pub copied : asked.from ≢ asked.to → Copies asked.from asked.to asked.options.destination_is_zero told told'
  pub made : asked.from ≢ asked.to → GrewBy (WasMade asked.options asked.from asked.to) told told'
  pub conduct : GrewBy (Conducts asked.options asked.from asked.to) told told'
  pub parted : GrewBy (CameToEnd asked.options asked.from asked.to) told told'

-- It did not come to its end, for a fault on the grounds that the calls show by which this transcript grew; these conduct such a copy until it is broken off, and before the
-- event that decided nothing had come for which it ends.
pub record HasFailed (asked : Transfer) (told told' : Option (List Call)) (fault : CopyFault) : Type 0 where
  pub grounds : IsGrounded told told' asked.options.extents asked.from asked.to fault
  pub conduct : GrewBy (Conducts asked.options asked.from asked.to) told told'
  pub decided : IsDecided told told' asked.options asked.from asked.to fault

-- How a run of nbdcopy ends; Uncalled says that nothing was called.
pub data CopyEnds (asked : Transfer) (told told' : Option (List Call)) (Uncalled : Type 0) (end : End) : Type 0 where
  Copied : end ≡ Ok true → HasCopied asked told told' → CopyEnds asked told told' Uncalled end
  Failed : (fault : CopyFault) (why : Fault) → end ≡ Err why → TellsCopyFault fault why → HasFailed asked told told' fault → CopyEnds asked told told' Uncalled end
  Unbegun : end ≡ Err fault.NoMemory → Uncalled → CopyEnds asked told told' Uncalled end

-- the statuses of nbdcopy, and those of a run in which no count rose
abbrev pub is_copy_status : (status : ℕ) → Bool
is_copy_status status = is_one_of (0 ∷ 3 ∷ 4 ∷ 5 ∷ 6 ∷ 7 ∷ 9 ∷ []) status

abbrev pub IsCopyDone : ℕ → Type 0
IsCopyDone status = (status ≡ 0) ⊎ ((status ≡ 3) ⊎ ((status ≡ 4) ⊎ ((status ≡ 6) ⊎ (status ≡ 9))))
