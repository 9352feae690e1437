-- How often a copy pauses.
use Rattle.std.specs.Prelude.{◌≡◌, ℕ, ◌<◌, Bool, true, false, List, Option}
use Rattle.lnbd_link.specs.Call as wire
use Rattle.lnbd_link.specs.Count.{Rises, patience}
use Rattle.lnbd_plan.specs.declared.fault.CopyFault.{CopyFault}
use Rattle.lnbd_plan.specs.declared.fault.CopyFault.TheVariants as fault
use Rattle.lnbd_conduct.specs.Told.{Told}
use Rattle.lnbd_conduct.specs.Pauses.{pauses_in, PausesWithin}

-- or less often.
abbrev pub PausesLess : List wire.Call → Type 0
PausesLess calls = pauses_in calls < patience

-- a fault that ends a copy which may have waited for as long as is borne: silence does, and want of memory may
abbrev pub may_end_waiting : CopyFault → Bool
may_end_waiting fault.NoMemory = true
may_end_waiting (fault.Link before after) = false
may_end_waiting (fault.Broke broken) = false
may_end_waiting (fault.Peer option code) = false
may_end_waiting (fault.Rule rule) = false
may_end_waiting (fault.Silent idles) = true

-- Steps.

-- While these calls were made the wires counted each pause of them, from the first of these counts to the second. They pause no more often than is borne, and where the last pause was not the last that is borne, less often.
pub record HasWaited (last : Bool) (first now : ℕ) (calls : List wire.Call) : Type 0 where
  pub counted : Rises (pauses_in calls) first now
  pub within : PausesWithin calls
  pub less : last ≡ false → PausesLess calls

-- If it was so when a step began, with one pause at least to be borne still, it is so when it ends.
pub record StaysPatient (last : Bool) (first : ℕ) (told : Option (List wire.Call)) (waited : ℕ) (told' : Option (List wire.Call)) (waited' : ℕ) : Type 0 where
  pub on : (start : Option (List wire.Call)) → Told start told (HasWaited false first waited) → Told start told' (HasWaited last first waited')
