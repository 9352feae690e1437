-- What the wires count, and which faults of a copy their counts must show.
use Rattle.std.specs.Prelude.{◌≡◌, ℕ, ◌≤◌, Bool, true, false, Option, List}
use Rattle.lnbd_plan.specs.declared.fault.CopyFault.{CopyFault}
use Rattle.lnbd_plan.specs.declared.fault.CopyFault.TheVariants as fault
use Rattle.lnbd_link.specs.Contents.{Stored, Keeps}
use Rattle.lnbd_link.specs.Count.{Rises, patience}
use Rattle.lnbd_copy.specs.declared.counts.Counts.{Counts}

-- The counts never fall, and what is told of exports is kept.
pub record GoesOn (failed failed2 waited waited2 : ℕ) (stored stored2 : Option (List Stored)) : Type 0 where
  pub faults : failed ≤ failed2
  pub idles : waited ≤ waited2
  pub contents : Keeps stored stored2

-- A link failed only where the count of faults rose since the start, and peers were silent only where that of idles rose by what is borne. These are the
-- counts that are told.
abbrev pub ShowsCause : Counts → (faults idles : ℕ) → CopyFault → Type 0
ShowsCause start faults idles fault.NoMemory = Unit {0}
ShowsCause start faults idles (fault.Link before after) = (before ≡ start.faults) × Rises 1 before after × (after ≤ faults)
ShowsCause start faults idles (fault.Broke broken) = Unit {0}
ShowsCause start faults idles (fault.Peer option code) = Unit {0}
ShowsCause start faults idles (fault.Rule rule) = Unit {0}
ShowsCause start faults idles (fault.Silent told) = Rises patience start.idles told × (told ≤ idles)

pub record HasCause (start : Counts) (faults idles : ℕ) (told : CopyFault) : Type 0 where
  pub shown : ShowsCause start faults idles told

-- a fault that tells no count
abbrev pub tells_no_count : CopyFault → Bool
tells_no_count fault.NoMemory = true
tells_no_count (fault.Link before after) = false
tells_no_count (fault.Broke broken) = true
tells_no_count (fault.Peer option code) = true
tells_no_count (fault.Rule rule) = true
tells_no_count (fault.Silent told) = false

-- Neither count rose so far: no call failed, and the wires waited for less than is borne.
pub record AreWell (start : Counts) (failed waited : ℕ) : Type 0 where
  pub faults : ¬ Rises 1 start.faults failed
  pub idles : ¬ Rises patience start.idles waited
