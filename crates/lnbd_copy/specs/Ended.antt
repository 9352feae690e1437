-- What stands where a copy is finished: the last look at what the wires counted found nothing.
use Rattle.std.specs.Prelude.{ℕ}
use Rattle.lnbd_copy.specs.declared.copier.Progress.{Progress}
use Rattle.lnbd_copy.specs.declared.copier.Progress.TheVariants as progress
use Rattle.lnbd_copy.specs.declared.counts.Counts.{Counts}
use Rattle.lnbd_copy.specs.Causes.{AreWell}

-- Where it is finished, neither count rose so far since the start that it would be a fault.
abbrev pub EndsWell : Counts → (faults idles : ℕ) → Progress → Type 0
EndsWell start faults idles (progress.Moved n) = Unit {0}
EndsWell start faults idles progress.Still = Unit {0}
EndsWell start faults idles (progress.Finished summary) = AreWell start faults idles
