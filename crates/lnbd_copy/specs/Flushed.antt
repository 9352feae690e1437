-- When a copy asks its destination to flush.
use Rattle.std.specs.Prelude.{◌≢◌, List, Option}
use Rattle.lnbd_link.specs.Call as wire
use Rattle.lnbd_course.specs.Flushes.{FlushesLast}
use Rattle.lnbd_copy.specs.declared.copier.Progress.{Progress}
use Rattle.lnbd_copy.specs.declared.copier.Progress.TheVariants as progress
use Rattle.lnbd_copy.specs.Copier.{Seen}
use Rattle.lnbd_conduct.specs.Told.{Told}

-- Where a turn finished the copy, its calls flushed last, if it was from one place to another.
abbrev pub HasFlushed : (start told : Option (List wire.Call)) → Seen → Progress → Type 0
HasFlushed start told copy (progress.Moved n) = Unit {0}
HasFlushed start told copy progress.Still = Unit {0}
HasFlushed start told copy (progress.Finished summary) = copy.from ≢ copy.to → Told start told (FlushesLast copy.from copy.to summary)
