-- What the summary of a copy says of its calls.
use Rattle.std.specs.Prelude.{◌≡◌, ◌≢◌, ◌≤◌, List, Option, Some}
use Rattle.lnbd_link.specs.Call as wire
use Rattle.lnbd_plan.specs.declared.summary.Summary.{Summary}
use Rattle.lnbd_course.specs.Counts.{Summarizes, summary_of}
use Rattle.lnbd_copy.specs.declared.copier.Progress.{Progress}
use Rattle.lnbd_copy.specs.declared.copier.Progress.TheVariants as progress
use Rattle.lnbd_copy.specs.Copier.{Seen}
use Rattle.lnbd_copy.specs.Job as work
use Rattle.lnbd_conduct.specs.Told.{Told}

-- It is what the board of a copy under way counted.
pub record IsTally (copy : Seen) (summary : Summary) : Type 0 where
  pub on : (job : work.Seen) → copy.job ≡ Some job → (summary ≡ summary_of job.terms.size copy.board) × (job.terms.size ≤ 18446744073709551615)

-- Where a turn finished the copy, the summary is that of its calls, if it was from one place to another.
abbrev pub HasSummed : (start told : Option (List wire.Call)) → Seen → Progress → Type 0
HasSummed start told copy (progress.Moved n) = Unit {0}
HasSummed start told copy progress.Still = Unit {0}
HasSummed start told copy (progress.Finished summary) = copy.from ≢ copy.to → Told start told (Summarizes copy.from copy.to summary)
