use Rattle.lnbd_course.proofs.FarKeeping.{changes_keep_far, first_changes_keep_far, reads_keep_far}
use Rattle.lnbd_course.proofs.far.file_keeps_far.Goals as goal

pub returns : goal.returns
returns c = record { changes = changes_keep_far; first = first_changes_keep_far; reads = reads_keep_far }
