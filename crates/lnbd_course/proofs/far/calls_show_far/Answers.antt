use Rattle.lnbd_course.proofs.FarShowing.{quiet_counts_far, turns_fail_far, turns_tell_content_far, unfailed_shows_far}
use Rattle.lnbd_course.proofs.far.calls_show_far.Goals as goal

pub returns : goal.returns
returns c = record { unfailed = unfailed_shows_far; quiet = quiet_counts_far; fails = turns_fail_far; content = turns_tell_content_far }
