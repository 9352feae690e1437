-- How many calls failed.
use Rattle.std.specs.Prelude.{ℕ, List, count_by}
use Rattle.lnbd_link.specs.Call.{Call}
use Rattle.lnbd_link.specs.Listed.{has_failed}

-- the calls that failed: connects and listens that gave no number, and accepts, reads and writes that answered a fault
abbrev pub failed : List Call → ℕ
failed calls = count_by has_failed calls
