-- What a copy that succeeded has carried, whatever its servers keep.
use Rattle.std.specs.Prelude.{ℕ, Bool, List}
use Rattle.lnbd_model.specs.declared.target.Place.{Place}
use Rattle.lnbd_link.specs.Call.{Call}
use Rattle.lnbd_asked.specs.Transcript.{dealt_with}
use Rattle.lnbd_board.specs.Carried.{Carries}
use Rattle.lnbd_course.specs.Copied.{Copied}
use Rattle.lnbd_course.specs.Course.{HaveSizes}

-- By these calls both sides told their sizes, and each byte that the source told was asked of the destination, unchanged, and that was done: to be written, or to be zeroed where it is zero;
-- or it is zero, and the destination is said to be zero.
pub record HasCarried (from to : Place) (blank : Bool) (calls : List Call) : Type 0 where
  pub size : ℕ
  pub sizes : HaveSizes from to calls size
  pub carries : Carries blank size (dealt_with from calls) (dealt_with to calls)

-- What has carried has copied: over honest servers the destination then holds the source's bytes.
abbrev pub CarryingCopies : Type 0
CarryingCopies = (from to : Place) (blank : Bool) (calls : List Call) → HasCarried from to blank calls → Copied from to blank calls
