use Rattle.std.proofs.Common.{◌≡◌, take}
use Rattle.lnbd_extents.specs.Ranges.{taking_away}
use Rattle.lnbd_extents.specs.Pages.{ranges_of, AreFilled}
use Rattle.lnbd_extents.proofs.ranges.without.Given as goal

abbrev pub invariant-loop-page : goal.invariant-loop-page
invariant-loop-page l = record { ranges : ranges_of l.kept.items ≡ taking_away l.start l.end (ranges_of (take l.page-index l.pages)); filled : AreFilled l.kept.items }
