use Rattle.std.proofs.Common.{◌≡◌, drop}
use Rattle.lnbd_info.specs.Listing.{first_told}
use Rattle.lnbd_info.proofs.told.first_told.Given as goal

-- those before were refused
abbrev pub invariant-entries : goal.invariant-entries
invariant-entries l = first_told (drop l.entry-index l.entries) ≡ first_told l.entries
