use Rattle.std.proofs.Common.{◌≡◌, take}
use Rattle.lnbd_ask.proofs.entries.copy_listing.Given as goal

abbrev pub invariant-exports : goal.invariant-exports
invariant-exports l = l.copy ≡ take l.listed-index l.listing
