use Rattle.std.proofs.Common.{◌≡◌, ◌≤◌, ◌-◌, replicate, vec_len, vec_capacity}
use Rattle.lnbd_script.specs.declared.place.Place.TheVariants as place
use Rattle.lnbd_script.proofs.sessions.unused.Given as goal

abbrev pub invariant-places : goal.invariant-places
invariant-places l = record {
  items : l.places.items ≡ replicate (vec_len l.places) place.Unused;
  few : vec_len l.places ≤ 16;
  room : 16 ≤ vec_capacity l.places;
}

abbrev pub decreases-places : goal.decreases-places
decreases-places l = 16 - vec_len l.places
