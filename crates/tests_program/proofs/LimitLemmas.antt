-- The options of the copies that are turned are within the limits.
use Rattle.std.proofs.Common.{◌≡◌, true, false, inr, refl, arith}
use Rattle.std.specs.Int.{is_power_of_two}
use Rattle.std.specs.Int.RustNames.{count_ones}
use Rattle.lnbd_conduct.specs.Limits.{AreLimited}

larger : is_power_of_two 262144 ≡ true
unfolding count_ones
larger = refl

smaller : is_power_of_two 4096 ≡ true
unfolding count_ones
smaller = refl

pub turned_limited : AreLimited (record { connections = 2; requests = 1; request_size = 4096; sparse = 4096; extents = true; allocated = false; destination_is_zero = false; flush = true })
turned_limited = record {
  connected = omega arith;
  connections = omega arith;
  requested = omega arith;
  requests = omega arith;
  request_size = record { power = smaller; at_least = omega arith; at_most = omega arith };
  sparse = inr (record { power = smaller; at_least = omega arith; at_most = omega arith });
}

pub usual_limited : AreLimited (record { connections = 4; requests = 64; request_size = 262144; sparse = 4096; extents = true; allocated = false; destination_is_zero = false; flush = false })
usual_limited = record {
  connected = omega arith;
  connections = omega arith;
  requested = omega arith;
  requests = omega arith;
  request_size = record { power = larger; at_least = omega arith; at_most = omega arith };
  sparse = inr (record { power = smaller; at_least = omega arith; at_most = omega arith });
}
