-- What a copy is asked for where its words name no option is within the limits.
use Rattle.std.proofs.Common.{◌≡◌, true, inr, refl, arith}
use Rattle.std.specs.Int.{is_power_of_two}
use Rattle.std.specs.Int.RustNames.{count_ones}
use Rattle.lnbd_conduct.specs.Limits.{AreLimited}
use Rattle.lnbd_rehearsal.specs.Rehearsed.{usual}

larger : is_power_of_two 262144 ≡ true
unfolding count_ones
larger = refl

smaller : is_power_of_two 4096 ≡ true
unfolding count_ones
smaller = refl

pub usual_limited : AreLimited usual
usual_limited = record {
  connected = omega arith;
  connections = omega arith;
  requested = omega arith;
  requests = omega arith;
  request_size = record { power = larger; at_least = omega arith; at_most = omega arith };
  sparse = inr (record { power = smaller; at_least = omega arith; at_most = omega arith });
}
