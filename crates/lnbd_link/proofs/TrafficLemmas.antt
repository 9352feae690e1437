-- What two parts of a transcript say of one link.
use Rattle.std.proofs.Common.{◌≡◌, ℕ, List, ◌++◌}
use Rattle.std.proofs.lemmas.Grind.{flat_map-append}
use Rattle.lnbd_link.specs.Call.{Call}
use Rattle.lnbd_link.specs.Traffic.{came_by, went_by, bytes_read, bytes_written}

-- the bytes that came by both parts
pub bytes_read-append : (link : ℕ) (cs ds : List Call) → bytes_read link (cs ++ ds) ≡ bytes_read link cs ++ bytes_read link ds
bytes_read-append link cs ds = flat_map-append (came_by link) cs ds

-- the bytes that went by both parts
pub bytes_written-append : (link : ℕ) (cs ds : List Call) → bytes_written link (cs ++ ds) ≡ bytes_written link cs ++ bytes_written link ds
bytes_written-append link cs ds = flat_map-append (went_by link) cs ds
