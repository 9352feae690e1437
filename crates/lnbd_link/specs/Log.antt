-- What holds of a log.
use Rattle.std.specs.Prelude.{◌≡◌, ◌≤◌, ◌+◌, length, sum_by, vec_len, vec_capacity}
use Rattle.lnbd_link.specs.declared.log.Log.TheInside.{Inside}
use Rattle.lnbd_link.specs.Kept.{bytes_of, wants_of}

-- the bytes and wants are those of the calls, and there is room for more
pub record IsKept (a : Inside) : Type 0 where
  pub bytes : sum_by bytes_of a.kept.items ≡ length a.bytes.items
  pub wants : sum_by wants_of a.kept.items ≡ length a.wants.items
  pub kept_room : vec_len a.kept + a.room ≤ vec_capacity a.kept
  pub bytes_room : vec_len a.bytes + a.room ≤ vec_capacity a.bytes
  pub wants_room : vec_len a.wants + a.room ≤ vec_capacity a.wants
