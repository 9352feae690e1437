-- The limits of the options of a copy.
use Rattle.std.specs.Prelude.{ℕ, ◌≡◌, ◌≤◌, ◌⊎◌, true}
use Rattle.std.specs.Int.{is_power_of_two}
use Rattle.lnbd_records.specs.Limits.{max_data}
use Rattle.lnbd_plan.specs.declared.options.CopyOptions.{CopyOptions}

-- to each side, and the most requests on each connection
abbrev pub max_connections : ℕ
max_connections = 16

abbrev pub max_requests : ℕ
max_requests = 512

-- the least size of a request, and of a block that is looked at for zeros; the most is that of the data of one request
abbrev pub min_request_size : ℕ
min_request_size = 4096

abbrev pub min_sparse : ℕ
min_sparse = 512

-- A power of two between these.
pub record IsPowerWithin (least most n : ℕ) : Type 0 where
  pub power : is_power_of_two n ≡ true
  pub at_least : least ≤ n
  pub at_most : n ≤ most

-- The options are within their limits.
pub record AreLimited (options : CopyOptions) : Type 0 where
  -- one to 16 connections to each side, and one to 512 requests on each
  pub connected : 1 ≤ options.connections
  pub connections : options.connections ≤ max_connections
  pub requested : 1 ≤ options.requests
  pub requests : options.requests ≤ max_requests
  -- requests of 4,096 to 33,554,432 bytes, a power of two
  pub request_size : IsPowerWithin min_request_size max_data options.request_size
  -- blocks that are looked at for zeros have 512 to 33,554,432 bytes, a power of two; or none are looked at
  pub sparse : (options.sparse ≡ 0) ⊎ IsPowerWithin min_sparse max_data options.sparse
