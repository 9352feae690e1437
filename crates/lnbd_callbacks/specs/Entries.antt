-- How a note counts extents.
use Rattle.std.specs.Prelude.{ℕ, List, length, min, ◌-◌, ◌^◌}
use Rattle.lnbd_model.specs.declared.export.Extent.{Extent}

-- their number, or 2^32 - 1 where there are more
abbrev pub count_of : List Extent → ℕ
count_of entries = min (length entries) (2 ^ 32 - 1)
