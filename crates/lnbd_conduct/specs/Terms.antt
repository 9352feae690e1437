-- On which terms a copy is made, by its options and what both sides told of themselves.
use Rattle.std.specs.Prelude.{ℕ, ◌&&◌, nat_lt, nat_le, Option, Some, None, if◌then◌else◌, min, max, ◌%◌, not, ◌==◌, ◌^◌, zero, suc, ◌||◌, Bool, ◌≡◌, ◌*◌, ◌/◌}
use Rattle.lnbd_model.specs.declared.export.Blocks.{Blocks}
use Rattle.lnbd_model.specs.declared.export.ExportInfo.{ExportInfo}
use Rattle.lnbd_records.specs.Limits.{max_minimum_block, max_data}
use Rattle.lnbd_records.specs.Flags.{flag_read_only, flag_send_write_zeroes, flag_send_flush}
pub use Rattle.lnbd_records.specs.Flags.{flag_can_multi_conn}
use Rattle.lnbd_records.specs.Numbers.{has_bit}
use Rattle.lnbd_plan.specs.declared.fault.Rule.{Rule}
use Rattle.lnbd_plan.specs.declared.options.CopyOptions.{CopyOptions}
use Rattle.lnbd_plan.specs.declared.fault.Rule.TheVariants as rule
use Rattle.lnbd_board.specs.declared.how.How.{How}
use Rattle.lnbd_conduct.specs.declared.sides.Sides.{Sides}
use Rattle.lnbd_conduct.specs.declared.terms.Terms.{Terms}

-- the block of which all offsets and lengths are multiples: 1 where none is told
abbrev pub least_block : Option Blocks → ℕ
least_block None = 1
least_block (Some told) = if nat_lt 0 told.minimum && nat_le told.minimum max_minimum_block then told.minimum else 1

-- the most bytes of a read or a write
abbrev pub most_bytes : Option Blocks → ℕ
most_bytes None = max_data
most_bytes (Some told) = min told.maximum max_data

-- the larger least block of the two sides, and the smaller limit
abbrev pub grain : (source destination : ExportInfo) → ℕ
grain source destination = max (least_block source.blocks) (least_block destination.blocks)

abbrev pub limit : (source destination : ExportInfo) → ℕ
limit source destination = min (most_bytes source.blocks) (most_bytes destination.blocks)

-- The first rule that does not hold.
abbrev pub broken_rule : (source destination : ExportInfo) → Option Rule
broken_rule source destination =
    if has_bit flag_read_only destination.flags then Some rule.ReadOnly
    else if nat_lt destination.size source.size then Some (rule.Smaller source.size destination.size)
    else if not (source.size % grain source destination == 0) then Some (rule.Uneven source.size (grain source destination))
    else if nat_lt (limit source destination) (grain source destination) then Some (rule.Unfit (grain source destination) (limit source destination))
    else None

-- it, of those from 2 ^ 0 to 2 ^ exponent; 1 where none is that small
unfoldable pub greatest_power : (exponent most : ℕ) → ℕ
greatest_power zero most = 1
greatest_power (suc exponent) most = if nat_le (2 ^ suc exponent) most then 2 ^ suc exponent else greatest_power exponent most

-- `max_data` is this power of two
abbrev pub max_exponent : ℕ
max_exponent = 25

-- Slices of data are cut at multiples of the cell: the greatest power of two that is no larger than a request may be, by the options and for both sides, or
-- the grain, where that is larger.
abbrev pub cell : CopyOptions → (source destination : ExportInfo) → ℕ
cell options source destination = max (greatest_power max_exponent (min options.request_size (limit source destination))) (grain source destination)

-- The blocks that are looked at for zeros are as large as the options say, and no smaller than the destination's least block. None are looked at, and the size is 0, where the
-- options say 0, or where the blocks would be larger than a cell.
abbrev pub sparse_block : CopyOptions → (destination : ExportInfo) → (cell : ℕ) → ℕ
sparse_block options destination cell = if options.sparse == 0 || nat_lt cell (max options.sparse (least_block destination.blocks)) then 0 else max options.sparse (least_block destination.blocks)

abbrev pub takes_zeroes : ExportInfo → Bool
takes_zeroes info = has_bit flag_send_write_zeroes info.flags

abbrev pub takes_flush : ExportInfo → Bool
takes_flush info = has_bit flag_send_flush info.flags

-- how the destination is written to
abbrev pub how_by : CopyOptions → (source destination : ExportInfo) → How
how_by options source destination = record {
  block = sparse_block options destination (cell options source destination);
  skip = options.destination_is_zero;
  zeroes = takes_zeroes destination;
  allocated = options.allocated;
}

-- the most bytes of a request that zeroes
abbrev pub max_zeroes : ℕ
max_zeroes = 134217728

-- slices of zeros are cut at its multiples
abbrev pub zero_cell : CopyOptions → (source destination : ExportInfo) → ℕ
zero_cell options source destination = if takes_zeroes destination then max_zeroes else cell options source destination

-- how many connections a side has: as many as the options say where it tells that it may have many, or else one
abbrev pub connections : CopyOptions → ExportInfo → ℕ
connections options info = if has_bit flag_can_multi_conn info.flags then max options.connections 1 else 1

abbrev pub sides_by : CopyOptions → (source destination : ExportInfo) → Sides
sides_by options source destination = record { source = connections options source; destination = connections options destination }

-- the most bytes of data slices that are begun and not over
abbrev pub max_under_way : ℕ
max_under_way = 1073741824

-- As many as there may be requests on all connections of the side that has fewer, and no more than have so many bytes.
pub record IsLimited (options : CopyOptions) (terms : Terms) : Type 0 where
  pub is : terms.limit ≡ min (options.requests * min terms.sides.source terms.sides.destination) (max_under_way / terms.cell)
