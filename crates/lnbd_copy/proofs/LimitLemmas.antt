-- No slice is longer than a request of it may be, by what both exports told.
use Rattle.std.proofs.Common.{◌≡◌, ◌<◌, ◌≤◌, ◌%◌, ◌==◌, ℕ, Bool, true, false, not, max, min, nat_le, nat_lt, Option, Some, None, if◌then◌else◌, refl, arith}
use Rattle.std.proofs.lemmas.Bool.{leb-false, ltb-false}
use Rattle.lnbd_model.specs.declared.export.Blocks.{Blocks}
use Rattle.lnbd_model.specs.declared.export.ExportInfo.{ExportInfo}
use Rattle.lnbd_records.specs.Flags.{flag_read_only}
use Rattle.lnbd_records.specs.Limits.{max_data, max_range}
use Rattle.lnbd_records.specs.Numbers.{has_bit}
use Rattle.lnbd_history.specs.Refusals.{payload_limit}
use Rattle.lnbd_plan.specs.declared.fault.Rule.{Rule}
use Rattle.lnbd_plan.specs.declared.fault.Rule.TheVariants as rule
use Rattle.lnbd_plan.specs.declared.options.CopyOptions.{CopyOptions}
use Rattle.lnbd_conduct.specs.Terms as both
use Rattle.lnbd_copy.proofs.PowerLemmas.{power_most}
use Rattle.lnbd_copy.proofs.UntouchedLemmas.{grain_some}

-- What a copy counts as the most bytes of a request its handle does too.

most_taken : (told : Option Blocks) → both.most_bytes told ≤ payload_limit told
most_taken None = omega arith
most_taken (Some told) = elim (nat_le max_data told.maximum) as (λ b. min told.maximum max_data ≤ (if b then max_data else told.maximum)) [ true ↦ omega arith | false ↦ omega arith ]

pub payload_small : (told : Option Blocks) → payload_limit told ≤ max_range
payload_small None = omega arith
payload_small (Some told) = elim (nat_le max_data told.maximum) as (λ b. nat_le max_data told.maximum ≡ b → (if b then max_data else told.maximum) ≤ max_range) [
  | true ↦ λ e. omega arith
  | false ↦ λ e. let less = leb-false max_data told.maximum e in omega (arith, less)
] refl

-- Where no rule is broken blocks are no larger than that, and so no cell is.

none_unfit : (read_only smaller uneven unfit : Bool) (a b c d : Rule) → (if read_only then Some a else if smaller then Some b else if uneven then Some c else if unfit then Some d else None) ≡ None → unfit ≡ false
none_unfit true smaller uneven unfit a b c d none = absurd (cc)
none_unfit false true uneven unfit a b c d none = absurd (cc)
none_unfit false false true unfit a b c d none = absurd (cc)
none_unfit false false false true a b c d none = absurd (cc)
none_unfit false false false false a b c d none = refl

grain_few : (source destination : ExportInfo) → both.broken_rule source destination ≡ None → both.grain source destination ≤ both.limit source destination
grain_few source destination none =
    ltb-false (both.limit source destination) (both.grain source destination)
    (none_unfit (has_bit flag_read_only destination.flags) (nat_lt destination.size source.size) (not (source.size % both.grain source destination == 0)) (nat_lt (both.limit source destination) (both.grain source destination))
    rule.ReadOnly (rule.Smaller source.size destination.size) (rule.Uneven source.size (both.grain source destination)) (rule.Unfit (both.grain source destination) (both.limit source destination)) none)

larger_few : (power grain size limit : ℕ) → power ≤ max (min size limit) 1 → 0 < grain → grain ≤ limit → max power grain ≤ limit
larger_few power grain size limit small some fits = omega (arith, small, some, fits)

smaller_few : (n one other most : ℕ) → n ≤ min one other → one ≤ most → n ≤ most
smaller_few n one other most few fits = omega (arith, few, fits)

other_few : (n one other most : ℕ) → n ≤ min one other → other ≤ most → n ≤ most
other_few n one other most few fits = omega (arith, few, fits)

module _ (options : CopyOptions) (source destination : ExportInfo) (none : both.broken_rule source destination ≡ None) where
  cell_few : both.cell options source destination ≤ both.limit source destination
  cell_few =
      larger_few (both.greatest_power 25 (min options.request_size (both.limit source destination))) (both.grain source destination) options.request_size (both.limit source destination)
      (power_most 25 (min options.request_size (both.limit source destination))) (grain_some source destination) (grain_few source destination none)

  pub cell_read : both.cell options source destination ≤ payload_limit source.blocks
  cell_read = smaller_few (both.cell options source destination) (both.most_bytes source.blocks) (both.most_bytes destination.blocks) (payload_limit source.blocks) cell_few (most_taken source.blocks)

  pub cell_written : both.cell options source destination ≤ payload_limit destination.blocks
  cell_written = other_few (both.cell options source destination) (both.most_bytes source.blocks) (both.most_bytes destination.blocks) (payload_limit destination.blocks) cell_few (most_taken destination.blocks)

  pub zero_cell_zeroed : both.zero_cell options source destination ≤ (if both.takes_zeroes destination then max_range else payload_limit destination.blocks)
  zero_cell_zeroed = elim (both.takes_zeroes destination) as (λ b. (if b then both.max_zeroes else both.cell options source destination) ≤ (if b then max_range else payload_limit destination.blocks)) [ true ↦ omega arith | false ↦ cell_written ]
