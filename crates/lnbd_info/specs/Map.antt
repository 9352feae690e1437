-- The texts of a map and of its totals: nbdinfo(1), "Map". A map is a list of extents, laid end to end from offset 0 on.
use Rattle.std.specs.Prelude.{◌≡◌, ℕ, ◌+◌, ◌-◌, ◌*◌, ◌/◌, ◌%◌, ◌<◌, ◌≤◌, ◌^◌, Bool, if◌then◌else◌, ◌==◌, List, [], ◌∷◌, ◌++◌, codes, decimal, flat_map, length, replicate}
use Rattle.lnbd_model.specs.declared.export.Extent.{Extent}
use Rattle.lnbd_records.specs.Flags.{state_hole, state_zero}
use Rattle.lnbd_keyed.specs.Keyed.{value_at, IsRising}
use Rattle.lnbd_extents.specs.Lists.{AreJoined, by_flags, flags_at, span, total_at}

-- the first size that no export has (libnbd: sizes are below 2 ^ 63), and so the most bytes of a map
abbrev pub size_end : ℕ
size_end = 2 ^ 63

-- ---- what is told of positions becomes a map

-- Each position has the flags that were told of it, and neighbours differ.
pub record IsMapOf (told map : List Extent) : Type 0 where
  pub flags : (p : ℕ) → flags_at map p ≡ flags_at told p
  pub all : span map ≡ span told
  pub joined : AreJoined map

-- One extent for each value of the flags, in rising order of flags: the sum of the lengths that have it.
pub record AreTotals (map totals : List Extent) : Type 0 where
  pub rising : IsRising (by_flags totals)
  pub sums : (flags : ℕ) → value_at flags (by_flags totals) ≡ total_at map flags

-- no extent of length 0
abbrev pub AreFilled : List Extent → Type 0
AreFilled [] = Unit {0}
AreFilled (extent ∷ extents) = (0 < extent.length) × AreFilled extents

-- ---- columns

-- a text at the right of so many places, and whole where it has more
abbrev pub right : ℕ → List ℕ → List ℕ
right places text = replicate (places - length text) 32 ++ text

-- flags of base:allocation in words: the protocol's "base:allocation metadata context"
abbrev pub allocation_text : ℕ → List ℕ
allocation_text flags =
    if flags == 0 then codes "data"
    else if flags == state_hole then codes "hole"
    else if flags == state_zero then codes "zero"
    else if flags == state_hole + state_zero then codes "hole,zero"
    else codes "unknown"

-- the flags, and where they are of base:allocation the words for them
abbrev pub flags_text : Bool → ℕ → List ℕ
flags_text allocation flags = right 3 (decimal flags) ++ (if allocation then codes "  " ++ allocation_text flags else [])

-- ---- the lines of a map

-- the offset, the length and the flags
abbrev pub map_line : Bool → (offset : ℕ) → Extent → List ℕ
map_line allocation offset extent =
    right 10 (decimal offset) ++ (codes "  " ++ (right 10 (decimal extent.length) ++ (codes "  " ++ (flags_text allocation extent.flags ++ codes "\n"))))

-- a line for each extent, the first of which begins at this offset
abbrev pub map_lines : Bool → (offset : ℕ) → List Extent → List ℕ
map_lines allocation offset [] = []
map_lines allocation offset (extent ∷ extents) = map_line allocation offset extent ++ map_lines allocation (offset + extent.length) extents

abbrev pub map_text : Bool → List Extent → List ℕ
map_text allocation map = map_lines allocation 0 map

-- ---- the lines of totals

-- tenths of a percent, rounded down
abbrev pub tenths : (sum whole : ℕ) → ℕ
tenths sum whole = sum * 1000 / whole

abbrev pub tenths_text : ℕ → List ℕ
tenths_text n = decimal (n / 10) ++ (codes "." ++ decimal (n % 10))

-- some bytes of a whole
abbrev pub IsPartOf : ℕ → Extent → Type 0
IsPartOf whole part = (0 < part.length) × (part.length ≤ whole)

-- the sum, how much it is of the whole, and the flags
abbrev pub totals_line : Bool → (whole : ℕ) → Extent → List ℕ
totals_line allocation whole total =
    right 10 (decimal total.length) ++ (codes "  " ++ (right 5 (tenths_text (tenths total.length whole)) ++ (codes "%  " ++ (flags_text allocation total.flags ++ codes "\n"))))

-- a line for each of these totals
abbrev pub totals_lines : Bool → (whole : ℕ) → List Extent → List ℕ
totals_lines allocation whole totals = flat_map (totals_line allocation whole) totals

-- the text is the lines of the totals of this map
abbrev pub IsTotalsText : Bool → List Extent → List ℕ → Type 0
IsTotalsText allocation map text = (totals : List Extent) × AreTotals map totals × (text ≡ totals_lines allocation (span map) totals)
