-- The status of positions, as descriptors: the protocol's "base:allocation metadata context".
use Rattle.std.specs.Prelude.{◌≡◌, ℕ, ◌+◌, ◌<◌, Bool, false, List, [], ◌∷◌, length, get_or, Some, if◌then◌else◌, ◌==◌}
use Rattle.lnbd_model.specs.declared.export.Extent.{Extent}
use Rattle.lnbd_records.specs.Flags.{state_hole, state_zero}
use Rattle.lnbd_extents.specs.Lists.{span, flags_at, AreJoined}

-- HOLE and ZERO where the position is told as zero, and else neither
abbrev pub status_of : Bool → ℕ
status_of told = if told then state_hole + state_zero else 0

-- one position more in front of these
abbrev pub longer : ℕ → List Extent → List Extent
longer flags [] = record { length = 1; flags = flags } ∷ []
longer flags (first ∷ more) =
    if first.flags == flags then record { length = first.length + 1; flags = flags } ∷ more
    else record { length = 1; flags = flags } ∷ first ∷ more

-- the status of positions by their flags: neighbours with the same are one descriptor
abbrev pub statuses : List Bool → List Extent
statuses [] = []
statuses (told ∷ more) = longer (status_of told) (statuses more)

-- Each position has its own status, no other is told, and neighbours differ.
pub record AreStatuses (flags : List Bool) (extents : List Extent) : Type 0 where
  pub status : (i : ℕ) → i < length flags → flags_at extents i ≡ Some (status_of (get_or flags i false))
  pub all : span extents ≡ length flags
  pub joined : AreJoined extents

abbrev pub StatusesAreExact : Type 0
StatusesAreExact = (flags : List Bool) → AreStatuses flags (statuses flags)
