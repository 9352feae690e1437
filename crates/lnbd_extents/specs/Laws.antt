-- The laws by which a proof speaks of positions and of flags, and opens no list.
use Rattle.std.specs.Prelude.{◌≡◌, ℕ, ◌+◌, ◌<◌, ◌≤◌, ◌↔◌, Bool, true, List, [], ◌∷◌, ◌++◌, ◌||◌, None, if◌then◌else◌, nat_lt, min}
use Rattle.lnbd_model.specs.declared.export.Extent.{Extent}
use Rattle.lnbd_extents.specs.Positions.{within, holds, any_at, all_at}
use Rattle.lnbd_extents.specs.Ranges.{with_positions, IsFrom}
use Rattle.lnbd_extents.specs.Lists.{span, flags_at, AreJoined, with_extent, clipped}

-- What is added is held, beside what was held.
abbrev pub AddedIsHeld : Type 0
AddedIsHeld = (start length : ℕ) (ranges : List (ℕ × ℕ)) (p : ℕ) → holds (with_positions start length ranges) p ≡ within (start, length) p || holds ranges p

-- All of a span is each of its positions, and some of it is one of them.
abbrev pub AllMeansEach : Type 0
AllMeansEach = (test : ℕ → Bool) (start length : ℕ) → (all_at test start length ≡ true) ↔ ((p : ℕ) → start ≤ p → p < start + length → test p ≡ true)

abbrev pub SomeMeansOne : Type 0
SomeMeansOne = (test : ℕ → Bool) (start length : ℕ) → (any_at test start length ≡ true) ↔ ((p : ℕ) × (start ≤ p) × (p < start + length) × (test p ≡ true))

-- Tests that agree on a span agree on all and on some of it.
abbrev pub AlikeAll : Type 0
AlikeAll = (test other : ℕ → Bool) (start length : ℕ) → ((p : ℕ) → start ≤ p → p < start + length → test p ≡ other p) → all_at test start length ≡ all_at other start length

abbrev pub AlikeSome : Type 0
AlikeSome = (test other : ℕ → Bool) (start length : ℕ) → ((p : ℕ) → start ≤ p → p < start + length → test p ≡ other p) → any_at test start length ≡ any_at other start length

-- Longest ranges that hold the same positions are the same list.
abbrev pub SamePositionsSameRanges : Type 0
SamePositionsSameRanges = (ranges more : List (ℕ × ℕ)) → IsFrom 0 ranges → IsFrom 0 more → ((p : ℕ) → holds ranges p ≡ holds more p) → ranges ≡ more

-- Each position keeps its flags where an extent is added.
abbrev pub JoiningKeepsFlags : Type 0
JoiningKeepsFlags = (extents : List Extent) (extent : Extent) (p : ℕ) → flags_at (with_extent extents extent) p ≡ flags_at (extents ++ extent ∷ []) p

abbrev pub JoiningKeepsLength : Type 0
JoiningKeepsLength = (extents : List Extent) (extent : Extent) → span (with_extent extents extent) ≡ span extents + extent.length

-- Each position below the cut keeps its flags, and the others have none.
abbrev pub CuttingKeepsFlags : Type 0
CuttingKeepsFlags = (length : ℕ) (extents : List Extent) (p : ℕ) → flags_at (clipped length extents) p ≡ (if nat_lt p length then flags_at extents p else None)

abbrev pub CuttingKeepsLength : Type 0
CuttingKeepsLength = (length : ℕ) (extents : List Extent) → span (clipped length extents) ≡ min length (span extents)

-- Joined extents that give each position the same flags are the same list.
abbrev pub SameFlagsSameExtents : Type 0
SameFlagsSameExtents = (extents more : List Extent) → AreJoined extents → AreJoined more → ((p : ℕ) → flags_at extents p ≡ flags_at more p) → extents ≡ more
