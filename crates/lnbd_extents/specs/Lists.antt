-- Lists of extents, laid end to end from position 0 on.
use Rattle.std.specs.Prelude.{◌≢◌, ℕ, ◌+◌, ◌-◌, ◌<◌, List, [], ◌∷◌, Option, Some, None, if◌then◌else◌, nat_le, nat_lt, ◌==◌, filter}
use Rattle.lnbd_model.specs.declared.export.Extent.{Extent}

-- how many positions they span
abbrev pub span : List Extent → ℕ
span [] = 0
span (extent ∷ extents) = extent.length + span extents

-- the flags of a position, if they reach it
abbrev pub flags_at : List Extent → ℕ → Option ℕ
flags_at [] p = None
flags_at (extent ∷ extents) p = if nat_lt p extent.length then Some extent.flags else flags_at extents (p - extent.length)

-- the first extent has other flags than these
abbrev pub StartsOtherwise : ℕ → List Extent → Type 0
StartsOtherwise flags [] = Unit {0}
StartsOtherwise flags (extent ∷ extents) = flags ≢ extent.flags

-- no extent is empty, and no two neighbours have the same flags
abbrev pub AreJoined : List Extent → Type 0
AreJoined [] = Unit {0}
AreJoined (extent ∷ extents) = (0 < extent.length) × StartsOtherwise extent.flags extents × AreJoined extents

-- these extents and one more, which goes into the last one where that has its flags
abbrev pub joining : List Extent → Extent → List Extent
joining [] extent = extent ∷ []
joining (only ∷ []) extent =
    if only.flags == extent.flags then record { length = only.length + extent.length; flags = only.flags } ∷ [] else only ∷ extent ∷ []
joining (first ∷ second ∷ more) extent = first ∷ joining (second ∷ more) extent

-- these extents and one more, if it isn't empty
abbrev pub with_extent : List Extent → Extent → List Extent
with_extent extents extent = if extent.length == 0 then extents else joining extents extent

-- the front of these extents, up to so many positions
abbrev pub clipped : ℕ → List Extent → List Extent
clipped n [] = []
clipped n (extent ∷ extents) =
    if n == 0 then []
    else if nat_le n extent.length then record { length = n; flags = extent.flags } ∷ []
    else extent ∷ clipped (n - extent.length) extents

-- the sum of the lengths of some extents, if there are any
abbrev pub sum_of : List Extent → Option ℕ
sum_of [] = None
sum_of (extent ∷ extents) = Some (span (extent ∷ extents))

-- the sum of the lengths of those with these flags, if there are any
abbrev pub total_at : List Extent → ℕ → Option ℕ
total_at extents flags = sum_of (filter (λ (extent : Extent). extent.flags == flags) extents)

-- extents as pairs of flags and length
abbrev pub by_flags : List Extent → List (ℕ × ℕ)
by_flags [] = []
by_flags (extent ∷ extents) = (extent.flags, extent.length) ∷ by_flags extents
