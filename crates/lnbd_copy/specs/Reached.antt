-- How far a copy's source was told of: the positions that extents reach which were told.
use Rattle.std.specs.Prelude.{◌≡◌, ◌<◌, ◌≤◌, ℕ, ◌+◌, Bool, true, false, ◌&&◌, List, Option, Some, None}
use Rattle.lnbd_model.specs.declared.export.Extent.{Extent}
use Rattle.lnbd_extents.specs.Positions.{within}
use Rattle.lnbd_tracks.specs.Saying.{is_told, said_in}
use Rattle.lnbd_copy.specs.Windows.{Seen, window_end}

-- the positions of a range that these extents, laid from its beginning on, tell of
abbrev pub told_within : (range : ℕ × ℕ) → List Extent → ℕ → Bool
told_within range told p = within range p && said_in is_told range.0 told p

-- so it is with the extents that were told of a range, if one was asked for
abbrev pub told_heard : (range : Option (ℕ × ℕ)) → List Extent → ℕ → Bool
told_heard None told p = false
told_heard (Some range) told p = told_within range told p

-- No more was told than is planned, and less than one block from the place on where asking goes on, which is not all of the window under way.
pub record IsToldTo (windows : Seen) (reach : ℕ → Bool) : Type 0 where
  pub near : (p : ℕ) → reach p ≡ true → windows.plan.end ≤ p → p < windows.at + windows.grain
  pub inside : (p : ℕ) → reach p ≡ true → windows.plan.end ≤ p → p + 1 < window_end windows
