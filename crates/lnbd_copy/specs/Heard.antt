-- How far the extents of a copy's source were heard.
use Rattle.std.specs.Prelude.{◌≡◌, ◌<◌, ◌≤◌, ◌&&◌, ◌||◌, nat_lt, ℕ, ◌+◌, ◌*◌, Bool, true, false, List, Option, Some, None}
use Rattle.lnbd_model.specs.declared.export.Extent.{Extent}
use Rattle.lnbd_extents.specs.Positions.{within}
use Rattle.lnbd_tracks.specs.Saying.{is_told, said_in}
use Rattle.lnbd_copy.specs.Windows.{Seen}

-- the position is one of the range, if there is one
abbrev pub has_position : (range : Option (ℕ × ℕ)) → ℕ → Bool
has_position None p = false
has_position (Some range) p = within range p

-- the positions of a range that these extents, laid from its beginning on, tell of, and those of its first block of this size
abbrev pub passed_within : (grain : ℕ) (range : ℕ × ℕ) → List Extent → ℕ → Bool
passed_within grain range told p = within range p && (said_in is_told range.0 told p || nat_lt p (range.0 + grain))

-- so it is with the extents that were told of a range, if one was asked for
abbrev pub passed_heard : (grain : ℕ) (range : Option (ℕ × ℕ)) → List Extent → ℕ → Bool
passed_heard grain None told p = false
passed_heard grain (Some range) told p = passed_within grain range told p

-- Each position before the place where asking goes on counts as heard, and so does all that is planned. That place is a whole number of blocks behind it.
pub record IsHeardTo (windows : Seen) (heard : ℕ → Bool) : Type 0 where
  pub planned : windows.plan.end ≤ windows.at
  pub before : (p : ℕ) → p < windows.at → heard p ≡ true
  pub blocks : ℕ
  pub steps : windows.at ≡ windows.plan.end + blocks * windows.grain
