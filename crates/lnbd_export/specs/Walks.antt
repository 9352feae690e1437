-- Where a walk over ranges turns, as this crate's code looks for it. No other crate cites these.
use Rattle.std.specs.Prelude.{◌≡◌, ℕ, zero, suc, ◌+◌, ◌<◌, ◌≤◌, Bool, not, List, if◌then◌else◌, nat_lt, length, get_or, min}
use Rattle.lnbd_export.specs.declared.statuses.Run.{Run}

-- where the range in front of a place ends, or 0
abbrev pub end_in_front : List (ℕ × ℕ) → ℕ → ℕ
end_in_front ranges zero = 0
end_in_front ranges (suc i) = (get_or ranges i (0, 0)).0 + (get_or ranges i (0, 0)).1

-- where the range at a place starts, but no further than the end
abbrev pub start_behind : List (ℕ × ℕ) → ℕ → ℕ → ℕ
start_behind ranges i end = if nat_lt i (length ranges) then min (get_or ranges i (0, 0)).0 end else end

-- positions told alike begin here, and what ends them
pub record IsRun (zeros : ℕ → Bool) (at end : ℕ) (run : Run) : Type 0 where
  pub some : 0 < run.length
  pub within : at + run.length ≤ end
  pub alike : (p : ℕ) → at ≤ p → p < at + run.length → zeros p ≡ run.zero
  pub otherwise : at + run.length < end → zeros (at + run.length) ≡ not run.zero

-- from a position on all is told alike up to here, which is behind it and no further than the end
pub record IsReach (zeros : ℕ → Bool) (at end until : ℕ) : Type 0 where
  pub some : at < until
  pub within : until ≤ end
  pub alike : (p : ℕ) → at ≤ p → p < until → zeros p ≡ zeros at
