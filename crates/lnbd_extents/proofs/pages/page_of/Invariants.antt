use Rattle.std.proofs.Common.{◌≡◌, ◌-◌, ◌<◌, ◌≤◌, ◌⊎◌, length}
use Rattle.lnbd_extents.specs.Pages.{start_at}
use Rattle.lnbd_extents.proofs.pages.page_of.Given as goal

abbrev pub invariant-loop-low : goal.invariant-loop-low
invariant-loop-low l = record {
  low : (l.low ≡ 0) ⊎ (start_at l.pages l.low ≤ l.position);
  high : l.high < length l.pages → l.position < start_at l.pages l.high;
  order : l.low < l.high;
  inside : l.high ≤ length l.pages;
}

abbrev pub decreases-loop-low : goal.decreases-loop-low
decreases-loop-low l = l.high - l.low
