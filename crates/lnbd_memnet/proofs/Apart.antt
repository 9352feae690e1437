-- What tests need of exports and schedules.
use Rattle.std.proofs.Common.{ℕ, zero, suc, ◌<◌, ◌≤◌, List, All, length, get_or, replicate, arith}
use Rattle.lnbd_memnet.specs.declared.hosted.Hosted.{Hosted}
use Rattle.lnbd_memnet.specs.declared.schedule.Step.{Step}
use Rattle.lnbd_memnet.specs.Network.{AreApart}

-- one export is apart
pub one_apart : (exports : List Hosted) → length exports ≤ 1 → AreApart exports
one_apart exports one = λ i j a b same. omega arith

-- copies of one step each move a byte
pub all_same : (step : Step) (count : ℕ) → 1 ≤ step.most → All (λ (s : Step). 1 ≤ s.most) (replicate count step)
all_same step count some = λ k d less. go count k d less
  where
    go : (n k : ℕ) (d : Step) → k < length (replicate n step) → 1 ≤ (get_or (replicate n step) k d).most
    go zero k d less = absurd (omega arith)
    go (suc n) zero d less = some
    go (suc n) (suc k) d less = go n k d (omega arith)
