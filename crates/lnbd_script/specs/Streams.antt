-- What writes leave that do not all succeed.
use Rattle.std.specs.Prelude.{◌≡◌, ℕ, List, ◌++◌, Option}
use Rattle.lnbd_link.specs.Part.{Takes}

-- all of some bytes was taken, and behind them a front of others
pub record TakesAllAndFront (old new : Option (List ℕ)) (bytes others : List ℕ) : Type 0 where
  pub front : List ℕ
  pub rest : List ℕ
  pub split : others ≡ front ++ rest
  pub taken : Takes old new (bytes ++ front)
