-- What is so of a front of the calls stays so while calls are added.
use Rattle.std.specs.Prelude.{◌≡◌, List, Option, Some}
use Rattle.lnbd_link.specs.Call as wire
use Rattle.lnbd_conduct.specs.Told.{AtSome}

-- The transcript goes on, where it is told.
pub record Lasts (told told' : Option (List wire.Call)) : Type 0 where
  pub on : (all : List wire.Call) → told' ≡ Some all → AtSome (λ before. told ≡ Some before) all
