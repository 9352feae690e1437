-- Of what a transcript tells, the part since a start.
use Rattle.std.specs.Prelude.{◌≡◌, List, ◌++◌, Option, Some}
use Rattle.lnbd_link.specs.Call as wire

-- Of the calls of a transcript those since the start are so.
pub record Since (start : Option (List wire.Call)) (all : List wire.Call) (Is : List wire.Call → Type 0) : Type 0 where
  pub before : List wire.Call
  pub calls : List wire.Call
  pub was : start ≡ Some before
  pub now : all ≡ before ++ calls
  pub is : Is calls

-- Where the transcript is told, its calls since the start are so.
pub record Told (start told : Option (List wire.Call)) (Is : List wire.Call → Type 0) : Type 0 where
  pub since : (all : List wire.Call) → told ≡ Some all → Since start all Is

-- A front of the calls is so.
pub record AtSome (Is : List wire.Call → Type 0) (calls : List wire.Call) : Type 0 where
  pub before : List wire.Call
  pub after : List wire.Call
  pub are : calls ≡ before ++ after
  pub is : Is before
