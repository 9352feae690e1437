-- A transcript goes on without a link more, and without a connect that gave none.
use Rattle.std.specs.Prelude.{◌≡◌, ℕ, false, List, ◌++◌, Option, Some}
use Rattle.lnbd_link.specs.Call as wire
use Rattle.lnbd_link.specs.Numbers.{is_given}
use Rattle.lnbd_conduct.specs.Links.{AllConnected}

-- These calls are those of a transcript and others behind them, none of which gave a link, and none is a connect that failed.
pub record GaveNone (told : Option (List wire.Call)) (all : List wire.Call) : Type 0 where
  pub before : List wire.Call
  pub more : List wire.Call
  pub was : told ≡ Some before
  pub are : all ≡ before ++ more
  pub none : (link : ℕ) → is_given link more ≡ false
  pub connected : AllConnected more

-- Where it is told, the transcript goes on by such calls.
pub record GivesNone (told told' : Option (List wire.Call)) : Type 0 where
  pub on : (all : List wire.Call) → told' ≡ Some all → GaveNone told all
