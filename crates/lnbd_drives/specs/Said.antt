-- What a link says of the commands of the handle that drives it.
use Rattle.std.specs.Prelude.{◌≡◌, ℕ, List}
use Rattle.std.specs.Option.{option_map}
use Rattle.lnbd_outcome.specs.Outcome.{Done}
use Rattle.lnbd_history.specs.Events.{History}
use Rattle.lnbd_history.specs.History.{request}
use Rattle.lnbd_asked.specs.Driven.{outcome_after}
use Rattle.lnbd_asked.specs.Link.{Link}
use Rattle.lnbd_asked.specs.Transcript.{bare, asked_on, answered}

module _ {K : Type 0} where
  -- It says of each command that it was asked, and what it comes to where no callback has a say.
  pub record SaysAll (history : History K) (link : Link) : Type 0 where
    pub requests : (cookie : ℕ) → asked_on link cookie ≡ option_map bare (request history cookie)
    pub outcomes : (cookie : ℕ) → answered link cookie ≡ outcome_after history cookie

  -- It says of one command that it was asked, and done with these bytes.
  pub record SaysDone (history : History K) (link : Link) (cookie : ℕ) (bytes : List ℕ) : Type 0 where
    pub asks : asked_on link cookie ≡ option_map bare (request history cookie)
    pub done : answered link cookie ≡ Done bytes
