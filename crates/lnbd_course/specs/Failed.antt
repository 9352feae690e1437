-- What the calls of a copy show of a command that failed.
use Rattle.std.specs.Prelude.{◌≡◌, ◌≢◌, ℕ, Bool, List, [], ◌∷◌, ◌++◌, Option, Some, None}
use Rattle.lnbd_model.specs.declared.errors.TheConstants.{ENOTCONN}
use Rattle.lnbd_model.specs.declared.failure.Failure.{Failure}
use Rattle.lnbd_model.specs.declared.target.Place.{Place}
use Rattle.lnbd_callbacks.specs.Steps.{OneByOne}
use Rattle.lnbd_outcome.specs.Outcome.{failure_of}
use Rattle.lnbd_link.specs.Call as wire
use Rattle.lnbd_history.specs.Commands.{Command}
use Rattle.lnbd_history.specs.Events.{History}
use Rattle.lnbd_machine.specs.Machine.{Machine}
use Rattle.lnbd_standing.specs.Standing.{StandsFor}
use Rattle.lnbd_asked.specs.Link.{Nobody}
use Rattle.lnbd_asked.specs.Transcript.{dealt_with}
use Rattle.lnbd_poll.specs.Seen.{Seen}
use Rattle.lnbd_poll.specs.Turns.{Turns, Whole}
use Rattle.lnbd_plan.specs.declared.grid.Slice.{Slice}
use Rattle.lnbd_board.specs.declared.how.How.{How}
use Rattle.lnbd_board.specs.declared.ticket.Ticket.{Ticket}
use Rattle.lnbd_board.specs.Files as board
use Rattle.lnbd_tracks.specs.Failing.{failure_by}
use Rattle.lnbd_course.specs.Between.{Between, place_of}

-- By these calls a command was asked of this export, and it came to this failure.
pub record Fails (place : Place) (why : Failure) (calls : List wire.Call) : Type 0 where
  pub link : ℕ
  pub cookie : ℕ
  pub command : Command Nobody
  pub asked : (dealt_with place calls).asked link cookie ≡ Some command
  pub came : failure_of ((dealt_with place calls).outcome link cookie) ≡ Some why

-- So it is with one of the two places.
pub record SideFails (from to : Place) (why : Failure) (calls : List wire.Call) : Type 0 where
  pub source : Bool
  pub fails : Fails (place_of from to source) why calls

-- A handle stands for this history.
pub record HasHandle (history : History Ticket) : Type 0 where
  pub limit : ℕ
  pub handle : Machine Ticket
  pub stands : StandsFor limit history handle

abbrev pub AllStand : List (Seen Ticket) → Type 0
AllStand [] = Unit {0}
AllStand (seen ∷ others) = HasHandle seen.history × AllStand others

-- An error that a board without one has after a turn, but that of a lost connection, is that of a command which the calls show.
abbrev pub TurnsFail : Type 0
TurnsFail = (from to : Place) (size : Option ℕ) (how : How) (has : ℕ → Bool) (slices : List Slice) (now now' : board.Seen) (calls part : List wire.Call) (before after : List (Seen Ticket)) (moved : Option ℕ) (error : ℕ) →
    Between from to size how has slices now calls before → now.error ≡ None → Turns (OneByOne board.Files) before now part after now' (Whole moved) → AllStand after → now'.error ≡ Some error → error ≢ ENOTCONN →
    SideFails from to (failure_by error) (calls ++ part)
