-- What the calls of a copy to a file, or from one, show of the commands of its handles.
use Rattle.std.specs.Prelude.{◌≡◌, ◌≢◌, ◌++◌, ℕ, List, Option, Some, None}
use Rattle.lnbd_callbacks.specs.Steps.{OneByOne}
use Rattle.lnbd_model.specs.declared.target.Place.{Place}
use Rattle.lnbd_model.specs.declared.failure.Failure.{Failure}
use Rattle.lnbd_link.specs.Call as wire
use Rattle.lnbd_asked.specs.Transcript.{dealt_with}
use Rattle.lnbd_poll.specs.Seen.{Seen}
use Rattle.lnbd_poll.specs.Turns.{Turns, Whole}
use Rattle.lnbd_plan.specs.declared.grid.Slice.{Slice}
use Rattle.lnbd_board.specs.declared.how.How.{How}
use Rattle.lnbd_board.specs.declared.ticket.Ticket.{Ticket}
use Rattle.lnbd_board.specs.Files as board
use Rattle.lnbd_board.specs.Rows.{busy}
use Rattle.lnbd_model.specs.declared.errors.TheConstants.{EPROTO, ENOTCONN}
use Rattle.lnbd_tracks.specs.Failing.{failure_by}
use Rattle.lnbd_tracks.specs.Laws.{moves_bytes}
use Rattle.lnbd_tracks.specs.Unanswered.{AreUnanswered}
use Rattle.lnbd_course.specs.Failed.{AllStand, Fails}
use Rattle.lnbd_course.specs.Far.{Far}
use Rattle.lnbd_course.specs.FarCourse.{FarCourse}
use Rattle.lnbd_course.specs.Told.{Known}
use Rattle.lnbd_course.specs.UnderWay.{AllHeld, NoneWrites}

-- While the board was told of no error, no command failed by the calls.
abbrev pub UnfailedShowsFar : Type 0
UnfailedShowsFar = (far : Far) (at : Place) (size : Option ℕ) (how : How) (slices : List Slice) (now : board.Seen) (calls : List wire.Call) (seens : List (Seen Ticket)) (wanted : Option (ℕ × ℕ))
    (known : Known) →
    FarCourse far at size how slices now calls seens wanted known → AllStand seens → now.error ≡ None → (why : Failure) → Fails at why calls → ⊥

-- Where no handle has anything to write, and no error was told, as many READ, WRITE and WRITE_ZEROES of the export are unanswered as rows of the board have a request
-- under way.
abbrev pub QuietCountsFar : Type 0
QuietCountsFar = (far : Far) (at : Place) (size : Option ℕ) (how : How) (slices : List Slice) (now : board.Seen) (calls : List wire.Call) (seens : List (Seen Ticket)) (wanted : Option (ℕ × ℕ))
    (known : Known) →
    FarCourse far at size how slices now calls seens wanted known → now.error ≡ None → AllStand seens → NoneWrites seens → AllHeld calls seens →
    AreUnanswered moves_bytes (dealt_with at calls) (busy now.rows)

-- An error that a board without one has after a turn, but that of a lost connection, is that of a command which the calls show.
abbrev pub TurnsFailFar : Type 0
TurnsFailFar = (far : Far) (at : Place) (size : Option ℕ) (how : How) (slices : List Slice) (now now' : board.Seen) (calls part : List wire.Call) (before after : List (Seen Ticket))
    (wanted : Option (ℕ × ℕ)) (known : Known) (moved : Option ℕ) (error : ℕ) →
    FarCourse far at size how slices now calls before wanted known → now.error ≡ None → Turns (OneByOne board.Files) before now part after now' (Whole moved) → AllStand after →
    now'.error ≡ Some error → error ≢ ENOTCONN → Fails at (failure_by error) (calls ++ part)

-- Where the calls show after a turn that a command came to faulty content, that is the error of a board that had none, whatever else it was told.
abbrev pub TurnsTellContentFar : Type 0
TurnsTellContentFar = (far : Far) (at : Place) (size : Option ℕ) (how : How) (slices : List Slice) (now now' : board.Seen) (calls part : List wire.Call) (before after : List (Seen Ticket))
    (wanted : Option (ℕ × ℕ)) (known : Known) (moved : Option ℕ) →
    FarCourse far at size how slices now calls before wanted known → now.error ≡ None → Turns (OneByOne board.Files) before now part after now' (Whole moved) → AllStand after →
    Fails at (failure_by EPROTO) (calls ++ part) → now'.error ≡ Some EPROTO
