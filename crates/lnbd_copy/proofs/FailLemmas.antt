-- An error that a board was told in a turn is that of a command which the calls show; and faulty content that they show it was told.
use Rattle.std.proofs.Common.{◌≡◌, ◌≢◌, ℕ, Bool, List, [], ◌∷◌, ◌++◌, Option, Some, None}
use Rattle.lnbd_model.specs.declared.errors.TheConstants.{ENOTCONN, EPROTO}
use Rattle.lnbd_callbacks.specs.Calls.{Call}
use Rattle.lnbd_callbacks.specs.Steps.{OneByOne}
use Rattle.lnbd_handle.specs.Histories.{max_unretired}
use Rattle.lnbd_link.specs.Call as wire
use Rattle.lnbd_poll.specs.Held.{Held, AreAt}
use Rattle.lnbd_poll.specs.Seen.{Seen}
use Rattle.lnbd_poll.specs.Turns.{Turns, Whole}
use Rattle.lnbd_board.specs.declared.ticket.Ticket.{Ticket}
use Rattle.lnbd_board.specs.Files as board
use Rattle.lnbd_tracks.specs.Failing.{failure_by}
use Rattle.lnbd_course.specs.Failed.{AllStand, SideFails}
use Rattle.lnbd_course.proofs.Failing.{turns_fail}
use Rattle.lnbd_course.proofs.Unfailed.{turns_tell_content}
use Rattle.lnbd_copy.specs.Way.{IsUnderWay, Way, known_of}

abbrev steps : board.Seen → List (Call Ticket) → board.Seen → Type 0
steps = OneByOne board.Files

-- A turn from a board without an error.

pub all_stand : (held : List (Held Ticket)) (seens : List (Seen Ticket)) → AreAt held seens → AllStand seens
all_stand [] [] at = tt
all_stand [] (seen ∷ all) at = absurd at
all_stand (one ∷ others) [] at = absurd at
all_stand (one ∷ others) (seen ∷ all) at = (record { limit = max_unretired; handle = one.handle; stands = at.0.stands }, all_stand others all at.1)

pub turn_fails : (parting : Bool) (way : Way) (now now' : board.Seen) (calls part : List wire.Call) (held held' : List (Held Ticket)) (after : List (Seen Ticket)) (moved : Option ℕ) (error : ℕ) → (on : IsUnderWay parting way now calls held) →
    now.error ≡ None → Turns steps on.seens now part after now' (Whole moved) → AreAt held' after → now'.error ≡ Some error → error ≢ ENOTCONN → SideFails way.from way.to (failure_by error) (calls ++ part)
turn_fails parting way now now' calls part held held' after moved error on well turns at e other =
    turns_fail way.from way.to way.size way.how on.has way.slices now now' calls part on.seens after moved error on.stands.between well turns (all_stand held' after at) e other

pub turn_tells_content : (parting : Bool) (way : Way) (now now' : board.Seen) (calls part : List wire.Call) (held held' : List (Held Ticket)) (after : List (Seen Ticket)) (moved : Option ℕ) → (on : IsUnderWay parting way now calls held) →
    now.error ≡ None → Turns steps on.seens now part after now' (Whole moved) → AreAt held' after → SideFails way.from way.to (failure_by EPROTO) (calls ++ part) → now'.error ≡ Some EPROTO
turn_tells_content parting way now now' calls part held held' after moved on well turns at fails =
    turns_tell_content way.from way.to way.how on.has way.slices now now' calls part on.seens after way.asked (known_of way) moved on.stands.told well turns (all_stand held' after at) fails
