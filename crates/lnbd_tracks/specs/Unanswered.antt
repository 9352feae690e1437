-- How many of the requests that were dealt with an export are unanswered.
use Rattle.std.specs.Prelude.{◌≡◌, ◌≢◌, ◌⊎◌, ◌↔◌, ℕ, ◌+◌, Bool, true, ◌&&◌, List, [], ◌∷◌, length, cond, Some, false, nat_le}
use Rattle.lnbd_model.specs.declared.kind.Kind.{Kind}
use Rattle.lnbd_model.specs.declared.target.Place.{Place}
use Rattle.lnbd_link.specs.Call.{Call}
use Rattle.lnbd_outcome.specs.Outcome.{Unfinished}
use Rattle.lnbd_history.specs.Answers.{is_living}
use Rattle.lnbd_history.specs.Commands.{Command}
use Rattle.lnbd_history.specs.Commands as commands
use Rattle.lnbd_history.specs.Events.{History}
use Rattle.lnbd_history.specs.History.{reading, request}
use Rattle.lnbd_history.specs.Laws.{Lawful, is_closed}
use Rattle.lnbd_asked.specs.Driven.{DrivenSays, outcome_after, written}
use Rattle.lnbd_asked.specs.Link.{Nobody}
use Rattle.lnbd_asked.specs.Transcript.{Dealt, dealt_with, is_of, on_link}
use Rattle.lnbd_board.specs.declared.ticket.Ticket.{Ticket}
use Rattle.lnbd_board.specs.Requests.{Request, is_waiting}
use Rattle.lnbd_tracks.specs.Mapping.{is_over}
use Rattle.lnbd_tracks.specs.Tracks.{Histories, AllTrack}

-- The request of this link and cookie was asked, is of such a kind, and is unanswered.
pub record IsUnanswered (is : Kind → Bool) (dealt : Dealt) (link cookie : ℕ) : Type 0 where
  pub command : Command Nobody
  pub asked : dealt.asked link cookie ≡ Some command
  pub kind : is command.kind ≡ true
  pub waits : dealt.outcome link cookie ≡ Unfinished

-- A link and a cookie stand in a list of such pairs.
abbrev pub IsListed : (link cookie : ℕ) → List (ℕ × ℕ) → Type 0
IsListed link cookie [] = ⊥
IsListed link cookie (one ∷ others) = ((one.0 ≡ link) × (one.1 ≡ cookie)) ⊎ IsListed link cookie others

-- No pair stands twice.
abbrev pub AreListedOnce : List (ℕ × ℕ) → Type 0
AreListedOnce [] = Unit {0}
AreListedOnce (one ∷ others) = (IsListed one.0 one.1 others → ⊥) × AreListedOnce others

-- So many requests of such kinds are unanswered: there is a list of as many links and cookies, each once, and it has those of these requests and no others.
pub record AreUnanswered (is : Kind → Bool) (dealt : Dealt) (n : ℕ) : Type 0 where
  pub list : List (ℕ × ℕ)
  pub many : length list ≡ n
  pub once : AreListedOnce list
  pub all : (link cookie : ℕ) → IsListed link cookie list ↔ IsUnanswered is dealt link cookie

-- how many of a list of requests are of such a kind and unanswered
abbrev pub unanswered_of : (is : Kind → Bool) → List Request → ℕ
unanswered_of is [] = 0
unanswered_of is (r ∷ rs) = cond (is r.said.command.kind && is_waiting r.said) 1 0 + unanswered_of is rs

-- The handles are those of this export's links: each of these links says what its handle's history says, on no other was a command wholly written, and each
-- that waits for its answer was wholly written.
pub record AreWaitingOn (place : Place) (calls : List Call) (histories : Histories) : Type 0 where
  pub says : (link : ℕ) → is_of place calls link ≡ true → DrivenSays (histories link) (on_link link calls)
  pub asked : (link cookie : ℕ) (asks : commands.Request Ticket) → request (histories link) cookie ≡ Some asks → nat_le cookie (written (histories link)) ≡ true → is_of place calls link ≡ true
  pub out : (link cookie : ℕ) (asks : commands.Request Ticket) → request (histories link) cookie ≡ Some asks → outcome_after (histories link) cookie ≡ Unfinished → nat_le cookie (written (histories link)) ≡ true

-- Of what such handles were asked as many are unanswered as of the list that tracks them.
abbrev pub TrackedAreUnanswered : Type 0
TrackedAreUnanswered = (is : Kind → Bool) (place : Place) (calls : List Call) (histories : Histories) (requests : List Request) →
    AllTrack histories requests → AreWaitingOn place calls histories → AreUnanswered is (dealt_with place calls) (unanswered_of is requests)

-- A command of a handle that isn't closed waits only while the handle lives.
abbrev pub WaitingLives : Type 0 → Type 0
WaitingLives K = (limit : ℕ) (history : History K) (cookie : ℕ) (asks : commands.Request K) → Lawful limit history → is_closed history ≡ false → request history cookie ≡ Some asks →
    outcome_after history cookie ≡ Unfinished → is_living (reading history).known.stage ≡ true

-- One that is over came to something.
abbrev pub OverCame : Type 0
OverCame = (limit : ℕ) (history : History Ticket) (cookie : ℕ) (asks : commands.Request Ticket) → Lawful limit history → is_closed history ≡ false → request history cookie ≡ Some asks → is_over history cookie ≡ true →
    outcome_after history cookie ≢ Unfinished
