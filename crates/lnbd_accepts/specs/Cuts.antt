-- How the bytes of a server are cut into arrivals changes nothing, whatever happens behind them.
use Rattle.std.specs.Prelude.{◌≡◌, ℕ, List, ◌∷◌, ◌++◌}
use Rattle.lnbd_history.specs.Answers.{state_after, in_flight_after, held_after, peeked_after, done_after, completed_after, out_after, direction_after, info_after}
use Rattle.lnbd_history.specs.Answers.{outcome_after, failure_after, listed_after, opt_answer_after, log_after, strict_after}
use Rattle.lnbd_history.specs.Commands.{Command}
use Rattle.lnbd_history.specs.Entries.{notes, calls}
use Rattle.lnbd_history.specs.Events.{Answer, History, Arrived}
use Rattle.lnbd_history.specs.History.{asked, request, reading, waits}
use Rattle.lnbd_history.specs.Laws.{Lawful}
use Rattle.lnbd_history.specs.Refusals.{refusal_after}

module _ {K : Type 0} where
  -- After two histories each call answers the same, and the same callbacks were called and noted.
  pub record AnswerAlike (one other : History K) : Type 0 where
    pub state : state_after one ≡ state_after other
    pub in_flight : in_flight_after one ≡ in_flight_after other
    pub held : held_after one ≡ held_after other
    pub peeked : peeked_after one ≡ peeked_after other
    pub done : done_after one ≡ done_after other
    pub request : (cookie : ℕ) → request one cookie ≡ request other cookie
    pub outcome : (cookie : ℕ) → outcome_after one cookie ≡ outcome_after other cookie
    pub failure : (cookie : ℕ) → failure_after one cookie ≡ failure_after other cookie
    pub completed : (cookie : ℕ) → completed_after one cookie ≡ completed_after other cookie
    pub waits : waits one ≡ waits other
    pub out : out_after one ≡ out_after other
    pub direction : direction_after one ≡ direction_after other
    pub info : info_after one ≡ info_after other
    pub listed : listed_after one ≡ listed_after other
    pub opt_answer : opt_answer_after one ≡ opt_answer_after other
    pub strict : strict_after one ≡ strict_after other
    pub refusal : (limit : ℕ) (command : Command K) → refusal_after limit one command ≡ refusal_after limit other command
    -- the counts of commands and callbacks, and of the bytes that went out
    pub asked : asked one ≡ asked other
    pub log : log_after one ≡ log_after other
    pub notes : notes (reading one).known.entries ≡ notes (reading other).known.entries
    pub calls : calls (reading one).known.entries ≡ calls (reading other).known.entries
    -- the bytes that are no whole record yet
    pub pending : (reading one).pending ≡ (reading other).pending

  -- A history in which some bytes came in two arrivals, the second with the answers that the first left; and one in which they came in one. The same
  -- happened before and later.
  abbrev pub in_two : (later before : History K) (first second : List ℕ) (answers : List Answer) → History K
  in_two later before first second answers = later ++ Arrived second (reading (Arrived first answers ∷ before)).known.answers ∷ Arrived first answers ∷ before

  abbrev pub in_one : (later before : History K) (first second : List ℕ) (answers : List Answer) → History K
  in_one later before first second answers = later ++ Arrived (first ++ second) answers ∷ before

-- They answer alike.
abbrev pub CutsChangeNothingLater : Type 0 → Type 0
CutsChangeNothingLater K = (later before : History K) (first second : List ℕ) (answers : List Answer) →
    AnswerAlike (in_two later before first second answers) (in_one later before first second answers)

-- What may follow the one may follow the other: where the first is lawful, the second is.
abbrev pub CutsStayLawful : Type 0 → Type 0
CutsStayLawful K = (limit : ℕ) (later before : History K) (first second : List ℕ) (answers : List Answer) →
    Lawful limit (in_two later before first second answers) → Lawful limit (in_one later before first second answers)
