-- The lists of answers in events. Any list may stand there: where it is too short, or has an answer of the other kind, a chunk callback is taken to go
-- on and a completion callback to retire its command; what is left over counts for nothing. No such list is needed: each event does the same with the
-- list that has just the answers of the calls that it makes.
use Rattle.std.specs.Prelude.{◌≡◌, ℕ, false, List, [], ◌∷◌, ◌++◌}
use Rattle.lnbd_callbacks.specs.Calls.{Call, Chunk, Extents, Complete, Free}
use Rattle.lnbd_history.specs.Entries as entries
use Rattle.lnbd_history.specs.Events.{Answer, Hears, Decides, Event, History, Arrived, End, LinkFailed}
use Rattle.lnbd_history.specs.History.{reading}
use Rattle.lnbd_history.specs.Laws.{Lawful, is_closed}
use Rattle.lnbd_machine.specs.Machine.{Machine, step, calls}
use Rattle.lnbd_standing.specs.Standing.{StandsFor, May}

module _ {K : Type 0} where
  -- the answers that these calls on callbacks gave, in order
  abbrev pub given : List (Call K) → List Answer
  given [] = []
  given (Chunk callback bytes offset status error heard ∷ more) = Hears heard ∷ given more
  given (Extents callback context offset extents error heard ∷ more) = Hears heard ∷ given more
  given (Complete callback error buf verdict ∷ more) = Decides verdict ∷ given more
  given (Free callback ∷ more) = given more

  -- the event with the answers that its calls gave
  abbrev pub fitting : Machine K → Event K → Event K
  fitting now (Arrived bytes answers) = Arrived bytes (given (calls now (Arrived bytes answers)))
  fitting now (End answers) = End (given (calls now (End answers)))
  fitting now (LinkFailed answers) = LinkFailed (given (calls now (LinkFailed answers)))
  fitting now event = event

  -- An event does the same as the one with the answers that its calls gave, and that one has just the answers of its own calls.
  pub record DoesAsFitting (now : Machine K) (event : Event K) : Type 0 where
    pub machine : step now (fitting now event) ≡ step now event
    pub calls : calls now (fitting now event) ≡ calls now event
    pub fits : fitting now (fitting now event) ≡ fitting now event

  -- So the history with that one is lawful, the machine after the event stands for it too, and the same calls are told.
  pub record GoesOnFitting (limit : ℕ) (history : History K) (now : Machine K) (event : Event K) : Type 0 where
    pub lawful : Lawful limit (fitting now event ∷ history)
    pub stands : is_closed (fitting now event ∷ history) ≡ false → StandsFor limit (fitting now event ∷ history) (step now event)
    pub calls : entries.calls (reading (fitting now event ∷ history)).known.entries ≡ entries.calls (reading history).known.entries ++ calls now event

-- It is so of each event.
abbrev pub FittingAnswersDoTheSame : Type 0 → Type 0
FittingAnswersDoTheSame K = (now : Machine K) (event : Event K) → DoesAsFitting now event

-- It is so of each event that may come, whatever answers it has.
abbrev pub FittingAnswersSuffice : Type 0 → Type 0
FittingAnswersSuffice K = (limit : ℕ) (history : History K) (now : Machine K) (event : Event K) → StandsFor limit history now → May limit now event → GoesOnFitting limit history now event
