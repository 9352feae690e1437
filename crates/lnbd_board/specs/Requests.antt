-- What was asked of a side of a copy, and answered, in the order in which it was asked.
use Rattle.std.specs.Prelude.{◌≡◌, ◌⊎◌, ℕ, ◌+◌, Bool, true, false, not, ◌&&◌, List, [], ◌∷◌, ◌++◌, length, cond, ◌==◌, Some}
use Rattle.lnbd_model.specs.Kind.{is_read}
use Rattle.lnbd_outcome.specs.Outcome.{Outcome, Unfinished, Done, is_finished}
use Rattle.lnbd_history.specs.Commands.{Command}
use Rattle.lnbd_asked.specs.Link.{Nobody}
use Rattle.lnbd_asked.specs.Transcript.{Dealt}
use Rattle.lnbd_asked.specs.Honest.{has, covers}
use Rattle.lnbd_board.specs.declared.ticket.Ticket.{Ticket}
use Rattle.lnbd_board.specs.declared.ticket.Ticket.TheVariants as ticket

-- a command, and what it came to so far
pub record Said : Type 0 where
  pub command : Command Nobody
  pub outcome : Outcome

-- A request was asked on a link, under a cookie, and its callback is this ticket.
pub record Request : Type 0 where
  pub link : ℕ
  pub cookie : ℕ
  pub ticket : Ticket
  pub said : Said

-- the ticket is that of the slice of a number
abbrev pub is_of : ℕ → Ticket → Bool
is_of n (ticket.Slice m) = m == n
is_of n ticket.Extents = false
is_of n ticket.Flush = false

abbrev pub is_slice : Ticket → Bool
is_slice (ticket.Slice m) = true
is_slice ticket.Extents = false
is_slice ticket.Flush = false

-- what was said for the slice of a number
abbrev pub own : ℕ → List Request → List Said
own n [] = []
own n (r ∷ rs) = cond (is_of n r.ticket) (r.said ∷ own n rs) (own n rs)

-- a read that has the position
abbrev pub reads : Command Nobody → ℕ → Bool
reads command p = is_read command.kind && has command p

-- the changes of a position, and the reads of it
abbrev pub over : ℕ → List Request → List Said
over p [] = []
over p (r ∷ rs) = cond (covers r.said.command p) (r.said ∷ over p rs) (over p rs)

abbrev pub reads_over : ℕ → List Request → List Said
reads_over p [] = []
reads_over p (r ∷ rs) = cond (reads r.said.command p) (r.said ∷ reads_over p rs) (reads_over p rs)

-- the same of what was said alone
abbrev pub over_said : ℕ → List Said → List Said
over_said p [] = []
over_said p (x ∷ xs) = cond (covers x.command p) (x ∷ over_said p xs) (over_said p xs)

abbrev pub reads_over_said : ℕ → List Said → List Said
reads_over_said p [] = []
reads_over_said p (x ∷ xs) = cond (reads x.command p) (x ∷ reads_over_said p xs) (reads_over_said p xs)

abbrev pub is_waiting : Said → Bool
is_waiting x = not (is_finished x.outcome)

-- how many requests of slices are unanswered
abbrev pub unanswered : List Request → ℕ
unanswered [] = 0
unanswered (r ∷ rs) = cond (is_slice r.ticket && is_waiting r.said) 1 0 + unanswered rs

-- how many are unanswered
abbrev pub said_unanswered : List Said → ℕ
said_unanswered [] = 0
said_unanswered (x ∷ xs) = cond (is_waiting x) 1 0 + said_unanswered xs

-- P holds of each
abbrev pub Each : {A : Type 0} → (A → Type 0) → List A → Type 0
Each P [] = Unit {0}
Each P (x ∷ xs) = P x × Each P xs

-- What is asked and answered.

abbrev pub waiting : Command Nobody → Said
waiting command = record { command = command; outcome = Unfinished }

-- done, with these bytes
abbrev pub done_with : Command Nobody → List ℕ → Said
done_with command bytes = record { command = command; outcome = Done bytes }

-- a change comes back with the bytes that it was asked with
abbrev pub done : Command Nobody → Said
done command = done_with command command.payload

abbrev pub request : (link cookie : ℕ) → Ticket → Said → Request
request link cookie ticket said = record { link = link; cookie = cookie; ticket = ticket; said = said }

-- a request more
abbrev pub asking : (link cookie : ℕ) → Ticket → Command Nobody → List Request → List Request
asking link cookie ticket command asked = asked ++ request link cookie ticket (waiting command) ∷ []

-- the buffer that comes back: a read's has as many bytes as were asked for, and another's is as it was
pub record Suits (command : Command Nobody) (buf : List ℕ) : Type 0 where
  pub read : is_read command.kind ≡ true → length buf ≡ command.length
  pub change : is_read command.kind ≡ false → buf ≡ command.payload

-- A request of this ticket, which waited, is done with this buffer. All else is as it was.
pub record Answers (by : Ticket) (buf : List ℕ) (old new : List Request) : Type 0 where
  pub link : ℕ
  pub cookie : ℕ
  pub command : Command Nobody
  pub front : List Request
  pub back : List Request
  pub waited : old ≡ front ++ request link cookie by (waiting command) ∷ back
  pub now : new ≡ front ++ request link cookie by (done_with command buf) ∷ back
  pub suits : Suits command buf

-- What was dealt is what was asked here, by link and cookie.

abbrev pub IsIn : Request → List Request → Type 0
IsIn r [] = ⊥
IsIn r (x ∷ xs) = (x ≡ r) ⊎ IsIn r xs

-- the request under a link and a cookie
pub record Under (link cookie : ℕ) (command : Command Nobody) (asked : List Request) : Type 0 where
  pub request : Request
  pub within : IsIn request asked
  pub on : request.link ≡ link
  pub by : request.cookie ≡ cookie
  pub asks : request.said.command ≡ command

pub record IsDealt (asked : List Request) (dealt : Dealt) : Type 0 where
  -- each request was dealt, and came to what it came to
  pub shown : (r : Request) → IsIn r asked → (dealt.asked r.link r.cookie ≡ Some r.said.command) × (dealt.outcome r.link r.cookie ≡ r.said.outcome)
  -- and nothing else was
  pub only : (link cookie : ℕ) (command : Command Nobody) → dealt.asked link cookie ≡ Some command → Under link cookie command asked
