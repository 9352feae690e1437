-- Which numbers of links and listeners the calls of a transcript gave, and which are open after them.
use Rattle.std.specs.Prelude.{ℕ, Bool, false, ◌==◌, ◌||◌, ◌&&◌, not, List, [], ◌∷◌, Option, Some, None}
use Rattle.std.specs.List.{list_any}
use Rattle.lnbd_link.specs.declared.wires.Accepted.{Accepted}
use Rattle.lnbd_link.specs.declared.wires.Accepted.TheVariants as accepted
use Rattle.lnbd_link.specs.Call.{Call, Connect, Listen, Accept, Read, Write, Pause, Shut}

-- the number that an accept answered
abbrev pub accept_told : Accepted → Option ℕ
accept_told (accepted.Link link) = Some link
accept_told accepted.NotReady = None
accept_told accepted.Failed = None

-- the number that a call answered
abbrev pub given_by : Call → Option ℕ
given_by (Connect to link) = link
given_by (Listen at listener) = listener
given_by (Accept listener answer) = accept_told answer
given_by (Read link room answer) = None
given_by (Write link offered answer) = None
given_by (Pause wants) = None
given_by (Shut link) = None

-- it is this number
abbrev pub is_number : ℕ → Option ℕ → Bool
is_number link None = false
is_number link (Some n) = n == link

-- the call answered this number
abbrev pub gives : ℕ → Call → Bool
gives link call = is_number link (given_by call)

-- some call answered this number
abbrev pub is_given : ℕ → List Call → Bool
is_given link calls = list_any (gives link) calls

-- whether the number is open after the call
abbrev pub open_by : ℕ → Bool → Call → Bool
open_by link was (Connect to given) = is_number link given || was
open_by link was (Listen at given) = is_number link given || was
open_by link was (Accept listener answer) = is_number link (accept_told answer) || was
open_by link was (Read n room answer) = was
open_by link was (Write n offered answer) = was
open_by link was (Pause wants) = was
open_by link was (Shut n) = not (n == link) && was

-- whether the number is open after the calls
abbrev pub open_after : ℕ → Bool → List Call → Bool
open_after link was [] = was
open_after link was (call ∷ calls) = open_after link (open_by link was call) calls

-- a call answered the number, and none shut it since
abbrev pub is_open : ℕ → List Call → Bool
is_open link calls = open_after link false calls
