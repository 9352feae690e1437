-- All clients of a server: who is let in, whose turn it is, who leaves, and what a pause waits for.
use Rattle.std.specs.Prelude.{◌≡◌, ℕ, ◌+◌, ◌-◌, ◌<◌, Bool, true, false, ◌&&◌, ◌||◌, nat_lt, if◌then◌else◌, List, [], ◌∷◌, ◌++◌, map, length, All, slice_set, slice_index_or}
use Rattle.std.specs.List.{remove}
use Rattle.lnbd_export.specs.Export.{Export}
use Rattle.lnbd_link.specs.Call.{Call, Accept, Pause, Shut}
use Rattle.lnbd_link.specs.declared.wires.Accepted.TheVariants as accepted
use Rattle.lnbd_link.specs.declared.wires.Want.{Want}
use Rattle.lnbd_server.specs.Session.{fresh, is_strayed}
use Rattle.lnbd_serve.specs.declared.guest.Guest.{Guest}
use Rattle.lnbd_serve.specs.declared.guest.Halt.{Halt}
use Rattle.lnbd_serve.specs.declared.guest.Halt.TheVariants as halt
use Rattle.lnbd_serve.specs.Calm.{is_unread, is_unwritten, is_unasked, was_since}
use Rattle.lnbd_serve.specs.Guests.{Steps, Halts, is_done, is_over, out_of, waiting_of}

-- the clients whose links are open, how many were let in, whether one's bytes were no client's, and the export
pub record Hall : Type 0 where
  pub guests : List Guest
  pub accepted : ℕ
  pub broken : Bool
  pub export : Export

-- the most clients at once
abbrev pub max_guests : ℕ
max_guests = 64

abbrev pub is_accepting : (limit : ℕ) → Hall → Bool
is_accepting limit hall = nat_lt (length hall.guests) max_guests && nat_lt hall.accepted limit

-- The client is not done. Replies may be pending: they are made in turns over all clients.
pub record Rests (guest : Guest) : Type 0 where
  pub stays : is_done guest ≡ false

abbrev pub newcomer : ℕ → Guest
newcomer link = record { link = link; session = fresh (record { structured = true; extended = true }); full = false; gone = false }

abbrev pub welcoming : ℕ → Hall → Hall
welcoming link hall = record hall { guests = hall.guests ++ newcomer link ∷ []; accepted = hall.accepted + 1 }

abbrev pub with_guest : ℕ → Guest → Export → Hall → Hall
with_guest at guest export hall = record hall { guests = slice_set hall.guests at guest; export = export }

abbrev pub leaving : ℕ → Guest → Hall → Hall
leaving at guest hall = record hall { guests = remove hall.guests at; broken = hall.broken || is_strayed guest.session.dialogue.stage }

-- One thing that is done in the hall. A client that is done leaves at once, and its link is shut; nothing else shuts one.
pub data Does (listener limit : ℕ) : Hall → List Call → Hall → Type 0 where
  Welcomes : (before : Hall) (calls : List Call) (after : Hall) (link : ℕ) → All Rests before.guests → is_accepting limit before ≡ true → calls ≡ Accept listener (accepted.Link link) ∷ []
      → after ≡ welcoming link before → Does listener limit before calls after
  Nobody : (before : Hall) (calls : List Call) (after : Hall) → All Rests before.guests → is_accepting limit before ≡ true → calls ≡ Accept listener accepted.NotReady ∷ []
      → after ≡ before → Does listener limit before calls after
  Attends : (before : Hall) (calls : List Call) (after : Hall) (at : ℕ) (guest guest' : Guest) (export' : Export) → All Rests before.guests → at < length before.guests → slice_index_or before.guests at guest ≡ guest
      → Steps guest before.export calls guest' export' → after ≡ with_guest at guest' export' before → Does listener limit before calls after
  Leaves : (before : Hall) (calls : List Call) (after : Hall) (at : ℕ) (guest : Guest) → at < length before.guests → slice_index_or before.guests at guest ≡ guest → is_done guest ≡ true
      → calls ≡ Shut guest.link ∷ [] → after ≡ leaving at guest before → Does listener limit before calls after

pub data Works (listener limit : ℕ) : Hall → List Call → Hall → Type 0 where
  No_work : (before : Hall) (calls : List Call) (after : Hall) → calls ≡ [] → after ≡ before → Works listener limit before calls after
  Work : (before : Hall) (calls : List Call) (after : Hall) (own : List Call) (middle : Hall) (other : List Call) → Does listener limit before own middle → Works listener limit middle other after → calls ≡ own ++ other
      → Works listener limit before calls after

-- Pauses.

abbrev pub want_of : Guest → Want
want_of guest = record { link = guest.link; direction = 3 }

-- clients are here, or more are let in
abbrev pub IsServing : (limit : ℕ) → Hall → Type 0
IsServing limit hall = 0 < length hall.guests + (limit - hall.accepted)

-- the listener, while clients are let in, and every open link
abbrev pub wants_of : (listener limit : ℕ) → Hall → List Want
wants_of listener limit hall = (if is_accepting limit hall then record { link = listener; direction = 3 } ∷ [] else []) ++ map want_of hall.guests

-- No reply is pending, and its link answered NotReady to a read, unless the session is over, and where bytes wait to a write: since a byte last moved.
pub record IsIdle (calls : List Call) (guest : Guest) : Type 0 where
  pub answered : waiting_of guest ≡ []
  pub read : is_over guest ≡ false → was_since (is_unread guest.link) calls ≡ true
  pub written : 0 < length (out_of guest) → was_since (is_unwritten guest.link) calls ≡ true

pub record IsStill (listener limit : ℕ) (calls : List Call) (hall : Hall) : Type 0 where
  pub guests : All (IsIdle calls) hall.guests
  pub door : is_accepting limit hall ≡ true → was_since (is_unasked listener) calls ≡ true

-- Work and pauses. A pause waits for something, and comes only where nothing is left to do: no reply is pending, and since the pause before it, and since a byte last moved, all that it waits for answered NotReady.
pub data Serves (listener limit : ℕ) : Hall → List Call → Hall → Type 0 where
  Works_on : (before : Hall) (calls : List Call) (after : Hall) → Works listener limit before calls after → Serves listener limit before calls after
  Pauses : (before : Hall) (calls : List Call) (after : Hall) (own : List Call) (middle : Hall) (other : List Call) → Works listener limit before own middle → All Rests middle.guests → 0 < length (wants_of listener limit middle)
      → IsStill listener limit own middle → Serves listener limit middle other after → calls ≡ own ++ Pause (wants_of listener limit middle) ∷ other → Serves listener limit before calls after

-- Ends.

-- What ends the run: the accept failed, or memory ran out for a new client, whose link is then shut, or for a pause, or a client's turn breaks.
pub data Stops (listener limit : ℕ) : Hall → List Call → Hall → Halt → Type 0 where
  Accept_fails : (before : Hall) (calls : List Call) (after : Hall) (why : Halt) → is_accepting limit before ≡ true → calls ≡ Accept listener accepted.Failed ∷ [] → after ≡ before → why ≡ halt.Link
      → Stops listener limit before calls after why
  Lacks_place : (before : Hall) (calls : List Call) (after : Hall) (why : Halt) (link : ℕ) → is_accepting limit before ≡ true → calls ≡ Accept listener (accepted.Link link) ∷ Shut link ∷ [] → after ≡ before
      → why ≡ halt.NoMemory → Stops listener limit before calls after why
  Lacks_room : (before : Hall) (calls : List Call) (after : Hall) (why : Halt) → calls ≡ [] → after ≡ before → why ≡ halt.NoMemory → Stops listener limit before calls after why
  Turn_breaks : (before : Hall) (calls : List Call) (after : Hall) (why : Halt) (at : ℕ) (guest guest' : Guest) (export' : Export) → at < length before.guests → slice_index_or before.guests at guest ≡ guest
      → Halts guest before.export calls guest' export' why → after ≡ with_guest at guest' export' before → Stops listener limit before calls after why

-- The run is ended so, or all was waited for too long.
pub data Ends (listener limit : ℕ) : Hall → List Call → Hall → Halt → Type 0 where
  Stops_so : (before : Hall) (calls : List Call) (after : Hall) (why : Halt) → Stops listener limit before calls after why → Ends listener limit before calls after why
  Waits_too_long : (before : Hall) (calls : List Call) (after : Hall) (why : Halt) → calls ≡ [] → after ≡ before → why ≡ halt.Silent → Ends listener limit before calls after why

-- Work and pauses, and then what ends the run.
pub record ServesUntil (listener limit : ℕ) (before : Hall) (calls : List Call) (after : Hall) (why : Halt) : Type 0 where
  pub own : List Call
  pub middle : Hall
  pub last : List Call
  pub serves : Serves listener limit before own middle
  pub ends : Ends listener limit middle last after why
  pub calls_are : calls ≡ own ++ last
