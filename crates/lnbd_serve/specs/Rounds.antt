-- Words on the code's own steps over all clients.
use Rattle.std.specs.Prelude.{◌≡◌, ℕ, ◌+◌, ◌*◌, ◌-◌, ◌≤◌, ◌<◌, Bool, true, false, List, [], ◌++◌, length, take, All, slice_set, slice_index_or, Option, Some, None}
use Rattle.std.specs.List.{list_any, sum_by}
use Rattle.lnbd_export.specs.Export.{Export}
use Rattle.lnbd_link.specs.Call.{Call}
use Rattle.lnbd_serve.specs.declared.guest.Guest.{Guest}
use Rattle.lnbd_serve.specs.declared.guest.Doing.{Doing}
use Rattle.lnbd_serve.specs.declared.guest.Doing.TheVariants as doing
use Rattle.lnbd_serve.specs.declared.guest.Halt.{Halt}
use Rattle.lnbd_serve.specs.declared.guests.Guests.{Guests}
use Rattle.lnbd_serve.specs.Calm.{is_moving, is_unasked, was_since}
use Rattle.lnbd_serve.specs.Guests.{Halts}
use Rattle.lnbd_serve.specs.Halls.{Hall, IsIdle, IsStill, Rests, Works, Serves, Stops, is_accepting, with_guest}
use Rattle.lnbd_serve.specs.Steps.{Attended, Went, is_news, left, owed}

abbrev pub hall_of : Guests → Export → Hall
hall_of guests export = record { guests = guests.all.items; accepted = guests.accepted; broken = guests.broken; export = export }

-- what is still to come at most, of those who are here and those who may come
abbrev pub budget : (limit : ℕ) → Hall → ℕ
budget limit hall = (limit - hall.accepted) * 4611686018427387907 + sum_by left hall.guests

-- what is owed to all clients
abbrev pub total_owed : Hall → ℕ
total_owed hall = sum_by (owed hall.export) hall.guests

-- who asks was let in; whether one was
pub record DoorOpened (listener limit : ℕ) (came : Bool) (before : Hall) (calls : List Call) (after : Hall) : Type 0 where
  pub works : Works listener limit before calls after
  pub rests : All Rests after.guests
  pub none : came ≡ false → (after ≡ before) × (list_any is_moving calls ≡ false) × (is_accepting limit before ≡ true → was_since (is_unasked listener) calls ≡ true)
  pub news : came ≡ true → budget limit after < budget limit before

-- one client's turn, before it is looked whether it stays
pub record AttendedAt (told told' : Option (List Call)) (at : ℕ) (did : Doing) (hall hall' : Hall) : Type 0 where
  pub before : Guest
  pub after : Guest
  pub found : slice_index_or hall.guests at before ≡ before
  pub went : Went told told' (λ calls. Attended did before hall.export calls after hall'.export)
  pub set : hall' ≡ with_guest at after hall'.export hall

-- or it breaks
pub record BrokeAt (told told' : Option (List Call)) (at : ℕ) (why : Halt) (hall hall' : Hall) : Type 0 where
  pub before : Guest
  pub after : Guest
  pub found : slice_index_or hall.guests at before ≡ before
  pub went : Went told told' (λ calls. Halts before hall.export calls after hall'.export why)
  pub set : hall' ≡ with_guest at after hall'.export hall

-- one client's turn, after which it stays
pub record TurnKept (listener limit at : ℕ) (did : Doing) (before : Hall) (calls : List Call) (after : Hall) : Type 0 where
  pub guest : Guest
  pub works : Works listener limit before calls after
  pub rests : All Rests after.guests
  pub set : after.guests ≡ slice_set before.guests at guest
  pub accepted : after.accepted ≡ before.accepted
  pub still : did ≡ doing.Still → (list_any is_moving calls ≡ false) × IsIdle calls guest × (total_owed after ≤ total_owed before)
  pub sent : did ≡ doing.Sent → total_owed after < total_owed before
  pub news : did ≡ doing.News → budget limit after < budget limit before

-- or leaves
pub record TurnLeft (listener limit : ℕ) (before : Hall) (calls : List Call) (after : Hall) : Type 0 where
  pub works : Works listener limit before calls after
  pub rests : All Rests after.guests
  pub count : length after.guests + 1 ≡ length before.guests
  pub news : budget limit after < budget limit before

abbrev pub TurnedAs : (listener limit at : ℕ) → Option Doing → Hall → List Call → Hall → Type 0
TurnedAs listener limit at (Some did) before calls after = TurnKept listener limit at did before calls after
TurnedAs listener limit at None before calls after = TurnLeft listener limit before calls after

-- the turns of the first so many clients
pub record TurnsAll (listener limit at : ℕ) (did : Doing) (before : Hall) (calls : List Call) (after : Hall) : Type 0 where
  pub works : Works listener limit before calls after
  pub rests : All Rests after.guests
  pub still : did ≡ doing.Still → (list_any is_moving calls ≡ false) × All (IsIdle calls) (take at after.guests) × (total_owed after ≤ total_owed before)
  pub kept : is_news did ≡ false → (length after.guests ≡ length before.guests) × (after.accepted ≡ before.accepted)
  pub sent : did ≡ doing.Sent → total_owed after < total_owed before
  pub news : did ≡ doing.News → budget limit after < budget limit before

-- a round: the door, and each client's turn
pub record HasRound (listener limit : ℕ) (did : Doing) (before : Hall) (calls : List Call) (after : Hall) : Type 0 where
  pub works : Works listener limit before calls after
  pub rests : All Rests after.guests
  pub still : did ≡ doing.Still → IsStill listener limit calls after × (total_owed after ≤ total_owed before)
  pub kept : is_news did ≡ false → (length after.guests ≡ length before.guests) × (after.accepted ≡ before.accepted)
  pub sent : did ≡ doing.Sent → total_owed after < total_owed before
  pub news : did ≡ doing.News → budget limit after < budget limit before

-- work, and then what ends the run
pub record StopsAfter (listener limit : ℕ) (before : Hall) (calls : List Call) (after : Hall) (why : Halt) : Type 0 where
  pub own : List Call
  pub middle : Hall
  pub last : List Call
  pub works : Works listener limit before own middle
  pub stops : Stops listener limit middle last after why
  pub calls_are : calls ≡ own ++ last

-- Rounds and pauses until something came.
pub record ServedSome (listener limit : ℕ) (before : Hall) (calls : List Call) (after : Hall) : Type 0 where
  pub serves : Serves listener limit before calls after
  pub rests : All Rests after.guests
  pub news : budget limit after < budget limit before

-- Rounds and pauses until all clients were served.
pub record ServedWhole (listener limit : ℕ) (before : Hall) (calls : List Call) (after : Hall) : Type 0 where
  pub serves : Serves listener limit before calls after
  pub none : after.guests ≡ []
  pub all : after.accepted ≡ limit
