-- What a copy waits for at each pause.
use Rattle.std.specs.Prelude.{◌≡◌, ◌≢◌, ℕ, Bool, List, Some, [], ◌∷◌, ◌==◌, false, ◌⊎◌, true, ◌+◌, ◌*◌, ◌≤◌, length, ◌<◌}
use Rattle.std.specs.List.{list_any}
use Rattle.lnbd_model.specs.declared.target.Place.{Place}
use Rattle.lnbd_model.specs.declared.state.State.TheVariants as state
use Rattle.lnbd_history.specs.Answers.{direction_after, in_flight_after, state_after}
use Rattle.lnbd_history.specs.Events.{History}
use Rattle.lnbd_link.specs.declared.wires.Want.{Want}
use Rattle.lnbd_link.specs.Numbers.{is_open}
use Rattle.lnbd_link.specs.Traffic.{bytes_written}
use Rattle.lnbd_link.specs.Call as wire
use Rattle.lnbd_poll.specs.Held.{want_of, is_wanting}
use Rattle.lnbd_spoken.specs.Little.{longest_handshake, longest_head}
use Rattle.lnbd_plan.specs.declared.options.CopyOptions.{CopyOptions}
use Rattle.lnbd_board.specs.declared.ticket.Ticket.{Ticket}
use Rattle.lnbd_course.specs.Between.{place_of}
use Rattle.lnbd_conduct.specs.Begun.{opened, DrivenBy}
use Rattle.lnbd_conduct.specs.Driven.{WentOn, WasDriven}
use Rattle.lnbd_conduct.specs.Settled.{IsToldFirst}
use Rattle.lnbd_conduct.specs.Grounds.{Drove}
use Rattle.lnbd_conduct.specs.Slices.{HasAllUnderWay}
use Rattle.lnbd_usage.specs.Pauses.{AtEachPause}

-- By these calls a handle drove this link, which began as a copy's handle begins, for base:allocation or not, and it waits for it in this direction: it negotiates, has commands in flight, has bytes to write, or asked for the end of
-- its connection. It may read, and where it waits to read alone, which 1 stands for, it did not ask for that end: a link is shut once that is written.
pub record IsWaitedFor (calls : List wire.Call) (want : Want) : Type 0 where
  pub history : History Ticket
  pub drives : DrivenBy want.link history calls
  pub wants : want_of want.link (state_after history) (in_flight_after history) (direction_after history) ≡ Some want
  pub reads : want.direction ≢ 0
  pub parts : want.direction ≡ 1 → state_after history ≢ state.Closing
  pub name : List ℕ
  pub asks : Bool
  pub began : WentOn (opened name asks) history

-- A pause wants a link only where its handle waits for it, and in that handle's direction.
abbrev pub WaitsWell : (before : List wire.Call) → List Want → Type 0
WaitsWell before [] = Unit {0}
WaitsWell before (want ∷ others) = IsWaitedFor before want × WaitsWell before others

-- a pause for these wants this link
abbrev pub is_wanted : (link : ℕ) → List Want → Bool
is_wanted link wants = list_any (λ want. want.link == link) wants

-- By these calls the handle that drove this link, as a copy does, waits for nothing: all that was read has come to it, and it doesn't negotiate, has no command in flight and nothing to write,
-- and did not ask for the end of its connection.
pub record WaitsForNothing (extents : Bool) (from to : Place) (link : ℕ) (calls : List wire.Call) : Type 0 where
  pub source : Bool
  pub driven : WasDriven extents from to source link calls
  pub arrived : driven.unread ≡ []
  pub idle : is_wanting (state_after driven.history) (in_flight_after driven.history) (direction_after driven.history) ≡ false

-- A pause leaves out no link that is waited for: each link that is open by the calls before it is wanted, or the handle that drove it waits for nothing.
abbrev pub WantsAll : (extents : Bool) → (from to : Place) → (before : List wire.Call) → List Want → Type 0
WantsAll extents from to before wants = (link : ℕ) → is_open link before ≡ true → (is_wanted link wants ≡ true) ⊎ WaitsForNothing extents from to link before

-- What is written on a link at most in a copy of so many bytes: the handshake; for each byte a request for it and one for its extents, and the byte; and two requests more.
abbrev pub most_written : (size : ℕ) → ℕ
most_written size = longest_handshake + ((longest_head + 1) * size + longest_head * (size + 2))

-- No more than so many bytes were written on each link that is wanted.
abbrev pub WroteAtMost : ℕ → (before : List wire.Call) → List Want → Type 0
WroteAtMost most before [] = Unit {0}
WroteAtMost most before (want ∷ others) = (length (bytes_written want.link before) ≤ most) × WroteAtMost most before others

-- No more was than a handshake has.
abbrev pub WroteHandshakes : (before : List wire.Call) → List Want → Type 0
WroteHandshakes before wants = WroteAtMost longest_handshake before wants

-- By a pause no more was written on each link that it wants than a handshake has; or both sides had told what they are, and no more was than a copy of the source's bytes has.
abbrev pub WroteLittle : (extents : Bool) → (from to : Place) → (before : List wire.Call) → List Want → Type 0
WroteLittle extents from to before wants = WroteHandshakes before wants ⊎ IsToldFirst extents from to (λ source destination. WroteAtMost (most_written source.size) before wants) before

-- None of these links is wanted for writing: 1 is for reading, 2 for writing, and 3 for both.
abbrev pub NoneForWriting : List Want → Type 0
NoneForWriting [] = Unit {0}
NoneForWriting (want ∷ others) = (want.direction < 2) × NoneForWriting others

-- By these calls a link to one of both places is open, and the handle that drove it, and asked for the export there, negotiates still.
pub record IsNegotiating (extents : Bool) (from to : Place) (calls : List wire.Call) : Type 0 where
  pub source : Bool
  pub drove : Drove extents (place_of from to source) (λ history. state_after history ≡ state.Negotiating) calls
  pub opened : is_open drove.link calls ≡ true

-- At a pause that wants no link for writing a connection negotiates still, or as much is under way as may be, by the calls before it.
abbrev pub IsFullPause : CopyOptions → (from to : Place) → (before : List wire.Call) → List Want → Type 0
IsFullPause options from to before wants = NoneForWriting wants → IsNegotiating options.extents from to before ⊎ HasAllUnderWay options from to before

-- So it is at each pause.
abbrev pub PausesAreFull : CopyOptions → (from to : Place) → List wire.Call → Type 0
PausesAreFull options from to calls = AtEachPause (IsFullPause options from to) calls
