-- A pause wants a link where some handle waits for it, and so it is at each pause.
use Rattle.std.proofs.Common.{◌≡◌, ◌≢◌, ℕ, zero, suc, Bool, true, false, List, [], ◌∷◌, Option, Some, None, slice_get, if◌then◌else◌, sym, subst}
use Rattle.std.specs.Option.{option_map}
use Rattle.std.proofs.lemmas.Bool.{false≢true}
use Rattle.lnbd_link.specs.Call as wire
use Rattle.lnbd_link.specs.Call.{Pause}
use Rattle.lnbd_link.specs.Part.{Adds}
use Rattle.lnbd_link.specs.declared.wires.Want.{Want}
use Rattle.lnbd_machine.specs.Machine.{Machine}
use Rattle.lnbd_machine.specs.Now.{direction_now, in_flight_now, state_now}
use Rattle.lnbd_poll.specs.Held.{Held, is_wanting, want_now, wants_now, with_want}
use Rattle.lnbd_board.specs.declared.ticket.Ticket.{Ticket}
use Rattle.lnbd_copy.specs.Pauses.{Pauses}
use Rattle.lnbd_copy.specs.Wanted.{IsWanting}
use Rattle.lnbd_conduct.specs.Pauses.{WantsSome}
use Rattle.lnbd_copy.proofs.CopierLemmas.{told_as}
use Rattle.lnbd_copy.proofs.PauseLemmas.{pauses_adds}
use Rattle.lnbd_copy.proofs.TurnLemmas.{none_some, some_same}

-- Among handles.

some_none : (want : Want) (wants : List Want) → want ∷ wants ≢ []
some_none want wants none = cc

wants_here : (one : Held Ticket) (wants : List Want) → IsWanting one.handle → with_want (want_now one) wants ≢ []
wants_here one wants wanting = go (is_wanting (state_now one.handle.known) (in_flight_now one.handle.known) (direction_now one.handle.known)) wanting
  where
    go : (b : Bool) → b ≡ true → with_want (if b then Some (record { link = one.link; direction = direction_now one.handle.known }) else None) wants ≢ []
    go true is none = some_none _ _ none
    go false is none = absurd (false≢true is)

wants_there : (want : Option Want) (wants : List Want) → wants ≢ [] → with_want want wants ≢ []
wants_there None wants some none = some none
wants_there (Some want) wants some none = some_none want wants none

pub wants_some : (index : ℕ) (held : List (Held Ticket)) (handle : Machine Ticket) → option_map (λ (one : Held Ticket). one.handle) (slice_get held index) ≡ Some handle → IsWanting handle → wants_now held ≢ []
wants_some index [] handle there wanting none = absurd (none_some handle there)
wants_some zero (one ∷ others) handle there wanting none = wants_here one (wants_now others) (subst IsWanting (sym (some_same one.handle handle there)) wanting) none
wants_some (suc index) (one ∷ others) handle there wanting none = wants_there (want_now one) (wants_now others) (wants_some index others handle there wanting) none

-- Steps.

pub pauses_wanted : (a b : Option (List wire.Call)) (wants : List Want) → Adds a b (Pause wants) → wants ≢ [] → Pauses WantsSome a b
pauses_wanted a b wants adds some = record { on = λ start told. pauses_adds WantsSome start a b wants (told_as start a (λ calls each. (each, some)) told) adds }
