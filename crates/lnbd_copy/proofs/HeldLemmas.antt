-- Until a handle is taken out, each link that a call gave is that of a handle.
use Rattle.std.proofs.Common.{◌≡◌, ◌≢◌, ℕ, zero, suc, Bool, true, false, List, [], ◌∷◌, ◌++◌, Some, ◌∙◌}
use Rattle.lnbd_model.specs.declared.target.Target.{Target}
use Rattle.lnbd_history.specs.Events.{Event}
use Rattle.lnbd_link.specs.Call as wire
use Rattle.lnbd_link.specs.Numbers.{is_given}
use Rattle.lnbd_poll.specs.Alone.{AreApart}
use Rattle.lnbd_poll.specs.Seen.{Seen}
use Rattle.lnbd_drives.specs.Driving.{with_event}
use Rattle.lnbd_board.specs.declared.ticket.Ticket.{Ticket}
use Rattle.lnbd_course.proofs.Address.{given_stays, new_none}
use Rattle.lnbd_copy.specs.Way.{AreHeld}

-- With calls that give no link, and handles with the same links.
pub held_on : (parting : Bool) (calls more : List wire.Call) (before after : List (Seen Ticket)) → ((link : ℕ) → AreApart link after → AreApart link before) → ((link : ℕ) → is_given link more ≡ false) → AreHeld parting calls before → AreHeld parting (calls ++ more) after
held_on false calls more before after same none held = λ link apart. given_stays link calls more (none link) ∙ held link (same link apart)
held_on true calls more before after same none held = tt

-- With an event on one of them.

event_apart : (link index : ℕ) (event : Event Ticket) (seens : List (Seen Ticket)) → AreApart link (with_event index event seens) → AreApart link seens
event_apart link index event [] apart = tt
event_apart link zero event (seen ∷ others) apart = apart
event_apart link (suc index) event (seen ∷ others) apart = (apart.0, event_apart link index event others apart.1)

pub held_event : (calls : List wire.Call) (index : ℕ) (event : Event Ticket) (seens : List (Seen Ticket)) → AreHeld false calls seens → AreHeld false calls (with_event index event seens)
held_event calls index event seens held = λ link apart. held link (event_apart link index event seens apart)

-- With one handle more, on a link that a call gave.

front_apart : (link : ℕ) (seens : List (Seen Ticket)) (last : Seen Ticket) → AreApart link (seens ++ last ∷ []) → AreApart link seens
front_apart link [] last apart = tt
front_apart link (seen ∷ others) last apart = (apart.0, front_apart link others last apart.1)

last_apart : (link : ℕ) (seens : List (Seen Ticket)) (last : Seen Ticket) → AreApart link (seens ++ last ∷ []) → last.link ≢ link
last_apart link [] last apart = apart.0
last_apart link (seen ∷ others) last apart = last_apart link others last apart.1

pub held_more : (calls : List wire.Call) (to : Target) (link : ℕ) (seens : List (Seen Ticket)) (last : Seen Ticket) → last.link ≡ link → AreHeld false calls seens → AreHeld false (calls ++ wire.Connect to (Some link) ∷ []) (seens ++ last ∷ [])
held_more calls to link seens last same held = λ n apart.
    given_stays n calls (wire.Connect to (Some link) ∷ []) (new_none link n to (λ e. last_apart n seens last apart (same ∙ e))) ∙ held n (front_apart n seens last apart)
