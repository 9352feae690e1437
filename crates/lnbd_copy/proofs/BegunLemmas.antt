-- Histories go on: what a handle began as it has begun as still, after what happens on it and after its part of a turn.
use Rattle.std.proofs.Common.{◌≡◌, ℕ, zero, suc, Bool, true, false, List, [], ◌∷◌, ◌++◌, length, Option, Some, None, slice_get, refl, ap, sym, subst, ◌∙◌, append_assoc}
use Rattle.lnbd_callbacks.specs.Calls.{Call}
use Rattle.lnbd_history.specs.Events.{Event, History, LinkFailed, Wrote}
use Rattle.lnbd_link.specs.Call as wire
use Rattle.lnbd_link.specs.Call.{WriteTold, Sent, Full, WriteFault}
use Rattle.lnbd_poll.specs.declared.noticed.Noticed.{Noticed}
use Rattle.lnbd_poll.specs.Notices.{Sends, WritesIf, is_waiting}
use Rattle.lnbd_poll.specs.Seen.{Seen}
use Rattle.lnbd_poll.specs.Turns.{Goes_on, Stops, WritesAll, is_lost}
use Rattle.lnbd_poll.specs.Turns as turns
use Rattle.lnbd_drives.specs.Driving.{with_event}
use Rattle.lnbd_board.specs.declared.ticket.Ticket.{Ticket}
use Rattle.lnbd_conduct.specs.Begun.{BeganAs}
use Rattle.lnbd_copy.specs.Statuses.{FirstBegan, first_held}

-- One history.

pub went_none : (history : History Ticket) → BeganAs history history
went_none history = record { since = []; are = refl }

pub went_same : (before after : History Ticket) → after ≡ before → BeganAs before after
went_same before after same = record { since = []; are = same }

pub went_event : (event : Event Ticket) (before after : History Ticket) → after ≡ event ∷ before → BeganAs before after
went_event event before after is = record { since = event ∷ []; are = is }

pub went_then : (a b c : History Ticket) → BeganAs a b → BeganAs b c → BeganAs a c
went_then a b c first second = record {
  since = second.since ++ first.since;
  are = second.are ∙ ap (λ (l : History Ticket). second.since ++ l) first.are ∙ sym (append_assoc second.since first.since a);
}

-- What a handle writes.

module _ {World : Type 0} (steps : World → List (Call Ticket) → World → Type 0) where
  told_went : (lost : Bool) (old new : History Ticket) (now now' : World) → turns.Told steps lost old now new now' → BeganAs old new
  told_went true old new now now' told = went_event (LinkFailed told.0) old new told.1
  told_went false old new now now' told = went_same old new told.0

  sends_went : (told : WriteTold) (notice : Noticed) (old new : History Ticket) → Sends told notice old new → BeganAs old new
  sends_went (Sent bytes) notice old new sends = went_event (Wrote (length bytes)) old new sends.3
  sends_went Full notice old new sends = went_same old new sends.1
  sends_went WriteFault notice old new sends = went_same old new sends.1

  writes_if_went : (waits : Bool) (link : ℕ) (notice : Noticed) (old : History Ticket) (calls : List wire.Call) (new : History Ticket) → WritesIf waits link notice old calls new → BeganAs old new
  writes_if_went true link notice old calls new writes = sends_went writes.0 notice old new writes.2
  writes_if_went false link notice old calls new writes = went_same old new writes.2

  pub writes_went : (link : ℕ) (old : History Ticket) (now : World) (calls : List wire.Call) (new : History Ticket) (now' : World) (moved : Option ℕ) → WritesAll steps link old now calls new now' moved → BeganAs old new
  writes_went link old now calls new now' moved (Stops _ _ _ _ _ _ notice w none is) =
      went_then old w.middle new (writes_if_went (is_waiting old) link notice old calls w.middle w.writes) (told_went (is_lost notice) w.middle new now now' w.told)
  writes_went link old now calls new now' moved (Goes_on _ _ _ _ _ _ notice own middle half other rest w some more are is) =
      went_then old middle new
      (went_then old w.middle middle (writes_if_went (is_waiting old) link notice old own w.middle w.writes) (told_went (is_lost notice) w.middle middle now half w.told))
      (writes_went link middle half other new now' rest more)

-- The first handle.

-- it goes on
abbrev pub FirstGoes : (before after : List (Seen Ticket)) → Type 0
FirstGoes [] [] = Unit {0}
FirstGoes [] (here ∷ there) = ⊥
FirstGoes (seen ∷ others) [] = ⊥
FirstGoes (seen ∷ others) (here ∷ there) = (here.link ≡ seen.link) × BeganAs seen.history here.history

pub first_stays : (seens : List (Seen Ticket)) → FirstGoes seens seens
first_stays [] = tt
first_stays (seen ∷ others) = (refl, went_none seen.history)

pub event_first : (index : ℕ) (event : Event Ticket) (seens : List (Seen Ticket)) → FirstGoes seens (with_event index event seens)
event_first index event [] = tt
event_first zero event (seen ∷ others) = (refl, went_event event seen.history (event ∷ seen.history) refl)
event_first (suc index) event (seen ∷ others) = (refl, went_none seen.history)

pub link_stays : (before after : List (Seen Ticket)) → FirstGoes before after → first_held after ≡ first_held before
link_stays [] [] goes = refl
link_stays [] (here ∷ there) goes = absurd goes
link_stays (seen ∷ others) [] goes = absurd goes
link_stays (seen ∷ others) (here ∷ there) goes = ap (λ (n : ℕ). Some n) goes.0

pub began_stays : (parting : Bool) (first : History Ticket) (before after : List (Seen Ticket)) → FirstGoes before after → FirstBegan parting first before → FirstBegan parting first after
began_stays true first before after goes began = tt
began_stays false first [] [] goes began = tt
began_stays false first [] (here ∷ there) goes began = absurd goes
began_stays false first (seen ∷ others) [] goes began = absurd goes
began_stays false first (seen ∷ others) (here ∷ there) goes began = went_then first seen.history here.history began goes.1

-- the last of some handles is the first where it is the only one
pub last_began : (first : History Ticket) (seens : List (Seen Ticket)) (last : Seen Ticket) → FirstBegan false first seens → (length seens ≡ 0 → BeganAs first last.history) → FirstBegan false first (seens ++ last ∷ [])
last_began first [] last began only = only refl
last_began first (seen ∷ others) last began only = began

none_some : (seen : Seen Ticket) → None ≡ Some seen → ⊥
none_some seen e = cc

some_same : (one other : Seen Ticket) → Some one ≡ Some other → one ≡ other
some_same one other e = cc

pub first_began : (first : History Ticket) (seens : List (Seen Ticket)) (seen : Seen Ticket) → slice_get seens 0 ≡ Some seen → FirstBegan false first seens → BeganAs first seen.history
first_began first [] seen there began = absurd (none_some seen there)
first_began first (one ∷ others) seen there began = subst (λ (s : Seen Ticket). BeganAs first s.history) (some_same one seen there) began
