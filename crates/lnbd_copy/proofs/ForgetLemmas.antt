-- The connections of a copy forget what they noted.
use Rattle.std.proofs.Common.{◌≡◌, ◌≤◌, arith, ℕ, zero, suc, ◌+◌, List, [], ◌∷◌, length, Some, refl, subst}
use Rattle.std.specs.Option.{option_map}
use Rattle.std.specs.Prelude.{slice_get}
use Rattle.lnbd_history.specs.Events.{ClearLog}
use Rattle.lnbd_machine.specs.Machine.{Machine}
use Rattle.lnbd_handle.specs.Histories.{Adds, ForEach}
use Rattle.lnbd_poll.specs.Held.{Held}
use Rattle.lnbd_poll.specs.Lends.{with_handle}
use Rattle.lnbd_drives.specs.Driving.{with_event}
use Rattle.lnbd_board.specs.declared.ticket.Ticket.{Ticket}
use Rattle.lnbd_copy.specs.Forgetting.{Forgets, NoneKeepNotes}
use Rattle.lnbd_copy.specs.Job.{Acts, Seen}
use Rattle.lnbd_board.specs.Files as board
use Rattle.lnbd_copy.proofs.LiveLemmas.{live_event}
use Rattle.lnbd_copy.proofs.PartLemmas.{event_on, happens}
use Rattle.lnbd_copy.proofs.UnendedLemmas.{ended_event}

pub forgets_none : (held : List (Held Ticket)) → Forgets held held
forgets_none held = record { stand = λ s. s; live = λ l. l; on = λ way now calls on. on }

pub forgets_then : (a b c : List (Held Ticket)) → Forgets a b → Forgets b c → Forgets a c
forgets_then a b c one two = record { stand = λ s. two.stand (one.stand s); live = λ l. two.live (one.live l); on = λ way now calls on. two.on way now calls (one.on way now calls on) }

-- One of them does.
pub forgets_one : (index : ℕ) (held : List (Held Ticket)) (handle handle' : Machine Ticket) → ForEach handle (Adds ClearLog handle') → option_map (λ held. held.handle) (slice_get held index) ≡ Some handle → Forgets held (with_handle held index handle')
forgets_one index held handle handle' adds is = record {
  stand = λ s. record { seens = with_event index ClearLog s.seens; at = (happens handle handle' ClearLog index held s.seens adds is s.at).at };
  live = λ l. record { seens = with_event index ClearLog l.seens; at = (happens handle handle' ClearLog index held l.seens adds is l.at).at; alive = live_event ClearLog (λ before alive. alive) index l.seens l.alive };
  on = λ way now calls on.
      event_on way now calls held (with_handle held index handle') index ClearLog on (happens handle handle' ClearLog index held on.seens adds is on.at)
      (record { inward = refl; unasked = refl; still = refl; spelled = tt; mode = refl }) refl refl (λ before. refl) (λ before none. none)
      (ended_event way.extents way.how.skip way.flush way.from way.to calls way.ended index ClearLog on.seens refl refl on.ends);
}

-- So each does, one after another, and none keeps notes then.

abbrev pub FirstKeepNone : (count : ℕ) → List (Held Ticket) → Type 0
FirstKeepNone count [] = Unit {0}
FirstKeepNone zero (one ∷ others) = Unit {0}
FirstKeepNone (suc count) (one ∷ others) = (one.handle.known.notes ≡ []) × FirstKeepNone count others

pub keep_begins : (held : List (Held Ticket)) → FirstKeepNone 0 held
keep_begins [] = tt
keep_begins (one ∷ others) = tt

keep_one_more : (index : ℕ) (held : List (Held Ticket)) (handle : Machine Ticket) → handle.known.notes ≡ [] → FirstKeepNone index held → FirstKeepNone (suc index) (with_handle held index handle)
keep_one_more index [] handle none first = tt
keep_one_more zero (one ∷ others) handle none first = (none, keep_begins others)
keep_one_more (suc index) (one ∷ others) handle none first = (first.0, keep_one_more index others handle none first.1)

pub keep_more : (index next : ℕ) (held : List (Held Ticket)) (handle : Machine Ticket) → next ≡ index + 1 → handle.known.notes ≡ [] → FirstKeepNone index held → FirstKeepNone next (with_handle held index handle)
keep_more index next held handle on none first = let e : suc index ≡ next = omega (arith, on) in subst (λ (n : ℕ). FirstKeepNone n (with_handle held index handle)) e (keep_one_more index held handle none first)

pub keep_none : (count : ℕ) (held : List (Held Ticket)) → length held ≤ count → FirstKeepNone count held → NoneKeepNotes held
keep_none count [] all first = tt
keep_none zero (one ∷ others) all first = absurd (omega (arith, all))
keep_none (suc count) (one ∷ others) all first = (first.0, keep_none count others (omega (arith, all)) first.1)

-- A copy that does goes on with what it did.
pub acts_forgotten : (a b : Seen) (m n : board.Seen) (h k l : List (Held Ticket)) → Acts a b m n h k → Forgets k l → Acts a b m n h l
acts_forgotten a b m n h k l acts forgets = record {
  stand = λ s. forgets.stand (acts.stand s);
  on = λ way had. let one = acts.on way had in record { way' = one.way'; one = one.one; job' = one.job'; on = λ calls on. forgets.on one.way' n calls (one.on calls on) };
}
