-- One handle of a script: made, closed, and a line on it.
use Rattle.std.proofs.Common.{◌≡◌, ◌≤◌, string_bytes, ℕ, Bool, true, false, List, [], ◌∷◌, Option, None, Ok, Err, IfOk, OnOk, refl, sym, ◌∙◌, ap, subst, arith}
use Rattle.std.proofs.lemmas.Bool.{false≢true}
use Rattle.lnbd_history.specs.Events.{Close}
use Rattle.lnbd_history.specs.Entries.{frees, notes}
use Rattle.lnbd_history.specs.History.{asked, reading}
use Rattle.lnbd_history.specs.Laws.{is_closed}
use Rattle.lnbd_handle.specs.Placing.{Handled}
use Rattle.lnbd_machine.specs.Machine.{Machine, calls, created, step}
use Rattle.lnbd_standing.specs.Standing.{StandsFor}
use Rattle.lnbd_standing.proofs.Standing.{closing_right, created_right, stands_calls}
use Rattle.lnbd_link.specs.Call.{Call}
use Rattle.lnbd_link.specs.Part.{Grows}
use Rattle.lnbd_link.proofs.Parts.{grows_none}
use Rattle.lnbd_lines.specs.declared.line.Line.{Line}
use Rattle.lnbd_lines.specs.declared.line.Line.TheVariants as line
use Rattle.lnbd_script.specs.declared.event.Event.{Event}
use Rattle.lnbd_script.specs.declared.keeper.Keeper.{Keeper}
use Rattle.lnbd_script.specs.declared.place.Over.{Over}
use Rattle.lnbd_script.specs.declared.place.Place.{Place}
use Rattle.lnbd_script.specs.declared.place.Place.TheVariants as place
use Rattle.lnbd_script.specs.declared.session.Session.{Session}
use Rattle.lnbd_script.specs.declared.told.Told.TheVariants as told
use Rattle.lnbd_script.specs.Lines.{Answers, DoesIf, Does, LineEnd, closing, shut_calls}
use Rattle.lnbd_script.specs.Scenes.{Held, ended_held, ended_if, held_of, seen_of, unused}
use Rattle.lnbd_script.specs.declared.keeper.Heeded.{Heeded}
use Rattle.lnbd_script.specs.Kept.{Heeds, freed_by, no_tally, tally_of}
use Rattle.lnbd_script.specs.KeptLaws.{freed_on}
use Rattle.lnbd_script.specs.Seen.{Seen, IsAt, Goes, callbacks_of}
use Rattle.lnbd_script.proofs.FreedLemmas.{freed_is}
use Rattle.lnbd_script.specs.Steps.{GoesAt, IsHeld, IsOver, closed_held, is_open, is_question, is_used}

-- The first event is the run's: a session takes it before a line and leaves it after.
pub at_first : (held : Held) (session : Session) (first : Option Event) → IsAt (seen_of held session.first) session
    → IsAt (seen_of held first) (record { handle = session.handle; link = session.link; heeded = session.heeded; first = first })
at_first held session first at = record { stands = at.stands; link = at.link; first = refl; answered = at.answered; tally = at.tally; shown = at.shown; heard = at.heard; freed = at.freed }

pub held_again : (after : Seen) (session : Session) → IsAt after session → IsHeld (held_of after) (place.Open session)
held_again after session at = record { stands = at.stands; link = at.link; first = refl; answered = at.answered; tally = at.tally; shown = at.shown; heard = at.heard; freed = at.freed }

-- A handle that was just created stands at the beginning.
pub begins : (handle : Handled Keeper) (heeded : Heeded) → handle.machine ≡ created → tally_of heeded ≡ no_tally → string_bytes heeded.heard ≡ [] → heeded.freed ≡ 0
    → IsAt (seen_of unused None) (record { handle = handle; link = None; heeded = heeded; first = None })
begins handle heeded is tally heard freed =
    (record { stands = subst (λ (h : Machine Keeper). StandsFor 1024 [] h) (sym is) (created_right 1024); link = refl; first = refl; answered = λ k d h. absurd (omega (arith, h)); tally = tally; shown = omega arith; heard = λ e. heard; freed = freed })

pub made : (held : Held) (old : Place) (session : Session) → is_used old ≡ false → IsHeld held old → IsAt (seen_of unused None) session → IsHeld held (place.Open session)
made held place.Unused session none is at = subst (λ (h : Held). IsHeld h (place.Open session)) (sym is) (held_again (seen_of unused None) session at)
made held (place.Open other) session none is at = absurd (false≢true (sym none))
made held (place.Over over) session none is at = absurd (false≢true (sym none))

-- Closing.

-- What the callbacks counted is how many were admitted.
pub over_is : (held : Held) (session : Session) (over : Over) (heeded : Heeded) (noted : ℕ) → IsAt (seen_of held session.first) session → Heeds session.heeded (calls session.handle.machine Close) heeded
    → over.opened ≡ (step session.handle.machine Close).known.admitted → noted ≡ (step session.handle.machine Close).known.freed → over.opened ≡ noted → noted ≤ 18446744073709551615 → over.freed ≡ heeded.freed
    → IsOver (closed_held held) over
over_is held session over heeded noted at heeds opened told equal fits freed =
    let right = closing_right 1024 held.history session.handle.machine at.stands in
    let more = stands_calls 1024 held.history session.handle.machine Close at.stands tt in
    let all : over.opened ≡ (asked held.history).admitted = opened ∙ right.admitted in
    let entries = (reading (Close ∷ held.history)).known.entries in
    let frees_are : frees (notes entries) ≡ noted = sym right.freed ∙ sym told in
    let count : heeded.freed ≡ freed_by 0 (callbacks_of (Close ∷ held.history))
    = heeds.freed ∙ ap (λ (n : ℕ). freed_by n (calls session.handle.machine Close)) at.freed ∙ sym (freed_on 0 (callbacks_of held.history) (calls session.handle.machine Close)) ∙ ap (freed_by 0) (sym more) in
    record { closed = refl; link = refl; opened = all; freed = freed ∙ count ∙ freed_is entries (omega (arith, frees_are, fits)) ∙ frees_are ∙ sym equal ∙ all }

pub shut_is : (held : Held) (session : Session) (a b : Option (List Call)) → IsAt (seen_of held session.first) session → Grows a b (shut_calls session.link) → Grows a b (shut_calls held.link)
shut_is held session a b at grown = subst (λ (l : Option ℕ). Grows a b (shut_calls l)) at.link grown

pub closes_open : (held : Held) (old : Place) (session : Session) (a b : Option (List Call)) (over : Over) → old ≡ place.Open session → IsHeld held old
    → ((h : Held) → IsAt (seen_of h session.first) session → Grows a b (shut_calls h.link) × IsOver (closed_held h) over)
    → Grows a b (shut_calls held.link) × IsOver (closed_held held) over
closes_open held old session a b over is at closes = closes held (subst (λ (p : Place). IsHeld held p) is at)

-- an open handle is closed at the end, and one that was closed stays so
pub ends_open : (held : Held) (old : Place) (session : Session) (a b : Option (List Call)) (over : Over) → old ≡ place.Open session → IsHeld held old
    → ((h : Held) → IsAt (seen_of h session.first) session → Grows a b (shut_calls h.link) × IsOver (closed_held h) over)
    → Grows a b (shut_calls held.link) × IsOver (ended_held held) over
ends_open held old session a b over is at closes =
    let here : IsAt (seen_of held session.first) session = subst (λ (p : Place). IsHeld held p) is at in
    let c = closes held here in
    (c.0, subst (λ (b : Bool). IsOver (ended_if b held) over) (sym here.stands.going) c.1)

pub ends_over : (held : Held) (old : Place) (a : Option (List Call)) (over : Over) → old ≡ place.Over over → IsHeld held old → Grows a a (shut_calls held.link) × IsOver (ended_held held) over
ends_over held old a over is at =
    let here : IsOver held over = subst (λ (p : Place). IsHeld held p) is at in
    (subst (λ (l : Option ℕ). Grows a a (shut_calls l)) (sym here.link) (grows_none a), subst (λ (c : Bool). IsOver (ended_if c held) over) (sym here.closed) here)

pub ends_unused : (held : Held) (old : Place) (a : Option (List Call)) → old ≡ place.Unused → IsHeld held old → Grows a a (shut_calls held.link) × IsOver (ended_held held) (record { opened = 0; freed = 0 })
ends_unused held old a is at =
    let here : held ≡ unused = subst (λ (p : Place). IsHeld held p) is at in
    subst (λ (h : Held). Grows a a (shut_calls h.link) × IsOver (ended_held h) (record { opened = 0; freed = 0 })) (sym here) (grows_none a, record { closed = refl; link = refl; opened = refl; freed = refl })

-- One line.

-- on a handle that is not closed
open_line : (line : Line) (seen : Seen) (calls : List Call) (after : Seen) (end : LineEnd) → is_closed seen.history ≡ false → Does line seen calls after end → Answers line seen calls after end
open_line line seen calls after end open_ does = subst (λ (c : Bool). DoesIf c line seen calls after end) (sym open_) does

pub acts_on : (line : Line) (old : Place) (session session' : Session) (first : Option Event) (a b : Option (List Call)) (end : LineEnd) → old ≡ place.Open session
    → Goes a b (record { handle = session.handle; link = session.link; heeded = session.heeded; first = first }) session' (λ before calls after. Does line before calls after end)
    → GoesAt a b old (place.Open session') first session'.first (λ before calls after. Answers line before calls after end)
acts_on line old session session' first a b end is goes held at =
    let here : IsAt (seen_of held session.first) session = subst (λ (p : Place). IsHeld held p) is at in
    let w = goes (seen_of held first) (at_first held session first here) in
    record {
      calls = w.calls;
      after = w.after;
      grown = w.grown;
      leads = open_line line (seen_of held first) w.calls w.after end here.stands.going w.leads;
      at = held_again w.after session' w.at;
      first_is = w.at.first;
    }

-- Bytes are left unread only where memory ran out.
pub acts_whole : (old : Place) (session : Session) (first : Option Event) (end : LineEnd) (left : List ℕ) → old ≡ place.Open session
    → OnOk end ((seen : Seen) → IsAt seen (record { handle = session.handle; link = session.link; heeded = session.heeded; first = first }) → left ≡ []) → OnOk end ((held : Held) → IsHeld held old → left ≡ [])
acts_whole old session first (Ok tells) left is whole = λ held at. whole (seen_of held first) (at_first held session first (subst (λ (p : Place). IsHeld held p) is at))
acts_whole old session first (Err halt) left is whole = tt

-- on a closed one
pub gone : (line : Line) (p : Place) (first : Option Event) (a : Option (List Call)) → is_used p ≡ true → is_open p ≡ false → GoesAt a a p p first first (λ before calls after. Answers line before calls after (Ok told.Gone))
gone line place.Unused first a used closed held at = absurd (false≢true used)
gone line (place.Open session) first a used closed held at = absurd (false≢true (sym closed))
gone line (place.Over over) first a used closed held at = record {
  calls = [];
  after = seen_of held first;
  grown = grows_none a;
  leads = subst (λ (c : Bool). DoesIf c line (seen_of held first) [] (seen_of held first) (Ok told.Gone)) (sym at.closed) (refl, refl, refl);
  at = at;
  first_is = refl;
}

-- where a handle is open its history is not closed
pub open_going : (held : Held) (p : Place) → is_open p ≡ true → IsHeld held p → is_closed held.history ≡ false
open_going held place.Unused on at = absurd (false≢true on)
open_going held (place.Open session) on at = at.stands.going
open_going held (place.Over over) on at = absurd (false≢true on)

pub closes_line : (line' : Line) → line' ≡ line.Close → (old new : Place) (over : Over) (first : Option Event) (a b : Option (List Call)) → is_open old ≡ true → new ≡ place.Over over
    → ((held : Held) → IsHeld held old → Grows a b (shut_calls held.link) × IsOver (closed_held held) over)
    → GoesAt a b old new first first (λ before calls after. Answers line' before calls after (Ok (told.Closed over.opened over.freed)))
closes_line line' is old new over first a b on new_is closes held at =
    let c = closes held at in
    let seen = seen_of held first in
    record {
      calls = shut_calls held.link;
      after = closing seen;
      grown = c.0;
      leads = subst (λ (l : Line). Answers l seen (shut_calls held.link) (closing seen) (Ok (told.Closed over.opened over.freed))) (sym is)
          (open_line line.Close seen (shut_calls held.link) (closing seen) (Ok (told.Closed over.opened over.freed)) (open_going held old on at)
          (refl, refl, ap (λ (n : ℕ). Ok (told.Closed n over.freed)) c.1.opened ∙ ap (λ (n : ℕ). Ok (told.Closed (asked held.history).admitted n)) c.1.freed));
      at = subst (λ (p : Place). IsHeld (closed_held held) p) (sym new_is) c.1;
      first_is = refl;
    }

pub open_asks : (end : LineEnd) (p : Place) → is_open p ≡ true → IfOk end (λ tells. is_question tells ≡ true → is_open p ≡ true)
open_asks (Ok tells) p on = λ e. on
open_asks (Err halt) p on = tt
