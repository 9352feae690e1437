-- What lies ready for bytes that come in pieces, call by call.
use Rattle.std.proofs.Common.{◌≡◌, ◌⊎◌, inl, inr, ℕ, ◌+◌, ◌<◌, ◌≤◌, Bool, true, false, if◌then◌else◌, nat_lt, List, [], ◌∷◌, ◌++◌, length, take, Option, Some, None, Result, Ok, Err, refl, ap, sym, ◌∙◌, subst, arith}
use Rattle.std.proofs.lemmas.Bool.{false≢true, true≢false}
use Rattle.std.specs.Prelude.{vec_len}
use Rattle.lnbd_keyed.specs.Keyed.{value_at, IsRising}
use Rattle.lnbd_model.specs.Kind.{is_read}
use Rattle.lnbd_model.specs.declared.breach.Breach.TheVariants.{TooManyReplies}
use Rattle.lnbd_model.specs.declared.state.State.{State as Standing}
use Rattle.lnbd_model.specs.declared.state.State.TheVariants as standing
use Rattle.lnbd_records.specs.Limits.{max_passed}
use Rattle.lnbd_callbacks.specs.Calls.{Call}
use Rattle.lnbd_history.specs.declared.kinds.Completed.{Completed}
use Rattle.lnbd_history.specs.declared.kinds.Completed.TheVariants.{Done, Failed, NotYet, NoSuchCookie}
use Rattle.lnbd_history.specs.declared.kinds.Phase.{Phase}
use Rattle.lnbd_history.specs.declared.kinds.Phase.TheVariants as phase
use Rattle.lnbd_history.specs.declared.kinds.Stage.{Stage}
use Rattle.lnbd_history.specs.declared.kinds.Stage.TheVariants.{Created, Open, Disconnecting, Aborting, Closed, Dead}
use Rattle.lnbd_history.specs.Agreement.{Opted}
use Rattle.lnbd_history.specs.Answers.{state_at, state_in}
use Rattle.lnbd_history.specs.Arrivals.{Broken, Passed, Sight, Waiting, shows_at, shows_ignored, shows_passed}
use Rattle.lnbd_history.specs.Commands.{Command, Flight, request_of}
use Rattle.lnbd_machine.specs.Laws.{IsPartial}
use Rattle.lnbd_machine.specs.Machine.{Row, State, Machine, Doing, issued, new_row, retired, sight, turned, waited, writing}
use Rattle.lnbd_commands.specs.Asks.{taking as taking_result}
use Rattle.lnbd_commands.specs.Commands.{Commands, retiring}
use Rattle.lnbd_arrivals.specs.Frames.{front_size}
use Rattle.lnbd_handle.specs.declared.connection.Connection.{Connection}
use Rattle.lnbd_handle.specs.declared.issue.IssueFault.{IssueFault}
use Rattle.lnbd_handle.specs.declared.issue.IssueFault.TheVariants.{NoMemory, Refused}
use Rattle.lnbd_handle.specs.declared.kinds.Short.{Short}
use Rattle.lnbd_handle.specs.declared.pending.Pending.{Pending}
use Rattle.lnbd_handle.specs.Announcing.{announced_at, is_speaking, replies_in, takes_replies}
use Rattle.lnbd_handle.specs.Held.{held_in}
use Rattle.lnbd_handle.specs.Issues.{Faults}
use Rattle.lnbd_handle.specs.Room.{AreOrdered, HasPlacesAt, IfFlies, IsCalm, IsKept, IsPlain, KeepsFrontAt, ReadsFit}
use Rattle.lnbd_handle.specs.Runs.{Acts, doing}
use Rattle.lnbd_handle.specs.Seen.{IsSound, Stands, state_of, machine_of}
use Rattle.lnbd_handle.specs.Turns.{Arrives, ShowsNothing}
use Rattle.lnbd_handle.proofs.AnnouncedLemmas.{issued_grows, not_ready, retired_grows, said_as, said_empty, said_none, said_same, said_stays, wrote_grows}
use Rattle.lnbd_handle.proofs.RoomLemmas.{Lasting, each_append, each_without, runs_lasting}

ignored_none : (bytes : List ℕ) → shows_ignored bytes ≡ None → bytes ≡ []
ignored_none [] e = refl
ignored_none (b ∷ bytes) e = cc

created_none : (s : Stage) (seen : Sight) (w : ℕ → Option Waiting) (bytes : List ℕ) → s ≡ Created → shows_at s seen w bytes ≡ None → bytes ≡ []
created_none s seen w bytes is e = ignored_none bytes (sym (ap (λ t. shows_at t seen w bytes) is) ∙ e)

module _ {K : Type 0} where
  -- of a command that is retired: it is not in flight any more
  abbrev pub IsIdle : Completed → ℕ → Commands K → Type 0
  IsIdle (Done bytes) cookie commands = (row : Row K) → value_at cookie commands.rows ≡ Some row → row.flight ≡ None
  IsIdle (Failed error bytes) cookie commands = (row : Row K) → value_at cookie commands.rows ≡ Some row → row.flight ≡ None
  IsIdle NotYet cookie commands = Unit {0}
  IsIdle NoSuchCookie cookie commands = Unit {0}

  fits_more : (size more : ℕ) (rows : List (ℕ × Row K)) → size ≤ more → ReadsFit size rows → ReadsFit more rows
  fits_more size more [] low all = tt
  fits_more size more (entry ∷ rows) low all = (one entry.1.flight all.0, fits_more size more rows low all.1)
    where
      one : (f : Option (Flight K)) → IfFlies (λ kind length flight. is_read kind ≡ true → length ≤ size) entry.1.kind entry.1.length f → IfFlies (λ kind length flight. is_read kind ≡ true → length ≤ more) entry.1.kind entry.1.length f
      one None here = tt
      one (Some flight) here = λ read. let short = here read in omega (arith, short, low)

  -- Nothing is held.
  pub places_empty : (state : State K) (pending : Pending) → IsKept pending → held_in pending ≡ [] → pending.announced ≡ None → ReadsFit (vec_len pending.content) state.rows → AreOrdered state.talk.structured state.talk.extended → HasPlacesAt state pending
  places_empty state pending kept empty unannounced fits ordered = record { kept = kept; fits = fits; ordered = ordered; said = said_empty state pending kept empty unannounced }

  -- A buffer that has grown, and another read for which it has room.
  pub places_grown : (state : State K) (old new : Pending) → vec_len old.content ≤ vec_len new.content → new.head ≡ old.head → new.announced ≡ old.announced → new.came ≡ old.came → IsKept new → HasPlacesAt state old → HasPlacesAt state new
  places_grown state old new grows head announced came kept p = record {
    kept = kept;
    fits = fits_more (vec_len old.content) (vec_len new.content) state.rows grows p.fits;
    ordered = p.ordered;
    said = said_same (front_size (replies_in state)) (announced_at state) old new announced (ap (λ h. h.items) head) came p.said;
  }

  pub places_issued : (command : Command K) (old new : State K) (pending : Pending) → new ≡ issued command old → (is_read command.kind ≡ true → command.length ≤ vec_len pending.content) → ShowsNothing old (held_in pending) → HasPlacesAt old pending → HasPlacesAt new pending
  places_issued command old new pending is fits partial p = subst (λ s. HasPlacesAt s pending) (sym is) (record {
    kept = p.kept;
    fits = each_append (λ kind length flight. is_read kind ≡ true → length ≤ vec_len pending.content) old.rows ((old.issued + 1, new_row (request_of old.admitted command)) ∷ []) p.fits (fits, tt);
    ordered = p.ordered;
    said = said_stays old (waited (issued command old)) pending p.ordered (issued_grows command old) partial p.said;
  })

  pub places_wrote : (n : ℕ) (old new : State K) (pending : Pending) → new ≡ writing n old → ShowsNothing old (held_in pending) → HasPlacesAt old pending → HasPlacesAt new pending
  places_wrote n old new pending is partial p = subst (λ s. HasPlacesAt s pending) (sym is) (record {
    kept = p.kept;
    fits = p.fits;
    ordered = p.ordered;
    said = said_stays old (waited (writing n old)) pending p.ordered (wrote_grows n old) partial p.said;
  })

  pub places_as : (old new : State K) (pending : Pending) → new ≡ old → HasPlacesAt old pending → HasPlacesAt new pending
  places_as old new pending same p = subst (λ s. HasPlacesAt s pending) (sym same) p

  pub places_fault : {World : Type 0} (steps : World → List (Call K) → World → Type 0) (command : Command K) (fault : IssueFault K) (old new : Machine K) (pending : Pending) (before after : World) →
      Faults steps command fault old new before after → HasPlacesAt old.known pending → HasPlacesAt new.known pending
  places_fault steps command (NoMemory buf first done) old new pending before after f p = subst (λ (m : Machine K). HasPlacesAt m.known pending) (sym f.3) p
  places_fault steps command (Refused reason buf) old new pending before after f p = subst (λ (m : Machine K). HasPlacesAt m.known pending) (sym f.2.machine) p

  -- A command that is completed is retired: those that wait stay.
  pub places_retired : (result : Completed) (cookie : ℕ) (old : Connection K) (commands : Commands K) (pending : Pending) → commands ≡ taking_result result cookie old.commands → IsRising old.commands.rows → IsIdle result cookie old.commands →
      ShowsNothing (state_of old) (held_in pending) → HasPlacesAt (state_of old) pending → HasPlacesAt (state_of (record old { commands = commands })) pending
  places_retired result cookie old commands pending is rising idle partial p = subst (λ c. HasPlacesAt (state_of (record old { commands = c })) pending) (sym is) (go result idle)
    where
      gone : ((row : Row K) → value_at cookie old.commands.rows ≡ Some row → row.flight ≡ None) → HasPlacesAt (state_of (record old { commands = retiring cookie old.commands })) pending
      gone landed = record {
        kept = p.kept;
        fits = each_without (λ kind length flight. is_read kind ≡ true → length ≤ vec_len pending.content) cookie old.commands.rows p.fits;
        ordered = p.ordered;
        said = said_stays (state_of old) (waited (retired cookie (state_of old))) pending p.ordered (retired_grows cookie (state_of old) rising landed) partial p.said;
      }

      go : (r : Completed) → IsIdle r cookie old.commands → HasPlacesAt (state_of (record old { commands = taking_result r cookie old.commands })) pending
      go (Done bytes) landed = gone landed
      go (Failed error bytes) landed = gone landed
      go NotYet landed = p
      go NoSuchCookie landed = p

  -- The start: what is held before it is nothing.
  pub places_started : (old : Connection K) (pending : Pending) → old.stage ≡ Created → IsPartial (machine_of old (held_in pending)) → HasPlacesAt (state_of old) pending → HasPlacesAt (record (state_of old) { stage = Open }) pending
  places_started old pending is partial p =
      let none : held_in pending ≡ [] = created_none old.stage (sight (state_of old)) (waited (state_of old)) (held_in pending) is partial in
      places_empty (record (state_of old) { stage = Open }) pending p.kept none (said_none (state_of old) pending p.kept p.said none) p.fits p.ordered

  -- An option is asked, so no command is.
  pub places_asked : (option : ℕ) (old new : State K) (pending : Pending) → new ≡ turned (Opted option) old → old.talk.phase ≡ phase.OptMode → HasPlacesAt old pending → HasPlacesAt new pending
  places_asked option old new pending is asked p = subst (λ s. HasPlacesAt s pending) (sym is) (record {
    kept = p.kept;
    fits = p.fits;
    ordered = p.ordered;
    said = said_as (front_size (replies_in old)) (announced_at old) (announced_at (turned (Opted option) old)) pending
        (not_ready (turned (Opted option) old) (take (front_size (replies_in old)) pending.head.items) refl ∙ sym (not_ready old (take (front_size (replies_in old)) pending.head.items) (ap takes_replies asked))) p.said;
  })

  -- What is held is dropped.
  pub places_cleared : (known new : State K) (old pending : Pending) → new ≡ known → IsKept pending → held_in pending ≡ [] → pending.announced ≡ None → pending.content ≡ old.content → ReadsFit (vec_len old.content) known.rows → AreOrdered known.talk.structured known.talk.extended → HasPlacesAt new pending
  places_cleared known new old pending is kept none unannounced room fits ordered = subst (λ s. HasPlacesAt s pending) (sym is)
      (places_empty known pending kept none unannounced (subst (λ v. ReadsFit (vec_len v) known.rows) (sym room) fits) ordered)

  -- Bytes arrived.
  pub places_arrived : {World : Type 0} (steps : World → List (Call K) → World → Type 0) (old new : Connection K) (pending now : Pending) (bytes : List ℕ) (before after : World) (result : Result (Unit {0}) Short) →
      Arrives steps old (held_in pending) before bytes result new (held_in now) after → IsKept now → vec_len now.content ≡ vec_len pending.content → KeepsFrontAt (state_of new) now → HasPlacesAt (state_of old) pending → HasPlacesAt (state_of new) now
  places_arrived steps old new pending now bytes before after result a kept room said p =
      let l = lasts result a in
      record { kept = kept; fits = subst (λ n. ReadsFit n new.commands.rows) (sym room) l.0; ordered = l.1; said = said }
    where
      lasts : (r : Result (Unit {0}) Short) → Arrives steps old (held_in pending) before bytes r new (held_in now) after → ReadsFit (vec_len pending.content) new.commands.rows × AreOrdered new.talk.structured new.talk.extended
      lasts (Ok done) a = runs_lasting (λ kind length flight. is_read kind ≡ true → length ≤ vec_len pending.content) steps bytes (machine_of old (held_in pending)) (machine_of new (held_in now)) before after a (p.fits, p.ordered)
      lasts (Err short) a = runs_lasting (λ kind length flight. is_read kind ≡ true → length ≤ vec_len pending.content) steps (take short.taken bytes) (machine_of old (held_in pending)) (machine_of new (held_in now)) before after a.1 (p.fits, p.ordered)

  -- The connection ended: by a part of an event in which commands are filed and no more is asked.
  pub places_ended : {World : Type 0} (steps : World → List (Call K) → World → Type 0) (act : Doing K → Doing K) (old new : Connection K) (pending now : Pending) (before after : World) → ((d : Doing K) → Lasting (λ kind length flight. is_read kind ≡ true → length ≤ vec_len pending.content) d.state → Lasting (λ kind length flight. is_read kind ≡ true → length ≤ vec_len pending.content) (act d).state) →
      Acts steps act (state_of old) (state_of new) before after → IsKept now → held_in now ≡ [] → now.announced ≡ None → now.content ≡ pending.content → HasPlacesAt (state_of old) pending → HasPlacesAt (state_of new) now
  places_ended steps act old new pending now before after lasts a kept none unannounced room p =
      let l = subst (λ d. Lasting (λ kind length flight. is_read kind ≡ true → length ≤ vec_len pending.content) d.state) (a.does [] []) (lasts (doing (state_of old) (a.answers ++ []) []) (p.fits, p.ordered)) in
      places_cleared (state_of new) (state_of new) pending now refl kept none unannounced room l.0 l.1

-- Where replies are simple and no command has a chunk callback, nothing that arrives wants memory.

is_served : Standing → Bool
is_served standing.Created = false
is_served standing.Negotiating = false
is_served standing.OptMode = false
is_served standing.Ready = true
is_served standing.Closing = true
is_served standing.Closed = false
is_served (standing.Dead cause) = false

served : (s : Standing) → (s ≡ standing.Ready) ⊎ (s ≡ standing.Closing) → is_served s ≡ true
unfolding is_served
served s stands = elim stands [ inl e ↦ ap is_served e | inr e ↦ ap is_served e ]

ready_phase : (p : Phase) → is_served (state_in p) ≡ true → p ≡ phase.Ready
unfolding is_served
ready_phase phase.Greeting e = absurd (false≢true e)
ready_phase (phase.Asked option) e = absurd (false≢true e)
ready_phase phase.AskedByName e = absurd (false≢true e)
ready_phase phase.OptMode e = absurd (false≢true e)
ready_phase phase.Ready e = refl
ready_phase (phase.Refused code) e = absurd (false≢true e)

off : (structured extended : Bool) → AreOrdered structured extended → structured ≡ false → extended ≡ false
off structured true o e = absurd (true≢false (sym (o refl) ∙ e))
off structured false o e = refl

plain_phase : (stage : Stage) (p : Phase) (ended : Bool) → Stands stage p ended → (state_at stage p ≡ standing.Ready) ⊎ (state_at stage p ≡ standing.Closing) → is_speaking stage ≡ true → p ≡ phase.Ready
plain_phase Created p ended at s speaking = absurd (false≢true speaking)
plain_phase Open p ended at s speaking = ready_phase p (served (state_in p) s)
plain_phase Disconnecting p ended at s speaking = at
plain_phase Aborting p ended at s speaking = absurd (false≢true speaking)
plain_phase Closed p ended at s speaking = absurd (false≢true speaking)
plain_phase (Dead cause) p ended at s speaking = absurd (false≢true speaking)

module _ {K : Type 0} where
  pub plain_calm : (c : Connection K) (pending : Pending) → IsSound c → HasPlacesAt (state_of c) pending → IsPlain (state_of c) → IsCalm (state_of c)
  plain_calm c pending sound p plain speaking = (
    record { speaking = speaking; ready = plain_phase c.stage c.talk.phase c.queue.ended sound.stands plain.stands speaking; compact = plain.simple; short = off c.talk.structured c.talk.extended p.ordered plain.simple },
    plain.unheard,
  )

  -- Bytes that are held are of commands, or of their negotiation.
  pub held_speaks : (c : Connection K) (held : List ℕ) → IsPartial (machine_of c held) → 0 < length held → is_speaking c.stage ≡ true
  held_speaks c held partial some = go c.stage held partial some
    where
      passed : (n : ℕ) (b : ℕ) (bytes : List ℕ) → shows_passed n (b ∷ bytes) ≡ None → ⊥
      passed n b bytes e = either (nat_lt n max_passed) e
        where
          either : (t : Bool) → (if t then Some Passed else Some (Broken TooManyReplies)) ≡ None → ⊥
          either true e = cc
          either false e = cc

      go : (s : Stage) (bytes : List ℕ) → shows_at s (sight (state_of c)) (waited (state_of c)) bytes ≡ None → 0 < length bytes → is_speaking s ≡ true
      go Created [] e some = absurd (omega (arith, some))
      go Created (b ∷ bytes) e some = cc
      go Open bytes e some = refl
      go Disconnecting bytes e some = refl
      go Aborting [] e some = absurd (omega (arith, some))
      go Aborting (b ∷ bytes) e some = absurd (passed (sight (state_of c)).passed b bytes e)
      go Closed [] e some = absurd (omega (arith, some))
      go Closed (b ∷ bytes) e some = cc
      go (Dead cause) [] e some = absurd (omega (arith, some))
      go (Dead cause) (b ∷ bytes) e some = cc
