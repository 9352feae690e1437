-- What a step of the machine is to the histories that it stands for.
use Rattle.std.proofs.Common.{◌≡◌, ℕ, false, List, ◌∷◌, Option, None, true, take, Result, Ok, Err, OnOk, IfErr, refl, sym, ap, subst, ◌∙◌}
use Rattle.lnbd_model.specs.declared.note.Note.{Note}
use Rattle.lnbd_model.specs.declared.export.ExportInfo.{ExportInfo}
use Rattle.lnbd_model.specs.declared.failure.Failure.{Failure}
use Rattle.lnbd_model.specs.declared.state.State.{State}
use Rattle.lnbd_model.specs.declared.kind.Kind.TheVariants.{Read}
use Rattle.lnbd_callbacks.specs.Calls.{Call}
use Rattle.lnbd_history.specs.declared.kinds.Completed.{Completed}
use Rattle.lnbd_history.specs.declared.kinds.Peeked.{Peeked}
use Rattle.lnbd_history.specs.declared.kinds.Completed.TheVariants.{Done, Failed, NotYet, NoSuchCookie}
use Rattle.lnbd_history.specs.Commands.{Command}
use Rattle.lnbd_history.specs.Answers.{is_living, state_after, in_flight_after, out_after, direction_after, peeked_after, completed_after, failure_after, info_after, log_after, strict_after}
use Rattle.lnbd_history.specs.Events.{Answer, Event, History, Issue, Refuse, Arrived, Retire, Close}
use Rattle.lnbd_history.specs.History.{is_gone, reading}
use Rattle.lnbd_history.specs.Laws.{is_closed, HasItsBytes}
use Rattle.lnbd_machine.specs.Does.{Does}
use Rattle.lnbd_machine.specs.Machine.{Machine, calls, step}
use Rattle.lnbd_machine.specs.Now.{state_now, in_flight_now, out_now, direction_now, peeked_now, completed_now, failure_now, info_now, refusal_now}
use Rattle.lnbd_standing.specs.Standing.{is_result, StandsFor, May}
use Rattle.lnbd_standing.proofs.Standing.{goes_on, stands_right, closing_right, stands_calls}
use Rattle.lnbd_handle.specs.declared.issue.IssueFault.{IssueFault}
use Rattle.lnbd_handle.specs.declared.issue.IssueFault.TheVariants.{NoMemory, Refused}
use Rattle.lnbd_handle.specs.declared.kinds.Short.{Short}
use Rattle.lnbd_handle.specs.Completing.{completing}
use Rattle.lnbd_handle.specs.Issues.{AddsUnread, Faults, FaultsUnread, with_bytes}
use Rattle.lnbd_handle.specs.Runs.{Answered}
use Rattle.lnbd_handle.specs.Histories.{ForEach, Adds, AddsCalls, AddsAnswered, Stays, AddsResult, AddsFault, Closes}

module _ {K : Type 0} where
  -- the event is no close
  abbrev pub IsGoing : Event K → Type 0
  IsGoing event = (history : History K) → is_closed (event ∷ history) ≡ false

  pub adds : (event : Event K) (old new : Machine K) → IsGoing event → May 1024 old event → new ≡ step old event → ForEach old (Adds event new)
  adds event old new going may is history stands = subst (λ (m : Machine K). StandsFor 1024 (event ∷ history) m) (sym is) ((goes_on 1024 history old event stands may).stands (going history))

  pub stays : (old new : Machine K) → new ≡ old → ForEach old (Stays new)
  stays old new is history stands = subst (λ (m : Machine K). StandsFor 1024 history m) (sym is) stands

  module _ {World : Type 0} (steps : World → List (Call K) → World → Type 0) (old new : Machine K) (before after : World) where
    pub adds_calls : (event : Event K) → IsGoing event → May 1024 old event → Does steps event old new before after → ForEach old (AddsCalls steps event new before after)
    adds_calls event going may does history stands = (
      adds event old new going may does.machine history stands,
      record { calls = calls old event; told = stands_calls 1024 history old event stands may; world = does.world },
    )

    pub adds_answered : (event : List Answer → Event K) → ((answers : List Answer) → IsGoing (event answers)) → ((answers : List Answer) → May 1024 old (event answers)) → Answered steps event old new before after → ForEach old (AddsAnswered steps event new before after)
    adds_answered event going may a history stands = (a.0, adds_calls (event a.0) (going a.0) (may a.0) a.1 history stands)

    pub adds_fault : (command : Command K) (fault : IssueFault K) → Faults steps command fault old new before after → ForEach old (AddsFault steps command fault new before after)
    adds_fault command (NoMemory buf first done) f history stands = stays old new f.3 history stands
    adds_fault command (Refused why buf) f history stands = adds_calls (Refuse command why) (λ before. refl) f.0 f.2 history stands

    pub adds_unread : (count offset : ℕ) (first : Option K) (done : K) (flags : ℕ) (fault : IssueFault K) →
        FaultsUnread steps count offset first done flags fault old new before after → ForEach old (AddsUnread steps count offset first done flags fault new before after)
    adds_unread count offset first done flags (NoMemory buf first_back done_back) f history stands bytes size = stays old new f.3 history stands
    adds_unread count offset first done flags (Refused why buf) f history stands bytes size =
        let refused = f.1 bytes size in
        adds_calls (Refuse (with_bytes Read bytes offset first done flags) why) (λ before. refl) refused.0 refused.1 history stands

  pub issue_adds : (command : Command K) (old new : Machine K) (result : Result ℕ (IssueFault K)) → HasItsBytes command → OnOk result (refusal_now 1024 old.known command ≡ None) → OnOk result (new ≡ step old (Issue command)) → OnOk result (ForEach old (Adds (Issue command) new))
  issue_adds command old new (Ok cookie) bytes may is = adds (Issue command) old new (λ before. refl) (may, bytes) is
  issue_adds command old new (Err fault) bytes may is = tt

  pub adds_result : (result : Completed) (cookie : ℕ) (old new : Machine K) → result ≡ completed_now old.known cookie → new ≡ completing result cookie old → ForEach old (AddsResult result cookie new)
  adds_result (Done bytes) cookie old new is taken history stands = adds (Retire cookie) old new (λ before. refl) (ap is_result (sym is)) taken history stands
  adds_result (Failed error bytes) cookie old new is taken history stands = adds (Retire cookie) old new (λ before. refl) (ap is_result (sym is)) taken history stands
  adds_result NotYet cookie old new is taken history stands = stays old new taken history stands
  adds_result NoSuchCookie cookie old new is taken history stands = stays old new taken history stands

  pub closes_in : {World : Type 0} (steps : World → List (Call K) → World → Type 0) (old : Machine K) (notes : List Note) (opened freed : ℕ) (before after : World) →
      steps before (calls old Close) after → notes ≡ (step old Close).known.notes → opened ≡ (step old Close).known.admitted → freed ≡ (step old Close).known.freed → ForEach old (Closes steps notes opened freed before after)
  closes_in steps old notes opened freed before after world n o f history stands =
      let right = closing_right 1024 history old stands in
      record {
        lawful = (goes_on 1024 history old Close stands tt).lawful;
        log = n ∙ right.log;
        admitted = o ∙ right.admitted;
        frees = f ∙ right.freed;
        plays = record { calls = calls old Close; told = stands_calls 1024 history old Close stands tt; world = world };
      }

  -- What arrived, and a read that was issued.
  module _ {World : Type 0} (steps : World → List (Call K) → World → Type 0) (old new : Machine K) (bytes : List ℕ) (before after : World) (living : is_living old.known.stage ≡ true) where
    pub arrived_adds : (result : Result (Unit {0}) Short) → OnOk result (Answered steps (Arrived bytes) old new before after) → OnOk result (ForEach old (AddsAnswered steps (Arrived bytes) new before after))
    arrived_adds (Ok done) a = adds_answered steps old new before after (Arrived bytes) (λ answers earlier. refl) (λ answers. living) a
    arrived_adds (Err short) a = tt

    pub short_adds : (result : Result (Unit {0}) Short) → IfErr result (λ short. Answered steps (Arrived (take short.taken bytes)) old new before after) →
        IfErr result (λ short. ForEach old (AddsAnswered steps (Arrived (take short.taken bytes)) new before after))
    short_adds (Ok done) a = tt
    short_adds (Err short) a = adds_answered steps old new before after (Arrived (take short.taken bytes)) (λ answers earlier. refl) (λ answers. living) a

  -- What the machine answers the history says.
  module _ (now : Machine K) where
    pub strict_told : (answer : ℕ) → answer ≡ now.known.strict → ForEach now (λ history. answer ≡ strict_after history)
    strict_told answer is history stands = is ∙ (stands_right 1024 history now stands).strict

    pub state_told : (answer : State) → answer ≡ state_now now.known → ForEach now (λ history. answer ≡ state_after history)
    state_told answer is history stands = is ∙ (stands_right 1024 history now stands).state

    pub direction_told : (answer : ℕ) → answer ≡ direction_now now.known → ForEach now (λ history. answer ≡ direction_after history)
    direction_told answer is history stands = is ∙ (stands_right 1024 history now stands).direction

    pub info_told : (answer : Option ExportInfo) → answer ≡ info_now now.known → ForEach now (λ history. answer ≡ info_after history)
    info_told answer is history stands = is ∙ (stands_right 1024 history now stands).info

    pub out_told : (answer : List ℕ) → answer ≡ out_now now.known → ForEach now (λ history. answer ≡ out_after history)
    out_told answer is history stands = is ∙ (stands_right 1024 history now stands).out

    pub in_flight_told : (answer : ℕ) → answer ≡ in_flight_now now.known → ForEach now (λ history. answer ≡ in_flight_after history)
    in_flight_told answer is history stands = is ∙ (stands_right 1024 history now stands).in_flight

    pub peeked_told : (answer : Peeked) → answer ≡ peeked_now now.known → ForEach now (λ history. answer ≡ peeked_after history)
    peeked_told answer is history stands = is ∙ (stands_right 1024 history now stands).peeked

    pub log_told : (answer : List Note) → answer ≡ now.known.notes → ForEach now (λ history. answer ≡ log_after history)
    log_told answer is history stands = is ∙ (stands_right 1024 history now stands).log

    pub completed_told : (cookie : ℕ) (answer : Completed) → answer ≡ completed_now now.known cookie → ForEach now (λ history. answer ≡ completed_after history cookie)
    completed_told cookie answer is history stands = is ∙ (stands_right 1024 history now stands).completed cookie

    pub failure_told : (cookie : ℕ) (answer : Option Failure) → answer ≡ failure_now now.known cookie → ForEach now (λ history. is_gone history (reading history).known.entries cookie ≡ false → answer ≡ failure_after history cookie)
    failure_told cookie answer is history stands there = is ∙ (stands_right 1024 history now stands).failure cookie there
