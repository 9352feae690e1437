-- Where a script stands after something happened on its handle.
use Rattle.std.proofs.Common.{arith, ◌≡◌, ◌≤◌, ◌+◌, ◌++◌, ℕ, Bool, true, false, List, ◌∷◌, All, drop, length, length-append, string_bytes, Option, Some, None, refl, sym, ◌∙◌, ap, subst}
use Rattle.std.proofs.Math.Seq.{drop-length}
use Rattle.std.proofs.lemmas.Bool.{false≢true}
use Rattle.std.proofs.lemmas.List.Elements.{All-append}
use Rattle.std.proofs.lemmas.List.{drop-append-le}
use Rattle.std.proofs.lemmas.Grind.{flat_map-append}
use Rattle.lnbd_model.specs.declared.state.State.{State}
use Rattle.lnbd_model.specs.declared.state.State.TheVariants as state
use Rattle.lnbd_model.specs.declared.state.Cause.TheVariants as cause
use Rattle.lnbd_callbacks.specs.Calls.{Call}
use Rattle.lnbd_history.specs.Events.{Event as Happening, History, Set, StrictMode, Start, Opt, Abort, Issue, Refuse, Disconnect, Wrote, Arrived, End, LinkFailed, Retire, ClearLog, Close}
use Rattle.lnbd_history.specs.Answers.{opt_answer_after, state_after}
use Rattle.lnbd_history.specs.declared.kinds.OptAnswer.{OptAnswer}
use Rattle.lnbd_history.specs.declared.kinds.OptAnswer.TheVariants as answer
use Rattle.lnbd_history.specs.Laws.{is_closed}
use Rattle.lnbd_machine.specs.Does.{Does}
use Rattle.lnbd_handle.specs.Histories.{Plays}
use Rattle.lnbd_handle.specs.Placing.{Handled}
use Rattle.lnbd_machine.specs.Machine.{Machine, calls}
use Rattle.lnbd_machine.specs.Now.{state_now}
use Rattle.lnbd_standing.specs.Standing.{StandsFor, May}
use Rattle.lnbd_standing.proofs.Standing.{goes_on, stands_calls, stands_right}
use Rattle.lnbd_script.specs.declared.event.Event.{Event}
use Rattle.lnbd_script.specs.declared.keeper.Keeper.{Keeper}
use Rattle.lnbd_script.specs.declared.keeper.Heeded.{Heeded}
use Rattle.lnbd_script.specs.declared.session.Session.{Session}
use Rattle.lnbd_script.specs.Kept.{IsAnswered, Heeds, Tally, freed_by, line_of, lines_of, or_first, tallied, tally_of}
use Rattle.lnbd_script.specs.Seen.{Seen, IsAt, Follows, adding, noting, callbacks_of, death_in, event_of_answer, event_of_error, event_of_faulty, is_link, met, met_of, tally_after, with_command}
use Rattle.lnbd_script.specs.Steps.{IsWorld}
use Rattle.lnbd_script.specs.KeptLaws.{freed_on}

-- the event that a handle and its callbacks' world come to
abbrev pub met_by : Machine Keeper → Heeded → Option Event
met_by handle heeded = met_of heeded.faulty (state_now handle.known) handle.known.talk.answer heeded.error

-- Happenings that issue no command and close nothing.
abbrev pub is_plain : Happening Keeper → Bool
is_plain (Issue command) = false
is_plain Close = false
is_plain other = true

plain_goes_on : (happening : Happening Keeper) (history : History Keeper) → is_plain happening ≡ true → is_closed (happening ∷ history) ≡ false
plain_goes_on (Set setting) history p = refl
plain_goes_on (StrictMode bits) history p = refl
plain_goes_on Start history p = refl
plain_goes_on (Opt option) history p = refl
plain_goes_on Abort history p = refl
plain_goes_on (Issue command) history p = refl
plain_goes_on (Refuse command why) history p = refl
plain_goes_on Disconnect history p = refl
plain_goes_on (Wrote n) history p = refl
plain_goes_on (Arrived bytes answers) history p = refl
plain_goes_on (End answers) history p = refl
plain_goes_on (LinkFailed answers) history p = refl
plain_goes_on (Retire cookie) history p = refl
plain_goes_on ClearLog history p = refl
plain_goes_on Close history p = absurd (false≢true p)

no_command : (happening : Happening Keeper) (tally : Tally) → is_plain happening ≡ true → with_command happening tally ≡ tally
no_command (Set setting) tally p = refl
no_command (StrictMode bits) tally p = refl
no_command Start tally p = refl
no_command (Opt option) tally p = refl
no_command Abort tally p = refl
no_command (Issue command) tally p = absurd (false≢true p)
no_command (Refuse command why) tally p = refl
no_command Disconnect tally p = refl
no_command (Wrote n) tally p = refl
no_command (Arrived bytes answers) tally p = refl
no_command (End answers) tally p = refl
no_command (LinkFailed answers) tally p = refl
no_command (Retire cookie) tally p = refl
no_command ClearLog tally p = refl
no_command Close tally p = refl

plain_world : (happening : Happening Keeper) (heeded : Heeded) → is_plain happening ≡ true → IsWorld (λ t. with_command happening t) heeded heeded
plain_world happening heeded plain = record { tally = sym (no_command happening (tally_of heeded) plain); hears = refl; heard = refl; freed = refl }

-- What holds once something happened on the handle.
record Happened (seen : Seen) (happening : Happening Keeper) (handle : Machine Keeper) (heeded : Heeded) : Type 0 where
  stands : StandsFor 1024 (happening ∷ seen.history) handle
  answered : All IsAnswered (callbacks_of (happening ∷ seen.history))
  tally : tally_of heeded ≡ tally_after (happening ∷ seen.history)
  shown : seen.shown ≤ length (callbacks_of (happening ∷ seen.history))
  heard : heeded.hears ≡ true → string_bytes heeded.heard ≡ lines_of (drop seen.shown (callbacks_of (happening ∷ seen.history)))
  freed : heeded.freed ≡ freed_by 0 (callbacks_of (happening ∷ seen.history))

-- Once a happening made these calls on the callbacks. A command that is issued joined the callbacks' world before.
happened : (seen : Seen) (old : Session) (before : Heeded) (handle : Machine Keeper) (heeded : Heeded) (happening : Happening Keeper) (own : List (Call Keeper)) → IsAt seen old → StandsFor 1024 (happening ∷ seen.history) handle
    → IsWorld (λ t. with_command happening t) old.heeded before → callbacks_of (happening ∷ seen.history) ≡ callbacks_of seen.history ++ own → Heeds before own heeded → Happened seen happening handle heeded
happened seen old before handle heeded happening own at stands joins more heeds =
    let cs = callbacks_of seen.history in
    let size : length (callbacks_of (happening ∷ seen.history)) ≡ length cs + length own = ap (λ (l : List (Call Keeper)). length l) more ∙ length-append cs own in
    let latest : drop (length cs) (callbacks_of (happening ∷ seen.history)) ≡ own
    = ap (λ (l : List (Call Keeper)). drop (length cs) l) more ∙ drop-append-le (length cs) cs own (omega arith) ∙ ap (λ (l : List (Call Keeper)). l ++ own) (drop-length cs) in
    record {
      stands = stands;
      answered = subst (λ (l : List (Call Keeper)). All IsAnswered l) (sym more) (All-append IsAnswered cs own at.answered heeds.answered);
      tally = heeds.tally ∙ ap (λ (t : Tally). tallied t own) joins.tally ∙ ap (λ (t : Tally). tallied (with_command happening t) own) at.tally
          ∙ ap (λ (l : List (Call Keeper)). tallied (with_command happening (tally_after seen.history)) l) (sym latest);
      shown = omega (arith, at.shown, size);
      heard = λ e.
          heeds.heard e ∙ ap (λ (t : List ℕ). t ++ lines_of own) (joins.heard ∙ at.heard (sym joins.hears ∙ heeds.hears e)) ∙ sym (flat_map-append line_of (drop seen.shown cs) own)
          ∙ ap (λ (l : List (Call Keeper)). lines_of l) (sym (drop-append-le seen.shown cs own at.shown) ∙ ap (λ (l : List (Call Keeper)). drop seen.shown l) (sym more));
      freed = heeds.freed ∙ ap (λ (n : ℕ). freed_by n own) (joins.freed ∙ at.freed) ∙ sym (freed_on 0 cs own) ∙ ap (freed_by 0) (sym more);
    }

met_is : (seen : Seen) (happening : Happening Keeper) (handle : Machine Keeper) (heeded : Heeded) → Happened seen happening handle heeded → met_by handle heeded ≡ met (happening ∷ seen.history)
met_is seen happening handle heeded now =
    let right = stands_right 1024 (happening ∷ seen.history) handle now.stands in
    ap (λ (s : State). met_of heeded.faulty s handle.known.talk.answer heeded.error) right.state
    ∙ ap (λ (a : Option OptAnswer). met_of heeded.faulty (state_after (happening ∷ seen.history)) a heeded.error) right.opt_answer
    ∙ ap (λ (t : Tally). met_of t.faulty (state_after (happening ∷ seen.history)) (opt_answer_after (happening ∷ seen.history)) t.error) now.tally

-- by a call on the wires, after which the session notes what it met
pub follow : (seen : Seen) (old : Session) (handle : Handled Keeper) (heeded : Heeded) (happening : Happening Keeper) (fault : Option Event) → IsAt seen old → is_plain happening ≡ true → StandsFor 1024 (happening ∷ seen.history) handle.machine
    → Plays Heeds happening seen.history old.heeded heeded
    → (after : Seen) × Follows happening fault seen after × IsAt after (record { handle = handle; link = old.link; heeded = heeded; first = or_first old.first (or_first fault (met_by handle.machine heeded)) })
follow seen old handle heeded happening fault at plain stands plays =
    let now = happened seen old old.heeded handle.machine heeded happening plays.calls at stands (plain_world happening old.heeded plain) plays.told plays.world in
    let first = ap (λ (f : Option Event). or_first f (or_first fault (met_by handle.machine heeded))) at.first
    ∙ ap (λ (m : Option Event). or_first seen.first (or_first fault m)) (met_is seen happening handle.machine heeded now) in (
      noting fault happening seen,
      record { is = refl; answered = now.answered },
      record { stands = now.stands; link = at.link; first = first; answered = now.answered; tally = now.tally; shown = now.shown; heard = now.heard; freed = now.freed },
    )

-- by a call on the handle alone
pub add_with : (seen : Seen) (old new : Session) (before : Heeded) (handle : Handled Keeper) (heeded : Heeded) (happening : Happening Keeper)
    → IsAt seen old → May 1024 old.handle.machine happening → is_closed (happening ∷ seen.history) ≡ false → IsWorld (λ t. with_command happening t) old.heeded before → Does Heeds happening old.handle.machine handle.machine before heeded
    → new ≡ record { handle = handle; link = old.link; heeded = heeded; first = old.first }
    → IsAt (adding happening seen) new
add_with seen old new before handle heeded happening at may going joins does is =
    let stands = subst (λ (m : Machine Keeper). StandsFor 1024 (happening ∷ seen.history) m) (sym does.machine) ((goes_on 1024 seen.history old.handle.machine happening at.stands may).stands going) in
    let now = happened seen old before handle.machine heeded happening (calls old.handle.machine happening) at stands joins (stands_calls 1024 seen.history old.handle.machine happening at.stands may) does.world in
    subst (λ (s : Session). IsAt (adding happening seen) s) (sym is)
    (record { stands = now.stands; link = at.link; first = at.first; answered = now.answered; tally = now.tally; shown = now.shown; heard = now.heard; freed = now.freed })

-- the same where no command is issued
pub add : (seen : Seen) (old new : Session) (handle : Handled Keeper) (heeded : Heeded) (happening : Happening Keeper)
    → IsAt seen old → May 1024 old.handle.machine happening → is_plain happening ≡ true → Does Heeds happening old.handle.machine handle.machine old.heeded heeded
    → new ≡ record { handle = handle; link = old.link; heeded = heeded; first = old.first }
    → IsAt (adding happening seen) new
add seen old new handle heeded happening at may plain does is =
    add_with seen old new old.heeded handle heeded happening at may (plain_goes_on happening seen.history plain) (plain_world happening old.heeded plain) does is

-- No death and no error is a fault of the link.
death_no_link : (s : State) → is_link (death_in s) ≡ false
death_no_link state.Created = refl
death_no_link state.Negotiating = refl
death_no_link state.OptMode = refl
death_no_link state.Ready = refl
death_no_link state.Closing = refl
death_no_link state.Closed = refl
death_no_link (state.Dead (cause.Broke breach)) = refl
death_no_link (state.Dead (cause.Refused option code)) = refl
death_no_link (state.Dead cause.Ended) = refl
death_no_link (state.Dead cause.LinkFailed) = refl

error_no_link : (e : Option ℕ) → is_link (event_of_error e) ≡ false
error_no_link None = refl
error_no_link (Some code) = refl

pub either_no_link : (a b : Option Event) → is_link a ≡ false → is_link b ≡ false → is_link (or_first a b) ≡ false
either_no_link None b p q = q
either_no_link (Some a) b p q = p

answer_no_link : (a : Option OptAnswer) → is_link (event_of_answer a) ≡ false
answer_no_link None = refl
answer_no_link (Some answer.Ok) = refl
answer_no_link (Some (answer.Refused option code)) = refl

faulty_no_link : (f : Bool) → is_link (event_of_faulty f) ≡ false
faulty_no_link true = refl
faulty_no_link false = refl

pub met_no_link : (handle : Machine Keeper) (heeded : Heeded) → is_link (met_by handle heeded) ≡ false
met_no_link handle heeded =
    either_no_link (event_of_faulty heeded.faulty) (or_first (death_in (state_now handle.known)) (or_first (event_of_answer handle.known.talk.answer) (event_of_error heeded.error))) (faulty_no_link heeded.faulty)
    (either_no_link (death_in (state_now handle.known)) (or_first (event_of_answer handle.known.talk.answer) (event_of_error heeded.error)) (death_no_link (state_now handle.known))
    (either_no_link (event_of_answer handle.known.talk.answer) (event_of_error heeded.error) (answer_no_link handle.known.talk.answer) (error_no_link heeded.error)))
