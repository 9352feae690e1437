-- What a line leaves, from what the handle and the wires answered.
use Rattle.std.proofs.Common.{arith, string_bytes, ◌≡◌, ◌==◌, inl, inr, ⊎_elim, ◌<◌, ◌≢◌, ℕ, zero, suc, Bool, true, false, List, [], ◌∷◌, length, Option, Some, None, Result, Ok, Err, OnOk, IfOk, IfErr, OnErr, refl, sym, ◌∙◌, ap, subst}
use Rattle.std.proofs.lemmas.Bool.{cases_Bool, false≢true, ne_eqb, not-false}
use Rattle.lnbd_model.specs.declared.refusal.Why.{Why}
use Rattle.lnbd_model.specs.declared.state.State.{State}
use Rattle.lnbd_model.specs.declared.state.State.TheVariants as state
use Rattle.lnbd_model.specs.declared.target.Place.{Place}
use Rattle.lnbd_model.specs.declared.target.Target.{Target}
use Rattle.lnbd_history.specs.declared.kinds.Completed.{Completed}
use Rattle.lnbd_history.specs.declared.kinds.Completed.TheVariants as completed
use Rattle.lnbd_history.specs.declared.kinds.Phase.{Phase}
use Rattle.lnbd_history.specs.declared.kinds.Phase.TheVariants as phase
use Rattle.lnbd_history.specs.declared.kinds.Stage.{Stage}
use Rattle.lnbd_history.specs.declared.kinds.Stage.TheVariants as stage
use Rattle.lnbd_history.specs.Events.{Event as Happening, StrictMode, Start, Set, Name, Context, Disconnect, Retire}
use Rattle.lnbd_history.specs.Answers.{state_after, completed_after, state_at}
use Rattle.lnbd_history.specs.Laws.{may_name}
use Rattle.lnbd_history.specs.Refusals.{by_state}
use Rattle.lnbd_history.specs.Strict.{unknown_bits}
use Rattle.lnbd_machine.specs.Does.{Does}
use Rattle.lnbd_handle.specs.Placing.{Handled}
use Rattle.lnbd_machine.specs.Machine.{Machine, step, calls}
use Rattle.lnbd_machine.specs.Now.{state_now, completed_now}
use Rattle.lnbd_standing.specs.Standing.{May, is_result}
use Rattle.lnbd_handle.specs.declared.kinds.OptFault.{OptFault}
use Rattle.lnbd_handle.specs.declared.kinds.OptFault.TheVariants as opt
use Rattle.lnbd_lines.specs.declared.negotiation.Opt.{Opt as Asked_option}
use Rattle.lnbd_lines.specs.declared.negotiation.Opt.TheVariants as option
use Rattle.lnbd_lines.specs.declared.negotiation.Switch.{Switch}
use Rattle.lnbd_lines.specs.declared.negotiation.Switch.TheVariants as switch
use Rattle.lnbd_model.specs.declared.fault.NoMemory.{NoMemory}
use Rattle.lnbd_handle.specs.Completing.{completing}
use Rattle.lnbd_handle.specs.Settings.{MayAdd}
use Rattle.lnbd_records.specs.Limits.{max_contexts}
use Rattle.lnbd_lines.specs.declared.line.Line.{Line}
use Rattle.lnbd_lines.specs.declared.line.Line.TheVariants as line
use Rattle.lnbd_handle.specs.declared.kinds.SetFault.{SetFault}
use Rattle.lnbd_handle.specs.declared.kinds.SetFault.TheVariants as set
use Rattle.lnbd_link.specs.Call.{Call, Connect}
use Rattle.lnbd_link.specs.Part.{Adds as Grows_by}
use Rattle.lnbd_link.proofs.Parts.{grows_none}
use Rattle.lnbd_script.specs.declared.keeper.Keeper.{Keeper}
use Rattle.lnbd_script.specs.declared.keeper.Heeded.{Heeded}
use Rattle.lnbd_script.specs.declared.session.Session.{Session}
use Rattle.lnbd_script.specs.declared.told.Halt.TheVariants as halt
use Rattle.lnbd_script.specs.declared.told.Moved.{Moved as Transfer}
use Rattle.lnbd_script.specs.declared.told.Moved.TheVariants as moved
use Rattle.lnbd_script.specs.declared.told.Told.{Told}
use Rattle.lnbd_script.specs.declared.told.Told.TheVariants as told
use Rattle.lnbd_callbacks.specs.Calls.{Call as Call_of}
use Rattle.std.proofs.Math.Seq.{drop-length}
use Rattle.lnbd_script.specs.declared.event.Event.{Event}
use Rattle.lnbd_script.specs.declared.event.Event.TheVariants.{Link}
use Rattle.lnbd_script.specs.Kept.{Heeds, lines_of, or_first, tally_of}
use Rattle.lnbd_script.specs.KeptLaws.{heeds_none}
use Rattle.lnbd_script.specs.Seen.{Seen, IsAt, Went, Goes, adding, callbacks_of}
use Rattle.lnbd_script.specs.Turns.{is_reading, is_waiting}
use Rattle.lnbd_poll.specs.States.{is_opt_mode}
use Rattle.lnbd_script.specs.Lines.{Adds, AddsContext, AsksFor, Hears, TellsHeard, hearing, Connects, ConnectsTo, Disconnects, Does as Line_does, LineEnd, ReadsOn, Sets, SetsStrict, WritesOn, asking, connected, has_all_contexts, is_created, is_structured, lacks_structured, named_if, setting_of, taking, told_link}
use Rattle.lnbd_script.specs.Steps.{Becomes, Takes_option, halted, moved_end, option_told}
use Rattle.lnbd_script.proofs.SeenLemmas.{add, is_plain}
use Rattle.lnbd_script.proofs.TurnLemmas.{answers_at, found_at}

-- a session whose handle is as before
pub same_at : (seen : Seen) (old : Session) (handle : Handled Keeper) → IsAt seen old → handle.machine ≡ old.handle.machine → IsAt seen (record { handle = handle; link = old.link; heeded = old.heeded; first = old.first })
same_at = found_at

-- a call on the handle that calls no callback
pub quiet : (old handle : Machine Keeper) (heeded : Heeded) (happening : Happening Keeper) → handle ≡ step old happening → calls old happening ≡ [] → Does Heeds happening old handle heeded heeded
quiet old handle heeded happening is none = record { machine = is; world = subst (λ cs. Heeds heeded cs heeded) (sym none) (heeds_none heeded) }

-- A handle that stands at the beginning was not started.
stage_created : (s : Stage) (p : Phase) → state_at s p ≡ state.Created → s ≡ stage.Created
stage_created stage.Created p e = refl
stage_created stage.Open phase.Greeting e = absurd (cc e)
stage_created stage.Open (phase.Asked option) e = absurd (cc e)
stage_created stage.Open phase.AskedByName e = absurd (cc e)
stage_created stage.Open phase.OptMode e = absurd (cc e)
stage_created stage.Open phase.Ready e = absurd (cc e)
stage_created stage.Open (phase.Refused code) e = absurd (cc e)
stage_created stage.Disconnecting p e = absurd (cc e)
stage_created stage.Aborting p e = absurd (cc e)
stage_created stage.Closed p e = absurd (cc e)
stage_created (stage.Dead cause) p e = absurd (cc e)

pub is_stage_created : (m : Machine Keeper) → state_now m.known ≡ state.Created → m.known.stage ≡ stage.Created
is_stage_created m e = stage_created m.known.stage m.known.talk.phase e

pub is_started : (old new : Machine Keeper) (answer : Result (Unit {0}) SetFault) → state_now old.known ≡ state.Created → OnOk answer (new ≡ step old Start)
    → IfErr answer (λ fault. (old.known.stage ≢ stage.Created) × (fault ≡ set.State (state_now old.known))) → new ≡ step old Start
is_started old new (Ok done) created ok refused = ok
is_started old new (Err fault) created ok refused = absurd (refused.0 (is_stage_created old created))

created_is : (s : State) → is_created s ≡ true → s ≡ state.Created
created_is state.Created e = refl
created_is state.Negotiating e = absurd (false≢true e)
created_is state.OptMode e = absurd (false≢true e)
created_is state.Ready e = absurd (false≢true e)
created_is state.Closing e = absurd (false≢true e)
created_is state.Closed e = absurd (false≢true e)
created_is (state.Dead cause) e = absurd (false≢true e)

pub at_start : (m : Machine Keeper) → is_created (state_now m.known) ≡ true → state_now m.known ≡ state.Created
at_start m e = created_is (state_now m.known) e

pub started : (seen : Seen) (old : Session) (handle : Handled Keeper) (link : ℕ) → IsAt seen old → state_now old.handle.machine.known ≡ state.Created → handle.machine ≡ step old.handle.machine Start
    → (x : Seen) × (x ≡ connected (Some link) seen) × IsAt x (record { handle = handle; link = Some link; heeded = old.heeded; first = old.first })
started seen old handle link at created is =
    let on = add seen old (record { handle = handle; link = old.link; heeded = old.heeded; first = old.first }) handle old.heeded Start at (is_stage_created old.handle.machine created) refl (quiet old.handle.machine handle.machine old.heeded Start is refl) refl in (
      connected (Some link) seen,
      refl,
      record { stands = on.stands; link = refl; first = on.first; answered = on.answered; tally = on.tally; shown = on.shown; heard = on.heard; freed = on.freed },
    )

-- the connect failed
pub blamed : (seen : Seen) (old : Session) (first : Option Event) → IsAt seen old → first ≡ or_first old.first (Some Link)
    → (x : Seen) × (x ≡ connected None seen) × IsAt x (record { handle = old.handle; link = old.link; heeded = old.heeded; first = first })
blamed seen old first at is = (
  connected None seen,
  refl,
  record {
    stands = at.stands;
    link = at.link;
    first = is ∙ ap (λ (f : Option Event). or_first f (Some Link)) at.first;
    answered = at.answered;
    tally = at.tally;
    shown = at.shown;
    heard = at.heard;
    freed = at.freed;
  },
)

-- What callbacks heard is taken.

pub heard_taken : (seen : Seen) (old : Session) (tells : Told) (heeded : Heeded) → IsAt seen old → old.heeded.hears ≡ true → TellsHeard (string_bytes old.heeded.heard) tells
    → tally_of heeded ≡ tally_of old.heeded → heeded.freed ≡ old.heeded.freed → string_bytes heeded.heard ≡ []
    → (x : Seen) × Hears seen [] x (Ok tells) × IsAt x (record { handle = old.handle; link = old.link; heeded = heeded; first = old.first })
heard_taken seen old tells heeded at hears told' same freed none =
    let cs = callbacks_of seen.history in (
      hearing seen,
      (tells, subst (λ (t : List ℕ). TellsHeard t tells) (at.heard hears) told', (refl, refl, refl)),
      record {
        stands = at.stands;
        link = at.link;
        first = at.first;
        answered = at.answered;
        tally = same ∙ at.tally;
        shown = omega arith;
        heard = λ e. none ∙ ap (λ (l : List (Call_of Keeper)). lines_of l) (sym (drop-length cs));
        freed = freed ∙ at.freed;
      },
    )

-- A name, and the end.

pub named : (seen : Seen) (old : Session) (handle : Handled Keeper) (name given : List ℕ) → IsAt seen old → given ≡ name → may_name (state_now old.handle.machine.known) ≡ true → handle.machine ≡ step old.handle.machine (Set (Name given))
    → (x : Seen) × Sets (may_name (state_after seen.history)) (Name name) seen [] x (Ok told.Done) × IsAt x (record { handle = handle; link = old.link; heeded = old.heeded; first = old.first })
named seen old handle name given at same may is =
    let may' : may_name (state_after seen.history) ≡ true = ap may_name (sym (answers_at seen old at).state) ∙ may in
    let is' : handle.machine ≡ step old.handle.machine (Set (Name name)) = is ∙ ap (λ (t : List ℕ). step old.handle.machine (Set (Name t))) same in (
      adding (Set (Name name)) seen,
      subst (λ (b : Bool). Sets b (Name name) seen [] (adding (Set (Name name)) seen) (Ok told.Done)) (sym may') (refl, refl, refl),
      add seen old _ handle old.heeded (Set (Name name)) at may refl (quiet old.handle.machine handle.machine old.heeded (Set (Name name)) is' refl) refl,
    )

pub not_named : (seen : Seen) (old : Session) (handle : Handled Keeper) (name : List ℕ) (s : State) → IsAt seen old → may_name (state_now old.handle.machine.known) ≡ false → s ≡ state_now old.handle.machine.known → handle.machine ≡ old.handle.machine
    → (x : Seen) × Sets (may_name (state_after seen.history)) (Name name) seen [] x (Ok (told.RefusedState s)) × IsAt x (record { handle = handle; link = old.link; heeded = old.heeded; first = old.first })
not_named seen old handle name s at may is same =
    let right = answers_at seen old at in
    let may' : may_name (state_after seen.history) ≡ false = ap may_name (sym right.state) ∙ may in (
      seen,
      subst (λ (b : Bool). Sets b (Name name) seen [] seen (Ok (told.RefusedState s))) (sym may') (refl, refl, ap (λ (t : State). Ok (told.RefusedState t)) (is ∙ right.state)),
      same_at seen old handle at same,
    )

-- A meta context.

pub context_added : (seen : Seen) (old : Session) (handle : Handled Keeper) (name given : List ℕ) → IsAt seen old → given ≡ name → MayAdd old.handle.machine.known → handle.machine ≡ step old.handle.machine (Set (Context given))
    → (x : Seen) × AddsContext (may_name (state_after seen.history)) (has_all_contexts seen.history) name seen [] x (Ok told.Done) × IsAt x (record { handle = handle; link = old.link; heeded = old.heeded; first = old.first })
context_added seen old handle name given at same may is =
    let right = answers_at seen old at in
    let named : may_name (state_after seen.history) ≡ true = ap may_name (sym right.state) ∙ may.0 in
    let room : has_all_contexts seen.history ≡ false = ap (λ (w : List (List ℕ)). length w == max_contexts) (sym right.wanted) ∙ not_all (length old.handle.machine.known.talk.wanted) may.1 in
    let is' : handle.machine ≡ step old.handle.machine (Set (Context name)) = is ∙ ap (λ (t : List ℕ). step old.handle.machine (Set (Context t))) same in (
      adding (Set (Context name)) seen,
      subst (λ (b : Bool). AddsContext b (has_all_contexts seen.history) name seen [] (adding (Set (Context name)) seen) (Ok told.Done)) (sym named)
          (subst (λ (b : Bool). AddsContext true b name seen [] (adding (Set (Context name)) seen) (Ok told.Done)) (sym room) (refl, refl, refl)),
      add seen old _ handle old.heeded (Set (Context name)) at may refl (quiet old.handle.machine handle.machine old.heeded (Set (Context name)) is' refl) refl,
    )
  where
    not_all : (n : ℕ) → n < max_contexts → (n == max_contexts) ≡ false
    not_all n less = ne_eqb n max_contexts (λ same. absurd (omega (arith, same, less)))

pub context_refused : (seen : Seen) (old : Session) (handle : Handled Keeper) (name : List ℕ) (s : State) → IsAt seen old → may_name (state_now old.handle.machine.known) ≡ false → s ≡ state_now old.handle.machine.known → handle.machine ≡ old.handle.machine
    → (x : Seen) × AddsContext (may_name (state_after seen.history)) (has_all_contexts seen.history) name seen [] x (Ok (told.RefusedState s)) × IsAt x (record { handle = handle; link = old.link; heeded = old.heeded; first = old.first })
context_refused seen old handle name s at may is same =
    let right = answers_at seen old at in
    let may' : may_name (state_after seen.history) ≡ false = ap may_name (sym right.state) ∙ may in (
      seen,
      subst (λ (b : Bool). AddsContext b (has_all_contexts seen.history) name seen [] seen (Ok (told.RefusedState s))) (sym may') (refl, refl, ap (λ (t : State). Ok (told.RefusedState t)) (is ∙ right.state)),
      same_at seen old handle at same,
    )

pub context_too_many : (seen : Seen) (old : Session) (handle : Handled Keeper) (name : List ℕ) (most : ℕ) → IsAt seen old → may_name (state_now old.handle.machine.known) ≡ true → length old.handle.machine.known.talk.wanted ≡ max_contexts → most ≡ max_contexts → handle.machine ≡ old.handle.machine
    → (x : Seen) × AddsContext (may_name (state_after seen.history)) (has_all_contexts seen.history) name seen [] x (Ok (told.RefusedContext most)) × IsAt x (record { handle = handle; link = old.link; heeded = old.heeded; first = old.first })
context_too_many seen old handle name most at may full is same =
    let right = answers_at seen old at in
    let may' : may_name (state_after seen.history) ≡ true = ap may_name (sym right.state) ∙ may in
    let all : has_all_contexts seen.history ≡ true = ap (λ (w : List (List ℕ)). length w == max_contexts) (sym right.wanted) ∙ ap (λ (n : ℕ). n == max_contexts) full in (
      seen,
      subst (λ (b : Bool). AddsContext b (has_all_contexts seen.history) name seen [] seen (Ok (told.RefusedContext most))) (sym may')
          (subst (λ (b : Bool). AddsContext true b name seen [] seen (Ok (told.RefusedContext most))) (sym all) (refl, refl, ap (λ (n : ℕ). Ok (told.RefusedContext n)) is)),
      same_at seen old handle at same,
    )

-- What is on or off, before the start.

stage_is_created : (m : Machine Keeper) → m.known.stage ≡ stage.Created → is_created (state_now m.known) ≡ true
stage_is_created m e = ap (λ (s : Stage). is_created (state_at s m.known.talk.phase)) e

stage_not_created : (m : Machine Keeper) → (m.known.stage ≢ stage.Created) → is_created (state_now m.known) ≡ false
stage_not_created m other = ⊎_elim (λ yes. absurd (other (is_stage_created m (created_is (state_now m.known) yes)))) (λ no. no) (cases_Bool (is_created (state_now m.known)))

may_switch : (switch : Switch) (on : Bool) (m : Machine Keeper) → state_now m.known ≡ state.Created → May 1024 m (Set (setting_of switch on))
may_switch switch.Structured on m e = e
may_switch switch.Extended on m e = e
may_switch switch.OptMode on m e = e

pub switch_set : (seen : Seen) (old : Session) (handle : Handled Keeper) (switch : Switch) (on : Bool) → IsAt seen old → old.handle.machine.known.stage ≡ stage.Created → handle.machine ≡ step old.handle.machine (Set (setting_of switch on))
    → (x : Seen) × Sets (is_created (state_after seen.history)) (setting_of switch on) seen [] x (Ok told.Done) × IsAt x (record { handle = handle; link = old.link; heeded = old.heeded; first = old.first })
switch_set seen old handle switch on at created is =
    let yes : is_created (state_after seen.history) ≡ true = ap is_created (sym (answers_at seen old at).state) ∙ stage_is_created old.handle.machine created in (
      adding (Set (setting_of switch on)) seen,
      subst (λ (b : Bool). Sets b (setting_of switch on) seen [] (adding (Set (setting_of switch on)) seen) (Ok told.Done)) (sym yes) (refl, refl, refl),
      add seen old _ handle old.heeded (Set (setting_of switch on)) at (may_switch switch on old.handle.machine (at_start old.handle.machine (stage_is_created old.handle.machine created))) refl (quiet old.handle.machine handle.machine old.heeded (Set (setting_of switch on)) is refl) refl,
    )

pub switch_not_set : (seen : Seen) (old : Session) (handle : Handled Keeper) (switch : Switch) (on : Bool) (s : State) → IsAt seen old → (old.handle.machine.known.stage ≢ stage.Created) → s ≡ state_now old.handle.machine.known → handle.machine ≡ old.handle.machine
    → (x : Seen) × Sets (is_created (state_after seen.history)) (setting_of switch on) seen [] x (Ok (told.RefusedState s)) × IsAt x (record { handle = handle; link = old.link; heeded = old.heeded; first = old.first })
switch_not_set seen old handle switch on s at other is same =
    let right = answers_at seen old at in
    let no : is_created (state_after seen.history) ≡ false = ap is_created (sym right.state) ∙ stage_not_created old.handle.machine other in (
      seen,
      subst (λ (b : Bool). Sets b (setting_of switch on) seen [] seen (Ok (told.RefusedState s))) (sym no) (refl, refl, ap (λ (t : State). Ok (told.RefusedState t)) (is ∙ right.state)),
      same_at seen old handle at same,
    )

-- Options.

may_ask : (option : Asked_option) (m : Machine Keeper) → state_now m.known ≡ state.OptMode → lacks_structured option m.known.talk.structured ≡ false → May 1024 m (asking option)
may_ask option.List m e f = (e, refl, λ h. absurd (omega (arith, h)))
may_ask option.Info m e f = (e, refl, λ h. absurd (omega (arith, h)))
may_ask option.Meta m e f = (e, refl, λ h. not-false m.known.talk.structured f)
may_ask option.Go m e f = (e, refl, λ h. absurd (omega (arith, h)))
may_ask option.Abort m e f = e

asking_is_plain : (option : Asked_option) → is_plain (asking option) ≡ true
asking_is_plain option.List = refl
asking_is_plain option.Info = refl
asking_is_plain option.Meta = refl
asking_is_plain option.Go = refl
asking_is_plain option.Abort = refl

asking_is_quiet : (option : Asked_option) (m : Machine Keeper) → calls m (asking option) ≡ []
asking_is_quiet option.List m = refl
asking_is_quiet option.Info m = refl
asking_is_quiet option.Meta m = refl
asking_is_quiet option.Go m = refl
asking_is_quiet option.Abort m = refl

not_opt_mode : (s : State) → (s ≢ state.OptMode) → is_opt_mode s ≡ false
not_opt_mode state.Created other = refl
not_opt_mode state.Negotiating other = refl
not_opt_mode state.OptMode other = absurd (other refl)
not_opt_mode state.Ready other = refl
not_opt_mode state.Closing other = refl
not_opt_mode state.Closed other = refl
not_opt_mode (state.Dead cause) other = refl

lacks_after : (option : Asked_option) (seen : Seen) (old : Session) → IsAt seen old → lacks_structured option old.handle.machine.known.talk.structured ≡ lacks_structured option (is_structured seen.history)
lacks_after option seen old at = ap (λ (on : Bool). lacks_structured option on) (answers_at seen old at).structured

-- what asking for an option comes to
abbrev Asks_option : Asked_option → Seen → Seen → LineEnd → Type 0
Asks_option option before after end = AsksFor (is_opt_mode (state_after before.history)) (lacks_structured option (is_structured before.history)) option before [] after end

asks_by : (option : Asked_option) (may lacks : Bool) (seen after : Seen) (end : LineEnd) → is_opt_mode (state_after seen.history) ≡ may → lacks_structured option (is_structured seen.history) ≡ lacks → AsksFor may lacks option seen [] after end → Asks_option option seen after end
asks_by option may lacks seen after end mode lack asks =
    subst (λ (b : Bool). AsksFor b (lacks_structured option (is_structured seen.history)) option seen [] after end) (sym mode)
    (subst (λ (b : Bool). AsksFor may b option seen [] after end) (sym lack) asks)

pub option_ok : (option : Asked_option) (old : Session) (handle : Handled Keeper) (answer : Result (Unit {0}) OptFault) → Takes_option option answer old.handle.machine handle.machine
    → IfOk (option_told answer) (λ tells. Becomes old (record { handle = handle; link = old.link; heeded = old.heeded; first = old.first }) (λ before after. Asks_option option before after (Ok tells)))
option_ok option old handle (Ok done) (mode, lack, is) = λ seen at.
    let yes : is_opt_mode (state_after seen.history) ≡ true = ap is_opt_mode (sym (answers_at seen old at).state) ∙ ap is_opt_mode mode in (
      adding (asking option) seen,
      asks_by option true false seen (adding (asking option) seen) (Ok told.Done) yes (sym (lacks_after option seen old at) ∙ lack) (refl, refl, refl),
      add seen old _ handle old.heeded (asking option) at (may_ask option old.handle.machine mode lack) (asking_is_plain option) (quiet old.handle.machine handle.machine old.heeded (asking option) is (asking_is_quiet option old.handle.machine)) refl,
    )
option_ok option old handle (Err opt.NoMemory) same = tt
option_ok option old handle (Err (opt.State now)) (other, is, same) = λ seen at.
    let right = answers_at seen old at in
    let no : is_opt_mode (state_after seen.history) ≡ false = ap is_opt_mode (sym right.state) ∙ not_opt_mode (state_now old.handle.machine.known) other in (
      seen,
      asks_by option false (lacks_structured option (is_structured seen.history)) seen seen (Ok (told.RefusedState now)) no refl (refl, refl, ap (λ (t : State). Ok (told.RefusedState t)) (is ∙ right.state)),
      same_at seen old handle at same,
    )
option_ok option old handle (Err opt.NotStructured) (mode, lack, same) = λ seen at.
    let yes : is_opt_mode (state_after seen.history) ≡ true = ap is_opt_mode (sym (answers_at seen old at).state) ∙ ap is_opt_mode mode in (
      seen,
      asks_by option true true seen seen (Ok told.RefusedUnstructured) yes (sym (lacks_after option seen old at) ∙ lack) (refl, refl, refl),
      same_at seen old handle at same,
    )

pub option_lacks : (option : Asked_option) (old : Session) (handle : Handled Keeper) (answer : Result (Unit {0}) OptFault) → Takes_option option answer old.handle.machine handle.machine
    → OnErr (option_told answer) (Becomes old (record { handle = handle; link = old.link; heeded = old.heeded; first = old.first }) (λ before after. after ≡ before))
option_lacks option old handle (Ok done) took = tt
option_lacks option old handle (Err opt.NoMemory) same = λ seen at. (seen, refl, same_at seen old handle at same)
option_lacks option old handle (Err (opt.State now)) took = tt
option_lacks option old handle (Err opt.NotStructured) took = tt

pub strict_set : (seen : Seen) (old : Session) (handle : Handled Keeper) (bits : ℕ) → IsAt seen old → unknown_bits bits ≡ 0 → handle.machine ≡ step old.handle.machine (StrictMode bits)
    → (x : Seen) × SetsStrict (unknown_bits bits) bits seen [] x (Ok told.Done) × IsAt x (record { handle = handle; link = old.link; heeded = old.heeded; first = old.first })
strict_set seen old handle bits at known is = (
  adding (StrictMode bits) seen,
  subst (λ (u : ℕ). SetsStrict u bits seen [] (adding (StrictMode bits) seen) (Ok told.Done)) (sym known) (refl, refl, refl),
  add seen old _ handle old.heeded (StrictMode bits) at known refl (quiet old.handle.machine handle.machine old.heeded (StrictMode bits) is refl) refl,
)

strict_refused : (unknown bits : ℕ) (seen : Seen) → unknown ≢ 0 → SetsStrict unknown bits seen [] seen (Ok (told.RefusedStrict unknown))
strict_refused zero bits seen some = absurd (some refl)
strict_refused (suc unknown) bits seen some = (refl, refl, refl)

pub strict_not_set : (seen : Seen) (old : Session) (handle : Handled Keeper) (bits told' : ℕ) → IsAt seen old → unknown_bits bits ≢ 0 → told' ≡ unknown_bits bits → handle.machine ≡ old.handle.machine
    → (x : Seen) × SetsStrict (unknown_bits bits) bits seen [] x (Ok (told.RefusedStrict told')) × IsAt x (record { handle = handle; link = old.link; heeded = old.heeded; first = old.first })
strict_not_set seen old handle bits told' at some is same = (
  seen,
  subst (λ (u : ℕ). SetsStrict (unknown_bits bits) bits seen [] seen (Ok (told.RefusedStrict u))) (sym is) (strict_refused (unknown_bits bits) bits seen some),
  same_at seen old handle at same,
)

pub disconnected : (seen : Seen) (old : Session) (handle : Handled Keeper) → IsAt seen old → state_now old.handle.machine.known ≡ state.Ready → handle.machine ≡ step old.handle.machine Disconnect
    → (x : Seen) × Disconnects (by_state (state_after seen.history) None) seen [] x (Ok told.Done) × IsAt x (record { handle = handle; link = old.link; heeded = old.heeded; first = old.first })
disconnected seen old handle at ready is =
    let may : by_state (state_now old.handle.machine.known) None ≡ None = ap (λ (s : State). by_state s None) ready in
    let why : by_state (state_after seen.history) None ≡ None = ap (λ (s : State). by_state s None) (sym (answers_at seen old at).state) ∙ may in (
      adding Disconnect seen,
      subst (λ (w : Option Why). Disconnects w seen [] (adding Disconnect seen) (Ok told.Done)) (sym why) (refl, refl, refl),
      add seen old _ handle old.heeded Disconnect at may refl (quiet old.handle.machine handle.machine old.heeded Disconnect is refl) refl,
    )

pub not_disconnected : (seen : Seen) (old : Session) (handle : Handled Keeper) (why : Why) → IsAt seen old → by_state (state_now old.handle.machine.known) None ≡ Some why → handle.machine ≡ old.handle.machine
    → (x : Seen) × Disconnects (by_state (state_after seen.history) None) seen [] x (Ok (told.Refused why)) × IsAt x (record { handle = handle; link = old.link; heeded = old.heeded; first = old.first })
not_disconnected seen old handle why at refused same =
    let why' : by_state (state_after seen.history) None ≡ Some why = ap (λ (s : State). by_state s None) (sym (answers_at seen old at).state) ∙ refused in (
      seen,
      subst (λ (w : Option Why). Disconnects w seen [] seen (Ok (told.Refused why))) (sym why') (refl, refl, refl),
      same_at seen old handle at same,
    )

-- A result.

taken : (seen : Seen) (old : Session) (handle : Handled Keeper) (cookie : ℕ) (answer : Completed) → IsAt seen old → answer ≡ completed_now old.handle.machine.known cookie → handle.machine ≡ completing answer cookie old.handle.machine
    → IsAt (taking answer cookie seen) (record { handle = handle; link = old.link; heeded = old.heeded; first = old.first })
taken seen old handle cookie (completed.Done bytes) at is done = add seen old _ handle old.heeded (Retire cookie) at (ap is_result (sym is)) refl (quiet old.handle.machine handle.machine old.heeded (Retire cookie) done refl) refl
taken seen old handle cookie (completed.Failed error bytes) at is done = add seen old _ handle old.heeded (Retire cookie) at (ap is_result (sym is)) refl (quiet old.handle.machine handle.machine old.heeded (Retire cookie) done refl) refl
taken seen old handle cookie completed.NotYet at is done = same_at seen old handle at done
taken seen old handle cookie completed.NoSuchCookie at is done = same_at seen old handle at done

pub result_taken : (seen : Seen) (old : Session) (handle : Handled Keeper) (cookie : ℕ) (answer : Completed) → IsAt seen old → answer ≡ completed_now old.handle.machine.known cookie → handle.machine ≡ completing answer cookie old.handle.machine
    → (x : Seen) × Adds (taking (completed_after seen.history cookie) cookie seen) [] x (Ok (told.Result answer)) (told.Result (completed_after seen.history cookie)) × IsAt x (record { handle = handle; link = old.link; heeded = old.heeded; first = old.first })
result_taken seen old handle cookie answer at is done =
    let same : answer ≡ completed_after seen.history cookie = is ∙ (answers_at seen old at).completed cookie in (
      taking answer cookie seen,
      (refl, ap (λ (c : Completed). taking c cookie seen) same, ap (λ (c : Completed). Ok (told.Result c)) same),
      taken seen old handle cookie answer at is done,
    )

-- Connects.

pub connect_refused : (seen : Seen) (old : Session) (to : Target) (calls : Option (List Call)) (s : State) → IsAt seen old → s ≡ state_now old.handle.machine.known → is_created s ≡ false
    → Went calls calls old (λ own after. Connects (is_created (state_after seen.history)) to seen own after (Ok (told.RefusedState s)))
connect_refused seen old to calls s at is off =
    let not_created : is_created (state_now old.handle.machine.known) ≡ false = ap is_created (sym is) ∙ off in
    let right = answers_at seen old at in
    let no : is_created (state_after seen.history) ≡ false = ap is_created (sym right.state) ∙ not_created in
    record {
      calls = [];
      after = seen;
      grown = grows_none calls;
      leads = subst (λ (b : Bool). Connects b to seen [] seen (Ok (told.RefusedState s))) (sym no) (refl, refl, ap (λ (t : State). Ok (told.RefusedState t)) (is ∙ right.state));
      at = at;
    }

pub connect_answered : (seen : Seen) (old new : Session) (to : Target) (before after : Option (List Call)) (link : Option ℕ) → IsAt seen old → state_now old.handle.machine.known ≡ state.Created → Grows_by before after (Connect to link)
    → ((x : Seen) × (x ≡ connected link seen) × IsAt x new)
    → Went before after new (λ own later. Connects (is_created (state_after seen.history)) to seen own later (Ok (told_link link)))
connect_answered seen old new to before after link at created grown reached =
    let yes : is_created (state_after seen.history) ≡ true = ap is_created (sym (answers_at seen old at).state ∙ created) in
    record {
      calls = Connect to link ∷ [];
      after = reached.0;
      grown = grown;
      leads = subst (λ (b : Bool). Connects b to seen (Connect to link ∷ []) reached.0 (Ok (told_link link))) (sym yes) (link, refl, reached.1, refl);
      at = reached.2;
    }

-- Connects by an address.

pub is_named : (old new : Machine Keeper) (name : List ℕ) (answer : Result (Unit {0}) SetFault) → state_now old.known ≡ state.Created → OnOk answer (new ≡ step old (Set (Name name)))
    → IfErr answer (λ fault. (may_name (state_now old.known) ≡ false) × (fault ≡ set.State (state_now old.known))) → new ≡ step old (Set (Name name))
is_named old new name (Ok done) created ok refused = ok
is_named old new name (Err fault) created ok refused = absurd (false≢true (sym refused.0 ∙ ap may_name created))

pub still_created : (old new : Machine Keeper) (name : List ℕ) → state_now old.known ≡ state.Created → new ≡ step old (Set (Name name)) → is_created (state_now new.known) ≡ true
still_created old new name created is = ap (λ (m : Machine Keeper). is_created (state_now m.known)) is ∙ stage_is_created (step old (Set (Name name))) (is_stage_created old created)

pub named_before : (seen : Seen) (old : Session) (handle : Handled Keeper) (name : List ℕ) → IsAt seen old → state_now old.handle.machine.known ≡ state.Created → handle.machine ≡ step old.handle.machine (Set (Name name))
    → (x : Seen) × (x ≡ adding (Set (Name name)) seen) × IsAt x (record { handle = handle; link = old.link; heeded = old.heeded; first = old.first })
named_before seen old handle name at created is = (
  adding (Set (Name name)) seen,
  refl,
  add seen old _ handle old.heeded (Set (Name name)) at (ap may_name created) refl (quiet old.handle.machine handle.machine old.heeded (Set (Name name)) is refl) refl,
)

pub uri_refused : (seen : Seen) (old : Session) (place : Place) (calls : Option (List Call)) (s : State) → IsAt seen old → s ≡ state_now old.handle.machine.known → is_created s ≡ false
    → Went calls calls old (λ own after. Line_does (line.ConnectUri place) seen own after (Ok (told.RefusedState s)))
uri_refused seen old place calls s at is off =
    let not_created : is_created (state_now old.handle.machine.known) ≡ false = ap is_created (sym is) ∙ off in
    let right = answers_at seen old at in
    let no : is_created (state_after seen.history) ≡ false = ap is_created (sym right.state) ∙ not_created in
    record {
      calls = [];
      after = seen;
      grown = grows_none calls;
      leads = inl (subst (λ (b : Bool). ConnectsTo b place seen [] seen (Ok (told.RefusedState s))) (sym no) (refl, refl, ap (λ (t : State). Ok (told.RefusedState t)) (is ∙ right.state)));
      at = at;
    }

pub uri_answered : (seen : Seen) (old new : Session) (place : Place) (name : List ℕ) (before after : Option (List Call)) (link : Option ℕ) → IsAt seen old → state_now old.handle.machine.known ≡ state.Created → name ≡ place.name
    → Grows_by before after (Connect place.to link) → ((x : Seen) × (x ≡ connected link (named_if link name seen)) × IsAt x new)
    → Went before after new (λ own later. ConnectsTo (is_created (state_after seen.history)) place seen own later (Ok (told_link link)))
uri_answered seen old new place name before after link at created same grown reached =
    let yes : is_created (state_after seen.history) ≡ true = ap is_created (sym (answers_at seen old at).state ∙ created) in
    let after_is = reached.1 ∙ ap (λ (n : List ℕ). connected link (named_if link n seen)) same in
    record {
      calls = Connect place.to link ∷ [];
      after = reached.0;
      grown = grown;
      leads = subst (λ (b : Bool). ConnectsTo b place seen (Connect place.to link ∷ []) reached.0 (Ok (told_link link))) (sym yes) (link, refl, after_is, refl);
      at = reached.2;
    }

pub uri_told : (place : Place) (seen : Seen) (a b : Option (List Call)) (session : Session) (tells given : Told) → tells ≡ given
    → Went a b session (λ calls after. ConnectsTo (is_created (state_after seen.history)) place seen calls after (Ok given))
    → Went a b session (λ calls after. Line_does (line.ConnectUri place) seen calls after (Ok tells))
uri_told place seen a b session tells given is went = record {
  calls = went.calls;
  after = went.after;
  grown = went.grown;
  leads = inl (subst (λ (t : Told). ConnectsTo (is_created (state_after seen.history)) place seen went.calls went.after (Ok t)) (sym is) went.leads);
  at = went.at;
}

pub uri_lacks : (place : Place) (seen : Seen) (old : Session) (calls : Option (List Call)) → IsAt seen old
    → Went calls calls old (λ own after. Line_does (line.ConnectUri place) seen own after (Err halt.NoMemory))
uri_lacks place seen old calls at = record { calls = []; after = seen; grown = grows_none calls; leads = inr (refl, refl, refl); at = at }

-- Reads and writes.

reads_none : (b : Bool) (link : Option ℕ) (seen : Seen) → link ≡ None → ReadsOn b link seen [] seen (Ok (told.Moved moved.Idle))
reads_none true link seen is = subst (λ (l : Option ℕ). ReadsOn true l seen [] seen (Ok (told.Moved moved.Idle))) (sym is) (refl, refl, refl)
reads_none false link seen is = (refl, refl, refl)

pub idle_unlinked : (seen : Seen) (old : Session) (calls : Option (List Call)) → IsAt seen old → old.link ≡ None
    → Went calls calls old (λ own after. ReadsOn (is_reading seen.history) seen.link seen own after (Ok (told.Moved moved.Idle)))
idle_unlinked seen old calls at none = record { calls = []; after = seen; grown = grows_none calls; leads = reads_none (is_reading seen.history) seen.link seen (sym at.link ∙ none); at = at }

pub read_linked : (seen : Seen) (old new : Session) (before after : Option (List Call)) (link : ℕ) (answer : Result Transfer NoMemory) → IsAt seen old → old.link ≡ Some link
    → Goes before after old new (λ s calls later. ReadsOn (is_reading s.history) (Some link) s calls later (moved_end answer))
    → Went before after new (λ calls later. ReadsOn (is_reading seen.history) seen.link seen calls later (moved_end answer))
read_linked seen old new before after link answer at linked goes =
    let w = goes seen at in
    record {
      calls = w.calls;
      after = w.after;
      grown = w.grown;
      leads = subst (λ (l : Option ℕ). ReadsOn (is_reading seen.history) l seen w.calls w.after (moved_end answer)) (sym linked ∙ at.link) w.leads;
      at = w.at;
    }

-- a read that waits for nothing
pub read_speaks : (answer : Result Transfer NoMemory) (end : LineEnd) → end ≡ moved_end answer → end ≡ Err halt.Silent → ⊥
read_speaks (Ok m) end is silent = absurd (cc (sym is ∙ silent))
read_speaks (Err lacks) end is silent = absurd (cc (sym is ∙ silent))

-- what a line leaves where it ends well
pub read_whole : (answer : Result Transfer NoMemory) (end : LineEnd) (P : Type 0) → end ≡ moved_end answer → OnOk answer P → OnOk end P
read_whole (Ok m) end P is holds = subst (λ (e : LineEnd). OnOk e P) (sym is) holds
read_whole (Err lacks) end P is holds = subst (λ (e : LineEnd). OnOk e P) (sym is) tt

pub any_end : (end : LineEnd) (P : Type 0) → P → OnOk end P
any_end (Ok tells) P holds = holds
any_end (Err halt) P holds = tt

writes_none : (b : Bool) (link : Option ℕ) (seen : Seen) → link ≡ None → WritesOn b link seen [] seen (Ok (told.Moved moved.Idle))
writes_none true link seen is = subst (λ (l : Option ℕ). WritesOn true l seen [] seen (Ok (told.Moved moved.Idle))) (sym is) (refl, refl, refl)
writes_none false link seen is = (refl, refl, refl)

pub write_unlinked : (seen : Seen) (old : Session) (calls : Option (List Call)) → IsAt seen old → old.link ≡ None
    → Went calls calls old (λ own after. WritesOn (is_waiting seen.history) seen.link seen own after (Ok (told.Moved moved.Idle)))
write_unlinked seen old calls at none = record { calls = []; after = seen; grown = grows_none calls; leads = writes_none (is_waiting seen.history) seen.link seen (sym at.link ∙ none); at = at }

pub write_linked : (seen : Seen) (old new : Session) (before after : Option (List Call)) (link : ℕ) (m : Transfer) → IsAt seen old → old.link ≡ Some link
    → Goes before after old new (λ s calls later. WritesOn (is_waiting s.history) (Some link) s calls later (Ok (told.Moved m)))
    → Went before after new (λ calls later. WritesOn (is_waiting seen.history) seen.link seen calls later (Ok (told.Moved m)))
write_linked seen old new before after link m at linked goes =
    let w = goes seen at in
    record {
      calls = w.calls;
      after = w.after;
      grown = w.grown;
      leads = subst (λ (l : Option ℕ). WritesOn (is_waiting seen.history) l seen w.calls w.after (Ok (told.Moved m))) (sym linked ∙ at.link) w.leads;
      at = w.at;
    }

-- A name that may want memory.

pub export_done : (line' : Line) (name : List ℕ) → line' ≡ line.Export name → (old new : Session) (answer : Result Told NoMemory)
    → IfOk answer (λ tells. Becomes old new (λ before after. Sets (may_name (state_after before.history)) (Name name) before [] after (Ok tells)))
    → OnErr answer (Becomes old new (λ before after. after ≡ before))
    → Becomes old new (λ before after. Line_does line' before [] after (halted answer))
export_done line' name is old new answer ok lacks = subst (λ (l : Line). Becomes old new (λ before after. Line_does l before [] after (halted answer))) (sym is) (go answer ok lacks)
  where
    go : (answer : Result Told NoMemory) → IfOk answer (λ tells. Becomes old new (λ before after. Sets (may_name (state_after before.history)) (Name name) before [] after (Ok tells)))
        → OnErr answer (Becomes old new (λ before after. after ≡ before)) → Becomes old new (λ before after. Line_does (line.Export name) before [] after (halted answer))
    go (Ok tells) ok lacks seen at = let b = ok seen at in (b.0, inl b.1, b.2)
    go (Err fault) ok lacks seen at = let b = lacks seen at in (b.0, inr (refl, b.1, refl), b.2)

-- The line of an option may want memory.
pub ask_done : (line' : Line) (option : Asked_option) → line' ≡ line.Ask option → (old new : Session) (answer : Result Told NoMemory)
    → IfOk answer (λ tells. Becomes old new (λ before after. Asks_option option before after (Ok tells)))
    → OnErr answer (Becomes old new (λ before after. after ≡ before))
    → Becomes old new (λ before after. Line_does line' before [] after (halted answer))
ask_done line' option is old new answer ok lacks = subst (λ (l : Line). Becomes old new (λ before after. Line_does l before [] after (halted answer))) (sym is) (go answer ok lacks)
  where
    go : (answer : Result Told NoMemory) → IfOk answer (λ tells. Becomes old new (λ before after. Asks_option option before after (Ok tells)))
        → OnErr answer (Becomes old new (λ before after. after ≡ before)) → Becomes old new (λ before after. Line_does (line.Ask option) before [] after (halted answer))
    go (Ok tells) ok lacks seen at = let b = ok seen at in (b.0, inl b.1, b.2)
    go (Err fault) ok lacks seen at = let b = lacks seen at in (b.0, inr (refl, b.1, refl), b.2)

-- The line that tells what callbacks heard may want memory.
pub heard_done : (line' : Line) → line' ≡ line.Heard → (old new : Session) (answer : Result Told NoMemory)
    → IfOk answer (λ tells. Becomes old new (λ before after. Hears before [] after (Ok tells)))
    → OnErr answer (Becomes old new (λ before after. after ≡ before))
    → Becomes old new (λ before after. Line_does line' before [] after (halted answer))
heard_done line' is old new answer ok lacks = subst (λ (l : Line). Becomes old new (λ before after. Line_does l before [] after (halted answer))) (sym is) (go answer ok lacks)
  where
    go : (answer : Result Told NoMemory) → IfOk answer (λ tells. Becomes old new (λ before after. Hears before [] after (Ok tells)))
        → OnErr answer (Becomes old new (λ before after. after ≡ before)) → Becomes old new (λ before after. Line_does line.Heard before [] after (halted answer))
    go (Ok tells) ok lacks seen at = let b = ok seen at in (b.0, inl b.1, b.2)
    go (Err fault) ok lacks seen at = let b = lacks seen at in (b.0, inr (refl, b.1, refl), b.2)

-- a line that makes no call on the wires
pub went_alone : (line : Line) (old new : Session) (end : LineEnd) (calls : Option (List Call)) → Becomes old new (λ before after. Line_does line before [] after end) → Goes calls calls old new (λ before own after. Line_does line before own after end)
went_alone line old new end calls becomes seen at =
    let b = becomes seen at in
    record { calls = []; after = b.0; grown = grows_none calls; leads = b.1; at = b.2 }

-- the same by the line and the end that these are
pub act_as : (line given : Line) (end told : LineEnd) (seen : Seen) (a b : Option (List Call)) (session : Session) → line ≡ given → end ≡ told → Went a b session (λ calls after. Line_does given seen calls after told)
    → Went a b session (λ calls after. Line_does line seen calls after end)
act_as line given end told seen a b session is same went =
    subst (λ (l : Line). Went a b session (λ calls after. Line_does l seen calls after end)) (sym is) (subst (λ (e : LineEnd). Went a b session (λ calls after. Line_does given seen calls after e)) (sym same) went)
