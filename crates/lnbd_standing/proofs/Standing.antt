-- Events go on to the history with them.
use Rattle.std.proofs.Common.{◌≡◌, ℕ, ◌≤◌, ◌<◌, Bool, true, false, not, ◌&&◌, ◌||◌, List, [], ◌∷◌, ◌++◌, length, Option, Some, None, is_some, refl, ap, sym, subst, ◌∙◌, if◌then◌else◌}
use Rattle.std.proofs.lemmas.Bool.{false≢true}
use Rattle.lnbd_model.specs.declared.state.State.{State}
use Rattle.lnbd_model.specs.declared.state.State.TheVariants as state
use Rattle.lnbd_records.specs.Limits.{max_contexts}
use Rattle.lnbd_history.specs.declared.kinds.Phase.{Phase}
use Rattle.lnbd_history.specs.declared.kinds.Phase.TheVariants as phase
use Rattle.lnbd_history.specs.declared.kinds.Stage.{Stage}
use Rattle.lnbd_history.specs.declared.kinds.Stage.TheVariants.{Created, Open, Disconnecting, Aborting, Closed, Dead}
use Rattle.lnbd_history.specs.Agreement.{phase}
use Rattle.lnbd_outcome.specs.Outcome.{Outcome, Unfinished, Failed, Done}
use Rattle.lnbd_history.specs.Answers.{state_at, is_living, completed_of, completed_as, outcome_after}
use Rattle.lnbd_history.specs.Entries.{Filing, Kept, ends, kept_by, own, is_ended, kept_in}
use Rattle.lnbd_history.specs.Entries as entries
use Rattle.lnbd_history.specs.Events.{Setting, Name, Context, Structured, Extended, OptMode, Event, History, Set, StrictMode, Start, Opt, Abort, Issue, Refuse, Disconnect, Wrote, Arrived, End, LinkFailed, Retire, ClearLog, Close}
use Rattle.lnbd_history.specs.History.{request, is_gone, reading}
use Rattle.lnbd_history.specs.Laws.{may_name, CanSet, CanFollow, Lawful}
use Rattle.lnbd_history.specs.Refusals.{by_state}
use Rattle.lnbd_machine.specs.Machine.{Machine, machine, step, calls}
use Rattle.lnbd_machine.proofs.Right.{machine_is_right, calls_are_told}
use Rattle.lnbd_standing.specs.Standing.{is_result, MaySet, May, AnswersAs, StandingGoesOn, StandingIsRight, ClosingIsRight, StandingCalls, CreatedStands}

-- Stages are read from where a handle stands.

has_life : State → Bool
has_life state.Created = false
has_life state.Negotiating = true
has_life state.OptMode = true
has_life state.Ready = true
has_life state.Closing = true
has_life state.Closed = false
has_life (state.Dead cause) = false

life_is : (s : Stage) (p : Phase) → has_life (state_at s p) ≡ is_living s
unfolding has_life
life_is Created p = refl
life_is Open phase.Greeting = refl
life_is Open (phase.Asked option) = refl
life_is Open phase.AskedByName = refl
life_is Open phase.OptMode = refl
life_is Open phase.Ready = refl
life_is Open (phase.Refused code) = refl
life_is Disconnecting p = refl
life_is Aborting p = refl
life_is Closed p = refl
life_is (Dead cause) p = refl

-- Results that were kept.

result_kept : (outcome : Outcome) (kept : Option Kept) → is_result (completed_of outcome kept) ≡ true → is_some kept ≡ true
result_kept Unfinished kept e = absurd (false≢true e)
result_kept (Failed failure bytes) None e = absurd (false≢true e)
result_kept (Failed failure bytes) (Some kept) e = refl
result_kept (Done bytes) None e = absurd (false≢true e)
result_kept (Done bytes) (Some kept) e = refl

result_there : (held : Bool) (outcome : Outcome) (kept : Option Kept) → is_result (completed_as held outcome kept) ≡ true → (held ≡ true) × (is_some kept ≡ true)
result_there false outcome kept e = absurd (false≢true e)
result_there true outcome kept e = (refl, result_kept outcome kept e)

both : (a b : Bool) → (a && not b) ≡ true → (a ≡ true) × (b ≡ false)
both true false e = (refl, refl)
both true true e = absurd (false≢true e)
both false b e = absurd (false≢true e)

module _ {K : Type 0} where
  kept_ended : (mine : List (Filing K)) → is_some (kept_in mine) ≡ true → is_ended mine ≡ true
  kept_ended [] e = absurd (false≢true e)
  kept_ended (filing ∷ earlier) e = go (ends filing.item) e (kept_ended earlier)
    where
      go : (last : Bool) → is_some (if last then kept_by filing.verdict else kept_in earlier) ≡ true → (is_some (kept_in earlier) ≡ true → is_ended earlier ≡ true) → (last || is_ended earlier) ≡ true
      go true some more = refl
      go false some more = more some

  pub stands_right : StandingIsRight K
  stands_right limit history now stands =
      subst (AnswersAs history) (sym stands.same) (machine_is_right limit history stands.lawful)

  can_set : (history : History K) (now : Machine K) (setting : Setting) → AnswersAs history now → MaySet now setting → CanSet history setting
  can_set history now (Name name) right may = ap may_name (sym right.state) ∙ may
  can_set history now (Context name) right may = (ap may_name (sym right.state) ∙ may.0, subst (λ (wanted : List (List ℕ)). length wanted < max_contexts) right.wanted may.1)
  can_set history now (Structured on) right may = sym right.state ∙ may
  can_set history now (Extended on) right may = sym right.state ∙ may
  can_set history now (OptMode on) right may = sym right.state ∙ may

  pub can_follow : (limit : ℕ) (history : History K) (now : Machine K) (event : Event K) → AnswersAs history now → May limit now event → CanFollow limit history event
  unfolding has_life
  can_follow limit history now (Set setting) right may = can_set history now setting right may
  can_follow limit history now (StrictMode bits) right may = may
  can_follow limit history now Start right may = sym right.state ∙ ap (λ s. state_at s now.known.talk.phase) may
  can_follow limit history now (Opt option) right may = (sym right.state ∙ may.0, may.1, λ is. sym right.structured ∙ may.2 is)
  can_follow limit history now Abort right may = sym right.state ∙ may
  can_follow limit history now (Issue command) right may = (sym (right.refusal limit command) ∙ may.0, may.1)
  can_follow limit history now (Refuse command why) right may = sym (right.refusal limit command) ∙ may
  can_follow limit history now Disconnect right may = ap (λ s. by_state s None) (sym right.state) ∙ may
  can_follow limit history now (Wrote n) right may = subst (λ (out : List ℕ). n ≤ length out) right.out may
  can_follow limit history now (Arrived bytes answers) right may =
      let known = (reading history).known in
      sym (life_is known.stage (phase known.turns)) ∙ ap has_life (sym right.state) ∙ life_is now.known.stage now.known.talk.phase ∙ may
  can_follow limit history now (End answers) right may = tt
  can_follow limit history now (LinkFailed answers) right may = tt
  can_follow limit history now (Retire cookie) right may =
      let known = (reading history).known in
      let there = result_there (is_some (request history cookie) && not (is_gone history known.entries cookie)) (outcome_after history cookie) (kept_in (own cookie known.entries)) (ap is_result (sym (right.completed cookie)) ∙ may) in
      let held = both (is_some (request history cookie)) (is_gone history known.entries cookie) there.0 in
      (held.0, kept_ended (own cookie known.entries) there.1, held.1)
  can_follow limit history now ClearLog right may = tt
  can_follow limit history now Close right may = tt

  pub goes_on : StandingGoesOn K
  goes_on limit history now event stands may =
      let can = can_follow limit history now event (stands_right limit history now stands) may in
      let lawful : Lawful limit (event ∷ history) = (stands.lawful, stands.going, can) in
      let same : step now event ≡ machine (event ∷ history) = ap (λ (m : Machine K). step m event) stands.same in
      record { lawful = lawful; same = same; stands = λ going. record { lawful = lawful; going = going; same = same } }

  pub closing_right : ClosingIsRight K
  closing_right limit history now stands =
      let on = goes_on limit history now Close stands tt in
      subst (AnswersAs (Close ∷ history)) (sym on.same) (machine_is_right limit (Close ∷ history) on.lawful)

  pub stands_calls : StandingCalls K
  stands_calls limit history now event stands may =
      let on = goes_on limit history now event stands may in
      calls_are_told limit event history on.lawful ∙ ap (λ (m : Machine K). entries.calls (reading history).known.entries ++ calls m event) (sym stands.same)

  pub created_right : CreatedStands K
  created_right limit = record { lawful = tt; going = refl; same = refl }
