-- Where the conversation about a map ends by a failed link, a call failed.
use Rattle.std.proofs.Common.{◌≡◌, ◌==◌, ℕ, Bool, true, false, List, ◌++◌, Option, Some, None, Result, Ok, Err, refl, sym, ◌∙◌, ap, subst, if◌then◌else◌}
use Rattle.std.specs.Prelude.{◌^◌, nat_le}
use Rattle.std.specs.List.{list_any}
use Rattle.lnbd_model.specs.declared.breach.Breach.TheVariants as breach
use Rattle.lnbd_model.specs.declared.export.ExportInfo.{ExportInfo}
use Rattle.lnbd_model.specs.declared.state.Cause.{Cause}
use Rattle.lnbd_model.specs.declared.state.Cause.TheVariants as cause
use Rattle.lnbd_model.specs.declared.state.State.{State}
use Rattle.lnbd_model.specs.declared.state.State.TheVariants as state
use Rattle.lnbd_history.specs.Answers.{info_after, state_after}
use Rattle.lnbd_link.specs.Call as wire
use Rattle.lnbd_link.specs.Listed.{has_failed}
use Rattle.lnbd_poll.specs.Seen.{Seen}
use Rattle.lnbd_waits.specs.declared.waiting.Awaited.{Awaited}
use Rattle.lnbd_waits.specs.declared.waiting.Awaited.TheVariants as awaited
use Rattle.lnbd_waits.specs.declared.waiting.Halt.{Halt}
use Rattle.lnbd_ask.specs.declared.stops.Stop.{Stop}
use Rattle.lnbd_ask.specs.declared.stops.Stop.TheVariants as stop
use Rattle.lnbd_ask.specs.declared.survey.Surveyor.{Surveyor}
use Rattle.lnbd_ask.specs.Asks.{begins, is_ready, parting}
use Rattle.lnbd_ask.specs.Maps.{All_answered, Asked, Breaks_off, Cannot_ask, Discusses, HasWaited, Inquires, Is_answered, Is_cut_off, Is_cut_short, Is_failed, Is_lost, Is_refused, Is_stopped, Knows_all, Learned, Learns, Lesson, Parts, Runs_short, Stopped, Stops, death_stop, ended, export_known, is_agreed, is_parting, issued, known_at, length_at, stop_of}
use Rattle.lnbd_ask.specs.Surveys.{Surveys}
use Rattle.lnbd_ask.proofs.LostLemmas.{AllWell, IsKept, lost_stage, parting_kept, waits_kept, well_first, well_later}

-- ---- No call failed.

waited_kept : (which : Awaited) (before : Seen Surveyor) (calls : List wire.Call) (after : Seen Surveyor) (end : Result (Unit {0}) Halt) → HasWaited which before calls after end → AllWell calls → IsKept before.history → IsKept after.history
waited_kept which before calls after end waited well kept = waits_kept Surveys which before waited.0 calls after waited.1 end waited.2 well kept

module _ (context : List ℕ) where
  inquires_kept : (all : List Asked) (before : Seen Surveyor) (calls : List wire.Call) (after : Seen Surveyor) → Inquires context all before calls after → AllWell calls → IsKept before.history → IsKept after.history
  inquires_kept all before calls after (All_answered _ _ _ _ none made same) well kept = subst (λ (s : Seen Surveyor). IsKept s.history) (sym same) kept
  inquires_kept all before calls after (Is_answered _ _ _ _ asked others error own middle other all_is answers goes_on rest calls_are) well kept =
      let well' = subst AllWell calls_are well in
      inquires_kept others middle other after rest (well_later own other well') (waited_kept awaited.Answers (issued asked.offset asked.length before) own middle (Ok tt) answers.waited (well_first own other well') kept)

  stops_kept : (whole to : ℕ) (why : Stop) (before : Seen Surveyor) (calls : List wire.Call) (after : Seen Surveyor) → Stops context whole to why before calls after → AllWell calls → IsKept before.history → IsKept after.history
  stops_kept whole to why before calls after (Runs_short _ _ _ made same is) well kept = subst (λ (s : Seen Surveyor). IsKept s.history) (sym same) kept
  stops_kept whole to why before calls after (Is_refused _ _ _ reason below made same is) well kept = subst (λ (s : Seen Surveyor). IsKept s.history) (sym same) kept
  stops_kept whole to why before calls after (Is_cut_off _ _ _ reason below waited is) well kept = waited_kept awaited.Answers (issued to (length_at whole to) before) calls after (Err reason) waited well kept
  stops_kept whole to why before calls after (Is_lost _ _ _ below waited is) well kept = waited_kept awaited.Answers (issued to (length_at whole to) before) calls after (Ok tt) waited well kept
  stops_kept whole to why before calls after (Is_failed _ _ _ asked error next answers is) well kept = waited_kept awaited.Answers (issued asked.offset asked.length before) calls after (Ok tt) answers.waited well kept

  learns_kept : (before : Seen Surveyor) (calls : List wire.Call) (after : Seen Surveyor) (lesson : Lesson) → Learns context before calls after lesson → AllWell calls → IsKept before.history → IsKept after.history
  learns_kept before calls after lesson (Breaks_off _ _ _ _ why waited is) well kept = waited_kept awaited.Answers before calls after (Err why) waited well kept
  learns_kept before calls after lesson (Cannot_ask _ _ _ _ why waited known is) well kept = waited_kept awaited.Answers before calls after (Ok tt) waited well kept
  learns_kept before calls after lesson (Knows_all _ _ _ _ info all own middle other waited known inquires asked calls_are is) well kept =
      let well' = subst AllWell calls_are well in
      inquires_kept all middle other after inquires (well_later own other well') (waited_kept awaited.Answers before own middle (Ok tt) waited (well_first own other well') kept)
  learns_kept before calls after lesson (Is_stopped _ _ _ _ info all to why own middle other last more waited known inquires asked stops calls_are is) well kept =
      let well' = subst AllWell calls_are well in
      let later = well_later own (other ++ more) well' in
      stops_kept _ to why last more after stops (well_later other more later)
      (inquires_kept all middle other last inquires (well_first other more later) (waited_kept awaited.Answers before own middle (Ok tt) waited (well_first own (other ++ more) well') kept))

  discusses_kept : (before : Seen Surveyor) (calls : List wire.Call) (after : Seen Surveyor) (lesson : Lesson) → Discusses context before calls after lesson → AllWell calls → IsKept before.history → IsKept after.history
  discusses_kept before calls after lesson (Is_cut_short _ _ _ _ learns parts) well kept = learns_kept before calls after lesson learns well kept
  discusses_kept before calls after lesson (Parts _ _ _ _ learned own middle other written learns parts waited calls_are is) well kept =
      let well' = subst AllWell calls_are well in
      waited_kept awaited.Written (parting middle) other after written waited (well_later own other well')
      (parting_kept (is_ready (state_after middle.history)) middle.history (learns_kept before own middle learned learns (well_first own other well') kept))

-- ---- Where it ended by a failed link, the handle is dead by it.

abbrev Lost : Stop
Lost = stop.Died cause.LinkFailed

halted_lost : {A : Type 0} (why : Halt) → stop.Halted why ≡ Lost → A
halted_lost why is = absurd (cc is)

dead_at : (why : Cause) (error : ℕ) → death_stop why error ≡ Lost → why ≡ cause.LinkFailed
dead_at cause.LinkFailed error is = refl
dead_at (cause.Broke told) error is = go (error == 71) is
  where
    go : (b : Bool) → (if b then stop.Failed 71 else stop.Died (cause.Broke told)) ≡ Lost → cause.Broke told ≡ cause.LinkFailed
    go true e = absurd (cc e)
    go false e = absurd (cc e)
dead_at (cause.Refused option code) error is = go (error == 71) is
  where
    go : (b : Bool) → (if b then stop.Failed 71 else stop.Died (cause.Refused option code)) ≡ Lost → cause.Refused option code ≡ cause.LinkFailed
    go true e = absurd (cc e)
    go false e = absurd (cc e)
dead_at cause.Ended error is = go (error == 71) is
  where
    go : (b : Bool) → (if b then stop.Failed 71 else stop.Died cause.Ended) ≡ Lost → cause.Ended ≡ cause.LinkFailed
    go true e = absurd (cc e)
    go false e = absurd (cc e)

told_at : {A : Type 0} (error : ℕ) (b : Bool) → (if b then None else Some (stop.Failed error)) ≡ Some Lost → A
told_at error true is = absurd (cc is)
told_at error false is = absurd (cc is)

stopped_at : (at : State) (error : ℕ) → stop_of at error ≡ Some Lost → at ≡ state.Dead cause.LinkFailed
stopped_at (state.Dead why) error is = ap (λ (c : Cause). state.Dead c) (dead_at why error (cc is))
stopped_at state.Ready error is = told_at error (error == 0) is
stopped_at state.Created error is = absurd (cc is)
stopped_at state.Negotiating error is = absurd (cc is)
stopped_at state.OptMode error is = absurd (cc is)
stopped_at state.Closing error is = absurd (cc is)
stopped_at state.Closed error is = absurd (cc is)

export_at : {A : Type 0} (context : List ℕ) (info : Option ExportInfo) → export_known context info ≡ Err Lost → A
export_at context None is = absurd (cc is)
export_at {A} context (Some info) is = go (is_agreed context info.contexts) (nat_le (2 ^ 63) info.size) is
  where
    go : (a b : Bool) → (if a then if b then Err (stop.Broke breach.SizeTooBig) else Ok info else Err stop.NoContext) ≡ Err Lost → A
    go true true e = absurd (cc e)
    go true false e = absurd (cc e)
    go false b e = absurd (cc e)

unknown_at : (context : List ℕ) (at : State) (info : Option ExportInfo) → known_at context at info ≡ Err Lost → at ≡ state.Dead cause.LinkFailed
unknown_at context (state.Dead why) info is = ap (λ (c : Cause). state.Dead c) (cc is)
unknown_at context state.Ready info is = export_at context info is
unknown_at context state.Created info is = absurd (cc is)
unknown_at context state.Negotiating info is = absurd (cc is)
unknown_at context state.OptMode info is = absurd (cc is)
unknown_at context state.Closing info is = absurd (cc is)
unknown_at context state.Closed info is = absurd (cc is)

lesson_stop : (why : Stop) (lesson : Lesson) → lesson ≡ Stopped why → lesson ≡ Stopped Lost → why ≡ Lost
lesson_stop why lesson is lost = cc (is, lost)

module _ (context : List ℕ) where
  stops_lost : (whole to : ℕ) (why : Stop) (before : Seen Surveyor) (calls : List wire.Call) (after : Seen Surveyor) → Stops context whole to why before calls after → why ≡ Lost → state_after after.history ≡ state.Dead cause.LinkFailed
  stops_lost whole to why before calls after (Runs_short _ _ _ made same is) lost = absurd (cc (is, lost))
  stops_lost whole to why before calls after (Is_refused _ _ _ reason below made same is) lost = absurd (cc (is, lost))
  stops_lost whole to why before calls after (Is_cut_off _ _ _ reason below waited is) lost = absurd (cc (is, lost))
  stops_lost whole to why before calls after (Is_lost _ _ _ below waited is) lost = absurd (cc (is, lost))
  stops_lost whole to why before calls after (Is_failed _ _ _ asked error next answers is) lost = stopped_at (state_after after.history) error (is ∙ ap (λ (s : Stop). Some s) lost)

  learns_lost : (before : Seen Surveyor) (calls : List wire.Call) (after : Seen Surveyor) (lesson : Lesson) → Learns context before calls after lesson → lesson ≡ Stopped Lost → state_after after.history ≡ state.Dead cause.LinkFailed
  learns_lost before calls after lesson (Breaks_off _ _ _ _ why waited is) lost = halted_lost why (lesson_stop (stop.Halted why) lesson is lost)
  learns_lost before calls after lesson (Cannot_ask _ _ _ _ why waited known is) lost = unknown_at context (state_after after.history) (info_after after.history) (known ∙ ap (λ (s : Stop). Err s) (lesson_stop why lesson is lost))
  learns_lost before calls after lesson (Knows_all _ _ _ _ info all own middle other waited known inquires asked calls_are is) lost = absurd (cc (is, lost))
  learns_lost before calls after lesson (Is_stopped _ _ _ _ info all to why own middle other last more waited known inquires asked stops calls_are is) lost = stops_lost _ to why last more after stops (lesson_stop why lesson is lost)

  ended_lost : (learned : Lesson) (written : Result (Unit {0}) Halt) (at : State) → is_parting learned ≡ true → ended learned written at ≡ Stopped Lost → at ≡ state.Dead cause.LinkFailed
  ended_lost (Learned info all) (Ok done) (state.Dead why) parts is = ap (λ (c : Cause). state.Dead c) (cc is)
  ended_lost (Learned info all) (Ok done) state.Created parts is = absurd (cc is)
  ended_lost (Learned info all) (Ok done) state.Negotiating parts is = absurd (cc is)
  ended_lost (Learned info all) (Ok done) state.OptMode parts is = absurd (cc is)
  ended_lost (Learned info all) (Ok done) state.Ready parts is = absurd (cc is)
  ended_lost (Learned info all) (Ok done) state.Closing parts is = absurd (cc is)
  ended_lost (Learned info all) (Ok done) state.Closed parts is = absurd (cc is)
  ended_lost (Learned info all) (Err why) at parts is = absurd (cc is)
  ended_lost (Stopped why) written at parts is = absurd (cc (sym parts ∙ ap (λ (l : Lesson). is_parting l) is))

  discusses_lost : (before : Seen Surveyor) (calls : List wire.Call) (after : Seen Surveyor) (lesson : Lesson) → Discusses context before calls after lesson → lesson ≡ Stopped Lost → state_after after.history ≡ state.Dead cause.LinkFailed
  discusses_lost before calls after lesson (Is_cut_short _ _ _ _ learns parts) lost = learns_lost before calls after lesson learns lost
  discusses_lost before calls after lesson (Parts _ _ _ _ learned own middle other written learns parts waited calls_are is) lost = ended_lost learned written (state_after after.history) parts (sym is ∙ lost)

  -- A call failed.
  pub lost_by_call : (link : ℕ) (name : List ℕ) (calls : List wire.Call) (after : Seen Surveyor) (lesson : Lesson) → Discusses context (begins link name context) calls after lesson → lesson ≡ Stopped Lost → list_any has_failed calls ≡ true
  lost_by_call link name calls after lesson discusses lost = go (list_any has_failed calls) refl
    where
      go : (b : Bool) → list_any has_failed calls ≡ b → b ≡ true
      go true is = refl
      go false is = sym (discusses_kept context (begins link name context) calls after lesson discusses is refl) ∙ lost_stage _ _ (discusses_lost (begins link name context) calls after lesson discusses lost)
