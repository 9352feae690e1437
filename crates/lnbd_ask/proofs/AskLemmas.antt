-- One range is asked for.
use Rattle.std.proofs.Common.{◌≡◌, ◌<◌, inl, inr, ℕ, false, List, [], ◌∷◌, ◌++◌, Option, Some, None, Result, Ok, Err, refl, sym, ◌∙◌, ap, subst}
use Rattle.std.specs.Prelude.{IfErr, slice_get}
use Rattle.std.specs.Option.{option_map}
use Rattle.lnbd_model.specs.declared.export.Extent.{Extent}
use Rattle.lnbd_model.specs.declared.state.State.{State}
use Rattle.lnbd_history.specs.Answers.{state_after}
use Rattle.lnbd_history.specs.Events.{ClearLog, Issue}
use Rattle.lnbd_machine.specs.Machine.{Machine}
use Rattle.lnbd_handle.specs.Histories.{Adds, AddsFault, ForEach}
use Rattle.lnbd_handle.specs.declared.issue.IssueFault.{IssueFault}
use Rattle.lnbd_handle.specs.declared.issue.IssueFault.TheVariants as fault
use Rattle.lnbd_link.specs.Call as wire
use Rattle.lnbd_link.proofs.Parts.{grows_none}
use Rattle.lnbd_poll.specs.Held.{Held}
use Rattle.lnbd_poll.specs.Seen.{Goes, Seen}
use Rattle.lnbd_poll.specs.Lends.{with_handle}
use Rattle.lnbd_waits.specs.declared.waiting.Awaited.{Awaited}
use Rattle.lnbd_waits.specs.declared.waiting.Awaited.TheVariants as awaited
use Rattle.lnbd_waits.specs.declared.waiting.Halt.{Halt}
use Rattle.lnbd_waits.specs.declared.waiting.Halt.TheVariants as halt
use Rattle.lnbd_ask.specs.declared.stops.Stop.{Stop}
use Rattle.lnbd_ask.specs.declared.stops.Stop.TheVariants as stop
use Rattle.lnbd_ask.specs.declared.survey.Surveyor.{Surveyor}
use Rattle.lnbd_ask.specs.declared.survey.Survey.{Survey}
use Rattle.lnbd_ask.specs.Maps.{Answers, HasWaited, Is_cut_off, Is_failed, Is_lost, Is_refused, Runs_short, Stops, cleared, issued, length_at, refused, sent, status_of, stop_of}
use Rattle.lnbd_ask.specs.MapSteps.{AsksOne, IsNotIssued}
use Rattle.lnbd_ask.specs.Surveys.{Surveys, error_in, told_in}
use Rattle.lnbd_ask.specs.SurveyLaws.{surveys_none, surveys_on}
use Rattle.lnbd_waits.specs.Waits.{Holds, Waited, Waits}
use Rattle.lnbd_ask.proofs.MadeLemmas.{Made, made_waiting}
use Rattle.lnbd_waits.proofs.WaitLemmas.{at_handle, blames_none}

-- ---- The request.

pub issue_ok : (all : List (Held Surveyor)) (handle handle' : Machine Surveyor) (offset size : ℕ) (seen : Seen Surveyor) → option_map (λ held. held.handle) (slice_get all 0) ≡ Some handle → Holds all seen
    → ForEach handle (Adds (Issue (status_of offset size)) handle') → Holds (with_handle all 0 handle') (sent offset size seen)
issue_ok [] handle handle' offset size seen is at adds = absurd at
issue_ok (held ∷ others) handle handle' offset size seen is at adds =
    let stands = at_handle (held ∷ others) handle seen is at in
    (record { link = at.0.link; stands = adds seen.history stands; unread = at.0.unread }, at.1)

-- the notes are dropped
pub log_cleared : (all : List (Held Surveyor)) (handle handle' : Machine Surveyor) (seen : Seen Surveyor) → option_map (λ held. held.handle) (slice_get all 0) ≡ Some handle → Holds all seen → ForEach handle (Adds ClearLog handle') → Holds (with_handle all 0 handle') (cleared seen)
log_cleared [] handle handle' seen is at adds = absurd at
log_cleared (held ∷ others) handle handle' seen is at adds =
    let stands = at_handle (held ∷ others) handle seen is at in
    (record { link = at.0.link; stands = adds seen.history stands; unread = at.0.unread }, at.1)

-- a request that fails was refused, or memory ran out
pub issue_fails : (result : Result ℕ (IssueFault Surveyor)) (failed : IssueFault Surveyor) (world world' : Survey) (all : List (Held Surveyor)) (handle handle' : Machine Surveyor) (offset size : ℕ) (seen : Seen Surveyor) → result ≡ Err failed → option_map (λ held. held.handle) (slice_get all 0) ≡ Some handle → Holds all seen
    → IfErr result (λ told. ForEach handle (AddsFault Surveys (status_of offset size) told handle' world world')) → (after : Seen Surveyor) × Holds (with_handle all 0 handle') after × IsNotIssued offset size seen after
issue_fails result failed world world' [] handle handle' offset size seen fails is at adds = absurd at
issue_fails (Ok cookie) failed world world' (held ∷ others) handle handle' offset size seen fails is at adds = absurd (cc fails)
issue_fails (Err (fault.NoMemory buf first done)) failed world world' (held ∷ others) handle handle' offset size seen fails is at adds =
    let stands = at_handle (held ∷ others) handle seen is at in
    (seen, (record { link = at.0.link; stands = adds seen.history stands; unread = at.0.unread }, at.1), inl refl)
issue_fails (Err (fault.Refused why buf)) failed world world' (held ∷ others) handle handle' offset size seen fails is at adds =
    let stands = at_handle (held ∷ others) handle seen is at in
    (refused offset size why seen, (record { link = at.0.link; stands = (adds seen.history stands).0; unread = at.0.unread }, at.1), inr (why, refl))

-- ---- Its answer.

-- what was told of it
pub answered : (context : List ℕ) (offset size : ℕ) (seen : Seen Surveyor) (world : Survey) (calls : List wire.Call) (after : Seen Surveyor) (world' : Survey) → Waits Surveys awaited.Answers (issued offset size seen) world calls after world' (Ok tt)
    → world.context ≡ context → world.told.items ≡ [] → world.error ≡ 0 → world'.short ≡ false → Answers context (record { offset = offset; length = size; told = world'.told.items }) world'.error seen calls after
answered context offset size seen world calls after world' waits same none zero_is full =
    let made : Made Surveys surveys_none surveys_on (issued offset size seen).history after.history world world' = made_waiting Surveys surveys_none surveys_on awaited.Answers (issued offset size seen) world calls after world' (Ok tt) waits in
    let told = made.leads.told full in
    record {
      waited = (world, world', waits);
      made = made.made;
      makes = made.more;
      told = told.1 ∙ ap (λ (l : List Extent). l ++ told_in world.context made.made) none ∙ ap (λ (x : List ℕ). told_in x made.made) same;
      error_is = made.leads.error ∙ ap (λ (e : ℕ). error_in e made.made) zero_is;
    }

-- the callbacks go on with the same context
pub context_stays : (a b : Option (List wire.Call)) (f g : ℕ) (all all' : List (Held Surveyor)) (world world' : Survey) (end : Result (Unit {0}) Halt) (which : Awaited) (seen : Seen Surveyor) → Holds all seen
    → Goes a b (Holds all) (Holds all') (λ before calls after. Waited Surveys which f g end before world calls after world') → world'.context ≡ world.context
context_stays a b f g all all' world world' end which seen at goes =
    let went = goes seen at in
    let made : Made Surveys surveys_none surveys_on seen.history went.after.history world world' = made_waiting Surveys surveys_none surveys_on which seen world went.calls went.after world' end went.leads.waits in
    made.leads.context

-- ---- How the asking goes.

stops_unissued : (context : List ℕ) (offset size whole : ℕ) (seen after : Seen Surveyor) → IsNotIssued offset size seen after → offset < whole → size ≡ length_at whole offset → Stops context whole offset (stop.Halted halt.NoMemory) seen [] after
stops_unissued context offset size whole seen after (inl same) below is = Runs_short seen [] after refl same refl
stops_unissued context offset size whole seen after (inr refusal) below is = Is_refused seen [] after refusal.0 below refl (refusal.1 ∙ ap (λ (n : ℕ). refused offset n refusal.0 seen) is) refl

pub ask_unissued : (context : List ℕ) (offset size : ℕ) (told : List Extent) (a : Option (List wire.Call)) (f : ℕ) (all all' : List (Held Surveyor))
    → ((seen : Seen Surveyor) → Holds all seen → (after : Seen Surveyor) × Holds all' after × IsNotIssued offset size seen after)
    → Goes a a (Holds all) (Holds all') (λ before calls after. AsksOne context offset size told f f (Err (stop.Halted halt.NoMemory)) before calls after)
ask_unissued context offset size told a f all all' issues seen at =
    let not = issues seen at in
    record {
      calls = [];
      after = not.0;
      grown = grows_none a;
      leads = record { asks = λ whole below is. stops_unissued context offset size whole seen not.0 not.2 below is; blames = blames_none f f };
      at = not.1;
    }

module _ (context : List ℕ) (offset size : ℕ) (a b : Option (List wire.Call)) (f g : ℕ) (all issuing all' : List (Held Surveyor)) (world world' : Survey) (issues : (seen : Seen Surveyor) → Holds all seen → Holds issuing (issued offset size seen)) where
  pub ask_cut_off : (told : List Extent) (why : Halt) → Goes a b (Holds issuing) (Holds all') (λ before calls after. Waited Surveys awaited.Answers f g (Err why) before world calls after world')
      → Goes a b (Holds all) (Holds all') (λ before calls after. AsksOne context offset size told f g (Err (stop.Halted why)) before calls after)
  ask_cut_off told why goes seen at =
      let went = goes (issued offset size seen) (issues seen at) in
      record {
        calls = went.calls;
        after = went.after;
        grown = went.grown;
        leads = record {
          asks = λ whole below is. Is_cut_off seen went.calls went.after why below
              (subst (λ (n : ℕ). HasWaited awaited.Answers (issued offset n seen) went.calls went.after (Err why)) is (world, world', went.leads.waits)) refl;
          blames = went.leads.blames;
        };
        at = went.at;
      }

  module _ (end : Result (Unit {0}) Halt) (ended : end ≡ Ok tt) (goes : Goes a b (Holds issuing) (Holds all') (λ before calls after. Waited Surveys awaited.Answers f g end before world calls after world')) where
    waits_to_end : (seen : Seen Surveyor) (calls : List wire.Call) (after : Seen Surveyor) → Waits Surveys awaited.Answers (issued offset size seen) world calls after world' end → Waits Surveys awaited.Answers (issued offset size seen) world calls after world' (Ok tt)
    waits_to_end seen calls after waits = subst (λ (e : Result (Unit {0}) Halt). Waits Surveys awaited.Answers (issued offset size seen) world calls after world' e) ended waits

    pub ask_lost : (told : List Extent) → Goes a b (Holds all) (Holds all') (λ before calls after. AsksOne context offset size told f g (Err (stop.Halted halt.NoMemory)) before calls after)
    ask_lost told seen at =
        let went = goes (issued offset size seen) (issues seen at) in
        let waits = waits_to_end seen went.calls went.after went.leads.waits in
        record {
          calls = went.calls;
          after = went.after;
          grown = went.grown;
          leads = record {
            asks = λ whole below is. Is_lost seen went.calls went.after below
                (subst (λ (n : ℕ). HasWaited awaited.Answers (issued offset n seen) went.calls went.after (Ok tt)) is (world, world', waits)) refl;
            blames = went.leads.blames;
          };
          at = went.at;
        }

    module _ (same : world.context ≡ context) (none : world.told.items ≡ []) (zero_is : world.error ≡ 0) (full : world'.short ≡ false) (state : State) (which : Option Stop) (states : (seen : Seen Surveyor) → Holds all' seen → state ≡ state_after seen.history) (is : which ≡ stop_of state world'.error) where
      stopped_by : (seen : Seen Surveyor) → Holds all' seen → stop_of (state_after seen.history) world'.error ≡ which
      stopped_by seen at = ap (λ (s : State). stop_of s world'.error) (sym (states seen at)) ∙ sym is

      pub ask_ok : which ≡ None → Goes a b (Holds all) (Holds all') (λ before calls after. AsksOne context offset size world'.told.items f g (Ok tt) before calls after)
      ask_ok goes_on seen at =
          let went = goes (issued offset size seen) (issues seen at) in
          record {
            calls = went.calls;
            after = went.after;
            grown = went.grown;
            leads = record {
              asks = (world'.error, answered context offset size seen world went.calls went.after world' (waits_to_end seen went.calls went.after went.leads.waits) same none zero_is full, stopped_by went.after went.at ∙ goes_on);
              blames = went.leads.blames;
            };
            at = went.at;
          }

      pub ask_fails : (why : Stop) → which ≡ Some why → Goes a b (Holds all) (Holds all') (λ before calls after. AsksOne context offset size world'.told.items f g (Err why) before calls after)
      ask_fails why stops seen at =
          let went = goes (issued offset size seen) (issues seen at) in
          let answers = answered context offset size seen world went.calls went.after world' (waits_to_end seen went.calls went.after went.leads.waits) same none zero_is full in
          record {
            calls = went.calls;
            after = went.after;
            grown = went.grown;
            leads = record {
              asks = λ whole below length_is. Is_failed seen went.calls went.after (record { offset = offset; length = size; told = world'.told.items }) world'.error (below, refl, length_is) answers (stopped_by went.after went.at ∙ stops);
              blames = went.leads.blames;
            };
            at = went.at;
          }
