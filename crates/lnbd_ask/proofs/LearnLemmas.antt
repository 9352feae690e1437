-- What is learned, and how the conversation about a map ends.
use Rattle.std.proofs.Common.{◌≡◌, ◌≤◌, ◌<◌, ◌+◌, ◌-◌, ◌*◌, ◌/◌, ◌%◌, ◌^◌, ◌&&◌, ℕ, Bool, true, false, List, [], ◌∷◌, ◌++◌, Option, Some, None, Result, Ok, Err, refl, sym, ◌∙◌, ap, subst, append-nil, arith, if◌then◌else◌}
use Rattle.std.specs.Prelude.{IfErr, OnOk, nat_le, nat_lt}
use Rattle.std.proofs.lemmas.Bool.Decides.{nat_tests}
use Rattle.std.proofs.lemmas.Nat.{div-add-mod'}
use Rattle.lnbd_model.specs.declared.breach.Breach.TheVariants as breach
use Rattle.lnbd_model.specs.declared.export.ExportInfo.{ExportInfo}
use Rattle.lnbd_model.specs.declared.export.Extent.{Extent}
use Rattle.lnbd_model.specs.declared.state.State.{State}
use Rattle.lnbd_model.specs.declared.state.State.TheVariants as state
use Rattle.lnbd_extents.specs.Lists.{span, with_extent}
use Rattle.lnbd_extents.proofs.ListLaws.{span_with_extent}
use Rattle.lnbd_history.specs.Answers.{state_after}
use Rattle.lnbd_history.specs.Refusals.{minimum}
use Rattle.lnbd_info.specs.Map.{IsMapOf}
use Rattle.lnbd_link.specs.Call as wire
use Rattle.lnbd_link.proofs.Parts.{grows_on}
use Rattle.lnbd_poll.specs.Held.{Held}
use Rattle.lnbd_poll.specs.Seen.{Goes, Seen}
use Rattle.lnbd_poll.proofs.TurnLemmas.{blames_on}
use Rattle.lnbd_ask.specs.declared.asking.Plan.{Plan}
use Rattle.lnbd_waits.specs.declared.waiting.Awaited.TheVariants as awaited
use Rattle.lnbd_waits.specs.declared.waiting.Halt.{Halt}
use Rattle.lnbd_waits.specs.declared.waiting.Halt.TheVariants as halt
use Rattle.lnbd_ask.specs.declared.stops.Stop.{Stop}
use Rattle.lnbd_ask.specs.declared.stops.Stop.TheVariants as stop
use Rattle.lnbd_ask.specs.declared.survey.Surveyor.{Surveyor}
use Rattle.lnbd_ask.specs.declared.survey.Survey.{Survey}
use Rattle.lnbd_ask.specs.Asks.{parting}
use Rattle.lnbd_ask.specs.Maps.{AreAsked, Asked, Breaks_off, Cannot_ask, HasWaited, Is_cut_short, Is_stopped, IsMapTold, Knows_all, Learned, Lesson, Parts, Runs_short, Stopped, Stops, block_of, ended, ended_at, is_agreed, is_no_context, is_parting, known_after, known_at, told_by, whole_of}
use Rattle.lnbd_ask.specs.MapSteps.{Discussed, Inquired, IsFit, IsLesson, Taught, end_at, end_of, is_end_parting, plan_of, planned}
use Rattle.lnbd_ask.specs.Surveys.{Surveys}
use Rattle.lnbd_waits.specs.Waits.{Holds, Waited, Waits}
use Rattle.lnbd_ask.proofs.LayLemmas.{map_with, multiple_of}

-- ---- What is known of the export.

least_is : (b : Bool) (n : ℕ) → (nat_lt 0 n && nat_le n 65536) ≡ b → (0 < (if b then n else 1)) × ((if b then n else 1) ≤ 134217728)
least_is true n is = go (nat_lt 0 n) (nat_le n 65536) refl refl is
  where
    go : (a c : Bool) → nat_lt 0 n ≡ a → nat_le n 65536 ≡ c → (a && c) ≡ true → (0 < n) × (n ≤ 134217728)
    go true true some few both = (grind (arith, nat_tests), grind (arith, nat_tests))
    go true false some few both = absurd (cc (both))
    go false c some few both = absurd (cc (both))
least_is false n is = (omega arith, omega arith)

pub plan_fits : (info : ExportInfo) → info.size < 2 ^ 63 → IsFit (plan_of info)
plan_fits info small =
    let least = least_is (nat_lt 0 (minimum info.blocks) && nat_le (minimum info.blocks) 65536) (minimum info.blocks) refl in
    let block : ℕ = block_of info in
    let split : info.size / block * block + info.size % block ≡ info.size = div-add-mod' info.size block in
    record {
      some = least.0;
      few = least.1;
      blocks = (info.size / block, multiple_of info.size (info.size / block * block) (info.size % block) split);
      part = omega arith;
      small = small;
    }

agreed_small : (context : List ℕ) (info found : ExportInfo) (agreed big : Bool) → nat_le (2 ^ 63) info.size ≡ big → (if agreed then if big then Err (stop.Broke breach.SizeTooBig) else Ok info else Err stop.NoContext) ≡ Ok found → found.size < 2 ^ 63
agreed_small context info found false big is e = absurd (cc e)
agreed_small context info found true true is e = absurd (cc e)
agreed_small context info found true false is e =
    let same : info ≡ found = cc e in
    let small : info.size < 2 ^ 63 = grind (arith, nat_tests) in
    subst (λ (i : ExportInfo). i.size < 2 ^ 63) same small

known_small : (context : List ℕ) (at : State) (info : Option ExportInfo) (found : ExportInfo) → known_at context at info ≡ Ok found → found.size < 2 ^ 63
known_small context state.Ready (Some info) found e = agreed_small context info found (is_agreed context info.contexts) (nat_le (2 ^ 63) info.size) refl e
known_small context state.Ready None found e = absurd (cc e)
known_small context (state.Dead why) info found e = absurd (cc e)
known_small context state.Created info found e = absurd (cc e)
known_small context state.Negotiating info found e = absurd (cc e)
known_small context state.OptMode info found e = absurd (cc e)
known_small context state.Closing info found e = absurd (cc e)
known_small context state.Closed info found e = absurd (cc e)

-- an export is known, by which this is planned
record Known (r : Result ExportInfo Stop) (plan : Plan) : Type 0 where
  info : ExportInfo
  known : r ≡ Ok info
  plan_is : plan ≡ plan_of info

planned_ok : (r : Result ExportInfo Stop) (plan : Plan) → Ok plan ≡ planned r → Known r plan
planned_ok (Ok info) plan e = record { info = info; known = refl; plan_is = cc e }
planned_ok (Err why) plan e = absurd (cc e)

planned_err : (r : Result ExportInfo Stop) (why : Stop) → Err why ≡ planned r → r ≡ Err why
planned_err (Ok info) why e = absurd (cc e)
planned_err (Err told) why e = cc e

known_fits : (context : List ℕ) (at : State) (info : Option ExportInfo) (plan : Plan) → Ok plan ≡ planned (known_at context at info) → IsFit plan
known_fits context at info plan e =
    let known = planned_ok (known_at context at info) plan e in
    subst IsFit (sym known.plan_is) (plan_fits known.info (known_small context at info known.info known.known))

pub known_is : (context : List ℕ) (at at' : State) (info info' : Option ExportInfo) (r : Result Plan Stop) → at ≡ at' → info ≡ info' → r ≡ planned (known_at context at info) → r ≡ planned (known_at context at' info')
known_is context at at' info info' r same told is = is ∙ (ap (λ (s : State). planned (known_at context s info)) same ∙ ap (λ (i : Option ExportInfo). planned (known_at context at' i)) told)

-- the same context under another name
pub known_in : (context context' : List ℕ) (all : List (Held Surveyor)) (r : Result Plan Stop) → context' ≡ context → ((seen : Seen Surveyor) → Holds all seen → r ≡ planned (known_after context' seen.history)) → (seen : Seen Surveyor) → Holds all seen → r ≡ planned (known_after context seen.history)
known_in context context' all r same known seen at = known seen at ∙ ap (λ (x : List ℕ). planned (known_after x seen.history)) same

-- what is told of the map, by a plan
record PlanTold (plan : Plan) (all : List Asked) (map : List Extent) : Type 0 where
  asked : AreAsked plan.block plan.whole 0 all plan.whole
  counts : IsMapOf (told_by plan.block all ++ record { length = plan.size - plan.whole; flags = 0 } ∷ []) map
  spans : span map ≡ plan.size
  small : plan.size < 2 ^ 63

plan_told : (info : ExportInfo) (all : List Asked) (map : List Extent) → PlanTold (plan_of info) all map → IsMapTold (block_of info) info.size all map
plan_told info all map told = record { asked = told.asked; counts = told.counts; spans = told.spans; small = told.small }

-- ---- What is learned.

module _ (context : List ℕ) where
  -- the plan that is known where the one handle stands somewhere fits
  pub plan_known : (plan : Plan) (seen : Seen Surveyor) → Ok plan ≡ planned (known_after context seen.history) → IsFit plan
  plan_known plan seen e = known_fits context (state_after seen.history) _ plan e

  pub learn_breaks : (map : List Extent) (a b : Option (List wire.Call)) (f g : ℕ) (all all' : List (Held Surveyor)) (world world' : Survey) (why : Halt)
      → Goes a b (Holds all) (Holds all') (λ before calls after. Waited Surveys awaited.Answers f g (Err why) before world calls after world')
      → Goes a b (Holds all) (Holds all') (λ before calls after. Taught context map f g (Err (stop.Halted why)) before calls after)
  learn_breaks map a b f g all all' world world' why goes seen at =
      let went = goes seen at in
      record {
        calls = went.calls;
        after = went.after;
        grown = went.grown;
        leads = record {
          lesson = Stopped (stop.Halted why);
          learns = Breaks_off seen went.calls went.after (Stopped (stop.Halted why)) why (world, world', went.leads.waits) refl;
          is = refl;
          blames = went.leads.blames;
        };
        at = went.at;
      }

  module _ (a b : Option (List wire.Call)) (f g : ℕ) (all all' : List (Held Surveyor)) (world world' : Survey) (end : Result (Unit {0}) Halt) (ended_is : end ≡ Ok tt)
      (goes : Goes a b (Holds all) (Holds all') (λ before calls after. Waited Surveys awaited.Answers f g end before world calls after world')) where
    has_waited : (seen : Seen Surveyor) (calls : List wire.Call) (after : Seen Surveyor) → Waits Surveys awaited.Answers seen world calls after world' end → HasWaited awaited.Answers seen calls after (Ok tt)
    has_waited seen calls after waits = (world, world', subst (λ (e : Result (Unit {0}) Halt). Waits Surveys awaited.Answers seen world calls after world' e) ended_is waits)

    pub learn_cannot : (map : List Extent) (why : Stop) → ((seen : Seen Surveyor) → Holds all' seen → Err why ≡ planned (known_after context seen.history))
        → Goes a b (Holds all) (Holds all') (λ before calls after. Taught context map f g (Err why) before calls after)
    learn_cannot map why known seen at =
        let went = goes seen at in
        record {
          calls = went.calls;
          after = went.after;
          grown = went.grown;
          leads = record {
            lesson = Stopped why;
            learns = Cannot_ask seen went.calls went.after (Stopped why) why (has_waited seen went.calls went.after went.leads.waits) (planned_err (known_after context went.after.history) why (known went.after went.at)) refl;
            is = refl;
            blames = went.leads.blames;
          };
          at = went.at;
        }

    module _ (plan : Plan) (known : (seen : Seen Surveyor) → Holds all' seen → Ok plan ≡ planned (known_after context seen.history)) (c : Option (List wire.Call)) (h : ℕ) (all'' : List (Held Surveyor)) (fg : f ≤ g) (gh : g ≤ h) where
      pub learn_stops : (map : List Extent) (why : Stop) → Goes b c (Holds all') (Holds all'') (λ before calls after. Inquired context plan.block plan.whole map g h (Err why) before calls after)
          → Goes a c (Holds all) (Holds all'') (λ before calls after. Taught context map f h (Err why) before calls after)
      learn_stops map why asks seen at =
          let went = goes seen at in
          let on = asks went.after went.at in
          let some = on.leads.asks in
          let known_is = planned_ok (known_after context went.after.history) plan (known went.after went.at) in
          let info = known_is.info in
          record {
            calls = went.calls ++ on.calls;
            after = on.after;
            grown = grows_on a b c went.calls on.calls went.grown on.grown;
            leads = record {
              lesson = Stopped why;
              learns = Is_stopped seen (went.calls ++ on.calls) on.after (Stopped why) info some.all some.to why went.calls went.after some.own some.last some.more
                  (has_waited seen went.calls went.after went.leads.waits) known_is.known some.inquires
                  (subst (λ (p : Plan). AreAsked p.block p.whole 0 some.all some.to) known_is.plan_is some.asked)
                  (subst (λ (p : Plan). Stops context p.whole some.to why some.last some.more on.after) known_is.plan_is some.stops)
                  (ap (λ (l : List wire.Call). went.calls ++ l) some.calls_are) refl;
              is = refl;
              blames = blames_on went.calls on.calls f g h went.leads.blames on.leads.blames fg gh;
            };
            at = on.at;
          }

      -- All ranges are answered, and what cannot be asked for is laid, or memory runs out for it.
      pub learn_ends : (map laid : List Extent) (answer : Result (Unit {0}) Stop) → OnOk answer (laid ≡ with_extent map (record { length = plan.size - plan.whole; flags = 0 })) → IfErr answer (λ told. told ≡ stop.Halted halt.NoMemory) → IsFit plan → span map ≡ plan.whole
          → Goes b c (Holds all') (Holds all'') (λ before calls after. Inquired context plan.block plan.whole map g h (Ok tt) before calls after)
          → Goes a c (Holds all) (Holds all'') (λ before calls after. Taught context laid f h answer before calls after)
      learn_ends map laid (Ok done) laid_is short fit spans asks seen at =
          let went = goes seen at in
          let on = asks went.after went.at in
          let told = on.leads.asks in
          let known_is = planned_ok (known_after context went.after.history) plan (known went.after went.at) in
          let info = known_is.info in
          let rest : Extent = record { length = plan.size - plan.whole; flags = 0 } in
          let map_is : IsMapOf (told_by plan.block told.all ++ rest ∷ []) laid = subst (λ (l : List Extent). IsMapOf (told_by plan.block told.all ++ rest ∷ []) l) (sym laid_is) (map_with (told_by plan.block told.all) map rest told.counts) in
          let size_is : span laid ≡ plan.size = ap span laid_is ∙ (span_with_extent map rest ∙ omega (arith, spans, fit.part)) in
          let of_plan : PlanTold plan told.all laid = record { asked = told.asked; counts = map_is; spans = size_is; small = fit.small } in
          record {
            calls = went.calls ++ on.calls;
            after = on.after;
            grown = grows_on a b c went.calls on.calls went.grown on.grown;
            leads = record {
              lesson = Learned info told.all;
              learns = Knows_all seen (went.calls ++ on.calls) on.after (Learned info told.all) info told.all went.calls went.after on.calls
                  (has_waited seen went.calls went.after went.leads.waits) known_is.known told.inquires
                  (subst (λ (p : Plan). AreAsked p.block p.whole 0 told.all p.whole) known_is.plan_is told.asked) refl refl;
              is = plan_told info told.all laid (subst (λ (p : Plan). PlanTold p told.all laid) known_is.plan_is of_plan);
              blames = blames_on went.calls on.calls f g h went.leads.blames on.leads.blames fg gh;
            };
            at = on.at;
          }
      learn_ends map laid (Err why) laid_is short fit spans asks seen at =
          let went = goes seen at in
          let on = asks went.after went.at in
          let told = on.leads.asks in
          let known_is = planned_ok (known_after context went.after.history) plan (known went.after went.at) in
          let info = known_is.info in
          record {
            calls = went.calls ++ on.calls;
            after = on.after;
            grown = grows_on a b c went.calls on.calls went.grown on.grown;
            leads = record {
              lesson = Stopped why;
              learns = Is_stopped seen (went.calls ++ on.calls) on.after (Stopped why) info told.all (whole_of (block_of info) info.size) why went.calls went.after on.calls on.after []
                  (has_waited seen went.calls went.after went.leads.waits) known_is.known told.inquires
                  (subst (λ (p : Plan). AreAsked p.block p.whole 0 told.all p.whole) known_is.plan_is told.asked)
                  (Runs_short on.after [] on.after refl refl short)
                  (ap (λ (l : List wire.Call). went.calls ++ l) (sym (append-nil on.calls))) refl;
              is = refl;
              blames = blames_on went.calls on.calls f g h went.leads.blames on.leads.blames fg gh;
            };
            at = on.at;
          }

-- ---- How it ends.

lesson_parting : (lesson : Lesson) (end : Result (Unit {0}) Stop) (map : List Extent) → IsLesson lesson end map → is_parting lesson ≡ is_end_parting end
lesson_parting (Learned info all) (Ok done) map is = refl
lesson_parting (Learned info all) (Err why) map is = absurd is
lesson_parting (Stopped why) (Ok done) map is = absurd is
lesson_parting (Stopped why) (Err told) map is = ap is_no_context is

lesson_at : (info : ExportInfo) (all : List Asked) (map : List Extent) (at : State) → IsLesson (Learned info all) (Ok tt) map → IsLesson (ended_at (Learned info all) at) (end_at at) map
lesson_at info all map (state.Dead cause) is = refl
lesson_at info all map state.Created is = is
lesson_at info all map state.Negotiating is = is
lesson_at info all map state.OptMode is = is
lesson_at info all map state.Ready is = is
lesson_at info all map state.Closing is = is
lesson_at info all map state.Closed is = is

lesson_ended : (lesson : Lesson) (end : Result (Unit {0}) Stop) (map : List Extent) (written : Result (Unit {0}) Halt) (at : State) → IsLesson lesson end map → IsLesson (ended lesson written at) (end_of end written at) map
lesson_ended (Learned info all) (Ok done) map (Ok sent) at is = lesson_at info all map at is
lesson_ended (Learned info all) (Ok done) map (Err why) at is = refl
lesson_ended (Learned info all) (Err why) map written at is = absurd is
lesson_ended (Stopped why) (Ok done) map written at is = absurd is
lesson_ended (Stopped why) (Err told) map written at is = is

module _ (context : List ℕ) where
  pub discuss_short : (map : List Extent) (a b : Option (List wire.Call)) (f g : ℕ) (all all' : List (Held Surveyor)) (end : Result (Unit {0}) Stop) (parts : Bool) → parts ≡ is_end_parting end → parts ≡ false
      → Goes a b (Holds all) (Holds all') (λ before calls after. Taught context map f g end before calls after)
      → Goes a b (Holds all) (Holds all') (λ before calls after. Discussed context map f g end before calls after)
  discuss_short map a b f g all all' end parts parts_is none goes seen at =
      let went = goes seen at in
      record {
        calls = went.calls;
        after = went.after;
        grown = went.grown;
        leads = record {
          lesson = went.leads.lesson;
          discusses = Is_cut_short seen went.calls went.after went.leads.lesson went.leads.learns (lesson_parting went.leads.lesson end map went.leads.is ∙ sym parts_is ∙ none);
          is = went.leads.is;
          blames = went.leads.blames;
        };
        at = went.at;
      }

  pub discuss_parts : (map : List Extent) (a b c : Option (List wire.Call)) (f g h : ℕ) (all all' parted all'' : List (Held Surveyor)) (world world' : Survey) (end last : Result (Unit {0}) Stop) (written : Result (Unit {0}) Halt) (state : State) (parts : Bool) → parts ≡ is_end_parting end → parts ≡ true → f ≤ g → g ≤ h
      → Goes a b (Holds all) (Holds all') (λ before calls after. Taught context map f g end before calls after)
      → ((seen : Seen Surveyor) → Holds all' seen → Holds parted (parting seen))
      → Goes b c (Holds parted) (Holds all'') (λ before calls after. Waited Surveys awaited.Written g h written before world calls after world')
      → ((seen : Seen Surveyor) → Holds all'' seen → state ≡ state_after seen.history) → last ≡ end_of end written state
      → Goes a c (Holds all) (Holds all'') (λ before calls after. Discussed context map f h last before calls after)
  discuss_parts map a b c f g h all all' parted all'' world world' end last written state parts parts_is some fg gh goes part ends states last_is seen at =
      let one = goes seen at in
      let two = ends (parting one.after) (part one.after one.at) in
      let lesson = ended one.leads.lesson written (state_after two.after.history) in
      let end_is : end_of end written (state_after two.after.history) ≡ last = ap (end_of end written) (sym (states two.after two.at)) ∙ sym last_is in
      record {
        calls = one.calls ++ two.calls;
        after = two.after;
        grown = grows_on a b c one.calls two.calls one.grown two.grown;
        leads = record {
          lesson = lesson;
          discusses = Parts seen (one.calls ++ two.calls) two.after lesson one.leads.lesson one.calls one.after two.calls written one.leads.learns (lesson_parting one.leads.lesson end map one.leads.is ∙ sym parts_is ∙ some) (world, world', two.leads.waits) refl refl;
          is = subst (λ (e : Result (Unit {0}) Stop). IsLesson lesson e map) end_is (lesson_ended one.leads.lesson end map written (state_after two.after.history) one.leads.is);
          blames = blames_on one.calls two.calls f g h one.leads.blames two.leads.blames fg gh;
        };
        at = two.at;
      }

no_silent_end : {A : Type 0} (at : State) → end_at at ≡ Err (stop.Halted halt.Silent) → A
no_silent_end (state.Dead why) is = absurd (cc is)
no_silent_end state.Created is = absurd (cc is)
no_silent_end state.Negotiating is = absurd (cc is)
no_silent_end state.OptMode is = absurd (cc is)
no_silent_end state.Ready is = absurd (cc is)
no_silent_end state.Closing is = absurd (cc is)
no_silent_end state.Closed is = absurd (cc is)

-- Where the end is asked for, silence is that of the wait for it.
pub end_silent : (asked : Result (Unit {0}) Stop) (written : Result (Unit {0}) Halt) (at : State) (parts : Bool) → parts ≡ is_end_parting asked → parts ≡ true → end_of asked written at ≡ Err (stop.Halted halt.Silent) → written ≡ Err halt.Silent
end_silent (Ok done) (Ok sent) at parts parts_is some is = no_silent_end at is
end_silent (Ok done) (Err why) at parts parts_is some is = ap (λ (w : Halt). Err w) (cc is)
end_silent (Err why) written at parts parts_is some is =
    let same : why ≡ stop.Halted halt.Silent = cc is in
    absurd (cc (sym some ∙ (parts_is ∙ ap is_no_context same)))
