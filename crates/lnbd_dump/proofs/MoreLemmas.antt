-- The status of the next blocks is asked, awaited and taken.
use Rattle.std.proofs.Common.{◌≡◌, ℕ, ◌+◌, ◌<◌, ◌≤◌, Bool, true, false, List, [], ◌∷◌, Option, Result, Ok, Err, refl, subst, sym}
use Rattle.std.specs.Prelude.{OnOk}
use Rattle.lnbd_history.specs.Events.{ClearLog, History}
use Rattle.lnbd_link.specs.Call as wire
use Rattle.lnbd_model.specs.declared.export.ExportInfo.{ExportInfo}
use Rattle.lnbd_poll.specs.Held.{Held}
use Rattle.lnbd_poll.specs.Seen.{Seen}
use Rattle.lnbd_waits.specs.Waits.{Holds}
use Rattle.lnbd_dump.specs.declared.asking.Plan.{Plan}
use Rattle.lnbd_dump.specs.declared.reader.Latest.{Latest}
use Rattle.lnbd_dump.specs.declared.reader.Reader.{Reader}
use Rattle.lnbd_reel.specs.declared.reel.Part.{Part}
use Rattle.lnbd_reel.specs.declared.reel.Run.{Run}
use Rattle.lnbd_dump.specs.declared.stop.Stop.{Stop}
use Rattle.lnbd_dump.specs.Asks.{AsksStatus}
use Rattle.lnbd_ask.specs.Maps.{max_asked}
use Rattle.lnbd_dump.specs.Course.{IsUnderWay}
use Rattle.lnbd_dump.specs.Filling.{Continues, Learns}
use Rattle.lnbd_dump.specs.Heard.{IsZeroAmong, IsZeroIn, kept}
use Rattle.lnbd_dump.specs.Leads.{Acts, GoesQuietly, GoesTo, IsGoing}
use Rattle.lnbd_reel.specs.Reel.{AreRuns, AreSpared, IsInWhole}
use Rattle.lnbd_dump.specs.Showing.{StaysWell}
use Rattle.lnbd_dump.specs.Stops.{HasStop, IsStop, is_failed}
use Rattle.lnbd_dump.specs.Takes.{TakesResult}
use Rattle.lnbd_dump.proofs.CourseLemmas.{under_quiet}
use Rattle.lnbd_dump.proofs.LaterLemmas.{quiet_event}
use Rattle.lnbd_dump.proofs.LeadLemmas.{acts_go, acts_going, acts_map, goes_acts, goes_by_acts, goes_less, goes_on, leads_none}
use Rattle.lnbd_dump.proofs.LearnLemmas.{IsAwaited, awaited_well, fresh_status, taken_well, under_more}

-- what is answered, from where it is asked
abbrev pub Answers : (plan plan' : Plan) (runs runs' : List Run) (world world' : Latest) → Result (Unit {0}) Stop → Seen Reader → Seen Reader → Type 0
Answers plan plan' runs runs' world world' result s t = HasStop result t.history × Learns result plan runs world s.history plan' runs' world' t.history

-- nothing is asked
abbrev pub Stopped : Stop → Seen Reader → Seen Reader → Type 0
Stopped why s t = IsStop t.history why × StaysWell s.history t.history × Unit {0}

-- the status is not asked
pub more_unasked : (plan plan' : Plan) (runs runs' : List Run) (world world' : Latest) (a : Option (List wire.Call)) (f : ℕ) (old h1 : List (Held Reader)) (why : Stop) → Acts old h1 (Stopped why) → GoesTo true a a f f old h1 (Answers plan plan' runs runs' world world' (Err why))
more_unasked plan plan' runs runs' world world' a f old h1 why asks =
    goes_by_acts (Answers plan plan' runs runs' world world' (Err why)) true a f old h1 (acts_map (Stopped why) (Answers plan plan' runs runs' world world' (Err why)) (λ s t is. (is.0, λ info from reel u. (is.1 info u.course.well, tt))) old h1 asks)

-- from the world that is as before
pub waits_from : (short : Bool) (a b : Option (List wire.Call)) (f g : ℕ) (old new : List (Held Reader)) (Is : Seen Reader → Type 0) (world0 world world' : Latest) → world0 ≡ world → GoesTo short a b f g old new (λ s t. Is t × GoesQuietly world0 world' s t) → GoesTo short a b f g old new (λ s t. Is t × GoesQuietly world world' s t)
waits_from short a b f g old new Is world0 world world' same goes = subst (λ (w : Latest). GoesTo short a b f g old new (λ s t. Is t × GoesQuietly w world' s t)) same goes

module _ (plan plan' : Plan) (runs runs' : List Run) (world world' : Latest) (a b : Option (List wire.Call)) (f g : ℕ) (old h1 h2 h3 : List (Held Reader)) where
  module _ (cookie size : ℕ) (few : size ≤ max_asked) (asks : Acts old h1 (λ s t. Unit {0} × Unit {0} × AsksStatus cookie plan.at size s.history t.history)) where
    abbrev Asked : Seen Reader → Seen Reader → Type 0
    Asked s t = Unit {0} × Unit {0} × AsksStatus cookie plan.at size s.history t.history

    abbrev Awaited : Seen Reader → Seen Reader → Type 0
    Awaited s t = IsAwaited cookie plan.at size world world' s t

    -- its answer doesn't come
    pub more_unawaited : (why : Stop) → GoesTo true a b f g h1 h2 (λ s t. IsStop t.history why × GoesQuietly world world' s t) → GoesTo true a b f g old h2 (Answers plan plan' runs runs' world world' (Err why))
    more_unawaited why waits =
        acts_go Asked (λ s t. IsStop t.history why × GoesQuietly world world' s t) (Answers plan plan' runs runs' world world' (Err why))
        (λ x y z is next. (next.0, λ info from reel u. (awaited_well cookie plan.at size world world' x z (fresh_status info plan.at plan.known runs world x.history size u.course few) (y, is.2, next.1) info u.course.well, tt))) true a b f g old h1 h2 asks waits

    module _ (waits : GoesTo false a b f g h1 h2 (λ s t. Unit {0} × GoesQuietly world world' s t)) where
      comes : GoesTo false a b f g old h2 Awaited
      comes = acts_go Asked (λ s t. Unit {0} × GoesQuietly world world' s t) Awaited (λ x y z is next. (y, is.2, next.1)) false a b f g old h1 h2 asks waits

      -- it is an error
      pub more_failed : (why : Stop) → Acts h2 h3 (Stopped why) → GoesTo true a b f g old h3 (Answers plan plan' runs runs' world world' (Err why))
      more_failed why takes =
          goes_less (Answers plan plan' runs runs' world world' (Err why)) a b f g old h3
          (goes_acts Awaited (Stopped why) (Answers plan plan' runs runs' world world' (Err why)) (λ x y z is next. (next.0, λ info from reel u. (next.1 info (awaited_well cookie plan.at size world world' x y (fresh_status info plan.at plan.known runs world x.history size u.course few) is info u.course.well), tt))) a b f g old h2 h3 comes takes)

      module _ (bytes : List ℕ) (takes : Acts h2 h3 (λ s t. Unit {0} × Unit {0} × TakesResult cookie bytes s.history t.history)) where
        abbrev Took : Seen Reader → Seen Reader → Type 0
        Took s t = Unit {0} × Unit {0} × TakesResult cookie bytes s.history t.history

        -- memory runs out for what was told
        pub more_lost : (why : Stop) → ((history : History Reader) → IsStop history why) → GoesTo true a b f g old h3 (Answers plan plan' runs runs' world world' (Err why))
        more_lost why stops =
            goes_less (Answers plan plan' runs runs' world world' (Err why)) a b f g old h3
            (goes_acts Awaited Took (Answers plan plan' runs runs' world world' (Err why))
            (λ x y z is next. (stops z.history, λ info from reel u. (taken_well cookie bytes y.history z.history next.2 info (awaited_well cookie plan.at size world world' x y (fresh_status info plan.at plan.known runs world x.history size u.course few) is info u.course.well), tt)))
            a b f g old h2 h3 comes takes)

        -- it is told
        pub more_told : (to : ℕ) → runs ≡ [] → plan.at ≡ plan.known → world'.short ≡ false → plan' ≡ record plan { known = to } → plan.at < to → to ≤ plan.at + size → AreRuns (IsZeroIn (kept world') plan.at) plan.at runs' to
            → AreSpared (IsInWhole plan.block (IsZeroAmong (kept world') plan.at size)) plan.at runs' to → ((p : ℕ) → to ≤ p → IsInWhole plan.block (IsZeroAmong (kept world') plan.at size) p → ⊥)
            → GoesTo false a b f g old h3 (Answers plan plan' runs runs' world world' (Ok tt))
        more_told to none same full plan_is below above told spared beyond =
            goes_acts Awaited (λ s t. IsGoing t.history × Took s t) (Answers plan plan' runs runs' world world' (Ok tt))
            (λ x y z is next. (
              tt,
              λ info from reel u. (
                  let now = under_more info from plan plan' runs' reel world world' x y z cookie size to bytes same few is full next.1.2 plan_is below above told next.0 spared beyond (subst (λ (l : List Run). IsUnderWay info from plan l reel world x.history) none u) in
                  (now.course.well, now)),
            ))
            a b f g old h2 h3 comes (acts_going Took h2 h3 takes)

-- ---- A batch.

-- the notes are dropped
pub cleared_under : (info : ExportInfo) (from : ℕ) (plan : Plan) (runs : List Run) (reel : List Part) (world : Latest) (s t : Seen Reader) → t.history ≡ ClearLog ∷ s.history → IsUnderWay info from plan runs reel world s.history → IsUnderWay info from plan runs reel world t.history
cleared_under info from plan runs reel world s t is u =
    subst (λ (h : History Reader). IsUnderWay info from plan runs reel world h) (sym is)
    (under_quiet info from plan runs reel world world s.history (ClearLog ∷ s.history) (quiet_event ClearLog s.history refl refl (λ i w. w) (λ n. n) (λ k. k)) (λ t. t) u)

-- what a batch comes to
abbrev pub Goes_on : (plan plan' : Plan) (runs runs' : List Run) (reel reel' : List Part) (world world' : Latest) → Result (Unit {0}) Stop → Seen Reader → Seen Reader → Type 0
Goes_on plan plan' runs runs' reel reel' world world' result s t = HasStop result t.history × Continues result plan runs reel world s.history plan' runs' reel' world' t.history

-- nothing can be asked
pub batch_unready : (plan : Plan) (runs : List Run) (reel : List Part) (world : Latest) (a : Option (List wire.Call)) (f : ℕ) (old : List (Held Reader)) (why : Stop) → ((seen : Seen Reader) → Holds old seen → IsStop seen.history why) → GoesTo true a a f f old old (Goes_on plan plan runs runs reel reel world world (Err why))
batch_unready plan runs reel world a f old why stops = goes_by_acts (Goes_on plan plan runs runs reel reel world world (Err why)) true a f old old (λ seen at. (seen, at, leads_none false seen, (stops seen at, λ info from u. (u.course.well, tt))))

on_ok : {A : Type 0} (result : Result A Stop) (P : Type 0) → P → OnOk result P
on_ok (Ok value) P p = p
on_ok (Err why) P p = tt

abbrev pub Cleared : Seen Reader → Seen Reader → Type 0
Cleared s t = t.history ≡ ClearLog ∷ s.history

module _ (plan plan1 plan2 : Plan) (runs runs1 runs2 : List Run) (reel reel2 : List Part) (world world1 world2 world3 : Latest) (a b c : Option (List wire.Call)) (f g h : ℕ) (old h1 h2 h3 h4 : List (Held Reader)) (clears : Acts old h1 Cleared) where
  -- nothing is told of the next blocks
  pub batch_unlearned : (why : Stop) → GoesTo true a b f g h1 h2 (Answers plan plan1 runs runs1 world world1 (Err why)) → GoesTo true a b f g old h2 (Goes_on plan plan1 runs runs1 reel reel world world1 (Err why))
  batch_unlearned why learns =
      acts_go Cleared (Answers plan plan1 runs runs1 world world1 (Err why)) (Goes_on plan plan1 runs runs1 reel reel world world1 (Err why))
      (λ x y z is next. (next.0, λ info from u. ((next.1 info from reel (cleared_under info from plan runs reel world x y is u)).0, tt))) true a b f g old h1 h2 clears learns

  module _ (learns : GoesTo false a b f g h1 h2 (Answers plan plan1 runs runs1 world world1 (Ok tt))) where
    abbrev Known : Seen Reader → Seen Reader → Type 0
    Known s t = (info : ExportInfo) (from : ℕ) → IsUnderWay info from plan runs reel world s.history → IsUnderWay info from plan1 runs1 reel world1 t.history

    known : GoesTo false a b f g old h2 Known
    known =
        acts_go Cleared (Answers plan plan1 runs runs1 world world1 (Ok tt)) Known (λ x y z is next info from u. (next.1 info from reel (cleared_under info from plan runs reel world x y is u)).1) false a b f g old h1 h2 clears learns

    -- nothing more is begun
    pub batch_unfilled : (why : Stop) → Acts h2 h3 (Goes_on plan1 plan2 runs1 runs2 reel reel2 world1 world2 (Err why)) → GoesTo true a b f g old h3 (Goes_on plan plan2 runs runs2 reel reel2 world world2 (Err why))
    batch_unfilled why fills =
        goes_less (Goes_on plan plan2 runs runs2 reel reel2 world world2 (Err why)) a b f g old h3
        (goes_acts Known (Goes_on plan1 plan2 runs1 runs2 reel reel2 world1 world2 (Err why)) (Goes_on plan plan2 runs runs2 reel reel2 world world2 (Err why))
        (λ x y z is next. (next.0, λ info from u. ((next.1 info from (is info from u)).0, tt))) a b f g old h2 h3 known fills)

    module _ (fills : Acts h2 h3 (Goes_on plan1 plan2 runs1 runs2 reel reel2 world1 world2 (Ok tt))) where
      abbrev Filled : Seen Reader → Seen Reader → Type 0
      Filled s t = (info : ExportInfo) (from : ℕ) → IsUnderWay info from plan runs reel world s.history → IsUnderWay info from plan2 runs2 reel2 world2 t.history

      filled : GoesTo false a b f g old h3 Filled
      filled = goes_acts Known (Goes_on plan1 plan2 runs1 runs2 reel reel2 world1 world2 (Ok tt)) Filled (λ x y z is next info from u. (next.1 info from (is info from u)).1) a b f g old h2 h3 known fills

      -- what was begun is awaited
      pub batch_done : (result : Result (Unit {0}) Stop) → f ≤ g → g ≤ h → GoesTo (is_failed result) b c g h h3 h4 (λ s t. HasStop result t.history × GoesQuietly world2 world3 s t) → GoesTo (is_failed result) a c f h old h4 (Goes_on plan plan2 runs runs2 reel reel2 world world3 result)
      batch_done result up up2 waits =
          goes_on Filled (λ s t. HasStop result t.history × GoesQuietly world2 world3 s t) (Goes_on plan plan2 runs runs2 reel reel2 world world3 result)
          (λ x y z is next. (
            next.0,
            λ info from u. (
                let now = under_quiet info from plan2 runs2 reel2 world2 world3 y.history z.history next.1.quiet next.1.tied (is info from u) in
                (now.course.well, on_ok result (IsUnderWay info from plan2 runs2 reel2 world3 z.history) now)),
          ))
          (is_failed result) a b c f g h old h3 h4 up up2 filled waits

-- Runs are there already.
pub learns_none : (plan : Plan) (runs : List Run) (world : Latest) (a : Option (List wire.Call)) (f : ℕ) (old : List (Held Reader)) → GoesTo false a a f f old old (Answers plan plan runs runs world world (Ok tt))
learns_none plan runs world a f old = goes_by_acts (Answers plan plan runs runs world world (Ok tt)) false a f old old (λ seen at. (seen, at, leads_none false seen, (tt, λ info from reel u. (u.course.well, u))))
