-- A copy from an export to a file, from its first connection to the end.
use Rattle.std.proofs.Common.{◌≡◌, inr, ◌<◌, ◌≤◌, ◌+◌, ◌-◌, ◌^◌, ℕ, min, Bool, true, false, not, List, [], ◌∷◌, ◌++◌, length, Option, Some, None, nat_le}
use Rattle.std.proofs.Common.{if◌then◌else◌, refl, ap, sym, subst, ◌∙◌, arith, append-nil}
use Rattle.std.proofs.lemmas.Bool.{false≢true}
use Rattle.lnbd_link.specs.Call as wire
use Rattle.lnbd_model.specs.declared.target.Place.{Place}
use Rattle.lnbd_asked.specs.Honest.{changes}
use Rattle.lnbd_asked.specs.Driven.{written}
use Rattle.lnbd_asked.specs.Transcript.{dealt_with, is_of}
use Rattle.lnbd_history.specs.Commands as commands
use Rattle.lnbd_history.specs.History.{request}
use Rattle.lnbd_tracks.proofs.Finished.{finished_are_done}
use Rattle.lnbd_poll.specs.Held.{Held, AreAt}
use Rattle.lnbd_poll.specs.Seen as poll
use Rattle.lnbd_plan.specs.declared.cells.Cells.{Cells}
use Rattle.lnbd_plan.specs.declared.grid.Slice.{Slice}
use Rattle.lnbd_plan.specs.declared.summary.Summary.{Summary}
use Rattle.lnbd_plan.specs.Laws.{IsPlannedOnce, told_by}
use Rattle.lnbd_board.specs.declared.how.How.{How}
use Rattle.lnbd_board.specs.declared.ticket.Ticket.{Ticket}
use Rattle.lnbd_board.specs.Files as board
use Rattle.lnbd_board.specs.Holds.{WasToldSize}
use Rattle.lnbd_board.specs.declared.row.Row.{Row}
use Rattle.lnbd_board.specs.Requests.{IsDealt, Request}
use Rattle.lnbd_board.specs.Rows.{Stands}
use Rattle.lnbd_course.specs.AllDone.{AreAllDone}
use Rattle.lnbd_course.specs.Asks.{GrewBy}
use Rattle.lnbd_course.specs.Counted.{HasNotCounted, bytes_of}
use Rattle.lnbd_course.specs.Course.{IsPlannedWhole}
use Rattle.lnbd_course.specs.Far.{FarStood, ToFile}
use Rattle.lnbd_course.specs.FarCourse.{FarCourse, IsSettled, every}
use Rattle.lnbd_course.specs.Told.{Knows}
use Rattle.lnbd_course.proofs.AllDone.{looks_done}
use Rattle.lnbd_course.proofs.Ending.{are_dealt, gone_out, planned_once}
use Rattle.lnbd_course.proofs.Once.{dealt_done}
use Rattle.lnbd_course.proofs.Placed.{side_asked}
use Rattle.lnbd_course.proofs.FarEnding.{ended_asks_once_far, known_was_told_far, size_was_told_far}
use Rattle.lnbd_conduct.specs.declared.terms.Terms.{Terms}
use Rattle.lnbd_conduct.specs.Told.{Told}
use Rattle.lnbd_copy.specs.Agreed.{Tells}
use Rattle.lnbd_copy.specs.Way.{Filed, Stand}
use Rattle.lnbd_copy.proofs.EndLemmas.{told_part}
use Rattle.lnbd_copy.proofs.TurnLemmas.{none_stand, told_begins, told_map}
use Rattle.lnbd_store.specs.Call.{Call}
use Rattle.lnbd_store.specs.Shelf.{Goes, Shelf}
use Rattle.lnbd_touched.specs.Grown.{Grew, RoseBy}
use Rattle.lnbd_touched.specs.Touches.{Touches}
use Rattle.lnbd_touched.proofs.GrownLemmas.{grew_as, grew_both, rose_none, rose_then}
use Rattle.lnbd_touched.proofs.TouchLemmas.{touches_none, touches_then}
use Rattle.lnbd_connections.specs.Steps as steps
use Rattle.lnbd_connections.specs.Way.{IsUnderWay, Way}
use Rattle.lnbd_connections.proofs.WayLemmas.{way_agreed, way_began, way_settled}
use Rattle.lnbd_copyfile.specs.declared.fault.Stop.{Stop}
use Rattle.lnbd_copyfile.specs.declared.fault.Stop.TheVariants as stop
use Rattle.lnbd_copyfile.specs.Calls.{IsClosing, IsMaking, NotClosed, NotMade, closing, making}
use Rattle.lnbd_copyfile.specs.Jobs.{Seen}
use Rattle.lnbd_copyfile.specs.Making.{MadeMore}
use Rattle.lnbd_copyfile.specs.OneFile.{BreaksWriting, Write_lacks_memory, Writes}
use Rattle.lnbd_copyfile.specs.Steps.{IsBlank, Kept}
use Rattle.lnbd_copyfile.specs.ToFile.{Broken_off, GoesFurther, HasReadOnce, HasStored, IsBeginning, IsCopying, IsMadeTo, IsReady, IsSetUp, IsSummedTo, IsTally, LeavesIf}
use Rattle.lnbd_copyfile.specs.ToFile.{NotStored, Unmade, Unsynced, beginning}
use Rattle.lnbd_copyfile.specs.Taken.{HasStoredAll, IsCutTo}
use Rattle.lnbd_copyfile.specs.ToFileJob.{Acts, IsJob, IsOver}
use Rattle.lnbd_copyfile.proofs.FarLemmas.{to_file_is_copied}
use Rattle.lnbd_copyfile.proofs.MadeLemmas.{bytes_joined, made_none, made_then}
use Rattle.lnbd_copyfile.proofs.SumsLemmas.{to_file_is_summed}

-- Connections are made.

-- a board with no slices
abbrev pub blank : How → board.Seen
blank how = record {
  how = how;
  begun = 0;
  rows = [];
  came = [];
  error = None;
  told = [];
  short = false;
  mapped = false;
  flushing = false;
  flushed = false;
  read = 0;
  written = 0;
  zeroed = 0;
}

uncounted : (how : How) → HasNotCounted (blank how)
uncounted how = record { read = refl; written = refl; zeroed = refl; flushing = refl; flushed = refl }

-- Before any call a copy without handles, whose board is empty, is at its beginning.
pub begins : (at : Place) (told : Option (List wire.Call)) (how : How) (now : board.Seen) (held : List (Held Ticket)) → now ≡ blank how → held ≡ [] → IsBeginning at None told told now held
begins at told how now held empty none =
    subst (λ (s : board.Seen). IsBeginning at None told told s held) (sym empty) (subst (λ (l : List (Held Ticket)). IsBeginning at None told told (blank how) l) (sym none) (record {
      stand = none_stand;
      rows = refl;
      unflushed = refl;
      on = told_begins told (way_began (ToFile []) (beginning at None how) (blank how) refl refl refl refl (λ p. refl) refl refl (uncounted how));
    }))

module _ (at : Place) (start : Option (List wire.Call)) where
  pub begins_dialed : (size : Option ℕ) (more : ℕ) (now now' : board.Seen) (held held' : List (Held Ticket)) (told told' : Option (List wire.Call)) → now' ≡ now →
      steps.Dials at more now held told held' told' → IsBeginning at size start told now held → IsBeginning at size start told' now' held'
  begins_dialed size more now now' held held' told told' same dials b =
      subst (λ (s : board.Seen). IsBeginning at size start told' s held') (sym same)
      (record { stand = dials.stand b.stand; rows = b.rows; unflushed = b.unflushed; on = dials.on (ToFile []) (beginning at size now.how) start refl b.on })

  pub begins_settled : (size : Option ℕ) (now now' : board.Seen) (held held' : List (Held Ticket)) (told told' : Option (List wire.Call)) → steps.Goes now held told now' held' told' →
      IsBeginning at size start told now held → IsBeginning at size start told' now' held'
  begins_settled size now now' held held' told told' goes b =
      let filed = goes.filed b.stand in
      record {
        stand = goes.stand b.stand;
        rows = filed.none b.rows;
        unflushed = filed.flushing ∙ b.unflushed;
        on = subst (λ (how : How). Told start told' (λ calls. IsUnderWay (ToFile []) (beginning at size how) now' calls held')) (sym filed.how)
            (goes.on (ToFile []) (beginning at size now.how) start b.stand b.on);
      }

  pub begins_agreed : (size : ℕ) (now : board.Seen) (held : List (Held Ticket)) (told : Option (List wire.Call)) → Tells 0 size held → IsBeginning at None start told now held →
      IsBeginning at (Some size) start told now held
  begins_agreed size now held told tells b = record {
    stand = b.stand;
    rows = b.rows;
    unflushed = b.unflushed;
    on = told_map start told (λ calls on. way_agreed (ToFile []) (beginning at None now.how) now calls held on 0 size refl tells) b.on;
  }

  -- another board takes the place of the one that is empty
  pub begins_anew : (size : Option ℕ) (now now' : board.Seen) (held : List (Held Ticket)) (told : Option (List wire.Call)) → now.error ≡ None → now'.rows ≡ [] → now'.begun ≡ 0 →
      HasNotCounted now' →
      IsBeginning at size start told now held → IsBeginning at size start told now' held
  begins_anew size now now' held told well empty new uncounted b = record {
    stand = b.stand;
    rows = empty;
    unflushed = uncounted.flushing;
    on = told_map start told (λ calls on. way_settled (ToFile []) (beginning at size now.how) now calls held on now'.how now' refl refl b.rows well b.unflushed empty new uncounted) b.on;
  }

  -- The job of a copy at its beginning.
  pub set_up : (job : Seen) (now : board.Seen) (held : List (Held Ticket)) (told : Option (List wire.Call)) → IsJob job (beginning at (Some job.terms.size) now.how) now →
      IsBeginning at (Some job.terms.size) start told now held → IsSetUp at start told job now held
  set_up job now held told is b file shelf taken = record {
    way = beginning at (Some job.terms.size) now.how;
    made = [];
    place = refl;
    stand = b.stand;
    job_ = is;
    on = b.on;
    touched = touches_none file (MadeMore [] []) shelf (made_none []);
    took = rose_none taken;
  }

-- The board of a copy at its beginning is one of the terms, and this is its job.
pub sets_up : (terms : Terms) (now now' : board.Seen) (held : List (Held Ticket)) → now.error ≡ None → now' ≡ blank terms.how → (job : Seen) → job.terms ≡ terms →
    ((way : Way) (s : board.Seen) → way.size ≡ Some terms.size → way.how ≡ terms.how → s.how ≡ terms.how → way.slices ≡ [] → way.asked ≡ None →
    ((block p : ℕ) → way.known.whole block p ≡ false) → ((p : ℕ) → way.known.reach p ≡ false) → IsJob job way s) → (at : Place) (start told : Option (List wire.Call)) → IsBeginning at (Some terms.size) start told now held → IsSetUp at start told job now' held
sets_up terms now now' held well empty job same is at start told b =
    subst (λ (s : board.Seen). IsSetUp at start told job s held) (sym empty)
    (set_up at start job (blank terms.how) held told
    (is (beginning at (Some job.terms.size) terms.how) (blank terms.how) (ap (λ (t : Terms). Some t.size) same) refl refl refl refl (λ block p. refl) (λ p. refl))
    (subst (λ (t : Terms). IsBeginning at (Some t.size) start told (blank terms.how) held) (sym same)
    (begins_anew at start (Some terms.size) now (blank terms.how) held told well refl refl (uncounted terms.how) b)))

pub one_held : (now now' : board.Seen) (place : Place) (held held' held2 : List (Held Ticket)) (a b c : Option (List wire.Call)) → held ≡ [] → Stand held → steps.Dials place 1 now held a held' b →
    steps.Goes now' held' b now held2 c → 0 < length held2
one_held now now' place held held' held2 a b c none stand dials goes =
    let many = goes.many (dials.stand stand) in
    let one = dials.many in
    let zero = ap (λ (l : List (Held Ticket)). length l) none in
    omega (arith, many, one, zero)

-- Turns.

pub asked_none : (asked : Bool) (wanted : Option (ℕ × ℕ)) → asked ≡ false → (if asked then wanted else None) ≡ None
asked_none asked wanted none = ap (λ (b : Bool). if b then wanted else None) none

-- What is filed leaves a job as it was.
pub job_filed : (job : Seen) (way : Way) (now now' : board.Seen) → Filed now now' → IsJob job way now → IsJob job way now'
job_filed job way now now' filed is = record {
  size = is.size;
  how = is.how;
  writes = filed.how ∙ is.writes;
  ends = is.ends;
  cells = is.cells;
  planned = is.planned;
  grain = is.grain;
  spared = is.spared;
  heard = is.heard;
  reached = is.reached;
  asked = is.asked;
  over = λ parting.
      let over = is.over parting in
      record { planned = over.planned; handed = over.handed; heard = over.heard; rows = filed.none over.rows };
}

pub copying_ready : (file : ℕ) (at : Place) (start told : Option (List wire.Call)) (job : Seen) (now : board.Seen) (held : List (Held Ticket)) (old new : Option Shelf) (taken taken' : ℕ) →
    IsCopying file at start told job now held old new taken taken' → IsReady job now held
copying_ready file at start told job now held old new taken taken' c = record { way = c.way; job_ = c.job_; stand = c.stand }

pub ready_goes : (job : Seen) (now now' : board.Seen) (held held' : List (Held Ticket)) (told told' : Option (List wire.Call)) → steps.Goes now held told now' held' told' → IsReady job now held →
    IsReady job now' held'
ready_goes job now now' held held' told told' goes r = record { way = r.way; job_ = job_filed job r.way now now' (goes.filed r.stand) r.job_; stand = goes.stand r.stand }

pub ready_acts : (file : ℕ) (job job' : Seen) (now now' : board.Seen) (held held' : List (Held Ticket)) (old new : Option Shelf) (taken taken' : ℕ) →
    Acts file job job' now now' held held' old new taken taken' → IsReady job now held → IsReady job' now' held'
ready_acts file job job' now now' held held' old new taken taken' acts r =
    let further = acts.on [] r.way r.job_ in
    record { way = further.way'; job_ = further.job; stand = acts.stand r.stand }

module _ (job : Seen) (now now' : board.Seen) (held held' : List (Held Ticket)) (told told' : Option (List wire.Call)) where
  pub ready_leaves : (parting : Bool) → LeavesIf parting now held told now' held' told' → IsReady job now held → IsReady job now' held'
  ready_leaves true leaves r = record { way = r.way; job_ = job_filed job r.way now now' leaves.filed r.job_; stand = leaves.stand r.stand }
  ready_leaves false same r = subst (λ (s : board.Seen). IsReady job s held') (sym same.0) (subst (λ (l : List (Held Ticket)). IsReady job now l) (sym same.1) r)

pub further_none : (file : ℕ) (job : Seen) (now : board.Seen) (held : List (Held Ticket)) (told : Option (List wire.Call)) (shelf : Option Shelf) (taken : ℕ) →
    GoesFurther file job now held told shelf taken job now held told shelf taken
further_none file job now held told shelf taken = record { on = λ at start was had c. c }

pub further_then : (file : ℕ) (job job2 job3 : Seen) (now now2 now3 : board.Seen) (held held2 held3 : List (Held Ticket)) (a b c : Option (List wire.Call)) (x y z : Option Shelf) (t u v : ℕ) →
    GoesFurther file job now held a x t job2 now2 held2 b y u → GoesFurther file job2 now2 held2 b y u job3 now3 held3 c z v → GoesFurther file job now held a x t job3 now3 held3 c z v
further_then file job job2 job3 now now2 now3 held held2 held3 a b c x y z t u v one two = record { on = λ at start was had copying. two.on at start was had (one.on at start was had copying) }

pub further_goes : (file : ℕ) (job : Seen) (now now' : board.Seen) (held held' : List (Held Ticket)) (told told' : Option (List wire.Call)) (shelf : Option Shelf) (taken : ℕ) →
    steps.Goes now held told now' held' told' → GoesFurther file job now held told shelf taken job now' held' told' shelf taken
further_goes file job now now' held held' told told' shelf taken goes = record {
  on = λ at start was had c. record {
    way = c.way;
    made = c.made;
    place = c.place;
    stand = goes.stand c.stand;
    job_ = job_filed job c.way now now' (goes.filed c.stand) c.job_;
    on = goes.on (ToFile c.made) c.way start c.stand c.on;
    touched = c.touched;
    took = c.took;
  };
}

pub further_acts : (file : ℕ) (job job' : Seen) (now now' : board.Seen) (held held' : List (Held Ticket)) (told : Option (List wire.Call)) (old new : Option Shelf) (taken taken' : ℕ) →
    Acts file job job' now now' held held' old new taken taken' → GoesFurther file job now held told old taken job' now' held' told new taken'
further_acts file job job' now now' held held' told old new taken taken' acts = record {
  on = λ at start was had c.
      let further = acts.on c.made c.way c.job_ in
      record {
        way = further.way';
        made = c.made ++ further.more;
        place = further.one.at ∙ c.place;
        stand = acts.stand c.stand;
        job_ = further.job;
        on = told_map start told further.on c.on;
        touched = touches_then file (MadeMore [] c.made) (MadeMore c.made further.more) (MadeMore [] (c.made ++ further.more)) was old new (made_then [] c.made further.more) c.touched
            further.touched;
        took = subst (λ (n : ℕ). RoseBy n had taken') (sym (bytes_joined changes c.made further.more))
            (rose_then (bytes_of changes c.made) (bytes_of changes further.more) had taken taken' c.took further.took);
      };
}

pub further_leaves : (file : ℕ) (job : Seen) (now now' : board.Seen) (held held' : List (Held Ticket)) (told told' : Option (List wire.Call)) (shelf : Option Shelf) (taken : ℕ) →
    LeavesIf job.is_parting now held told now' held' told' → GoesFurther file job now held told shelf taken job now' held' told' shelf taken
further_leaves file job now now' held held' told told' shelf taken leaves = record { on = λ at start was had c. go at start was had job.is_parting refl leaves c }
  where
    go : (at : Place) (start : Option (List wire.Call)) (was : Option Shelf) (had : ℕ) (parting : Bool) → job.is_parting ≡ parting → LeavesIf parting now held told now' held' told' →
        IsCopying file at start told job now held was shelf had taken → IsCopying file at start told' job now' held' was shelf had taken
    go at start was had true parts leaves c =
        let over = c.job_.over parts in
        record {
          way = c.way;
          made = c.made;
          place = c.place;
          stand = leaves.stand c.stand;
          job_ = job_filed job c.way now now' leaves.filed c.job_;
          on = leaves.on (ToFile c.made) c.way start (c.job_.asked ∙ asked_none job.asked _ over.heard) over.rows c.on;
          touched = c.touched;
          took = c.took;
        }
    go at start was had false stays same c =
        subst (λ (s : board.Seen). IsCopying file at start told' job s held' was shelf had taken) (sym same.0)
        (subst (λ (l : List (Held Ticket)). IsCopying file at start told' job now l was shelf had taken) (sym same.1)
        (subst (λ (t : Option (List wire.Call)). IsCopying file at start t job now held was shelf had taken) (sym same.2) c))

-- The end.

none_left : (seens : List (poll.Seen Ticket)) → AreAt [] seens → seens ≡ []
none_left [] at = refl
none_left (seen ∷ others) at = absurd at

not_false : (b : Bool) → not b ≡ false → b ≡ true
not_false true e = refl
not_false false e = absurd (false≢true (sym e))

module _ (job : Seen) (way : Way) (now : board.Seen) (calls : List wire.Call) (made : List Request) (is : IsJob job way now) (over : IsOver job now) (on : IsUnderWay (ToFile made) way now
    calls []) where
  -- With no handle held, what stands stands without them.
  pub stands_alone : FarCourse (ToFile made) way.at (Some job.terms.size) way.how way.slices now calls [] way.asked way.known
  stands_alone = subst (λ (o : Option ℕ). FarCourse (ToFile made) way.at o way.how way.slices now calls [] way.asked way.known) is.size
      (subst (λ (seens : List (poll.Seen Ticket)). FarCourse (ToFile made) way.at way.size way.how way.slices now calls seens way.asked way.known) (none_left on.seens on.at) on.stands)

  -- All is planned, as it was told.
  pub planned_whole : IsPlannedWhole way.how job.windows.plan.cells is.planned.parts way.at calls job.terms.size way.slices
  planned_whole = record {
    are = sym (append-nil way.slices) ∙ ap (λ (l : List Slice). way.slices ++ l) (sym over.handed) ∙ is.planned.are;
    whole = is.planned.end ∙ over.planned;
    told = λ p less zero. known_was_told_far (ToFile made) way.at (Some job.terms.size) way.how way.slices now calls way.asked way.known stands_alone p (is.planned.told p zero);
    left_out = λ none. ap (λ (h : How). h.skip) is.how ∙ not_false job.terms.how.skip (sym (ap (λ (c : Cells). c.zeros) is.cells) ∙ none);
  }

module _ (job : Seen) (way : Way) (now : board.Seen) (calls : List wire.Call) (made : List Request) (is : IsJob job way now) (over : IsOver job now) (on : IsUnderWay (ToFile made) way now calls [])
    (well : now.error ≡ None) where
  stood : FarCourse (ToFile made) way.at (Some job.terms.size) way.how way.slices now calls [] way.asked way.known
  stood = stands_alone job way now calls made is over on

  planned : IsPlannedWhole way.how job.windows.plan.cells is.planned.parts way.at calls job.terms.size way.slices
  planned = planned_whole job way now calls made is over on

  pub told_size : WasToldSize (dealt_with way.at calls) job.terms.size
  told_size = size_was_told_far (ToFile made) way.at job.terms.size way.how way.slices now calls way.asked way.known stood

  -- what the board counted is a summary
  pub summed_up : (summary : Summary) (taken taken' : ℕ) → job.terms.size ≤ 2 ^ 63 → RoseBy (bytes_of changes made) taken taken' → IsTally job.terms.size now summary →
      IsSummedTo way.at summary taken taken' calls
  summed_up summary taken taken' room took tally =
      let sums = to_file_is_summed made way.at job.terms.size way.how way.slices now calls way.asked way.known job.windows.plan.cells is.planned.parts taken taken' stood well planned room took in
      let few = sums.few in
      let all : min (now.written + now.zeroed) 18446744073709551615 ≡ now.written + now.zeroed = omega (arith, few, room) in
      subst (λ (s : Summary). IsSummedTo way.at s taken taken' calls) (sym tally) (record {
        size = job.terms.size;
        told = told_size;
        whole = omega (arith, few, all);
        zeroed = refl;
        took = λ low. let rose = sums.took low in omega (arith, rose, all);
      })

  -- what was asked of the source was asked once
  pub read_once : HasReadOnce way.at calls
  read_once =
      let once = ended_asks_once_far (ToFile made) way.at (Some job.terms.size) job.terms.size way.how way.slices [] now calls way.asked way.known job.windows.plan.cells (told_by 0 is.planned.parts)
      job.terms.size stood well (λ p. subst (λ (ss : List Slice). IsPlannedOnce job.windows.plan.cells (told_by 0 is.planned.parts) 0 job.terms.size p ss) (sym (append-nil way.slices))
      (planned_once job.windows.plan.cells is.planned.parts job.terms.size way.slices planned.are planned.whole p)) (omega arith) in
      record {
        asks = record {
          links = once.links;
          looks = once.asked.looks;
          once = once.asked.reads_once;
          within = inr (record { size = job.terms.size; told = told_size; within = once.asked.reads_within });
          plain = once.asked.looks_plain;
          extents = once.asked.extents;
        };
        size = job.terms.size;
        told = told_size;
        within = once.asked.reads_within;
      }

  -- and all of it is done
  pub all_done : AreAllDone (dealt_with way.at calls)
  all_done = looks_done way.slices b.course.histories s.asked (dealt_with way.at calls) s.tracked went stands.reads
      (dealt_done b.course.histories s.asked (dealt_with way.at calls) went (finished_are_done way.how way.slices s.asked made stands).0) b.course.stood.maps
    where
      unasked : way.asked ≡ None
      unasked = is.asked ∙ asked_none job.asked _ over.heard

      b : FarCourse (ToFile made) way.at (Some job.terms.size) way.how way.slices now calls [] None way.known
      b = subst (λ (o : Option (ℕ × ℕ)). FarCourse (ToFile made) way.at (Some job.terms.size) way.how way.slices now calls [] o way.known) unasked stood

      s : FarStood (ToFile made) way.how way.slices now b.course.histories
      s = b.course.stood.stood

      own : (link cookie : ℕ) (asks : commands.Request Ticket) → request (b.course.histories link) cookie ≡ Some asks → nat_le cookie (written (b.course.histories link)) ≡ true →
          is_of way.at calls link ≡ true
      own = side_asked (Knows (FarStood (ToFile made) way.how way.slices) every None way.known) (IsSettled (Some job.terms.size)) way.at way.at every now calls b

      went : IsDealt (gone_out b.course.histories s.asked) (dealt_with way.at calls)
      went = are_dealt way.at calls b.course.histories s.asked s.tracked (λ link here. b.course.parted link tt) own

      stands : Stands way.how way.slices [] s.asked made
      stands = subst (λ (rows : List (ℕ × Row)). Stands way.how way.slices rows s.asked made) over.rows (s.stands well)

-- The file was made, and made all changes, and was synced or not: the copy is made.
pub is_made : (path : List ℕ) (file size : ℕ) (at : Place) (start told : Option (List wire.Call)) (job : Seen) (now : board.Seen) (held : List (Held Ticket)) (summary : Summary)
    (a b c d : Option Shelf) (t0 t1 t2 t3 : ℕ) → Goes a b (IsBlank path file size) → t1 ≡ t0 → Touches file Kept c d → t3 ≡ t2 → IsCopying file at start told job now held b c t1 t2 →
    job.terms.size ≡ size → size ≤ 2 ^ 63 → job.is_parting ≡ true → held ≡ [] → now.error ≡ None → IsTally size now summary →
    Told start told (IsMadeTo at path summary a d t0 t3)
is_made path file size at start told job now held summary a b c d t0 t1 t2 t3 blank same_taken synced kept_taken copying same room parting none well tally =
    let is = copying.job_ in
    let over = is.over parting in
    let way = copying.way in
    let made = copying.made in
    let touched = touches_then file (MadeMore [] made) Kept (MadeMore [] made) b c d (λ x y z more kept. subst (λ (l : List ℕ). MadeMore [] made x l) (sym kept) more) copying.touched synced in
    let took : RoseBy (bytes_of changes made) t0 t3 = subst (λ (n : ℕ). RoseBy (bytes_of changes made) n t3) same_taken
    (subst (λ (n : ℕ). RoseBy (bytes_of changes made) t1 n) (sym kept_taken) copying.took) in
    told_map start told
    (λ calls on.
    let on' = subst (λ (l : List (Held Ticket)). IsUnderWay (ToFile made) way now calls l) none on in
    subst (λ (p : Place). IsMadeTo p path summary a d t0 t3 calls) copying.place (record {
      copied = to_file_is_copied path file job.terms.size made way.at way.how way.slices now calls way.asked way.known job.windows.plan.cells is.planned.parts a b d
          (subst (λ (n : ℕ). Goes a b (IsBlank path file n)) (sym same) blank) touched (stands_alone job way now calls made is over on') over.rows well
          (planned_whole job way now calls made is over on');
      summed = summed_up job way now calls made is over on' well summary t0 t3 (subst (λ (n : ℕ). n ≤ 2 ^ 63) (sym same) room) took (subst (λ (n : ℕ). IsTally n now summary) (sym same) tally);
      asked = read_once job way now calls made is over on' well;
      done = all_done job way now calls made is over on' well;
    }))
    copying.on

-- The file has as many bytes as the export told.
pub is_cut : (path : List ℕ) (file size : ℕ) (flush : Bool) (at : Place) (start told : Option (List wire.Call)) (job : Seen) (now : board.Seen) (held : List (Held Ticket)) (summary : Summary)
    (old new : Option Shelf) (taken taken' : ℕ) (stored stored' : Option (List Call)) → IsCopying file at start told job now held old new taken taken' → job.terms.size ≡ size → size ≤ 2 ^ 63 →
    job.is_parting ≡ true → held ≡ [] → now.error ≡ None → IsTally size now summary → Grew stored stored' (HasStoredAll path size flush) →
    Told start told (IsCutTo at path flush summary stored stored')
is_cut path file size flush at start told job now held summary old new taken taken' stored stored' copying same room parting none well tally cut =
    let is = copying.job_ in
    let over = is.over parting in
    let way = copying.way in
    let made = copying.made in
    let low : job.terms.size ≤ 2 ^ 63 = subst (λ (n : ℕ). n ≤ 2 ^ 63) (sym same) room in
    told_map start told
    (λ calls on.
    let on' = subst (λ (l : List (Held Ticket)). IsUnderWay (ToFile made) way now calls l) none on in
    let sums = to_file_is_summed made way.at job.terms.size way.how way.slices now calls way.asked way.known job.windows.plan.cells is.planned.parts taken taken'
    (stands_alone job way now calls made is over on') well (planned_whole job way now calls made is over on') low copying.took in
    let few = sums.few in
    let all : min (now.written + now.zeroed) 18446744073709551615 + (size - now.written - now.zeroed) ≡ size = omega (arith, few, low, same) in
    subst (λ (p : Place). IsCutTo p path flush summary stored stored' calls) copying.place (record {
      size = size;
      told = subst (λ (n : ℕ). WasToldSize (dealt_with way.at calls) n) same (told_size job way now calls made is over on' well);
      whole = subst (λ (s : Summary). s.written + s.skipped ≡ size) (sym tally) all;
      cut = cut;
    }))
    copying.on

pub cut_grew : (from : Place) (path : List ℕ) (flush : Bool) (summary : Summary) (stored stored' : Option (List Call)) (a b c : Option (List wire.Call)) → c ≡ b →
    Told a b (IsCutTo from path flush summary stored stored') → GrewBy (IsCutTo from path flush summary stored stored') a c
cut_grew from path flush summary stored stored' a b c same told =
    subst (λ (t : Option (List wire.Call)). GrewBy (IsCutTo from path flush summary stored stored') a t) (sym same) (told_part a b told)

-- So it is of the calls by which a transcript grew.
pub made_grew : (from : Place) (path : List ℕ) (summary : Summary) (old new : Option Shelf) (taken taken' : ℕ) (a b c : Option (List wire.Call)) → c ≡ b →
    Told a b (IsMadeTo from path summary old new taken taken') → GrewBy (IsMadeTo from path summary old new taken taken') a c
made_grew from path summary old new taken taken' a b c same told =
    subst (λ (t : Option (List wire.Call)). GrewBy (IsMadeTo from path summary old new taken taken') a t) (sym same) (told_part a b told)

-- Which calls were made on the store.

-- some writes, and behind them what is so
record Pair (file : ℕ) (Is : List Call → Type 0) (calls : List Call) : Type 0 where
  own : List Call
  last : List Call
  writes : Writes file own
  ends : Is last
  are : calls ≡ own ++ last

pub not_made : (path : List ℕ) (size : ℕ) (flush : Bool) (a b : Option (List Call)) → Grew a b (NotMade path size) → Grew a b (NotStored path flush stop.Failed)
not_made path size flush a b unmade = grew_as a b (NotMade path size) (NotStored path flush stop.Failed) (λ calls u. Unmade size u refl) unmade

module _ (path : List ℕ) (file size : ℕ) (flush : Bool) (a b c : Option (List Call)) where
  pub broken_off : (why : Stop) → Grew a b (IsMaking path file size) → Grew b c (BreaksWriting file why) → Grew a c (NotStored path flush why)
  broken_off why made breaks =
      grew_both a b c (IsMaking path file size) (BreaksWriting file why) (NotStored path flush why) (λ calls more m h. Broken_off file size more h (ap (λ (l : List Call). l ++ more) m)) made breaks

  pub lacking : Grew a b (IsMaking path file size) → Grew b c (Writes file) → Grew a c (NotStored path flush stop.NoMemory)
  lacking made writes = broken_off stop.NoMemory made (grew_as b c (Writes file) (BreaksWriting file stop.NoMemory) (λ calls w. Write_lacks_memory w refl) writes)

  unsynced_calls : (calls own last : List Call) → calls ≡ making path file size → Writes file own → NotClosed file flush last → NotStored path flush stop.Failed (calls ++ (own ++ last))
  unsynced_calls calls own last m w unclosed =
      Unsynced file size own unclosed.flush_ w (ap (λ (l : List Call). l ++ (own ++ last)) m ∙ ap (λ (l : List Call). making path file size ++ (own ++ l)) unclosed.calls_are) refl

  pub unsynced : (d : Option (List Call)) → Grew a b (IsMaking path file size) → Grew b c (Writes file) → Grew c d (NotClosed file flush) → Grew a d (NotStored path flush stop.Failed)
  unsynced d made writes unclosed =
      grew_both a b d (IsMaking path file size) (Pair file (NotClosed file flush)) (NotStored path flush stop.Failed)
      (λ calls more m p. subst (λ (l : List Call). NotStored path flush stop.Failed (calls ++ l)) (sym p.are) (unsynced_calls calls p.own p.last m p.writes p.ends)) made
      (grew_both b c d (Writes file) (NotClosed file flush) (Pair file (NotClosed file flush)) (λ own last w ends. record { own = own; last = last; writes = w; ends = ends; are = refl })
      writes unclosed)

  pub stored_all : (d : Option (List Call)) → Grew a b (IsMaking path file size) → Grew b c (Writes file) → Grew c d (IsClosing file flush) → Grew a d (HasStoredAll path size flush)
  stored_all d made writes closed =
      grew_both a b d (IsMaking path file size) (Pair file (IsClosing file flush)) (HasStoredAll path size flush)
      (λ calls more m p. record {
        to = file;
        own = p.own;
        writes = p.writes;
        calls_are = ap (λ (l : List Call). calls ++ l) (p.are ∙ ap (λ (l : List Call). p.own ++ l) p.ends) ∙ ap (λ (l : List Call). l ++ (p.own ++ closing file flush)) m;
      }) made
      (grew_both b c d (Writes file) (IsClosing file flush) (Pair file (IsClosing file flush)) (λ own last w ends. record { own = own; last = last; writes = w; ends = ends; are = refl })
      writes closed)

  pub stored : (d : Option (List Call)) → Grew a b (IsMaking path file size) → Grew b c (Writes file) → Grew c d (IsClosing file flush) → Grew a d (HasStored path flush)
  stored d made writes closed =
      grew_as a d (HasStoredAll path size flush) (HasStored path flush) (λ calls s. record { to = s.to; size = size; own = s.own; writes = s.writes; calls_are = s.calls_are })
      (stored_all d made writes closed)
