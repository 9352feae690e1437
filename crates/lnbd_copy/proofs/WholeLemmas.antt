-- Once all slices of all windows are over a copy was made whole.
use Rattle.std.proofs.Common.{◌≡◌, ◌≢◌, ℕ, Bool, true, List, [], ◌++◌, Option, Some, None, refl, ap, sym, subst, ◌∙◌, arith}
use Rattle.std.proofs.lemmas.List.{append-nil}
use Rattle.lnbd_link.specs.Call as wire
use Rattle.lnbd_model.specs.declared.target.Place.{Place}
use Rattle.lnbd_asked.specs.Transcript.{dealt_with}
use Rattle.lnbd_plan.specs.declared.cells.Cells.{Cells}
use Rattle.lnbd_plan.specs.declared.grid.Slice.{Slice}
use Rattle.lnbd_plan.specs.Laws.{windows_slices}
use Rattle.lnbd_board.specs.declared.how.How.{How}
use Rattle.lnbd_board.specs.Files as board
use Rattle.lnbd_course.specs.Between.{Between}
use Rattle.lnbd_course.specs.Course.{IsPlannedWhole}
use Rattle.lnbd_course.specs.Slices.{AreBegun}
use Rattle.lnbd_course.proofs.Placed.{links_are_of_sides}
use Rattle.lnbd_course.proofs.Slices.{ended_are_begun}
use Rattle.lnbd_course.proofs.Telling.{known_was_told, sides_are_of_source}
use Rattle.lnbd_copy.specs.Copier as copier
use Rattle.lnbd_copy.specs.Copier.{IsOnItsWay}
use Rattle.lnbd_conduct.specs.Driven.{AreAllFinished}
use Rattle.lnbd_conduct.specs.Slices.{ArePlannedTo, cells_of, IsWhole, IsWholeBy, WasCopiedWhole}
use Rattle.lnbd_copy.specs.Job as job
use Rattle.lnbd_conduct.specs.Answered.{MayBeRead, WasPassed}
use Rattle.lnbd_copy.specs.Way.{Stands, Way, known_of}
use Rattle.lnbd_conduct.specs.Told.{Told}
use Rattle.lnbd_conduct.specs.Slices as windows
use Rattle.lnbd_copy.proofs.AnswerLemmas.{none_held}
use Rattle.lnbd_copy.proofs.CopierLemmas.{told_as}
use Rattle.lnbd_copy.proofs.SettledLemmas.{settled_with}

-- With all handles taken out.
module _ (j : job.Seen) (way : Way) (now : board.Seen) (calls : List wire.Call) (is : job.IsJob j way now) (has : ℕ → Bool) (s : Stands way has now calls []) (well : now.error ≡ None) (two : way.from ≢ way.to) where
  sized : Between way.from way.to (Some j.terms.size) way.how has way.slices now calls []
  sized = subst (λ (o : Option ℕ). Between way.from way.to o way.how has way.slices now calls []) is.size s.between

  -- Where what was heard may be read, slices are planned so far.
  pub planned_to : ((grain p : ℕ) → way.heard grain p ≡ true → MayBeRead way.extents way.from p calls) → ((grain p : ℕ) → way.heard grain p ≡ true → WasPassed way.extents grain way.from p calls) → ArePlannedTo way.extents j.windows.plan.end way.from j.terms.size j.terms.grain (cells_of j.terms) (way.slices ++ j.windows.plan.slices) calls
  planned_to may passed =
      let within = is.planned.within in
      let ends = is.ends in
      let sides = (links_are_of_sides way.from way.to j.terms.size way.how has way.slices now calls sized two).0 in
      let source = sides_are_of_source way.from way.to way.how has way.slices now calls sized.course sides in
      record {
        parts = is.planned.parts;
        are = subst (λ (c : Cells). way.slices ++ j.windows.plan.slices ≡ windows_slices c 0 is.planned.parts) is.cells is.planned.are;
        ends = is.planned.end;
        within = omega (arith, within, ends);
        whole = subst (λ (n : ℕ). windows.AreFullWindows n 0 is.planned.parts) is.ends is.planned.whole;
        told = λ p zero. known_was_told way.from way.how has way.slices now calls way.asked (known_of way) s.told source p (is.planned.told p zero);
        answered = λ p low. may j.windows.grain p (is.heard.before p (let ahead = is.heard.planned in omega (arith, low, ahead)));
        passed = λ p low. subst (λ (g : ℕ). WasPassed way.extents g way.from p calls) is.grain (passed j.windows.grain p (is.heard.before p (let ahead = is.heard.planned in omega (arith, low, ahead))));
      }

  -- Each slice that was begun is finished.
  finished : job.IsOver j now → AreBegun way.how (dealt_with way.from calls) (dealt_with way.to calls) way.slices 0
  finished over = (ended_are_begun way.from way.to j.terms.size way.how has way.slices now calls sized over.rows well two).0

  -- None is left to be begun.
  all_handed : job.IsOver j now → way.slices ++ j.windows.plan.slices ≡ way.slices
  all_handed over = ap (λ (l : List Slice). way.slices ++ l) over.handed ∙ append-nil way.slices

  is_whole : job.IsOver j now → ((grain p : ℕ) → way.heard grain p ≡ true → MayBeRead way.extents way.from p calls) → ((grain p : ℕ) → way.heard grain p ≡ true → WasPassed way.extents grain way.from p calls) → IsWhole way.extents j.terms way.from way.to calls
  is_whole over may passed = record {
    slices = way.slices;
    planned = subst (λ (l : List Slice). ArePlannedTo way.extents j.terms.size way.from j.terms.size j.terms.grain (cells_of j.terms) l calls) (all_handed over)
        (subst (λ (end : ℕ). ArePlannedTo way.extents end way.from j.terms.size j.terms.grain (cells_of j.terms) (way.slices ++ j.windows.plan.slices) calls) over.planned (planned_to may passed));
    finished = subst (λ (how : How). AreBegun how (dealt_with way.from calls) (dealt_with way.to calls) way.slices 0) is.how (finished over);
  }

  pub all_finished : IsPlannedWhole way.how j.windows.plan.cells is.planned.parts way.from calls j.terms.size way.slices → job.IsOver j now → AreAllFinished way.how.skip way.from way.to calls
  all_finished planned over = record {
    size = j.terms.size;
    told = (links_are_of_sides way.from way.to j.terms.size way.how has way.slices now calls sized two).1.source;
    how = way.how;
    skips = refl;
    cells = j.windows.plan.cells;
    windows = is.planned.parts;
    slices = way.slices;
    planned = planned;
    finished = finished over;
  }

-- So it is with a copy on its way.
pub way_whole : (copy : copier.Seen) (start told : Option (List wire.Call)) → copy.board.error ≡ None → (on : IsOnItsWay start told copy) → job.IsOver on.job copy.board → copy.from ≢ copy.to → Told start told (WasCopiedWhole copy.options copy.from copy.to)
way_whole copy start told well on over two =
    let apart : on.way.from ≢ on.way.to = λ e. two (sym on.from ∙ e ∙ on.to) in
    settled_with (λ source destination calls. IsWholeBy copy.options copy.from copy.to source destination calls) copy.options copy.from copy.to start told on.job.terms on.settled
    (told_as start told
    (λ calls is. record {
      terms = on.job.terms;
      settled = on.settled.first.settled;
      whole = subst (λ (e : Bool). IsWhole e on.job.terms copy.from copy.to calls) on.extents
          (subst (λ (t : Place). IsWhole on.way.extents on.job.terms copy.from t calls) on.to
          (subst (λ (f : Place). IsWhole on.way.extents on.job.terms f on.way.to calls) on.from
          (is_whole on.job on.way copy.board calls on.is is.has (none_held on.way is.has copy.board calls copy.held is.seens is.at is.stands) well apart over (is.hears.answered well apart) (is.hears.passed well apart))));
    })
    on.on)
