-- What a copy to a file passed over, in the end.
use Rattle.std.proofs.Common.{◌≡◌, ◌≤◌, ◌-◌, ◌^◌, ℕ, true, List, [], Option, Some, None, ap, sym, subst, ◌∙◌, arith, append-nil}
use Rattle.lnbd_link.specs.Call as wire
use Rattle.lnbd_model.specs.declared.target.Place.{Place}
use Rattle.lnbd_asked.specs.Transcript.{dealt_with}
use Rattle.lnbd_poll.specs.Held.{Held}
use Rattle.lnbd_plan.specs.declared.grid.Slice.{Slice}
use Rattle.lnbd_plan.specs.declared.summary.Summary.{Summary}
use Rattle.lnbd_plan.specs.Laws.{IsPlannedOnce, told_by}
use Rattle.lnbd_board.specs.declared.how.How.{How}
use Rattle.lnbd_board.specs.declared.ticket.Ticket.{Ticket}
use Rattle.lnbd_board.specs.declared.row.Row.{Row}
use Rattle.lnbd_board.specs.Files as board
use Rattle.lnbd_board.specs.Requests.{IsDealt, Request}
use Rattle.lnbd_board.specs.Rows.{Stands}
use Rattle.lnbd_course.specs.Counts.{uncovered}
use Rattle.lnbd_course.specs.Course.{IsPlannedWhole}
use Rattle.lnbd_course.specs.Far.{FarStood, ToFile}
use Rattle.lnbd_course.specs.FarCourse.{FarCourse, IsSettled, every}
use Rattle.lnbd_course.specs.Told.{Knows}
use Rattle.lnbd_course.proofs.Ending.{are_dealt, gone_out, planned_once, source_out_stands}
use Rattle.lnbd_course.proofs.FarEnding.{ended_sums_far}
use Rattle.lnbd_course.proofs.Placed.{side_asked}
use Rattle.lnbd_conduct.specs.declared.terms.Terms.{Terms}
use Rattle.lnbd_conduct.specs.Told.{Told}
use Rattle.lnbd_copy.proofs.TurnLemmas.{told_map}
use Rattle.lnbd_store.specs.Shelf.{Shelf}
use Rattle.lnbd_connections.specs.Way.{IsUnderWay, Way}
use Rattle.lnbd_copyfile.specs.Jobs.{Seen}
use Rattle.lnbd_copyfile.specs.Passed.{HasPassedBy, HasPassedOver, PassesOver}
use Rattle.lnbd_copyfile.specs.Sharing.{HasTermsTo}
use Rattle.lnbd_copyfile.specs.ToFile.{IsCopying, IsTally}
use Rattle.lnbd_copyfile.specs.ToFileJob.{IsJob, IsOver}
use Rattle.lnbd_copyfile.proofs.PassedLemmas.{passed_over}
use Rattle.lnbd_copyfile.proofs.ShareLemmas.{terms_later}
use Rattle.lnbd_copy.proofs.EndLemmas.{told_part}
use Rattle.lnbd_connections.specs.Few.{StaysFew}
use Rattle.lnbd_course.specs.Asks.{GrewBy}
use Rattle.lnbd_plan.specs.declared.options.CopyOptions.{CopyOptions}
use Rattle.lnbd_copyfile.proofs.ToFileRunLemmas.{planned_whole, stands_alone}

module _ (job : Seen) (way : Way) (now : board.Seen) (calls : List wire.Call) (made : List Request) (is : IsJob job way now) (over : IsOver job now) (on : IsUnderWay (ToFile made) way now calls [])
    (well : now.error ≡ None) (zeroes : job.terms.how.zeroes ≡ true) where
  stood : FarCourse (ToFile made) way.at (Some job.terms.size) way.how way.slices now calls [] way.asked way.known
  stood = stands_alone job way now calls made is over on

  planned : IsPlannedWhole way.how job.windows.plan.cells is.planned.parts way.at calls job.terms.size way.slices
  planned = planned_whole job way now calls made is over on

  -- what went out of what the export was asked is what was dealt with it
  went : IsDealt (gone_out stood.course.histories stood.course.stood.stood.asked) (dealt_with way.at calls)
  went = are_dealt way.at calls stood.course.histories stood.course.stood.stood.asked stood.course.stood.stood.tracked (λ link here. stood.course.parted link tt)
      (side_asked (Knows (FarStood (ToFile made) way.how way.slices) every way.asked way.known) (IsSettled (Some job.terms.size)) way.at way.at every now calls stood)

  stands : Stands way.how way.slices [] stood.course.stood.stood.asked made
  stands = subst (λ (rows : List (ℕ × Row)). Stands way.how way.slices rows stood.course.stood.stood.asked made) over.rows (stood.course.stood.stood.stands well)

  passes_uncovered : PassesOver way.how (dealt_with way.at calls) job.terms.size (uncovered made job.terms.size)
  passes_uncovered = passed_over way.how job.windows.plan.cells (told_by 0 is.planned.parts) job.terms.size way.slices (gone_out stood.course.histories stood.course.stood.stood.asked) made
      (dealt_with way.at calls) (ap (λ (h : How). h.zeroes) is.how ∙ zeroes)
      (record {
        planned = planned_once job.windows.plan.cells is.planned.parts job.terms.size way.slices planned.are planned.whole;
        left_out = planned.left_out;
        over = source_out_stands way.how way.slices stood.course.histories stood.course.stood.stood.asked made stands stood.course.stood.stood.tracked;
      }) went planned.told

  -- what the board did not write and zero is what no change covers
  rest : job.terms.size ≤ 2 ^ 63 → job.terms.size - now.written - now.zeroed ≡ uncovered made job.terms.size
  rest room = (ended_sums_far (ToFile made) way.at (Some job.terms.size) job.terms.size way.how way.slices [] now calls way.asked way.known job.windows.plan.cells (told_by 0 is.planned.parts)
      job.terms.size stood over.rows well (λ p. subst (λ (ss : List Slice). IsPlannedOnce job.windows.plan.cells (told_by 0 is.planned.parts) 0 job.terms.size p ss) (sym (append-nil way.slices))
      (planned_once job.windows.plan.cells is.planned.parts job.terms.size way.slices planned.are planned.whole p)) (omega arith) (omega (arith, room))).skipped

  passes_by : (summary : Summary) → job.terms.size ≤ 2 ^ 63 → IsTally job.terms.size now summary → PassesOver way.how (dealt_with way.at calls) job.terms.size summary.skipped
  passes_by summary room tally =
      subst (λ (n : ℕ). PassesOver way.how (dealt_with way.at calls) job.terms.size n) (sym (ap (λ (s : Summary). s.skipped) tally ∙ rest room)) passes_uncovered

-- All of the copy's calls are those of which that is so.
pub passed : (file : ℕ) (at : Place) (start told : Option (List wire.Call)) (job : Seen) (now : board.Seen) (held : List (Held Ticket)) (summary : Summary) (terms : Terms)
    (old new : Option Shelf) (taken taken' : ℕ) → IsCopying file at start told job now held old new taken taken' → job.terms ≡ terms → terms.size ≤ 2 ^ 63 → terms.how.zeroes ≡ true →
    job.is_parting ≡ true → held ≡ [] → now.error ≡ None → IsTally terms.size now summary →
    Told start told (λ calls. PassesOver terms.how (dealt_with at calls) terms.size summary.skipped)
passed file at start told job now held summary terms old new taken taken' copying same room zeroes parting none well tally =
    told_map start told
    (λ calls on.
    let is = copying.job_ in
    let on' = subst (λ (l : List (Held Ticket)). IsUnderWay (ToFile copying.made) copying.way now calls l) none on in
    let one = passes_by job copying.way now calls copying.made is (is.over parting) on' well (ap (λ (t : Terms). t.how.zeroes) same ∙ zeroes) summary
    (subst (λ (t : Terms). t.size ≤ 2 ^ 63) (sym same) room) (subst (λ (t : Terms). IsTally t.size now summary) (sym same) tally) in
    let two = subst (λ (h : How). PassesOver h (dealt_with copying.way.at calls) job.terms.size summary.skipped) is.how one in
    let three = subst (λ (p : Place). PassesOver job.terms.how (dealt_with p calls) job.terms.size summary.skipped) copying.place two in
    subst (λ (t : Terms). PassesOver t.how (dealt_with at calls) t.size summary.skipped) same three)
    copying.on

-- The terms were settled before.
pub passed_by : (options : CopyOptions) (from : Place) (most : ℕ) (start mid told : Option (List wire.Call)) (terms : Terms) (many : ℕ) → StaysFew most start mid told →
    HasTermsTo options from start mid terms → Told start told (λ calls. PassesOver terms.how (dealt_with from calls) terms.size many) → HasPassedBy options from start told many
passed_by options from most start mid told terms many few has passes = record { terms = terms; has = terms_later options from most start start mid told terms few has; passes = passes }

-- So it is of the calls by which a transcript grew.
pub passed_grew : (options : CopyOptions) (from : Place) (many : ℕ) (a b c : Option (List wire.Call)) → c ≡ b → HasPassedBy options from a b many → GrewBy (HasPassedOver options from many) a c
passed_grew options from many a b c same by = subst (λ (t : Option (List wire.Call)). GrewBy (HasPassedOver options from many) a t) (sym same) (λ all part is grown. record {
  source = by.has.source;
  shown = told_part a b by.has.shown all part is grown;
  terms = by.terms;
  settled = by.has.settled;
  passes = told_part a b by.passes all part is grown;
})
