-- Where a copy from a file to an export has nothing to do and nothing to write, as much is under way by its calls as may be.
use Rattle.std.proofs.Common.{◌≡◌, ◌+◌, ◌-◌, ◌≤◌, inl, inr, ℕ, Bool, List, [], ◌++◌, length, min, None, refl, ap, subst, ◌∙◌, arith}
use Rattle.std.proofs.lemmas.Bool.{cases_lt, false≢true}
use Rattle.lnbd_extents.specs.Positions.{holds}
use Rattle.lnbd_link.specs.Call as wire
use Rattle.lnbd_asked.specs.Transcript.{dealt_with}
use Rattle.lnbd_poll.specs.Held.{Held, wants_now}
use Rattle.lnbd_plan.specs.declared.cells.Cells.{Cells}
use Rattle.lnbd_plan.specs.declared.grid.Slice.{Slice}
use Rattle.lnbd_plan.specs.Laws.{windows_slices}
use Rattle.lnbd_plan.specs.Plans.{window_slices}
use Rattle.lnbd_board.specs.declared.how.How.{How}
use Rattle.lnbd_board.specs.declared.ticket.Ticket.{Ticket}
use Rattle.lnbd_board.specs.Files as board
use Rattle.lnbd_board.specs.Requests.{Request}
use Rattle.lnbd_onesided.specs.Dealt.{dealt_by}
use Rattle.lnbd_tracks.specs.Laws.{moves_bytes}
use Rattle.lnbd_tracks.specs.Unanswered.{AreUnanswered}
use Rattle.lnbd_course.specs.Far.{FromFile}
use Rattle.lnbd_course.specs.UnderWay.{AllHeld}
use Rattle.lnbd_course.proofs.FarShowing.{quiet_counts_far}
use Rattle.lnbd_conduct.specs.Slices.{AreFullWindows, cells_of}
use Rattle.lnbd_conduct.specs.Waiting.{NoneForWriting}
use Rattle.lnbd_copy.proofs.FailLemmas.{all_stand}
use Rattle.lnbd_copy.proofs.UnansweredLemmas.{none_writes}
use Rattle.lnbd_copy.proofs.WindowLemmas.{window_planned}
use Rattle.lnbd_copy.specs.Windows as windows
use Rattle.lnbd_connections.specs.Way.{IsUnderWay, Way}
use Rattle.lnbd_copyfile.specs.FromFileFull.{AreSent, IsFullFrom}
use Rattle.lnbd_copyfile.specs.FromFileJob.{IsJob, IsOver, Seen}
use Rattle.lnbd_copyfile.specs.Holes.{IsReadWhole}
use Rattle.lnbd_copyfile.specs.Sent.{HasNothingToSend}
use Rattle.lnbd_copyfile.proofs.CopiedLemmas.{no_skip}
use Rattle.lnbd_copyfile.proofs.FarFullFromLemmas.{all_done, ended_sent, none_moves_from, quiet_sent}

-- all that is left is planned as bytes
abbrev with_rest : windows.Seen → windows.Seen
with_rest w = record w {
  plan = record w.plan { end = w.plan.end + (w.size - w.plan.end); slices = w.plan.slices ++ window_slices w.plan.cells (holds []) w.plan.end (w.size - w.plan.end) };
}

rest_planned : (w : windows.Seen) (zero : ℕ → Bool) (slices : List Slice) → windows.IsPlanned w zero slices → windows.IsPlanned (with_rest w) zero slices
rest_planned w zero slices planned =
    let within = planned.within in
    window_planned w (with_rest w) zero slices w.plan.end (w.size - w.plan.end) [] planned refl refl (omega (arith, within)) (λ p none. absurd (false≢true none)) planned.under_way refl
    (inr (omega (arith, within)))

module _ (job : Seen) (zero : ℕ → Bool) (way : Way) (now : board.Seen) (calls : List wire.Call) (held : List (Held Ticket)) (read : List Request) (is : IsJob job zero way now)
    (on : IsUnderWay (FromFile read) way now calls held) (well : now.error ≡ None) where
  sent_by : (n : ℕ) → AreSent way.how (dealt_by job.terms.size read) (dealt_with way.at calls) way.slices n →
      AreSent job.terms.how (dealt_by job.terms.size read) (dealt_with way.at calls) way.slices n
  sent_by n sent = subst (λ (h : How). AreSent h (dealt_by job.terms.size read) (dealt_with way.at calls) way.slices n) is.how sent

  -- With all of the file planned so.
  module _ (w : windows.Seen) (planned : windows.IsPlanned w zero way.slices) (cells : w.plan.cells ≡ cells_of job.terms) (ends : w.size ≡ job.terms.size) (whole : w.plan.end ≡ job.terms.size) where
    planned_so : IsReadWhole job.terms.how (cells_of job.terms) planned.parts zero job.terms.size (way.slices ++ w.plan.slices)
    planned_so = record {
      are = subst (λ (c : Cells). way.slices ++ w.plan.slices ≡ windows_slices c 0 planned.parts) cells planned.are;
      whole = planned.end ∙ whole;
      told = planned.told;
      left_out = λ none. no_skip job.terms.how.skip none;
    }

    whole_so : AreFullWindows job.terms.size 0 planned.parts
    whole_so = subst (λ (n : ℕ). AreFullWindows n 0 planned.parts) ends planned.whole

    full_so : (n : ℕ) → AreSent way.how (dealt_by job.terms.size read) (dealt_with way.at calls) way.slices n → n ≡ min job.terms.limit (n + length w.plan.slices) →
        AreUnanswered moves_bytes (dealt_with way.at calls) n → IsFullFrom job.terms way.at calls
    full_so n sent begins requests = record {
      begun = way.slices;
      left = w.plan.slices;
      windows = planned.parts;
      zero = zero;
      planned = planned_so;
      whole = whole_so;
      read = read;
      done = all_done job.terms.size read way.at way.size way.how way.slices now calls on.seens way.asked way.known on.stands well (all_stand held on.seens on.at);
      unfinished = n;
      are = sent_by n sent;
      begins = begins;
      requests = subst (λ (m : ℕ). AreUnanswered moves_bytes (dealt_with way.at calls) m) begins requests;
    }

  -- Once all slices are over nothing is under way, and nothing is left.
  pub full_over_from : IsOver job now → IsFullFrom job.terms way.at calls
  full_over_from over =
      let none : length job.windows.plan.slices ≡ 0 = ap (λ (l : List Slice). length l) over.handed in
      full_so job.windows is.planned is.cells is.ends over.planned 0
      (ended_sent job.terms.size read way.at way.size way.how way.slices now calls on.seens way.asked way.known on.stands well (all_stand held on.seens on.at) over.rows)
      (omega (arith, none))
      (none_moves_from job.terms.size read way.at way.size way.how way.slices now calls on.seens way.asked way.known on.stands well (all_stand held on.seens on.at) over.rows)

  -- While slices are copied: as many are begun as may be, or all of the file is planned.
  module _ (nothing : HasNothingToSend job now) (most : length now.rows ≤ job.terms.limit) (quiet : NoneForWriting (wants_now held)) (all : AllHeld calls on.seens) where
    copying_so : (w : windows.Seen) → windows.IsPlanned w zero way.slices → w.plan.cells ≡ cells_of job.terms → w.size ≡ job.terms.size → w.plan.end ≡ job.terms.size →
        length now.rows ≡ min job.terms.limit (length now.rows + length w.plan.slices) → IsFullFrom job.terms way.at calls
    copying_so w planned cells ends whole begins =
        let unwritten = none_writes held on.seens on.at quiet in
        full_so w planned cells ends whole (length now.rows)
        (quiet_sent job.terms.size read way.at way.size way.how way.slices now calls on.seens way.asked way.known on.stands well (all_stand held on.seens on.at) unwritten all nothing.requests)
        begins
        (subst (λ (n : ℕ). AreUnanswered moves_bytes (dealt_with way.at calls) n) nothing.requests
        (quiet_counts_far (FromFile read) way.at way.size way.how way.slices now calls on.seens way.asked way.known on.stands well (all_stand held on.seens on.at) unwritten all))

    pub full_copying_from : IsFullFrom job.terms way.at calls
    full_copying_from = elim (cases_lt (length now.rows) job.terms.limit) [
      | inl less ↦
          let none = nothing.begun less in
          let planned = nothing.planned less in
          let within = is.planned.within in
          let ends = is.ends in
          copying_so job.windows is.planned is.cells ends (omega (arith, planned, within, ends)) (omega (arith, none, less))
      | inr full ↦
          let within = is.planned.within in
          let ends = is.ends in
          copying_so (with_rest job.windows) (rest_planned job.windows zero way.slices is.planned) is.cells ends (omega (arith, within, ends)) (omega (arith, full, most))
    ]
