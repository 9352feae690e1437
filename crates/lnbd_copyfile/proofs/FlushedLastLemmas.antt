-- A copy from a file comes to rest where all its slices are over, before the export is asked to flush, and stays so.
use Rattle.std.proofs.Common.{◌≡◌, ◌≤◌, ◌-◌, ℕ, Bool, false, List, [], ◌++◌, Option, None, ap, sym, subst, ◌∙◌, arith, append_assoc}
use Rattle.std.proofs.lemmas.Bool.{false≢true}
use Rattle.lnbd_link.specs.Call as wire
use Rattle.lnbd_model.specs.declared.target.Place.{Place}
use Rattle.lnbd_plan.specs.declared.summary.Summary.{Summary}
use Rattle.lnbd_plan.specs.Laws.{told_by}
use Rattle.lnbd_poll.specs.Held.{Held}
use Rattle.lnbd_board.specs.declared.ticket.Ticket.{Ticket}
use Rattle.lnbd_board.specs.Files as board
use Rattle.lnbd_board.specs.Requests.{Request}
use Rattle.lnbd_course.specs.Counts.{summary_of}
use Rattle.lnbd_course.specs.Far.{FromFile}
use Rattle.lnbd_course.specs.FarCourse.{FarCourse}
use Rattle.lnbd_course.proofs.Ending.{planned_once}
use Rattle.lnbd_course.proofs.FarEnding.{ended_are_all_done_far, ended_sums_far, ended_unflushed_far}
use Rattle.lnbd_conduct.specs.Told.{Told}
use Rattle.lnbd_copy.specs.Lasting.{Lasts}
use Rattle.lnbd_copy.specs.Way.{Filed}
use Rattle.lnbd_copy.proofs.LastLemmas.{at_once}
use Rattle.lnbd_connections.specs.Way.{IsUnderWay, Way}
use Rattle.lnbd_copyfile.specs.declared.from_file_job.Phase.{Phase}
use Rattle.lnbd_copyfile.specs.declared.from_file_job.Phase.TheVariants.{Copying}
use Rattle.lnbd_copyfile.specs.FlushedLast.{CameToRestFrom, HasRested}
use Rattle.lnbd_copyfile.specs.FromFileJob.{IsJob, IsOver, Seen}
use Rattle.lnbd_copyfile.proofs.ToFileFullLemmas.{none_held}

-- the same counts, the same summary
same_summary : (size : ℕ) (one other : board.Seen) → one.read ≡ other.read → one.written ≡ other.written → one.zeroed ≡ other.zeroed → summary_of size one ≡ summary_of size other
same_summary size one other r w z =
    let sum : ℕ → ℕ → ℕ → Summary = λ a b c. record { read = a; written = b; zeroed = c; skipped = size - b - c } in
    ap (λ (a : ℕ). sum a one.written one.zeroed) r ∙ ap (λ (b : ℕ). sum other.read b one.zeroed) w ∙ ap (λ (c : ℕ). sum other.read other.written c) z

-- All slices are over, and no flush was asked for.
came_to_rest : (job : Seen) (read : List Request) (zero : ℕ → Bool) (way : Way) (now : board.Seen) (calls : List wire.Call) (held : List (Held Ticket)) → IsOver job now → now.flushing ≡ false → IsJob job zero way now →
    IsUnderWay (FromFile read) way now calls held → job.terms.size ≤ 18446744073709551615 → now.error ≡ None →
    CameToRestFrom job.terms.size way.at (summary_of job.terms.size now) calls
came_to_rest job read zero way now calls held over unflushed had on few well =
    let parts = had.planned.parts in
    let b : FarCourse (FromFile read) way.at way.size way.how way.slices now calls [] None way.known =
    subst (λ (o : Option (ℕ × ℕ)). FarCourse (FromFile read) way.at way.size way.how way.slices now calls [] o way.known) had.unasked
    (none_held (FromFile read) way.at way.size way.how way.slices now calls held on.seens way.asked way.known on.at on.stands) in
    record {
      read = read;
      sums = ended_sums_far (FromFile read) way.at way.size job.terms.size way.how way.slices job.windows.plan.slices now calls None way.known job.windows.plan.cells (told_by 0 parts) job.terms.size
          b over.rows well (planned_once job.windows.plan.cells parts job.terms.size (way.slices ++ job.windows.plan.slices) had.planned.are (had.planned.end ∙ over.planned)) (omega arith) few;
      done = ended_are_all_done_far (FromFile read) way.at way.size way.how way.slices now calls way.known b over.rows well (λ e. absurd (false≢true (sym unflushed ∙ e)));
      unflushed = ended_unflushed_far read way.at way.size way.how way.slices now calls None way.known b unflushed;
    }

-- So it is in whatever phase it is next, with the flush asked for or not.
pub rests : (job : Seen) (phase : Phase) (read : List Request) (zero : ℕ → Bool) (way : Way) (now now' : board.Seen) (calls : List wire.Call) (held : List (Held Ticket)) → IsOver job now → now.flushing ≡ false →
    summary_of job.terms.size now' ≡ summary_of job.terms.size now → now'.error ≡ now.error → IsJob job zero way now → IsUnderWay (FromFile read) way now calls held →
    HasRested phase job.terms.size way.at now' calls
rests job phase read zero way now now' calls held over unflushed same error had on = λ past few well.
    at_once calls (subst (λ (s : Summary). CameToRestFrom job.terms.size way.at s calls) (sym same)
    (came_to_rest job read zero way now calls held over unflushed had on few (sym error ∙ well)))

-- While slices are copied nothing is said of that.
pub rests_not : (phase : Phase) (size : ℕ) (to : Place) (now : board.Seen) (calls : List wire.Call) → phase ≡ Copying → HasRested phase size to now calls
rests_not phase size to now calls copying = λ past. absurd (past copying)

-- Calls that come later, and what callbacks are told, leave it at rest.
pub rests_later : (phase : Phase) (size : ℕ) (to : Place) (now now' : board.Seen) (start a b : Option (List wire.Call)) → Filed now now' → Lasts a b →
    Told start a (HasRested phase size to now) → Told start b (HasRested phase size to now')
rests_later phase size to now now' start a b filed lasts t = record {
  since = λ all is.
      let front = lasts.on all is in
      let since = t.since front.before front.is in
      record {
        before = since.before;
        calls = since.calls ++ front.after;
        was = since.was;
        now = front.are ∙ ap (λ (l : List wire.Call). l ++ front.after) since.now ∙ append_assoc since.before since.calls front.after;
        is = λ past few well.
            let rest = since.is past few (filed.error well) in
            record {
              before = rest.before;
              after = rest.after ++ front.after;
              are = ap (λ (l : List wire.Call). l ++ front.after) rest.are ∙ append_assoc rest.before rest.after front.after;
              is = subst (λ (s : Summary). CameToRestFrom size to s rest.before) (sym (same_summary size now' now filed.read filed.written filed.zeroed)) rest.is;
            };
      };
}
