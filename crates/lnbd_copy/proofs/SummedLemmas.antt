-- The summary of a copy that is finished is that of its calls.
use Rattle.std.proofs.Common.{◌≡◌, ◌≢◌, ◌≤◌, ℕ, Bool, true, List, [], Option, Some, None, Result, Ok, Err, IfOk, OnOk, ap, sym, subst, ◌∙◌, arith}
use Rattle.lnbd_model.specs.declared.target.Place.{Place}
use Rattle.lnbd_link.specs.Call as wire
use Rattle.lnbd_plan.specs.declared.summary.Summary.{Summary}
use Rattle.lnbd_plan.specs.Laws.{told_by}
use Rattle.lnbd_poll.specs.Held.{Held}
use Rattle.lnbd_board.specs.declared.ticket.Ticket.{Ticket}
use Rattle.lnbd_course.specs.Asks.{GrewBy}
use Rattle.lnbd_course.specs.Counts.{Summarizes}
use Rattle.lnbd_course.proofs.Summing.{ended_sums}
use Rattle.lnbd_copy.specs.Copier.{IsDone, IsOnItsWay, Seen}
use Rattle.lnbd_copy.specs.declared.copier.Progress.{Progress}
use Rattle.lnbd_copy.specs.declared.copier.Progress.TheVariants.{Finished}
use Rattle.lnbd_copy.specs.Job as job
use Rattle.lnbd_copy.specs.Summed.{HasSummed, IsTally}
use Rattle.lnbd_copy.specs.Way.{IsLeaving, IsUnderWay}
use Rattle.lnbd_conduct.specs.Told.{Told}
use Rattle.lnbd_copy.proofs.CopierLemmas.{told_as}
use Rattle.lnbd_copy.proofs.EndLemmas.{between_sized, past_copying, planned_once, some_same, stands_alone, told_part}

no_more : (end size most : ℕ) → end ≤ most → most ≡ size → end ≤ size
no_more end size most l e = omega (arith, l, e)

pub summed : (copy : Seen) (start told : Option (List wire.Call)) (summary : Summary) (j : job.Seen) → IsTally copy summary → copy.job ≡ Some j → job.is_parting j.phase ≡ true → copy.held ≡ [] → copy.board.error ≡ None → IsOnItsWay start told copy →
    copy.from ≢ copy.to → Told start told (Summarizes copy.from copy.to summary)
summed copy start told summary j tally there parts none well on two =
    let same : on.job ≡ j = some_same on.job j (sym on.there ∙ there) in
    let parting : job.is_parting on.job.phase ≡ true = ap (λ (x : job.Seen). job.is_parting x.phase) same ∙ parts in
    let over = on.is.over (past_copying on.job.phase parting) in
    let apart : on.way.from ≢ on.way.to = λ e. two (sym on.from ∙ e ∙ on.to) in
    let counted = tally.on on.job on.there in
    told_as start told
    (λ calls is.
    let leaving : IsLeaving on.way copy.board calls [] =
    subst (λ (h : List (Held Ticket)). IsLeaving on.way copy.board calls h) none (subst (λ (p : Bool). IsUnderWay p on.way copy.board calls copy.held) parting is) in
    let s = stands_alone on.way copy.board calls leaving in
    subst (λ (t : Place). Summarizes copy.from t summary calls) on.to
    (subst (λ (f : Place). Summarizes f on.way.to summary calls) on.from
    (subst (λ (x : Summary). Summarizes on.way.from on.way.to x calls) (sym counted.0)
    (ended_sums on.way.from on.way.to on.job.terms.size on.way.how leaving.has on.way.slices on.job.windows.plan.slices copy.board calls on.job.windows.plan.cells (told_by 0 on.is.planned.parts) on.job.windows.plan.end
    (between_sized on.way on.job.terms.size leaving.has copy.board calls on.is.size s) over.rows well (planned_once on.job on.way copy.board on.is) (no_more on.job.windows.plan.end on.job.terms.size on.job.windows.size on.is.planned.within on.is.ends) counted.1 apart))))
    on.on

pub summed_on : (start told : Option (List wire.Call)) (copy : Seen) (did : Progress) (summary : Summary) → did ≡ Finished summary → HasSummed start told copy did → copy.from ≢ copy.to → Told start told (Summarizes copy.from copy.to summary)
summed_on start told copy did summary is turned = subst (λ (p : Progress). HasSummed start told copy p) is turned

-- The part that the transcript grew by is summed, whatever the copy held meanwhile.
pub done_sums : {F : Type 0} (copy new : Seen) (a b c : Option (List wire.Call)) (r : Result Summary F) → new ≡ record copy { start = new.start; held = new.held; board = new.board; job = new.job } → (new.held ≡ [] → c ≡ b) → copy.from ≢ copy.to →
    OnOk r (IsDone a b new) → IfOk r (λ summary. new.from ≢ new.to → Told a b (Summarizes new.from new.to summary)) → IfOk r (λ summary. GrewBy (Summarizes copy.from copy.to summary) a c)
done_sums copy new a b c (Ok summary) kept same two done sums =
    let from : new.from ≡ copy.from = ap (λ (s : Seen). s.from) kept in
    let to : new.to ≡ copy.to = ap (λ (s : Seen). s.to) kept in
    let so = subst (λ (t : Place). Told a b (Summarizes copy.from t summary)) to (subst (λ (f : Place). Told a b (Summarizes f new.to summary)) from (sums (λ e. two (sym from ∙ e ∙ to)))) in
    subst (λ (t : Option (List wire.Call)). GrewBy (Summarizes copy.from copy.to summary) a t) (sym (same done.parted)) (told_part a b so)
done_sums copy new a b c (Err fault) kept same two done sums = tt
