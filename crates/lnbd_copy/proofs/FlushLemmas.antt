-- A copy that is finished has flushed last.
use Rattle.std.proofs.Common.{◌≡◌, ◌≢◌, ◌-◌, ℕ, Bool, true, List, [], Option, Some, None, Result, Ok, Err, IfOk, OnOk, ap, sym, subst, ◌∙◌}
use Rattle.lnbd_model.specs.declared.target.Place.{Place}
use Rattle.lnbd_link.specs.Call as wire
use Rattle.lnbd_plan.specs.declared.summary.Summary.{Summary}
use Rattle.lnbd_poll.specs.Held.{Held}
use Rattle.lnbd_board.specs.declared.ticket.Ticket.{Ticket}
use Rattle.lnbd_board.specs.Files as board
use Rattle.lnbd_course.specs.Asks.{GrewBy}
use Rattle.lnbd_course.specs.Counts.{summary_of}
use Rattle.lnbd_course.specs.Flushes.{CameToRest, FlushesLast}
use Rattle.lnbd_course.proofs.Flushing.{ended_flushes_once}
use Rattle.lnbd_copy.specs.Copier.{IsDone, IsOnItsWay, Seen}
use Rattle.lnbd_copy.specs.declared.copier.Progress.{Progress}
use Rattle.lnbd_copy.specs.declared.copier.Progress.TheVariants.{Finished}
use Rattle.lnbd_copy.specs.Flushed.{HasFlushed}
use Rattle.lnbd_copy.specs.Job as job
use Rattle.lnbd_copy.specs.Summed.{IsTally}
use Rattle.lnbd_copy.specs.Way.{HasRested, IsLeaving, IsUnderWay}
use Rattle.lnbd_conduct.specs.Told.{Told}
use Rattle.lnbd_copy.proofs.CopierLemmas.{told_as}
use Rattle.lnbd_copy.proofs.EndLemmas.{between_sized, past_copying, some_same, stands_alone, told_part}

-- the same counts, the same summary
same_summary : (size : ℕ) (one other : board.Seen) → one.read ≡ other.read → one.written ≡ other.written → one.zeroed ≡ other.zeroed → summary_of size one ≡ summary_of size other
same_summary size one other r w z =
    let sum : ℕ → ℕ → ℕ → Summary = λ a b c. record { read = a; written = b; zeroed = c; skipped = size - b - c } in
    ap (λ (a : ℕ). sum a one.written one.zeroed) r ∙ ap (λ (b : ℕ). sum other.read b one.zeroed) w ∙ ap (λ (c : ℕ). sum other.read other.written c) z

pub flushed : (copy : Seen) (start told : Option (List wire.Call)) (summary : Summary) (j : job.Seen) → IsTally copy summary → copy.job ≡ Some j → job.is_parting j.phase ≡ true → copy.held ≡ [] → copy.board.error ≡ None → IsOnItsWay start told copy →
    copy.from ≢ copy.to → Told start told (FlushesLast copy.from copy.to summary)
flushed copy start told summary j tally there parts none well on two =
    let same : on.job ≡ j = some_same on.job j (sym on.there ∙ there) in
    let parting : job.is_parting on.job.phase ≡ true = ap (λ (x : job.Seen). job.is_parting x.phase) same ∙ parts in
    let rests = on.is.rests (past_copying on.job.phase parting) in
    let apart : on.way.from ≢ on.way.to = λ e. two (sym on.from ∙ e ∙ on.to) in
    let counted = tally.on on.job on.there in
    let sums : summary ≡ summary_of on.job.terms.size rests.was = counted.0 ∙ same_summary on.job.terms.size copy.board rests.was rests.read rests.written rests.zeroed in
    told_as start told
    (λ calls is.
    let leaving : IsLeaving on.way copy.board calls [] =
    subst (λ (h : List (Held Ticket)). IsLeaving on.way copy.board calls h) none (subst (λ (p : Bool). IsUnderWay p on.way copy.board calls copy.held) parting is) in
    let s = stands_alone on.way copy.board calls leaving in
    let rest : CameToRest on.way.from on.way.to (summary_of on.job.terms.size rests.was) calls =
    subst (λ (o : Option board.Seen). HasRested on.way.from on.way.to on.way.size o calls) rests.is leaving.rest on.job.terms.size on.is.size counted.1 (rests.error well) apart in
    subst (λ (t : Place). FlushesLast copy.from t summary calls) on.to
    (subst (λ (f : Place). FlushesLast f on.way.to summary calls) on.from
    (subst (λ (x : Summary). FlushesLast on.way.from on.way.to x calls) (sym sums)
    (record {
      rested = rest;
      once = ended_flushes_once on.way.from on.way.to on.job.terms.size on.way.how leaving.has on.way.slices copy.board calls (between_sized on.way on.job.terms.size leaving.has copy.board calls on.is.size s) apart;
    }))))
    on.on

pub flushed_on : (start told : Option (List wire.Call)) (copy : Seen) (did : Progress) (summary : Summary) → did ≡ Finished summary → HasFlushed start told copy did → copy.from ≢ copy.to → Told start told (FlushesLast copy.from copy.to summary)
flushed_on start told copy did summary is turned = subst (λ (p : Progress). HasFlushed start told copy p) is turned

-- The part that the transcript grew by flushed last, whatever the copy held meanwhile.
pub done_flushes : {F : Type 0} (copy new : Seen) (a b c : Option (List wire.Call)) (r : Result Summary F) → new ≡ record copy { start = new.start; held = new.held; board = new.board; job = new.job } → (new.held ≡ [] → c ≡ b) → copy.from ≢ copy.to →
    OnOk r (IsDone a b new) → IfOk r (λ summary. new.from ≢ new.to → Told a b (FlushesLast new.from new.to summary)) → IfOk r (λ summary. GrewBy (FlushesLast copy.from copy.to summary) a c)
done_flushes copy new a b c (Ok summary) kept same two done flushes =
    let from : new.from ≡ copy.from = ap (λ (s : Seen). s.from) kept in
    let to : new.to ≡ copy.to = ap (λ (s : Seen). s.to) kept in
    let so = subst (λ (t : Place). Told a b (FlushesLast copy.from t summary)) to (subst (λ (f : Place). Told a b (FlushesLast f new.to summary)) from (flushes (λ e. two (sym from ∙ e ∙ to)))) in
    subst (λ (t : Option (List wire.Call)). GrewBy (FlushesLast copy.from copy.to summary) a t) (sym (same done.parted)) (told_part a b so)
done_flushes copy new a b c (Err fault) kept same two done flushes = tt
