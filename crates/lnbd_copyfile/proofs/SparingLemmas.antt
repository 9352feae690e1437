-- A copy from an export to a file spares the blocks that one answer told as zero whole, whatever it comes to.
use Rattle.std.proofs.Common.{◌≡◌, inl, inr, ◌<◌, ◌≤◌, ℕ, Bool, true, false, List, ◌++◌, Option, Some, None, if◌then◌else◌, nat_lt, refl, sym, subst, ◌∙◌}
use Rattle.lnbd_model.specs.declared.target.Place.{Place}
use Rattle.lnbd_link.specs.Call as wire
use Rattle.lnbd_asked.specs.Transcript.{Dealt, dealt_with}
use Rattle.lnbd_plan.specs.Laws.{told_by}
use Rattle.lnbd_board.specs.Files as board
use Rattle.lnbd_board.specs.Requests.{Request}
use Rattle.lnbd_course.specs.Asks.{GrewBy}
use Rattle.lnbd_course.specs.Far.{ToFile}
use Rattle.lnbd_course.specs.Spared.{IsBehind}
use Rattle.lnbd_course.specs.Spares.{ReadsNoZeros}
use Rattle.lnbd_course.proofs.Ending.{planned_once}
use Rattle.lnbd_course.proofs.Quiet.{dealt_stays}
use Rattle.lnbd_conduct.specs.Terms.{least_block}
use Rattle.lnbd_conduct.specs.Told.{Told}
use Rattle.lnbd_copy.specs.Faults.{GoesIdly}
use Rattle.lnbd_copy.specs.Windows as windows
use Rattle.lnbd_copy.proofs.AlwaysLemmas.{some_longer}
use Rattle.lnbd_copy.proofs.EndLemmas.{told_part}
use Rattle.lnbd_copy.proofs.IdleLemmas.{StaysIdly, told_idly}
use Rattle.lnbd_copy.proofs.SettledLemmas.{told_both}
use Rattle.lnbd_copy.proofs.TurnLemmas.{told_map}
use Rattle.lnbd_connections.specs.Asks.{Asks}
use Rattle.lnbd_connections.specs.Way.{Way}
use Rattle.lnbd_copyfile.specs.Jobs.{Seen}
use Rattle.lnbd_copyfile.specs.Taken.{NothingWasRead, SparesToldSoFar, SparesWhole}
use Rattle.lnbd_copyfile.specs.Taking.{ReadsNothing, SparesBlocks, WasOfBlock}
use Rattle.lnbd_copyfile.specs.ToFileJob.{IsJob}

-- the extents that are waited for are those behind all that is planned
asked_behind : (end at count : ℕ) (b c : Bool) → end ≤ at → IsBehind end (if b then (if c then Some (at, count) else None) else None)
asked_behind end at count true true ahead = ahead
asked_behind end at count true false ahead = tt
asked_behind end at count false c ahead = tt

-- What a job plans spares what is known.
pub job_spares : (made : List Request) (job : Seen) (way : Way) (now : board.Seen) (flushing : Bool) (calls : List wire.Call) (block : ℕ) → IsJob job way now → job.terms.grain ≡ block → 0 < block →
    Asks (ToFile made) way flushing calls → SparesBlocks way.at block calls
job_spares made job way now flushing calls block is same some asks =
    let plan = job.windows.plan in
    asks.spares made refl block (record {
      rest = plan.slices;
      cells = plan.cells;
      told = told_by 0 is.spared.parts;
      end = plan.end;
      once = λ p. planned_once plan.cells is.spared.parts plan.end (way.slices ++ plan.slices) is.spared.are is.spared.end p;
      some = some;
      zeros = λ p whole low. is.spared.planned p (subst (λ (n : ℕ). way.known.whole n p ≡ true) (sym (is.grain ∙ same)) whole) low;
      behind = subst (IsBehind plan.end) (sym is.asked) (asked_behind plan.end job.windows.at _ job.asked (nat_lt job.windows.at (windows.window_end job.windows)) is.heard.planned);
    })

-- It stays so with calls that read and write no link, and make none.
pub spares_stay : (at : Place) (block : ℕ) → StaysIdly (SparesBlocks at block)
spares_stay at block calls more quiet none spares = subst (ReadsNoZeros block) (sym (dealt_stays calls more quiet none at)) spares

-- So it is where nothing was read,
pub none_spares : (at : Place) (block : ℕ) (start told : Option (List wire.Call)) → Told start told (ReadsNothing at) → Told start told (SparesBlocks at block)
none_spares at block start told none = told_map start told (λ calls is p w. is.none p) none

-- and the least block of the source was told, where blocks are as large.
pub spares_whole : (at : Place) (block : ℕ) (start told : Option (List wire.Call)) → Told start told (WasOfBlock at block) → Told start told (SparesBlocks at block) → Told start told (SparesWhole at)
spares_whole at block start told was spares = told_map start told
    (λ calls both. record { info = both.0.info; shown = both.0.shown; spares = subst (λ (n : ℕ). ReadsNoZeros n (dealt_with at calls)) both.0.block_is both.1 })
    (told_both start told was spares)

so_far_stays : (at : Place) → StaysIdly (SparesToldSoFar at)
so_far_stays at calls more quiet none (inl nothing) = inl (subst (λ (d : Dealt). NothingWasRead d) (sym (dealt_stays calls more quiet none at)) nothing)
so_far_stays at calls more quiet none (inr whole) = inr (record {
  info = whole.info;
  shown = some_longer calls more whole.shown;
  spares = subst (ReadsNoZeros (least_block whole.info.blocks)) (sym (dealt_stays calls more quiet none at)) whole.spares;
})

-- So it is of the calls by which a transcript grew,
pub spares_grew : (at : Place) (a b c : Option (List wire.Call)) → c ≡ b → Told a b (SparesWhole at) → GrewBy (SparesWhole at) a c
spares_grew at a b c same told = subst (λ (t : Option (List wire.Call)). GrewBy (SparesWhole at) a t) (sym same) (told_part a b told)

-- whatever it came to.
pub spared_grew : (at : Place) (a b c : Option (List wire.Call)) → GoesIdly b c → Told a b (SparesToldSoFar at) → GrewBy (SparesToldSoFar at) a c
spared_grew at a b c idly told = told_part a c (told_idly (SparesToldSoFar at) a b c (so_far_stays at) idly told)
