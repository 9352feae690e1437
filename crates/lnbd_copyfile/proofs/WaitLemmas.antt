-- What has nothing to do awaits something.
use Rattle.std.proofs.Common.{◌≡◌, ◌<◌, inl, inr, Bool, true, false, List, [], ◌∷◌, length, refl, arith}
use Rattle.std.proofs.lemmas.Bool.{cases_lt}
use Rattle.lnbd_board.specs.Files as board
use Rattle.lnbd_copy.specs.UnderWay.{AreAwaited}
use Rattle.lnbd_connections.specs.Way.{Way}
use Rattle.lnbd_copyfile.specs.Jobs.{Seen}
use Rattle.lnbd_copyfile.specs.ToFileJob.{HasNothingToDo, IsJob, NothingHangs}

no_items : {A : Type 0} (list : List A) → length list ≡ 0 → list ≡ []
no_items [] e = refl
no_items (x ∷ xs) e = absurd (omega (arith, e))

-- where no slice is begun
extents_awaited : (job : Seen) (way : Way) (now : board.Seen) → IsJob job way now → HasNothingToDo job now → 0 < job.terms.limit → length now.rows ≡ 0 → (b : Bool) → job.asked ≡ b
    → AreAwaited job.asked now
extents_awaited job way now had nothing some none true is = record { awaited = is; untold = nothing.untold is }
extents_awaited job way now had nothing some none false is =
    let slices : length job.windows.plan.slices ≡ 0 = nothing.begun (omega (arith, none, some)) in
    let within = had.planned.within in
    let ends = had.ends in
    elim (cases_lt job.windows.plan.end job.windows.size) [
      | inl less ↦ absurd (nothing.asked (record { unasked = is; wanted = nothing.wanted less; few = inr (omega (arith, none, slices, some)) }))
      | inr least ↦ absurd (nothing.left (record {
        planned = omega (arith, within, least, ends);
        handed = no_items job.windows.plan.slices slices;
        heard = is;
        rows = no_items now.rows none;
      }))
    ]

pub nothing_hangs : NothingHangs
nothing_hangs job way now had nothing some = elim (cases_lt 0 (length now.rows)) [
  | inl more ↦ inl (let all = nothing.requests in omega (arith, more, all))
  | inr none ↦ inr (extents_awaited job way now had nothing some (omega (arith, none)) job.asked refl)
]
