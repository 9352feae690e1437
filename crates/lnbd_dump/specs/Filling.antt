-- Words on how parts are begun.
use Rattle.std.specs.Prelude.{◌≡◌, ◌⊎◌, ◌<◌, ◌∷◌, ℕ, ◌-◌, min, true, false, List, Option, Some, None, Result, OnOk}
use Rattle.lnbd_model.specs.declared.export.ExportInfo.{ExportInfo}
use Rattle.lnbd_history.specs.Events.{History}
use Rattle.lnbd_dump.specs.declared.asking.Plan.{Plan}
use Rattle.lnbd_dump.specs.declared.reader.Latest.{Latest}
use Rattle.lnbd_dump.specs.declared.reader.Reader.{Reader}
use Rattle.lnbd_reel.specs.declared.reel.Part.{Part}
use Rattle.lnbd_reel.specs.declared.reel.Run.{Run}
use Rattle.lnbd_dump.specs.declared.stop.Stop.{Stop}
use Rattle.lnbd_dump.specs.Asks.{AsksRead}
use Rattle.lnbd_dump.specs.Conduct.{AreWell}
use Rattle.lnbd_dump.specs.Course.{IsUnderWay}
use Rattle.lnbd_reel.specs.Reel.{AreLaid, AreRuns}

-- runs and parts lie one behind the other, whatever was told of them
abbrev pub AreInOrder : (from : ℕ) → List Run → (to : ℕ) → Type 0
AreInOrder from runs to = AreRuns (λ p. Unit {0}) from runs to

abbrev pub FollowEach : (from : ℕ) → List Part → (to : ℕ) → Type 0
FollowEach from parts to = AreLaid (λ p. Unit {0}) (λ cookie offset length. Unit {0}) from parts to

-- how a part of a run is begun: nothing is asked where it was told as zero
abbrev pub IsBegunBy : Plan → Run → (cookie : Option ℕ) → (length : ℕ) → History Reader → History Reader → Type 0
IsBegunBy plan run None length before after = (run.zero ≡ true) × (length ≡ run.end - plan.at) × (after ≡ before)
IsBegunBy plan run (Some cookie) length before after = (run.zero ≡ false) × (length ≡ min plan.piece (run.end - plan.at)) × AsksRead cookie plan.at length before after

pub record BeginsPart (plan : Plan) (run : Run) (part : Part) (before after : History Reader) : Type 0 where
  pub start : part.start ≡ plan.at
  pub begun : IsBegunBy plan run part.cookie part.length before after

-- where the next part begins, the run is left, or it is over
abbrev pub IsLeft : Run → List Run → (at : ℕ) → List Run → Type 0
IsLeft run runs at runs' = ((runs' ≡ runs) × (at < run.end)) ⊎ ((runs ≡ run ∷ runs') × (at ≡ run.end))

-- The dump goes on; and whatever comes, all that was asked was asked well.
abbrev pub Continues : {A : Type 0} → Result A Stop → Plan → List Run → List Part → Latest → History Reader → Plan → List Run → List Part → Latest → History Reader → Type 0
Continues result plan runs reel world before plan' runs' reel' world' after =
    (info : ExportInfo) (from : ℕ) → IsUnderWay info from plan runs reel world before → AreWell info after × OnOk result (IsUnderWay info from plan' runs' reel' world' after)

-- What is to be begun next was told; and whatever comes, all that was asked was asked well.
abbrev pub Learns : {A : Type 0} → Result A Stop → Plan → List Run → Latest → History Reader → Plan → List Run → Latest → History Reader → Type 0
Learns result plan runs world before plan' runs' world' after =
    (info : ExportInfo) (from : ℕ) (reel : List Part) → IsUnderWay info from plan runs reel world before → AreWell info after × OnOk result (IsUnderWay info from plan' runs' reel world' after)
