-- What is shown of a copy one by one is so together.
use Rattle.std.proofs.Common.{List, Option, Result, Ok, Err, IfOk, OnOk}
use Rattle.lnbd_model.specs.declared.target.Place.{Place}
use Rattle.lnbd_link.specs.Call as wire
use Rattle.lnbd_plan.specs.declared.options.CopyOptions.{CopyOptions}
use Rattle.lnbd_plan.specs.declared.summary.Summary.{Summary}
use Rattle.lnbd_course.specs.AllDone.{WereAllDone}
use Rattle.lnbd_course.specs.Asks.{GrewBy, HasAskedOnce}
use Rattle.lnbd_course.specs.Carried.{HasCarried}
use Rattle.lnbd_course.specs.Counts.{Summarizes}
use Rattle.lnbd_course.specs.Driven.{AreDriven}
use Rattle.lnbd_course.specs.Flushes.{FlushesLast}
use Rattle.lnbd_conduct.specs.Conduct.{Conducts}
use Rattle.lnbd_conduct.specs.Links.{AllConnected}
use Rattle.lnbd_conduct.specs.Connects.{ConnectsAsTold, AreLeftBy}
use Rattle.lnbd_conduct.specs.Made.{IsMade}
use Rattle.lnbd_conduct.specs.Settled.{FlushesWanted, SparesFound, SparesTold}
use Rattle.lnbd_conduct.specs.Slices.{WasCopiedWhole}

pub is_made : {F : Type 0} (options : CopyOptions) (from to : Place) (a b : Option (List wire.Call)) (r : Result Summary F)
    → OnOk r (GrewBy (HasCarried from to options.destination_is_zero) a b)
    → OnOk r (GrewBy (HasAskedOnce options.allocated options.destination_is_zero from to) a b) → OnOk r (GrewBy (WereAllDone from to) a b) → OnOk r (GrewBy (WasCopiedWhole options from to) a b)
    → IfOk r (λ summary. GrewBy (Summarizes from to summary) a b)
    → OnOk r (GrewBy (SparesTold options.extents from to) a b) → OnOk r (GrewBy (SparesFound options from to) a b)
    → IfOk r (λ summary. GrewBy (FlushesLast from to summary) a b) → OnOk r (GrewBy (FlushesWanted options from to) a b)
    → OnOk r (GrewBy (ConnectsAsTold options from to) a b) → OnOk r (GrewBy AllConnected a b) → OnOk r (GrewBy AreDriven a b) → OnOk r (GrewBy (AreLeftBy options from to) a b)
    → GrewBy (Conducts options from to) a b
    → IfOk r (λ summary. GrewBy (IsMade options from to summary) a b)
is_made options from to a b (Ok summary) carried asks done whole sums spares dense flushes flushed connects connected driven left conducts = λ all part is grown. record {
  carried = carried all part is grown;
  asks = asks all part is grown;
  done = done all part is grown;
  whole = whole all part is grown;
  sums = sums all part is grown;
  spares = spares all part is grown;
  dense = dense all part is grown;
  flushes = flushes all part is grown;
  flushed = flushed all part is grown;
  connects = connects all part is grown;
  connected = connected all part is grown;
  driven = driven all part is grown;
  left = left all part is grown;
  conducts = conducts all part is grown;
}
is_made options from to a b (Err fault) carried asks done whole sums spares dense flushes flushed connects connected driven left conducts = tt
