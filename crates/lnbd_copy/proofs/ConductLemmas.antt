-- What is shown of a copy one by one whatever it comes to is so together.
use Rattle.std.proofs.Common.{◌≢◌, List, Option}
use Rattle.lnbd_model.specs.declared.target.Place.{Place}
use Rattle.lnbd_link.specs.Call as wire
use Rattle.lnbd_plan.specs.declared.options.CopyOptions.{CopyOptions}
use Rattle.lnbd_course.specs.Asks.{GrewBy}
use Rattle.lnbd_conduct.specs.Conduct.{Conducts}
use Rattle.lnbd_conduct.specs.Connects.{ConnectsWithin, AreDrivenBy}
use Rattle.lnbd_conduct.specs.Changes.{Behaves}
use Rattle.lnbd_conduct.specs.Fewest.{SlicesGoToFewest}
use Rattle.lnbd_conduct.specs.Waiting.{WantsAll, WroteLittle, PausesAreFull, WaitsWell}
use Rattle.lnbd_usage.specs.Links.{LinksAreKept}
use Rattle.lnbd_conduct.specs.Pauses.{KeepsPace, PausesWithin, WantsOnlyFull, TriedBefore, WantsOnlyEmpty, WantsSome}
use Rattle.lnbd_usage.specs.Pauses.{AtEachPause}

pub conducts : (options : CopyOptions) (from to : Place) (a b : Option (List wire.Call)) → GrewBy LinksAreKept a b → GrewBy (ConnectsWithin options from to) a b
    → (from ≢ to → GrewBy (Behaves options from to) a b) → (from ≢ to → GrewBy (PausesAreFull options from to) a b) → (from ≢ to → GrewBy (SlicesGoToFewest options from to) a b)
    → GrewBy (AtEachPause WaitsWell) a b → GrewBy (AtEachPause WantsOnlyFull) a b → GrewBy (AtEachPause WantsOnlyEmpty) a b → GrewBy (AtEachPause WantsSome) a b → GrewBy (AreDrivenBy options from to) a b → GrewBy (AtEachPause TriedBefore) a b → GrewBy (AtEachPause (WroteLittle options.extents from to)) a b → GrewBy (AtEachPause (WantsAll options.extents from to)) a b → GrewBy PausesWithin a b → GrewBy KeepsPace a b
    → GrewBy (Conducts options from to) a b
conducts options from to a b links within behaves pauses fewest waits writes reads wanted drives tries little wants_all patient paces = λ all part is grown. record {
  links = links all part is grown;
  within = within all part is grown;
  behaves = λ two. behaves two all part is grown;
  pauses = λ two. pauses two all part is grown;
  fewest = λ two. fewest two all part is grown;
  waits = waits all part is grown;
  writes = writes all part is grown;
  reads = reads all part is grown;
  wanted = wanted all part is grown;
  drives = drives all part is grown;
  tries = tries all part is grown;
  little = little all part is grown;
  wants_all = wants_all all part is grown;
  patient = patient all part is grown;
  paces = paces all part is grown;
}
