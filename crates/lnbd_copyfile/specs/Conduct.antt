-- What the calls of a copy show of which one side is a file, whatever it comes to.
use Rattle.std.specs.Prelude.{List}
use Rattle.lnbd_model.specs.declared.target.Place.{Place}
use Rattle.lnbd_link.specs.Call as wire
use Rattle.lnbd_plan.specs.declared.options.CopyOptions.{CopyOptions}
use Rattle.lnbd_conduct.specs.Pauses.{PausesWithin, WantsOnlyEmpty, WantsOnlyFull, WantsSome}
use Rattle.lnbd_usage.specs.Links.{LinksAreKept}
use Rattle.lnbd_usage.specs.Pauses.{AtEachPause}
use Rattle.lnbd_copyfile.specs.Connects.{ConnectsWithin}

-- These calls conduct a copy between a file and the export at this place as its options say, be it made or broken off.
pub record ConductsFar (options : CopyOptions) (at : Place) (calls : List wire.Call) : Type 0 where
  -- each link was used while it was open, and shut in the end; and it connected to this place alone, no more often than the options and the export allow
  pub links : LinksAreKept calls
  pub within : ConnectsWithin options at calls
  -- it waited to write only where a write took nothing, and to read only where a read gave nothing, and nothing happened since
  pub writes : AtEachPause WantsOnlyFull calls
  pub reads : AtEachPause WantsOnlyEmpty calls
  -- and no pause waited for nothing
  pub wanted : AtEachPause WantsSome calls
  -- and it paused no more often than is borne
  pub patient : PausesWithin calls
