-- What the calls of a copy show whatever it comes to.
use Rattle.std.specs.Prelude.{◌≢◌, List}
use Rattle.lnbd_model.specs.declared.target.Place.{Place}
use Rattle.lnbd_link.specs.Call as wire
use Rattle.lnbd_plan.specs.declared.options.CopyOptions.{CopyOptions}
use Rattle.lnbd_conduct.specs.Connects.{ConnectsWithin, AreDrivenBy}
use Rattle.lnbd_conduct.specs.Changes.{Behaves}
use Rattle.lnbd_conduct.specs.Fewest.{SlicesGoToFewest}
use Rattle.lnbd_conduct.specs.Waiting.{WantsAll, WroteLittle, PausesAreFull, WaitsWell}
use Rattle.lnbd_usage.specs.Links.{LinksAreKept}
use Rattle.lnbd_conduct.specs.Pauses.{KeepsPace, PausesWithin, WantsOnlyFull, TriedBefore, WantsOnlyEmpty, WantsSome}
use Rattle.lnbd_usage.specs.Pauses.{AtEachPause}

-- These calls conduct a copy from one place to another as its options say, be it made or broken off.
pub record Conducts (options : CopyOptions) (from to : Place) (calls : List wire.Call) : Type 0 where
  -- each link was used while it was open, and shut in the end; and it connected to both places alone, no more often than they allow
  pub links : LinksAreKept calls
  pub within : ConnectsWithin options from to calls
  -- between two places it asked nothing twice, and read, wrote and flushed nothing that it may not
  pub behaves : from ≢ to → Behaves options from to calls
  -- and at each pause as much was under way as may be
  pub pauses : from ≢ to → PausesAreFull options from to calls
  -- and slices went to the connections with the fewest
  pub fewest : from ≢ to → SlicesGoToFewest options from to calls
  -- it waited only for what handles wait for, and to write only where a write took nothing
  pub waits : AtEachPause WaitsWell calls
  pub writes : AtEachPause WantsOnlyFull calls
  -- and to read only where a read gave nothing, and nothing happened since
  pub reads : AtEachPause WantsOnlyEmpty calls
  -- and no pause waited for nothing
  pub wanted : AtEachPause WantsSome calls
  -- each link that it made was driven as a copy does, and no other was read or written
  pub drives : AreDrivenBy options from to calls
  -- and whatever a pause wanted was tried before the next
  pub tries : AtEachPause TriedBefore calls
  -- and by each pause little was written on the links that it wants
  pub little : AtEachPause (WroteLittle options.extents from to) calls
  -- and no pause left out a link that was waited for
  pub wants_all : AtEachPause (WantsAll options.extents from to) calls
  -- and it paused no more often than is borne
  pub patient : PausesWithin calls
  -- nor too late: while it made none, and nothing happened on any link, none was tried in vain more than twice
  pub paces : KeepsPace calls
