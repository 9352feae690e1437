-- What the calls of a copy show that came to its end.
use Rattle.std.specs.Prelude.{List}
use Rattle.lnbd_model.specs.declared.target.Place.{Place}
use Rattle.lnbd_link.specs.Call as wire
use Rattle.lnbd_plan.specs.declared.options.CopyOptions.{CopyOptions}
use Rattle.lnbd_plan.specs.declared.summary.Summary.{Summary}
use Rattle.lnbd_course.specs.AllDone.{WereAllDone}
use Rattle.lnbd_course.specs.Asks.{HasAskedOnce}
use Rattle.lnbd_course.specs.Carried.{HasCarried}
use Rattle.lnbd_course.specs.Counts.{Summarizes}
use Rattle.lnbd_course.specs.Driven.{AreDriven}
use Rattle.lnbd_course.specs.Flushes.{FlushesLast}
use Rattle.lnbd_conduct.specs.Conduct.{Conducts}
use Rattle.lnbd_conduct.specs.Links.{AllConnected}
use Rattle.lnbd_conduct.specs.Connects.{ConnectsAsTold, AreLeftBy}
use Rattle.lnbd_conduct.specs.Settled.{FlushesWanted, SparesFound, SparesTold}
use Rattle.lnbd_conduct.specs.Slices.{WasCopiedWhole}

-- By these calls a copy was made from one place to another, as its options say, of which the summary tells.
pub record IsMade (options : CopyOptions) (from to : Place) (summary : Summary) (calls : List wire.Call) : Type 0 where
  -- each byte that was told of the source was asked to be written, unchanged, and that was done
  pub carried : HasCarried from to options.destination_is_zero calls
  -- nothing was asked twice, and nothing past the source's end; and all of it was done: no request came to an error
  pub asks : HasAskedOnce options.allocated options.destination_is_zero from to calls
  pub done : WereAllDone from to calls
  -- and nothing is left to do: each slice to the source's end is finished, whatever the source told meanwhile
  pub whole : WasCopiedWhole options from to calls
  -- how many bytes were read, written, zeroed and passed over
  pub sums : Summarizes from to summary calls
  -- nothing was read that was told as zero, and nothing written as bytes that was found to be zero
  pub spares : SparesTold options.extents from to calls
  pub dense : SparesFound options from to calls
  -- the destination was flushed last, where that is wanted
  pub flushes : FlushesLast from to summary calls
  pub flushed : FlushesWanted options from to calls
  -- it connected to both places as often as they allow, each connect gave a link, and one handle drove each, and left it well, once all was done and not before
  pub connects : ConnectsAsTold options from to calls
  pub connected : AllConnected calls
  pub driven : AreDriven calls
  pub left : AreLeftBy options from to calls
  -- and all that is so whatever a copy comes to
  pub conducts : Conducts options from to calls
