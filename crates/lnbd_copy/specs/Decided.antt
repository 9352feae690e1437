-- Which event a copy ends by, where it does not end well: the first one in its calls for which it ends.
use Rattle.std.specs.Prelude.{◌≡◌, Bool, false, List, Option}
use Rattle.lnbd_model.specs.declared.target.Place.{Place}
use Rattle.lnbd_link.specs.Call.{Call}
use Rattle.lnbd_plan.specs.declared.fault.CopyFault.{CopyFault}
use Rattle.lnbd_conduct.specs.Told.{Told}
use Rattle.lnbd_conduct.specs.Decided.{IsDecidedBy, is_of_memory}

-- So it is since some start, unless it is of want of memory, which may come at any time.
pub record IsDecidedTo (start told : Option (List Call)) (extents blank flush : Bool) (from to : Place) (why : CopyFault) : Type 0 where
  pub on : is_of_memory why ≡ false → Told start told (IsDecidedBy extents blank flush from to why)
