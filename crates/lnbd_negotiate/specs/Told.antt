-- What the code's values stand for.
use Rattle.std.specs.Prelude.{ℕ, Bool, Option, Some, None, if◌then◌else◌}
use Rattle.lnbd_model.specs.declared.export.ExportInfo.{ExportInfo}
use Rattle.lnbd_records.specs.Told.{Told as Meant}
use Rattle.lnbd_records.specs.Told as meant
use Rattle.lnbd_history.specs.Agreement.{End, Acknowledged, Failed, Export}
use Rattle.lnbd_history.specs.Talk.{Pending as PendingTold}
use Rattle.lnbd_negotiate.specs.declared.told.Told.{Told}
use Rattle.lnbd_negotiate.specs.declared.told.Told.TheVariants as told
use Rattle.lnbd_negotiate.specs.declared.pending.Pending.{Pending}

abbrev pub told_of : Told → Meant
told_of told.Ack = meant.Ack
told_of (told.Error code) = meant.Error code
told_of (told.Server listed) = meant.Server listed
told_of (told.Export size) = meant.Export size
told_of (told.Name name) = meant.Name name
told_of (told.Description text) = meant.Description text
told_of (told.Blocks blocks) = meant.Blocks blocks
told_of told.Passed = meant.Passed
told_of (told.Context context) = meant.Context context

-- an end by its code: none is ACK
abbrev pub end : Option ℕ → End
end None = Acknowledged
end (Some code) = Failed code

abbrev pub pending_of : Pending → PendingTold
pending_of p = record { count = p.count; size = p.size; blocks = p.blocks; name = p.name; description = p.description; servers = p.servers; contexts = p.contexts }

-- what was told of the export, if anything was
abbrev pub export_told : Bool → ExportInfo → Option Export
export_told has info =
    if has then Some (record { size = info.size; flags = info.flags; blocks = info.blocks; name = info.name; description = info.description })
    else None
