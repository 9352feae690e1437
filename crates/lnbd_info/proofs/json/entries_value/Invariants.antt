use Rattle.std.proofs.Common.{◌≡◌, map, take}
use Rattle.serde_json.specs.View.{view}
use Rattle.lnbd_info.specs.ListingJson.{entry_data}
use Rattle.lnbd_info.proofs.json.entries_value.Given as goal

abbrev pub invariant-entries : goal.invariant-entries
invariant-entries l = map view l.values.items ≡ map (entry_data l.contexts) (take l.entry-index l.entries)
