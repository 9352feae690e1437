use Rattle.std.proofs.Common.{◌≡◌, map, take}
use Rattle.serde_json.specs.View.{view}
use Rattle.lnbd_info.specs.ListingJson.{context_data}
use Rattle.lnbd_info.proofs.json.names_value.Given as goal

abbrev pub invariant-contexts : goal.invariant-contexts
invariant-contexts l = map view l.values.items ≡ map context_data (take l.context-index l.contexts)
