use Rattle.std.proofs.Common.{◌≡◌, ◌++◌, drop, map, string_bytes}
use Rattle.serde_json.specs.View.{items_of}
use Rattle.serde_json.specs.Written.{compact_text, items_text}
use Rattle.lnbd_info.specs.Json.{array_of}
use Rattle.lnbd_info.specs.MapJson.{total_data}
use Rattle.lnbd_info.proofs.map_json.push_totals_json.Given as goal

-- what is pushed and the items of the rest are the whole text
abbrev pub invariant-totals : goal.invariant-totals
invariant-totals l = string_bytes l.text ++ items_text l.later (items_of (map (total_data l.allocation) (drop l.total-index l.totals))) ≡ string_bytes l.fn.text ++ compact_text (array_of (map (total_data l.allocation) l.totals))
