use Rattle.std.proofs.Common.{◌≡◌, ◌++◌, drop, string_bytes, take}
use Rattle.serde_json.specs.View.{items_of}
use Rattle.serde_json.specs.Written.{compact_text, items_text}
use Rattle.lnbd_extents.specs.Lists.{span}
use Rattle.lnbd_info.specs.Json.{array_of}
use Rattle.lnbd_info.specs.MapJson.{extents_data}
use Rattle.lnbd_info.proofs.map_json.push_extents.Given as goal

-- what is pushed and the items of the rest are the whole text
abbrev pub invariant-extents : goal.invariant-extents
invariant-extents l = record {
  offset : l.offset ≡ span (take l.extent-index l.map);
  text : string_bytes l.text ++ items_text l.later (items_of (extents_data l.allocation l.offset (drop l.extent-index l.map))) ≡ string_bytes l.fn.text ++ compact_text (array_of (extents_data l.allocation 0 l.map));
}
