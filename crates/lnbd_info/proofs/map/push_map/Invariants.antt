use Rattle.std.proofs.Common.{◌≡◌, ◌++◌, drop, string_bytes, take}
use Rattle.lnbd_extents.specs.Lists.{span}
use Rattle.lnbd_info.specs.Map.{map_lines, map_text}
use Rattle.lnbd_info.proofs.map.push_map.Given as goal

-- what is pushed and the lines of the rest are the whole text
abbrev pub invariant-extents : goal.invariant-extents
invariant-extents l = record {
  offset : l.offset ≡ span (take l.extent-index l.map);
  text : string_bytes l.text ++ map_lines l.allocation l.offset (drop l.extent-index l.map) ≡ string_bytes l.fn.text ++ map_text l.allocation l.map;
}
