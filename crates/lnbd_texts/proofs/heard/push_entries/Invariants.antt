use Rattle.std.proofs.Common.{◌≡◌, ◌++◌, take}
use Rattle.std.specs.Prelude.{flat_map, string_bytes}
use Rattle.lnbd_texts.specs.Heard.{extent_text}
use Rattle.lnbd_texts.proofs.heard.push_entries.Given as goal

abbrev pub invariant-entries : goal.invariant-entries
invariant-entries l = string_bytes l.text ≡ string_bytes l.fn.text ++ flat_map extent_text (take l.extent-index l.entries)
