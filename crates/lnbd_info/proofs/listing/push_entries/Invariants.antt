use Rattle.std.proofs.Common.{◌≡◌, ◌++◌, take}
use Rattle.std.specs.Prelude.{flat_map, string_bytes}
use Rattle.lnbd_info.specs.Listing.{entry_text}
use Rattle.lnbd_info.proofs.listing.push_entries.Given as goal

abbrev pub invariant-entries : goal.invariant-entries
invariant-entries l = string_bytes l.text ≡ string_bytes l.fn.text ++ flat_map (entry_text l.contexts) (take l.entry-index l.entries)
