use Rattle.std.proofs.Common.{◌≡◌, ◌++◌, take}
use Rattle.std.specs.Prelude.{flat_map, string_bytes}
use Rattle.lnbd_info.specs.Listing.{context_line}
use Rattle.lnbd_info.proofs.listing.push_names.Given as goal

abbrev pub invariant-contexts : goal.invariant-contexts
invariant-contexts l = string_bytes l.text ≡ string_bytes l.fn.text ++ flat_map context_line (take l.context-index l.contexts)
