use Rattle.std.proofs.Common.{◌≡◌, ◌++◌, codes, take}
use Rattle.std.specs.Prelude.{flat_map, string_bytes}
use Rattle.lnbd_texts.specs.Options.{listed_text}
use Rattle.lnbd_texts.proofs.options.push_listing.Given as goal

abbrev pub invariant-exports : goal.invariant-exports
invariant-exports l = string_bytes l.text ≡ string_bytes l.fn.text ++ flat_map (λ listed. listed_text listed ++ codes "\n") (take l.listed-index l.listing)
