use Rattle.std.proofs.Common.{◌≡◌, ◌++◌, codes, take}
use Rattle.std.specs.Prelude.{flat_map, string_bytes}
use Rattle.lnbd_texts.specs.Information.{context_text}
use Rattle.lnbd_texts.proofs.information.push_contexts.Given as goal

abbrev pub invariant-contexts : goal.invariant-contexts
invariant-contexts l = string_bytes l.text ≡ string_bytes l.fn.text ++ flat_map (λ context. context_text context ++ codes "\n") (take l.context-index l.contexts)
