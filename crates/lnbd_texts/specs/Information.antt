-- What was told of an export.
use Rattle.std.specs.Prelude.{ℕ, Bool, true, false, List, [], ◌∷◌, ◌++◌, Option, Some, None, codes, decimal}
use Rattle.lnbd_model.specs.declared.export.Blocks.{Blocks}
use Rattle.lnbd_model.specs.declared.export.Context.{Context}
use Rattle.lnbd_model.specs.declared.export.ExportInfo.{ExportInfo}
use Rattle.lnbd_texts.specs.Words.{lines, numbers}

-- minimum, preferred and maximum; `-` for each where they were not told
abbrev pub blocks_text : Option Blocks → List ℕ
blocks_text None = codes "- - -"
blocks_text (Some blocks) = numbers (blocks.minimum ∷ blocks.preferred ∷ blocks.maximum ∷ [])

abbrev pub truth_text : Bool → List ℕ
truth_text true = codes "true"
truth_text false = codes "false"

abbrev pub context_text : Context → List ℕ
context_text context = codes "context " ++ decimal context.id ++ codes " " ++ context.name

-- size, flags, block sizes, and whether replies are structured
abbrev pub told_text : ExportInfo → List ℕ
told_text info =
    codes "info " ++ numbers (info.size ∷ info.flags ∷ []) ++ codes " " ++ blocks_text info.blocks ++ codes " " ++ truth_text info.structured

abbrev pub info_text : Option ExportInfo → List ℕ
info_text None = codes "info none"
info_text (Some info) = told_text info ++ codes "\n" ++ lines context_text info.contexts
