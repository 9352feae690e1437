-- What the options of opt mode came to.
use Rattle.std.specs.Prelude.{ℕ, List, [], ◌∷◌, ◌++◌, Option, Some, None, codes}
use Rattle.lnbd_history.specs.declared.kinds.OptAnswer.{OptAnswer}
use Rattle.lnbd_history.specs.declared.kinds.OptAnswer.TheVariants as answer
use Rattle.lnbd_model.specs.declared.export.Listed.{Listed}
use Rattle.lnbd_texts.specs.Quoted.{quoted_text}
use Rattle.lnbd_texts.specs.Words.{lines, numbers}

-- the answer to the option that was asked last
abbrev pub answer_text : Option OptAnswer → List ℕ
answer_text None = codes "none"
answer_text (Some answer.Ok) = codes "ok"
answer_text (Some (answer.Refused option code)) = codes "refused " ++ numbers (option ∷ code ∷ [])

abbrev pub listed_text : Listed → List ℕ
listed_text listed = codes "export " ++ (quoted_text listed.name ++ (codes " " ++ quoted_text listed.description))

-- a line for each export that the server listed
abbrev pub listing_text : List Listed → List ℕ
listing_text listing = lines listed_text listing
