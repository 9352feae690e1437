use Rattle.std.proofs.Common.{◌≡◌, ◌++◌, take}
use Rattle.std.specs.Prelude.{flat_map, string_bytes}
use Rattle.lnbd_info.specs.Listing.{answer_line}
use Rattle.lnbd_info.proofs.listing.push_answers.Given as goal

abbrev pub invariant-questions : goal.invariant-questions
invariant-questions l = string_bytes l.text ≡ string_bytes l.fn.text ++ flat_map (answer_line l.info) (take l.question-index l.questions)
