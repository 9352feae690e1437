-- What a chunk tells, without its head.
use Rattle.std.proofs.Common.{◌≡◌, ℕ, List, ◌||◌, ◌==◌, true, arith}
use Rattle.std.proofs.lemmas.Grind.{common_steps}
use Rattle.lnbd_chunks.specs.Chunk.{Waiting, lies_within}
use Rattle.lnbd_model.specs.declared.export.Context.{Context as MetaContext}
use Rattle.lnbd_outcome.specs.Facts.{is_bad}
use Rattle.lnbd_records.specs.Content.{Hole}
use Rattle.lnbd_structured.specs.Assembly.{Assembled, clashes}
use Rattle.lnbd_structured.proofs.FactLemmas.{hole_bad}

pub hole_fault : (command : Assembled) (offset size : ℕ) (contexts : List MetaContext) →
    ((size == 0) || clashes command offset size) ≡ is_bad command.query contexts command.facts (Hole offset size)
hole_fault command offset size contexts = hole_bad command offset size contexts

pub whole_inside : (waiting : Waiting) → lies_within waiting waiting.offset waiting.length ≡ true
whole_inside waiting = grind (arith, common_steps)
