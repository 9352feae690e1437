-- Data that were held apart and are all there.
use Rattle.std.specs.Prelude.{◌≡◌, ℕ, false, List, length, Option, Some, None}
use Rattle.lnbd_records.specs.Content.{Data}
use Rattle.lnbd_callbacks.specs.Calls.{Call}
use Rattle.lnbd_chunks.specs.Chunk.{Waiting}
use Rattle.lnbd_commands.specs.Commands.{Commands}
use Rattle.lnbd_commands.specs.Takes.{TakesUnder}
use Rattle.lnbd_structured.specs.Told.{MayCome}
use Rattle.lnbd_history.specs.Entries.{Framed}
use Rattle.lnbd_machine.specs.Machine.{file_in}
use Rattle.lnbd_model.specs.declared.export.Context.{Context as MetaContext}
use Rattle.lnbd_arrivals.specs.Frames.{is_chunk, is_last}
use Rattle.lnbd_arrivals.specs.declared.announced.Announced.{Announced}

-- The reply that was announced may be filed with these data: a simple reply brings all that its command asked for.
pub record MayFileTo (command : Waiting) (announced : Announced) (content : List ℕ) : Type 0 where
  pub may_come : MayCome command (Data announced.offset content) (is_last announced.carrier)
  pub all : is_chunk announced.carrier ≡ false → (announced.offset ≡ command.offset) × (length content ≡ command.length)

abbrev pub MayFile : Option Waiting → Announced → List ℕ → Type 0
MayFile None announced content = ⊥
MayFile (Some command) announced content = MayFileTo command announced content

-- its command is told these data, where these meta contexts are agreed
abbrev pub TakesData : {K World : Type 0} → List MetaContext → (World → List (Call K) → World → Type 0) → Announced → List ℕ → Commands K → Commands K → World → World → Type 0
TakesData contexts steps announced content old new before after = TakesUnder contexts steps (file_in announced.cookie (Framed (Data announced.offset content) (is_last announced.carrier))) old new before after
