-- What a call on commands does to the table machine.
use Rattle.std.specs.Prelude.{◌≡◌, ℕ, Bool, List, ◌++◌, length, true, Option, Some, None}
use Rattle.lnbd_model.specs.declared.export.Context.{Context as MetaContext}
use Rattle.lnbd_records.specs.Content.{Content}
use Rattle.lnbd_structured.specs.Told.{MayCome}
use Rattle.lnbd_callbacks.specs.Calls.{Call}
use Rattle.lnbd_history.specs.Events.{Answer}
use Rattle.lnbd_chunks.specs.Chunk.{Waiting}
use Rattle.lnbd_chunks.specs.Reply.{content_size, simple_content}
use Rattle.lnbd_history.specs.Entries.{Framed}
use Rattle.lnbd_machine.specs.Machine.{State, Doing, file_in}
use Rattle.lnbd_commands.specs.Commands.{Commands, with_commands}

-- With some answers of callbacks, whatever others come later, and with some calls on them that lead from one world to the
-- other, this part of an event takes the machine from the old commands to the new ones, and changes nothing else of its state.
pub record Takes {K World : Type 0} (steps : World → List (Call K) → World → Type 0) (part : Doing K → Doing K) (old new : Commands K) (before after : World) : Type 0 where
  pub answers : List Answer
  pub calls : List (Call K)
  pub world : steps before calls after
  pub does : (state : State K) (more : List Answer) (made : List (Call K)) →
      part (record { state = with_commands old state; answers = answers ++ more; calls = made })
      ≡ record { state = with_commands new state; answers = more; calls = made ++ calls }

-- a simple reply to a command in flight has as many bytes as its head says
abbrev pub IsReply : Option Waiting → (error : ℕ) → List ℕ → Type 0
IsReply None error bytes = ⊥
IsReply (Some known) error bytes = length bytes ≡ content_size known error

-- the command of a cookie, of which this is known, is filed a simple reply with this error and these bytes
abbrev pub TakesReply : {K World : Type 0} → (World → List (Call K) → World → Type 0) → ℕ → Option Waiting → (error : ℕ) → List ℕ → Commands K → Commands K → World → World → Type 0
TakesReply steps cookie None error bytes old new before after = ⊥
TakesReply steps cookie (Some known) error bytes old new before after = Takes steps (file_in cookie (Framed (simple_content known error bytes) true)) old new before after

-- The same where these meta contexts are agreed.
pub record TakesUnder {K World : Type 0} (contexts : List MetaContext) (steps : World → List (Call K) → World → Type 0) (part : Doing K → Doing K) (old new : Commands K) (before after : World) : Type 0 where
  pub answers : List Answer
  pub calls : List (Call K)
  pub world : steps before calls after
  pub does : (state : State K) → state.talk.contexts ≡ contexts → (more : List Answer) (made : List (Call K)) →
      part (record { state = with_commands old state; answers = answers ++ more; calls = made })
      ≡ record { state = with_commands new state; answers = more; calls = made ++ calls }

abbrev pub IsChunk : Option Waiting → Content → (last : Bool) → Type 0
IsChunk None content last = ⊥
IsChunk (Some known) content last = MayCome known content last
