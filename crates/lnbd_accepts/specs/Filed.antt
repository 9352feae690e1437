-- What a server may lawfully reply to a command is filed under it as soon as its last byte has arrived, and what follows is taken behind it.
use Rattle.std.specs.Prelude.{◌≡◌, ℕ, Bool, List, [], ◌∷◌, Option, ◌⊎◌}
use Rattle.std.proofs.Common.{inl, inr}
use Rattle.lnbd_records.specs.Numbers.{IsBytes}
use Rattle.lnbd_stream.specs.Stream.{fresh, feed}
use Rattle.lnbd_chunks.specs.Chunk.{Waiting}
use Rattle.lnbd_chunks.specs.Whole.{Said}
use Rattle.lnbd_history.specs.declared.kinds.Phase.TheVariants.{Ready}
use Rattle.lnbd_history.specs.declared.kinds.Stage.TheVariants.{Open, Disconnecting}
use Rattle.lnbd_history.specs.Agreement.{phase, steps, structured, extended}
use Rattle.lnbd_history.specs.Entries.{Framed}
use Rattle.lnbd_history.specs.Events.{Answer, History, Arrived}
use Rattle.lnbd_history.specs.History.{reading, rules, waited, file, with_answers}
use Rattle.lnbd_accepts.specs.Replies.{BeginsWithLawfulSimple, BeginsWithLawfulChunk, BeginsWithLawfulReply}

-- what follows the reply
abbrev pub behind : {structured extended : Bool} {command : Waiting} {said : Said} {bytes : List ℕ} →
    BeginsWithLawfulSimple structured extended command said bytes ⊎ BeginsWithLawfulChunk structured extended command said bytes → List ℕ
behind (inl simple) = simple.rest
behind (inr lawful) = lawful.chunk.rest

abbrev pub rest_of : {structured extended : Bool} {waited : ℕ → Option Waiting} {said : Said} {bytes : List ℕ} → BeginsWithLawfulReply structured extended waited said bytes → List ℕ
rest_of reply = behind reply.lawful

module _ {K : Type 0} where
  -- The two sides speak of commands, and all that came was whole records.
  pub record AwaitsReplies (history : History K) : Type 0 where
    pub speaks : ((reading history).known.stage ≡ Open) ⊎ ((reading history).known.stage ≡ Disconnecting)
    pub ready : phase (reading history).known.turns ≡ Ready
    pub whole : (reading history).pending ≡ []

  -- The bytes begin with a reply that may come, by what was agreed, to a command that was wholly written and isn't ended.
  abbrev pub BeginsWithReplyTo : History K → Said → List ℕ → Type 0
  BeginsWithReplyTo history said bytes =
      let known = (reading history).known in
      BeginsWithLawfulReply (structured (steps known.turns)) (extended (steps known.turns)) (waited history known) said bytes

-- The connection goes on with the reply filed, and with what follows it.
abbrev pub LawfulRepliesAreFiled : Type 0 → Type 0
LawfulRepliesAreFiled K = (before : History K) (said : Said) (bytes : List ℕ) (answers : List Answer) → AwaitsReplies before → IsBytes bytes → (reply : BeginsWithReplyTo before said bytes) →
    reading (Arrived bytes answers ∷ before)
    ≡ feed (rules before) (fresh (file before said.cookie (Framed said.content said.last) (with_answers answers (reading before).known))) (rest_of reply)
