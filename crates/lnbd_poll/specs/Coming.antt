-- The data that are still to come of a reply to READ, by what the history knows and the bytes that wait.
use Rattle.std.specs.Prelude.{ℕ, ◌-◌, ◌&&◌, Bool, false, List, [], length, replicate, take, Option, Some, None, if◌then◌else◌}
use Rattle.lnbd_records.specs.Content.{Data}
use Rattle.lnbd_outcome.specs.Faults.{has_fault}
use Rattle.lnbd_history.specs.Agreement.{extended, phase, steps, structured}
use Rattle.lnbd_history.specs.Commands.{Request, query_of}
use Rattle.lnbd_history.specs.Entries.{Filing, own, pieces}
use Rattle.lnbd_history.specs.Events.{History}
use Rattle.lnbd_history.specs.History.{Known, reading, request, waited}
use Rattle.lnbd_arrivals.specs.Frames.{front_size, is_chunk, replies_by}
use Rattle.lnbd_arrivals.specs.declared.announced.Announced.{Announced}
use Rattle.lnbd_arrivals.specs.declared.replies.Replies.{Replies}
use Rattle.lnbd_handle.specs.Announcing.{announced_where}
use Rattle.lnbd_handle.specs.Placing.{left_of}

module _ {K : Type 0} where
  -- how the server replies to commands
  abbrev pub replies_known : Known K → Replies
  replies_known known = replies_by (structured (steps known.turns)) (extended (steps known.turns))

  -- The reply to READ that these bytes begin, where its front has come: the front says to which command it is, where in the export its data lie, and how many they are.
  abbrev pub reply_begun : History K → Known K → List ℕ → Option Announced
  reply_begun history known bytes = announced_where known.stage (phase known.turns) (replies_known known) (waited history known) (take (front_size (replies_known known)) bytes)

  -- A chunk of so many data from this place of the export on is a content fault of a command for which these came. No fault of data hangs on what they are, so zeros stand for them, nor on meta contexts.
  abbrev pub has_fault_of : Option (Request K) → List (Filing K) → (offset size : ℕ) → Bool
  has_fault_of None own offset size = false
  has_fault_of (Some asked) own offset size = has_fault (query_of asked) (pieces own) [] (Data offset (replicate size 0))

  -- the reply is a chunk whose data are a content fault of its command
  abbrev pub is_at_fault : History K → Known K → Announced → Bool
  is_at_fault history known reply = is_chunk reply.carrier && has_fault_of (request history reply.cookie) (own reply.cookie known.entries) reply.offset reply.size

  abbrev pub if_lawful : History K → Known K → Option Announced → Option Announced
  if_lawful history known None = None
  if_lawful history known (Some reply) = if is_at_fault history known reply then None else Some reply

  -- How many data are still to come of the reply to READ whose front has come, a simple one or a chunk without a content fault: as many as its front says, less those that wait
  -- behind the front. 0 where the bytes that wait begin with no such front.
  abbrev pub data_to_come_where : History K → Known K → List ℕ → ℕ
  data_to_come_where history known bytes = left_of (if_lawful history known (reply_begun history known bytes)) (length bytes - front_size (replies_known known))

  unfoldable pub data_to_come_after : History K → ℕ
  data_to_come_after history = data_to_come_where history (reading history).known (reading history).pending
