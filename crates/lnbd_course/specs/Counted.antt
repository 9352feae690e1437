-- What a board counts: the bytes that were asked to be read, written and zeroed.
use Rattle.std.specs.Prelude.{◌≡◌, ℕ, ◌+◌, Bool, true, false, List, [], ◌∷◌, cond, min}
use Rattle.lnbd_model.specs.Kind.{is_read, is_write}
use Rattle.lnbd_model.specs.declared.kind.Kind.{Kind}
use Rattle.lnbd_model.specs.declared.kind.Kind.TheVariants.{Read, Write, Flush, Trim, Cache, Zero, BlockStatus}
use Rattle.lnbd_history.specs.Commands.{Command}
use Rattle.lnbd_asked.specs.Link.{Nobody}
use Rattle.lnbd_board.specs.declared.ask.Ask.{Ask}
use Rattle.lnbd_board.specs.declared.ask.Change.{Change}
use Rattle.lnbd_board.specs.Asks.{read_by, written_by, written_first, zeroed_by, zeroed_first}
use Rattle.lnbd_board.specs.Board.{risen}
use Rattle.lnbd_board.specs.Files as board
use Rattle.lnbd_board.specs.Requests.{Request}

-- WRITE_ZEROES
abbrev pub is_zero : Kind → Bool
is_zero Read = false
is_zero Write = false
is_zero Flush = false
is_zero Trim = false
is_zero Cache = false
is_zero Zero = true
is_zero BlockStatus = false

abbrev pub is_flush : Kind → Bool
is_flush Read = false
is_flush Write = false
is_flush Flush = true
is_flush Trim = false
is_flush Cache = false
is_flush Zero = false
is_flush BlockStatus = false

-- of what each request counts for, the sum
abbrev pub total : (Command Nobody → ℕ) → List Request → ℕ
total weight [] = 0
total weight (r ∷ rs) = weight r.said.command + total weight rs

-- how many bytes the requests of some kinds have, all together
abbrev pub bytes_of : (counts : Kind → Bool) → List Request → ℕ
bytes_of counts requests = total (λ command. cond (counts command.kind) command.length 0) requests

-- how many FLUSHes there are
abbrev pub flushes_of : List Request → ℕ
flushes_of requests = total (λ command. cond (is_flush command.kind) 1 0) requests

-- a count of so many, which stands still at its end
abbrev pub up_to_end : ℕ → ℕ
up_to_end n = min n 18446744073709551615

-- The board counts the bytes that were asked to be read of the source, and to be written and zeroed on the destination; and it knows whether the destination
-- was asked to flush, which it was once at most.
pub record IsCounted (now : board.Seen) (source destination : List Request) : Type 0 where
  pub read : now.read ≡ up_to_end (bytes_of is_read source)
  pub written : now.written ≡ up_to_end (bytes_of is_write destination)
  pub zeroed : now.zeroed ≡ up_to_end (bytes_of is_zero destination)
  pub flushes : flushes_of destination ≡ cond now.flushing 1 0

-- It counted nothing yet, and no flush was asked for or answered.
pub record HasNotCounted (now : board.Seen) : Type 0 where
  pub read : now.read ≡ 0
  pub written : now.written ≡ 0
  pub zeroed : now.zeroed ≡ 0
  pub flushing : now.flushing ≡ false
  pub flushed : now.flushed ≡ false

-- It counted no more, and no flush more was asked for or answered.
pub record CountsSame (now now' : board.Seen) : Type 0 where
  pub read : now'.read ≡ now.read
  pub written : now'.written ≡ now.written
  pub zeroed : now'.zeroed ≡ now.zeroed
  pub flushing : now'.flushing ≡ now.flushing
  pub flushed : now'.flushed ≡ now.flushed

-- It counted the first request of a slice,
pub record CountsFirst (one : Ask) (now now' : board.Seen) : Type 0 where
  pub read : now'.read ≡ risen now.read (read_by one)
  pub written : now'.written ≡ risen now.written (written_first one)
  pub zeroed : now'.zeroed ≡ risen now.zeroed (zeroed_first one)
  pub flushing : now'.flushing ≡ now.flushing
  pub flushed : now'.flushed ≡ now.flushed

-- or a change that came next of one.
pub record CountsNext (one : Change) (now now' : board.Seen) : Type 0 where
  pub read : now'.read ≡ now.read
  pub written : now'.written ≡ risen now.written (written_by one)
  pub zeroed : now'.zeroed ≡ risen now.zeroed (zeroed_by one)
  pub flushing : now'.flushing ≡ now.flushing
  pub flushed : now'.flushed ≡ now.flushed
