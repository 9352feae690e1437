-- What a copy that succeeded leaves, and what it asks at most once.
use Rattle.std.specs.Prelude.{◌≡◌, ℕ, ◌≤◌, Bool, true, false, List, [], ◌++◌, length, take, drop, Some}
use Rattle.lnbd_model.specs.declared.kind.Kind.TheVariants.{BlockStatus}
use Rattle.lnbd_asked.specs.Transcript.{Dealt}
use Rattle.lnbd_asked.specs.Honest.{Done, has}
use Rattle.lnbd_history.specs.Commands.{Command}
use Rattle.lnbd_asked.specs.Link.{Nobody}
use Rattle.lnbd_plan.specs.declared.grid.Slice.{Slice}
use Rattle.lnbd_plan.specs.declared.cells.Cells.{Cells}
use Rattle.lnbd_plan.specs.Laws.{IsPlannedOnce}
use Rattle.lnbd_board.specs.declared.how.How.{How}
use Rattle.lnbd_board.specs.declared.row.Row.{Row}
use Rattle.lnbd_board.specs.Requests.{Request, over, reads_over}
use Rattle.lnbd_board.specs.Rows.{Stands}

-- the first bytes are the source's, and the rest is as at the start
pub record Holds (source start end : List ℕ) : Type 0 where
  pub front : take (length source) end ≡ source
  pub rest : drop (length source) end ≡ drop (length source) start

-- A block status that is done told the position as zero, within its request.
pub record WasToldZero (dealt : Dealt) (p : ℕ) : Type 0 where
  pub link : ℕ
  pub cookie : ℕ
  pub command : Command Nobody
  pub bytes : List ℕ
  pub asked : dealt.asked link cookie ≡ Some command
  pub kind : command.kind ≡ BlockStatus
  pub done : Done dealt link cookie bytes
  pub has : has command p ≡ true
  pub zero : dealt.zero link cookie p ≡ true

-- some link was told this size
pub record WasToldSize (dealt : Dealt) (size : ℕ) : Type 0 where
  pub link : ℕ
  pub told : dealt.size link ≡ Some size

-- All is copied: each position of the source was planned once, as the source told it, and each slice is over. Zeros are left out only where the destination
-- reads as zeroes.
pub record IsCopied (how : How) (cells : Cells) (told : ℕ → Bool) (size : ℕ) (slices : List Slice) (source destination : List Request) : Type 0 where
  pub planned : (p : ℕ) → IsPlannedOnce cells told 0 size p slices
  pub left_out : cells.zeros ≡ false → how.skip ≡ true
  pub over : Stands how slices [] source destination

-- No position of the source is read twice, and none of the destination is changed twice.
pub record IsOnce (source destination : List Request) : Type 0 where
  pub reads : (p : ℕ) → length (reads_over p source) ≤ 1
  pub changes : (p : ℕ) → length (over p destination) ≤ 1

-- Nothing past the end is read or changed.
pub record IsWithin (size : ℕ) (source destination : List Request) : Type 0 where
  pub reads : (p : ℕ) → size ≤ p → reads_over p source ≡ []
  pub changes : (p : ℕ) → size ≤ p → over p destination ≡ []

-- At every state no position is asked for twice, where the slices that were begun, and those still to come, plan each position once.
abbrev pub EachIsAskedOnce : Type 0
EachIsAskedOnce = (how : How) (cells : Cells) (told : ℕ → Bool) (size : ℕ) (slices rest : List Slice) (rows : List (ℕ × Row)) (source destination : List Request) →
    Stands how slices rows source destination → ((p : ℕ) → IsPlannedOnce cells told 0 size p (slices ++ rest)) → IsOnce source destination × IsWithin size source destination
