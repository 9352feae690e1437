-- How the slices of a copy from a file are spread over the connections of the export. Bridges, which no claim names.
use Rattle.std.specs.Prelude.{ℕ, List}
use Rattle.lnbd_board.specs.Files as board
use Rattle.lnbd_copy.specs.Bound.{on_destination}
use Rattle.lnbd_copy.specs.Dealt.{IsDealt}
use Rattle.lnbd_copyfile.specs.FromFileJob.{Seen}

-- Where so many were bound to each connection as it counts, on none more than its share, so it is after a step.
pub record Deals (limit : ℕ) (bound bound' : List ℕ) (now now' : board.Seen) : Type 0 where
  pub on : (count : ℕ) → IsDealt limit count bound (on_destination now.rows) → IsDealt limit count bound' (on_destination now'.rows)

-- It is so of a job with this board.
abbrev pub HasDealt : Seen → board.Seen → Type 0
HasDealt job now = IsDealt job.terms.limit job.terms.sides.destination job.bound (on_destination now.rows)

-- A step of a job leaves it so.
pub record Spreads (old new : Seen) (now now' : board.Seen) : Type 0 where
  pub on : HasDealt old now → HasDealt new now'
