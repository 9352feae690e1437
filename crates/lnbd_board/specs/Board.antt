-- What a board's fields show and keep, and what its calls answer.
use Rattle.std.specs.Prelude.{◌≡◌, ℕ, ◌+◌, ◌≤◌, ◌^◌, true, false, List, [], ◌∷◌, ◌++◌, length, Option, Some, None, IfSome, min, is_some, is_none}
use Rattle.lnbd_keyed.specs.Keyed.{value_at, with_value, without, IsBelow, IsRising}
use Rattle.lnbd_inflight.specs.Done.{is_done, IsOnce}
use Rattle.lnbd_plan.specs.declared.grid.Slice.{Slice}
use Rattle.lnbd_board.specs.declared.ask.Ask.{Ask}
use Rattle.lnbd_board.specs.declared.ask.Change.{Change}
use Rattle.lnbd_board.specs.declared.how.How.{How}
use Rattle.lnbd_board.specs.declared.next.Next.{Next}
use Rattle.lnbd_board.specs.declared.next.Next.TheVariants as next
use Rattle.lnbd_board.specs.declared.row.Row.{Row}
use Rattle.lnbd_board.specs.declared.row.Stage.{Stage}
use Rattle.lnbd_board.specs.Files.{Seen}
use Rattle.lnbd_board.specs.Requests.{Each}
use Rattle.lnbd_board.specs.Rows.{is_busy, busy}
use Rattle.lnbd_board.specs.Asks.{Goes, Advances, IsChangeOf, Sits, first_stage, is_over, written_by, zeroed_by, read_by, written_first, zeroed_first}

-- a row of this number has nothing under way
pub record IsIdle (rows : List (ℕ × Row)) (n : ℕ) : Type 0 where
  pub row : Row
  pub held : value_at n rows ≡ Some row
  pub idle : is_busy row.stage ≡ false

-- where each row holds what fits its slice
abbrev pub AllSit : How → List (ℕ × Row) → Type 0
AllSit how rows = (n : ℕ) (row : Row) → value_at n rows ≡ Some row → Sits how row.slice row.stage

-- What a board keeps: each row has a request under way, or something came for it, which is noted once; there is room to note one for each that
-- is under way; and each holds what fits its slice.
pub record IsKept (how : How) (rows : List (ℕ × Row)) (came : List ℕ) (capacity begun : ℕ) : Type 0 where
  pub idle : Each (IsIdle rows) came
  pub once : IsOnce came
  pub others : (n : ℕ) (row : Row) → is_done n came ≡ false → value_at n rows ≡ Some row → is_busy row.stage ≡ true
  pub fits : length came + busy rows ≤ capacity
  pub room : (n : ℕ) (row : Row) → value_at n rows ≡ Some row → row.slice.start + row.slice.length ≤ 2 ^ 63
  pub below : IsBelow rows begun
  pub rising : IsRising rows
  pub sits : AllSit how rows

-- a count with this much more, which stands still at its end
abbrev pub risen : ℕ → ℕ → ℕ
risen old n = min (old + n) 18446744073709551615

-- the first row that something came for is looked at: it is as this says, and no longer noted
abbrev pub looked_at : Seen → List (ℕ × Row) → (came : List ℕ) → (written zeroed : ℕ) → Seen
looked_at old rows came written zeroed = record old { rows = rows; came = came; written = written; zeroed = zeroed }

-- The row of this number, which was bound to these connections, is over and gone. Nothing is to be asked for it.
pub record EndsRow (how : How) (n source destination : ℕ) (old new : Seen) : Type 0 where
  pub first : old.came ≡ n ∷ new.came
  pub row : Row
  pub held : value_at n old.rows ≡ Some row
  pub reads : source ≡ row.source
  pub writes : destination ≡ row.destination
  pub now : new ≡ looked_at old (without n old.rows) new.came old.written old.zeroed
  pub goes : Goes how n None old.rows new.rows

-- The row of this number goes on: this change is to be asked on the connection that it is bound to.
pub record AsksOn (how : How) (n destination : ℕ) (one : Change) (old new : Seen) : Type 0 where
  pub first : old.came ≡ n ∷ new.came
  pub row : Row
  pub stage : Stage
  pub held : value_at n old.rows ≡ Some row
  pub writes : destination ≡ row.destination
  pub now : new ≡ looked_at old (with_value n (record row { stage = stage }) old.rows) new.came (risen old.written (written_by one)) (risen old.zeroed (zeroed_by one))
  pub goes : Goes how n (Some one) old.rows new.rows
  pub inside : IsChangeOf how row.slice one

-- What comes next: the earliest row that something came for is over, or it asks for a change; or nothing came.
abbrev pub IsNext : How → Next → Seen → Seen → Type 0
IsNext how next.Nothing old new = (old.came ≡ []) × (new ≡ old)
IsNext how (next.Over n source destination) old new = EndsRow how n source destination old new
IsNext how (next.Asks n destination one) old new = AsksOn how n destination one old new

-- the row of a slice whose first request is asked
abbrev pub first_row : Slice → (source destination : ℕ) → Row
first_row slice source destination = record { slice = slice; source = source; destination = destination; stage = first_stage slice.zero }

-- a slice more, which has this row and this first request
abbrev pub begun_with : Seen → Row → Ask → Seen
begun_with old row one = record old {
  begun = old.begun + 1;
  rows = old.rows ++ (old.begun, row) ∷ [];
  read = risen old.read (read_by one);
  written = risen old.written (written_first one);
  zeroed = risen old.zeroed (zeroed_first one);
}

abbrev pub HasRoom : List (ℕ × Row) → Type 0
HasRoom rows = (n : ℕ) (row : Row) → value_at n rows ≡ Some row → row.slice.start + row.slice.length ≤ 2 ^ 63

-- where nothing is asked, the row of the number is over
abbrev pub IsOverAt : ℕ → Option Change → List (ℕ × Row) → Type 0
IsOverAt n asks rows = is_none asks ≡ true → (row : Row) → value_at n rows ≡ Some row → is_over row.stage ≡ true

-- the row of this number is bound to these connections
abbrev pub IsBoundTo : ℕ → (source destination : ℕ) → List (ℕ × Row) → Type 0
IsBoundTo n source destination rows = (row : Row) → value_at n rows ≡ Some row → (source ≡ row.source) × (destination ≡ row.destination)

-- a row that nothing is asked for went on
pub record WentOn (how : How) (n : ℕ) (asks : Option Change) (rows rows2 : List (ℕ × Row)) : Type 0 where
  pub row : Row
  pub new : Row
  pub held : value_at n rows ≡ Some row
  pub now : rows2 ≡ with_value n new rows
  pub same : new ≡ record row { stage = new.stage }
  pub on : Advances how n row.slice row.stage new.stage asks
  pub busy : is_busy new.stage ≡ is_some asks
  pub sits : Sits how row.slice new.stage
  pub inside : IfSome asks (λ one. IsChangeOf how row.slice one)
