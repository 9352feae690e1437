-- Which calls on a store a copy between two files makes.
use Rattle.std.specs.Prelude.{◌≡◌, ◌-◌, ◌%◌, ◌<◌, ◌≤◌, ℕ, min, Bool, true, false, if◌then◌else◌, List, [], ◌∷◌, ◌++◌, Some, None}
use Rattle.lnbd_plan.specs.declared.options.CopyOptions.{CopyOptions}
use Rattle.lnbd_store.specs.Call.{Call, Open, Length, ReadAt, WriteAt, Cut, Sync, PartAt, ReadTold, Gave, Ended, ReadFault, WriteTold, Took, WriteFault}
use Rattle.lnbd_copyfile.specs.declared.fault.FileFault.{FileFault}
use Rattle.lnbd_copyfile.specs.declared.fault.FileFault.TheVariants as fault
use Rattle.lnbd_copyfile.specs.declared.fault.Stop.{Stop}
use Rattle.lnbd_copyfile.specs.declared.fault.Stop.TheVariants as stop

-- bytes of the source came
abbrev pub GaveBytes : ReadTold → Type 0
GaveBytes (Gave bytes) = Unit {0}
GaveBytes Ended = ⊥
GaveBytes ReadFault = ⊥

-- the destination took bytes
abbrev pub TookBytes : WriteTold → Type 0
TookBytes (Took bytes) = Unit {0}
TookBytes WriteFault = ⊥

-- as many bytes as are left of the slice that has this place: it ends at the next multiple of the cell, or where the source does
abbrev pub rest_of : (cell size place : ℕ) → ℕ
rest_of cell size place = min (cell - place % cell) (size - place)

-- bytes came of the source's number, which was asked for the rest of a slice, or for what lies from a place on; or that of the destination took some, of no more than a slice has
abbrev pub IsMove : (cell size from to : ℕ) → Call → Type 0
IsMove cell size from to (Open path write number) = ⊥
IsMove cell size from to (Length file n) = ⊥
IsMove cell size from to (ReadAt file offset room answer) = (file ≡ from) × (room ≡ rest_of cell size offset) × GaveBytes answer
IsMove cell size from to (WriteAt file offset offered answer) = (file ≡ to) × (offered ≤ cell) × TookBytes answer
IsMove cell size from to (Cut file n done) = ⊥
IsMove cell size from to (Sync file done) = ⊥
IsMove cell size from to (PartAt file offset answer) = file ≡ from

abbrev pub Moves : (cell size from to : ℕ) → List Call → Type 0
Moves cell size from to [] = Unit {0}
Moves cell size from to (call ∷ calls) = IsMove cell size from to call × Moves cell size from to calls

-- Behind some moves a read failed or found the source's end, or a write failed; or memory ran out.
pub data Breaks (cell size from to : ℕ) (why : Stop) (calls : List Call) : Type 0 where
  Lacks_memory : Moves cell size from to calls → why ≡ stop.NoMemory → Breaks cell size from to why calls
  Read_fails : (own : List Call) (offset : ℕ) → Moves cell size from to own → calls ≡ own ++ ReadAt from offset (rest_of cell size offset) ReadFault ∷ [] → why ≡ stop.Failed
      → Breaks cell size from to why calls
  Read_ends : (own : List Call) (end : ℕ) → Moves cell size from to own → end < size → calls ≡ own ++ ReadAt from end (rest_of cell size end) Ended ∷ [] → why ≡ stop.Changed size end
      → Breaks cell size from to why calls
  Write_fails : (own : List Call) (offset offered : ℕ) → Moves cell size from to own → offered ≤ cell → calls ≡ own ++ WriteAt to offset offered WriteFault ∷ [] → why ≡ stop.Failed
      → Breaks cell size from to why calls

-- the destination is opened once, for writing, cut to nothing, and then to its size
abbrev pub making : (path : List ℕ) → (to size : ℕ) → List Call
making path to size = Open path true (Some to) ∷ Cut to 0 true ∷ Cut to size true ∷ []

abbrev pub IsMaking : (path : List ℕ) → (to size : ℕ) → List Call → Type 0
IsMaking path to size calls = calls ≡ making path to size

-- One of these calls failed.
pub data NotMade (path : List ℕ) (size : ℕ) (calls : List Call) : Type 0 where
  Not_opened : calls ≡ Open path true None ∷ [] → NotMade path size calls
  Not_emptied : (to : ℕ) → calls ≡ Open path true (Some to) ∷ Cut to 0 false ∷ [] → NotMade path size calls
  Not_sized : (to : ℕ) → calls ≡ Open path true (Some to) ∷ Cut to 0 true ∷ Cut to size false ∷ [] → NotMade path size calls

-- with `flush` it is synced once, behind the last write
abbrev pub closing : (to : ℕ) → (flush : Bool) → List Call
closing to flush = if flush then Sync to true ∷ [] else []

abbrev pub IsClosing : (to : ℕ) → (flush : Bool) → List Call → Type 0
IsClosing to flush calls = calls ≡ closing to flush

-- It was to be synced, and that failed.
pub record NotClosed (to : ℕ) (flush : Bool) (calls : List Call) : Type 0 where
  pub flush_ : flush ≡ true
  pub calls_are : calls ≡ Sync to false ∷ []

-- All was moved.
pub record HasMoved (cell size from to : ℕ) (flush : Bool) (calls : List Call) : Type 0 where
  pub own : List Call
  pub moves : Moves cell size from to own
  pub calls_are : calls ≡ own ++ closing to flush

-- It was not, or the destination could not be synced.
pub data NotMoved (cell size from to : ℕ) (flush : Bool) (why : Stop) (calls : List Call) : Type 0 where
  Broke : Breaks cell size from to why calls → NotMoved cell size from to flush why calls
  Not_synced : (own : List Call) → flush ≡ true → Moves cell size from to own → calls ≡ own ++ Sync to false ∷ [] → why ≡ stop.Failed → NotMoved cell size from to flush why calls

-- The destination was made, and all was moved there.
pub record HasFilled (cell size from : ℕ) (path : List ℕ) (flush : Bool) (calls : List Call) : Type 0 where
  pub to : ℕ
  pub own : List Call
  pub moved : HasMoved cell size from to flush own
  pub calls_are : calls ≡ making path to size ++ own

-- Memory ran out before it was opened, or it was not made, or not all was moved.
pub data NotFilled (cell size from : ℕ) (path : List ℕ) (flush : Bool) (why : Stop) (calls : List Call) : Type 0 where
  Lacks_room : calls ≡ [] → why ≡ stop.NoMemory → NotFilled cell size from path flush why calls
  Unmade : NotMade path size calls → why ≡ stop.Failed → NotFilled cell size from path flush why calls
  Unmoved : (to : ℕ) (own : List Call) → NotMoved cell size from to flush why own → calls ≡ making path to size ++ own → NotFilled cell size from path flush why calls

-- the source is opened once, for reading, and tells its length
abbrev pub opening : (path : List ℕ) → (file size : ℕ) → List Call
opening path file size = Open path false (Some file) ∷ Length file (Some size) ∷ []

abbrev pub IsOpening : (path : List ℕ) → (file size : ℕ) → List Call → Type 0
IsOpening path file size calls = calls ≡ opening path file size

-- One of these calls failed.
pub data NotOpened (path : List ℕ) (calls : List Call) : Type 0 where
  Unopened : calls ≡ Open path false None ∷ [] → NotOpened path calls
  Untold : (file : ℕ) → calls ≡ Open path false (Some file) ∷ Length file None ∷ [] → NotOpened path calls

-- The source is opened; then the destination is made and filled, in slices of `request_size` bytes.
pub record HasDone (from to : List ℕ) (size : ℕ) (options : CopyOptions) (calls : List Call) : Type 0 where
  pub file : ℕ
  pub own : List Call
  pub filled : HasFilled options.request_size size file to options.flush own
  pub calls_are : calls ≡ opening from file size ++ own

-- The calls are a front of these, whose last one may have failed or found the source's end.
pub data NotDone (from to : List ℕ) (options : CopyOptions) (why : Stop) (calls : List Call) : Type 0 where
  No_source : NotOpened from calls → why ≡ stop.Failed → NotDone from to options why calls
  Not_filled : (file size : ℕ) (own : List Call) → NotFilled options.request_size size file to options.flush why own → calls ≡ opening from file size ++ own → NotDone from to options why calls

-- what stopped the copy
abbrev pub stop_of : FileFault → Stop
stop_of (fault.Copy why) = stop.NoMemory
stop_of (fault.Store before after) = stop.Failed
stop_of (fault.Changed n end) = stop.Changed n end
