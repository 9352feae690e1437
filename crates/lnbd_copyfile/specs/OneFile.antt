-- Which calls a copy makes on its file, where the other side is an export. How long a slice is, is not known here.
use Rattle.std.specs.Prelude.{◌≡◌, ◌<◌, ℕ, List, [], ◌∷◌, ◌++◌}
use Rattle.lnbd_store.specs.Call.{Call, Open, Length, ReadAt, WriteAt, Cut, Sync, PartAt, Ended, ReadFault, WriteFault}
use Rattle.lnbd_copyfile.specs.declared.fault.Stop.{Stop}
use Rattle.lnbd_copyfile.specs.declared.fault.Stop.TheVariants as stop
use Rattle.lnbd_copyfile.specs.Calls.{GaveBytes, TookBytes}

-- the file with this number took bytes
abbrev pub IsWriteTo : (file : ℕ) → Call → Type 0
IsWriteTo file (Open path write number) = ⊥
IsWriteTo file (Length number n) = ⊥
IsWriteTo file (ReadAt number offset room answer) = ⊥
IsWriteTo file (WriteAt number offset offered answer) = (number ≡ file) × TookBytes answer
IsWriteTo file (Cut number n done) = ⊥
IsWriteTo file (Sync number done) = ⊥
IsWriteTo file (PartAt number offset answer) = ⊥

-- it gave bytes, or told whether a part of it is zeros
abbrev pub IsReadFrom : (file : ℕ) → Call → Type 0
IsReadFrom file (Open path write number) = ⊥
IsReadFrom file (Length number n) = ⊥
IsReadFrom file (ReadAt number offset room answer) = (number ≡ file) × GaveBytes answer
IsReadFrom file (WriteAt number offset offered answer) = ⊥
IsReadFrom file (Cut number n done) = ⊥
IsReadFrom file (Sync number done) = ⊥
IsReadFrom file (PartAt number offset answer) = number ≡ file

abbrev pub Writes : (file : ℕ) → List Call → Type 0
Writes file [] = Unit {0}
Writes file (call ∷ calls) = IsWriteTo file call × Writes file calls

abbrev pub Reads : (file : ℕ) → List Call → Type 0
Reads file [] = Unit {0}
Reads file (call ∷ calls) = IsReadFrom file call × Reads file calls

-- Behind some writes one failed; or memory ran out.
pub data BreaksWriting (file : ℕ) (why : Stop) (calls : List Call) : Type 0 where
  Write_lacks_memory : Writes file calls → why ≡ stop.NoMemory → BreaksWriting file why calls
  Write_breaks : (own : List Call) (offset offered : ℕ) → Writes file own → calls ≡ own ++ WriteAt file offset offered WriteFault ∷ [] → why ≡ stop.Failed → BreaksWriting file why calls

-- Behind some reads one failed or found the file's end, before as many bytes as it told; or memory ran out.
pub data BreaksReading (file size : ℕ) (why : Stop) (calls : List Call) : Type 0 where
  Read_lacks_memory : Reads file calls → why ≡ stop.NoMemory → BreaksReading file size why calls
  Read_breaks : (own : List Call) (offset room : ℕ) → Reads file own → calls ≡ own ++ ReadAt file offset room ReadFault ∷ [] → why ≡ stop.Failed → BreaksReading file size why calls
  Read_falls_short : (own : List Call) (end room : ℕ) → Reads file own → end < size → calls ≡ own ++ ReadAt file end room Ended ∷ [] → why ≡ stop.Changed size end → BreaksReading file size why calls
