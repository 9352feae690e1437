-- The calls on a store, with their arguments and answers. Bytes are plain lists.
use Rattle.std.specs.Prelude.{ℕ, Bool, true, false, List, take, Option, Some, None, Result, Ok, Err}
use Rattle.lnbd_store.specs.declared.store.StoreFailed.{StoreFailed}
use Rattle.lnbd_store.specs.declared.store.StoreGot.{StoreGot}
use Rattle.lnbd_store.specs.declared.store.StoreGot.TheVariants as got
use Rattle.lnbd_store.specs.declared.store.StorePart.{StorePart}
use Rattle.lnbd_store.specs.declared.store.StoreTook.{StoreTook}
use Rattle.lnbd_store.specs.declared.store.StoreTook.TheVariants as took

-- what a read answered: these bytes, the file's end, or a fault
pub data ReadTold : Type 0 where
  Gave : (bytes : List ℕ) → ReadTold
  Ended : ReadTold
  ReadFault : ReadTold

-- what a write answered: these bytes were taken, or a fault
pub data WriteTold : Type 0 where
  Took : (bytes : List ℕ) → WriteTold
  WriteFault : WriteTold

-- A call. An open holds the number that it gave, if any, and a length how many bytes it told; a read how
-- many bytes it would take, and a write how many it offered; a cut and a sync whether they were done; the last
-- what it told to lie from a place on.
pub data Call : Type 0 where
  Open : (path : List ℕ) (write : Bool) (number : Option ℕ) → Call
  Length : (file : ℕ) (length : Option ℕ) → Call
  ReadAt : (file offset room : ℕ) (answer : ReadTold) → Call
  WriteAt : (file offset offered : ℕ) (answer : WriteTold) → Call
  Cut : (file length : ℕ) (done : Bool) → Call
  Sync : (file : ℕ) (done : Bool) → Call
  PartAt : (file offset : ℕ) (answer : StorePart) → Call

-- the number that an open or a length answered
abbrev pub number_told : Result ℕ StoreFailed → Option ℕ
number_told (Ok n) = Some n
number_told (Err e) = None

-- whether a cut or a sync was done
abbrev pub done_told : Result (Unit {0}) StoreFailed → Bool
done_told (Ok done) = true
done_told (Err e) = false

-- what a read answered, with the slice as it was left
abbrev pub read_told : StoreGot → List ℕ → ReadTold
read_told (got.Bytes n) into = Gave (take n into)
read_told got.End into = Ended
read_told got.Failed into = ReadFault

-- what a write answered, with the bytes that were offered
abbrev pub write_told : StoreTook → List ℕ → WriteTold
write_told (took.Bytes n) from = Took (take n from)
write_told took.Failed from = WriteFault
