-- The calls that are kept.
use Rattle.std.specs.Prelude.{ℕ, List}
use Rattle.lnbd_store.specs.Call.{Call, Open, Length, ReadAt, WriteAt, Cut, Sync, PartAt, ReadTold, Gave, Ended, ReadFault, WriteTold, Took, WriteFault}
use Rattle.lnbd_store.specs.declared.store.StoreGot.{StoreGot}
use Rattle.lnbd_store.specs.declared.store.StoreGot.TheVariants as got
use Rattle.lnbd_store.specs.declared.store.StoreTook.{StoreTook}
use Rattle.lnbd_store.specs.declared.store.StoreTook.TheVariants as took
use Rattle.lnbd_store.specs.declared.log.Kept.{Kept}
use Rattle.lnbd_store.specs.declared.log.Kept.TheVariants as kept

-- the answer of a read with its bytes
abbrev pub read_as : StoreGot → List ℕ → ReadTold
read_as (got.Bytes n) bytes = Gave bytes
read_as got.End bytes = Ended
read_as got.Failed bytes = ReadFault

-- the answer of a write with its bytes
abbrev pub write_as : StoreTook → List ℕ → WriteTold
write_as (took.Bytes n) bytes = Took bytes
write_as took.Failed bytes = WriteFault

abbrev pub call_of : Kept → Call
call_of (kept.Open path write number) = Open path write number
call_of (kept.Length file length) = Length file length
call_of (kept.ReadAt file offset room got bytes) = ReadAt file offset room (read_as got bytes.items)
call_of (kept.WriteAt file offset offered took bytes) = WriteAt file offset offered (write_as took bytes.items)
call_of (kept.Cut file length done) = Cut file length done
call_of (kept.Sync file done) = Sync file done
call_of (kept.PartAt file offset answer) = PartAt file offset answer
