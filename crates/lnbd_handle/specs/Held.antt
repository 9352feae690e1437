-- What is held of the bytes that arrived.
use Rattle.std.specs.Prelude.{ℕ, List, ◌++◌, take}
use Rattle.lnbd_handle.specs.declared.pending.Pending.{Pending}

-- the data that came so far
abbrev pub data_in : Pending → List ℕ
data_in pending = take pending.came pending.content.items

-- the two parts, one behind the other
abbrev pub held_in : Pending → List ℕ
held_in pending = pending.head.items ++ data_in pending
