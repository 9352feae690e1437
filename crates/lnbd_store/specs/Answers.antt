-- The answers of a store, by cases.
use Rattle.std.specs.Prelude.{◌≡◌, ℕ}
use Rattle.lnbd_link.specs.Count.{raised_by}
use Rattle.lnbd_store.specs.declared.store.StoreGot.{StoreGot}
use Rattle.lnbd_store.specs.declared.store.StoreGot.TheVariants as got
use Rattle.lnbd_store.specs.declared.store.StorePart.{StorePart}
use Rattle.lnbd_store.specs.declared.store.StorePart.TheVariants as part
use Rattle.lnbd_store.specs.declared.store.StoreTook.{StoreTook}
use Rattle.lnbd_store.specs.declared.store.StoreTook.TheVariants as took

-- a fact of the count of bytes that a read gave
abbrev pub IfGot : StoreGot → (ℕ → Type 0) → Type 0
IfGot (got.Bytes n) P = P n
IfGot got.End P = Unit {0}
IfGot got.Failed P = Unit {0}

-- the read failed
abbrev pub GotFailed : StoreGot → Type 0
GotFailed (got.Bytes n) = ⊥
GotFailed got.End = ⊥
GotFailed got.Failed = Unit {0}

-- how many bytes a read gave
abbrev pub got_len : StoreGot → ℕ
got_len (got.Bytes n) = n
got_len got.End = 0
got_len got.Failed = 0

-- the count of bytes given rose by those of this read
abbrev pub GivesMore : StoreGot → ℕ → ℕ → Type 0
GivesMore (got.Bytes n) old new = new ≡ raised_by n old
GivesMore got.End old new = new ≡ old
GivesMore got.Failed old new = new ≡ old

-- a fact of the count of bytes that a write took
abbrev pub IfTook : StoreTook → (ℕ → Type 0) → Type 0
IfTook (took.Bytes n) P = P n
IfTook took.Failed P = Unit {0}

-- the write failed
abbrev pub TookFailed : StoreTook → Type 0
TookFailed (took.Bytes n) = ⊥
TookFailed took.Failed = Unit {0}

-- how many bytes a write took
abbrev pub took_len : StoreTook → ℕ
took_len (took.Bytes n) = n
took_len took.Failed = 0

-- the count of bytes taken rose by those of this write
abbrev pub TakesMore : StoreTook → ℕ → ℕ → Type 0
TakesMore (took.Bytes n) old new = new ≡ raised_by n old
TakesMore took.Failed old new = new ≡ old

-- of how many positions a part tells
abbrev pub part_len : StorePart → ℕ
part_len (part.Bytes n) = n
part_len (part.Zeros n) = n
