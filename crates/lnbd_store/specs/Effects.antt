-- What each call does to the files of a store that tells them, by its answer. A call that failed changes nothing.
use Rattle.std.specs.Prelude.{◌≡◌, ℕ, ◌+◌, ◌<◌, ◌≤◌, List, length, take, drop, slice_index, Bool, Result, Ok, Err}
use Rattle.lnbd_store.specs.declared.store.StoreFailed.{StoreFailed}
use Rattle.lnbd_store.specs.declared.store.StoreGot.{StoreGot}
use Rattle.lnbd_store.specs.declared.store.StoreGot.TheVariants as got
use Rattle.lnbd_store.specs.declared.store.StorePart.{StorePart}
use Rattle.lnbd_store.specs.declared.store.StorePart.TheVariants as part
use Rattle.lnbd_store.specs.declared.store.StoreTook.{StoreTook}
use Rattle.lnbd_store.specs.declared.store.StoreTook.TheVariants as took
use Rattle.lnbd_store.specs.Bytes.{put_at, cut_to}
use Rattle.lnbd_store.specs.Shelf.{Shelf, Same, Opens, Reads, Changes}

-- the file has its number
abbrev pub OpensAs : (path : List ℕ) → (write : Bool) → Result ℕ StoreFailed → Shelf → Shelf → Type 0
OpensAs path write (Ok n) was now = Opens path write n was now
OpensAs path write (Err e) was now = Same was now

-- the answer is how many bytes there are
abbrev pub MeasuresAs : (file : ℕ) → Result ℕ StoreFailed → Shelf → Shelf → Type 0
MeasuresAs file (Ok n) was now = Reads file (λ bytes. n ≡ length bytes) was now
MeasuresAs file (Err e) was now = Same was now

-- the bytes from the place on stand at the front of the slice
pub record IsAt (offset n : ℕ) (into bytes : List ℕ) : Type 0 where
  pub below : offset < length bytes
  pub within : offset + n ≤ length bytes
  pub are : take n into ≡ take n (drop offset bytes)

-- the slice has bytes of the file, or the file ends at or before the place
abbrev pub ReadsAs : (file offset : ℕ) → StoreGot → List ℕ → Shelf → Shelf → Type 0
ReadsAs file offset (got.Bytes n) into was now = Reads file (IsAt offset n into) was now
ReadsAs file offset got.End into was now = Reads file (λ bytes. length bytes ≤ offset) was now
ReadsAs file offset got.Failed into was now = Same was now

-- the bytes that were taken stand at the place
abbrev pub WritesAs : (file offset : ℕ) → StoreTook → List ℕ → Shelf → Shelf → Type 0
WritesAs file offset (took.Bytes n) from was now = Changes file (put_at offset (take n from)) was now
WritesAs file offset took.Failed from was now = Same was now

-- the file has so many bytes
abbrev pub CutsAs : (file length : ℕ) → Result (Unit {0}) StoreFailed → Shelf → Shelf → Type 0
CutsAs file n (Ok done) was now = Changes file (cut_to n) was now
CutsAs file n (Err e) was now = Same was now

-- the number is that of a file
abbrev pub SyncsAs : (file : ℕ) → Result (Unit {0}) StoreFailed → Shelf → Shelf → Type 0
SyncsAs file (Ok done) was now = Reads file (λ bytes. Unit {0}) was now
SyncsAs file (Err e) was now = Same was now

-- each of so many positions from one on is zero, where it lies among the bytes
pub record AreZeros (offset n : ℕ) (bytes : List ℕ) : Type 0 where
  pub are : (p : ℕ) → offset ≤ p → p < offset + n → p < length bytes → slice_index bytes p ≡ 0

-- what is told to be zeros is; of bytes nothing is told
abbrev pub PartsAs : (file offset : ℕ) → StorePart → Shelf → Shelf → Type 0
PartsAs file offset (part.Bytes n) was now = Same was now
PartsAs file offset (part.Zeros n) was now = Reads file (AreZeros offset n) was now
