-- What a write and a read make of a file's bytes, and what they tell of them.
use Rattle.std.specs.Prelude.{◌≡◌, ℕ, ◌<◌, ◌≤◌, List, length, take, drop}
use Rattle.lnbd_store.specs.Bytes.{put_at}

-- these bytes are put at a place, where the file reaches it
pub record Puts (at : ℕ) (bytes old new : List ℕ) : Type 0 where
  pub on : at ≤ length old → new ≡ put_at at bytes old

-- the file is as it was, and has these bytes from a place on
pub record Tells (at : ℕ) (bytes old new : List ℕ) : Type 0 where
  pub same : new ≡ old
  pub are : bytes ≡ take (length bytes) (drop at old)

-- the file is as it was, and ends at or before a place
pub record Ends (place : ℕ) (old new : List ℕ) : Type 0 where
  pub same : new ≡ old
  pub ends : length old ≤ place

-- the file has fewer bytes
pub record IsShort (size : ℕ) (old new : List ℕ) : Type 0 where
  pub short : length old < size

-- the file is as it was, and has so many bytes
pub record IsLong (size : ℕ) (old new : List ℕ) : Type 0 where
  pub same : new ≡ old
  pub size_ : size ≡ length old
