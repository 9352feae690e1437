-- Words on the code's own steps: what a file's bytes were and are.
use Rattle.std.specs.Prelude.{◌≡◌, ℕ, ◌+◌, ◌<◌, ◌≤◌, List, ◌++◌, length, take, drop}
use Rattle.lnbd_child.specs.declared.reading.Unread.{Unread}
use Rattle.lnbd_child.specs.declared.reading.Unread.TheVariants as unread

-- the file is as it was, and begins with these bytes
pub record IsFront (bytes old new : List ℕ) : Type 0 where
  pub same : new ≡ old
  pub within : length bytes ≤ length old
  pub are : bytes ≡ take (length bytes) old

-- the file is as it was, and has these bytes from a place on
pub record Tells (at : ℕ) (bytes old new : List ℕ) : Type 0 where
  pub same : new ≡ old
  pub within : at + length bytes ≤ length old
  pub are : bytes ≡ take (length bytes) (drop at old)

-- the file has fewer bytes
pub record IsShort (size : ℕ) (old new : List ℕ) : Type 0 where
  pub short : length old < size

-- the file is as it was, and has so many bytes
pub record Long (n : ℕ) (old new : List ℕ) : Type 0 where
  pub same : new ≡ old
  pub size : n ≡ length old

-- the file is as it was, and these are its bytes
pub record Is (bytes old new : List ℕ) : Type 0 where
  pub same : new ≡ old
  pub are : bytes ≡ old

-- there is no such file
abbrev pub IsNever : List ℕ → List ℕ → Type 0
IsNever old new = ⊥

-- the file has these bytes, and behind them what it had there
pub record Puts (bytes old new : List ℕ) : Type 0 where
  pub is : new ≡ bytes ++ drop (length bytes) old

-- it ended before as many bytes came as it told
abbrev pub IsChanged : Unread → Type 0
IsChanged unread.NoMemory = ⊥
IsChanged unread.Failed = ⊥
IsChanged (unread.TooLong n) = ⊥
IsChanged (unread.Changed n end) = Unit {0}
