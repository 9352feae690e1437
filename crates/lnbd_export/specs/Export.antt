-- An export: its texts, its bytes, and which of them it tells as zero.
use Rattle.std.specs.Prelude.{◌≡◌, ℕ, zero, suc, ◌+◌, Bool, true, false, List, [], ◌∷◌, ◌++◌, length, take, drop, replicate, get_or}

pub record Export : Type 0 where
  pub name : List ℕ
  pub description : List ℕ
  pub bytes : List ℕ
  -- for each byte, whether it is told as zero
  pub zeros : List Bool
  pub read_only : Bool

abbrev pub size : Export → ℕ
size export = length export.bytes

-- There is a flag for each byte, and what is told as zero is zero.
pub record TellsTruly (export : Export) : Type 0 where
  pub each : length export.zeros ≡ length export.bytes
  pub truly : (p : ℕ) → get_or export.zeros p false ≡ true → get_or export.bytes p 1 ≡ 0

-- a list with these elements in the place of those from a position on
abbrev pub put : {A : Type 0} → ℕ → List A → List A → List A
put at new old = take at old ++ (new ++ drop (at + length new) old)

-- WRITE: these bytes stand there, and are no longer told as zero.
abbrev pub written : ℕ → List ℕ → Export → Export
written offset payload export = record export {
  bytes = put offset payload export.bytes;
  zeros = put offset (replicate (length payload) false) export.zeros;
}

-- TRIM and WRITE_ZEROES: zeros stand there, and are told as zero.
abbrev pub zeroed : (offset size : ℕ) → Export → Export
zeroed offset n export = record export {
  bytes = put offset (replicate n 0) export.bytes;
  zeros = put offset (replicate n true) export.zeros;
}

-- Zero ranges as positions.

-- whether each of n positions from one on passes a test
abbrev pub flags : (ℕ → Bool) → (start n : ℕ) → List Bool
flags told start zero = []
flags told start (suc n) = told start ∷ flags told (start + 1) n

-- Each position that passes is that of a byte, and that byte is zero: past the end there is no byte.
abbrev pub AreZeros : List ℕ → (ℕ → Bool) → Type 0
AreZeros bytes told = (p : ℕ) → told p ≡ true → get_or bytes p 1 ≡ 0
