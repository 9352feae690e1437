-- The laws, as statements.
use Rattle.std.specs.Prelude.{◌≡◌, ◌≤◌, ◌+◌, ℕ, List, ◌++◌, length, take, Option}
use Rattle.lnbd_store.specs.Bytes.{put_at}
use Rattle.lnbd_store.specs.Effects.{IsAt}
use Rattle.lnbd_store.specs.Shelf.{Shelf, Goes, Reads, Changes}
use Rattle.lnbd_touched.specs.Both.{Both}
use Rattle.lnbd_touched.specs.Parts.{Puts, Tells}
use Rattle.lnbd_touched.specs.Touches.{Touches}

-- A write of the store puts the bytes that it took in the number's file, and touches no other.
abbrev pub WritesTouch : Type 0
WritesTouch = (n at : ℕ) (from : List ℕ) (a b : Option Shelf) → Goes a b (Changes n (put_at at from)) → Touches n (Puts at from) a b

-- A read of the store tells bytes of the number's file, and touches none.
abbrev pub ReadsTouch : Type 0
ReadsTouch = (n at count : ℕ) (into : List ℕ) (a b : Option Shelf) → count ≤ length into → Goes a b (Reads n (IsAt at count into)) → Touches n (Tells at (take count into)) a b

-- A write in parts is a write.
abbrev pub WritesFollow : Type 0
WritesFollow = (n at : ℕ) (one two : List ℕ) (a b c : Option Shelf) → Touches n (Puts at one) a b → Touches n (Puts (at + length one) two) b c → Touches n (Puts at (one ++ two)) a c

-- A read in parts is a read.
abbrev pub ReadsFollow : Type 0
ReadsFollow = (n at : ℕ) (one two : List ℕ) (a b c : Option Shelf) → Touches n (Tells at one) a b → Touches n (Tells (at + length one) two) b c → Touches n (Tells at (one ++ two)) a c

-- A write of the one file leaves the other as it is.
abbrev pub WritesLeaveOther : Type 0
WritesLeaveOther = (n m at : ℕ) (bytes : List ℕ) (a b : Option Shelf) → Touches m (Puts at bytes) a b → Both n m (λ x y x2 y2. (x2 ≡ x) × Puts at bytes y y2) a b

-- A read of the one leaves both.
abbrev pub ReadsLeaveBoth : Type 0
ReadsLeaveBoth = (n m at : ℕ) (bytes : List ℕ) (a b : Option Shelf) → Touches n (Tells at bytes) a b → Both n m (λ x y x2 y2. Tells at bytes x x2 × (y2 ≡ y)) a b
