-- A stream of bytes shows one thing after another, and each is entered into what is known.
use Rattle.std.specs.Prelude.{ℕ, List, [], ◌∷◌, ◌++◌, Option, Some, None}

-- What the bytes since the last thing shown show, of which one is new: mostly nothing yet. What is known after a thing shown.
pub record Rules (S R : Type 0) : Type 0 where
  pub shows : S → List ℕ → Option R
  pub enter : R → S → S

-- what is known, and the bytes since the last thing shown
pub record Held (S : Type 0) : Type 0 where
  pub known : S
  pub pending : List ℕ

-- what is known, and no byte since
abbrev pub fresh : {S : Type 0} → S → Held S
fresh known = record { known = known; pending = [] }

-- these bytes, since the last thing shown, show this: nothing, and they are held, or a thing, which is entered
abbrev pub settle : {S R : Type 0} → Rules S R → S → List ℕ → Option R → Held S
settle rules known bytes None = record { known = known; pending = bytes }
settle rules known bytes (Some found) = record { known = rules.enter found known; pending = [] }

-- one byte more
abbrev pub take_byte : {S R : Type 0} → Rules S R → Held S → ℕ → Held S
take_byte rules held byte = settle rules held.known (held.pending ++ byte ∷ []) (rules.shows held.known (held.pending ++ byte ∷ []))

-- these bytes more
abbrev pub feed : {S R : Type 0} → Rules S R → Held S → List ℕ → Held S
feed rules held [] = held
feed rules held (byte ∷ bytes) = feed rules (take_byte rules held byte) bytes

-- a thing shown, with the bytes that showed it
abbrev pub shown_by : {R : Type 0} → List ℕ → Option R → List (List ℕ × R)
shown_by bytes None = []
shown_by bytes (Some found) = (bytes, found) ∷ []

-- what these bytes show, in order, each with its bytes
abbrev pub trace : {S R : Type 0} → Rules S R → Held S → List ℕ → List (List ℕ × R)
trace rules held [] = []
trace rules held (byte ∷ bytes) = shown_by (held.pending ++ byte ∷ []) (rules.shows held.known (held.pending ++ byte ∷ [])) ++ trace rules (take_byte rules held byte) bytes

-- the bytes of all that was shown
abbrev pub spelled : {R : Type 0} → List (List ℕ × R) → List ℕ
spelled [] = []
spelled (one ∷ more) = one.0 ++ spelled more

-- the things of all that was shown
abbrev pub things : {R : Type 0} → List (List ℕ × R) → List R
things [] = []
things (one ∷ more) = one.1 ∷ things more
