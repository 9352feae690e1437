-- The words in which it is said what bytes show, whatever the things shown are.
use Rattle.std.specs.Prelude.{◌≡◌, ℕ, ◌≤◌, Bool, List, [], ◌∷◌, ◌++◌, length, Option, Some, None, if◌then◌else◌, nat_lt}
use Rattle.lnbd_stream.specs.Stream.{Rules}

-- nothing is shown before so many bytes are there
unfoldable pub once : {R : Type 0} → ℕ → List ℕ → Option R → Option R
once n bytes shown = if nat_lt (length bytes) n then None else shown

-- what follows where the test holds, and else this fault
unfoldable pub wants : {R : Type 0} → Bool → R → Option R → Option R
wants test fault shown = if test then shown else Some fault

-- each byte shows this, by itself
unfoldable pub each_byte : {R : Type 0} → R → List ℕ → Option R
each_byte shown [] = None
each_byte shown (byte ∷ bytes) = Some shown

-- rules whose grammar is chosen by the place in which one is
abbrev pub rules_by_place : {S P R : Type 0} → (S → P) → (P → S → List ℕ → Option R) → (R → S → S) → Rules S R
rules_by_place place grammar enter = record { shows = λ known. grammar (place known) known; enter = enter }

-- What some bytes showed is shown of more.
abbrev pub Kept : {R : Type 0} → Option R → Option R → Type 0
Kept {R} some more = (found : R) → some ≡ Some found → more ≡ Some found

-- From n bytes on, what is shown stays, whatever follows.
abbrev pub Stays : {R : Type 0} → ℕ → (List ℕ → Option R) → Type 0
Stays n shows = (bytes more : List ℕ) → n ≤ length bytes → Kept (shows bytes) (shows (bytes ++ more))

-- Only the first n bytes are read.
abbrev pub Reads : {A : Type 0} → ℕ → (List ℕ → A) → Type 0
Reads n read = (bytes more : List ℕ) → n ≤ length bytes → read (bytes ++ more) ≡ read bytes

-- The first n bytes decide what one sees of the thing shown: a longer list shows what they show.
abbrev pub Decides : {R A : Type 0} → (Option R → A) → ℕ → (List ℕ → Option R) → Type 0
Decides seen n shows = Reads n (λ bytes. seen (shows bytes))

-- The thing shown, if one is, is no greater than the bytes.
abbrev pub Fits : {R : Type 0} → (R → ℕ) → List ℕ → Option R → Type 0
Fits {R} size bytes shown = (found : R) → shown ≡ Some found → size found ≤ length bytes

-- No thing is shown by fewer bytes than its size.
abbrev pub Sized : {R : Type 0} → (R → ℕ) → (List ℕ → Option R) → Type 0
Sized size shows = (bytes : List ℕ) → Fits size bytes (shows bytes)
