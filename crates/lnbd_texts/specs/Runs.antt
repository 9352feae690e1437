-- Bytes as the runs of equal ones that they are made of.
use Rattle.std.specs.Prelude.{ℕ, ◌+◌, ◌/◌, ◌%◌, ◌==◌, false, if◌then◌else◌, List, [], ◌∷◌, ◌++◌, codes, decimal}
use Rattle.std.specs.Fmt.{digit_glyph}
use Rattle.std.specs.List.{join_by}

-- a byte joins the run behind it where it is equal, and else begins its own
abbrev pub with_byte : ℕ → List (ℕ × ℕ) → List (ℕ × ℕ)
with_byte byte [] = (byte, 1) ∷ []
with_byte byte ((next, count) ∷ more) =
    if byte == next then (next, count + 1) ∷ more else (byte, 1) ∷ (next, count) ∷ more

-- each longest run of equal bytes: the byte, and how often it stands there
abbrev pub runs : List ℕ → List (ℕ × ℕ)
runs [] = []
runs (byte ∷ bytes) = with_byte byte (runs bytes)

-- two lower-case digits
abbrev pub hexadecimal : ℕ → List ℕ
hexadecimal byte = digit_glyph false (byte / 16) ∷ digit_glyph false (byte % 16) ∷ []

abbrev pub run_text : ℕ × ℕ → List ℕ
run_text (byte, count) = hexadecimal byte ++ codes "*" ++ decimal count

-- separated by one space; `-` for none
abbrev pub spaced : List (ℕ × ℕ) → List ℕ
spaced [] = codes "-"
spaced (run ∷ more) = join_by run_text (codes " ") (run ∷ more)

abbrev pub runs_text : List ℕ → List ℕ
runs_text bytes = spaced (runs bytes)
