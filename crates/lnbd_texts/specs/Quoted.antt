-- A text in quotes, which stands on one line whatever it holds.
use Rattle.std.specs.Prelude.{ℕ, Bool, ◌==◌, ◌||◌, nat_lt, if◌then◌else◌, List, [], ◌∷◌, ◌++◌, codes, flat_map}
use Rattle.lnbd_texts.specs.Runs.{hexadecimal}

-- control characters, the quote, the backslash and DEL
abbrev pub is_escaped : ℕ → Bool
is_escaped byte = nat_lt byte 0x20 || ((byte == 0x22) || ((byte == 0x5c) || (byte == 0x7f)))

-- `\x` and two lower-case digits
abbrev pub escape_text : ℕ → List ℕ
escape_text byte = codes "\\x" ++ hexadecimal byte

abbrev pub quoted_byte : ℕ → List ℕ
quoted_byte byte = if is_escaped byte then escape_text byte else byte ∷ []

abbrev pub quoted_bytes : List ℕ → List ℕ
quoted_bytes bytes = flat_map quoted_byte bytes

abbrev pub quoted_text : List ℕ → List ℕ
quoted_text text = codes "\"" ++ (quoted_bytes text ++ codes "\"")
