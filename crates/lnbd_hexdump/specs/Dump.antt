-- The text of a dump, as a function of all its bytes.
use Rattle.std.specs.Prelude.{ℕ, ◌+◌, ◌-◌, ◌*◌, ◌/◌, ◌%◌, ◌^◌, zero, suc, Bool, ◌&&◌, nat_lt, nat_le, if◌then◌else◌, List, [], ◌∷◌, ◌++◌, length, take, drop, map, flat_map, replicate, codes}
use Rattle.std.specs.Str.{bytes_eq}

-- ---- a line

-- a lower-case hex digit
abbrev pub digit : ℕ → ℕ
digit n = if nat_lt n 10 then 48 + n else 87 + n

-- a number in so many hex digits
abbrev pub hex : ℕ → ℕ → List ℕ
hex zero n = []
hex (suc width) n = hex width (n / 16) ++ digit (n % 16) ∷ []

-- how many hex digits a position has: as many as it needs, and 10 at least
abbrev pub width : ℕ → ℕ
width position =
    if nat_lt position (16 ^ 10) then 10
    else if nat_lt position (16 ^ 11) then 11
    else if nat_lt position (16 ^ 12) then 12
    else if nat_lt position (16 ^ 13) then 13
    else if nat_lt position (16 ^ 14) then 14
    else if nat_lt position (16 ^ 15) then 15
    else 16

-- a byte as two digits, with a space behind it
abbrev pub cell : ℕ → List ℕ
cell byte = hex 2 byte ++ 32 ∷ []

-- a byte as itself, where it can be printed
abbrev pub letter : ℕ → ℕ
letter byte = if nat_le 32 byte && nat_le byte 126 then byte else 46

-- the line of a group: its position, its bytes in 16 columns, and its bytes as letters
abbrev pub group_line : ℕ → List ℕ → List ℕ
group_line position group =
    hex (width position) position ++ (codes ": " ++ (flat_map cell group ++ (replicate (3 * (16 - length group)) 32 ++ (codes " |" ++ (map letter group ++ codes "|\n")))))

-- ---- groups

-- how many groups of 16 so many bytes are; the last may be shorter
abbrev pub groups : ℕ → ℕ
groups count = (count + 15) / 16

-- the group of this number, from 0
abbrev pub group : List ℕ → ℕ → List ℕ
group bytes k = take 16 (drop (16 * k) bytes)

-- a group that equals the one before
abbrev pub is_repeat : List ℕ → ℕ → Bool
is_repeat bytes k = nat_lt 0 k && bytes_eq (group bytes k) (group bytes (k - 1))

-- and isn't the last
abbrev pub is_squeezed : List ℕ → ℕ → Bool
is_squeezed bytes k = is_repeat bytes k && nat_lt (k + 1) (groups (length bytes))

-- A squeezed group has no line, but the first of a run of them has a star.
abbrev pub line : (first : ℕ) → List ℕ → ℕ → List ℕ
line first bytes k =
    if is_squeezed bytes k then (if is_squeezed bytes (k - 1) then [] else codes "*\n")
    else group_line (first + 16 * k) (group bytes k)

-- the lines of the first groups, so many
abbrev pub lines : (first : ℕ) → List ℕ → ℕ → List ℕ
lines first bytes zero = []
lines first bytes (suc k) = lines first bytes k ++ line first bytes k

-- the dump of bytes of which the first stands at this position
unfoldable pub dump : (first : ℕ) → List ℕ → List ℕ
dump first bytes = lines first bytes (groups (length bytes))
