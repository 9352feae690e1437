-- What a chunk brings to the buffer of its command.
use Rattle.std.specs.Prelude.{◌≡◌, ℕ, ◌+◌, ◌≤◌, List, [], length, replicate, if◌then◌else◌}
use Rattle.lnbd_model.specs.declared.kind.Kind.{Kind}
use Rattle.lnbd_outcome.specs.Pieces.{Query, is_content}
use Rattle.lnbd_records.specs.Content.{Content, Data, Hole}
use Rattle.lnbd_structured.specs.Placed.{with_content}

-- content lies in a buffer of so many bytes from this place of the export on
abbrev pub Fits : (offset size : ℕ) → Content → Type 0
Fits offset size (Data place bytes) = (offset ≤ place) × (place + length bytes ≤ offset + size)
Fits offset size (Hole place count) = (offset ≤ place) × (place + count ≤ offset + size)
Fits offset size other = Unit {0}

-- the buffer with content
abbrev pub told_bytes : (offset : ℕ) → Content → List ℕ → List ℕ
told_bytes offset content old = if is_content content then with_content offset content old else old

-- of a hole these are the zeros
abbrev pub ZerosOf : Content → List ℕ → Type 0
ZerosOf (Hole place count) zeros = zeros ≡ replicate count 0
ZerosOf other zeros = Unit {0}

-- all that a callback's hearing is read from
abbrev pub query_by : Kind → (offset : ℕ) → Query
query_by kind offset = record { kind = kind; flags = 0; offset = offset; length = 0; payload = [] }
