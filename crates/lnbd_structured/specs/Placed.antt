-- The buffer of a read with content.
use Rattle.std.specs.Prelude.{ℕ, ◌+◌, ◌-◌, List, ◌++◌, length, take, drop, get_or, if◌then◌else◌}
use Rattle.lnbd_outcome.specs.Outcome.{each}
use Rattle.lnbd_outcome.specs.Pieces.{has_place, byte_of}
use Rattle.lnbd_records.specs.Content.{Content}

-- At each place of the read that begins here stands the content's byte where the content has the place, and else what stood there.
abbrev pub with_content : (offset : ℕ) → Content → List ℕ → List ℕ
with_content offset content old = each (λ p. if has_place content p then byte_of content p else get_or old (p - offset) 0) offset (length old)

-- the same bytes by the indices of the buffer
abbrev pub written : List ℕ → ℕ → List ℕ → List ℕ
written old at bytes = take at old ++ bytes ++ drop (at + length bytes) old
