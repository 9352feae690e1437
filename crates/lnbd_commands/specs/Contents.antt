-- What a simple reply brings, and a chunk.
use Rattle.std.specs.Prelude.{◌≡◌, ℕ, List, length, Option, Some, None}
use Rattle.lnbd_records.specs.Content.{Content as Tale, Data}
use Rattle.lnbd_structured.specs.Told.{content_in}
use Rattle.lnbd_commands.specs.declared.content.Brought.{Brought}
use Rattle.lnbd_commands.specs.declared.content.Brought.TheVariants.{Told, Filled}
use Rattle.lnbd_commands.specs.declared.content.Content.{Content}
use Rattle.lnbd_commands.specs.declared.content.Content.TheVariants.{Copied, Moved}

-- its bytes, whether they are copied or their buffer is taken over
abbrev pub bytes_in : Content → List ℕ
bytes_in (Copied bytes) = bytes.now
bytes_in (Moved buffer) = buffer.items

-- what a command's buffer holds where these bytes come, if they do, and what it holds without them
abbrev pub brought_in : Option Content → List ℕ → List ℕ
brought_in None own = own
brought_in (Some content) own = bytes_in content

-- a buffer of so many bytes comes back for one that was handed in
abbrev pub IsSpare : Option Content → ℕ → Type 0
IsSpare None size = Unit {0}
IsSpare (Some (Copied bytes)) size = Unit {0}
IsSpare (Some (Moved buffer)) size = size ≡ length buffer.items

abbrev pub FitsIn : Option Content → ℕ → Type 0
FitsIn None size = Unit {0}
FitsIn (Some content) size = length (bytes_in content) ≡ size

-- what a chunk tells, whether its data are copied or their buffer is taken over
abbrev pub told_of : Brought → Tale
told_of (Told told) = content_in told
told_of (Filled offset buffer) = Data offset buffer.items

-- for such a buffer one of so many bytes comes back
abbrev pub IsSpareOf : Brought → ℕ → Type 0
IsSpareOf (Told told) size = Unit {0}
IsSpareOf (Filled offset buffer) size = size ≡ length buffer.items
