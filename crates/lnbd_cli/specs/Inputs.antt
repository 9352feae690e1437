-- What a read of a script comes to, and how much of the input it takes.
use Rattle.std.specs.Prelude.{◌≡◌, ◌≤◌, ℕ, List, [], Option, Some, Result, Ok, Err, drop}
use Rattle.lnbd_link.specs.Count.{Rises}
use Rattle.lnbd_lines.specs.declared.line.Line.{Line}
use Rattle.lnbd_lines.specs.Scripts.{IsFault, IsScript}
use Rattle.lnbd_cli.specs.Limits.{most_read}
use Rattle.lnbd_cli.specs.declared.input.Unread.{Unread}
use Rattle.lnbd_cli.specs.declared.input.Unread.TheVariants as unread

-- So many bytes were read of what the input held, or all where it held fewer.
abbrev pub ReadUpTo : ℕ → Option (List ℕ) → Option (List ℕ) → Type 0
ReadUpTo n before after = (bytes : List ℕ) → before ≡ Some bytes → after ≡ Some (drop n bytes)

-- No more bytes than so many were read.
abbrev pub ReadAtMost : ℕ → Option (List ℕ) → Option (List ℕ) → Type 0
ReadAtMost most before after = (n : ℕ) × (n ≤ most) × ReadUpTo n before after

-- All that the input held is this script, or has this fault, which no script has.
abbrev pub ReadsScript : Result (List Line) Unread → List ℕ → Option (List ℕ) → Type 0
ReadsScript (Ok lines) all left = IsScript all lines × (left ≡ Some [])
ReadsScript (Err (unread.Line number)) all left = IsFault all number × ((lines : List Line) → ¬ IsScript all lines) × (left ≡ Some (drop most_read all))
ReadsScript (Err unread.Failed) all left = Unit {0}
ReadsScript (Err unread.NoMemory) all left = Unit {0}

abbrev pub IsCaused : Unread → ℕ → ℕ → Type 0
IsCaused (unread.Line number) faults faults' = Unit {0}
IsCaused unread.Failed faults faults' = Rises 1 faults faults'
IsCaused unread.NoMemory faults faults' = Unit {0}
