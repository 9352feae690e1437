-- What was written last on a link, and that a write in vain tells of it.
use Rattle.std.specs.Prelude.{◌≡◌, ◌==◌, ℕ, List, [], ◌∷◌, Option, Some, None, if◌then◌else◌}
use Rattle.lnbd_link.specs.Call as wire
use Rattle.lnbd_link.specs.Call.{Connect, Listen, Accept, Read, Write, Pause, Shut, WriteTold, Full}
use Rattle.lnbd_usage.specs.Vain.{WasWrittenInVain}

-- what the last write of a link told since the last pause, where it was this before the call
abbrev pub told_with : (link : ℕ) → wire.Call → Option WriteTold → Option WriteTold
told_with link (Connect to given) last = last
told_with link (Listen at listener) last = last
told_with link (Accept listener answer) last = last
told_with link (Read n room answer) last = last
told_with link (Write n offered answer) last = if n == link then Some answer else last
told_with link (Pause wants) last = None
told_with link (Shut n) last = last

-- the same, where it was this before the calls
abbrev pub told_after : (link : ℕ) → List wire.Call → Option WriteTold → Option WriteTold
told_after link [] last = last
told_after link (call ∷ calls) last = told_after link calls (told_with link call last)

-- what the last write of a link told since the last pause, if there was one
abbrev pub last_write : (link : ℕ) → List wire.Call → Option WriteTold
last_write link calls = told_after link calls None

-- Of a link that was written in vain the last write took nothing, and it came since the last pause.
abbrev pub VainWritesAreLast : Type 0
VainWritesAreLast = (link : ℕ) (calls : List wire.Call) → WasWrittenInVain link calls → last_write link calls ≡ Some Full
