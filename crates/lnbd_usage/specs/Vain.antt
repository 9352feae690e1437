-- Which links were read and written in vain since anything happened.
use Rattle.std.specs.Prelude.{◌≡◌, ℕ, Bool, true, false, List, ◌∷◌, ◌++◌}
use Rattle.std.specs.List.{list_any}
use Rattle.lnbd_link.specs.Call as wire
use Rattle.lnbd_link.specs.Call.{Connect, Listen, Accept, Read, Write, Pause, Shut, Moved, Unready, Ended, ReadFault, Sent, Full, WriteFault}

-- Something happened, unless the call is a read or a write in vain: one that gave nothing yet, or took nothing.
abbrev pub has_happened : wire.Call → Bool
has_happened (Connect to given) = true
has_happened (Listen at listener) = true
has_happened (Accept listener answer) = true
has_happened (Read n room (Moved bytes)) = true
has_happened (Read n room Unready) = false
has_happened (Read n room Ended) = true
has_happened (Read n room ReadFault) = true
has_happened (Write n offered (Sent bytes)) = true
has_happened (Write n offered Full) = false
has_happened (Write n offered WriteFault) = true
has_happened (Pause wants) = true
has_happened (Shut n) = true

-- By these calls a link was read in vain: a read of it told that nothing is there yet, and nothing happened since on any link.
pub record WasReadInVain (link : ℕ) (calls : List wire.Call) : Type 0 where
  pub earlier : List wire.Call
  pub room : ℕ
  pub later : List wire.Call
  pub are : calls ≡ earlier ++ Read link room Unready ∷ later
  pub nothing : list_any has_happened later ≡ false

-- By these calls a link was written in vain: a write of it took nothing, and nothing happened since on any link.
pub record WasWrittenInVain (link : ℕ) (calls : List wire.Call) : Type 0 where
  pub earlier : List wire.Call
  pub offered : ℕ
  pub later : List wire.Call
  pub are : calls ≡ earlier ++ Write link offered Full ∷ later
  pub nothing : list_any has_happened later ≡ false
