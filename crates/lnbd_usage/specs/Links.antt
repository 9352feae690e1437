-- Which links calls use, which of these are open, and where they connect to.
use Rattle.std.specs.Prelude.{◌≡◌, ℕ, Bool, true, false, List, [], ◌∷◌, ◌++◌, Option, Some, None}
use Rattle.std.specs.List.{flat_map, list_any}
use Rattle.lnbd_link.specs.Call.{Call, Connect, Listen, Accept, Read, Write, Pause, Shut}
use Rattle.lnbd_link.specs.Numbers.{is_open}
use Rattle.lnbd_model.specs.declared.target.Target.{Target}

-- the link that a call reads, writes or shuts
abbrev pub used_by : Call → Option ℕ
used_by (Connect to link) = None
used_by (Listen at listener) = None
used_by (Accept listener answer) = None
used_by (Read link room answer) = Some link
used_by (Write link offered answer) = Some link
used_by (Pause wants) = None
used_by (Shut link) = Some link

-- the call listens for peers, or accepts one
abbrev pub serves : Call → Bool
serves (Connect to link) = false
serves (Listen at listener) = true
serves (Accept listener answer) = true
serves (Read link room answer) = false
serves (Write link offered answer) = false
serves (Pause wants) = false
serves (Shut link) = false

-- Each read, write and shut is of a link that a call before it gave, and that none had shut.
abbrev pub UseOpenLinks : List Call → Type 0
UseOpenLinks calls = (link : ℕ) (before after : List Call) (call : Call) → calls ≡ before ++ call ∷ after → used_by call ≡ Some link → is_open link before ≡ true

-- The links of these calls are used while they are open alone, and each that was given is shut in the end. None listens for peers, or accepts one.
pub record LinksAreKept (calls : List Call) : Type 0 where
  pub used : UseOpenLinks calls
  pub shut : (link : ℕ) → is_open link calls ≡ false
  pub none : list_any serves calls ≡ false

-- the address that a call connects to
abbrev pub target_by : Call → List Target
target_by (Connect to link) = to ∷ []
target_by (Listen at listener) = []
target_by (Accept listener answer) = []
target_by (Read link room answer) = []
target_by (Write link offered answer) = []
target_by (Pause wants) = []
target_by (Shut link) = []

-- the addresses that calls connect to, one after another
abbrev pub targets : List Call → List Target
targets calls = flat_map target_by calls
