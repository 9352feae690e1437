-- How calls use one link alone.
use Rattle.std.specs.Prelude.{◌≡◌, ◌≢◌, ◌≤◌, ◌⊎◌, ℕ, true, List, [], ◌∷◌, ◌++◌, Some}
use Rattle.lnbd_link.specs.Call.{Call, Connect, Listen, Accept, Read, Write, Pause, Shut}
use Rattle.lnbd_link.specs.Numbers.{is_open}
use Rattle.lnbd_link.specs.declared.wires.Want.{Want}
use Rattle.lnbd_model.specs.declared.target.Target.{Target}
use Rattle.lnbd_usage.specs.Links.{LinksAreKept, targets}
use Rattle.lnbd_usage.specs.Pauses.{AtEachPause}
use Rattle.lnbd_usage.specs.Vain.{WasReadInVain, WasWrittenInVain}

-- A pause wants this link alone, to read it or to read and write it. Nothing could be done on it: it was read in vain, and where it is wanted for writing, which 2
-- and 3 stand for, it was written in vain.
pub record WaitsInVain (link : ℕ) (before : List Call) (wants : List Want) : Type 0 where
  pub direction : ℕ
  pub are : wants ≡ record { link = link; direction = direction } ∷ []
  pub some : direction ≢ 0
  pub read : WasReadInVain link before
  pub written : 2 ≤ direction → WasWrittenInVain link before

-- It wants a link so that is open.
abbrev pub WaitsForOne : (before : List Call) → List Want → Type 0
WaitsForOne before wants = (link : ℕ) × (is_open link before ≡ true) × WaitsInVain link before wants

-- These calls connect to this address alone, once at most. They use the link while it is open alone, and shut it; and at each pause they wait for it, and could do nothing on it.
pub record UseOneLink (to : Target) (calls : List Call) : Type 0 where
  pub connects : (targets calls ≡ []) ⊎ (targets calls ≡ to ∷ [])
  pub links : LinksAreKept calls
  pub waits : AtEachPause WaitsForOne calls

-- What comes between the connect and the shut.

-- it reads and writes this link, or pauses
abbrev pub IsTalk : (link : ℕ) → Call → Type 0
IsTalk link (Connect to given) = ⊥
IsTalk link (Listen at listener) = ⊥
IsTalk link (Accept listener answer) = ⊥
IsTalk link (Read n room answer) = n ≡ link
IsTalk link (Write n offered answer) = n ≡ link
IsTalk link (Pause wants) = Unit {0}
IsTalk link (Shut n) = ⊥

abbrev pub AreTalk : (link : ℕ) → List Call → Type 0
AreTalk link [] = Unit {0}
AreTalk link (call ∷ calls) = IsTalk link call × AreTalk link calls

-- A conversation on a link: it is read and written alone, and each pause waits for it in vain.
pub record Converse (link : ℕ) (calls : List Call) : Type 0 where
  pub talk : AreTalk link calls
  pub waits : AtEachPause (WaitsInVain link) calls

-- A conversation on a link that a connect gave, behind which it is shut, uses that link alone.
abbrev pub ConversationsUseOneLink : Type 0
ConversationsUseOneLink = (to : Target) (link : ℕ) (calls : List Call) → Converse link calls → UseOneLink to (Connect to (Some link) ∷ (calls ++ Shut link ∷ []))
