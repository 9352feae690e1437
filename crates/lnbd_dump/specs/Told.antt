-- What is told of the bytes of an export, by what was asked and answered.
use Rattle.std.specs.Prelude.{◌≡◌, ◌-◌, ℕ, true, false, List, get_or, Some}
use Rattle.lnbd_model.specs.declared.kind.Kind.TheVariants.{Read, BlockStatus}
use Rattle.lnbd_history.specs.Commands.{Command}
use Rattle.lnbd_asked.specs.Honest.{Done, Honest, changes, has}
use Rattle.lnbd_asked.specs.Link.{Nobody}
use Rattle.lnbd_asked.specs.Transcript.{Dealt}

-- The byte of a position was told: by a READ that is done, or as zero by a BLOCK_STATUS that is done.
pub data Told (dealt : Dealt) : (p byte : ℕ) → Type 0 where
  As_read : (p byte : ℕ) → (link cookie : ℕ) (asks : Command Nobody) (bytes : List ℕ)
      → dealt.asked link cookie ≡ Some asks → asks.kind ≡ Read → Done dealt link cookie bytes → has asks p ≡ true
      → byte ≡ get_or bytes (p - asks.offset) 0 → Told dealt p byte
  As_zero : (p byte : ℕ) → (link cookie : ℕ) (asks : Command Nobody) (bytes : List ℕ)
      → dealt.asked link cookie ≡ Some asks → asks.kind ≡ BlockStatus → Done dealt link cookie bytes → has asks p ≡ true
      → dealt.zero link cookie p ≡ true → byte ≡ 0 → Told dealt p byte

-- nothing that was asked changes a byte
abbrev pub NothingChanges : Dealt → Type 0
NothingChanges dealt = (link cookie : ℕ) (asks : Command Nobody) → dealt.asked link cookie ≡ Some asks → changes asks.kind ≡ false

-- An export that is honest and wasn't changed holds what was told of it.
abbrev pub HoldsWhatWasTold : Type 0
HoldsWhatWasTold = (holds : List ℕ) (dealt : Dealt) (p byte : ℕ) → Honest holds dealt holds → NothingChanges dealt → Told dealt p byte → get_or holds p 0 ≡ byte
