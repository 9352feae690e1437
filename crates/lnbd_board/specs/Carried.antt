-- What a copy carries, by what was asked and answered alone: each byte that was told of the source was asked of the destination, unchanged, and that was done. Nothing is
-- said here of what servers hold.
use Rattle.std.specs.Prelude.{◌≡◌, ◌⊎◌, ℕ, ◌-◌, ◌<◌, ◌≤◌, Bool, true, false, List, get_or, slice_get, Some}
use Rattle.lnbd_model.specs.declared.kind.Kind.TheVariants.{Read, Write, Zero}
use Rattle.lnbd_history.specs.Commands.{Command}
use Rattle.lnbd_asked.specs.Honest.{Done, Honest, OnlyOne, Untouched, has}
use Rattle.lnbd_asked.specs.Link.{Nobody}
use Rattle.lnbd_asked.specs.Transcript.{Dealt}
use Rattle.lnbd_plan.specs.declared.cells.Cells.{Cells}
use Rattle.lnbd_plan.specs.declared.grid.Slice.{Slice}
use Rattle.lnbd_board.specs.declared.how.How.{How}
use Rattle.lnbd_board.specs.Holds.{Holds, IsCopied, WasToldSize, WasToldZero}
use Rattle.lnbd_board.specs.Requests.{Request, IsDealt, reads}

-- What was told of the source.

-- No READ that was asked has the position.
abbrev pub IsUnread : Dealt → ℕ → Type 0
IsUnread dealt p = (link cookie : ℕ) (command : Command Nobody) → dealt.asked link cookie ≡ Some command → reads command p ≡ false

-- A block status that is done told the position as zero, and it was not read.
pub record IsToldUnread (source : Dealt) (p : ℕ) : Type 0 where
  pub told : WasToldZero source p
  pub unread : IsUnread source p

-- A READ that is done told this byte of the position.
pub record IsReadAs (source : Dealt) (p byte : ℕ) : Type 0 where
  pub link : ℕ
  pub cookie : ℕ
  pub command : Command Nobody
  pub bytes : List ℕ
  pub asked : source.asked link cookie ≡ Some command
  pub kind : command.kind ≡ Read
  pub done : Done source link cookie bytes
  pub has : has command p ≡ true
  pub told : slice_get bytes (p - command.offset) ≡ Some byte

-- The position was told to have this byte: it was read so; or it was told as zero and not read.
abbrev pub IsToldAs : Dealt → (p byte : ℕ) → Type 0
IsToldAs source p byte = IsReadAs source p byte ⊎ (IsToldUnread source p × (byte ≡ 0))

-- What was asked of the destination.

-- the request is a WRITE that has this byte for the position; or a WRITE_ZEROES, and the byte is zero
abbrev pub Puts : Command Nobody → (p byte : ℕ) → Type 0
Puts command p byte = ((command.kind ≡ Write) × (slice_get command.payload (p - command.offset) ≡ Some byte)) ⊎ ((command.kind ≡ Zero) × (byte ≡ 0))

-- One request that was asked changes the position, and no other does. It puts this byte there, and it is done.
pub record IsPutAs (destination : Dealt) (p byte : ℕ) : Type 0 where
  pub link : ℕ
  pub cookie : ℕ
  pub command : Command Nobody
  pub bytes : List ℕ
  pub one : OnlyOne destination link cookie command p
  pub puts : Puts command p byte
  pub done : Done destination link cookie bytes

-- The byte is zero, the destination is said to be zero, and no request changes the position.
pub record IsPassedOver (blank : Bool) (destination : Dealt) (p byte : ℕ) : Type 0 where
  pub zero : byte ≡ 0
  pub said : blank ≡ true
  pub untouched : Untouched destination p

-- What is carried.

-- The byte that was told of the position is put there, or passed over.
pub record IsCarried (blank : Bool) (source destination : Dealt) (p : ℕ) : Type 0 where
  pub byte : ℕ
  pub told : IsToldAs source p byte
  pub put : IsPutAs destination p byte ⊎ IsPassedOver blank destination p byte

-- So it is with each position of a source of so many bytes. No request changes the source, or the destination behind that.
pub record Carries (blank : Bool) (size : ℕ) (source destination : Dealt) : Type 0 where
  pub each : (p : ℕ) → p < size → IsCarried blank source destination p
  pub kept : (p : ℕ) → Untouched source p
  pub rest : (p : ℕ) → size ≤ p → Untouched destination p

-- Laws.

-- A copy that is copied has carried, where a block status that is done told each position as zero that was planned so.
abbrev pub CopiedIsCarried : Type 0
CopiedIsCarried = (how : How) (cells : Cells) (told : ℕ → Bool) (size : ℕ) (slices : List Slice) (asked changed : List Request) (source destination : Dealt) →
    IsCopied how cells told size slices asked changed → IsDealt asked source → IsDealt changed destination → ((p : ℕ) → p < size → told p ≡ true → WasToldZero source p) →
    Carries how.skip size source destination

-- The destination holds the source, for whatever contents the two exports have, where both servers are honest over what was dealt with them. Contents
-- and servers are the premises: they are not the copy's to keep.
abbrev pub HoldsIfHonest : (blank : Bool) → (size room : ℕ) → Dealt → Dealt → Type 0
HoldsIfHonest blank size room source destination =
    (from to end : List ℕ) → Honest from source from → Honest to destination end → WasToldSize source size → WasToldSize destination room → size ≤ room →
    (blank ≡ true → (p : ℕ) → p < size → get_or to p 0 ≡ 0) → Holds from to end

-- What is carried is held.
abbrev pub CarriedIsHeld : Type 0
CarriedIsHeld = (blank : Bool) (size room : ℕ) (source destination : Dealt) → Carries blank size source destination → HoldsIfHonest blank size room source destination
