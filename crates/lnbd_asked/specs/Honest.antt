-- What an honest server tells of an export, between its contents at the start and at the end.
use Rattle.std.specs.Prelude.{◌≡◌, ℕ, ◌-◌, Bool, true, false, ◌&&◌, List, length, get_or, Some}
use Rattle.lnbd_model.specs.declared.kind.Kind.{Kind}
use Rattle.lnbd_model.specs.declared.kind.Kind.TheVariants.{Read, Write, Flush, Trim, Cache, Zero, BlockStatus}
use Rattle.lnbd_model.specs.declared.target.Place.{Place}
use Rattle.lnbd_extents.specs.Positions.{within}
use Rattle.lnbd_outcome.specs.Outcome as outcome
use Rattle.lnbd_link.specs.Call.{Call}
use Rattle.lnbd_history.specs.Commands.{Command}
use Rattle.lnbd_asked.specs.Link.{Nobody}
use Rattle.lnbd_asked.specs.Transcript.{Dealt, dealt_with}

-- What a request covers.

-- its range has the position
abbrev pub has : Command Nobody → ℕ → Bool
has asks p = within (asks.offset, asks.length) p

-- WRITE, WRITE_ZEROES and TRIM
abbrev pub changes : Kind → Bool
changes Read = false
changes Write = true
changes Flush = false
changes Trim = true
changes Cache = false
changes Zero = true
changes BlockStatus = false

abbrev pub covers : Command Nobody → ℕ → Bool
covers asks p = changes asks.kind && has asks p

-- the request is done, with these bytes
abbrev pub Done : Dealt → (link cookie : ℕ) → List ℕ → Type 0
Done dealt link cookie bytes = dealt.outcome link cookie ≡ outcome.Done bytes

-- no WRITE, WRITE_ZEROES or TRIM that was asked covers the position
abbrev pub Untouched : Dealt → ℕ → Type 0
Untouched dealt p = (link cookie : ℕ) (asks : Command Nobody) → dealt.asked link cookie ≡ Some asks → covers asks p ≡ false

-- this request covers the position, and no other that was asked does
pub record OnlyOne (dealt : Dealt) (link cookie : ℕ) (asks : Command Nobody) (p : ℕ) : Type 0 where
  pub asked : dealt.asked link cookie ≡ Some asks
  pub here : covers asks p ≡ true
  pub only : (link' cookie' : ℕ) (other : Command Nobody) → dealt.asked link' cookie' ≡ Some other → covers other p ≡ true → (link' ≡ link) × (cookie' ≡ cookie)

-- what a WRITE or a WRITE_ZEROES leaves at a position
abbrev pub Leaves : Command Nobody → ℕ → ℕ → Type 0
Leaves asks p byte = (asks.kind ≡ Write → byte ≡ get_or asks.payload (p - asks.offset) 0) × (asks.kind ≡ Zero → byte ≡ 0)

-- The five facts.

-- Each told size is the length at the start, and the end has the same length.
pub record SizesAreTrue (start : List ℕ) (dealt : Dealt) (end : List ℕ) : Type 0 where
  pub told : (link size : ℕ) → dealt.size link ≡ Some size → size ≡ length start
  pub kept : length end ≡ length start

-- A byte told by a READ that is done is the start's byte, where nothing that was asked changes it.
abbrev pub ReadsAreTrue : List ℕ → Dealt → Type 0
ReadsAreTrue start dealt = (link cookie : ℕ) (asks : Command Nobody) (bytes : List ℕ) (p : ℕ) →
    dealt.asked link cookie ≡ Some asks → asks.kind ≡ Read → Done dealt link cookie bytes → has asks p ≡ true → Untouched dealt p →
    get_or bytes (p - asks.offset) 0 ≡ get_or start p 0

-- Where one WRITE, WRITE_ZEROES or TRIM that was asked covers a position, and it is a WRITE or WRITE_ZEROES that is done, the
-- end has the written byte, or zero.
abbrev pub WritesAreHeld : Dealt → List ℕ → Type 0
WritesAreHeld dealt end = (link cookie : ℕ) (asks : Command Nobody) (bytes : List ℕ) (p : ℕ) →
    OnlyOne dealt link cookie asks p → Done dealt link cookie bytes → Leaves asks p (get_or end p 0)

-- A byte that none of them covers is as at the start.
abbrev pub RestIsKept : List ℕ → Dealt → List ℕ → Type 0
RestIsKept start dealt end = (p : ℕ) → Untouched dealt p → get_or end p 0 ≡ get_or start p 0

-- A byte that a BLOCK_STATUS which is done told as zero, within its request, was zero at the start, where nothing that was asked changes it.
abbrev pub ZeroesAreTrue : List ℕ → Dealt → Type 0
ZeroesAreTrue start dealt = (link cookie : ℕ) (asks : Command Nobody) (bytes : List ℕ) (p : ℕ) →
    dealt.asked link cookie ≡ Some asks → asks.kind ≡ BlockStatus → Done dealt link cookie bytes → has asks p ≡ true → dealt.zero link cookie p ≡ true → Untouched dealt p →
    get_or start p 0 ≡ 0

pub record Honest (start : List ℕ) (dealt : Dealt) (end : List ℕ) : Type 0 where
  pub sizes : SizesAreTrue start dealt end
  pub reads : ReadsAreTrue start dealt
  pub writes : WritesAreHeld dealt end
  pub rest : RestIsKept start dealt end
  pub zeroes : ZeroesAreTrue start dealt

-- The server of this export is honest over a transcript.
abbrev pub IsHonest : Place → List ℕ → List Call → List ℕ → Type 0
IsHonest place start calls end = Honest start (dealt_with place calls) end
