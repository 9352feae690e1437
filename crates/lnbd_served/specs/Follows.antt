-- How what was asked and answered follows from what a server did.
use Rattle.std.specs.Prelude.{◌≡◌, ◌≢◌, ℕ, ◌-◌, true, List, length, get_or, Some}
use Rattle.lnbd_model.specs.declared.export.Extent.{Extent}
use Rattle.lnbd_model.specs.declared.kind.Kind.{Kind}
use Rattle.lnbd_model.specs.declared.kind.Kind.TheVariants.{Read}
use Rattle.lnbd_records.specs.Numbers.{has_bit}
use Rattle.lnbd_extents.specs.Lists.{flags_at}
use Rattle.lnbd_history.specs.Commands.{Command}
use Rattle.lnbd_asked.specs.Link.{Nobody}
use Rattle.lnbd_asked.specs.Transcript.{Dealt, state_zero}
use Rattle.lnbd_asked.specs.Honest.{Done, Honest, has}
use Rattle.lnbd_export.specs.Export.{Export, TellsTruly}
use Rattle.lnbd_export.specs.Requests.{Reply, Refused, Content, Status}
use Rattle.lnbd_served.specs.Steps.{Taken, Step, Took, Gave, Has, after, AllRight}

-- the command that was asked is the request that was taken
pub record IsSame (taken : Taken) (asks : Command Nobody) : Type 0 where
  pub kind : taken.request.kind ≡ Some asks.kind
  pub offset : taken.request.offset ≡ asks.offset
  pub length_ : taken.request.length ≡ asks.length
  pub payload : taken.payload ≡ asks.payload

-- what an outcome that is done says of the reply
pub record TellsReply (asks : Command Nobody) (bytes : List ℕ) (given : Reply) : Type 0 where
  pub allowed : (error : ℕ) → given ≢ Refused error
  pub content : (content : List ℕ) (p : ℕ) → asks.kind ≡ Read → given ≡ Content content → has asks p ≡ true → get_or bytes (p - asks.offset) 0 ≡ get_or content (p - asks.offset) 0

-- the reply tells the position as zero
pub record TellsZero (asks : Command Nobody) (p : ℕ) (given : Reply) : Type 0 where
  pub descriptors : List Extent
  pub is : given ≡ Status descriptors
  pub flags : ℕ
  pub there : flags_at descriptors (p - asks.offset) ≡ Some flags
  pub zero : has_bit state_zero flags ≡ true

-- what came of a reply that was made on this link
pub record Came (steps : List Step) (link cookie : ℕ) (P : Reply → Type 0) : Type 0 where
  pub given : Reply
  pub was : Has (Gave link cookie given) steps
  pub is : P given

-- What was taken was asked, and what was answered was replied.
pub record Follows (start : Export) (dealt : Dealt) (steps : List Step) : Type 0 where
  pub sizes : (link size : ℕ) → dealt.size link ≡ Some size → size ≡ length start.bytes
  pub taken : (link : ℕ) (taken : Taken) (kind : Kind) → Has (Took link taken) steps → taken.request.kind ≡ Some kind →
      (asks : Command Nobody) × (dealt.asked link taken.request.cookie ≡ Some asks) × IsSame taken asks
  pub done_ : (link cookie : ℕ) (asks : Command Nobody) (bytes : List ℕ) → dealt.asked link cookie ≡ Some asks → Done dealt link cookie bytes → Came steps link cookie (TellsReply asks bytes)
  pub zero : (link cookie : ℕ) (asks : Command Nobody) (bytes : List ℕ) (p : ℕ) → dealt.asked link cookie ≡ Some asks → Done dealt link cookie bytes → dealt.zero link cookie p ≡ true →
      Came steps link cookie (TellsZero asks p)

-- A server that does what its steps say is honest.
abbrev pub ServersAreHonest : Type 0
ServersAreHonest = (start : Export) (dealt : Dealt) (steps : List Step) → TellsTruly start → AllRight start steps → Follows start dealt steps → Honest start.bytes dealt (after start steps).bytes
