-- How a handle stands with its link: what of its parts was said, what is still to be said, and that the link told of that is in step with it.
use Rattle.std.proofs.Common.{◌≡◌, ◌≢◌, ℕ, ◌+◌, ◌≤◌, Bool, true, false, List, [], ◌∷◌, ◌++◌, length, Option, Some, None, nat_le, ◌⊎◌}
use Rattle.std.specs.Option.{option_map}
use Rattle.lnbd_model.specs.declared.kind.Kind.{Kind}
use Rattle.lnbd_model.specs.declared.state.Cause.{Cause}
use Rattle.lnbd_records.specs.Flags.{flag_no_zeroes}
use Rattle.lnbd_records.specs.Numbers.{AllFit, has_bit}
use Rattle.lnbd_records.specs.Handshake.{client_flags, option_head}
use Rattle.lnbd_records.specs.Transmission.{type_disc}
use Rattle.lnbd_stream.specs.Stream.{Held}
use Rattle.lnbd_history.specs.declared.kinds.Phase.{Phase}
use Rattle.lnbd_history.specs.declared.kinds.Phase.TheVariants.{Greeting, Asked, AskedByName, OptMode, Ready, Refused}
use Rattle.lnbd_history.specs.declared.kinds.Stage.{Stage}
use Rattle.lnbd_history.specs.declared.kinds.Stage.TheVariants.{Created, Open, Disconnecting, Aborting, Closed, Dead}
use Rattle.lnbd_history.specs.Agreement.{phase, steps, extended, export, opt_mode}
use Rattle.lnbd_history.specs.Entries.{own}
use Rattle.lnbd_history.specs.Events.{History}
use Rattle.lnbd_history.specs.History.{Known, asked, request}
use Rattle.lnbd_history.specs.Outgoing.{whole, total}
use Rattle.lnbd_asked.specs.Client.{Said, Flags, Wishes, Orders, Stray, Order, Fits}
use Rattle.lnbd_asked.specs.Link.{Link, server, kind_of, command_of, is_by_name}
use Rattle.lnbd_asked.specs.Laws.{is_waiting}
use Rattle.lnbd_asked.specs.InStep.{InStep, is_reading, silent_pieces}
use Rattle.lnbd_asked.specs.Parts.{requests_in, count}
use Rattle.lnbd_asked.specs.Transcript.{bare, size_at, size_told}
use Rattle.lnbd_asked.proofs.Asks.{wishes_of, IsTail}
use Rattle.lnbd_asked.proofs.Chain.{Reaches}
use Rattle.lnbd_asked.proofs.Phases.{AreShort}
use Rattle.lnbd_asked.proofs.Sending.{Sends}
use Rattle.lnbd_asked.proofs.Turns.{SameTurns}

-- What is to be said in negotiation fits: the flags first, where they are not yet said, and then options.
abbrev pub AreAsks : (greeted : Bool) → List Said → Type 0
AreAsks greeted [] = Unit {0}
AreAsks false (Flags flags ∷ more) = AllFit (client_flags flags) × AreAsks true more
AreAsks true (Wishes wish ∷ more) = AllFit (option_head wish.option (length wish.body)) × AreAsks true more
AreAsks greeted other = ⊥

-- Where the flags are to be said first, they have NO_ZEROES if the hello offered it.
abbrev pub Bows : Link → List Said → Type 0
Bows link [] = Unit {0}
Bows link (Flags flags ∷ more) = has_bit flag_no_zeroes link.heard.flags ≡ true → has_bit flag_no_zeroes flags ≡ true
Bows link (Wishes wish ∷ more) = Unit {0}
Bows link (Orders order ∷ more) = Unit {0}
Bows link (Stray ∷ more) = Unit {0}

-- A link's stage is open until it is dead.
abbrev pub IsOpened : Stage → Type 0
IsOpened Open = Unit {0}
IsOpened (Dead why) = Unit {0}
IsOpened other = ⊥

-- nothing goes out or comes in any more
abbrev pub is_done : Stage → Bool
is_done Created = false
is_done Open = false
is_done Disconnecting = false
is_done Aborting = false
is_done Closed = true
is_done (Dead why) = true

-- whether the flags are said, after these
abbrev pub greeted_after : Bool → List Said → Bool
greeted_after greeted [] = greeted
greeted_after greeted (one ∷ more) = true

-- where negotiation stands on both sides
abbrev pub Meets : Phase → Link → Type 0
Meets Greeting link = (phase link.heard.turns ≡ Greeting) × (is_by_name link.wishes ≡ false) × (link.greeted ≡ false) × (steps link.heard.turns ≡ [])
Meets (Asked option) link = (phase link.heard.turns ≡ Asked option) × (is_by_name link.wishes ≡ false) × (link.greeted ≡ true)
Meets AskedByName link = (phase link.heard.turns ≡ OptMode) × (is_by_name link.wishes ≡ true) × (link.greeted ≡ true)
Meets OptMode link = ⊥
Meets Ready link = ⊥
Meets (Refused code) link = ⊥

module _ {K : Type 0} where
  -- this request is the next one of the history, or DISC
  abbrev pub IsNextOf : (extended : Bool) → History K → ℕ → Order → Option Kind → Type 0
  IsNextOf extended history n order None = order.type ≡ type_disc
  IsNextOf extended history n order (Some kind) = (order.cookie ≡ n + 1) × (option_map bare (request history (n + 1)) ≡ Some (command_of extended kind order))

  -- These are the requests behind the first n.
  abbrev pub Owed : (extended : Bool) → History K → ℕ → List Said → Type 0
  Owed extended history n [] = (asked history).issued ≡ n
  Owed extended history n (Orders order ∷ more) =
      Fits extended (Orders order) × IsNextOf extended history n order (kind_of order.type) × Owed extended history (n + requests_in (Orders order)) more
  Owed extended history n other = ⊥

  -- Extended headers are as they are once requests may be made.
  abbrev pub IsRight : Known K → Bool → Type 0
  IsRight known e = phase known.turns ≡ Ready → e ≡ extended (steps known.turns)

  -- Negotiation goes on.
  pub record Haggles (history : History K) (known : Known K) (link : Link) (front orders : List Said) : Type 0 where
    pub stage : (known.stage ≡ Created) ⊎ (known.stage ≡ Open)
    pub stage' : link.heard.stage ≡ Open
    pub started : known.stage ≡ Created → phase known.turns ≡ Greeting
    pub opts : known.stage ≡ Open → opt_mode known.turns ≡ false
    pub none : (asked history).issued ≡ 0
    pub none' : link.requests ≡ []
    pub filed : (c : ℕ) → own c known.entries ≡ []
    pub filed' : link.heard.entries ≡ []
    pub same : SameTurns known.turns link.heard.turns
    pub flags : known.flags ≡ link.heard.flags
    pub passed : known.passed ≡ link.heard.passed
    pub meets : Meets (phase known.turns) link
    pub short : AreShort known.turns
    pub counted : count front ≡ 0
    pub orders_ : orders ≡ []

  -- Requests may be made.
  pub record Transmits (history : History K) (known : Known K) (link : Link) (front asks orders : List Said) : Type 0 where
    pub step : InStep history (count front) known link
    pub begun : known.stage ≢ Created
    pub greeted : link.greeted ≡ true
    pub owed : Owed (extended (steps known.turns)) history (count front) orders
    pub quiet : (asks ≡ []) ⊎ (count front ≡ 0)
    -- nothing was filed under a request that isn't wholly written, before the end
    pub unfiled : is_reading known.stage ≡ true → (c : ℕ) → nat_le c (count front) ≡ false → silent_pieces (own c known.entries) ≡ []
    pub unfiled' : (c : ℕ) → nat_le c (count front) ≡ false → silent_pieces (own c link.heard.entries) ≡ []

  pub record Alive (history : History K) (held : Held (Known K)) (h : Held Link) (written : List ℕ) : Type 0 where
    pub front : List Said
    pub asks : List Said
    pub orders : List Said
    pub v : Held Link
    pub sends : (e : Bool) → IsRight held.known e → Sends e held.known.parts (asked history).wrote front (asks ++ orders) written
    pub reach : Reaches h asks v
    pub fresh : h.known.strayed ≡ false
    pub settled : server.shows h.known h.pending ≡ None
    pub opened : IsOpened h.known.heard.stage
    pub are : AreAsks h.known.greeted asks
    pub bows : Bows h.known asks
    pub greets : greeted_after h.known.greeted asks ≡ v.known.greeted
    pub pend : held.pending ≡ v.pending
    pub options : v.known.wishes ≡ wishes_of held.known.turns
    pub stands : Haggles history held.known v.known front orders ⊎ Transmits history held.known v.known front asks orders

  -- Nothing counts on the link any more.
  pub record Over (history : History K) (held : Held (Known K)) (h : Held Link) : Type 0 where
    pub done_ : is_done held.known.stage ≡ true
    pub none' : (asked h.known.requests).issued ≡ 0
    pub untold : size_told h.known ≡ None
    pub options : IsTail h.known.wishes (wishes_of held.known.turns)
    pub stuck : (is_waiting h.known ≡ true) ⊎ ((cause : Cause) × (h.known.heard.stage ≡ Dead cause))
    pub settled : server.shows h.known h.pending ≡ None
    pub unwritten : whole held.known.parts (asked history).wrote ≡ 0
    pub unsized : total held.known.parts ≤ (asked history).wrote → size_at (phase held.known.turns) (export (steps held.known.turns)) ≡ None

  abbrev pub Stands : History K → Held (Known K) → Held Link → List ℕ → Type 0
  Stands history held h written = Alive history held h written ⊎ Over history held h
