-- What was asked and answered, from a transcript alone: on each link the export that was asked for, what was told of it, the requests wholly
-- written, and what each came to.
use Rattle.std.specs.Prelude.{ℕ, ◌-◌, Bool, false, ◌&&◌, ◌||◌, List, [], ◌∷◌, map, Option, Some, None, if◌then◌else◌, ◌==◌, nat_le, bytes_eq, codes}
use Rattle.std.specs.Option.{option_map}
use Rattle.lnbd_model.specs.declared.export.Context.{Context as MetaContext}
use Rattle.lnbd_model.specs.declared.export.Extent.{Extent}
use Rattle.lnbd_model.specs.declared.target.Place.{Place}
use Rattle.lnbd_model.specs.declared.target.Target.{Target}
use Rattle.lnbd_model.specs.declared.target.Target.TheVariants.{Tcp, Unix}
use Rattle.lnbd_records.specs.Content.{Content, Data, Hole, Status, Error, ErrorAt, Nothing, Bare}
pub use Rattle.lnbd_records.specs.Flags.{state_zero}
use Rattle.lnbd_records.specs.Numbers.{has_bit}
use Rattle.lnbd_records.specs.Options.{opt_export_name, opt_go}
use Rattle.lnbd_records.specs.Requests.{Asked, Name, Info, Meta, Plain, asked_of}
use Rattle.lnbd_extents.specs.Lists.{flags_at}
use Rattle.lnbd_outcome.specs.Faults.{context_of}
use Rattle.lnbd_outcome.specs.Outcome.{Outcome, Unfinished}
use Rattle.lnbd_outcome.specs.Pieces.{content_of}
use Rattle.lnbd_link.specs.Call.{Call, Connect, Listen, Accept, Read, Write, Pause, Shut, ReadTold, Moved, Unready, Ended, ReadFault, WriteTold, Sent, Full, WriteFault}
use Rattle.lnbd_link.specs.Traffic.{target_of}
use Rattle.lnbd_history.specs.declared.kinds.Phase.{Phase}
use Rattle.lnbd_history.specs.declared.kinds.Phase.TheVariants as phase
use Rattle.lnbd_history.specs.Agreement.{Export, phase, steps, export}
use Rattle.lnbd_history.specs.Commands.{Command, Request}
use Rattle.lnbd_history.specs.Entries.{Piece, Filing, own, pieces, outcome_in}
use Rattle.lnbd_history.specs.History.{request}
use Rattle.lnbd_asked.specs.Client.{Wish}
use Rattle.lnbd_asked.specs.Link.{Nobody, Link, Both, nothing, after_write, after_read, after_end, after_fault}

-- One call after another.

abbrev pub after_read_told : ReadTold → Both → Both
after_read_told (Moved bytes) both = after_read bytes both
after_read_told Unready both = both
after_read_told Ended both = after_end both
after_read_told ReadFault both = after_fault both

abbrev pub after_write_told : WriteTold → Both → Both
after_write_told (Sent bytes) both = after_write bytes both
after_write_told Full both = both
after_write_told WriteFault both = after_fault both

abbrev pub after_call : ℕ → Both → Call → Both
after_call link both (Read n room answer) = if n == link then after_read_told answer both else both
after_call link both (Write n offered answer) = if n == link then after_write_told answer both else both
after_call link both (Connect to given) = both
after_call link both (Listen at given) = both
after_call link both (Accept n answer) = both
after_call link both (Pause wants) = both
after_call link both (Shut n) = both

abbrev pub after_calls : ℕ → Both → List Call → Both
after_calls link both [] = both
after_calls link both (call ∷ calls) = after_calls link (after_call link both call) calls

abbrev pub untold : Both
untold = record { link = nothing; written = []; read = [] }

-- what is known of a link after a transcript
abbrev pub on_link : ℕ → List Call → Link
on_link link calls = (after_calls link untold calls).link

-- The export of a link.

abbrev pub name_in : Option Asked → Option (List ℕ)
name_in None = None
name_in (Some (Name name)) = Some name
name_in (Some (Info name types)) = Some name
name_in (Some (Meta name queries)) = None
name_in (Some Plain) = None

-- the name in the last GO or EXPORT_NAME
abbrev pub name_asked : List Wish → Option (List ℕ)
name_asked [] = None
name_asked (wish ∷ earlier) = if (wish.option == opt_go) || (wish.option == opt_export_name) then name_in (asked_of wish.option wish.body) else name_asked earlier

abbrev pub is_target : Target → Option Target → Bool
is_target to None = false
is_target (Tcp host port) (Some (Tcp other n)) = bytes_eq host other && (port == n)
is_target (Tcp host port) (Some (Unix path)) = false
is_target (Unix path) (Some (Unix other)) = bytes_eq path other
is_target (Unix path) (Some (Tcp host port)) = false

abbrev pub is_name : List ℕ → Option (List ℕ) → Bool
is_name name None = false
is_name name (Some other) = bytes_eq name other

-- the link was connected to this export's address, and this export was asked for
abbrev pub is_of : Place → List Call → ℕ → Bool
is_of place calls link = is_target place.to (target_of link calls) && is_name place.name (name_asked (on_link link calls).wishes)

-- What is known of one link.

-- what was told of the export, once requests may be made
abbrev pub export_at : Phase → Option Export → Option Export
export_at phase.Ready export = export
export_at phase.Greeting export = None
export_at (phase.Asked option) export = None
export_at phase.AskedByName export = None
export_at phase.OptMode export = None
export_at (phase.Refused code) export = None

abbrev pub export_told : Link → Option Export
export_told link = export_at (phase link.heard.turns) (export (steps link.heard.turns))

-- its size
abbrev pub size_of : Option Export → Option ℕ
size_of None = None
size_of (Some export) = Some export.size

abbrev pub size_at : Phase → Option Export → Option ℕ
size_at phase export = size_of (export_at phase export)

abbrev pub size_told : Link → Option ℕ
size_told link = size_at (phase link.heard.turns) (export (steps link.heard.turns))

-- a request without its callbacks
abbrev pub bare : {K : Type 0} → Request K → Command Nobody
bare asks = record { kind = asks.kind; flags = asks.flags; offset = asks.offset; length = asks.length; payload = asks.payload; first = None; done = tt }

-- the request of this cookie
abbrev pub asked_on : Link → ℕ → Option (Command Nobody)
asked_on link cookie = option_map bare (request link.requests cookie)

-- a filing whose callback said nothing
abbrev pub silent : {K : Type 0} → Filing K → Filing K
silent filing = record filing { heard = None }

-- what a request comes to by its own entries alone, where no callback has a say
abbrev pub outcome_of : {K : Type 0} → Option (Request K) → List (Filing K) → Outcome
outcome_of None own = Unfinished
outcome_of (Some asks) own = outcome_in asks (map silent own)

abbrev pub answered : Link → ℕ → Outcome
answered link cookie = outcome_of (request link.requests cookie) (own cookie link.heard.entries)

-- Which positions a block status told as zero.

abbrev pub is_allocation : Option MetaContext → Bool
is_allocation None = false
is_allocation (Some context) = bytes_eq context.name (codes "base:allocation")

-- the extents of base:allocation that a reply tells, where these contexts are agreed
abbrev pub extents_in : List MetaContext → Content → List Extent
extents_in contexts (Status id descriptors) = if is_allocation (context_of id contexts) then descriptors else []
extents_in contexts (Data offset bytes) = []
extents_in contexts (Hole offset size) = []
extents_in contexts (Error number) = []
extents_in contexts (ErrorAt number offset) = []
extents_in contexts Nothing = []
extents_in contexts Bare = []

abbrev pub is_zero : Option ℕ → Bool
is_zero None = false
is_zero (Some flags) = has_bit state_zero flags

-- Of extents laid end to end from a place on, one with the bit ZERO has the position.
abbrev pub zero_in : ℕ → List Extent → ℕ → Bool
zero_in start extents p = nat_le start p && is_zero (flags_at extents (p - start))

abbrev pub zero_by : ℕ → List Piece → ℕ → Bool
zero_by start [] p = false
zero_by start (piece ∷ earlier) p = zero_in start (extents_in piece.contexts (content_of piece.item)) p || zero_by start earlier p

-- by what came for a request alone
abbrev pub zero_told : {K : Type 0} → Option (Request K) → List (Filing K) → ℕ → Bool
zero_told None own p = false
zero_told (Some asks) own p = zero_by asks.offset (pieces own) p

-- an extent of base:allocation in this request's answer told the position as zero
abbrev pub told_zero : Link → ℕ → ℕ → Bool
told_zero link cookie p = zero_told (request link.requests cookie) (own cookie link.heard.entries) p

-- What was asked and answered, by link and cookie.
pub record Dealt : Type 0 where
  -- the request that was wholly written
  pub asked : (link cookie : ℕ) → Option (Command Nobody)
  -- what it came to
  pub outcome : (link cookie : ℕ) → Outcome
  -- whether it told this position as zero
  pub zero : (link cookie position : ℕ) → Bool
  -- the size that was told
  pub size : (link : ℕ) → Option ℕ

abbrev pub only_if : {A : Type 0} → Bool → Option A → Option A
only_if test found = if test then found else None

-- what was asked of this export, and answered
abbrev pub dealt_with : Place → List Call → Dealt
dealt_with place calls = record {
  asked = λ link cookie. only_if (is_of place calls link) (asked_on (on_link link calls) cookie);
  outcome = λ link cookie. if is_of place calls link then answered (on_link link calls) cookie else Unfinished;
  zero = λ link cookie p. is_of place calls link && told_zero (on_link link calls) cookie p;
  size = λ link. only_if (is_of place calls link) (size_told (on_link link calls));
}
