-- Where a handle and the link that it drives are in step, once requests may be made: the same is shown to both, and under each request that
-- was wholly written the same is filed.
use Rattle.std.specs.Prelude.{◌≡◌, ℕ, ◌≤◌, Bool, true, false, List, map, None, nat_le, if◌then◌else◌}
use Rattle.std.specs.Option.{option_map}
use Rattle.lnbd_stream.specs.Stream.{Held, feed}
use Rattle.lnbd_history.specs.declared.kinds.Phase.TheVariants as phase
use Rattle.lnbd_history.specs.declared.kinds.Stage.{Stage}
use Rattle.lnbd_history.specs.declared.kinds.Stage.TheVariants.{Created, Open, Disconnecting, Aborting, Closed, Dead}
use Rattle.lnbd_history.specs.Agreement.{phase, steps, structured, extended, export, contexts}
use Rattle.lnbd_history.specs.Entries.{Piece, Filing, own, pieces}
use Rattle.lnbd_history.specs.Events.{History}
use Rattle.lnbd_history.specs.History.{Known, asked, request, rules}
use Rattle.lnbd_history.specs.Outgoing.{whole}
use Rattle.lnbd_asked.specs.Link.{Nobody, Link, server}
use Rattle.lnbd_asked.specs.Transcript.{bare, silent, asked_on, answered, outcome_of, size_at, size_told, told_zero, zero_told}

-- replies are read
abbrev pub is_reading : Stage → Bool
is_reading Created = false
is_reading Open = true
is_reading Disconnecting = true
is_reading Aborting = false
is_reading Closed = false
is_reading (Dead cause) = false

-- bytes are passed over
abbrev pub is_passing : Stage → Bool
is_passing Created = false
is_passing Open = false
is_passing Disconnecting = false
is_passing Aborting = true
is_passing Closed = false
is_passing (Dead cause) = false

-- what came for a command, where no callback has a say
abbrev pub silent_pieces : {K : Type 0} → List (Filing K) → List Piece
silent_pieces own = pieces (map silent own)

module _ {K : Type 0} where
  -- the first n requests are the same
  pub record SameRequests (history : History K) (requests : History Nobody) (n : ℕ) : Type 0 where
    pub same : (cookie : ℕ) → nat_le cookie n ≡ true → option_map bare (request history cookie) ≡ option_map bare (request requests cookie)
    pub there : n ≤ (asked history).issued
    pub all : (asked requests).issued ≡ n

  pub record InStep (history : History K) (n : ℕ) (known : Known K) (link : Link) : Type 0 where
    pub ready : phase known.turns ≡ phase.Ready
    pub ready' : phase link.heard.turns ≡ phase.Ready
    pub structured : structured (steps known.turns) ≡ structured (steps link.heard.turns)
    pub extended : extended (steps known.turns) ≡ extended (steps link.heard.turns)
    pub told : export (steps known.turns) ≡ export (steps link.heard.turns)
    pub agreed : contexts (steps known.turns) ≡ contexts (steps link.heard.turns)
    pub reading : is_reading known.stage ≡ is_reading link.heard.stage
    pub goes : is_passing known.stage ≡ false
    pub goes' : is_passing link.heard.stage ≡ false
    pub written : whole known.parts (asked history).wrote ≡ n
    pub requests : SameRequests history link.requests n
    pub filed : (cookie : ℕ) → nat_le cookie n ≡ true → silent_pieces (own cookie known.entries) ≡ silent_pieces (own cookie link.heard.entries)

  -- The link then says what the handle's history says: the requests wholly written, what each came to, which positions each told as zero, and the size.
  pub record SaysSo (history : History K) (n : ℕ) (known : Known K) (link : Link) : Type 0 where
    pub requests : (cookie : ℕ) → asked_on link cookie ≡ (if nat_le cookie n then option_map bare (request history cookie) else None)
    pub outcomes : (cookie : ℕ) → nat_le cookie n ≡ true → answered link cookie ≡ outcome_of (request history cookie) (own cookie known.entries)
    pub size : size_told link ≡ size_at (phase known.turns) (export (steps known.turns))
    pub zero : (cookie p : ℕ) → nat_le cookie n ≡ true → told_zero link cookie p ≡ zero_told (request history cookie) (own cookie known.entries) p

abbrev pub InStepSaysSo : Type 0 → Type 0
InStepSaysSo K = (history : History K) (n : ℕ) (known : Known K) (link : Link) → InStep history n known link → SaysSo history n known link

-- They stay so, whatever comes.
abbrev pub StaysInStep : Type 0 → Type 0
StaysInStep K = (history : History K) (n : ℕ) (handle : Held (Known K)) (link : Held Link) (bytes : List ℕ) → InStep history n handle.known link.known → handle.pending ≡ link.pending →
    InStep history n (feed (rules history) handle bytes).known (feed server link bytes).known × ((feed (rules history) handle bytes).pending ≡ (feed server link bytes).pending)
