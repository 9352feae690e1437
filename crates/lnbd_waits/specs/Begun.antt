-- What a client asks of a server when it begins, and that it asks for the end.
use Rattle.std.specs.Prelude.{ℕ, Bool, true, false, List, [], ◌∷◌, codes}
use Rattle.lnbd_model.specs.declared.state.State.{State}
use Rattle.lnbd_model.specs.declared.state.State.TheVariants as state
use Rattle.lnbd_history.specs.Answers.{state_after}
use Rattle.lnbd_history.specs.Events.{History, Name, Context, Structured, Extended, Set, Start, Disconnect}
use Rattle.lnbd_poll.specs.Seen.{Seen}

-- the meta context of the blocks that are allocated (NBD protocol, "base:allocation metadata context")
abbrev pub base_allocation : List ℕ
base_allocation = codes "base:allocation"

-- extended headers, structured replies and this meta context are asked for, and then the export of this name: the latest stands first
abbrev pub begun : {K : Type 0} → (name context : List ℕ) → History K
begun name context = Start ∷ Set (Name name) ∷ Set (Context context) ∷ Set (Structured true) ∷ Set (Extended true) ∷ []

-- a link on which this is about to be asked
abbrev pub begins : {K : Type 0} → (link : ℕ) → (name context : List ℕ) → Seen K
begins link name context = record { link = link; history = begun name context; unread = [] }

abbrev pub is_ready : State → Bool
is_ready state.Created = false
is_ready state.Negotiating = false
is_ready state.OptMode = false
is_ready state.Ready = true
is_ready state.Closing = false
is_ready state.Closed = false
is_ready (state.Dead cause) = false

abbrev pub disconnecting : {K : Type 0} → Bool → History K → History K
disconnecting true history = Disconnect ∷ history
disconnecting false history = history

-- The end is asked for where commands may be issued.
abbrev pub parting : {K : Type 0} → Seen K → Seen K
parting seen = record { link = seen.link; history = disconnecting (is_ready (state_after seen.history)) seen.history; unread = seen.unread }
