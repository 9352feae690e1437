-- What lies ready for bytes that come in pieces, so that they take no memory.
use Rattle.std.specs.Prelude.{◌≡◌, ◌⊎◌, ℕ, ◌+◌, ◌<◌, ◌≤◌, Bool, true, false, List, [], ◌∷◌, length, take, Option, Some, None, IfSome, vec_len, vec_capacity}
use Rattle.lnbd_model.specs.declared.kind.Kind.{Kind}
use Rattle.lnbd_model.specs.declared.state.State.TheVariants as standing
use Rattle.lnbd_model.specs.Kind.{is_read}
use Rattle.lnbd_history.specs.declared.kinds.Phase.{Phase}
use Rattle.lnbd_history.specs.declared.kinds.Phase.TheVariants.{Ready}
use Rattle.lnbd_history.specs.declared.kinds.Stage.{Stage}
use Rattle.lnbd_history.specs.Commands.{Flight}
use Rattle.lnbd_machine.specs.Machine.{Row, State}
use Rattle.lnbd_machine.specs.Now.{state_now}
use Rattle.lnbd_arrivals.specs.Frames.{front_size, replies_by}
use Rattle.lnbd_arrivals.specs.declared.announced.Announced.{Announced}
use Rattle.lnbd_arrivals.specs.declared.replies.Replies.TheVariants.{Extended}
use Rattle.lnbd_handle.specs.declared.pending.Pending.{Pending}
use Rattle.lnbd_handle.specs.Announcing.{announced_at, is_speaking, replies_in}

-- Where both sides speak of commands, simple replies alone come.
pub record RepliesSimply (stage : Stage) (phase : Phase) (structured extended : Bool) : Type 0 where
  pub speaking : is_speaking stage ≡ true
  pub ready : phase ≡ Ready
  pub compact : structured ≡ false
  pub short : extended ≡ false

-- Extended headers are on only where structured replies are.
abbrev pub AreOrdered : (structured extended : Bool) → Type 0
AreOrdered structured extended = extended ≡ true → structured ≡ true

-- the most bytes that stand before the data of a reply: an extended head and the place of the data
abbrev pub longest_front : ℕ
longest_front = front_size Extended

-- The data that are held stand in front of the buffer, and all that stands before the data of a reply has room.
pub record IsKept (pending : Pending) : Type 0 where
  pub within : pending.came ≤ vec_len pending.content
  pub room : longest_front ≤ vec_capacity pending.head

-- What the front of the bytes that are held announces is kept with them: what is held as one is then that front alone, and else no data are held apart.
pub record KeepsFront (size : ℕ) (announces : List ℕ → Option Announced) (pending : Pending) : Type 0 where
  pub says : pending.announced ≡ announces (take size pending.head.items)
  pub alone : IfSome pending.announced (λ announced. length pending.head.items ≡ size)
  pub none : pending.announced ≡ None → pending.came ≡ 0

-- So many bytes are data that were announced, or they and a front that is held, and is not all there, are no more than the front.
abbrev pub AreWithin : (size : ℕ) → Option Announced → Pending → ℕ → Type 0
AreWithin size None pending n = length pending.head.items < size → length pending.head.items + n ≤ size
AreWithin size (Some announced) pending n = pending.came + n ≤ announced.size

module _ {K : Type 0} where
  abbrev pub IfFlies : (Kind → ℕ → Flight K → Type 0) → Kind → ℕ → Option (Flight K) → Type 0
  IfFlies holds kind length None = Unit {0}
  IfFlies holds kind length (Some flight) = holds kind length flight

  -- this holds of each command in flight, by its kind, its length and its callbacks
  abbrev pub EachFlies : (Kind → ℕ → Flight K → Type 0) → List (ℕ × Row K) → Type 0
  EachFlies holds [] = Unit {0}
  EachFlies holds (entry ∷ rows) = IfFlies holds entry.1.kind entry.1.length entry.1.flight × EachFlies holds rows

  -- No read in flight has more bytes than these.
  abbrev pub ReadsFit : (size : ℕ) → List (ℕ × Row K) → Type 0
  ReadsFit size rows = EachFlies (λ kind length flight. is_read kind ≡ true → length ≤ size) rows

  -- No command in flight has a chunk callback: the first callback of a read. That of a block status hears extents, which no simple reply tells.
  abbrev pub NoneHears : List (ℕ × Row K) → Type 0
  NoneHears rows = EachFlies (λ kind length flight. is_read kind ≡ true → flight.first ≡ None) rows

  -- The buffer of data has room for each read in flight, and what a front announces is kept with it.
  pub record HasPlaces (structured extended : Bool) (rows : List (ℕ × Row K)) (announces : List ℕ → Option Announced) (pending : Pending) : Type 0 where
    pub kept : IsKept pending
    pub fits : ReadsFit (vec_len pending.content) rows
    pub ordered : AreOrdered structured extended
    pub said : KeepsFront (front_size (replies_by structured extended)) announces pending

  -- the same by the machine's state
  abbrev pub KeepsFrontAt : State K → Pending → Type 0
  KeepsFrontAt state pending = KeepsFront (front_size (replies_in state)) (announced_at state) pending

  abbrev pub HasPlacesAt : State K → Pending → Type 0
  HasPlacesAt state pending = HasPlaces state.talk.structured state.talk.extended state.rows (announced_at state) pending

  -- Where both sides speak, simple replies alone come.
  abbrev pub ComeSimply : State K → Type 0
  ComeSimply state = is_speaking state.stage ≡ true → RepliesSimply state.stage state.talk.phase state.talk.structured state.talk.extended

  -- Simple replies alone come, and no chunk callback makes a note.
  abbrev pub IsQuiet : State K → Type 0
  IsQuiet state = RepliesSimply state.stage state.talk.phase state.talk.structured state.talk.extended × NoneHears state.rows

  -- What arrives wants no memory.
  abbrev pub IsCalm : State K → Type 0
  IsCalm state = is_speaking state.stage ≡ true → IsQuiet state

  -- Ready or Closing, structured replies are off, and no command in flight has a chunk callback.
  pub record IsPlain (state : State K) : Type 0 where
    pub stands : (state_now state ≡ standing.Ready) ⊎ (state_now state ≡ standing.Closing)
    pub simple : state.talk.structured ≡ false
    pub unheard : NoneHears state.rows
