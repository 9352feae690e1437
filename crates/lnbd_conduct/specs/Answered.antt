-- What the source had answered of its extents before it was read.
use Rattle.std.specs.Prelude.{List, [], Option, Some, None, ◌≡◌, ℕ, ◌∷◌, Bool, ◌++◌, ◌⊎◌, true}
use Rattle.lnbd_model.specs.declared.export.Context.{Context}
use Rattle.lnbd_model.specs.declared.export.ExportInfo.{ExportInfo}
use Rattle.lnbd_model.specs.declared.target.Place.{Place}
use Rattle.lnbd_model.specs.declared.state.State.TheVariants as state
use Rattle.lnbd_history.specs.Answers.{info_after, state_after}
use Rattle.lnbd_history.specs.Events.{History}
use Rattle.lnbd_link.specs.Call.{Call}
use Rattle.lnbd_link.specs.Numbers.{given_by}
use Rattle.lnbd_link.specs.Traffic.{target_of}
use Rattle.lnbd_asked.specs.Exports.{name_set}
use Rattle.lnbd_asked.specs.Transcript.{dealt_with}
use Rattle.lnbd_board.specs.declared.ticket.Ticket.{Ticket}
use Rattle.lnbd_board.specs.Requests.{reads}
use Rattle.lnbd_board.specs.Carried.{IsUnread}
use Rattle.lnbd_course.specs.Answered.{WasAnsweredFirst}
use Rattle.lnbd_course.specs.Asks.{EachAsked}
use Rattle.lnbd_course.specs.Passed.{WasFirst}
use Rattle.lnbd_course.specs.Reached.{WasTold}
use Rattle.lnbd_conduct.specs.Begun.{BeganAs, opened, DrivenBy}

-- No meta context.

-- those that are agreed, by what was told of an export
abbrev pub contexts_in : Option ExportInfo → List Context
contexts_in None = []
contexts_in (Some info) = info.contexts

-- A handle may make requests, and agreed no meta context.
pub record HasNoContext (history : History Ticket) : Type 0 where
  pub ready : state_after history ≡ state.Ready
  pub none : contexts_in (info_after history) ≡ []

-- The first connection.

abbrev pub or_later : Option ℕ → Option ℕ → Option ℕ
or_later None later = later
or_later (Some link) later = Some link

-- the first number that a call gave
abbrev pub first_given : List Call → Option ℕ
first_given [] = None
first_given (call ∷ calls) = or_later (given_by call) (first_given calls)

-- By a front of the calls the first link that was made was one to this place, and the handle that drove it, and asked for the export there, and
-- before for base:allocation where extents are wanted, agreed no meta context.
pub record FirstAgreedNone (extents : Bool) (from : Place) (calls : List Call) : Type 0 where
  pub before : List Call
  pub after : List Call
  pub are : calls ≡ before ++ after
  pub link : ℕ
  pub history : History Ticket
  pub first : first_given before ≡ Some link
  pub drives : DrivenBy link history before
  pub address : target_of link before ≡ Some from.to
  pub name : name_set history ≡ from.name
  pub begun : BeganAs (opened from.name extents) history
  pub none : HasNoContext history

-- What is read.

-- A block status was answered for the position before it was read, or none could be asked for.
abbrev pub MayBeRead : (extents : Bool) → (from : Place) → (p : ℕ) → List Call → Type 0
MayBeRead extents from p calls = WasAnsweredFirst from p calls ⊎ FirstAgreedNone extents from calls

-- So it is with each position of each READ of the source, where extents are wanted or not.
pub record ReadsAreAnswered (extents : Bool) (from : Place) (calls : List Call) : Type 0 where
  pub each : EachAsked (λ command. (p : ℕ) → reads command p ≡ true → MayBeRead extents from p calls) (dealt_with from calls)

-- What asking passes.

-- By a front of the calls it was so, and the position of the source was not read yet.
pub record WasSoFirst (from : Place) (p : ℕ) (Is : List Call → Type 0) (calls : List Call) : Type 0 where
  pub before : List Call
  pub after : List Call
  pub are : calls ≡ before ++ after
  pub so : Is before
  pub unread : IsUnread (dealt_with from before) p

-- Asking for extents passed the position before it was read: a BLOCK_STATUS of the source that is done told of it, or the position is in the first block, of this
-- size, of what one that is done asked for; or none could be asked for.
abbrev pub WasPassed : (extents : Bool) (grain : ℕ) (from : Place) (p : ℕ) → List Call → Type 0
WasPassed extents grain from p calls = (WasSoFirst from p (WasTold from p) calls ⊎ WasSoFirst from p (WasFirst grain from p) calls) ⊎ FirstAgreedNone extents from calls

-- So it is with each position of each READ of the source.
pub record ReadsArePassed (extents : Bool) (grain : ℕ) (from : Place) (calls : List Call) : Type 0 where
  pub each : EachAsked (λ command. (p : ℕ) → reads command p ≡ true → WasPassed extents grain from p calls) (dealt_with from calls)
