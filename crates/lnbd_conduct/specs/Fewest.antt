-- Slices go to the connections with the fewest: how they are bound to connections is told by accounts, from pause to pause, that the calls bear out.
use Rattle.std.specs.Prelude.{ℕ, ◌+◌, ◌==◌, ◌≡◌, ◌<◌, ◌≤◌, ◌⊎◌, ◌++◌, Bool, List, [], ◌∷◌, cond, length, Some, slice_get, if◌then◌else◌}
use Rattle.lnbd_model.specs.declared.target.Place.{Place}
use Rattle.lnbd_model.specs.declared.export.ExportInfo.{ExportInfo}
use Rattle.lnbd_link.specs.Call as wire
use Rattle.lnbd_link.specs.declared.wires.Want.{Want}
use Rattle.lnbd_asked.specs.Transcript.{dealt_with}
use Rattle.lnbd_plan.specs.declared.options.CopyOptions.{CopyOptions}
use Rattle.lnbd_course.specs.Between.{place_of}
use Rattle.lnbd_course.specs.Spread.{FewOn}
use Rattle.lnbd_usage.specs.Pauses.{AtEachPause}
use Rattle.lnbd_conduct.specs.declared.sides.Sides.{Sides}
use Rattle.lnbd_conduct.specs.Sides.{connection_of, is_source}
use Rattle.lnbd_conduct.specs.declared.terms.Terms.{Terms}
use Rattle.lnbd_conduct.specs.Driven.{given_links}
use Rattle.lnbd_conduct.specs.Settled.{AreSettledBy, Settled}
use Rattle.lnbd_conduct.specs.Slices.{IsFull}
use Rattle.lnbd_conduct.specs.Waiting.{IsNegotiating, NoneForWriting}

-- how many of these are this connection
abbrev pub bound_to : (connection : ℕ) → List ℕ → ℕ
bound_to connection [] = 0
bound_to connection (one ∷ bound) = cond (one == connection) 1 0 + bound_to connection bound

-- Of slices that are bound to these connections no more are bound to this one than to any other of so many; of several such it is the first.
pub record HasFewest (count : ℕ) (bound : List ℕ) (connection : ℕ) : Type 0 where
  pub held : connection < count
  pub fewest : (other : ℕ) → other < count → bound_to connection bound ≤ bound_to other bound
  pub first : (other : ℕ) → other < connection → bound_to connection bound < bound_to other bound

-- Behind slices that are bound to these connections others begin, one after another, each on the connection that has the fewest then.
abbrev pub GoToFewest : (count : ℕ) → (bound more : List ℕ) → Type 0
GoToFewest count bound [] = Unit {0}
GoToFewest count bound (connection ∷ more) = HasFewest count bound connection × GoToFewest count (bound ++ connection ∷ []) more

-- Of slices that were bound to the connections `old` some may be over, and all that were begun since went to the fewest, one after another, behind those that are left: as many as
-- were begun more, from `first` to `now`.
pub record WentToFewest (count first now : ℕ) (old new : List ℕ) : Type 0 where
  pub left : List ℕ
  pub more : List ℕ
  pub are : new ≡ left ++ more
  pub over : (connection : ℕ) → bound_to connection left ≤ bound_to connection old
  pub many : now ≡ first + length more
  pub fewest : GoToFewest count left more

-- Which connection of each side the slices are bound to that are begun and not over, as they began, and how many were begun so far.
pub record Account : Type 0 where
  pub source : List ℕ
  pub destination : List ℕ
  pub begun : ℕ

-- before the first slice
abbrev pub no_slices : Account
no_slices = record { source = []; destination = []; begun = 0 }

-- In a step some slices may be over, and on both sides those that it begins go to the fewest.
pub record DealsOnce (sides : Sides) (old new : Account) : Type 0 where
  pub source : WentToFewest sides.source old.begun new.begun old.source new.source
  pub destination : WentToFewest sides.destination old.begun new.begun old.destination new.destination

-- one step after another
abbrev pub DealBy : Sides → (old : Account) → List Account → (new : Account) → Type 0
DealBy sides old [] new = new ≡ old
DealBy sides old (next ∷ steps) new = DealsOnce sides old next × DealBy sides next steps new

pub record DealsOn (sides : Sides) (old new : Account) : Type 0 where
  pub steps : List Account
  pub by : DealBy sides old steps new

-- the slices of a side
abbrev pub bound_on : (source : Bool) → Account → List ℕ
bound_on source account = if source then account.source else account.destination

-- These calls bear an account out: as many slices were begun as it says, all of those that are not finished are bound, and on no link more READ, WRITE and WRITE_ZEROES are
-- unanswered than slices are bound to the connection that it is, by the order in which links were given.
pub record BearOut (asking : Bool) (terms : Terms) (from to : Place) (account : Account) (calls : List wire.Call) : Type 0 where
  pub full : IsFull asking terms from to calls
  pub begun : length full.begun ≡ account.begun
  pub source : length account.source ≡ full.unfinished
  pub destination : length account.destination ≡ full.unfinished
  pub few : (index link : ℕ) → slice_get (given_links calls) index ≡ Some link →
      FewOn (bound_to (connection_of terms.sides index) (bound_on (is_source terms.sides index) account)) link (dealt_with (place_of from to (is_source terms.sides index)) calls)

-- on the terms that these options and what both sides told settle, which have so many connections
pub record BearOutBy (options : CopyOptions) (sides : Sides) (from to : Place) (account : Account) (source destination : ExportInfo) (calls : List wire.Call) : Type 0 where
  pub terms : Terms
  pub settled : AreSettledBy options source destination terms
  pub many : terms.sides ≡ sides
  pub are : BearOut options.extents terms from to account calls

-- At a pause that wants no link for writing a connection negotiates still, or the calls before it bear out the account that is of so many calls.
abbrev pub AreBorneOut : CopyOptions → Sides → (from to : Place) → (account : ℕ → Account) → (before : List wire.Call) → List Want → Type 0
AreBorneOut options sides from to account before wants = NoneForWriting wants →
    IsNegotiating options.extents from to before ⊎ Settled options.extents from to (λ source destination. BearOutBy options sides from to (account (length before)) source destination before) before

-- Slices went to the connections with the fewest: there is an account for each number of calls, from no slices on each dealt on from those before it, and at each pause the calls bear it out.
pub record SlicesGoToFewest (options : CopyOptions) (from to : Place) (calls : List wire.Call) : Type 0 where
  pub sides : Sides
  pub account : ℕ → Account
  pub first : DealsOn sides no_slices (account 0)
  pub later : (m n : ℕ) → m ≤ n → DealsOn sides (account m) (account n)
  pub pauses : AtEachPause (AreBorneOut options sides from to account) calls
