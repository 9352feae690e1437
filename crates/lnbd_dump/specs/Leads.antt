-- How the handle goes on, by its history and by the calls on its link, and what then stays so.
use Rattle.std.specs.Prelude.{◌≡◌, ◌-◌, ℕ, Bool, true, false, List, [], ◌++◌, get_or, Option, Some, None}
use Rattle.lnbd_model.specs.declared.export.ExportInfo.{ExportInfo}
use Rattle.lnbd_model.specs.declared.kind.Kind.TheVariants.{Read, BlockStatus}
use Rattle.lnbd_outcome.specs.Outcome.{Done}
use Rattle.lnbd_history.specs.Commands.{Request}
use Rattle.lnbd_history.specs.Entries.{calls}
use Rattle.lnbd_history.specs.Events.{Event, History}
use Rattle.lnbd_history.specs.History.{reading, request}
use Rattle.lnbd_history.specs.Laws.{Lawful, is_closed}
use Rattle.lnbd_handle.specs.Histories.{max_unretired}
use Rattle.lnbd_link.specs.Call as wire
use Rattle.lnbd_link.specs.Numbers.{is_given}
use Rattle.lnbd_asked.specs.Driven.{outcome_after, zero_after}
use Rattle.lnbd_asked.specs.Exports.{name_set}
use Rattle.lnbd_asked.specs.Honest.{has}
use Rattle.lnbd_asked.specs.Transcript.{bare}
use Rattle.lnbd_poll.specs.Held.{Held}
use Rattle.lnbd_poll.specs.Seen.{Goes, Seen}
use Rattle.lnbd_drives.proofs.Taking.{Ran, Runs}
use Rattle.lnbd_poll.specs.Turns.{Blames}
use Rattle.lnbd_kept.specs.Kept.{AllKeep}
use Rattle.lnbd_ask.proofs.LostLemmas.{AllWell, IsKept}
use Rattle.lnbd_waits.specs.Waits.{Holds}
use Rattle.lnbd_usage.specs.OneLink.{Converse}
use Rattle.lnbd_dump.specs.declared.reader.Latest.{Latest}
use Rattle.lnbd_dump.specs.declared.reader.Reader.{Reader}
use Rattle.lnbd_dump.specs.Conduct.{AreWell, AsksNothing}
use Rattle.lnbd_dump.specs.Heard.{kept, told_by}

-- ---- What a history says.

-- a READ of this range was asked under this cookie
pub record IsRead (history : History Reader) (cookie from size : ℕ) : Type 0 where
  pub asks : Request Reader
  pub there : request history cookie ≡ Some asks
  pub kind : asks.kind ≡ Read
  pub offset : asks.offset ≡ from
  pub length_ : asks.length ≡ size
  pub payload : asks.payload ≡ []

-- A READ that is done told this byte of this position.
pub record TellsByte (history : History Reader) (p byte : ℕ) : Type 0 where
  pub cookie : ℕ
  pub asks : Request Reader
  pub bytes : List ℕ
  pub there : request history cookie ≡ Some asks
  pub kind : asks.kind ≡ Read
  pub done : outcome_after history cookie ≡ Done bytes
  pub has_it : has (bare asks) p ≡ true
  pub is : byte ≡ get_or bytes (p - asks.offset) 0

-- A BLOCK_STATUS that is done told this position as zero.
pub record TellsZero (history : History Reader) (p : ℕ) : Type 0 where
  pub cookie : ℕ
  pub asks : Request Reader
  pub bytes : List ℕ
  pub there : request history cookie ≡ Some asks
  pub kind : asks.kind ≡ BlockStatus
  pub done : outcome_after history cookie ≡ Done bytes
  pub has_it : has (bare asks) p ≡ true
  pub zero : zero_after history cookie p ≡ true

pub data Tells (history : History Reader) (p byte : ℕ) : Type 0 where
  By_read : TellsByte history p byte → Tells history p byte
  By_status : byte ≡ 0 → TellsZero history p → Tells history p byte

-- the world has the extents that were told last, but where memory ran out
abbrev pub IsTied : Latest → History Reader → Type 0
IsTied world history = (world.short ≡ false) → kept world ≡ told_by None (calls (reading history).known.entries)

-- ---- What stays.

-- a history that a handle may have which is not closed
abbrev pub IsGoing : History Reader → Type 0
IsGoing history = Lawful max_unretired history × (is_closed history ≡ false)

-- What was asked, what came of it and what was told as zero is so still.
pub record Grown (before after : History Reader) : Type 0 where
  pub since : List (Event Reader)
  pub is : after ≡ since ++ before
  pub asked : (cookie : ℕ) (asks : Request Reader) → request before cookie ≡ Some asks → request after cookie ≡ Some asks
  pub done : (cookie : ℕ) (asks : Request Reader) (bytes : List ℕ) → request before cookie ≡ Some asks → outcome_after before cookie ≡ Done bytes → outcome_after after cookie ≡ Done bytes
  pub zero : (cookie p : ℕ) (asks : Request Reader) → request before cookie ≡ Some asks → zero_after before cookie p ≡ true → zero_after after cookie p ≡ true
  pub name : name_set after ≡ name_set before

-- The same, and as before callbacks keep what they are handed.
pub record Later (before after : History Reader) : Type 0 where
  pub grown : Grown before after
  pub keeps : AllKeep (calls (reading before).known.entries) → AllKeep (calls (reading after).known.entries)

-- The same, and nothing more was asked.
pub record Quiet (before after : History Reader) : Type 0 where
  pub later : Later before after
  pub same : (cookie : ℕ) → request after cookie ≡ request before cookie
  pub well : (info : ExportInfo) → AreWell info before → AreWell info after
  pub unasked : AsksNothing before → AsksNothing after

-- The calls are a conversation on the handle's link, and nothing is left unread but where memory ran out.
pub record Speaks (short : Bool) (before : Seen Reader) (part : List wire.Call) (after : Seen Reader) : Type 0 where
  pub same : after.link ≡ before.link
  pub none : short ≡ false → after.unread ≡ []
  pub converse : IsGoing after.history → Converse before.link part

-- By these calls the handle goes on, on its link, which it drives as before. Where memory ran out at a read, it ends as if all that was read had arrived;
-- where nothing broke off, that is where it stands.
pub record Leads (short : Bool) (before : Seen Reader) (part : List wire.Call) (after : Seen Reader) (ended : Seen Reader) : Type 0 where
  pub drives : (all : List wire.Call) → before.unread ≡ [] → Runs before.link all before.history [] → Ran before.link (all ++ part) short after
  pub ends : (all : List wire.Call) → before.unread ≡ [] → Runs before.link all before.history [] → Ran before.link (all ++ part) false ended
  pub same : short ≡ false → ended ≡ after
  pub later : Later before.history after.history
  pub grown : Grown before.history ended.history
  pub asks : (cookie : ℕ) → request ended.history cookie ≡ request after.history cookie
  pub lawful : IsGoing after.history → IsGoing ended.history
  pub kept : AllWell part → IsKept before.history → IsKept after.history
  pub gives : (n : ℕ) → is_given n part ≡ false
  pub speaks : before.unread ≡ [] → Speaks short before part after

-- ---- The one handle, wherever it stands.

-- It goes on without a call on the wires, and is then so.
abbrev pub Acts : List (Held Reader) → List (Held Reader) → (Seen Reader → Seen Reader → Type 0) → Type 0
Acts old new Is = (seen : Seen Reader) → Holds old seen → (after : Seen Reader) × Holds new after × Leads false seen [] after after × Is seen after

-- It goes on by calls on the wires, of which none failed but where the count of faults rose, and is then so; with it where it ends as if all had arrived.
abbrev pub Comes : (short : Bool) → (told told' : Option (List wire.Call)) → (faults faults' : ℕ) → List (Held Reader) → List (Held Reader) → (Seen Reader → Seen Reader → Seen Reader → Type 0) → Type 0
Comes short told told' faults faults' old new Is =
    Goes told told' (Holds old) (Holds new) (λ before part after. (ended : Seen Reader) × Leads short before part after ended × Blames part faults faults' × Is before after ended)

-- The same, where it counts only where it stands.
abbrev pub GoesTo : (short : Bool) → (told told' : Option (List wire.Call)) → (faults faults' : ℕ) → List (Held Reader) → List (Held Reader) → (Seen Reader → Seen Reader → Type 0) → Type 0
GoesTo short told told' faults faults' old new Is = Comes short told told' faults faults' old new (λ before after ended. Is before after)

-- Nothing is asked on the way.
pub record GoesQuietly (world world' : Latest) (before after : Seen Reader) : Type 0 where
  pub quiet : Quiet before.history after.history
  pub tied : IsTied world before.history → IsTied world' after.history
