-- How a server is asked, whatever that comes to.
use Rattle.std.specs.Prelude.{◌≡◌, ◌==◌, ◌||◌, ℕ, Bool, true, false, List, [], ◌∷◌, ◌++◌}
use Rattle.std.specs.List.{list_any}
use Rattle.lnbd_model.specs.Kind.{is_status}
use Rattle.lnbd_model.specs.declared.target.Place.{Place}
use Rattle.lnbd_records.specs.Options.{opt_info, opt_list}
use Rattle.lnbd_handle.specs.Histories.{max_unretired}
use Rattle.lnbd_history.specs.Events.{Event, History, Name, Context, Structured, Extended, OptMode, Set, StrictMode, Start, Opt, Abort, Issue, Refuse, Disconnect, Wrote, Arrived, End, LinkFailed, Retire, ClearLog, Close}
use Rattle.lnbd_history.specs.Laws.{Lawful}
use Rattle.lnbd_asked.specs.Driven.{Drives, is_inward}
use Rattle.lnbd_link.specs.Call as wire
use Rattle.lnbd_link.specs.Numbers.{is_given}
use Rattle.lnbd_usage.specs.OneLink.{UseOneLink}
use Rattle.lnbd_waits.specs.Begun.{base_allocation, begun}

-- What a server is asked: what it tells of one export, which exports it has, or what one consists of in this meta context.
pub data Inquiry : Type 0 where
  Export : Inquiry
  Exports : Inquiry
  Map : (context : List ℕ) → Inquiry

-- opt mode, structured replies and extended headers are asked for: the latest stands first
abbrev pub begun_listing : {K : Type 0} → History K
begun_listing = Start ∷ Set (OptMode true) ∷ Set (Structured true) ∷ Set (Extended true) ∷ []

module _ {K : Type 0} where
  -- how its handle begins, by the name of its place
  abbrev pub beginning : Inquiry → (name : List ℕ) → History K
  beginning Export name = begun name base_allocation
  beginning Exports name = begun_listing
  beginning (Map context) name = begun name context

  -- the end of the connection is asked for: by DISC, or by ABORT in opt mode
  abbrev pub asks_end : Event K → Bool
  asks_end (Set setting) = false
  asks_end (StrictMode bits) = false
  asks_end Start = false
  asks_end (Opt option) = false
  asks_end Abort = true
  asks_end (Issue command) = false
  asks_end (Refuse command why) = false
  asks_end Disconnect = true
  asks_end (Wrote n) = false
  asks_end (Arrived bytes answers) = false
  asks_end (End answers) = false
  asks_end (LinkFailed answers) = false
  asks_end (Retire cookie) = false
  asks_end ClearLog = false
  asks_end Close = false

  -- LIST is asked, or a name is set and INFO asked
  abbrev pub asks_exports : Event K → Bool
  asks_exports (Set (Name name)) = true
  asks_exports (Set (Context name)) = false
  asks_exports (Set (Structured on)) = false
  asks_exports (Set (Extended on)) = false
  asks_exports (Set (OptMode on)) = false
  asks_exports (StrictMode bits) = false
  asks_exports Start = false
  asks_exports (Opt option) = (option == opt_list) || (option == opt_info)
  asks_exports Abort = false
  asks_exports (Issue command) = false
  asks_exports (Refuse command why) = false
  asks_exports Disconnect = false
  asks_exports (Wrote n) = false
  asks_exports (Arrived bytes answers) = false
  asks_exports (End answers) = false
  asks_exports (LinkFailed answers) = false
  asks_exports (Retire cookie) = false
  asks_exports ClearLog = false
  asks_exports Close = false

  -- BLOCK_STATUS is asked, or was refused by a rule and so was not asked; or notes are dropped
  abbrev pub asks_status : Event K → Bool
  asks_status (Set setting) = false
  asks_status (StrictMode bits) = false
  asks_status Start = false
  asks_status (Opt option) = false
  asks_status Abort = false
  asks_status (Issue command) = is_status command.kind
  asks_status (Refuse command why) = is_status command.kind
  asks_status Disconnect = false
  asks_status (Wrote n) = false
  asks_status (Arrived bytes answers) = false
  asks_status (End answers) = false
  asks_status (LinkFailed answers) = false
  asks_status (Retire cookie) = false
  asks_status ClearLog = true
  asks_status Close = false

  -- What is asked once the handle was started: of one export nothing but the end.
  abbrev pub may_ask : Inquiry → Event K → Bool
  may_ask Export event = asks_end event
  may_ask Exports event = asks_exports event || asks_end event
  may_ask (Map context) event = asks_status event || asks_end event

  -- Nothing else was asked: what moves bytes alone is no asking.
  abbrev pub AsksOnly : Inquiry → History K → Type 0
  AsksOnly inquiry [] = Unit {0}
  AsksOnly inquiry (event ∷ before) = (is_inward event ≡ true → may_ask inquiry event ≡ true) × AsksOnly inquiry before

  -- The end is the last that is asked.
  abbrev pub EndIsLast : History K → Type 0
  EndIsLast [] = Unit {0}
  EndIsLast (event ∷ before) = (is_inward event ≡ true → list_any asks_end before ≡ false) × EndIsLast before

-- By these calls a handle drove the link: it began as the inquiry says, and then asked only what that needs, and the end last. Each could follow what was before
-- it: so no rule refused a command that was asked.
pub record WasDrivenFor (K : Type 0) (inquiry : Inquiry) (name : List ℕ) (link : ℕ) (calls : List wire.Call) : Type 0 where
  pub history : History K
  pub unread : List ℕ
  pub since : History K
  pub began : history ≡ since ++ beginning inquiry name
  pub only : AsksOnly inquiry since
  pub last : EndIsLast history
  pub lawful : Lawful max_unretired history
  pub drives : Drives link calls history unread

-- These calls make an inquiry so: they connect to its place alone, once at most, use that link alone and while it is open, pause only where nothing could be done
-- on it, and shut it; and a handle drove it.
pub record Conducts (K : Type 0) (inquiry : Inquiry) (place : Place) (calls : List wire.Call) : Type 0 where
  pub uses : UseOneLink place.to calls
  pub asks : (link : ℕ) → is_given link calls ≡ true → WasDrivenFor K inquiry place.name link calls
