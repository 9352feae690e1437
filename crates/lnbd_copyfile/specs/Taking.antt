-- What a step of a copy from an export to a file leaves of what the export was asked. All of this stands between the steps of the code: no claim names it.
use Rattle.std.specs.Prelude.{◌≡◌, ◌<◌, ℕ, List, Option}
use Rattle.lnbd_model.specs.declared.target.Place.{Place}
use Rattle.lnbd_model.specs.declared.export.ExportInfo.{ExportInfo}
use Rattle.lnbd_asked.specs.Transcript.{dealt_with}
use Rattle.lnbd_link.specs.Call as wire
use Rattle.lnbd_poll.specs.Held.{Held}
use Rattle.lnbd_board.specs.declared.ticket.Ticket.{Ticket}
use Rattle.lnbd_board.specs.Files as board
use Rattle.lnbd_course.specs.Spares.{ReadsNoZeros}
use Rattle.lnbd_conduct.specs.Grounds.{IsShown}
use Rattle.lnbd_conduct.specs.Terms.{least_block}
use Rattle.lnbd_conduct.specs.Told.{AtSome, Told}
use Rattle.lnbd_copy.specs.Grounds.{Happens}
use Rattle.lnbd_copy.specs.Lasting.{Lasts}
use Rattle.lnbd_store.specs.Shelf.{Shelf}
use Rattle.lnbd_copyfile.specs.Jobs.{Seen}
use Rattle.lnbd_copyfile.specs.Taken.{NothingWasRead, ReadsAtMostOnce, WasShown}
use Rattle.lnbd_copyfile.specs.ToFile.{IsCopying}

-- While connections are made nothing is read, and what is asked is so.
pub record ReadsNothing (at : Place) (calls : List wire.Call) : Type 0 where
  pub once : ReadsAtMostOnce at calls
  pub none : NothingWasRead (dealt_with at calls)

-- No READ covers a block of this size that one answer told as zero whole.
abbrev pub SparesBlocks : Place → (block : ℕ) → List wire.Call → Type 0
SparesBlocks at block calls = ReadsNoZeros block (dealt_with at calls)

-- Wherever a copy began, what it read once at most it read once at most still, whatever the step comes to; and blocks that it spared it spares still, if they are those that it plans by.
pub record ReadsNoMore (file : ℕ) (job : Seen) (now : board.Seen) (held : List (Held Ticket)) (told : Option (List wire.Call)) (shelf : Option Shelf) (taken : ℕ)
    (told' : Option (List wire.Call)) : Type 0 where
  pub on : (at : Place) (start : Option (List wire.Call)) (was : Option Shelf) (had : ℕ) → IsCopying file at start told job now held was shelf had taken →
      Told start told (ReadsAtMostOnce at) → Told start told' (ReadsAtMostOnce at)
  pub lasts : (at : Place) (start : Option (List wire.Call)) (was : Option Shelf) (had : ℕ) → IsCopying file at start told job now held was shelf had taken → Lasts told told'
  pub spares : (at : Place) (block : ℕ) (start : Option (List wire.Call)) (was : Option Shelf) (had : ℕ) → IsCopying file at start told job now held was shelf had taken →
      job.terms.grain ≡ block → 0 < block → Told start told (SparesBlocks at block) → Told start told' (SparesBlocks at block)

-- The first connection was told of an export with blocks so large,
pub record TellsBlock (block : ℕ) (held : List (Held Ticket)) : Type 0 where
  pub info : ExportInfo
  pub shown : Happens (IsShown info) 0 held
  pub block_is : block ≡ least_block info.blocks

-- and by a front of the calls it was.
pub record WasOfBlock (at : Place) (block : ℕ) (calls : List wire.Call) : Type 0 where
  pub info : ExportInfo
  pub shown : AtSome (WasShown at info) calls
  pub block_is : block ≡ least_block info.blocks
