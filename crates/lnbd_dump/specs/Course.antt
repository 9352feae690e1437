-- How far a dump has come.
use Rattle.std.specs.Prelude.{◌≡◌, ℕ, ◌+◌, ◌<◌, ◌≤◌, true, List, Some, is_some}
use Rattle.lnbd_model.specs.declared.export.ExportInfo.{ExportInfo}
use Rattle.lnbd_model.specs.declared.kind.Kind.TheVariants.{Read, BlockStatus}
use Rattle.lnbd_history.specs.Commands.{Request}
use Rattle.lnbd_history.specs.Entries.{calls}
use Rattle.lnbd_history.specs.Events.{History}
use Rattle.lnbd_history.specs.History.{reading, request}
use Rattle.lnbd_asked.specs.Driven.{outcome_after}
use Rattle.lnbd_kept.specs.Kept.{AllKeep}
use Rattle.lnbd_outcome.specs.Outcome.{Done}
use Rattle.lnbd_dump.specs.declared.asking.Plan.{Plan}
use Rattle.lnbd_dump.specs.declared.reader.Latest.{Latest}
use Rattle.lnbd_dump.specs.declared.reader.Reader.{Reader}
use Rattle.lnbd_reel.specs.declared.reel.Part.{Part}
use Rattle.lnbd_reel.specs.declared.reel.Run.{Run}
use Rattle.lnbd_ask.specs.Maps.{block_of}
use Rattle.lnbd_dump.specs.Conduct.{AreWell, WasAnswered, WasKnown, WasToldWhole, is_agreed, piece_of}
use Rattle.lnbd_dump.specs.Leads.{IsRead, IsTied, TellsZero}
use Rattle.lnbd_reel.specs.Reel.{AreLaid, AreRuns, AreSpared}

-- a BLOCK_STATUS that is done and begins before this position
pub record IsStatus (history : History Reader) (known cookie : ℕ) (asks : Request Reader) : Type 0 where
  pub kind : asks.kind ≡ BlockStatus
  pub before : asks.offset < known
  pub bytes : List ℕ
  pub done : outcome_after history cookie ≡ Done bytes

-- What was asked of an export of which this was told, where all up to `known` was asked of, and what is to be begun from `at` on.
pub record Course (info : ExportInfo) (at known : ℕ) (runs : List Run) (world : Latest) (history : History Reader) : Type 0 where
  pub knows : WasKnown history info
  pub well : AreWell info history
  pub keeps : AllKeep (calls (reading history).known.entries)
  pub tied : IsTied world history
  pub unread : (cookie : ℕ) (asks : Request Reader) → request history cookie ≡ Some asks → asks.kind ≡ Read → asks.offset + asks.length ≤ at
  pub statuses : (cookie : ℕ) (asks : Request Reader) → request history cookie ≡ Some asks → is_some asks.flight.first ≡ true → IsStatus history known cookie asks
  pub answered : is_agreed info.contexts ≡ true → (p : ℕ) → at ≤ p → p < known → WasAnswered history p
  pub runs_are : AreRuns (TellsZero history) at runs known
  pub listens : (cookie : ℕ) (asks : Request Reader) → request history cookie ≡ Some asks → asks.kind ≡ BlockStatus → is_some asks.flight.first ≡ true
  pub spared : AreSpared (WasToldWhole (block_of info) history) at runs known
  pub beyond : (p : ℕ) → known ≤ p → WasToldWhole (block_of info) history p → ⊥

-- what a plan has of an export
pub record Fits (info : ExportInfo) (plan : Plan) : Type 0 where
  pub block : plan.block ≡ block_of info
  pub piece : plan.piece ≡ piece_of info
  pub agreed : plan.agreed ≡ is_agreed info.contexts

-- The parts that were begun lie from here on up to where the next is to be begun.
pub record IsUnderWay (info : ExportInfo) (from : ℕ) (plan : Plan) (runs : List Run) (reel : List Part) (world : Latest) (history : History Reader) : Type 0 where
  pub fits : Fits info plan
  pub course : Course info plan.at plan.known runs world history
  pub laid : AreLaid (TellsZero history) (IsRead history) from reel plan.at
