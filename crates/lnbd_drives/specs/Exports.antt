-- Laws of which exports the links of handles are of, and of what was told of them.
use Rattle.std.specs.Prelude.{◌≡◌, ℕ, false, List, Some, slice_get}
use Rattle.lnbd_callbacks.specs.Calls.{Call}
use Rattle.lnbd_link.specs.Call as wire
use Rattle.lnbd_link.specs.Numbers.{is_given}
use Rattle.lnbd_model.specs.declared.export.ExportInfo.{ExportInfo}
use Rattle.lnbd_model.specs.declared.state.State.TheVariants as state
use Rattle.lnbd_history.specs.Agreement.{Export}
use Rattle.lnbd_history.specs.Answers.{state_after, info_after, direction_after}
use Rattle.lnbd_history.specs.Events.{History}
use Rattle.lnbd_machine.specs.Machine.{Machine}
use Rattle.lnbd_standing.specs.Standing.{StandsFor}
use Rattle.lnbd_asked.specs.Exports.{DrivenIsOf, DrivenTells, HasToldSize, WasToldExport}
use Rattle.lnbd_asked.specs.Transcript.{on_link}
use Rattle.lnbd_poll.specs.Seen.{Seen}
use Rattle.lnbd_poll.specs.Turns.{Ending, Turns}
use Rattle.lnbd_drives.specs.Driving.{DriveOwnLinks}

-- The link of each handle is of the export of the name that was set on it.
abbrev pub HandlesAreOf : Type 0 → Type 0
HandlesAreOf K = (limit : ℕ) (calls : List wire.Call) (seens : List (Seen K)) (index : ℕ) (seen : Seen K) (now : Machine K) → DriveOwnLinks calls seens → slice_get seens index ≡ Some seen →
    StandsFor limit seen.history now → DrivenIsOf seen.history (on_link seen.link calls)

-- It tells what that handle was told of its export.
abbrev pub HandlesTell : Type 0 → Type 0
HandlesTell K = (limit : ℕ) (calls : List wire.Call) (seens : List (Seen K)) (index : ℕ) (seen : Seen K) (now : Machine K) → DriveOwnLinks calls seens → slice_get seens index ≡ Some seen →
    StandsFor limit seen.history now → DrivenTells seen.history (on_link seen.link calls)

-- the export of which this tells
abbrev pub export_in : ExportInfo → Export
export_in info = record { size = info.size; flags = info.flags; blocks = info.blocks; name = info.name; description = info.description }

-- A handle that may make requests and has nothing to write was told the export of which it tells: its size, its flags, its block sizes, its name and its description.
abbrev pub ExportWasTold : Type 0 → Type 0
ExportWasTold K = (history : History K) (info : ExportInfo) → state_after history ≡ state.Ready → direction_after history ≡ 1 → info_after history ≡ Some info → WasToldExport history (export_in info)

-- So it was told the size.
abbrev pub InfoWasTold : Type 0 → Type 0
InfoWasTold K = (history : History K) (info : ExportInfo) → state_after history ≡ state.Ready → direction_after history ≡ 1 → info_after history ≡ Some info → HasToldSize history info.size

-- A turn makes no link.
abbrev pub TurnsGiveNone : {K World : Type 0} → (World → List (Call K) → World → Type 0) → Type 0
TurnsGiveNone {K} {World} steps = (link : ℕ) (part : List wire.Call) (before after : List (Seen K)) (world world' : World) (ending : Ending) → Turns steps before world part after world' ending → is_given link part ≡ false
