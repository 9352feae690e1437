-- What the calls of a talk do.
use Rattle.std.specs.Prelude.{◌≡◌, ℕ, List, ◌++◌, ◌<◌, ◌≤◌, ◌^◌, Bool, true, false, Option, Some, None, Result, Ok, Err}
use Rattle.std.specs.List.{concat}
use Rattle.lnbd_model.specs.declared.breach.Breach.TheVariants.{NotFixed, SizeTooBig}
use Rattle.lnbd_model.specs.declared.export.Context.{Context}
use Rattle.lnbd_model.specs.declared.export.ExportInfo.{ExportInfo}
use Rattle.lnbd_model.specs.declared.state.Cause.TheVariants.{Broke, Refused, Ended, LinkFailed}
use Rattle.lnbd_records.specs.Flags.{flag_fixed_newstyle}
use Rattle.lnbd_records.specs.Options.{opt_export_name, opt_go}
use Rattle.lnbd_records.specs.Told.{Told}
use Rattle.lnbd_history.specs.declared.kinds.Phase.{Phase}
use Rattle.lnbd_history.specs.declared.kinds.Phase.TheVariants as phase
use Rattle.lnbd_history.specs.Agreement.{Turn, Hello, Replied, ByName, Export}
use Rattle.lnbd_history.specs.Arrivals.{Shown, OptionReply, Broken, Sight, has_bit}
use Rattle.lnbd_history.specs.Talk.{Talk, taking, sent, begun}
use Rattle.lnbd_negotiate.specs.declared.kinds.Config.{Config}
use Rattle.lnbd_negotiate.specs.declared.kinds.Next.{Next}
use Rattle.lnbd_negotiate.specs.declared.kinds.Next.TheVariants.{Wait, WaitExport, Caller, Ready}
use Rattle.lnbd_negotiate.specs.declared.kinds.TalkFault.{TalkFault}
use Rattle.lnbd_negotiate.specs.declared.kinds.TalkFault.TheVariants.{NoMemory, Cause}

-- a talk of these settings that has not begun
abbrev pub begun_with : Config → Talk
begun_with config = record begun { name = config.name; wanted = config.contexts; asks_structured = config.structured; asks_extended = config.extended; opt_mode = config.opt_mode }

-- what comes next, but for a refusal
abbrev pub next_of : Phase → Option Next
next_of (phase.Asked option) = Some Wait
next_of phase.AskedByName = Some WaitExport
next_of phase.OptMode = Some Caller
next_of phase.Ready = Some Ready
next_of phase.Greeting = Some Wait
next_of (phase.Refused code) = None

-- a turn that is taken, with its request behind what was to go out
pub record Takes (turn : Turn) (old new : Talk) (out now : List ℕ) : Type 0 where
  pub talk : new ≡ taking turn old
  pub sends : now ≡ out ++ concat (sent turn old)

-- nothing has changed
pub record Stays (old new : Talk) (out now : List ℕ) : Type 0 where
  pub talk : new ≡ old
  pub sends : now ≡ out

-- What the server's hello does, by its flags.
abbrev pub Greets : Talk → ℕ → List ℕ → Result Next TalkFault → Talk → List ℕ → Type 0
Greets old flags out (Ok next) new now = (has_bit flag_fixed_newstyle flags ≡ true) × Takes Hello old new out now × (next_of new.phase ≡ Some next)
Greets old flags out (Err NoMemory) new now = Stays old new out now
Greets old flags out (Err (Cause (Broke breach))) new now = (has_bit flag_fixed_newstyle flags ≡ false) × (breach ≡ NotFixed) × Stays old new out now
Greets old flags out (Err (Cause (Refused option code))) new now = ⊥
Greets old flags out (Err (Cause Ended)) new now = ⊥
Greets old flags out (Err (Cause LinkFailed)) new now = ⊥

-- what of a talk replies are judged by
pub record IsSeenBy (sight : Sight) (talk : Talk) : Type 0 where
  pub phase : sight.phase ≡ talk.phase
  pub count : sight.count ≡ talk.pending.count
  pub size : sight.size ≡ talk.pending.size

-- What an option reply does, by the verdict on it.
abbrev pub Applies : Talk → Option Shown → List ℕ → Result Next TalkFault → Talk → List ℕ → Type 0
Applies old verdict out (Ok next) new now =
    (told : Told) × (verdict ≡ Some (OptionReply told)) × Takes (Replied told) old new out now × (next_of new.phase ≡ Some next)
Applies old verdict out (Err NoMemory) new now = Stays old new out now
Applies old verdict out (Err (Cause (Broke breach))) new now = (verdict ≡ Some (Broken breach)) × Stays old new out now
Applies old verdict out (Err (Cause (Refused option code))) new now =
    (told : Told) × (verdict ≡ Some (OptionReply told)) × Takes (Replied told) old new out now × (new.phase ≡ phase.Refused code) × (option ≡ opt_go)
Applies old verdict out (Err (Cause Ended)) new now = ⊥
Applies old verdict out (Err (Cause LinkFailed)) new now = ⊥

-- What the reply to EXPORT_NAME does.
abbrev pub ToldByName : Talk → ℕ → ℕ → Result Next TalkFault → Talk → Type 0
ToldByName old size flags (Ok next) new = (size < 2 ^ 63) × (new ≡ taking (ByName size flags) old) × (next ≡ Ready)
ToldByName old size flags (Err NoMemory) new = ⊥
ToldByName old size flags (Err (Cause (Broke breach))) new = (2 ^ 63 ≤ size) × (breach ≡ SizeTooBig) × (new ≡ old)
ToldByName old size flags (Err (Cause (Refused option code))) new = ⊥
ToldByName old size flags (Err (Cause Ended)) new = ⊥
ToldByName old size flags (Err (Cause LinkFailed)) new = ⊥

-- the option that is unanswered
abbrev pub asked_at : Phase → Option ℕ
asked_at (phase.Asked option) = Some option
asked_at phase.AskedByName = Some opt_export_name
asked_at phase.Greeting = None
asked_at phase.OptMode = None
asked_at phase.Ready = None
asked_at (phase.Refused code) = None

-- what was told of the export, with what is agreed now
abbrev pub info_with : (structured extended : Bool) → List Context → Option Export → Option ExportInfo
info_with structured extended contexts None = None
info_with structured extended contexts (Some e) =
    Some (record { size = e.size; flags = e.flags; blocks = e.blocks; name = e.name; description = e.description; contexts = contexts; structured = structured; extended = extended })

abbrev pub info_of : Talk → Option ExportInfo
info_of t = info_with t.structured t.extended t.contexts t.export

-- what comes next at a phase that an answer to this option led to
abbrev pub IsNext : ℕ → Phase → Result Next TalkFault → Type 0
IsNext option at (Ok next) = next_of at ≡ Some next
IsNext option at (Err NoMemory) = ⊥
IsNext option at (Err (Cause (Broke breach))) = ⊥
IsNext option at (Err (Cause (Refused asked code))) = (asked ≡ option) × (at ≡ phase.Refused code)
IsNext option at (Err (Cause Ended)) = ⊥
IsNext option at (Err (Cause LinkFailed)) = ⊥
