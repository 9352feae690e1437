-- What one line of a script does on the current handle: the calls that it makes on the wires, what then has happened, and what it tells.
use Rattle.std.specs.Prelude.{◌≡◌, ◌⊎◌, ◌+◌, ℕ, zero, suc, Bool, true, false, not, ◌==◌, List, [], ◌∷◌, length, replicate, string_bytes, Option, Some, None, Result, Ok, Err}
use Rattle.lnbd_model.specs.declared.refusal.Why.{Why}
use Rattle.lnbd_model.specs.declared.state.State.{State}
use Rattle.lnbd_model.specs.declared.state.State.TheVariants as state
use Rattle.lnbd_model.specs.declared.target.Place.{Place}
use Rattle.lnbd_model.specs.declared.target.Target.{Target}
use Rattle.lnbd_records.specs.Options.{opt_list, opt_info, opt_set_meta_context, opt_go}
use Rattle.lnbd_history.specs.declared.kinds.Completed.{Completed}
use Rattle.lnbd_history.specs.declared.kinds.Completed.TheVariants as completed
use Rattle.lnbd_history.specs.Commands.{Command}
use Rattle.lnbd_history.specs.Events.{Event as Happening, History, Setting, Start, Set, StrictMode, Name, Context, Structured, Extended, OptMode, Opt, Abort, Issue, Refuse, Disconnect, Retire, ClearLog, Close}
use Rattle.lnbd_records.specs.Limits.{max_contexts}
use Rattle.lnbd_history.specs.Agreement.{contexts_now, structured, steps}
use Rattle.lnbd_history.specs.History.{asked, reading}
use Rattle.lnbd_history.specs.Answers.{state_after, completed_after}
use Rattle.lnbd_history.specs.Laws.{is_closed, may_name}
use Rattle.lnbd_history.specs.Refusals.{refusal_after, by_state}
use Rattle.lnbd_history.specs.Strict.{unknown_bits}
use Rattle.lnbd_poll.specs.States.{is_opt_mode}
use Rattle.lnbd_link.specs.Call.{Call, Connect, Shut, ReadTold, WriteTold, Moved, Unready, Ended, ReadFault, Sent, Full, WriteFault}
use Rattle.lnbd_lines.specs.declared.command.Command.{Command as Asked}
use Rattle.lnbd_lines.specs.declared.command.Command.TheVariants as command
use Rattle.lnbd_lines.specs.declared.command.Payload.{Payload}
use Rattle.lnbd_lines.specs.declared.command.Payload.TheVariants as payload
use Rattle.lnbd_lines.specs.declared.negotiation.Opt.{Opt as Asked_option}
use Rattle.lnbd_lines.specs.declared.negotiation.Opt.TheVariants as option
use Rattle.lnbd_lines.specs.declared.negotiation.Switch.{Switch}
use Rattle.lnbd_lines.specs.declared.negotiation.Switch.TheVariants as switch
use Rattle.lnbd_lines.specs.declared.line.Line.{Line}
use Rattle.lnbd_lines.specs.declared.line.Line.TheVariants as line
use Rattle.lnbd_script.specs.declared.event.Event.TheVariants.{Link}
use Rattle.lnbd_script.specs.declared.keeper.Keeper.{Keeper}
use Rattle.lnbd_script.specs.declared.told.Halt.{Halt}
use Rattle.lnbd_script.specs.declared.told.Halt.TheVariants as halt
use Rattle.lnbd_script.specs.declared.told.Moved.TheVariants as moved
use Rattle.lnbd_script.specs.declared.told.Told.{Told}
use Rattle.lnbd_script.specs.declared.told.Told.TheVariants as told
use Rattle.lnbd_lines.specs.declared.command.Manner.{Manner}
use Rattle.lnbd_script.specs.Kept.{keeper_of, or_first}
use Rattle.lnbd_script.specs.Seen.{Seen, adding, callbacks_of, heard_after, issued_in}
use Rattle.lnbd_script.specs.Turns.{Reads, ReadsShort, Writes, is_reading, is_waiting, read_call, write_call}
use Rattle.lnbd_handle.specs.Histories.{max_unretired}
use Rattle.lnbd_handle.specs.Issues.{read_of, structured_read_of, write_of, flush_of, trim_of, zero_of, cache_of, block_status_of}

-- what a line tells, or what ends the script in it
abbrev pub LineEnd : Type 0
LineEnd = Result Told Halt

-- the line makes no call on the wires
abbrev pub Stays : Seen → List Call → Seen → LineEnd → Told → Type 0
Stays before calls after end tells = (calls ≡ []) × (after ≡ before) × (end ≡ Ok tells)

-- The same of a line that has the handle do something.
abbrev pub Adds : Seen → List Call → Seen → LineEnd → Told → Type 0
Adds expected calls after end tells = (calls ≡ []) × (after ≡ expected) × (end ≡ Ok tells)

-- memory ran out before anything was done
abbrev pub Lacks : Seen → List Call → Seen → LineEnd → Type 0
Lacks before calls after end = (calls ≡ []) × (after ≡ before) × (end ≡ Err halt.NoMemory)

abbrev pub is_created : State → Bool
is_created state.Created = true
is_created state.Negotiating = false
is_created state.OptMode = false
is_created state.Ready = false
is_created state.Closing = false
is_created state.Closed = false
is_created (state.Dead cause) = false

-- after a connect that gave this link, if any: the handle is started, or the failed call is an event
abbrev pub connected : Option ℕ → Seen → Seen
connected (Some link) before = record { history = Start ∷ before.history; shown = before.shown; link = Some link; first = before.first }
connected None before = record { history = before.history; shown = before.shown; link = before.link; first = or_first before.first (Some Link) }

abbrev pub told_link : Option ℕ → Told
told_link (Some link) = told.Connected
told_link None = told.NotConnected

-- A handle that was started is not connected again.
abbrev pub Connects : Bool → Target → Seen → List Call → Seen → LineEnd → Type 0
Connects true to before calls after end = (link : Option ℕ) × (calls ≡ Connect to link ∷ []) × (after ≡ connected link before) × (end ≡ Ok (told_link link))
Connects false to before calls after end = Stays before calls after end (told.RefusedState (state_after before.history))

-- where a connect gave a link, the export's name is set
abbrev pub named_if : Option ℕ → List ℕ → Seen → Seen
named_if (Some link) name before = adding (Set (Name name)) before
named_if None name before = before

-- The same by an address: its export's name is set before the start.
abbrev pub ConnectsTo : Bool → Place → Seen → List Call → Seen → LineEnd → Type 0
ConnectsTo true place before calls after end =
    (link : Option ℕ) × (calls ≡ Connect place.to link ∷ []) × (after ≡ connected link (named_if link place.name before)) × (end ≡ Ok (told_link link))
ConnectsTo false place before calls after end = Stays before calls after end (told.RefusedState (state_after before.history))

-- the bytes that a write sends
abbrev pub payload_of : Payload → List ℕ
payload_of (payload.Hex bytes) = bytes
payload_of (payload.Fill byte size) = replicate size byte

-- The bytes that a command has: a read those of its buffer, as many as it asks for, whatever they are; a write those that it sends.
abbrev pub HasBytes : Asked → List ℕ → Type 0
HasBytes (command.Pread range) bytes = length bytes ≡ range.length
HasBytes (command.PreadStructured range) bytes = length bytes ≡ range.length
HasBytes (command.Pwrite payload offset flags) bytes = bytes ≡ payload_of payload
HasBytes (command.Flush flags) bytes = bytes ≡ []
HasBytes (command.Trim range) bytes = bytes ≡ []
HasBytes (command.Zero range) bytes = bytes ≡ []
HasBytes (command.Cache range) bytes = bytes ≡ []
HasBytes (command.BlockStatus range) bytes = bytes ≡ []

-- what a line issues with this callback and these bytes
abbrev pub command_of : Keeper → List ℕ → Asked → Command Keeper
command_of keeper bytes (command.Pread range) = read_of bytes range.offset keeper range.flags
command_of keeper bytes (command.PreadStructured range) = structured_read_of bytes range.offset keeper keeper range.flags
command_of keeper bytes (command.Pwrite payload offset flags) = write_of bytes offset keeper flags
command_of keeper bytes (command.Flush flags) = flush_of keeper flags
command_of keeper bytes (command.Trim range) = trim_of range.length range.offset keeper range.flags
command_of keeper bytes (command.Zero range) = zero_of range.length range.offset keeper range.flags
command_of keeper bytes (command.Cache range) = cache_of range.length range.offset keeper range.flags
command_of keeper bytes (command.BlockStatus range) = block_status_of range.length range.offset keeper keeper range.flags

-- the same after a history, with callbacks that answer so
abbrev pub issue_of : Manner → List ℕ → Asked → History Keeper → Command Keeper
issue_of manner bytes asking history = command_of (keeper_of (issued_in history) manner) bytes asking

-- A command is issued under the next cookie, or refused for this reason.
abbrev pub Issues : Option Why → Command Keeper → Seen → List Call → Seen → LineEnd → Type 0
Issues None command before calls after end = Adds (adding (Issue command) before) calls after end (told.Cookie ((asked before.history).issued + 1))
Issues (Some why) command before calls after end = Adds (adding (Refuse command why) before) calls after end (told.Refused why)

-- So a line issues its command, with callbacks that answer so.
abbrev pub IssuesAs : Manner → Asked → Seen → List Call → Seen → LineEnd → Type 0
IssuesAs manner asking before calls after end =
    (bytes : List ℕ) × HasBytes asking bytes × Issues (refusal_after max_unretired before.history (issue_of manner bytes asking before.history)) (issue_of manner bytes asking before.history) before calls after end

-- what a read and a write tell
abbrev pub told_read : ReadTold → Told
told_read (Moved bytes) = told.Moved (moved.Bytes (length bytes))
told_read Unready = told.Moved moved.NotReady
told_read Ended = told.Moved moved.Ended
told_read ReadFault = told.Moved moved.Failed

abbrev pub told_write : WriteTold → Told
told_write (Sent bytes) = told.Moved (moved.Bytes (length bytes))
told_write Full = told.Moved moved.NotReady
told_write WriteFault = told.Moved moved.Failed

-- One read, where the handle has a link and reads.
abbrev pub ReadsOn : Bool → Option ℕ → Seen → List Call → Seen → LineEnd → Type 0
ReadsOn true (Some link) before calls after end =
    (read : ReadTold) × (calls ≡ read_call link before.history read ∷ []) × (((end ≡ Ok (told_read read)) × Reads before read after) ⊎ ((end ≡ Err halt.NoMemory) × ReadsShort before read after))
ReadsOn true None before calls after end = Stays before calls after end (told.Moved moved.Idle)
ReadsOn false link before calls after end = Stays before calls after end (told.Moved moved.Idle)

-- One write, where the handle has a link and bytes wait.
abbrev pub WritesOn : Bool → Option ℕ → Seen → List Call → Seen → LineEnd → Type 0
WritesOn true (Some link) before calls after end = (write : WriteTold) × (calls ≡ write_call link before.history write ∷ []) × (end ≡ Ok (told_write write)) × Writes before write after
WritesOn true None before calls after end = Stays before calls after end (told.Moved moved.Idle)
WritesOn false link before calls after end = Stays before calls after end (told.Moved moved.Idle)

-- A setting is accepted where the state allows it.
abbrev pub Sets : Bool → Setting → Seen → List Call → Seen → LineEnd → Type 0
Sets true setting before calls after end = Adds (adding (Set setting) before) calls after end told.Done
Sets false setting before calls after end = Stays before calls after end (told.RefusedState (state_after before.history))

-- what a line turns on or off
abbrev pub setting_of : Switch → Bool → Setting
setting_of switch.Structured on = Structured on
setting_of switch.Extended on = Extended on
setting_of switch.OptMode on = OptMode on

-- as many meta contexts as may be asked for were added
abbrev pub has_all_contexts : History Keeper → Bool
has_all_contexts history = length (contexts_now (reading history).known.turns) == max_contexts

-- A meta context is added where a name may be set, up to sixteen.
abbrev pub AddsContext : (may full : Bool) → List ℕ → Seen → List Call → Seen → LineEnd → Type 0
AddsContext true false name before calls after end = Adds (adding (Set (Context name)) before) calls after end told.Done
AddsContext true true name before calls after end = Stays before calls after end (told.RefusedContext max_contexts)
AddsContext false full name before calls after end = Stays before calls after end (told.RefusedState (state_after before.history))

-- what asking for an option is
abbrev pub asking : Asked_option → Happening Keeper
asking option.List = Opt opt_list
asking option.Info = Opt opt_info
asking option.Meta = Opt opt_set_meta_context
asking option.Go = Opt opt_go
asking option.Abort = Abort

-- Meta contexts need structured replies, and they are off.
abbrev pub lacks_structured : Asked_option → (structured : Bool) → Bool
lacks_structured option.List on = false
lacks_structured option.Info on = false
lacks_structured option.Meta on = not on
lacks_structured option.Go on = false
lacks_structured option.Abort on = false

abbrev pub is_structured : History Keeper → Bool
is_structured history = structured (steps (reading history).known.turns)

-- An option is asked for in opt mode, unless it needs structured replies that are off.
abbrev pub AsksFor : (may lacks : Bool) → Asked_option → Seen → List Call → Seen → LineEnd → Type 0
AsksFor true false option before calls after end = Adds (adding (asking option) before) calls after end told.Done
AsksFor true true option before calls after end = Stays before calls after end told.RefusedUnstructured
AsksFor false lacks option before calls after end = Stays before calls after end (told.RefusedState (state_after before.history))

-- Bits that each mean something are set.
abbrev pub SetsStrict : (unknown bits : ℕ) → Seen → List Call → Seen → LineEnd → Type 0
SetsStrict zero bits before calls after end = Adds (adding (StrictMode bits) before) calls after end told.Done
SetsStrict (suc unknown) bits before calls after end = Stays before calls after end (told.RefusedStrict (suc unknown))

abbrev pub Disconnects : Option Why → Seen → List Call → Seen → LineEnd → Type 0
Disconnects None before calls after end = Adds (adding Disconnect before) calls after end told.Done
Disconnects (Some why) before calls after end = Stays before calls after end (told.Refused why)

-- A result that is handed out retires its command.
abbrev pub taking : Completed → ℕ → Seen → Seen
taking (completed.Done bytes) cookie before = adding (Retire cookie) before
taking (completed.Failed error bytes) cookie before = adding (Retire cookie) before
taking completed.NotYet cookie before = before
taking completed.NoSuchCookie cookie before = before

-- What callbacks heard is told, and then no more.
abbrev pub hearing : Seen → Seen
hearing before = record { history = before.history; shown = length (callbacks_of before.history); link = before.link; first = before.first }

abbrev pub TellsHeard : List ℕ → Told → Type 0
TellsHeard lines (told.Heard text) = string_bytes text ≡ lines
TellsHeard lines other = ⊥

abbrev pub Hears : Seen → List Call → Seen → LineEnd → Type 0
Hears before calls after end = (tells : Told) × TellsHeard (heard_after before) tells × Adds (hearing before) calls after end tells

-- A close shuts the link.
abbrev pub shut_calls : Option ℕ → List Call
shut_calls None = []
shut_calls (Some link) = Shut link ∷ []

abbrev pub closing : Seen → Seen
closing before = record { history = Close ∷ before.history; shown = before.shown; link = None; first = before.first }

-- What a line does on a handle that is not closed. Two lines act on more than the current handle, and do nothing here.
abbrev pub Does : Line → Seen → List Call → Seen → LineEnd → Type 0
Does (line.Connect to) before calls after end = Connects (is_created (state_after before.history)) to before calls after end
Does (line.ConnectUri place) before calls after end = ConnectsTo (is_created (state_after before.history)) place before calls after end ⊎ Lacks before calls after end
Does (line.Command manner asking) before calls after end = IssuesAs manner asking before calls after end ⊎ Lacks before calls after end
Does line.Settle before calls after end = ⊥
Does (line.Handle number) before calls after end = ⊥
Does line.Read before calls after end = ReadsOn (is_reading before.history) before.link before calls after end
Does line.Write before calls after end = WritesOn (is_waiting before.history) before.link before calls after end
Does (line.Export name) before calls after end = Sets (may_name (state_after before.history)) (Name name) before calls after end ⊎ Lacks before calls after end
Does (line.Context name) before calls after end = AddsContext (may_name (state_after before.history)) (has_all_contexts before.history) name before calls after end ⊎ Lacks before calls after end
-- names are set in opt mode too, and the others before the start alone
Does (line.Switch switch on) before calls after end = Sets (is_created (state_after before.history)) (setting_of switch on) before calls after end
Does (line.Ask option) before calls after end =
    AsksFor (is_opt_mode (state_after before.history)) (lacks_structured option (is_structured before.history)) option before calls after end ⊎ Lacks before calls after end
Does (line.Strict bits) before calls after end = SetsStrict (unknown_bits bits) bits before calls after end
Does line.Disconnect before calls after end = Disconnects (by_state (state_after before.history) None) before calls after end
Does (line.Done cookie) before calls after end = Adds (taking (completed_after before.history cookie) cookie before) calls after end (told.Result (completed_after before.history cookie))
Does line.Heard before calls after end = Hears before calls after end ⊎ Lacks before calls after end
Does line.ClearLog before calls after end = Adds (adding ClearLog before) calls after end told.Done
Does line.Close before calls after end = (calls ≡ shut_calls before.link) × (after ≡ closing before) × (end ≡ Ok (told.Closed (asked before.history).admitted (asked before.history).admitted))
Does line.Log before calls after end = Stays before calls after end told.Log
Does line.Peek before calls after end = Stays before calls after end told.Peek
Does line.InFlight before calls after end = Stays before calls after end told.InFlight
Does line.Direction before calls after end = Stays before calls after end told.Direction
Does line.State before calls after end = Stays before calls after end told.State
Does line.Info before calls after end = Stays before calls after end told.Info
Does line.Answer before calls after end = Stays before calls after end told.Answer
Does line.Listing before calls after end = Stays before calls after end told.Listing

-- A closed handle is gone.
abbrev pub DoesIf : Bool → Line → Seen → List Call → Seen → LineEnd → Type 0
DoesIf true line before calls after end = Stays before calls after end told.Gone
DoesIf false line before calls after end = Does line before calls after end

abbrev pub Answers : Line → Seen → List Call → Seen → LineEnd → Type 0
Answers line before calls after end = DoesIf (is_closed before.history) line before calls after end
