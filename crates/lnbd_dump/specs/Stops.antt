-- Why no more is shown, by what has happened on the handle.
use Rattle.std.specs.Prelude.{◌≡◌, ◌==◌, ℕ, Bool, true, false, Option, Some, None, Result, Ok, Err, if◌then◌else◌}
use Rattle.lnbd_model.specs.declared.breach.Broken.TheVariants as broken
use Rattle.lnbd_model.specs.declared.errors.TheConstants.{EPROTO}
use Rattle.lnbd_model.specs.declared.state.Cause.{Cause}
use Rattle.lnbd_model.specs.declared.state.Cause.TheVariants as cause
use Rattle.lnbd_model.specs.declared.state.State.{State}
use Rattle.lnbd_model.specs.declared.state.State.TheVariants as state
use Rattle.lnbd_history.specs.Answers.{state_after}
use Rattle.lnbd_history.specs.Events.{History}
use Rattle.lnbd_waits.specs.declared.waiting.Halt.TheVariants as halt
use Rattle.lnbd_dump.specs.declared.fault.DumpFault.{DumpFault}
use Rattle.lnbd_dump.specs.declared.fault.DumpFault.TheVariants as fault
use Rattle.lnbd_dump.specs.declared.reader.Reader.{Reader}
use Rattle.lnbd_dump.specs.declared.stop.Stop.{Stop}
use Rattle.lnbd_dump.specs.declared.stop.Stop.TheVariants as stop
use Rattle.lnbd_reel.specs.Ranges.{length_given}
use Rattle.lnbd_dump.specs.Conduct.{IsMistold, IsOutside, IsRagged, WasFailed}

-- so it is of the handle where it is stopped for this, on the way
abbrev pub IsStop : History Reader → Stop → Type 0
IsStop history (stop.Halted why) = Unit {0}
IsStop history (stop.Died cause) = state_after history ≡ state.Dead cause
IsStop history (stop.Broke breach) = IsMistold history breach
IsStop history (stop.Failed error) = WasFailed history error
IsStop history stop.Output = Unit {0}
IsStop history (stop.Range size) = ⊥
IsStop history (stop.Uneven size block) = ⊥

abbrev pub HasStop : {A : Type 0} → Result A Stop → History Reader → Type 0
HasStop (Ok value) history = Unit {0}
HasStop (Err why) history = IsStop history why

-- and so where the range is none
abbrev pub IsEnd : (offset : ℕ) → (given : Option ℕ) → History Reader → Stop → Type 0
IsEnd offset given history (stop.Halted why) = Unit {0}
IsEnd offset given history (stop.Died cause) = state_after history ≡ state.Dead cause
IsEnd offset given history (stop.Broke breach) = IsMistold history breach
IsEnd offset given history (stop.Failed error) = WasFailed history error
IsEnd offset given history stop.Output = Unit {0}
IsEnd offset given history (stop.Range size) = IsOutside offset given history size
IsEnd offset given history (stop.Uneven size block) = IsRagged offset given history size block

-- neither that nothing came nor the output is why
abbrev pub IsPlainStop : Stop → Type 0
IsPlainStop (stop.Halted halt.Silent) = ⊥
IsPlainStop stop.Output = ⊥
IsPlainStop (stop.Halted halt.NoMemory) = Unit {0}
IsPlainStop (stop.Died cause) = Unit {0}
IsPlainStop (stop.Broke breach) = Unit {0}
IsPlainStop (stop.Failed error) = Unit {0}
IsPlainStop (stop.Range size) = Unit {0}
IsPlainStop (stop.Uneven size block) = Unit {0}

abbrev pub IsPlain : {A : Type 0} → Result A Stop → Type 0
IsPlain (Ok value) = Unit {0}
IsPlain (Err why) = IsPlainStop why

-- the output is not why
abbrev pub IsDryStop : Stop → Type 0
IsDryStop (stop.Halted why) = Unit {0}
IsDryStop (stop.Died cause) = Unit {0}
IsDryStop (stop.Broke breach) = Unit {0}
IsDryStop (stop.Failed error) = Unit {0}
IsDryStop stop.Output = ⊥
IsDryStop (stop.Range size) = Unit {0}
IsDryStop (stop.Uneven size block) = Unit {0}

abbrev pub IsDry : {A : Type 0} → Result A Stop → Type 0
IsDry (Ok value) = Unit {0}
IsDry (Err why) = IsDryStop why

-- that nothing came is not why
abbrev pub IsLoudStop : Stop → Type 0
IsLoudStop (stop.Halted halt.Silent) = ⊥
IsLoudStop (stop.Halted halt.NoMemory) = Unit {0}
IsLoudStop (stop.Died cause) = Unit {0}
IsLoudStop (stop.Broke breach) = Unit {0}
IsLoudStop (stop.Failed error) = Unit {0}
IsLoudStop stop.Output = Unit {0}
IsLoudStop (stop.Range size) = Unit {0}
IsLoudStop (stop.Uneven size block) = Unit {0}

abbrev pub IsLoud : {A : Type 0} → Result A Stop → Type 0
IsLoud (Ok value) = Unit {0}
IsLoud (Err why) = IsLoudStop why

-- not all went well
abbrev pub is_failed : {A E : Type 0} → Result A E → Bool
is_failed (Ok value) = false
is_failed (Err why) = true

-- commands may be asked, or why not
abbrev pub HasEnd : Result (Unit {0}) Stop → State → Type 0
HasEnd (Ok done) at = at ≡ state.Ready
HasEnd (Err (stop.Died cause)) at = at ≡ state.Dead cause
HasEnd (Err (stop.Halted why)) at = Unit {0}
HasEnd (Err (stop.Broke breach)) at = ⊥
HasEnd (Err (stop.Failed error)) at = ⊥
HasEnd (Err stop.Output) at = ⊥
HasEnd (Err (stop.Range size)) at = ⊥
HasEnd (Err (stop.Uneven size block)) at = ⊥

-- What is told of it.

abbrev pub IsToldDead : Cause → DumpFault → Type 0
IsToldDead (cause.Broke breach) told = told ≡ fault.Broke (broken.Breach breach)
IsToldDead (cause.Refused option code) told = told ≡ fault.Peer (Some option) code
IsToldDead cause.Ended told = told ≡ fault.Broke broken.Ended
IsToldDead cause.LinkFailed told = (before after : ℕ) × (told ≡ fault.Link before after)

abbrev pub IsToldAs : (offset : ℕ) → (given : Option ℕ) → Stop → DumpFault → Type 0
IsToldAs offset given (stop.Halted halt.Silent) told = (idles : ℕ) × (told ≡ fault.Silent idles)
IsToldAs offset given (stop.Halted halt.NoMemory) told = told ≡ fault.NoMemory
IsToldAs offset given (stop.Died cause) told = IsToldDead cause told
IsToldAs offset given (stop.Broke breach) told = told ≡ fault.Broke (broken.Breach breach)
IsToldAs offset given (stop.Failed error) told = told ≡ (if error == EPROTO then fault.Broke broken.Content else fault.Peer None error)
IsToldAs offset given stop.Output told = told ≡ fault.Output
IsToldAs offset given (stop.Range size) told = told ≡ fault.Range offset (length_given given) size
IsToldAs offset given (stop.Uneven size block) told = told ≡ fault.Uneven size block
