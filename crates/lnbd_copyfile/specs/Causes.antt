-- What stops a copy between files, and what each fault comes from.
use Rattle.std.specs.Prelude.{◌≡◌, ◌<◌, ℕ}
use Rattle.lnbd_link.specs.Count.{Rises}
use Rattle.lnbd_plan.specs.declared.fault.CopyFault.{CopyFault}
use Rattle.lnbd_plan.specs.declared.fault.CopyFault.TheVariants as copy
use Rattle.lnbd_copyfile.specs.declared.fault.FileFault.{FileFault}
use Rattle.lnbd_copyfile.specs.declared.fault.FileFault.TheVariants as fault
use Rattle.lnbd_copyfile.specs.declared.fault.Halt.{Halt}
use Rattle.lnbd_copyfile.specs.declared.fault.Halt.TheVariants as halt
use Rattle.lnbd_copyfile.specs.declared.fault.Stop.{Stop}
use Rattle.lnbd_copyfile.specs.declared.fault.Stop.TheVariants as stop

-- the fault says what stopped the copy
abbrev pub Answers : (before after : ℕ) → Stop → FileFault → Type 0
Answers before after stop.NoMemory why = why ≡ fault.Copy copy.NoMemory
Answers before after stop.Failed why = why ≡ fault.Store before after
Answers before after (stop.Changed n end) why = why ≡ fault.Changed n end

-- the fault says what halted it
abbrev pub AnswersHalt : (before after : ℕ) → Halt → FileFault → Type 0
AnswersHalt before after (halt.Copy told) why = why ≡ fault.Copy told
AnswersHalt before after (halt.File stopped) why = Answers before after stopped why

-- it ended before as many bytes came as it told
abbrev pub IsChanged : Stop → Type 0
IsChanged stop.NoMemory = ⊥
IsChanged stop.Failed = ⊥
IsChanged (stop.Changed n end) = Unit {0}

-- the fault is that the source changed
abbrev pub TellsChange : FileFault → Type 0
TellsChange (fault.Copy why) = ⊥
TellsChange (fault.Store before after) = ⊥
TellsChange (fault.Changed n end) = Unit {0}

-- memory ran out
abbrev pub Lacks : CopyFault → Type 0
Lacks copy.NoMemory = Unit {0}
Lacks (copy.Link before after) = ⊥
Lacks (copy.Broke why) = ⊥
Lacks (copy.Peer option code) = ⊥
Lacks (copy.Rule rule) = ⊥
Lacks (copy.Silent idles) = ⊥

-- A fault of the store tells its counts at the start and in the end, between which it rose; a source that changed ended early. Else memory ran out.
abbrev pub HasCause : (old new : ℕ) → FileFault → Type 0
HasCause old new (fault.Copy why) = Lacks why
HasCause old new (fault.Store before after) = (before ≡ old) × (after ≡ new) × Rises 1 old new
HasCause old new (fault.Changed n end) = end < n
