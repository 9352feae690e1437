-- What handing out a result does.
use Rattle.std.specs.Prelude.{ℕ}
use Rattle.lnbd_history.specs.declared.kinds.Completed.{Completed}
use Rattle.lnbd_history.specs.declared.kinds.Completed.TheVariants.{Done, Failed, NotYet, NoSuchCookie}
use Rattle.lnbd_history.specs.Events.{Retire}
use Rattle.lnbd_machine.specs.Machine.{Machine, step}

-- A result that is handed out retires its command.
abbrev pub completing : {K : Type 0} → Completed → ℕ → Machine K → Machine K
completing (Done bytes) cookie machine = step machine (Retire cookie)
completing (Failed error bytes) cookie machine = step machine (Retire cookie)
completing NotYet cookie machine = machine
completing NoSuchCookie cookie machine = machine
