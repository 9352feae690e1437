-- What callbacks do that are never called: the world has nothing in it.
use Rattle.std.specs.Prelude.{List}
use Rattle.lnbd_callbacks.specs.Calls.{Call}
use Rattle.lnbd_ask.specs.declared.quiet.Quiet.{Quiet}

abbrev pub Passes : Unit {0} → List (Call Quiet) → Unit {0} → Type 0
Passes before calls after = Unit {0}
