-- Facts of what a reply comes to, by its case.
use Rattle.std.specs.Prelude.{ℕ}
use Rattle.lnbd_model.specs.declared.breach.Breach.{Breach}
use Rattle.lnbd_simple.specs.declared.Settled.{Settled}
use Rattle.lnbd_simple.specs.declared.Settled.TheVariants.{Done, Failed, Broke}

-- a fact for a command that is done
abbrev pub OnDone : Settled → Type 0 → Type 0
OnDone Done P = P
OnDone (Failed number) P = Unit {0}
OnDone (Broke breach) P = Unit {0}

-- a fact of the error, for one that failed
abbrev pub IfFailed : Settled → (ℕ → Type 0) → Type 0
IfFailed Done P = Unit {0}
IfFailed (Failed number) P = P number
IfFailed (Broke breach) P = Unit {0}

-- a fact of the breach, for a reply that broke the protocol
abbrev pub IfBroke : Settled → (Breach → Type 0) → Type 0
IfBroke Done P = Unit {0}
IfBroke (Failed number) P = Unit {0}
IfBroke (Broke breach) P = P breach
