-- Which stops are not silent, and which not of the output.
use Rattle.std.proofs.Common.{◌≡◌, ◌∙◌, ℕ, Result, Ok, Err, subst, sym}
use Rattle.lnbd_model.specs.declared.state.Cause.{Cause}
use Rattle.lnbd_model.specs.declared.state.Cause.TheVariants as cause
use Rattle.lnbd_model.specs.declared.state.State.{State}
use Rattle.lnbd_waits.specs.declared.waiting.Halt.TheVariants as halt
use Rattle.lnbd_dump.specs.declared.fault.DumpFault.{DumpFault}
use Rattle.lnbd_dump.specs.declared.fault.DumpFault.TheVariants as fault
use Rattle.lnbd_dump.specs.declared.stop.Stop.{Stop}
use Rattle.lnbd_dump.specs.declared.stop.Stop.TheVariants as stop
use Rattle.lnbd_dump.specs.Stops.{IsDry, IsDryStop, IsLoud, IsLoudStop, IsPlain, IsPlainStop, IsToldDead}
use Rattle.lnbd_dump.specs.Takes.{Stands}

pub not_silent : {A : Type 0} (result : Result A Stop) (P : Type 0) → IsPlain result → result ≡ Err (stop.Halted halt.Silent) → P
not_silent (Ok value) P plain is = absurd (cc is)
not_silent (Err why) P plain is = let same : why ≡ stop.Halted halt.Silent = cc is in absurd (subst IsPlainStop same plain)

pub not_output : {A : Type 0} (result : Result A Stop) (P : Type 0) → IsPlain result → result ≡ Err stop.Output → P
not_output (Ok value) P plain is = absurd (cc is)
not_output (Err why) P plain is = let same : why ≡ stop.Output = cc is in absurd (subst IsPlainStop same plain)

pub stands_plain : (at : State) (error : ℕ) (why : Stop) → Stands at error why → IsPlainStop why
stands_plain at error (stop.Died cause) s = tt
stands_plain at error (stop.Failed number) s = tt
stands_plain at error (stop.Halted why) s = absurd s
stands_plain at error (stop.Broke breach) s = absurd s
stands_plain at error stop.Output s = absurd s
stands_plain at error (stop.Range size) s = absurd s
stands_plain at error (stop.Uneven size block) s = absurd s

pub dry_not : {A : Type 0} (result : Result A Stop) (P : Type 0) → IsDry result → result ≡ Err stop.Output → P
dry_not (Ok value) P dry is = absurd (cc is)
dry_not (Err why) P dry is = let same : why ≡ stop.Output = cc is in absurd (subst IsDryStop same dry)

pub loud_not : {A : Type 0} (result : Result A Stop) (P : Type 0) → IsLoud result → result ≡ Err (stop.Halted halt.Silent) → P
loud_not (Ok value) P loud is = absurd (cc is)
loud_not (Err why) P loud is = let same : why ≡ stop.Halted halt.Silent = cc is in absurd (subst IsLoudStop same loud)

pub plain_dry : (why : Stop) → IsPlainStop why → IsDryStop why
plain_dry (stop.Halted halt.Silent) p = tt
plain_dry (stop.Halted halt.NoMemory) p = tt
plain_dry (stop.Died cause) p = tt
plain_dry (stop.Broke breach) p = tt
plain_dry (stop.Failed error) p = tt
plain_dry stop.Output p = p
plain_dry (stop.Range size) p = tt
plain_dry (stop.Uneven size block) p = tt

pub plain_loud : (why : Stop) → IsPlainStop why → IsLoudStop why
plain_loud (stop.Halted halt.Silent) p = p
plain_loud (stop.Halted halt.NoMemory) p = tt
plain_loud (stop.Died cause) p = tt
plain_loud (stop.Broke breach) p = tt
plain_loud (stop.Failed error) p = tt
plain_loud stop.Output p = tt
plain_loud (stop.Range size) p = tt
plain_loud (stop.Uneven size block) p = tt

-- a death is not told as a failure of the output
pub dead_dry : (death : Cause) (told : DumpFault) → IsToldDead death told → told ≡ fault.Output → ⊥
dead_dry (cause.Broke breach) told is out = cc (sym is ∙ out)
dead_dry (cause.Refused option code) told is out = cc (sym is ∙ out)
dead_dry cause.Ended told is out = cc (sym is ∙ out)
dead_dry cause.LinkFailed told is out = cc (sym is.2 ∙ out)
