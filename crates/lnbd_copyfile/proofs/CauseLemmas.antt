-- What a fault says of what stopped a copy.
use Rattle.std.proofs.Common.{◌≡◌, ◌<◌, ℕ, refl, ap, sym, subst}
use Rattle.lnbd_link.specs.Count.{Rises}
use Rattle.lnbd_copyfile.specs.declared.fault.FileFault.{FileFault}
use Rattle.lnbd_copyfile.specs.declared.fault.Stop.{Stop}
use Rattle.lnbd_copyfile.specs.declared.fault.Stop.TheVariants as stop
use Rattle.lnbd_copyfile.specs.Calls.{stop_of}
use Rattle.lnbd_copyfile.specs.Causes.{Answers, HasCause, IsChanged, TellsChange}

module _ (before after : ℕ) where
  pub stop_is : (why : Stop) (f : FileFault) → Answers before after why f → stop_of f ≡ why
  stop_is stop.NoMemory f is = ap (λ (x : FileFault). stop_of x) is
  stop_is stop.Failed f is = ap (λ (x : FileFault). stop_of x) is
  stop_is (stop.Changed n end) f is = ap (λ (x : FileFault). stop_of x) is

  pub change_is : (why : Stop) (f : FileFault) → Answers before after why f → TellsChange f → IsChanged why
  change_is stop.NoMemory f is told = subst (λ (x : FileFault). TellsChange x) is told
  change_is stop.Failed f is told = subst (λ (x : FileFault). TellsChange x) is told
  change_is (stop.Changed n end) f is told = tt

  pub cause_is : (old new : ℕ) (why : Stop) (f : FileFault) → Answers before after why f → before ≡ old → after ≡ new
      → (why ≡ stop.Failed → Rises 1 old new) → ((n end : ℕ) → why ≡ stop.Changed n end → end < n) → HasCause old new f
  cause_is old new stop.NoMemory f is b a rose early = subst (λ (x : FileFault). HasCause old new x) (sym is) tt
  cause_is old new stop.Failed f is b a rose early = subst (λ (x : FileFault). HasCause old new x) (sym is) (b, a, rose refl)
  cause_is old new (stop.Changed n end) f is b a rose early = subst (λ (x : FileFault). HasCause old new x) (sym is) (early n end refl)
