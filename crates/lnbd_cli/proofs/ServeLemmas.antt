-- What is told of a fault of serving has its cause.
use Rattle.std.proofs.Common.{◌≡◌, ◌≤◌, ◌⊎◌, inl, inr, ℕ, Result, Err, refl, sym, ◌∙◌, arith, ap}
use Rattle.lnbd_link.specs.Count.{Rises}
use Rattle.lnbd_serve.specs.declared.fault.ServeFault.{ServeFault}
use Rattle.lnbd_serve.specs.declared.fault.ServeFault.TheVariants as serving
use Rattle.lnbd_cli.specs.Ends.{End}
use Rattle.lnbd_cli.specs.Serves.{TellsServeFault}
use Rattle.lnbd_cli.specs.declared.ending.Fault.{Fault}
use Rattle.lnbd_cli.specs.declared.ending.Fault.TheVariants as fault

abbrev failed : Fault → End
failed why = Err why

-- a count of the wires that rose, as the end of a run
pub as_failed : (why : Fault) → (why ≡ fault.Link) ⊎ (why ≡ fault.Silent) → (failed why ≡ Err fault.Link) ⊎ (failed why ≡ Err fault.Silent)
as_failed why (inl is) = inl (ap failed is)
as_failed why (inr is) = inr (ap failed is)

pub told_link : (f : ServeFault) (why : Fault) (m n : ℕ) → TellsServeFault f why
    → ((before after : ℕ) → ◌≡◌ {A = Result ℕ ServeFault} (Err f) (Err (serving.Link before after)) → (m ≤ before) × (after ≤ n) × Rises 1 before after) → failed why ≡ Err fault.Link → Rises 1 m n
told_link (serving.Link before after) why m n is rose e = let r = rose before after refl in omega (arith, r.0, r.1, r.2)
told_link serving.Client why m n is rose e = cc (ap failed (sym is) ∙ e)
told_link (serving.Silent idles) why m n is rose e = cc (ap failed (sym is) ∙ e)
told_link serving.Output why m n is rose e = cc (ap failed (sym is) ∙ e)
told_link serving.NoMemory why m n is rose e = cc (ap failed (sym is) ∙ e)

pub told_silent : (f : ServeFault) (why : Fault) (i j : ℕ) → TellsServeFault f why
    → ((idles : ℕ) → ◌≡◌ {A = Result ℕ ServeFault} (Err f) (Err (serving.Silent idles)) → (idles ≤ j) × Rises 1000000000 i idles) → failed why ≡ Err fault.Silent → Rises 1000000000 i j
told_silent (serving.Silent idles) why i j is rose e = let r = rose idles refl in omega (arith, r.0, r.1)
told_silent serving.Client why i j is rose e = cc (ap failed (sym is) ∙ e)
told_silent (serving.Link before after) why i j is rose e = cc (ap failed (sym is) ∙ e)
told_silent serving.Output why i j is rose e = cc (ap failed (sym is) ∙ e)
told_silent serving.NoMemory why i j is rose e = cc (ap failed (sym is) ∙ e)

pub told_output : (f : ServeFault) (why : Fault) (P : Type 0) → TellsServeFault f why → (◌≡◌ {A = Result ℕ ServeFault} (Err f) (Err serving.Output) → P) → failed why ≡ Err fault.Output → P
told_output serving.Output why P is rose e = rose refl
told_output serving.Client why P is rose e = cc (ap failed (sym is) ∙ e)
told_output (serving.Link before after) why P is rose e = cc (ap failed (sym is) ∙ e)
told_output (serving.Silent idles) why P is rose e = cc (ap failed (sym is) ∙ e)
told_output serving.NoMemory why P is rose e = cc (ap failed (sym is) ∙ e)
