-- Where a copy is finished the wires counted well, and where nothing is called after that they do so still.
use Rattle.std.proofs.Common.{◌≡◌, ℕ, Result, Ok, Err, OnOk, subst}
use Rattle.lnbd_link.specs.Count.{Rises}
use Rattle.lnbd_plan.specs.declared.summary.Summary.{Summary}
use Rattle.lnbd_copy.specs.declared.copier.Progress.{Progress}
use Rattle.lnbd_copy.specs.declared.copier.Progress.TheVariants as progress
use Rattle.lnbd_copy.specs.declared.counts.Counts.{Counts}
use Rattle.lnbd_copy.specs.Causes.{AreWell}
use Rattle.lnbd_copy.specs.Ended.{EndsWell}

pub ends_well : (start start' : Counts) (faults idles : ℕ) (told : Progress) (summary : Summary) → start ≡ start' → told ≡ progress.Finished summary → EndsWell start faults idles told → AreWell start' faults idles
ends_well start start' faults idles told summary same is well =
    subst (λ (s : Counts). AreWell s faults idles) same (subst (EndsWell start faults idles) is well)

-- What both facts of a success show is so on it.
pub on_ok_two : {T F : Type 0} {A B C : Type 0} (r : Result T F) → (A → B → C) → OnOk r A → OnOk r B → OnOk r C
on_ok_two (Ok value) leads a b = leads a b
on_ok_two (Err fault) leads a b = tt

pub still_unrisen : (n old new new' : ℕ) → new' ≡ new → ¬ Rises n old new → ¬ Rises n old new'
still_unrisen n old new new' same still = λ rises. still (subst (Rises n old) same rises)
