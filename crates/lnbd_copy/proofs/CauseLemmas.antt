-- The counts go on from call to call, and a cause that they showed they show later too.
use Rattle.std.proofs.Common.{◌≡◌, ℕ, ◌≤◌, true, List, Option, sym, subst, arith}
use Rattle.lnbd_link.specs.Contents.{Keeps, Stored}
use Rattle.lnbd_link.proofs.Parts.{keeps_none, keeps_on}
use Rattle.lnbd_plan.specs.declared.fault.CopyFault.{CopyFault}
use Rattle.lnbd_plan.specs.declared.fault.CopyFault.TheVariants as fault
use Rattle.lnbd_copy.specs.declared.counts.Counts.{Counts}
use Rattle.lnbd_copy.specs.Causes.{GoesOn, HasCause, ShowsCause, tells_no_count}

pub goes_same : (failed waited : ℕ) (stored : Option (List Stored)) → GoesOn failed failed waited waited stored stored
goes_same failed waited stored = record { faults = omega arith; idles = omega arith; contents = keeps_none stored }

pub goes_then : (f g h i j k : ℕ) (a b c : Option (List Stored)) → GoesOn f g i j a b → GoesOn g h j k b c → GoesOn f h i k a c
goes_then f g h i j k a b c first second = record { faults = omega (arith, first.faults, second.faults); idles = omega (arith, first.idles, second.idles); contents = keeps_on a b c first.contents second.contents }

pub goes_as : (f g g' i j j' : ℕ) (a b b' : Option (List Stored)) → g' ≡ g → j' ≡ j → b' ≡ b → GoesOn f g i j a b → GoesOn f g' i j' a b'
goes_as f g g' i j j' a b b' same_faults same_idles same_contents on = record {
  faults = omega (arith, on.faults, same_faults);
  idles = omega (arith, on.idles, same_idles);
  contents = subst (λ (stored : Option (List Stored)). Keeps a stored) (sym same_contents) on.contents;
}

shown_later : (start : Counts) (f g i j : ℕ) (told : CopyFault) → f ≤ g → i ≤ j → ShowsCause start f i told → ShowsCause start g j told
shown_later start f g i j fault.NoMemory faults idles shown = tt
shown_later start f g i j (fault.Link before after) faults idles shown = (shown.0, shown.1, omega (arith, shown.2, faults))
shown_later start f g i j (fault.Broke broken) faults idles shown = tt
shown_later start f g i j (fault.Peer option code) faults idles shown = tt
shown_later start f g i j (fault.Rule rule) faults idles shown = tt
shown_later start f g i j (fault.Silent told) faults idles shown = (shown.0, omega (arith, shown.1, idles))

pub cause_later : (start : Counts) (f g i j : ℕ) (a b : Option (List Stored)) (told : CopyFault) → HasCause start f i told → GoesOn f g i j a b → HasCause start g j told
cause_later start f g i j a b told cause on = record { shown = shown_later start f g i j told on.faults on.idles cause.shown }

shown_free : (start : Counts) (f i : ℕ) (told : CopyFault) → tells_no_count told ≡ true → ShowsCause start f i told
shown_free start f i fault.NoMemory free = tt
shown_free start f i (fault.Link before after) free = absurd (cc free)
shown_free start f i (fault.Broke broken) free = tt
shown_free start f i (fault.Peer option code) free = tt
shown_free start f i (fault.Rule rule) free = tt
shown_free start f i (fault.Silent told) free = absurd (cc free)

pub cause_free : (start : Counts) (f i : ℕ) (told : CopyFault) → tells_no_count told ≡ true → HasCause start f i told
cause_free start f i told free = record { shown = shown_free start f i told free }
