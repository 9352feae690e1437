-- What a copy did is so of the options and places that the words name.
use Rattle.std.proofs.Common.{◌≡◌, ◌≢◌, ℕ, List, Option, Err, arith, ap, sym, ◌∙◌, subst}
use Rattle.lnbd_model.specs.declared.target.Place.{Place}
use Rattle.lnbd_link.specs.Call.{Call}
use Rattle.lnbd_plan.specs.declared.options.CopyOptions.{CopyOptions}
use Rattle.lnbd_plan.specs.declared.fault.CopyFault.{CopyFault}
use Rattle.lnbd_plan.specs.declared.fault.CopyFault.TheVariants as copying
use Rattle.lnbd_course.specs.Asks.{GrewBy}
use Rattle.lnbd_link.specs.Count.{Rises}
use Rattle.lnbd_copy.specs.Causes.{HasCause}
use Rattle.lnbd_copy.specs.declared.counts.Counts.{Counts}
use Rattle.lnbd_cli.specs.Copies.{TellsCopyFault}
use Rattle.lnbd_cli.specs.Ends.{End}
use Rattle.lnbd_cli.specs.declared.ending.Fault.{Fault}
use Rattle.lnbd_cli.specs.declared.ending.Fault.TheVariants as fault
use Rattle.lnbd_course.specs.Copied.{Copies}
use Rattle.lnbd_copy.specs.Copier as copier
use Rattle.lnbd_conduct.specs.Decided.{IsDecided}
use Rattle.lnbd_conduct.specs.Grounds.{IsGrounded}

-- What a copy from one place to another did.
pub copied_by : (seen : copier.Seen) (from to : Place) (options : CopyOptions) (a b : Option (List Call)) → (seen.options ≡ options) × (seen.from ≡ from) × (seen.to ≡ to) →
    (seen.from ≢ seen.to → Copies seen.from seen.to seen.options.destination_is_zero a b) → from ≢ to → Copies from to options.destination_is_zero a b
copied_by seen from to options a b what run two =
    subst (λ (o : CopyOptions). Copies from to o.destination_is_zero a b) what.0
    (subst (λ (p : Place). Copies from p seen.options.destination_is_zero a b) what.2
    (subst (λ (p : Place). Copies p seen.to seen.options.destination_is_zero a b) what.1 (run (λ e. two (sym what.1 ∙ e ∙ what.2)))))

-- What is so of a copy of the options and places that the words name is so of these, whatever it comes to,
pub by_words : (Is : CopyOptions → (from to : Place) → List Call → Type 0) (seen : copier.Seen) (from to : Place) (options : CopyOptions) (a b : Option (List Call))
    → (seen.options ≡ options) × (seen.from ≡ from) × (seen.to ≡ to) →
    GrewBy (Is seen.options seen.from seen.to) a b → GrewBy (Is options from to) a b
by_words Is seen from to options a b what run =
    subst (λ (o : CopyOptions). GrewBy (Is o from to) a b) what.0
    (subst (λ (p : Place). GrewBy (Is seen.options from p) a b) what.2
    (subst (λ (p : Place). GrewBy (Is seen.options p seen.to) a b) what.1 run))

-- or where it is from one place to another.
pub between_words : (Is : CopyOptions → (from to : Place) → List Call → Type 0) (seen : copier.Seen) (from to : Place) (options : CopyOptions) (a b : Option (List Call))
    → (seen.options ≡ options) × (seen.from ≡ from) × (seen.to ≡ to) →
    (seen.from ≢ seen.to → GrewBy (Is seen.options seen.from seen.to) a b) → from ≢ to → GrewBy (Is options from to) a b
between_words Is seen from to options a b what run two = by_words Is seen from to options a b what (run (λ e. two (sym what.1 ∙ e ∙ what.2)))

pub grounded_by : (seen : copier.Seen) (from to : Place) (options : CopyOptions) (a b : Option (List Call)) (fault : CopyFault) → (seen.options ≡ options) × (seen.from ≡ from) × (seen.to ≡ to) →
    IsGrounded a b seen.options.extents seen.from seen.to fault → IsGrounded a b options.extents from to fault
grounded_by seen from to options a b fault what shown =
    subst (λ (o : CopyOptions). IsGrounded a b o.extents from to fault) what.0
    (subst (λ (p : Place). IsGrounded a b seen.options.extents from p fault) what.2 (subst (λ (p : Place). IsGrounded a b seen.options.extents p seen.to fault) what.1 shown))

pub decided_by : (seen : copier.Seen) (from to : Place) (options : CopyOptions) (a b : Option (List Call)) (fault : CopyFault) → (seen.options ≡ options) × (seen.from ≡ from) × (seen.to ≡ to) →
    IsDecided a b seen.options seen.from seen.to fault → IsDecided a b options from to fault
decided_by seen from to options a b fault what shown =
    subst (λ (o : CopyOptions). IsDecided a b o from to fault) what.0
    (subst (λ (p : Place). IsDecided a b seen.options from p fault) what.2 (subst (λ (p : Place). IsDecided a b seen.options p seen.to fault) what.1 shown))

-- What is told of a fault has its cause.

abbrev failed : Fault → End
failed why = Err why

pub told_link : (f : CopyFault) (why : Fault) (start : Counts) (faults idles : ℕ) → TellsCopyFault f why → HasCause start faults idles f → failed why ≡ Err fault.Link → Rises 1 start.faults faults
told_link (copying.Link before after) why start faults idles is cause e = let r = cause.shown in omega (arith, r.0, r.1, r.2)
told_link (copying.Peer option code) why start faults idles is cause e = cc (ap failed (sym is) ∙ e)
told_link (copying.Broke broken) why start faults idles is cause e = cc (ap failed (sym is) ∙ e)
told_link (copying.Rule rule) why start faults idles is cause e = cc (ap failed (sym is) ∙ e)
told_link (copying.Silent told) why start faults idles is cause e = cc (ap failed (sym is) ∙ e)
told_link copying.NoMemory why start faults idles is cause e = cc (ap failed (sym is) ∙ e)

pub told_silent : (f : CopyFault) (why : Fault) (start : Counts) (faults idles : ℕ) → TellsCopyFault f why → HasCause start faults idles f → failed why ≡ Err fault.Silent
    → Rises 1000000000 start.idles idles
told_silent (copying.Silent told) why start faults idles is cause e = let r = cause.shown in omega (arith, r.0, r.1)
told_silent (copying.Link before after) why start faults idles is cause e = cc (ap failed (sym is) ∙ e)
told_silent (copying.Peer option code) why start faults idles is cause e = cc (ap failed (sym is) ∙ e)
told_silent (copying.Broke broken) why start faults idles is cause e = cc (ap failed (sym is) ∙ e)
told_silent (copying.Rule rule) why start faults idles is cause e = cc (ap failed (sym is) ∙ e)
told_silent copying.NoMemory why start faults idles is cause e = cc (ap failed (sym is) ∙ e)
