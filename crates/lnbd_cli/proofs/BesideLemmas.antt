-- What is told of a fault of serving with a file or beside a program has its cause, and which of them come where all steps were done.
use Rattle.std.proofs.Common.{◌≡◌, ◌≢◌, ◌⊎◌, inl, inr, ℕ, Bool, true, false, Option, Some, None, Result, Ok, Err, refl, sym, ◌∙◌, arith, ap, subst}
use Rattle.lnbd_link.specs.Count.{Rises}
use Rattle.lnbd_serve.specs.declared.fault.ServeFault.{ServeFault}
use Rattle.lnbd_serve.specs.declared.fault.ServeFault.TheVariants as serving
use Rattle.lnbd_spawn.specs.declared.spawner.Waited.{Waited}
use Rattle.lnbd_spawn.specs.declared.spawner.Waited.TheVariants as waited
use Rattle.lnbd_child.specs.declared.fault.RunFault.{RunFault}
use Rattle.lnbd_child.specs.declared.fault.RunFault.TheVariants as running
use Rattle.lnbd_child.specs.Causes.{IsLong, Rose}
use Rattle.lnbd_child.specs.Child.{answer_of, if_bad, is_bad}
use Rattle.lnbd_child.specs.Serving.{is_done}
use Rattle.lnbd_cli.specs.Beside.{HasStatus, TellsRunFault, is_all_done}
use Rattle.lnbd_cli.specs.Ends.{End, status_of_fault}
use Rattle.lnbd_cli.specs.declared.ending.Fault.{Fault}
use Rattle.lnbd_cli.specs.declared.ending.Fault.TheVariants as fault
use Rattle.lnbd_cli.specs.declared.ending.Ruling.TheVariants as ruling

abbrev answer : RunFault → Result ℕ RunFault
answer why = Err why

abbrev failed : Fault → End
failed why = Err why

-- how a child ended is known where that is answered
pub known_end : (served : Result ℕ ServeFault) (ended : Option Waited) → answer (running.Child waited.Failed) ≢ answer_of served ended
known_end (Err why) ended e = cc e
known_end (Ok sessions) None e = cc e
known_end (Ok sessions) (Some (waited.Status status)) e = bad (is_bad (waited.Status status)) e
  where
    bad : (b : Bool) → answer (running.Child waited.Failed) ≢ if_bad b (waited.Status status) sessions
    bad true e = cc e
    bad false e = cc e
known_end (Ok sessions) (Some waited.Signal) e = cc e
known_end (Ok sessions) (Some waited.Failed) e = cc e

-- The causes.

module _ (Link Silent Output Store Spawn : Type 0) where
  -- what is so where this is told
  abbrev Caused : Fault → Type 0
  Caused fault.Link = Link
  Caused fault.Silent = Silent
  Caused fault.Output = Output
  Caused fault.Store = Store
  Caused fault.Spawn = Spawn
  Caused fault.Usage = Unit {0}
  Caused (fault.Uri why) = Unit {0}
  Caused (fault.Line number) = Unit {0}
  Caused (fault.Told option code) = Unit {0}
  Caused (fault.Broke broken) = Unit {0}
  Caused fault.Client = Unit {0}
  Caused (fault.Rule ruling) = Unit {0}
  Caused fault.NoMemory = Unit {0}
  Caused fault.Input = Unit {0}
  Caused (fault.Child status) = Unit {0}
  Caused fault.Signal = Unit {0}

  -- what each answer comes from
  record Causes (why : RunFault) : Type 0 where
    link : (before after : ℕ) → answer why ≡ Err (running.Serve (serving.Link before after)) → Link
    silent : (count : ℕ) → answer why ≡ Err (running.Serve (serving.Silent count)) → Silent
    output : answer why ≡ Err (running.Serve serving.Output) → Output
    store : (before after : ℕ) → answer why ≡ Err (running.Store before after) → Store
    spawn : (before after : ℕ) → answer why ≡ Err (running.Spawn before after) → Spawn
    unknown : answer why ≡ Err (running.Child waited.Failed) → Spawn

  caused : (why : RunFault) (told : Fault) → TellsRunFault why told → Causes why → Caused told
  caused (running.Serve serving.Client) told is causes = subst Caused (sym is) tt
  caused (running.Serve (serving.Link before after)) told is causes = subst Caused (sym is) (causes.link before after refl)
  caused (running.Serve (serving.Silent count)) told is causes = subst Caused (sym is) (causes.silent count refl)
  caused (running.Serve serving.Output) told is causes = subst Caused (sym is) (causes.output refl)
  caused (running.Serve serving.NoMemory) told is causes = subst Caused (sym is) tt
  caused (running.Store before after) told is causes = subst Caused (sym is) (causes.store before after refl)
  caused (running.Spawn before after) told is causes = subst Caused (sym is) (causes.spawn before after refl)
  caused (running.Child (waited.Status status)) told is causes = subst Caused (sym is) tt
  caused (running.Child waited.Signal) told is causes = subst Caused (sym is) tt
  caused (running.Child waited.Failed) told is causes = subst Caused (sym is) (causes.unknown refl)
  caused (running.TooLong length) told is causes = subst Caused (sym is) tt
  caused (running.Changed length end) told is causes = subst Caused (sym is) tt

  told_as : (why : RunFault) (told wanted : Fault) → TellsRunFault why told → Causes why → failed told ≡ Err wanted → Caused wanted
  told_as why told wanted is causes e = let same : told ≡ wanted = cc e in subst Caused same (caused why told is causes)

abbrev One : Type 0
One = Unit {0}

pub told_link : (P : Type 0) (why : RunFault) (told : Fault) → TellsRunFault why told → ((before after : ℕ) → answer why ≡ Err (running.Serve (serving.Link before after)) → P) → failed told ≡ Err fault.Link → P
told_link P why told is cause =
    told_as P One One One One why told fault.Link is (record { link = cause; silent = λ n e. tt; output = λ e. tt; store = λ b a e. tt; spawn = λ b a e. tt; unknown = λ e. tt })

pub told_silent : (P : Type 0) (why : RunFault) (told : Fault) → TellsRunFault why told → ((count : ℕ) → answer why ≡ Err (running.Serve (serving.Silent count)) → P) → failed told ≡ Err fault.Silent → P
told_silent P why told is cause =
    told_as One P One One One why told fault.Silent is (record { link = λ b a e. tt; silent = cause; output = λ e. tt; store = λ b a e. tt; spawn = λ b a e. tt; unknown = λ e. tt })

pub told_output : (P : Type 0) (why : RunFault) (told : Fault) → TellsRunFault why told → (answer why ≡ Err (running.Serve serving.Output) → P) → failed told ≡ Err fault.Output → P
told_output P why told is cause =
    told_as One One P One One why told fault.Output is (record { link = λ b a e. tt; silent = λ n e. tt; output = cause; store = λ b a e. tt; spawn = λ b a e. tt; unknown = λ e. tt })

pub told_store : (P : Type 0) (why : RunFault) (told : Fault) → TellsRunFault why told → ((before after : ℕ) → answer why ≡ Err (running.Store before after) → P) → failed told ≡ Err fault.Store → P
told_store P why told is cause =
    told_as One One One P One why told fault.Store is (record { link = λ b a e. tt; silent = λ n e. tt; output = λ e. tt; store = cause; spawn = λ b a e. tt; unknown = λ e. tt })

-- a spawner's fault, where how a child ended is known if that is answered
pub told_spawn : (P : Type 0) (why : RunFault) (told : Fault) → TellsRunFault why told → ((before after : ℕ) → answer why ≡ Err (running.Spawn before after) → P)
    → (is_done (answer why) ≡ true → (served : Result ℕ ServeFault) × (ended : Option Waited) × (answer why ≡ answer_of served ended)) → failed told ≡ Err fault.Spawn → P
told_spawn P why told is cause so =
    told_as One One One One P why told fault.Spawn is (record { link = λ b a e. tt; silent = λ n e. tt; output = λ e. tt; store = λ b a e. tt; spawn = cause; unknown = unknown })
  where
    unknown : answer why ≡ Err (running.Child waited.Failed) → P
    unknown e = let s = so (ap is_done e) in absurd (known_end s.0 s.1 (sym e ∙ s.2))

-- a count of the wires that rose, as the end of a run, of which not all steps were done
pub as_counted : (why : Fault) → (why ≡ fault.Link) ⊎ (why ≡ fault.Silent) → (failed why ≡ Err fault.Link) ⊎ (failed why ≡ Err fault.Silent)
as_counted why (inl is) = inl (ap failed is)
as_counted why (inr is) = inr (ap failed is)

pub not_counted : (why : Fault) → (why ≡ fault.Link) ⊎ (why ≡ fault.Silent) → is_all_done (status_of_fault why) ≡ true → ⊥
not_counted why (inl is) done = cc (ap (λ (w : Fault). is_all_done (status_of_fault w)) (sym is) ∙ done)
not_counted why (inr is) done = cc (ap (λ (w : Fault). is_all_done (status_of_fault w)) (sym is) ∙ done)

-- a count that rose in between rose
pub risen : {A : Type 0} (faults : A → ℕ) (old new : A) (before after : ℕ) → Rose faults old new before after → Rises 1 (faults old) (faults new)
risen faults old new before after r = omega (arith, r.0, r.1, r.2)

pub long : {A : Type 0} (idles : A → ℕ) (old new : A) (count : ℕ) → IsLong idles old new count → Rises 1000000000 (idles old) (idles new)
long idles old new count r = omega (arith, r.0, r.1)

-- Where all steps were done.

module _ (Is : Result ℕ RunFault → Type 0) where
  -- an answer of which this is so, with this status
  abbrev pub All : (status : ℕ) → Type 0
  All status = (result : Result ℕ RunFault) × Is result × HasStatus result status

  other : (told wanted : Fault) → told ≡ wanted → is_all_done (status_of_fault told) ≡ true → is_all_done (status_of_fault wanted) ≡ true
  other told wanted is done = subst (λ (w : Fault). is_all_done (status_of_fault w) ≡ true) is done

  pub all_done : (why : RunFault) (told : Fault) → TellsRunFault why told → (is_done (Err why) ≡ true → Is (Err why)) → is_all_done (status_of_fault told) ≡ true → All (status_of_fault told)
  all_done (running.Serve serving.Client) told is so done = (Err (running.Serve serving.Client), so refl, ap status_of_fault is)
  all_done (running.Serve (serving.Link before after)) told is so done = cc (other told fault.Link is done)
  all_done (running.Serve (serving.Silent count)) told is so done = cc (other told fault.Silent is done)
  all_done (running.Serve serving.Output) told is so done = cc (other told fault.Output is done)
  all_done (running.Serve serving.NoMemory) told is so done = cc (other told fault.NoMemory is done)
  all_done (running.Store before after) told is so done = cc (other told fault.Store is done)
  all_done (running.Spawn before after) told is so done = cc (other told fault.Spawn is done)
  all_done (running.Child (waited.Status status)) told is so done = (Err (running.Child (waited.Status status)), so refl, ap status_of_fault is)
  all_done (running.Child waited.Signal) told is so done = (Err (running.Child waited.Signal), so refl, ap status_of_fault is)
  all_done (running.Child waited.Failed) told is so done = cc (other told fault.Spawn is done)
  all_done (running.TooLong length) told is so done = cc (other told (fault.Rule (ruling.FileSize length)) is done)
  all_done (running.Changed length end) told is so done = cc (other told (fault.Rule (ruling.Changed length end)) is done)
