-- The child that is served: how it is started, and how it ends.
use Rattle.std.specs.Prelude.{◌≡◌, ℕ, Bool, true, false, List, [], ◌∷◌, ◌++◌, Option, Some, None, Result, Ok, Err, ◌==◌, not}
use Rattle.lnbd_spawn.specs.declared.deed.Deed.{Deed}
use Rattle.lnbd_spawn.specs.declared.deed.Deed.TheVariants.{Start, Wait}
use Rattle.lnbd_spawn.specs.declared.spawner.Waited.{Waited}
use Rattle.lnbd_spawn.specs.declared.spawner.Waited.TheVariants as waited
use Rattle.lnbd_serve.specs.declared.fault.ServeFault.{ServeFault}
use Rattle.lnbd_serve.specs.declared.fault.ServeFault.TheVariants as serving
use Rattle.lnbd_child.specs.declared.fault.RunFault.{RunFault}
use Rattle.lnbd_child.specs.declared.fault.RunFault.TheVariants as fault
use Rattle.lnbd_child.specs.declared.child.Attended.{Attended}
use Rattle.lnbd_child.specs.declared.child.Running.{Running}

-- No program is asked for, and none is started; or the first word is one, which is started once with the others and the address.
abbrev pub Starts : (run : List (List ℕ)) (uri : List ℕ) → (child : Option ℕ) → (deeds : List Deed) → Type 0
Starts [] uri child deeds = (child ≡ None) × (deeds ≡ [])
Starts (program ∷ words) uri child deeds = (n : ℕ) × (child ≡ Some n) × (deeds ≡ Start program (words ++ uri ∷ []) (Some n) ∷ [])

-- There is no memory for its words, or it is not started.
pub data NotStarted (program : List ℕ) (words : List (List ℕ)) (uri : List ℕ) (why : RunFault) (deeds : List Deed) : Type 0 where
  No_words : deeds ≡ [] → why ≡ fault.Serve serving.NoMemory → NotStarted program words uri why deeds
  No_child : (before after : ℕ) → deeds ≡ Start program (words ++ uri ∷ []) None ∷ [] → why ≡ fault.Spawn before after → NotStarted program words uri why deeds

abbrev pub StartsNot : (run : List (List ℕ)) (uri : List ℕ) → RunFault → (deeds : List Deed) → Type 0
StartsNot [] uri why deeds = ⊥
StartsNot (program ∷ words) uri why deeds = NotStarted program words uri why deeds

-- how it ended is known
abbrev pub is_known : Waited → Bool
is_known (waited.Status status) = true
is_known waited.Signal = true
is_known waited.Failed = false

-- Nobody is waited for; or the child is, once, and it is known how it ended, or not.
pub data Waits (running : Running) (result : Result Attended RunFault) (deeds : List Deed) : Type 0 where
  Nobody : running.child ≡ None → deeds ≡ [] → result ≡ Ok (record { served = running.served; ended = None }) → Waits running result deeds
  Ended : (child : ℕ) (answer : Waited) → running.child ≡ Some child → is_known answer ≡ true → deeds ≡ Wait child answer ∷ []
      → result ≡ Ok (record { served = running.served; ended = Some answer }) → Waits running result deeds
  Unknown : (child before after : ℕ) → running.child ≡ Some child → deeds ≡ Wait child waited.Failed ∷ [] → result ≡ Err (fault.Spawn before after) → Waits running result deeds

-- a status other than 0, or a signal
abbrev pub is_bad : Waited → Bool
is_bad (waited.Status status) = not (status == 0)
is_bad waited.Signal = true
is_bad waited.Failed = false

abbrev pub if_bad : Bool → Waited → (sessions : ℕ) → Result ℕ RunFault
if_bad true answer sessions = Err (fault.Child answer)
if_bad false answer sessions = Ok sessions

-- The answer where all steps were done: a client that was none comes before the child's end.
abbrev pub answer_of : Result ℕ ServeFault → Option Waited → Result ℕ RunFault
answer_of (Err why) ended = Err (fault.Serve why)
answer_of (Ok sessions) None = Ok sessions
answer_of (Ok sessions) (Some answer) = if_bad (is_bad answer) answer sessions
