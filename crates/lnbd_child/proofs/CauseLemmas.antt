-- What each fault comes from, step by step.
use Rattle.std.proofs.Common.{arith, min, ◌≡◌, ℕ, ◌+◌, ◌≤◌, Bool, true, false, Result, Ok, Err, refl, sym, subst, ◌∙◌}
use Rattle.std.proofs.lemmas.Bool.{false≢true}
use Rattle.std.specs.Prelude.{IfErr}
use Rattle.lnbd_serve.specs.declared.fault.ServeFault.{ServeFault}
use Rattle.lnbd_serve.specs.declared.fault.ServeFault.TheVariants as serving
use Rattle.lnbd_serve.specs.declared.printed.Unprinted.{Unprinted}
use Rattle.lnbd_serve.specs.declared.printed.Unprinted.TheVariants as unprinted
use Rattle.lnbd_serve.specs.Printed.{fault_of, is_served}
use Rattle.lnbd_spawn.specs.declared.spawner.Waited.{Waited}
use Rattle.std.specs.Prelude.{Option, Some, None}
use Rattle.lnbd_child.specs.declared.fault.RunFault.{RunFault}
use Rattle.lnbd_child.specs.declared.fault.RunFault.TheVariants as fault
use Rattle.lnbd_child.specs.declared.reading.Unread.{Unread}
use Rattle.lnbd_child.specs.declared.reading.Unread.TheVariants as unread
use Rattle.lnbd_child.specs.Causes.{Because, Cuts, Ends, Lacks, Never, Rose}
use Rattle.lnbd_child.specs.declared.child.Attended.{Attended}
use Rattle.lnbd_child.specs.Child.{answer_of, if_bad, is_bad}
use Rattle.lnbd_child.specs.Closing.{answered}
use Rattle.lnbd_child.specs.Loading.{TellsUnread}
use Rattle.lnbd_child.specs.Serving.{is_done}
use Rattle.lnbd_child.specs.Steps.{IsChanged}

pub err_is : {A : Type 0} (r : Result A RunFault) (one two : RunFault) → r ≡ Err one → r ≡ Err two → one ≡ two
err_is r one two e f = cc

module _ (File Child : Type 0) (Serve : ServeFault → Type 0) (Store Spawn : ℕ → ℕ → Type 0) where
  pub because_of : {A : Type 0} (r : Result A RunFault) (one two : RunFault) → Because File Child Serve Store Spawn one → r ≡ Err one → r ≡ Err two → Because File Child Serve Store Spawn two
  because_of r one two is e f = subst (Because File Child Serve Store Spawn) (err_is r one two e f) is

  pub because_done : (why : RunFault) → (Child → ⊥) → (Serve serving.Client → ⊥) → Because File Child Serve Store Spawn why → is_done (Err why) ≡ true → ⊥
  because_done (fault.Serve serving.NoMemory) child client is done = false≢true done
  because_done (fault.Serve (serving.Link before after)) child client is done = false≢true done
  because_done (fault.Serve serving.Output) child client is done = false≢true done
  because_done (fault.Serve (serving.Silent count)) child client is done = false≢true done
  because_done (fault.Serve serving.Client) child client is done = client is
  because_done (fault.Store before after) child client is done = false≢true done
  because_done (fault.Spawn before after) child client is done = false≢true done
  because_done (fault.Child ended) child client is done = child is
  because_done (fault.TooLong n) child client is done = false≢true done
  because_done (fault.Changed n end) child client is done = false≢true done

  pub because_else : (File' Child' : Type 0) (Serve' : ServeFault → Type 0) (Store' Spawn' : ℕ → ℕ → Type 0) (why : RunFault) → (File → File') → (Child → Child') → ((f : ServeFault) → Serve f → Serve' f) → ((b a : ℕ) → Store b a → Store' b a)
      → ((b a : ℕ) → Spawn b a → Spawn' b a) → Because File Child Serve Store Spawn why → Because File' Child' Serve' Store' Spawn' why
  because_else File' Child' Serve' Store' Spawn' (fault.Serve f) file child serve store spawn is = serve f is
  because_else File' Child' Serve' Store' Spawn' (fault.Store before after) file child serve store spawn is = store before after is
  because_else File' Child' Serve' Store' Spawn' (fault.Spawn before after) file child serve store spawn is = spawn before after is
  because_else File' Child' Serve' Store' Spawn' (fault.Child ended) file child serve store spawn is = child is
  because_else File' Child' Serve' Store' Spawn' (fault.TooLong n) file child serve store spawn is = file is
  because_else File' Child' Serve' Store' Spawn' (fault.Changed n end) file child serve store spawn is = file is

-- A file that was not read.

pub unread_because : (before after : ℕ) (Store : ℕ → ℕ → Type 0) (why : Unread) (f : RunFault) → TellsUnread before after why f → (why ≡ unread.Failed → Store before after) → Because (Unit {0}) ⊥ Lacks Store Never f
unread_because before after Store unread.NoMemory f tells rose = subst (Because (Unit {0}) ⊥ Lacks Store Never) (sym tells) tt
unread_because before after Store unread.Failed f tells rose = subst (Because (Unit {0}) ⊥ Lacks Store Never) (sym tells) (rose refl)
unread_because before after Store (unread.TooLong n) f tells rose = subst (Because (Unit {0}) ⊥ Lacks Store Never) (sym tells) tt
unread_because before after Store (unread.Changed n end) f tells rose = subst (Because (Unit {0}) ⊥ Lacks Store Never) (sym tells) tt

pub unread_changed : {A : Type 0} (r : Result A RunFault) (before after n end : ℕ) (why : Unread) (f : RunFault) → TellsUnread before after why f → r ≡ Err f → r ≡ Err (fault.Changed n end) → IsChanged why
unread_changed r before after n end unread.NoMemory f tells e k = let bad : fault.Serve serving.NoMemory ≡ fault.Changed n end = sym tells ∙ err_is r f (fault.Changed n end) e k in absurd cc
unread_changed r before after n end unread.Failed f tells e k = let bad : fault.Store before after ≡ fault.Changed n end = sym tells ∙ err_is r f (fault.Changed n end) e k in absurd cc
unread_changed r before after n end (unread.TooLong m) f tells e k = let bad : fault.TooLong m ≡ fault.Changed n end = sym tells ∙ err_is r f (fault.Changed n end) e k in absurd cc
unread_changed r before after n end (unread.Changed m last) f tells e k = tt

-- The answer.

pub printed_because : (Child Lines : Type 0) (Store Spawn : ℕ → ℕ → Type 0) (why : Unprinted) → (why ≡ unprinted.Output → Lines) → Because ⊥ Child (Ends Lines) Store Spawn (fault.Serve (fault_of why))
printed_because Child Lines Store Spawn unprinted.NoMemory rose = tt
printed_because Child Lines Store Spawn unprinted.Output rose = rose refl

if_bad_because : (Lines : Type 0) (Store Spawn : ℕ → ℕ → Type 0) (b : Bool) (answer : Waited) (n : ℕ) → IfErr (if_bad b answer n) (Because ⊥ (Unit {0}) (Ends Lines) Store Spawn)
if_bad_because Lines Store Spawn true answer n = tt
if_bad_because Lines Store Spawn false answer n = tt

pub answer_because : (Lines : Type 0) (Store Spawn : ℕ → ℕ → Type 0) (served : Result ℕ ServeFault) (ended : Option Waited) → is_served served ≡ true → IfErr (answer_of served ended) (Because ⊥ (Unit {0}) (Ends Lines) Store Spawn)
answer_because Lines Store Spawn (Ok n) None all = tt
answer_because Lines Store Spawn (Ok n) (Some answer) all = if_bad_because Lines Store Spawn (is_bad answer) answer n
answer_because Lines Store Spawn (Err serving.Client) ended all = tt
answer_because Lines Store Spawn (Err serving.NoMemory) ended all = absurd (false≢true all)
answer_because Lines Store Spawn (Err (serving.Link before after)) ended all = absurd (false≢true all)
answer_because Lines Store Spawn (Err serving.Output) ended all = absurd (false≢true all)
answer_because Lines Store Spawn (Err (serving.Silent count)) ended all = absurd (false≢true all)

pub answered_done : (told : Result (Unit {0}) Unprinted) (attended : Attended) → is_done (answered told attended) ≡ true → answered told attended ≡ answer_of attended.served attended.ended
answered_done (Ok done) attended is = refl
answered_done (Err unprinted.NoMemory) attended is = absurd (false≢true is)
answered_done (Err unprinted.Output) attended is = absurd (false≢true is)

pub answered_because : (Lines : Type 0) (Store Spawn : ℕ → ℕ → Type 0) (told : Result (Unit {0}) Unprinted) (attended : Attended) → is_served attended.served ≡ true → (told ≡ Err unprinted.Output → Lines)
    → IfErr (answered told attended) (Because ⊥ (Unit {0}) (Ends Lines) Store Spawn)
answered_because Lines Store Spawn (Ok done) attended all rose = answer_because Lines Store Spawn attended.served attended.ended all
answered_because Lines Store Spawn (Err unprinted.NoMemory) attended all rose = tt
answered_because Lines Store Spawn (Err unprinted.Output) attended all rose = rose refl

-- Serving.

pub lacks_cuts : {W : Type 0} (faults idles : W → ℕ) (wires wires' : W) (Lines : Type 0) (f : ServeFault) → Lacks f → Cuts faults idles wires wires' Lines f
lacks_cuts faults idles wires wires' Lines serving.NoMemory is = tt
lacks_cuts faults idles wires wires' Lines (serving.Link before after) is = absurd is
lacks_cuts faults idles wires wires' Lines serving.Output is = absurd is
lacks_cuts faults idles wires wires' Lines (serving.Silent count) is = absurd is
lacks_cuts faults idles wires wires' Lines serving.Client is = absurd is

pub cuts_lines : {W : Type 0} (faults idles : W → ℕ) (wires wires' : W) (Lines : Type 0) (f : ServeFault) → Cuts faults idles wires wires' ⊥ f → Cuts faults idles wires wires' Lines f
cuts_lines faults idles wires wires' Lines serving.NoMemory is = tt
cuts_lines faults idles wires wires' Lines (serving.Link before after) is = is
cuts_lines faults idles wires wires' Lines serving.Output is = absurd is
cuts_lines faults idles wires wires' Lines (serving.Silent count) is = is
cuts_lines faults idles wires wires' Lines serving.Client is = is

-- what comes before, and what comes behind, lets the counts stand or rise
pub cuts_around : {W : Type 0} (faults idles : W → ℕ) (a b c d : W) (Lines : Type 0) (f : ServeFault) → faults a ≤ faults b → faults c ≤ faults d → idles a ≤ idles b → idles c ≤ idles d
    → Cuts faults idles b c Lines f → Cuts faults idles a d Lines f
cuts_around faults idles a b c d Lines serving.NoMemory f0 f1 i0 i1 is = tt
cuts_around faults idles a b c d Lines (serving.Link before after) f0 f1 i0 i1 is = let x = is.0 in let y = is.1 in (omega (arith, f0, x), omega (arith, f1, y), is.2)
cuts_around faults idles a b c d Lines serving.Output f0 f1 i0 i1 is = is
cuts_around faults idles a b c d Lines (serving.Silent count) f0 f1 i0 i1 is =
    let x = is.0 in
    let y : min (idles b + 1000000000) 18446744073709551615 ≤ count = is.1 in
    let z : min (idles a + 1000000000) 18446744073709551615 ≤ count = omega (arith, i0, y) in
    (omega (arith, i1, x), z)
cuts_around faults idles a b c d Lines serving.Client f0 f1 i0 i1 is = is

pub untold_because : {W : Type 0} (faults idles : W → ℕ) (wires wires' : W) (Lines : Type 0) (Store Spawn : ℕ → ℕ → Type 0) (why : Unprinted) (f : ServeFault) → f ≡ fault_of why → (why ≡ unprinted.Output → Lines)
    → Because ⊥ ⊥ (Cuts faults idles wires wires' Lines) Store Spawn (fault.Serve f)
untold_because faults idles wires wires' Lines Store Spawn unprinted.NoMemory f is rose = subst (Cuts faults idles wires wires' Lines) (sym is) tt
untold_because faults idles wires wires' Lines Store Spawn unprinted.Output f is rose = subst (Cuts faults idles wires wires' Lines) (sym is) (rose refl)

pub rose_around : {A : Type 0} (faults : A → ℕ) (a b c d : A) (before after : ℕ) → faults a ≤ faults b → faults c ≤ faults d → Rose faults b c before after → Rose faults a d before after
rose_around faults a b c d before after f0 f1 is = let x = is.0 in let y = is.1 in (omega (arith, f0, x), omega (arith, f1, y), is.2)
