-- Clients and the child, step by step.
use Rattle.std.proofs.Common.{◌≡◌, ℕ, true, false, List, [], ◌∷◌, ◌++◌, Option, Some, None, Result, Ok, Err, refl, ap, sym, subst, length, arith, ◌<◌, ◌==◌}
use Rattle.std.proofs.lemmas.Bool.Decides.{nat_tests}
use Rattle.std.specs.Prelude.{IfOk, IfErr}
use Rattle.lnbd_export.specs.Export.{Export, size}
use Rattle.lnbd_link.specs.Call.{Call, Listen, Shut}
use Rattle.lnbd_link.specs.Part.{Grows, Adds, Takes}
use Rattle.lnbd_link.proofs.Parts.{grows_none, grows_on, takes_none}
use Rattle.lnbd_spawn.specs.declared.deed.Deed.{Deed}
use Rattle.lnbd_serve.specs.declared.fault.ServeFault.{ServeFault}
use Rattle.lnbd_serve.specs.declared.fault.ServeFault.TheVariants as serving
use Rattle.lnbd_serve.specs.declared.printed.Unprinted.{Unprinted}
use Rattle.lnbd_serve.specs.declared.printed.Unprinted.TheVariants as unprinted
use Rattle.lnbd_serve.specs.Printed.{IsPrinted, Prints, fault_of, is_served, serving_line}
use Rattle.lnbd_serve.specs.Served.{ServedAs}
use Rattle.lnbd_serve.specs.Steps.{Went}
use Rattle.lnbd_store.specs.declared.serving.Serving.{Serving}
use Rattle.lnbd_child.specs.declared.child.Attended.{Attended}
use Rattle.lnbd_child.specs.declared.child.Running.{Running}
use Rattle.lnbd_child.specs.declared.fault.RunFault.{RunFault}
use Rattle.lnbd_child.specs.declared.fault.RunFault.TheVariants as fault
use Rattle.lnbd_child.specs.Child.{Starts, StartsNot, Waits}
use Rattle.lnbd_child.specs.Causes.{Because, Cuts, IsLong, Rose}
use Rattle.lnbd_child.specs.Grown.{Grew}
use Rattle.lnbd_child.specs.Hosting.{Attends, Hosted, Hosts, No_listener, Not_hosted, Not_started, Not_told, Cut_off, Served, Serves, Worked, running_of}

pub some_there : {A : Type 0} (xs : List A) → (length xs == 0) ≡ false → 0 < length xs
some_there xs e = grind (arith, nat_tests)

-- What was printed of a line.
pub record Took (taken taken' : Option (List ℕ)) (Leads : List ℕ → Type 0) : Type 0 where
  pub printed : List ℕ
  pub takes : Takes taken taken' printed
  pub leads : Leads printed

takes_same : (taken taken' : Option (List ℕ)) → taken' ≡ taken → Takes taken taken' []
takes_same taken taken' same = subst (λ (t : Option (List ℕ)). Takes taken t []) (sym same) (takes_none taken)

pub printed_of : (told : Result (Unit {0}) Unprinted) (taken taken' : Option (List ℕ)) (line : List ℕ) → Prints told taken taken' line → Took taken taken' (IsPrinted told line)
printed_of (Ok done) taken taken' line prints = record { printed = line; takes = prints; leads = refl }
printed_of (Err unprinted.NoMemory) taken taken' line prints = record { printed = []; takes = takes_same taken taken' prints; leads = refl }
printed_of (Err unprinted.Output) taken taken' line prints = record { printed = prints.front; takes = prints.takes; leads = (prints.rest, prints.split) }

-- While the listener is open.

module _ (asked : Serving) (listener : ℕ) where
  pub hosts_untold : (told : Option (List Call)) (taken taken' : Option (List ℕ)) (deeds : Option (List Deed)) (why : Unprinted) (start : Export) → Prints (Err why) taken taken' (serving_line (size start))
      → Worked told told taken taken' deeds deeds (Hosts asked listener start start (Err (fault.Serve (fault_of why))))
  hosts_untold told taken taken' deeds why start prints =
      let p = printed_of (Err why) taken taken' (serving_line (size start)) prints in
      record { calls = []; printed = p.printed; started = []; grown = grows_none told; takes = p.takes; starts = grows_none deeds; leads = Not_told why refl p.leads refl refl refl }

  pub hosts_unstarted : (told : Option (List Call)) (taken taken' : Option (List ℕ)) (deeds deeds' : Option (List Deed)) (why : RunFault) (start : Export) → Takes taken taken' (serving_line (size start))
      → Grew deeds deeds' (StartsNot asked.run asked.uri why) → Worked told told taken taken' deeds deeds' (Hosts asked listener start start (Err why))
  hosts_unstarted told taken taken' deeds deeds' why start takes starts =
      record { calls = []; printed = serving_line (size start); started = starts.calls; grown = grows_none told; takes = takes; starts = starts.grown; leads = Not_started why refl refl starts.leads refl refl }

  hosts_as : (child : Option ℕ) (start end : Export) (result : Result Running RunFault) (calls : List Call) (deeds : List Deed) → Starts asked.run asked.uri child deeds → Serves listener asked.sessions child start end result calls
      → Hosts asked listener start end result calls (serving_line (size start)) deeds
  hosts_as child start end (Ok running) calls deeds starts serves = Served child running.served (ap (λ (k : Option ℕ). Ok (record { served = running.served; child = k })) serves.0) refl starts serves.1 serves.2
  hosts_as child start end (Err why) calls deeds starts serves = Cut_off child serves.0 (ap (λ (f : RunFault). Err f) serves.1) refl starts serves.2 serves.3

  pub hosts_served : (told told' : Option (List Call)) (taken taken' : Option (List ℕ)) (deeds deeds' : Option (List Deed)) (child : Option ℕ) (start end : Export) (result : Result Running RunFault)
      → Takes taken taken' (serving_line (size start)) → Grew deeds deeds' (Starts asked.run asked.uri child) → Went told told' (Serves listener asked.sessions child start end result)
      → Worked told told' taken taken' deeds deeds' (Hosts asked listener start end result)
  hosts_served told told' taken taken' deeds deeds' child start end result takes starts went =
      record { calls = went.calls; printed = serving_line (size start); started = starts.calls; grown = went.grown; takes = takes; starts = starts.grown; leads = hosts_as child start end result went.calls starts.calls starts.leads went.leads }

-- The clients.

module _ (listener sessions : ℕ) (child : Option ℕ) (start end : Export) (calls : List Call) where
  serves_as : (served : Result ℕ ServeFault) → ServedAs listener sessions served start calls end → Serves listener sessions child start end (running_of served child) calls
  serves_as (Ok n) is = (refl, refl, is)
  serves_as (Err serving.Client) is = (refl, refl, is)
  serves_as (Err serving.NoMemory) is = (serving.NoMemory, refl, refl, is)
  serves_as (Err (serving.Link before after)) is = (serving.Link before after, refl, refl, is)
  serves_as (Err serving.Output) is = absurd is
  serves_as (Err (serving.Silent count)) is = (serving.Silent count, refl, refl, is)

pub serves_on : (told told' : Option (List Call)) (listener sessions : ℕ) (child : Option ℕ) (start end : Export) (served : Result ℕ ServeFault) (result : Result Running RunFault) → result ≡ running_of served child
    → Went told told' (λ calls. ServedAs listener sessions served start calls end) → Went told told' (Serves listener sessions child start end result)
serves_on told told' listener sessions child start end served result is went =
    subst (λ (r : Result Running RunFault). Went told told' (Serves listener sessions child start end r)) (sym is)
    (record { calls = went.calls; grown = went.grown; leads = serves_as listener sessions child start end went.calls served went.leads })

running_child : (served : Result ℕ ServeFault) (child : Option ℕ) → IfOk (running_of served child) (λ (r : Running). r.child ≡ child)
running_child (Ok n) child = refl
running_child (Err serving.Client) child = refl
running_child (Err serving.NoMemory) child = tt
running_child (Err (serving.Link before after)) child = tt
running_child (Err serving.Output) child = tt
running_child (Err (serving.Silent count)) child = tt

pub keeps_child : (served : Result ℕ ServeFault) (child : Option ℕ) (result : Result Running RunFault) → result ≡ running_of served child → IfOk result (λ (r : Running). r.child ≡ child)
keeps_child served child result is = subst (λ (r : Result Running RunFault). IfOk r (λ (x : Running). x.child ≡ child)) (sym is) (running_child served child)

running_served : (served : Result ℕ ServeFault) (child : Option ℕ) → IfOk (running_of served child) (λ (r : Running). is_served r.served ≡ true)
running_served (Ok n) child = refl
running_served (Err serving.Client) child = refl
running_served (Err serving.NoMemory) child = tt
running_served (Err (serving.Link before after)) child = tt
running_served (Err serving.Output) child = tt
running_served (Err (serving.Silent count)) child = tt

pub all_served : (served : Result ℕ ServeFault) (child : Option ℕ) (result : Result Running RunFault) → result ≡ running_of served child → IfOk result (λ (r : Running). is_served r.served ≡ true)
all_served served child result is = subst (λ (r : Result Running RunFault). IfOk r (λ (x : Running). is_served x.served ≡ true)) (sym is) (running_served served child)

module _ {W : Type 0} (faults idles : W → ℕ) (wires wires' : W) (Store Spawn : ℕ → ℕ → Type 0) where
  abbrev Cause : RunFault → Type 0
  Cause = Because ⊥ ⊥ (Cuts faults idles wires wires' ⊥) Store Spawn

  running_because : (served : Result ℕ ServeFault) (child : Option ℕ) → ((b a : ℕ) → served ≡ Err (serving.Link b a) → Rose faults wires wires' b a) → ((n : ℕ) → served ≡ Err (serving.Silent n) → IsLong idles wires wires' n)
      → (served ≡ Err serving.Output → ⊥) → IfErr (running_of served child) Cause
  running_because (Ok n) child link silent output = tt
  running_because (Err serving.Client) child link silent output = tt
  running_because (Err serving.NoMemory) child link silent output = tt
  running_because (Err (serving.Link before after)) child link silent output = link before after refl
  running_because (Err serving.Output) child link silent output = output refl
  running_because (Err (serving.Silent count)) child link silent output = silent count refl

  pub cut_because : (served : Result ℕ ServeFault) (child : Option ℕ) (result : Result Running RunFault) → result ≡ running_of served child → ((b a : ℕ) → served ≡ Err (serving.Link b a) → Rose faults wires wires' b a)
      → ((n : ℕ) → served ≡ Err (serving.Silent n) → IsLong idles wires wires' n) → (served ≡ Err serving.Output → ⊥) → IfErr result Cause
  cut_because served child result is link silent output = subst (λ (r : Result Running RunFault). IfErr r Cause) (sym is) (running_because served child link silent output)

pub no_output : (listener sessions : ℕ) (served : Result ℕ ServeFault) (told told' : Option (List Call)) (start end : Export) → Went told told' (λ calls. ServedAs listener sessions served start calls end) → served ≡ Err serving.Output → ⊥
no_output listener sessions served told told' start end went is = subst (λ (r : Result ℕ ServeFault). ServedAs listener sessions r start went.calls end) is went.leads

-- With the listener.

pub attends_unheard : (asked : Serving) (told told' : Option (List Call)) (taken : Option (List ℕ)) (deeds : Option (List Deed)) (before after : ℕ) (start : Export) → Adds told told' (Listen asked.place.to None)
    → Worked told told' taken taken deeds deeds (Attends asked start start (Err (fault.Serve (serving.Link before after))))
attends_unheard asked told told' taken deeds before after start add =
    record { calls = Listen asked.place.to None ∷ []; printed = []; started = []; grown = add; takes = takes_none taken; starts = grows_none deeds; leads = No_listener before after refl refl refl refl refl }

around : (a b c d : Option (List Call)) (one last : Call) (own : List Call) → Adds a b one → Grows b c own → Adds c d last → Grows a d (one ∷ (own ++ last ∷ []))
around a b c d one last own add grown add' = grows_on a b d (one ∷ []) (own ++ last ∷ []) add (grows_on b c d own (last ∷ []) grown add')

module _ (asked : Serving) (listener : ℕ) (a b c d : Option (List Call)) (taken taken' : Option (List ℕ)) (deeds deeds' : Option (List Deed)) (start end : Export) where
  pub attends_unhosted : (why : RunFault) → Adds a b (Listen asked.place.to (Some listener)) → Worked b c taken taken' deeds deeds' (Hosts asked listener start end (Err why)) → Adds c d (Shut listener)
      → Worked a d taken taken' deeds deeds' (Attends asked start end (Err why))
  attends_unhosted why add w add' = record {
    calls = Listen asked.place.to (Some listener) ∷ (w.calls ++ Shut listener ∷ []);
    printed = w.printed;
    started = w.started;
    grown = around a b c d (Listen asked.place.to (Some listener)) (Shut listener) w.calls add w.grown add';
    takes = w.takes;
    starts = w.starts;
    leads = Not_hosted listener w.calls why refl w.leads refl;
  }

  pub attends_hosted : (deeds'' : Option (List Deed)) (running : Running) (result : Result Attended RunFault) → Adds a b (Listen asked.place.to (Some listener)) → Worked b c taken taken' deeds deeds' (Hosts asked listener start end (Ok running))
      → Adds c d (Shut listener) → Grew deeds' deeds'' (Waits running result) → Worked a d taken taken' deeds deeds'' (Attends asked start end result)
  attends_hosted deeds'' running result add w add' waits = record {
    calls = Listen asked.place.to (Some listener) ∷ (w.calls ++ Shut listener ∷ []);
    printed = w.printed;
    started = w.started ++ waits.calls;
    grown = around a b c d (Listen asked.place.to (Some listener)) (Shut listener) w.calls add w.grown add';
    takes = w.takes;
    starts = grows_on deeds deeds' deeds'' w.started waits.calls w.starts waits.grown;
    leads = Hosted listener w.calls running w.started waits.calls w.leads waits.leads refl refl;
  }
