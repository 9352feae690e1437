-- How clients and the child are served: what is listened at, printed, started, served, shut and waited for, in this order.
use Rattle.std.specs.Prelude.{◌≡◌, ℕ, true, false, List, [], ◌∷◌, ◌++◌, Option, Some, None, Result, Ok, Err}
use Rattle.lnbd_export.specs.Export.{Export, size}
use Rattle.lnbd_link.specs.Call.{Call, Listen, Shut}
use Rattle.lnbd_link.specs.Part.{Grows, Takes}
use Rattle.lnbd_spawn.specs.declared.deed.Deed.{Deed}
use Rattle.lnbd_serve.specs.declared.fault.ServeFault.{ServeFault}
use Rattle.lnbd_serve.specs.declared.fault.ServeFault.TheVariants as serving
use Rattle.lnbd_serve.specs.declared.printed.Unprinted.{Unprinted}
use Rattle.lnbd_serve.specs.Printed.{IsPrinted, fault_of, is_served, serving_line}
use Rattle.lnbd_serve.specs.Served.{ServedAs}
use Rattle.lnbd_store.specs.declared.serving.Serving.{Serving}
use Rattle.lnbd_child.specs.declared.child.Attended.{Attended}
use Rattle.lnbd_child.specs.declared.child.Running.{Running}
use Rattle.lnbd_child.specs.declared.fault.RunFault.{RunFault}
use Rattle.lnbd_child.specs.declared.fault.RunFault.TheVariants as fault
use Rattle.lnbd_child.specs.Child.{Starts, StartsNot, Waits}

-- what is told of serving while a child runs: it goes on where all clients were served
abbrev pub running_of : Result ℕ ServeFault → (child : Option ℕ) → Result Running RunFault
running_of (Ok n) child = Ok (record { served = Ok n; child = child })
running_of (Err serving.Client) child = Ok (record { served = Err serving.Client; child = child })
running_of (Err serving.NoMemory) child = Err (fault.Serve serving.NoMemory)
running_of (Err (serving.Link before after)) child = Err (fault.Serve (serving.Link before after))
running_of (Err serving.Output) child = Err (fault.Serve serving.Output)
running_of (Err (serving.Silent count)) child = Err (fault.Serve (serving.Silent count))

-- The clients are served to their end, whatever they sent, while a child runs; or serving is cut off.
abbrev pub Serves : (listener sessions : ℕ) → (child : Option ℕ) → (start end : Export) → Result Running RunFault → List Call → Type 0
Serves listener sessions child start end (Ok running) calls = (running.child ≡ child) × (is_served running.served ≡ true) × ServedAs listener sessions running.served start calls end
Serves listener sessions child start end (Err why) calls = (cut : ServeFault) × (why ≡ fault.Serve cut) × (is_served (Err cut) ≡ false) × ServedAs listener sessions (Err cut) start calls end

-- While the listener is open: the first line is printed, the child is started once it is, and clients are served once that runs.
pub data Hosts (asked : Serving) (listener : ℕ) (start end : Export) (result : Result Running RunFault) (calls : List Call) (printed : List ℕ) (deeds : List Deed) : Type 0 where
  Not_told : (why : Unprinted) → result ≡ Err (fault.Serve (fault_of why)) → IsPrinted (Err why) (serving_line (size start)) printed → deeds ≡ [] → calls ≡ [] → end ≡ start
      → Hosts asked listener start end result calls printed deeds
  Not_started : (why : RunFault) → result ≡ Err why → printed ≡ serving_line (size start) → StartsNot asked.run asked.uri why deeds → calls ≡ [] → end ≡ start
      → Hosts asked listener start end result calls printed deeds
  Cut_off : (child : Option ℕ) (why : ServeFault) → result ≡ Err (fault.Serve why) → printed ≡ serving_line (size start) → Starts asked.run asked.uri child deeds → is_served (Err why) ≡ false
      → ServedAs listener asked.sessions (Err why) start calls end → Hosts asked listener start end result calls printed deeds
  Served : (child : Option ℕ) (served : Result ℕ ServeFault) → result ≡ Ok (record { served = served; child = child }) → printed ≡ serving_line (size start)
      → Starts asked.run asked.uri child deeds → is_served served ≡ true → ServedAs listener asked.sessions served start calls end → Hosts asked listener start end result calls printed deeds

-- One listener is opened, at the address, and shut whatever comes of it; the child is waited for once it is shut.
pub data Attends (asked : Serving) (start end : Export) (result : Result Attended RunFault) (calls : List Call) (printed : List ℕ) (deeds : List Deed) : Type 0 where
  No_listener : (before after : ℕ) → result ≡ Err (fault.Serve (serving.Link before after)) → calls ≡ Listen asked.place.to None ∷ [] → printed ≡ [] → deeds ≡ [] → end ≡ start
      → Attends asked start end result calls printed deeds
  Not_hosted : (listener : ℕ) (own : List Call) (why : RunFault) → result ≡ Err why → Hosts asked listener start end (Err why) own printed deeds
      → calls ≡ Listen asked.place.to (Some listener) ∷ (own ++ Shut listener ∷ []) → Attends asked start end result calls printed deeds
  Hosted : (listener : ℕ) (own : List Call) (running : Running) (first last : List Deed) → Hosts asked listener start end (Ok running) own printed first → Waits running result last
      → calls ≡ Listen asked.place.to (Some listener) ∷ (own ++ Shut listener ∷ []) → deeds ≡ first ++ last → Attends asked start end result calls printed deeds

-- These calls were made, these bytes printed and this done with the child, and so they lead.
pub record Worked (told told' : Option (List Call)) (taken taken' : Option (List ℕ)) (deeds deeds' : Option (List Deed)) (Leads : List Call → List ℕ → List Deed → Type 0) : Type 0 where
  pub calls : List Call
  pub printed : List ℕ
  pub started : List Deed
  pub grown : Grows told told' calls
  pub takes : Takes taken taken' printed
  pub starts : Grows deeds deeds' started
  pub leads : Leads calls printed started
