-- Serving with a listener of its own: what is listened at, and what is printed when. A text is the list of its UTF-8 bytes.
use Rattle.std.specs.Prelude.{◌≡◌, ℕ, Bool, true, false, List, [], ◌∷◌, ◌++◌, Option, Some, None, Result, Ok, Err, codes, decimal}
use Rattle.lnbd_export.specs.Export.{Export, size}
use Rattle.lnbd_link.specs.Call.{Call, Listen, Shut}
use Rattle.lnbd_link.specs.Part.{Grows, Takes, TakesFront}
use Rattle.lnbd_model.specs.declared.target.Target.{Target}
use Rattle.lnbd_serve.specs.declared.fault.ServeFault.{ServeFault}
use Rattle.lnbd_serve.specs.declared.fault.ServeFault.TheVariants as fault
use Rattle.lnbd_serve.specs.declared.printed.Unprinted.{Unprinted}
use Rattle.lnbd_serve.specs.declared.printed.Unprinted.TheVariants as unprinted
use Rattle.lnbd_serve.specs.Served.{ServedAs}

-- Lines.

abbrev pub ended : List ℕ → List ℕ
ended text = text ++ codes "\n"

-- the line before the first client
abbrev pub serving_line : (size : ℕ) → List ℕ
serving_line size = ended (codes "serving " ++ decimal size)

-- the line after the last client
abbrev pub sessions_line : (sessions : ℕ) → List ℕ
sessions_line sessions = ended (codes "sessions " ++ decimal sessions)

-- all of a line was printed, or none of it for want of memory, or a front of it where the output failed
abbrev pub IsPrinted : Result (Unit {0}) Unprinted → (line printed : List ℕ) → Type 0
IsPrinted (Ok done) line printed = printed ≡ line
IsPrinted (Err unprinted.NoMemory) line printed = printed ≡ []
IsPrinted (Err unprinted.Output) line printed = (rest : List ℕ) × (line ≡ printed ++ rest)

abbrev pub fault_of : Unprinted → ServeFault
fault_of unprinted.NoMemory = fault.NoMemory
fault_of unprinted.Output = fault.Output

-- Serving.

-- all clients were served to their end, whatever they sent
abbrev pub is_served : Result ℕ ServeFault → Bool
is_served (Ok n) = true
is_served (Err fault.Client) = true
is_served (Err fault.NoMemory) = false
is_served (Err (fault.Link before after)) = false
is_served (Err fault.Output) = false
is_served (Err (fault.Silent idles)) = false

-- the answer stays where the last line was printed
abbrev pub concluded : Result (Unit {0}) Unprinted → Result ℕ ServeFault → Result ℕ ServeFault
concluded (Ok done) served = served
concluded (Err why) served = Err (fault_of why)

-- Where all clients were served, the last line is printed; else nothing more is.
pub data Concludes (sessions : ℕ) : (served result : Result ℕ ServeFault) (last : List ℕ) → Type 0 where
  Cut_off : (served result : Result ℕ ServeFault) (last : List ℕ) → is_served served ≡ false → result ≡ served → last ≡ [] → Concludes sessions served result last
  Last_line : (served result : Result ℕ ServeFault) (last : List ℕ) (told : Result (Unit {0}) Unprinted) → is_served served ≡ true → result ≡ concluded told served → IsPrinted told (sessions_line sessions) last → Concludes sessions served result last

-- Clients are served once the first line is printed whole.
pub data Tells (listener sessions : ℕ) : Result ℕ ServeFault → Export → (calls : List Call) (printed : List ℕ) → Export → Type 0 where
  Not_told : (result : Result ℕ ServeFault) (start : Export) (calls : List Call) (printed : List ℕ) (end : Export) (why : Unprinted) → result ≡ Err (fault_of why) → calls ≡ [] → IsPrinted (Err why) (serving_line (size start)) printed → end ≡ start
      → Tells listener sessions result start calls printed end
  Told : (result : Result ℕ ServeFault) (start : Export) (calls : List Call) (printed : List ℕ) (end : Export) (served : Result ℕ ServeFault) (last : List ℕ) → ServedAs listener sessions served start calls end
      → Concludes sessions served result last → printed ≡ serving_line (size start) ++ last → Tells listener sessions result start calls printed end

-- One listener is opened, at this address, and shut whatever comes of it; or it can't be had.
pub data Runs (at : Target) (sessions : ℕ) : Result ℕ ServeFault → Export → (calls : List Call) (printed : List ℕ) → Export → Type 0 where
  No_listener : (result : Result ℕ ServeFault) (start : Export) (calls : List Call) (printed : List ℕ) (end : Export) (before after : ℕ) → result ≡ Err (fault.Link before after) → calls ≡ Listen at None ∷ [] → printed ≡ [] → end ≡ start
      → Runs at sessions result start calls printed end
  Listens : (result : Result ℕ ServeFault) (start : Export) (calls : List Call) (printed : List ℕ) (end : Export) (listener : ℕ) (own : List Call) → calls ≡ Listen at (Some listener) ∷ (own ++ Shut listener ∷ [])
      → Tells listener sessions result start own printed end → Runs at sessions result start calls printed end

-- These calls were made and these bytes printed, and so they lead.
pub record Ran (told told' : Option (List Call)) (taken taken' : Option (List ℕ)) (Leads : List Call → List ℕ → Type 0) : Type 0 where
  pub calls : List Call
  pub printed : List ℕ
  pub grown : Grows told told' calls
  pub takes : Takes taken taken' printed
  pub leads : Leads calls printed

-- how the printing of a line ended, and what the output took
abbrev pub Prints : Result (Unit {0}) Unprinted → (taken taken' : Option (List ℕ)) (line : List ℕ) → Type 0
Prints (Ok done) taken taken' line = Takes taken taken' line
Prints (Err unprinted.NoMemory) taken taken' line = taken' ≡ taken
Prints (Err unprinted.Output) taken taken' line = TakesFront taken taken' line
