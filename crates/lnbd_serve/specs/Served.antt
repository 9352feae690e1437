-- How serving ends.
use Rattle.std.specs.Prelude.{◌≡◌, ℕ, Bool, true, false, List, [], ◌++◌, map, if◌then◌else◌, Result, Ok, Err}
use Rattle.lnbd_export.specs.Export.{Export}
use Rattle.lnbd_link.specs.Call.{Call, Shut}
use Rattle.lnbd_serve.specs.declared.guest.Guest.{Guest}
use Rattle.lnbd_serve.specs.declared.guest.Halt.{Halt}
use Rattle.lnbd_serve.specs.declared.guest.Halt.TheVariants as halt
use Rattle.lnbd_serve.specs.declared.fault.ServeFault.{ServeFault}
use Rattle.lnbd_serve.specs.declared.fault.ServeFault.TheVariants as fault
use Rattle.lnbd_serve.specs.Halls.{Hall, Serves, ServesUntil}

-- nobody was let in yet
abbrev pub opened : Export → Hall
opened export = record { guests = []; accepted = 0; broken = false; export = export }

-- so many were let in, and all have left
abbrev pub emptied : ℕ → Bool → Export → Hall
emptied limit broken export = record { guests = []; accepted = limit; broken = broken; export = export }

abbrev pub shut_of : Guest → Call
shut_of guest = Shut guest.link

-- Serving was cut off so, and each link that was open is shut.
pub record CutOff (listener limit : ℕ) (why : Halt) (start : Export) (calls : List Call) (end : Export) : Type 0 where
  pub own : List Call
  pub after : Hall
  pub serves : ServesUntil listener limit (opened start) own after why
  pub calls_are : calls ≡ own ++ map shut_of after.guests
  pub export : after.export ≡ end

-- All clients were served, and the bytes of none, or of some, were no client's; or serving was cut off. Nothing is printed.
abbrev pub ServedAs : (listener limit : ℕ) → Result ℕ ServeFault → Export → List Call → Export → Type 0
ServedAs listener limit (Ok n) start calls end = (n ≡ limit) × Serves listener limit (opened start) calls (emptied limit false end)
ServedAs listener limit (Err fault.Client) start calls end = Serves listener limit (opened start) calls (emptied limit true end)
ServedAs listener limit (Err fault.NoMemory) start calls end = CutOff listener limit halt.NoMemory start calls end
ServedAs listener limit (Err (fault.Link before after)) start calls end = CutOff listener limit halt.Link start calls end
ServedAs listener limit (Err fault.Output) start calls end = ⊥
ServedAs listener limit (Err (fault.Silent idles)) start calls end = CutOff listener limit halt.Silent start calls end

-- the answer, by how serving ended and the counts at its end
abbrev pub answer_of : Result (Unit {0}) Halt → (broken : Bool) → (sessions before faults idles : ℕ) → Result ℕ ServeFault
answer_of (Ok done) broken sessions before faults idles = if broken then Err fault.Client else Ok sessions
answer_of (Err halt.NoMemory) broken sessions before faults idles = Err fault.NoMemory
answer_of (Err halt.Link) broken sessions before faults idles = Err (fault.Link before faults)
answer_of (Err halt.Silent) broken sessions before faults idles = Err (fault.Silent idles)
