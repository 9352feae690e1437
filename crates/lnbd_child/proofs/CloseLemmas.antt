-- The file is written back, and the last line printed.
use Rattle.std.proofs.Common.{◌≡◌, ℕ, List, [], Option, Result, Err, refl}
use Rattle.lnbd_link.proofs.Parts.{takes_none}
use Rattle.lnbd_serve.specs.declared.printed.Unprinted.{Unprinted}
use Rattle.lnbd_serve.specs.Printed.{Prints, sessions_line}
use Rattle.lnbd_store.specs.Call.{Call}
use Rattle.lnbd_store.specs.declared.serving.Serving.{Serving}
use Rattle.lnbd_child.specs.declared.child.Attended.{Attended}
use Rattle.lnbd_child.specs.declared.fault.RunFault.{RunFault}
use Rattle.lnbd_child.specs.declared.fault.RunFault.TheVariants as fault
use Rattle.lnbd_child.specs.Closing.{Closed, Closes, Not_written, Written, WritesBack, WritesNotBack, answered}
use Rattle.lnbd_child.specs.Grown.{Grew}
use Rattle.lnbd_child.proofs.HostLemmas.{printed_of}

pub closes_unwritten : (asked : Serving) (attended : Attended) (bytes : List ℕ) (told told' : Option (List Call)) (taken : Option (List ℕ)) (before after : ℕ) → Grew told told' (WritesNotBack asked.content asked.read_only bytes)
    → Closed told told' taken taken (Closes asked attended bytes (Err (fault.Store before after)))
closes_unwritten asked attended bytes told told' taken before after g = record { moves = g.calls; printed = []; moved = g.grown; takes = takes_none taken; leads = Not_written before after g.leads refl refl }

pub closes_written : (asked : Serving) (attended : Attended) (bytes : List ℕ) (told told' : Option (List Call)) (taken taken' : Option (List ℕ)) (line : Result (Unit {0}) Unprinted) (result : Result ℕ RunFault)
    → Grew told told' (WritesBack asked.content asked.read_only bytes) → Prints line taken taken' (sessions_line asked.sessions) → result ≡ answered line attended → Closed told told' taken taken' (Closes asked attended bytes result)
closes_written asked attended bytes told told' taken taken' line result g prints is =
    let p = printed_of line taken taken' (sessions_line asked.sessions) prints in
    record { moves = g.calls; printed = p.printed; moved = g.grown; takes = p.takes; leads = Written line g.leads is p.leads }
