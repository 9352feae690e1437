-- What is done once all have left: the file is written back, and the last line printed.
use Rattle.std.specs.Prelude.{◌≡◌, ℕ, Bool, true, false, List, [], Option, Result, Ok, Err}
use Rattle.lnbd_link.specs.Part.{Grows, Takes}
use Rattle.lnbd_serve.specs.declared.printed.Unprinted.{Unprinted}
use Rattle.lnbd_serve.specs.Printed.{IsPrinted, fault_of, sessions_line}
use Rattle.lnbd_store.specs.Call.{Call}
use Rattle.lnbd_store.specs.Shelf.{Shelf}
use Rattle.lnbd_store.specs.declared.serving.Content.{Content}
use Rattle.lnbd_store.specs.declared.serving.Content.TheVariants.{Made, File}
use Rattle.lnbd_store.specs.declared.serving.Serving.{Serving}
use Rattle.lnbd_child.specs.declared.child.Attended.{Attended}
use Rattle.lnbd_child.specs.declared.fault.RunFault.{RunFault}
use Rattle.lnbd_child.specs.declared.fault.RunFault.TheVariants as fault
use Rattle.lnbd_child.specs.Child.{answer_of}
use Rattle.lnbd_child.specs.Writing.{HasWritten, IsWritten, NotWritten}

-- A file that isn't read-only is written back whole; nothing else is written.
abbrev pub WritesBack : Content → (read_only : Bool) → (bytes : List ℕ) → (moves : List Call) → Type 0
WritesBack (Made seed n) read_only bytes moves = moves ≡ []
WritesBack (File path) true bytes moves = moves ≡ []
WritesBack (File path) false bytes moves = HasWritten path bytes moves

-- or it could not be
abbrev pub WritesNotBack : Content → (read_only : Bool) → (bytes : List ℕ) → (moves : List Call) → Type 0
WritesNotBack (Made seed n) read_only bytes moves = ⊥
WritesNotBack (File path) true bytes moves = ⊥
WritesNotBack (File path) false bytes moves = NotWritten path bytes moves

-- what becomes of the files then
abbrev pub Leaves : Content → (read_only : Bool) → (bytes : List ℕ) → (old new : Option Shelf) → Type 0
Leaves (Made seed n) read_only bytes old new = new ≡ old
Leaves (File path) true bytes old new = new ≡ old
Leaves (File path) false bytes old new = IsWritten path bytes old new

-- the answer, by how the last line was printed
abbrev pub answered : Result (Unit {0}) Unprinted → Attended → Result ℕ RunFault
answered (Ok done) attended = answer_of attended.served attended.ended
answered (Err why) attended = Err (fault.Serve (fault_of why))

-- The last line is printed once the file is written back.
pub data Closes (asked : Serving) (attended : Attended) (bytes : List ℕ) (result : Result ℕ RunFault) (moves : List Call) (printed : List ℕ) : Type 0 where
  Not_written : (before after : ℕ) → WritesNotBack asked.content asked.read_only bytes moves → result ≡ Err (fault.Store before after) → printed ≡ [] → Closes asked attended bytes result moves printed
  Written : (told : Result (Unit {0}) Unprinted) → WritesBack asked.content asked.read_only bytes moves → result ≡ answered told attended → IsPrinted told (sessions_line asked.sessions) printed
      → Closes asked attended bytes result moves printed

-- These calls were made and these bytes printed, and so they lead.
pub record Closed (told told' : Option (List Call)) (taken taken' : Option (List ℕ)) (Leads : List Call → List ℕ → Type 0) : Type 0 where
  pub moves : List Call
  pub printed : List ℕ
  pub moved : Grows told told' moves
  pub takes : Takes taken taken' printed
  pub leads : Leads moves printed
