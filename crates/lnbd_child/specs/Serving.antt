-- A file, or made contents, served to clients and to a child: what is done in which order, and what comes of the file and the child.
use Rattle.std.specs.Prelude.{◌≡◌, ◌≢◌, ℕ, Bool, true, false, List, [], ◌∷◌, ◌++◌, length, Option, Some, Result, Ok, Err, if◌then◌else◌}
use Rattle.lnbd_export.specs.Export.{Export}
use Rattle.lnbd_link.specs.Call.{Call, Listen, Shut}
use Rattle.lnbd_link.specs.Part.{Grows, Takes}
use Rattle.lnbd_serve.specs.declared.fault.ServeFault.{ServeFault}
use Rattle.lnbd_serve.specs.Printed.{is_served}
use Rattle.lnbd_serve.specs.Served.{ServedAs}
use Rattle.lnbd_spawn.specs.declared.deed.Deed.{Deed}
use Rattle.lnbd_spawn.specs.declared.deed.Deed.TheVariants.{Start, Wait}
use Rattle.lnbd_spawn.specs.declared.spawner.Waited.{Waited}
use Rattle.lnbd_store.specs.Call.{Call as Move}
use Rattle.lnbd_store.specs.Shelf.{Shelf}
use Rattle.lnbd_store.specs.declared.serving.Content.{Content}
use Rattle.lnbd_store.specs.declared.serving.Content.TheVariants.{Made, File}
use Rattle.lnbd_store.specs.declared.serving.Serving.{Serving}
use Rattle.lnbd_child.specs.declared.child.Attended.{Attended}
use Rattle.lnbd_child.specs.declared.fault.RunFault.{RunFault}
use Rattle.lnbd_child.specs.declared.fault.RunFault.TheVariants as fault
use Rattle.lnbd_child.specs.Child.{answer_of}
use Rattle.lnbd_child.specs.Closing.{Closes}
use Rattle.lnbd_child.specs.Grown.{Grew}
use Rattle.lnbd_child.specs.Hosting.{Attends}
use Rattle.lnbd_child.specs.Loading.{Begins, Loads, NotLoaded}

-- The seven steps, by where they end: first a file is read, then all are attended to, then the file is written back and the last line printed. What comes behind a fault is left out.
pub data Goes (asked : Serving) (result : Result ℕ RunFault) (calls : List Call) (printed : List ℕ) (moves : List Move) (deeds : List Deed) : Type 0 where
  Not_loaded : (why : RunFault) → result ≡ Err why → NotLoaded asked.content why moves → calls ≡ [] → printed ≡ [] → deeds ≡ [] → Goes asked result calls printed moves deeds
  Not_attended : (start end : Export) (why : RunFault) → result ≡ Err why → Begins asked start → Loads asked.content start.bytes moves → Attends asked start end (Err why) calls printed deeds
      → Goes asked result calls printed moves deeds
  Attended_to : (start end : Export) (attended : Attended) (first last : List Move) (lines line : List ℕ) → Begins asked start → Loads asked.content start.bytes first
      → Attends asked start end (Ok attended) calls lines deeds → Closes asked attended end.bytes result last line
      → moves ≡ first ++ last → printed ≡ lines ++ line → Goes asked result calls printed moves deeds

-- These calls were made on links, store and spawner and these bytes printed, and so they lead.
pub record Did (told told' : Option (List Call)) (taken taken' : Option (List ℕ)) (moved moved' : Option (List Move)) (deeds deeds' : Option (List Deed))
    (Leads : List Call → List ℕ → List Move → List Deed → Type 0) : Type 0 where
  pub calls : List Call
  pub printed : List ℕ
  pub moves : List Move
  pub started : List Deed
  pub grown : Grows told told' calls
  pub takes : Takes taken taken' printed
  pub moves_on : Grows moved moved' moves
  pub starts : Grows deeds deeds' started
  pub leads : Leads calls printed moves started

-- All steps were done: statuses 0 and 12, and 4 of a client that was none.
abbrev pub is_done : Result ℕ RunFault → Bool
is_done (Ok sessions) = true
is_done (Err (fault.Serve why)) = is_served (Err why)
is_done (Err (fault.Child ended)) = true
is_done (Err (fault.Store before after)) = false
is_done (Err (fault.Spawn before after)) = false
is_done (Err (fault.TooLong n)) = false
is_done (Err (fault.Changed n end)) = false

-- The clients were served by a listener of this address, from this export on and to that one: its bytes are those of the start after each request of theirs, in the order in which these were whole.
pub record HasServed (asked : Serving) (served : Result ℕ ServeFault) (start end : Export) (calls : List Call) : Type 0 where
  pub listener : ℕ
  pub own : List Call
  pub calls_are : calls ≡ Listen asked.place.to (Some listener) ∷ (own ++ Shut listener ∷ [])
  pub serves : ServedAs listener asked.sessions served start own end

-- The file had the bytes that were served at the start, and has those of the end, or of the start where it is read-only. Every other file is as it was.
pub record WasServed (path : List ℕ) (read_only : Bool) (start end : List ℕ) (was now : Shelf) : Type 0 where
  pub held : was.files path ≡ Some start
  pub holds : now.files path ≡ Some (if read_only then start else end)
  pub rest : (other : List ℕ) → other ≢ path → now.files other ≡ was.files other

-- So it is where the files are told; where none is served they are as they were.
abbrev pub KeepsFiles : Content → (read_only : Bool) → (start end : List ℕ) → (old new : Option Shelf) → Type 0
KeepsFiles (Made seed n) read_only start end old new = new ≡ old
KeepsFiles (File path) read_only start end old new = (now : Shelf) → new ≡ Some now → (was : Shelf) × (old ≡ Some was) × WasServed path read_only start end was now

-- The file is what the sessions' requests make of it.
pub record ServesFile (asked : Serving) (told told' : Option (List Call)) (old new : Option Shelf) (result : Result ℕ RunFault) : Type 0 where
  pub start : Export
  pub end : Export
  pub served : Result ℕ ServeFault
  pub ended : Option Waited
  pub begins : Begins asked start
  pub all : is_served served ≡ true
  pub clients : Grew told told' (HasServed asked served start end)
  pub files : KeepsFiles asked.content asked.read_only start.bytes end.bytes old new
  pub answer : result ≡ answer_of served ended

-- Nothing is started where no program is asked for; else it is started once, with its words and the address, and waited for once, and the answer is by its end.
abbrev pub RunsChild : (run : List (List ℕ)) (uri : List ℕ) → (deeds deeds' : Option (List Deed)) → Result ℕ RunFault → Type 0
RunsChild [] uri deeds deeds' result = Grows deeds deeds' []
RunsChild (program ∷ words) uri deeds deeds' result =
    (child : ℕ) × (answer : Waited) × Grows deeds deeds' (Start program (words ++ uri ∷ []) (Some child) ∷ Wait child answer ∷ [])
    × ((served : Result ℕ ServeFault) × (result ≡ answer_of served (Some answer)))

-- it has as many bytes as it had
abbrev pub IsAsLong : Export → Export → Type 0
IsAsLong start end = length end.bytes ≡ length start.bytes

-- However serving ends, the export has as many bytes as it had.
abbrev pub ServingKeepsLength : Type 0
ServingKeepsLength = (listener limit : ℕ) (result : Result ℕ ServeFault) (start : Export) (calls : List Call) (end : Export) → ServedAs listener limit result start calls end → IsAsLong start end
