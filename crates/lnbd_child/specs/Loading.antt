-- What is served: the export that a number or a file gives.
use Rattle.std.specs.Prelude.{◌≡◌, ℕ, ◌≤◌, Bool, false, List, [], length, replicate, Option}
use Rattle.lnbd_export.specs.Export.{Export}
use Rattle.lnbd_export.specs.Generated.{IsGenerated}
use Rattle.lnbd_store.specs.Call.{Call}
use Rattle.lnbd_store.specs.Shelf.{Shelf}
use Rattle.lnbd_store.specs.declared.serving.Content.{Content}
use Rattle.lnbd_store.specs.declared.serving.Content.TheVariants.{Made, File}
use Rattle.lnbd_store.specs.declared.serving.Serving.{Serving}
use Rattle.lnbd_serve.specs.declared.fault.ServeFault.TheVariants as serving
use Rattle.lnbd_child.specs.declared.fault.RunFault.{RunFault}
use Rattle.lnbd_child.specs.declared.fault.RunFault.TheVariants as fault
use Rattle.lnbd_child.specs.declared.reading.Unread.{Unread}
use Rattle.lnbd_child.specs.declared.reading.Unread.TheVariants as unread
use Rattle.lnbd_child.specs.Reading.{HasRead, IsRead, NotRead, max_file}

-- a number gives the contents, and no file is asked for
abbrev pub IsOfNumber : Content → Type 0
IsOfNumber (Made seed n) = Unit {0}
IsOfNumber (File path) = ⊥

-- what a number gives is at most as long as a file may be
abbrev pub IsFew : Content → Type 0
IsFew (Made seed n) = n ≤ max_file
IsFew (File path) = Unit {0}

-- the export of a file's bytes: it has no description, and no range is told as zero
abbrev pub of_file : (name bytes : List ℕ) → (read_only : Bool) → Export
of_file name bytes read_only = record { name = name; description = []; bytes = bytes; zeros = replicate (length bytes) false; read_only = read_only }

-- the export at the start
abbrev pub BeginsAs : Content → (name : List ℕ) → (read_only : Bool) → Export → Type 0
BeginsAs (Made seed n) name read_only start = IsGenerated name seed n read_only start
BeginsAs (File path) name read_only start = start ≡ of_file name start.bytes read_only

abbrev pub Begins : Serving → Export → Type 0
Begins asked start = BeginsAs asked.content asked.place.name asked.read_only start

-- The calls on the store by which these bytes come.
abbrev pub Loads : Content → (bytes : List ℕ) → (moves : List Call) → Type 0
Loads (Made seed n) bytes moves = moves ≡ []
Loads (File path) bytes moves = HasRead path bytes moves

-- what is told where a file was not read
abbrev pub TellsUnread : (before after : ℕ) → Unread → RunFault → Type 0
TellsUnread before after unread.NoMemory why = why ≡ fault.Serve serving.NoMemory
TellsUnread before after unread.Failed why = why ≡ fault.Store before after
TellsUnread before after (unread.TooLong n) why = why ≡ fault.TooLong n
TellsUnread before after (unread.Changed n end) why = why ≡ fault.Changed n end

pub record NotLoadedFile (path : List ℕ) (why : RunFault) (moves : List Call) : Type 0 where
  pub before : ℕ
  pub after : ℕ
  pub cause : Unread
  pub unread : NotRead path cause moves
  pub tells : TellsUnread before after cause why

-- There is no memory for the export, or the file is not read.
pub data NotLoaded (content : Content) (why : RunFault) (moves : List Call) : Type 0 where
  No_room : moves ≡ [] → why ≡ fault.Serve serving.NoMemory → NotLoaded content why moves
  No_file : (path : List ℕ) → content ≡ File path → NotLoadedFile path why moves → NotLoaded content why moves

-- Where the files are told, those that are served are these, and no file is changed.
abbrev pub Holds : Content → (bytes : List ℕ) → (old new : Option Shelf) → Type 0
Holds (Made seed n) bytes old new = new ≡ old
Holds (File path) bytes old new = IsRead path bytes old new
