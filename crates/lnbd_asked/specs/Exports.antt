-- Which export the link of a handle is of, and what was told of it.
use Rattle.std.specs.Prelude.{◌≡◌, ℕ, ◌≤◌, Bool, true, false, List, [], ◌∷◌, ◌++◌, Option, Some}
use Rattle.lnbd_link.specs.Call.{Call}
use Rattle.lnbd_history.specs.Agreement.{Export, phase, steps, export, opt_mode, name_now}
use Rattle.lnbd_history.specs.Events.{Name, Event, History, Set}
use Rattle.lnbd_history.specs.History.{asked, reading}
use Rattle.lnbd_history.specs.Laws.{Lawful, is_closed}
use Rattle.lnbd_history.specs.Outgoing.{total}
use Rattle.lnbd_asked.specs.Driven.{Drives, AllSpell, written}
use Rattle.lnbd_asked.specs.Link.{Link}
use Rattle.lnbd_asked.specs.Transcript.{on_link, name_asked, export_at, export_told, size_at, size_told}

module _ {K : Type 0} where
  -- the export name that was set last
  abbrev pub name_set : History K → List ℕ
  name_set history = name_now (reading history).known.turns

  -- what the handle was told of its export, once requests may be made
  abbrev pub export_known : History K → Option Export
  export_known history = export_at (phase (reading history).known.turns) (export (steps (reading history).known.turns))

  -- its size
  abbrev pub size_known : History K → Option ℕ
  size_known history = size_at (phase (reading history).known.turns) (export (steps (reading history).known.turns))

  -- The handle was told this size, and then, or later, nothing of what it asked by then waited to go out.
  pub record HasToldSize (history : History K) (size : ℕ) : Type 0 where
    pub earlier : History K
    pub since : List (Event K)
    pub is : history ≡ since ++ earlier
    pub knew : size_known earlier ≡ Some size
    pub out : total (reading earlier).known.parts ≤ (asked earlier).wrote

  -- The handle was told this of its export, and then, or later, nothing of what it asked by then waited to go out.
  pub record WasToldExport (history : History K) (export : Export) : Type 0 where
    pub earlier : History K
    pub since : List (Event K)
    pub is : history ≡ since ++ earlier
    pub knew : export_known earlier ≡ Some export
    pub out : total (reading earlier).known.parts ≤ (asked earlier).wrote

  -- A link is of the export of the name that was set last on the handle that drives it, or of none yet, and tells no other size than the handle was told. It is of
  -- that export, and tells the size, where a request was wholly written, and where nothing waited to go out once the size was told.
  pub record DrivenIsOf (history : History K) (link : Link) : Type 0 where
    pub name : (name : List ℕ) → name_asked link.wishes ≡ Some name → name ≡ name_set history
    pub size : (size : ℕ) → size_told link ≡ Some size → (name_asked link.wishes ≡ Some (name_set history)) × (size_known history ≡ Some size)
    pub asked : 1 ≤ written history → (name_asked link.wishes ≡ Some (name_set history)) × (size_told link ≡ size_known history)
    pub told : (size : ℕ) → HasToldSize history size → size_told link ≡ Some size

  -- A link tells of its export nothing but what the handle was told that drives it. It tells that where a request was wholly written, and where nothing waited to
  -- go out once it was told.
  pub record DrivenTells (history : History K) (link : Link) : Type 0 where
    pub knew : (export : Export) → export_told link ≡ Some export → export_known history ≡ Some export
    pub asked : 1 ≤ written history → export_told link ≡ export_known history
    pub told : (export : Export) → WasToldExport history export → export_told link ≡ Some export

-- So it is with a handle that isn't in opt mode nor closed, all of whose bytes that were read have arrived.
abbrev pub DrivenAreOf : Type 0 → Type 0
DrivenAreOf K = (limit link : ℕ) (calls : List Call) (history : History K) → Lawful limit history → AllSpell history → is_closed history ≡ false → opt_mode (reading history).known.turns ≡ false →
    Drives link calls history [] → DrivenIsOf history (on_link link calls)

abbrev pub DrivenTell : Type 0 → Type 0
DrivenTell K = (limit link : ℕ) (calls : List Call) (history : History K) → Lawful limit history → AllSpell history → is_closed history ≡ false → opt_mode (reading history).known.turns ≡ false →
    Drives link calls history [] → DrivenTells history (on_link link calls)

-- With an export its size was told.
abbrev pub SizeWasTold : Type 0 → Type 0
SizeWasTold K = (history : History K) (export : Export) → WasToldExport history export → HasToldSize history export.size

-- With a size an export of this size was told.
abbrev pub SizesAreOfExports : Type 0 → Type 0
SizesAreOfExports K = (history : History K) (size : ℕ) → HasToldSize history size → (export : Export) × WasToldExport history export × (export.size ≡ size)

-- What a handle was told of its export once requests may be made stays, whatever happens.
abbrev pub ExportsStay : Type 0 → Type 0
ExportsStay K = (limit : ℕ) (export : Export) (since earlier : History K) → Lawful limit (since ++ earlier) → export_known earlier ≡ Some export → export_known (since ++ earlier) ≡ Some export

-- So does its size.
abbrev pub ToldStays : Type 0 → Type 0
ToldStays K = (limit size : ℕ) (since earlier : History K) → Lawful limit (since ++ earlier) → size_known earlier ≡ Some size → size_known (since ++ earlier) ≡ Some size

-- a name is set
abbrev pub is_naming : {K : Type 0} → Event K → Bool
is_naming (Set (Name name)) = true
is_naming event = false

-- Nothing else changes the name.
abbrev pub NamesStay : Type 0 → Type 0
NamesStay K = (history : History K) (event : Event K) → is_naming event ≡ false → name_set (event ∷ history) ≡ name_set history
