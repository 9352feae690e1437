-- What a run of nbddump is: which bytes were shown, by which calls, and how the run ended.
use Rattle.std.specs.Prelude.{◌≡◌, ◌⊎◌, ◌∷◌, ℕ, Bool, true, List, [], Option, Ok, Err}
use Rattle.lnbd_link.specs.Call.{Call}
use Rattle.lnbd_dump.specs.Conduct.{Dumped}
use Rattle.lnbd_dump.specs.Shown.{Shows, ShowsFront, WasToldByte}
use Rattle.lnbd_dump.specs.declared.fault.DumpFault.{DumpFault}
use Rattle.lnbd_dump.specs.declared.fault.DumpFault.TheVariants as dumping
use Rattle.lnbd_reel.specs.Said.{Shown, ShownFront}
use Rattle.lnbd_cli.specs.declared.dumping.Excerpt.{Excerpt}
use Rattle.lnbd_cli.specs.declared.ending.Fault.{Fault}
use Rattle.lnbd_cli.specs.declared.ending.Fault.TheVariants as fault
use Rattle.lnbd_cli.specs.declared.ending.Ruling.TheVariants as ruling
use Rattle.lnbd_cli.specs.Ends.{End, is_one_of}

-- This is told of a fault of dumping.
abbrev pub TellsDumpFault : DumpFault → Fault → Type 0
TellsDumpFault dumping.NoMemory told = told ≡ fault.NoMemory
TellsDumpFault (dumping.Link before after) told = told ≡ fault.Link
TellsDumpFault (dumping.Broke broken) told = told ≡ fault.Broke broken
TellsDumpFault (dumping.Peer option code) told = told ≡ fault.Told option code
TellsDumpFault (dumping.Silent idles) told = told ≡ fault.Silent
TellsDumpFault dumping.Output told = told ≡ fault.Output
TellsDumpFault (dumping.Range offset length size) told = told ≡ fault.Rule (ruling.Range offset length size)
TellsDumpFault (dumping.Uneven size block) told = told ≡ fault.Rule (ruling.Uneven size block)

-- All was shown: so many bytes, each as the calls told it, and over an export that is honest and wasn't changed they are its bytes.
pub record AllShown (e : Excerpt) (told told' : Option (List Call)) (taken taken' : Option (List ℕ)) : Type 0 where
  pub count : ℕ
  pub dumped : Dumped e.place e.offset e.length told told' (Ok count)
  pub shown : Shown (WasToldByte e.place told told') e.offset count taken taken'
  pub shows : Shows e.place e.offset e.length count told told' taken taken'

-- It was broken off, for this that the calls show: a front was shown of what they told, and over such an export of the dump of its bytes.
pub record PartShown (e : Excerpt) (told told' : Option (List Call)) (taken taken' : Option (List ℕ)) (why : DumpFault) : Type 0 where
  pub dumped : Dumped e.place e.offset e.length told told' (Err why)
  pub front : ShownFront (WasToldByte e.place told told') e.offset taken taken'
  pub fronts : ShowsFront e.place e.offset e.length told told' taken taken'

-- How a run of nbddump ends; Uncalled and Unprinted say that nothing was called and that nothing was printed.
pub data DumpEnds (e : Excerpt) (told told' : Option (List Call)) (taken taken' : Option (List ℕ)) (Uncalled Unprinted : Type 0) (end : End) : Type 0 where
  Whole : end ≡ Ok true → AllShown e told told' taken taken' → DumpEnds e told told' taken taken' Uncalled Unprinted end
  Broken_off : (fault : DumpFault) (why : Fault) → end ≡ Err why → TellsDumpFault fault why → PartShown e told told' taken taken' fault
      → DumpEnds e told told' taken taken' Uncalled Unprinted end
  -- all was shown, but a count rose of which nothing told
  Counted : (end ≡ Err fault.Link) ⊎ (end ≡ Err fault.Silent) → AllShown e told told' taken taken' → DumpEnds e told told' taken taken' Uncalled Unprinted end
  Unbegun : end ≡ Err fault.NoMemory → Uncalled → Unprinted → DumpEnds e told told' taken taken' Uncalled Unprinted end

-- Over an export that is honest and wasn't changed, the dump of all bytes asked for was printed.
abbrev pub IsShown : Excerpt → (told told' : Option (List Call)) (taken taken' : Option (List ℕ)) → Type 0
IsShown e told told' taken taken' = (count : ℕ) × Shows e.place e.offset e.length count told told' taken taken'

-- Over such an export, a front of it was printed.
abbrev pub IsShownInPart : Excerpt → (told told' : Option (List Call)) (taken taken' : Option (List ℕ)) → Type 0
IsShownInPart e told told' taken taken' = ShowsFront e.place e.offset e.length told told' taken taken'

-- the statuses of nbddump, and those of a run in which no count rose
abbrev pub is_dump_status : (status : ℕ) → Bool
is_dump_status status = is_one_of (0 ∷ 3 ∷ 4 ∷ 5 ∷ 6 ∷ 7 ∷ 8 ∷ 9 ∷ []) status

abbrev pub IsDumpDone : ℕ → Type 0
IsDumpDone status = (status ≡ 0) ⊎ ((status ≡ 3) ⊎ ((status ≡ 4) ⊎ ((status ≡ 6) ⊎ (status ≡ 9))))
