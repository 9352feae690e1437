-- All that a run did that its words asked, tool by tool.
use Rattle.std.specs.Prelude.{◌≡◌, ◌≢◌, ◌⊎◌, ◌<◌, ◌≤◌, ℕ, true, false, List, [], Option, String}
use Rattle.std.specs.declared.alloc.Global.{Global}
use Rattle.lnbd_args.specs.declared.asked.Asked.{Asked}
use Rattle.lnbd_args.specs.declared.asked.Asked.TheVariants as asked
use Rattle.lnbd_link.specs.Call.{Call}
use Rattle.lnbd_child.specs.Loading.{IsFew, IsOfNumber}
use Rattle.lnbd_conduct.specs.Limits.{AreLimited}
use Rattle.lnbd_spawn.specs.declared.deed.Deed.{Deed}
use Rattle.lnbd_store.specs.Call.{Call as Move}
use Rattle.lnbd_store.specs.Shelf.{Shelf}
use Rattle.lnbd_store.specs.declared.serving.Serving.{Serving}
use Rattle.lnbd_cli.specs.Asks.{Ask, is_alone}
use Rattle.lnbd_cli.specs.Beside.{FileServed, ProgramRan, is_all_done}
use Rattle.lnbd_cli.specs.Calls.{HoldsScript}
use Rattle.lnbd_copyfile.specs.FileCopy.{AreFileSides}
use Rattle.lnbd_cli.specs.FileCopies.{HasExport}
use Rattle.lnbd_cli.specs.Ends.{End, status_of}
use Rattle.lnbd_cli.specs.Hosts.{ServeDoes}
use Rattle.lnbd_cli.specs.Runs.{RunsCalls, RunsCopy, RunsDump, RunsFiles, RunsInfo, RunsSelftest, is_known}
use Rattle.lnbd_cli.specs.Limits.{most_tested}

abbrev pub Does : {I W O S P : Type 0} → Asked → (left : I → Option (List ℕ)) (input input' : I) (told : W → Option (List Call)) (wires wires' : W) (taken : O → Option (List ℕ)) (out out' : O)
    (moved : S → Option (List Move)) (shelf : S → Option Shelf) (gave took : S → ℕ) (store store' : S) (deeds : P → Option (List Deed)) (spawn spawn' : P) → End → Type 0
Does asked.Calls left input input' told wires wires' taken out out' moved shelf gave took store store' deeds spawn spawn' end = RunsCalls left input input' told wires wires' taken out out' end
Does (asked.Info what json place) left input input' told wires wires' taken out out' moved shelf gave took store store' deeds spawn spawn' end =
    RunsInfo (record { what = what; json = json; place = place }) told wires wires' taken out out' end
Does (asked.Serve s) left input input' told wires wires' taken out out' moved shelf gave took store store' deeds spawn spawn' end =
    ServeDoes s.content s.run s told wires wires' taken out out' moved store store' deeds spawn spawn' end
Does (asked.Copy options from to) left input input' told wires wires' taken out out' moved shelf gave took store store' deeds spawn spawn' end =
    RunsCopy (record { options = options; from = from; to = to }) told wires wires' out out' end
Does (asked.FileCopy options from to) left input input' told wires wires' taken out out' moved shelf gave took store store' deeds spawn spawn' end =
    RunsFiles options from to told wires wires' out out' moved shelf gave took store store' end
Does (asked.Dump place offset length) left input input' told wires wires' taken out out' moved shelf gave took store store' deeds spawn spawn' end =
    RunsDump (record { place = place; offset = offset; length = length }) told wires wires' taken out out' end
Does (asked.Selftest seed size) left input input' told wires wires' taken out out' moved shelf gave took store store' deeds spawn spawn' end =
    RunsSelftest (record { seed = seed; size = size }) wires wires' taken out out' end

-- What keeps a tool from refusing what it is asked: a script in the input, a size that is not too large; and where it is, that is told.
abbrev pub Accepts : Asked → (left : Option (List ℕ)) → End → Type 0
Accepts asked.Calls left end = HoldsScript left → status_of end ≢ 1
Accepts (asked.Info what json place) left end = Unit {0}
Accepts (asked.Serve s) left end = Unit {0}
Accepts (asked.Copy options from to) left end = Unit {0}
Accepts (asked.FileCopy options from to) left end = Unit {0}
Accepts (asked.Dump place offset length) left end = Unit {0}
Accepts (asked.Selftest seed size) left end = (size ≤ most_tested → status_of end ≢ 6) × (most_tested < size → (status_of end ≡ 6) ⊎ (status_of end ≡ 9))

-- No file is asked for, and no program.
abbrev pub AsksNoFile : Asked → Type 0
AsksNoFile asked.Calls = Unit {0}
AsksNoFile (asked.Info what json place) = Unit {0}
AsksNoFile (asked.Serve s) = IsOfNumber s.content
AsksNoFile (asked.Copy options from to) = Unit {0}
AsksNoFile (asked.FileCopy options from to) = ⊥
AsksNoFile (asked.Dump place offset length) = Unit {0}
AsksNoFile (asked.Selftest seed size) = Unit {0}

abbrev pub AsksNoProgram : Asked → Type 0
AsksNoProgram asked.Calls = Unit {0}
AsksNoProgram (asked.Info what json place) = Unit {0}
AsksNoProgram (asked.Serve s) = s.run ≡ []
AsksNoProgram (asked.Copy options from to) = Unit {0}
AsksNoProgram (asked.FileCopy options from to) = Unit {0}
AsksNoProgram (asked.Dump place offset length) = Unit {0}
AsksNoProgram (asked.Selftest seed size) = Unit {0}

-- Where a file or a program is served, all steps are done on a status that says so, and this is so.
abbrev pub WhereBeside : Asked → End → (Serving → Type 0) → Type 0
WhereBeside asked.Calls end Is = Unit {0}
WhereBeside (asked.Info what json place) end Is = Unit {0}
WhereBeside (asked.Serve s) end Is = is_alone s.content s.run ≡ false → is_all_done (status_of end) ≡ true → Is s
WhereBeside (asked.Copy options from to) end Is = Unit {0}
WhereBeside (asked.FileCopy options from to) end Is = Unit {0}
WhereBeside (asked.Dump place offset length) end Is = Unit {0}
WhereBeside (asked.Selftest seed size) end Is = Unit {0}

pub record Did {I W O S P : Type 0} (left : I → Option (List ℕ)) (input input' : I) (told : W → Option (List Call)) (wires wires' : W) (taken : O → Option (List ℕ)) (out out' : O)
    (moved : S → Option (List Move)) (shelf : S → Option Shelf) (gave took : S → ℕ) (store store' : S) (deeds : P → Option (List Deed)) (spawn spawn' : P) (end : End) (asked : Asked) : Type 0 where
  pub does : Does asked left input input' told wires wires' taken out out' moved shelf gave took store store' deeds spawn spawn' end
  pub known : is_known asked (status_of end) ≡ true
  pub accepts : Accepts asked (left input) end
  pub store_same : AsksNoFile asked → store' ≡ store
  pub spawn_same : AsksNoProgram asked → spawn' ≡ spawn
  pub file : WhereBeside asked end (λ s. FileServed s (told wires) (told wires') (shelf store) (shelf store') (status_of end))
  pub child : WhereBeside asked end (λ s. ProgramRan s (deeds spawn) (deeds spawn') (status_of end))

-- The same of all that the words ask.
abbrev pub DidAsked : {I W O S P : Type 0} → List (String Global) → (left : I → Option (List ℕ)) (input input' : I) (told : W → Option (List Call)) (wires wires' : W)
    (taken : O → Option (List ℕ)) (out out' : O) (moved : S → Option (List Move)) (shelf : S → Option Shelf) (gave took : S → ℕ) (store store' : S)
    (deeds : P → Option (List Deed)) (spawn spawn' : P) → End → Type 0
DidAsked words left input input' told wires wires' taken out out' moved shelf gave took store store' deeds spawn spawn' end =
    (asked : Asked) → Ask words asked → Did left input input' told wires wires' taken out out' moved shelf gave took store store' deeds spawn spawn' end asked

-- What is to be served fits in memory, the options of a copy are within their limits, and the sides of one of which a side is a file are those that it can have.
abbrev pub HasRoom : Asked → Type 0
HasRoom asked.Calls = Unit {0}
HasRoom (asked.Info what json place) = Unit {0}
HasRoom (asked.Serve s) = IsFew s.content
HasRoom (asked.Copy options from to) = AreLimited options
HasRoom (asked.FileCopy options from to) = AreLimited options × AreFileSides from to
HasRoom (asked.Dump place offset length) = Unit {0}
HasRoom (asked.Selftest seed size) = Unit {0}

-- The input is not read for it.
abbrev pub NeverReads : Asked → Type 0
NeverReads asked.Calls = ⊥
NeverReads (asked.Info what json place) = Unit {0}
NeverReads (asked.Serve s) = Unit {0}
NeverReads (asked.Copy options from to) = Unit {0}
NeverReads (asked.FileCopy options from to) = Unit {0}
NeverReads (asked.Dump place offset length) = Unit {0}
NeverReads (asked.Selftest seed size) = Unit {0}

-- Wires are used for it.
abbrev pub IsOnWires : Asked → Type 0
IsOnWires asked.Calls = Unit {0}
IsOnWires (asked.Info what json place) = Unit {0}
IsOnWires (asked.Serve s) = Unit {0}
IsOnWires (asked.Copy options from to) = Unit {0}
IsOnWires (asked.FileCopy options from to) = HasExport from to
IsOnWires (asked.Dump place offset length) = Unit {0}
IsOnWires (asked.Selftest seed size) = ⊥
