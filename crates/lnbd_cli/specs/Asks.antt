-- What the words ask for, and of which tool; or that they ask for nothing.
use Rattle.std.specs.Prelude.{◌≡◌, ◌≢◌, ◌⊎◌, ◌∷◌, ℕ, Bool, true, false, List, [], String, map, string_bytes}
use Rattle.std.specs.declared.alloc.Global.{Global}
use Rattle.lnbd_args.specs.declared.asked.Asked.{Asked}
use Rattle.lnbd_args.specs.declared.asked.Asked.TheVariants as asked
use Rattle.lnbd_args.specs.Tools.{Asks, IsMisplaced, Reads, Wanted}
use Rattle.lnbd_cli.specs.declared.ending.Fault.{Fault}
use Rattle.lnbd_cli.specs.declared.ending.Fault.TheVariants as fault
use Rattle.lnbd_cli.specs.declared.copying.Transfer.{Transfer}
use Rattle.lnbd_cli.specs.declared.dumping.Excerpt.{Excerpt}
use Rattle.lnbd_copyfile.specs.FileCopy.{Download, Duplication, Upload}
use Rattle.lnbd_cli.specs.declared.hearing.Question.{Question}
use Rattle.lnbd_cli.specs.declared.selftesting.Trial.{Trial}
use Rattle.lnbd_cli.specs.declared.serving.Service.{Service}
use Rattle.lnbd_store.specs.declared.serving.Content.{Content}
use Rattle.lnbd_store.specs.declared.serving.Content.TheVariants.{Made, File}
use Rattle.lnbd_store.specs.declared.serving.Serving.{Serving}
use Rattle.lnbd_store.specs.declared.side.Side.{Side}
use Rattle.lnbd_store.specs.declared.side.Side.TheVariants as side
use Rattle.lnbd_plan.specs.declared.options.CopyOptions.{CopyOptions}

-- The words as they are spelled name a tool and ask this of it.
abbrev pub Ask : List (String Global) → Asked → Type 0
Ask words asked = Asks (map string_bytes words) asked

-- nbdcalls: a script is to be played
abbrev pub IsCalls : List (String Global) → Type 0
IsCalls words = Ask words asked.Calls

-- nbdinfo: a server is to be asked this
abbrev pub IsInfo : List (String Global) → Question → Type 0
IsInfo words q = Ask words (asked.Info q.what q.json q.place)

-- what serving made contents alone is asked as: there is no address for a program, and no program
abbrev pub serving_of : Service → Serving
serving_of s = record { place = s.place; content = Made s.seed s.size; read_only = s.read_only; sessions = s.sessions; uri = []; run = [] }

-- serve: these contents are to be made and served
abbrev pub IsServe : List (String Global) → Service → Type 0
IsServe words s = Ask words (asked.Serve (serving_of s))

-- made contents are served, and no program runs beside
abbrev pub is_alone : Content → (run : List (List ℕ)) → Bool
is_alone (Made seed size) [] = true
is_alone (Made seed size) (program ∷ words) = false
is_alone (File path) run = false

-- serve: a file is to be served, or something beside a program
abbrev pub IsBeside : List (String Global) → Serving → Type 0
IsBeside words s = Ask words (asked.Serve s) × (is_alone s.content s.run ≡ false)

-- They ask for that.
abbrev pub AskBeside : List (String Global) → Type 0
AskBeside words = (s : Serving) × IsBeside words s

-- nbdcopy: a side is a file
abbrev pub AskFileCopy : List (String Global) → Type 0
AskFileCopy words = (options : CopyOptions) × (from : Side) × (to : Side) × Ask words (asked.FileCopy options from to)

-- a file is served
abbrev pub IsFile : Content → Type 0
IsFile (Made seed size) = ⊥
IsFile (File path) = Unit {0}

-- They ask for a file to be served, or for a copy of which a side is a file; or for a program to be run.
abbrev pub AskFile : List (String Global) → Type 0
AskFile words = ((s : Serving) × Ask words (asked.Serve s) × IsFile s.content) ⊎ AskFileCopy words

abbrev pub AskProgram : List (String Global) → Type 0
AskProgram words = (s : Serving) × Ask words (asked.Serve s) × (s.run ≢ [])

-- nbdcopy: this is to be copied
abbrev pub IsCopy : List (String Global) → Transfer → Type 0
IsCopy words t = Ask words (asked.Copy t.options t.from t.to)

-- nbdcopy: this file is to be copied to that path
abbrev pub IsDuplicate : List (String Global) → Duplication → Type 0
IsDuplicate words d = Ask words (asked.FileCopy d.options (side.File d.from) (side.File d.to))

-- nbdcopy: this export is to be copied to that file, or this file to that export
abbrev pub IsDownload : List (String Global) → Download → Type 0
IsDownload words d = Ask words (asked.FileCopy d.options (side.Nbd d.from) (side.File d.to))

abbrev pub IsUpload : List (String Global) → Upload → Type 0
IsUpload words u = Ask words (asked.FileCopy u.options (side.File u.from) (side.Nbd u.to))

-- nbddump: these bytes are to be shown
abbrev pub IsDump : List (String Global) → Excerpt → Type 0
IsDump words e = Ask words (asked.Dump e.place e.offset e.length)

-- selftest: this copy is to be made in memory
abbrev pub IsSelftest : List (String Global) → Trial → Type 0
IsSelftest words t = Ask words (asked.Selftest t.seed t.size)

-- They ask nothing of any tool.
abbrev pub AskNothing : List (String Global) → Type 0
AskNothing words = (asked : Asked) → ¬ Ask words asked

-- What such a run ends with: they are none of a tool's, or the first address that is none has this fault. Or memory ran out before it was known what they ask.
abbrev pub Refuses : List (String Global) → Fault → Type 0
Refuses words fault.Usage = (wanted : Wanted) → ¬ Reads (map string_bytes words) wanted
Refuses words (fault.Uri why) = IsMisplaced (map string_bytes words) why
Refuses words fault.NoMemory = Unit {0}
Refuses words (fault.Line number) = ⊥
Refuses words (fault.Told option code) = ⊥
Refuses words (fault.Broke broken) = ⊥
Refuses words fault.Client = ⊥
Refuses words fault.Link = ⊥
Refuses words (fault.Rule ruling) = ⊥
Refuses words fault.Silent = ⊥
Refuses words fault.Output = ⊥
Refuses words fault.Input = ⊥
Refuses words fault.Store = ⊥
Refuses words (fault.Child status) = ⊥
Refuses words fault.Signal = ⊥
Refuses words fault.Spawn = ⊥
