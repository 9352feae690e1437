-- Words on the code's own steps.
use Rattle.std.specs.Prelude.{ℕ, ◌≡◌, ◌≢◌, ◌++◌, ⊤, List, [], Option, Some, None, Result, Ok, Err, codes, option_to_list}
use Rattle.lnbd_model.specs.declared.target.Place.{Place}
use Rattle.lnbd_model.specs.declared.target.Target.{Target}
use Rattle.lnbd_model.specs.declared.target.Target.TheVariants.{Tcp, Unix}
use Rattle.lnbd_lines.specs.Grammar.{Asks, IsCommand, IsLine, IsTcp, IsWrite}
use Rattle.lnbd_lines.specs.Scripts.{lines_of}
use Rattle.lnbd_lines.specs.declared.command.Range.{Range}
use Rattle.lnbd_lines.specs.declared.command.Command.{Command}
use Rattle.lnbd_lines.specs.declared.command.Command.TheVariants.{Pread, PreadStructured, Pwrite, Trim, Zero, Cache, BlockStatus}
use Rattle.lnbd_lines.specs.declared.line.Line.{Line}
use Rattle.lnbd_lines.specs.declared.line.Line.TheVariants.{Connect, ConnectUri, Context, Done, Export, Handle, Strict, Command as Issue}
use Rattle.lnbd_lines.specs.declared.command.Manner.TheVariants.{Keep, Retire, Fail}

-- the text is none of the lines of one word
pub record HasNoWord (text : List ℕ) : Type 0 where
  pub settle : text ≢ codes "settle"
  pub log : text ≢ codes "log"
  pub heard : text ≢ codes "heard"
  pub clear_log : text ≢ codes "clear-log"
  pub peek : text ≢ codes "peek"
  pub in_flight : text ≢ codes "in-flight"
  pub direction : text ≢ codes "direction"
  pub state : text ≢ codes "state"
  pub info : text ≢ codes "info"
  pub answer : text ≢ codes "answer"
  pub listing : text ≢ codes "listing"
  pub read : text ≢ codes "read"
  pub write : text ≢ codes "write"
  pub disconnect : text ≢ codes "disconnect"
  pub close : text ≢ codes "close"

-- the text asks for no option
pub record HasNoOption (text : List ℕ) : Type 0 where
  pub list : text ≢ codes "opt-list"
  pub info : text ≢ codes "opt-info"
  pub meta : text ≢ codes "opt-meta"
  pub go : text ≢ codes "opt-go"
  pub abort : text ≢ codes "opt-abort"

-- the text turns no setting on or off
pub record HasNoSwitch (text : List ℕ) : Type 0 where
  pub structured_on : text ≢ codes "structured on"
  pub structured_off : text ≢ codes "structured off"
  pub extended_on : text ≢ codes "extended on"
  pub extended_off : text ≢ codes "extended off"
  pub optmode_on : text ≢ codes "optmode on"
  pub optmode_off : text ≢ codes "optmode off"

-- the text is none of the lines that take no memory, but for a command
pub record IsNotPlain (text : List ℕ) : Type 0 where
  pub word : HasNoWord text
  pub option : HasNoOption text
  pub switch : HasNoSwitch text
  pub done : (cookie : ℕ) → ¬ Asks text (Done cookie)
  pub strict : (bits : ℕ) → ¬ Asks text (Strict bits)
  pub handle : (number : ℕ) → ¬ Asks text (Handle number)

-- the text is none of the lines that tell a name, a host, a path or an address
pub record IsNotNamed (text : List ℕ) : Type 0 where
  pub tcp : (host : List ℕ) (port : ℕ) → ¬ Asks text (Connect (Tcp host port))
  pub unix : (path : List ℕ) → ¬ Asks text (Connect (Unix path))
  pub uri : (place : Place) → ¬ Asks text (ConnectUri place)
  pub export : (name : List ℕ) → ¬ Asks text (Export name)
  pub context : (name : List ℕ) → ¬ Asks text (Context name)

-- the text is no read
pub record HasNoRead (text : List ℕ) : Type 0 where
  pub plain : (range : Range) → ¬ IsCommand text (Pread range)
  pub structured : (range : Range) → ¬ IsCommand text (PreadStructured range)

-- the text issues nothing
pub record HasNoIssue (text : List ℕ) : Type 0 where
  pub keep : (command : Command) → ¬ Asks text (Issue Keep command)
  pub retire : (command : Command) → ¬ Asks text (Issue Retire command)
  pub fail : (error : ℕ) (command : Command) → ¬ Asks text (Issue (Fail error) command)

-- the text is none of the commands with a range and no payload, but for a read
pub record HasNoRange (text : List ℕ) : Type 0 where
  pub trim : (range : Range) → ¬ IsCommand text (Trim range)
  pub zero : (range : Range) → ¬ IsCommand text (Zero range)
  pub cache : (range : Range) → ¬ IsCommand text (Cache range)
  pub status : (range : Range) → ¬ IsCommand text (BlockStatus range)

-- BYTES OFF [FLAGS] spells what this command writes
abbrev pub IsWriteOf : List ℕ → Command → Type 0
IsWriteOf text (Pwrite payload offset flags) = IsWrite text payload offset flags
IsWriteOf text other = ⊥

-- HOST PORT spells this target
abbrev pub IsTcpTarget : List ℕ → Target → Type 0
IsTcpTarget text (Tcp host port) = IsTcp text host port
IsTcpTarget text (Unix path) = ⊥

-- what this line asks for was added to a script
abbrev pub IsAdded : {E : Type 0} → Result (Unit {0}) E → List ℕ → List Line → List Line → Type 0
IsAdded (Ok _) line old new = (asked : Option Line) × IsLine line asked × (new ≡ old ++ option_to_list asked)
IsAdded (Err _) line old new = ⊤

-- the lines behind the LF that ends one, or none where it has no LF
abbrev pub lines_behind : Option (List ℕ) → List (List ℕ)
lines_behind None = []
lines_behind (Some text) = lines_of text
