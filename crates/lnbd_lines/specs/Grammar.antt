-- The grammar of one line of a script: what it asks for.
use Rattle.std.specs.Prelude.{ℕ, Bool, ◌^◌, ◌<◌, ◌≤◌, ◌≡◌, ◌≢◌, ◌⊎◌, true, false, List, [], ◌∷◌, ◌++◌, All, Option, MatchOption, Ok, codes, length, IsUtf8}
use Rattle.std.specs.Char.{is_ascii_uppercase}
use Rattle.std.specs.List.{list_any}
use Rattle.std.specs.Str.{all_ascii_digits}
use Rattle.std.specs.Str.Parse.{digits_value}
use Rattle.hex.specs.Hex.{decode_of}
use Rattle.lnbd_model.specs.declared.target.Target.TheVariants.{Tcp, Unix}
use Rattle.lnbd_uri.specs.Address.{IsAddress}
use Rattle.lnbd_lines.specs.declared.line.Line.{Line}
use Rattle.lnbd_lines.specs.declared.line.Line.TheVariants.{Handle, Connect, ConnectUri, Settle, Log, Heard, ClearLog, Done, Peek, InFlight, Direction, State, Info, Export, Strict, Context, Switch as Turn, Ask, Answer, Listing, Read, Write, Disconnect, Close, Command as Issue}
use Rattle.lnbd_lines.specs.declared.negotiation.Opt.{Opt}
use Rattle.lnbd_lines.specs.declared.negotiation.Opt.TheVariants as opt
use Rattle.lnbd_lines.specs.declared.negotiation.Switch.{Switch}
use Rattle.lnbd_lines.specs.declared.negotiation.Switch.TheVariants as switch
use Rattle.lnbd_lines.specs.declared.command.Range.{Range}
use Rattle.lnbd_lines.specs.declared.command.Payload.{Payload}
use Rattle.lnbd_lines.specs.declared.command.Payload.TheVariants.{Hex, Fill}
use Rattle.lnbd_lines.specs.declared.command.Command.{Command}
use Rattle.lnbd_lines.specs.declared.command.Command.TheVariants.{Pread, PreadStructured, Pwrite, Flush, Trim, Zero, Cache, BlockStatus}
use Rattle.lnbd_lines.specs.declared.command.Manner.{Manner}
use Rattle.lnbd_lines.specs.declared.command.Manner.TheVariants.{Keep, Retire, Fail}

-- one or more decimal digits, with a value below 2^64
pub record IsNumber (digits : List ℕ) (value : ℕ) : Type 0 where
  pub nonempty : 0 < length digits
  pub decimal : all_ascii_digits digits ≡ true
  pub value_is : digits_value 10 digits ≡ value
  pub fits : value < 2 ^ 64

-- what stands between words, and between the parts of a word
abbrev pub space : ℕ
space = 32

abbrev pub colon : ℕ
colon = 58

-- the text is a word, this mark, and the rest: the mark doesn't stand in the word
pub record IsCut (mark : ℕ) (text word rest : List ℕ) : Type 0 where
  pub spelled : text ≡ word ++ mark ∷ rest
  pub one_word : All (λ c. c ≢ mark) word

-- the line is this front and then a rest of which P holds
abbrev pub Follows : List ℕ → (List ℕ → Type 0) → List ℕ → Type 0
Follows front P line = (rest : List ℕ) × (line ≡ front ++ rest) × P rest

-- HOST PORT: a host of 1 to 4,096 bytes, and a number from 1 to 65535
pub record IsTcp (text host : List ℕ) (port : ℕ) : Type 0 where
  pub digits : List ℕ
  pub cut : IsCut space text host digits
  pub named : 0 < length host
  pub short : length host ≤ 4096
  pub number : IsNumber digits port
  pub low : 1 ≤ port
  pub high : port ≤ 65535

-- PATH: 1 to 4,096 bytes
pub record IsPath (text path : List ℕ) : Type 0 where
  pub same : path ≡ text
  pub named : 0 < length path
  pub short : length path ≤ 4096

-- TEXT: 4,096 bytes at most, also none
pub record IsName (text name : List ℕ) : Type 0 where
  pub same : name ≡ text
  pub short : length name ≤ 4096

-- the most bytes of one read, and of one fill
abbrev pub max_bytes : ℕ
max_bytes = 67108864

-- a number of bytes that isn't too large
pub record IsSize (digits : List ℕ) (value : ℕ) : Type 0 where
  pub number : IsNumber digits value
  pub small : value ≤ max_bytes

-- FLAGS: a number below 2^32
pub record IsFlags (digits : List ℕ) (flags : ℕ) : Type 0 where
  pub number : IsNumber digits flags
  pub small : flags < 2 ^ 32

-- how many handles a script has
abbrev pub max_handles : ℕ
max_handles = 16

-- N: the number of a handle
pub record IsHandle (digits : List ℕ) (handle : ℕ) : Type 0 where
  pub number : IsNumber digits handle
  pub small : handle < max_handles

-- OFF FLAGS
pub record IsFlagged (text : List ℕ) (offset flags : ℕ) : Type 0 where
  pub first : List ℕ
  pub second : List ℕ
  pub cut : IsCut space text first second
  pub offset_is : IsNumber first offset
  pub flags_are : IsFlags second flags

-- OFF [FLAGS]: where no flags stand they are 0
abbrev pub IsPlace : List ℕ → (offset flags : ℕ) → Type 0
IsPlace text offset flags = (IsNumber text offset × (flags ≡ 0)) ⊎ IsFlagged text offset flags

-- LEN OFF [FLAGS]
pub record IsRange (text : List ℕ) (range : Range) : Type 0 where
  pub first : List ℕ
  pub second : List ℕ
  pub cut : IsCut space text first second
  pub length_is : IsNumber first range.length
  pub place : IsPlace second range.offset range.flags

-- pairs of hexadecimal digits, lower-case ones, that spell these bytes
pub record IsHex (digits bytes : List ℕ) : Type 0 where
  pub lower : list_any is_ascii_uppercase digits ≡ false
  pub pairs : decode_of digits ≡ Ok bytes

-- XX:LEN: a byte, and how often it stands
pub record IsFill (text : List ℕ) (byte size : ℕ) : Type 0 where
  pub pair : List ℕ
  pub digits : List ℕ
  pub cut : IsCut colon text pair digits
  pub byte_is : IsHex pair (byte ∷ [])
  pub size_is : IsSize digits size

-- BYTES
abbrev pub IsPayload : List ℕ → Payload → Type 0
IsPayload text (Hex bytes) = Follows (codes "hex:") (λ rest. IsHex rest bytes) text
IsPayload text (Fill byte size) = Follows (codes "fill:") (λ rest. IsFill rest byte size) text

-- BYTES OFF [FLAGS]
pub record IsWrite (text : List ℕ) (payload : Payload) (offset flags : ℕ) : Type 0 where
  pub first : List ℕ
  pub second : List ℕ
  pub cut : IsCut space text first second
  pub payload_is : IsPayload first payload
  pub place : IsPlace second offset flags

-- the text is this command
abbrev pub IsCommand : List ℕ → Command → Type 0
IsCommand text (Pread range) = Follows (codes "pread ") (λ rest. IsRange rest range) text × (range.length ≤ max_bytes)
IsCommand text (PreadStructured range) = Follows (codes "pread-structured ") (λ rest. IsRange rest range) text × (range.length ≤ max_bytes)
IsCommand text (Pwrite payload offset flags) = Follows (codes "pwrite ") (λ rest. IsWrite rest payload offset flags) text
IsCommand text (Flush flags) = ((text ≡ codes "flush") × (flags ≡ 0)) ⊎ Follows (codes "flush ") (λ rest. IsFlags rest flags) text
IsCommand text (Trim range) = Follows (codes "trim ") (λ rest. IsRange rest range) text
IsCommand text (Zero range) = Follows (codes "zero ") (λ rest. IsRange rest range) text
IsCommand text (Cache range) = Follows (codes "cache ") (λ rest. IsRange rest range) text
IsCommand text (BlockStatus range) = Follows (codes "block-status ") (λ rest. IsRange rest range) text

-- N COMMAND
pub record IsFailing (text : List ℕ) (error : ℕ) (command : Command) : Type 0 where
  pub first : List ℕ
  pub second : List ℕ
  pub cut : IsCut space text first second
  pub error_is : IsFlags first error
  pub command_is : IsCommand second command

-- a command, and what its callbacks answer
abbrev pub IsIssue : List ℕ → Manner → Command → Type 0
IsIssue text Keep command = IsCommand text command
IsIssue text Retire command = Follows (codes "auto ") (λ rest. IsCommand rest command) text
IsIssue text (Fail error) command = Follows (codes "fail ") (λ rest. IsFailing rest error command) text

-- the word of an option
abbrev pub opt_word : Opt → List ℕ
opt_word opt.List = codes "opt-list"
opt_word opt.Info = codes "opt-info"
opt_word opt.Meta = codes "opt-meta"
opt_word opt.Go = codes "opt-go"
opt_word opt.Abort = codes "opt-abort"

-- the word of a setting that is on or off
abbrev pub switch_word : Switch → List ℕ
switch_word switch.Structured = codes "structured"
switch_word switch.Extended = codes "extended"
switch_word switch.OptMode = codes "optmode"

abbrev pub on_word : Bool → List ℕ
on_word true = codes "on"
on_word false = codes "off"

-- the text of the line asks for this
abbrev pub Asks : List ℕ → Line → Type 0
Asks text (Handle number) = Follows (codes "handle ") (λ rest. IsHandle rest number) text
Asks text (Connect (Tcp host port)) = Follows (codes "connect tcp ") (λ rest. IsTcp rest host port) text
Asks text (Connect (Unix path)) = Follows (codes "connect unix ") (λ rest. IsPath rest path) text
Asks text (ConnectUri place) = Follows (codes "connect ") (λ rest. IsAddress rest place) text
Asks text (Issue manner command) = IsIssue text manner command
Asks text Settle = text ≡ codes "settle"
Asks text Log = text ≡ codes "log"
Asks text Heard = text ≡ codes "heard"
Asks text ClearLog = text ≡ codes "clear-log"
Asks text (Done cookie) = Follows (codes "done ") (λ rest. IsNumber rest cookie) text
Asks text Peek = text ≡ codes "peek"
Asks text InFlight = text ≡ codes "in-flight"
Asks text Direction = text ≡ codes "direction"
Asks text State = text ≡ codes "state"
Asks text Info = text ≡ codes "info"
Asks text (Export name) = Follows (codes "export ") (λ rest. IsName rest name) text
Asks text (Strict bits) = Follows (codes "strict ") (λ rest. IsFlags rest bits) text
Asks text (Context name) = Follows (codes "context ") (λ rest. IsName rest name) text
Asks text (Turn switch on) = text ≡ switch_word switch ++ space ∷ on_word on
Asks text (Ask opt) = text ≡ opt_word opt
Asks text Answer = text ≡ codes "answer"
Asks text Listing = text ≡ codes "listing"
Asks text Read = text ≡ codes "read"
Asks text Write = text ≡ codes "write"
Asks text Disconnect = text ≡ codes "disconnect"
Asks text Close = text ≡ codes "close"

-- the line is empty, or a comment
abbrev pub IsPassedOver : List ℕ → Type 0
IsPassedOver line = (line ≡ []) ⊎ ((rest : List ℕ) × (line ≡ codes "#" ++ rest))

-- the line is UTF-8 and asks for this, or for nothing where it is passed over
pub record IsLine (line : List ℕ) (asked : Option Line) : Type 0 where
  pub utf8 : IsUtf8 line
  pub means : MatchOption asked (IsPassedOver line) (λ asked. Asks line asked)

-- the line is in the grammar
abbrev pub IsLawful : List ℕ → Type 0
IsLawful line = (asked : Option Line) × IsLine line asked
