-- What the words of each tool ask for.
use Rattle.std.specs.Prelude.{ℕ, ◌^◌, ◌<◌, ◌≤◌, ◌≡◌, ◌≢◌, ◌⊎◌, ◌&&◌, ◌||◌, ⊤, Bool, true, false, not, List, [], ◌∷◌, ◌++◌, Option, Some, None, codes, drop, filter, length, if◌then◌else◌, nat_eq}
use Rattle.std.specs.Int.{is_power_of_two}
use Rattle.std.specs.List.{All, starts_with}
use Rattle.std.specs.Str.{all_ascii_digits, bytes_eq}
use Rattle.std.specs.Str.Parse.{digits_value}
use Rattle.lnbd_model.specs.Text.{text_limit}
use Rattle.lnbd_model.specs.declared.target.Place.{Place}
use Rattle.lnbd_uri.specs.Address.{IsAddress}
use Rattle.lnbd_uri.specs.Fault.{HasFault}
use Rattle.lnbd_uri.specs.declared.fault.UriFault.{UriFault}
use Rattle.lnbd_args.specs.declared.fault.ArgsFault.{ArgsFault}
use Rattle.lnbd_args.specs.declared.fault.ArgsFault.TheVariants.{NoMemory, Usage, Uri}
use Rattle.lnbd_args.specs.declared.asked.Asked.{Asked}
use Rattle.lnbd_args.specs.declared.asked.Asked.TheVariants.{Calls, Copy, FileCopy, Dump, Info, Serve, Selftest}
use Rattle.lnbd_store.specs.declared.serving.Content.{Content}
use Rattle.lnbd_store.specs.declared.serving.Content.TheVariants.{Made, File}
use Rattle.lnbd_store.specs.declared.side.Side.{Side}
use Rattle.lnbd_store.specs.declared.side.Side.TheVariants as side
use Rattle.lnbd_plan.specs.declared.options.CopyOptions.{CopyOptions}
use Rattle.lnbd_args.specs.declared.asked.Predicate.{Predicate}
use Rattle.lnbd_args.specs.declared.asked.Predicate.TheVariants.{IsReadOnly, IsRotational, IsTls, CanCache, CanDf, CanFastZero, CanFlush, CanFua, CanMultiConn, CanTrim, CanZero, CanWrite, CanRead, CanConnect, CanStructuredReply}
use Rattle.lnbd_args.specs.declared.asked.What.{What}
use Rattle.lnbd_args.specs.declared.asked.What.TheVariants as what
use Rattle.lnbd_args.specs.Words.{AreParts, Part, Rule, Word, is_given, places, value_of}

-- ---- the options of the tools

-- `--NAME`
abbrev pub flag : Word → Rule
flag name = record { name = name; letter = None; has_value = false }

-- `--NAME VALUE`
abbrev pub valued : Word → Rule
valued name = record { name = name; letter = None; has_value = true }

-- `--NAME VALUE` or `-L VALUE`
abbrev pub lettered : Word → ℕ → Rule
lettered name letter = record { name = name; letter = Some letter; has_value = true }

abbrev pub copy_rules : List Rule
copy_rules = flag (codes "allocated") ∷ lettered (codes "connections") 67 ∷ flag (codes "destination-is-zero") ∷ flag (codes "flush")
    ∷ flag (codes "no-extents") ∷ valued (codes "request-size") ∷ lettered (codes "requests") 82 ∷ lettered (codes "sparse") 83 ∷ []

abbrev pub dump_rules : List Rule
dump_rules = valued (codes "length") ∷ valued (codes "offset") ∷ []

abbrev pub info_rules : List Rule
info_rules = flag (codes "json") ∷ flag (codes "list") ∷ flag (codes "size") ∷ flag (codes "map") ∷ valued (codes "context") ∷ flag (codes "totals")
    ∷ valued (codes "is") ∷ valued (codes "can") ∷ []

abbrev pub serve_rules : List Rule
serve_rules = valued (codes "size") ∷ valued (codes "seed") ∷ valued (codes "file") ∷ valued (codes "sessions") ∷ flag (codes "read-only") ∷ []

-- ---- numbers

-- one or more decimal digits, with a value below 2^64
pub record IsNumber (digits : Word) (value : ℕ) : Type 0 where
  pub nonempty : 0 < length digits
  pub decimal : all_ascii_digits digits ≡ true
  pub value_is : digits_value 10 digits ≡ value
  pub fits : value < 2 ^ 64

-- the number of an option, or the one that stands for it where it isn't given
abbrev pub IsNumberOr : ℕ → Option Word → ℕ → Type 0
IsNumberOr default None n = n ≡ default
IsNumberOr default (Some digits) n = IsNumber digits n

-- the same, within limits
pub record IsWithin (default low high : ℕ) (given : Option Word) (n : ℕ) : Type 0 where
  pub number : IsNumberOr default given n
  pub at_least : low ≤ n
  pub at_most : n ≤ high

-- the size of a request: a power of two
abbrev pub IsRequestSize : Option Word → ℕ → Type 0
IsRequestSize given n = IsWithin 262144 4096 33554432 given n × (is_power_of_two n ≡ true)

-- the size from which zeroes are written as zeroes: 0, or a power of two that isn't small
abbrev pub IsSparse : Option Word → ℕ → Type 0
IsSparse given n = IsWithin 4096 0 33554432 given n × ((n ≡ 0) ⊎ ((512 ≤ n) × (is_power_of_two n ≡ true)))

-- ---- nbdcopy

pub record IsCopyOptions (parts : List Part) (options : CopyOptions) : Type 0 where
  pub connections : IsWithin 4 1 16 (value_of (codes "connections") parts) options.connections
  pub requests : IsWithin 64 1 512 (value_of (codes "requests") parts) options.requests
  pub request_size : IsRequestSize (value_of (codes "request-size") parts) options.request_size
  pub sparse : IsSparse (value_of (codes "sparse") parts) options.sparse
  pub extents : options.extents ≡ not (is_given (codes "no-extents") parts)
  pub allocated : options.allocated ≡ is_given (codes "allocated") parts
  pub destination_is_zero : options.destination_is_zero ≡ is_given (codes "destination-is-zero") parts
  pub flush : options.flush ≡ is_given (codes "flush") parts

-- A word of nbdcopy is an address where `://` stands in it, and else a file's path.
abbrev pub is_path : Word → Bool
is_path [] = true
is_path (b ∷ word) = not (starts_with nat_eq (b ∷ word) (codes "://")) && is_path word

-- a path has a byte, and no more than a text
abbrev pub IsPath : Word → Type 0
IsPath word = (0 < length word) × (length word ≤ text_limit)

-- the two sides of a copy
pub record AreSides (from to : Word) : Type 0 where
  pub source : is_path from ≡ true → IsPath from
  pub destination : is_path to ≡ true → IsPath to
  -- a file isn't copied to itself
  pub apart : is_path from ≡ true → from ≢ to

-- the word stands for this side
abbrev pub IsSideOf : Word → Side → Type 0
IsSideOf word (side.Nbd place) = (is_path word ≡ false) × IsAddress word place
IsSideOf word (side.File path) = (is_path word ≡ true) × (path ≡ word)

-- one of them is a file
abbrev pub HasFile : (from to : Side) → Type 0
HasFile (side.Nbd from) (side.Nbd to) = ⊥
HasFile (side.Nbd from) (side.File to) = ⊤
HasFile (side.File from) to = ⊤

-- ---- nbddump

-- how many bytes are shown: a number, or none where all that follow are
abbrev pub IsLength : Option Word → Option ℕ → Type 0
IsLength None length = length ≡ None
IsLength (Some digits) length = (n : ℕ) × (length ≡ Some n) × IsNumber digits n

pub record IsRange (parts : List Part) (offset : ℕ) (length : Option ℕ) : Type 0 where
  pub offset_is : IsNumberOr 0 (value_of (codes "offset") parts) offset
  pub length_is : IsLength (value_of (codes "length") parts) length

-- ---- nbdinfo

-- the words that stand for a word `--map=NAME`
abbrev pub mapped : Word → List Word
mapped w = if starts_with nat_eq w (codes "--map=") then codes "--map" ∷ (codes "--context=" ++ drop 6 w) ∷ [] else w ∷ []

-- the words, where those stand in the place of each that stands before any word `--`
abbrev pub with_map : List Word → List Word
with_map [] = []
with_map (w ∷ ws) = if bytes_eq w (codes "--") then w ∷ ws else mapped w ++ with_map ws

-- those of these options that are given
abbrev pub given_of : List Word → List Part → List Word
given_of [] parts = []
given_of (name ∷ names) parts = if is_given name parts then name ∷ given_of names parts else given_of names parts

-- what is asked of the export, of which one thing at most
abbrev pub chosen : List Part → List Word
chosen = given_of (codes "list" ∷ codes "size" ∷ codes "map" ∷ codes "is" ∷ codes "can" ∷ [])

-- the context of a map, 4,096 bytes at most
abbrev pub IsContext : Option Word → Word → Type 0
IsContext None context = context ≡ codes "base:allocation"
IsContext (Some name) context = (context ≡ name) × (length name ≤ text_limit)

-- the names that `--is` takes, and those that `--can` takes
abbrev pub IsNameOf : Predicate → Word → Word → Type 0
IsNameOf IsReadOnly option name = (option ≡ codes "is") × (name ≡ codes "read-only")
IsNameOf IsRotational option name = (option ≡ codes "is") × (name ≡ codes "rotational")
IsNameOf IsTls option name = (option ≡ codes "is") × (name ≡ codes "tls")
IsNameOf CanCache option name = (option ≡ codes "can") × (name ≡ codes "cache")
IsNameOf CanDf option name = (option ≡ codes "can") × (name ≡ codes "df")
IsNameOf CanFastZero option name = (option ≡ codes "can") × (name ≡ codes "fast-zero")
IsNameOf CanFlush option name = (option ≡ codes "can") × (name ≡ codes "flush")
IsNameOf CanFua option name = (option ≡ codes "can") × (name ≡ codes "fua")
IsNameOf CanMultiConn option name = (option ≡ codes "can") × (name ≡ codes "multi-conn")
IsNameOf CanTrim option name = (option ≡ codes "can") × (name ≡ codes "trim")
IsNameOf CanZero option name = (option ≡ codes "can") × (name ≡ codes "zero")
IsNameOf CanWrite option name = (option ≡ codes "can") × (name ≡ codes "write")
IsNameOf CanRead option name = (option ≡ codes "can") × (name ≡ codes "read")
IsNameOf CanConnect option name = (option ≡ codes "can") × (name ≡ codes "connect")
IsNameOf CanStructuredReply option name = (option ≡ codes "can") × (name ≡ codes "structured-reply")

-- the options ask for this
abbrev pub IsWhat : List Part → What → Type 0
IsWhat parts what.Listing = chosen parts ≡ []
IsWhat parts what.List = chosen parts ≡ codes "list" ∷ []
IsWhat parts what.Size = chosen parts ≡ codes "size" ∷ []
IsWhat parts (what.Map context) = (chosen parts ≡ codes "map" ∷ []) × (is_given (codes "totals") parts ≡ false) × IsContext (value_of (codes "context") parts) context
IsWhat parts (what.Totals context) = (chosen parts ≡ codes "map" ∷ []) × (is_given (codes "totals") parts ≡ true) × IsContext (value_of (codes "context") parts) context
IsWhat parts (what.Test predicate) = (option : Word) × (name : Word) × (chosen parts ≡ option ∷ []) × (value_of option parts ≡ Some name) × IsNameOf predicate option name

-- totals and context stand only with map, and json with none of size, is and can
abbrev pub is_fitting : List Part → Bool
is_fitting parts = (is_given (codes "map") parts || not (is_given (codes "totals") parts || is_given (codes "context") parts))
    && (not (is_given (codes "json") parts) || not ((is_given (codes "size") parts || is_given (codes "is") parts) || is_given (codes "can") parts))

pub record IsInfo (parts : List Part) (asked : What) (json : Bool) : Type 0 where
  pub what_is : IsWhat parts asked
  pub json_is : json ≡ is_given (codes "json") parts
  pub fits : is_fitting parts ≡ true

-- ---- serve

-- what stands behind serve's own words: nothing, or `--run` and a program with its words
abbrev pub run_words : List Word → List Word
run_words [] = []
run_words (program ∷ words) = codes "--run" ∷ program ∷ words

-- the words are serve's own, which the first `--run` ends, and then these that run a program
pub record IsSplit (words own run : List Word) : Type 0 where
  pub joined : words ≡ own ++ run_words run
  pub first : All (λ word. word ≢ codes "--run") own

-- the address that the program is given, as its last word; none where none is run
abbrev pub given_address : List Word → Word → Word
given_address [] address = []
given_address (program ∷ words) address = address

-- each has 4,096 bytes at most
abbrev pub AreShort : List Word → Type 0
AreShort words = All (λ word. length word ≤ text_limit) words

-- the size of what is made is always given
abbrev pub IsSize : Option Word → ℕ → Type 0
IsSize None n = ⊥
IsSize (Some digits) n = IsNumber digits n × (n ≤ 1073741824)

-- what is served: bytes made from a number, or those of the file whose path is given, 4,096 bytes at most, in place of size and seed
abbrev pub IsContent : List Part → Content → Type 0
IsContent parts (Made seed size) = (value_of (codes "file") parts ≡ None) × IsSize (value_of (codes "size") parts) size × IsNumberOr 0 (value_of (codes "seed") parts) seed
IsContent parts (File path) =
    (value_of (codes "file") parts ≡ Some path) × (length path ≤ text_limit) × (is_given (codes "size") parts ≡ false) × (is_given (codes "seed") parts ≡ false)

pub record IsServe (parts : List Part) (content : Content) (read_only : Bool) (sessions : ℕ) : Type 0 where
  pub content_is : IsContent parts content
  pub sessions_is : IsWithin 1 1 1000000 (value_of (codes "sessions") parts) sessions
  pub read_only_is : read_only ≡ is_given (codes "read-only") parts

-- serve's own words ask for this
pub record Hosts (own : List Word) (content : Content) (read_only : Bool) (sessions : ℕ) (address : Word) : Type 0 where
  pub parts : List Part
  pub are : AreParts serve_rules own parts
  pub place_is : places parts ≡ address ∷ []
  pub serves : IsServe parts content read_only sessions

-- the words behind `serve` ask for this
pub record Serves (words : List Word) (content : Content) (read_only : Bool) (sessions : ℕ) (address : Word) (run : List Word) : Type 0 where
  pub own : List Word
  pub split : IsSplit words own run
  pub short : AreShort (given_address run address ∷ run)
  pub hosts : Hosts own content read_only sessions address

-- ---- the words of all tools

-- what is asked, with each address as it is written
pub data Wanted : Type 0 where
  calls : Wanted
  copy : CopyOptions → Word → Word → Wanted
  dump : ℕ → Option ℕ → Word → Wanted
  info : What → Bool → Word → Wanted
  serve : Content → Bool → ℕ → Word → List Word → Wanted
  selftest : ℕ → ℕ → Wanted

-- the words are the tool's name and then these parts, of which P holds
abbrev pub Tool : Word → List Rule → (List Part → Type 0) → List Word → Type 0
Tool name rules P words = (rest : List Word) × (words ≡ name ∷ rest) × (parts : List Part) × AreParts rules rest parts × P parts

-- the words ask for this
abbrev pub Reads : List Word → Wanted → Type 0
Reads words calls = words ≡ codes "nbdcalls" ∷ []
Reads words (copy options from to) = Tool (codes "nbdcopy") copy_rules (λ parts. (places parts ≡ from ∷ to ∷ []) × IsCopyOptions parts options × AreSides from to) words
Reads words (dump offset length address) = Tool (codes "nbddump") dump_rules (λ parts. (places parts ≡ address ∷ []) × IsRange parts offset length) words
Reads words (info asked json address) =
    (rest : List Word) × (words ≡ codes "nbdinfo" ∷ rest) × (parts : List Part) × AreParts info_rules (with_map rest) parts × (places parts ≡ address ∷ []) × IsInfo parts asked json
Reads words (serve content read_only sessions address run) = (rest : List Word) × (words ≡ codes "serve" ∷ rest) × Serves rest content read_only sessions address run
Reads words (selftest seed size) =
    Tool (codes "selftest") [] (λ parts. (first : Word) × (second : Word) × (places parts ≡ first ∷ second ∷ []) × IsNumber first seed × IsNumber second size) words

-- the same, with the places that the addresses mean
abbrev pub Asks : List Word → Asked → Type 0
Asks words Calls = Reads words calls
Asks words (Copy options from to) = (first : Word) × (second : Word) × Reads words (copy options first second) × IsSideOf first (side.Nbd from) × IsSideOf second (side.Nbd to)
Asks words (FileCopy options from to) = (first : Word) × (second : Word) × Reads words (copy options first second) × IsSideOf first from × IsSideOf second to × HasFile from to
Asks words (Dump place offset length) = (address : Word) × Reads words (dump offset length address) × IsAddress address place
Asks words (Info asked json place) = (address : Word) × Reads words (info asked json address) × IsAddress address place
Asks words (Serve s) =
    (address : Word) × Reads words (serve s.content s.read_only s.sessions address s.run) × IsAddress address s.place × (s.uri ≡ given_address s.run address)
Asks words (Selftest seed size) = Reads words (selftest seed size)

-- the addresses, in their order
abbrev pub addresses : Wanted → List Word
addresses (copy options from to) = filter (λ word. not (is_path word)) (from ∷ to ∷ [])
addresses (dump offset length address) = address ∷ []
addresses (info asked json address) = address ∷ []
addresses (serve content read_only sessions address run) = address ∷ []
addresses _ = []

-- the first that isn't an address has this fault
abbrev pub FirstFault : List Word → UriFault → Type 0
FirstFault [] fault = ⊥
FirstFault (address ∷ rest) fault = HasFault address fault ⊎ ((place : Place) × IsAddress address place × FirstFault rest fault)

-- why an address isn't read: memory, or the fault that it has
abbrev pub IsFaultOf : Word → ArgsFault → Type 0
IsFaultOf address NoMemory = ⊤
IsFaultOf address Usage = ⊥
IsFaultOf address (Uri fault) = HasFault address fault

-- the words ask for something, but for this fault of an address
pub record IsMisplaced (words : List Word) (fault : UriFault) : Type 0 where
  pub wanted : Wanted
  pub reads : Reads words wanted
  pub faulty : FirstFault (addresses wanted) fault
