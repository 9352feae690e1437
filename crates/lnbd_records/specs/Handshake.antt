-- The records of the handshake: the protocol's "Fixed newstyle negotiation" and "Option haggling".
use Rattle.std.specs.Prelude.{◌≡◌, ℕ, Bool, List, [], ◌∷◌, ◌++◌, length, if◌then◌else◌}
use Rattle.lnbd_records.specs.Numbers.{Field, number, row, IsRow, IsRowThen}

-- NBDMAGIC
abbrev pub init_magic : ℕ
init_magic = 0x4e42444d41474943

-- IHAVEOPT
abbrev pub option_magic : ℕ
option_magic = 0x49484156454f5054

-- in place of IHAVEOPT where the server speaks the oldstyle negotiation
abbrev pub oldstyle_magic : ℕ
oldstyle_magic = 0x0000420281861253

abbrev pub option_reply_magic : ℕ
option_reply_magic = 0x0003e889045565a9

-- what the server says first, with its handshake flags
abbrev pub hello : ℕ → List Field
hello flags = number 8 init_magic ∷ number 8 option_magic ∷ number 2 flags ∷ []

abbrev pub hello_size : ℕ
hello_size = 18

-- what the client says first
abbrev pub client_flags : ℕ → List Field
client_flags flags = number 4 flags ∷ []

-- an option request up to its data
abbrev pub option_head : (option length : ℕ) → List Field
option_head option length = number 8 option_magic ∷ number 4 option ∷ number 4 length ∷ []

-- an option request, whose head counts its data
abbrev pub option_request : (option : ℕ) → (body : List ℕ) → List ℕ
option_request option body = row (option_head option (length body)) ++ body

-- an option reply up to its data
abbrev pub option_reply_head : (option type length : ℕ) → List Field
option_reply_head option type length = number 8 option_reply_magic ∷ number 4 option ∷ number 4 type ∷ number 4 length ∷ []

abbrev pub option_reply_head_size : ℕ
option_reply_head_size = 20

-- the reply to EXPORT_NAME, which has no head
abbrev pub export_name_reply : (size flags : ℕ) → List Field
export_name_reply size flags = number 8 size ∷ number 2 flags ∷ []

abbrev pub export_name_reply_size : ℕ
export_name_reply_size = 10

-- how many bytes follow it, which nobody reads
abbrev pub padding : Bool → ℕ
padding no_zeroes = if no_zeroes then 0 else 124

abbrev pub IsHello : List ℕ → Type 0
IsHello bytes = (flags : ℕ) × IsRow (hello flags) bytes

abbrev pub IsClientFlags : List ℕ → Type 0
IsClientFlags bytes = (flags : ℕ) × IsRow (client_flags flags) bytes

-- an option request with the data that its head counts
pub record IsOptionRequest (bytes : List ℕ) : Type 0 where
  pub option : ℕ
  pub body : List ℕ
  pub spelled : IsRowThen (option_head option (length body)) body bytes

-- an option reply with the data that its head counts
pub record IsOptionReply (bytes : List ℕ) : Type 0 where
  pub option : ℕ
  pub type : ℕ
  pub body : List ℕ
  pub spelled : IsRowThen (option_reply_head option type (length body)) body bytes

-- a reply to EXPORT_NAME with what follows it, where NO_ZEROES was agreed or not
pub record IsExportNameReply (no_zeroes : Bool) (bytes : List ℕ) : Type 0 where
  pub size : ℕ
  pub flags : ℕ
  pub rest : List ℕ
  pub spelled : IsRowThen (export_name_reply size flags) rest bytes
  pub padded : length rest ≡ padding no_zeroes
