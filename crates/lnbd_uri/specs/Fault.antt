-- The faults of an address: their numbers, their names, and when each holds.
use Rattle.std.specs.Prelude.{ℕ, ◌<◌, ◌≡◌, ◌⊎◌, ⊤, List, [], codes, length, IsSome, IsSomeAnd, IsUtf8}
use Rattle.percent_encoding.specs.Percent.{percent_decode}
use Rattle.lnbd_uri.specs.Address.{Reading, unknown, secured, tcp, unix, ReadsAs}
use Rattle.lnbd_uri.specs.Parts.{authority, written, socket, IsHost, IsPort, IsEscaped}
use Rattle.lnbd_uri.specs.declared.fault.UriFault.{UriFault}
use Rattle.lnbd_uri.specs.declared.fault.UriFault.TheVariants.{NoMemory, Scheme, Tls, Host, Port, Escape, NoSocket, NotUtf8, TooLong}

-- the place of a fault in their order: where several hold, the lowest is told
abbrev pub number_of : UriFault → ℕ
number_of NoMemory = 1
number_of Scheme = 2
number_of Tls = 3
number_of Host = 4
number_of Port = 5
number_of Escape = 6
number_of NoSocket = 7
number_of NotUtf8 = 8
number_of TooLong = 9

-- the name that programs print
abbrev pub name_of : UriFault → List ℕ
name_of NoMemory = codes "NoMemory"
name_of Scheme = codes "Scheme"
name_of Tls = codes "Tls"
name_of Host = codes "Host"
name_of Port = codes "Port"
name_of Escape = codes "Escape"
name_of NoSocket = codes "NoSocket"
name_of NotUtf8 = codes "NotUtf8"
name_of TooLong = codes "TooLong"

-- the host isn't a HOST; an address of a Unix socket has no authority at all
abbrev pub HasBadHost : Reading → Type 0
HasBadHost (tcp p) = ¬ IsHost p.host
HasBadHost (unix p) = 0 < length (authority p)
HasBadHost _ = ⊥

-- a port is written that isn't a PORT
abbrev pub HasBadPort : Reading → Type 0
HasBadPort (tcp p) = IsSomeAnd p.port (λ digits. (port : ℕ) → ¬ IsPort digits port)
HasBadPort _ = ⊥

-- a `#` stands in the address, or a `%` without two hexadecimal digits in a part that is decoded
abbrev pub HasBadEscape : Reading → Type 0
HasBadEscape (tcp p) = IsSome p.fragment ⊎ (¬ IsEscaped (written p.name))
HasBadEscape (unix p) = IsSome p.fragment ⊎ ((¬ IsEscaped (written p.name)) ⊎ (¬ IsEscaped (socket p)))
HasBadEscape _ = ⊥

-- an address of a Unix socket names none
abbrev pub LacksSocket : Reading → Type 0
LacksSocket (unix p) = socket p ≡ []
LacksSocket _ = ⊥

-- a decoded part isn't UTF-8
abbrev pub HasBadUtf8 : Reading → Type 0
HasBadUtf8 (tcp p) = ¬ IsUtf8 (percent_decode (written p.name))
HasBadUtf8 (unix p) = (¬ IsUtf8 (percent_decode (written p.name))) ⊎ (¬ IsUtf8 (percent_decode (socket p)))
HasBadUtf8 _ = ⊥

-- the host, or a decoded part, has more than 4,096 bytes
abbrev pub HasLongPart : Reading → Type 0
HasLongPart (tcp p) = (4096 < length p.host) ⊎ (4096 < length (percent_decode (written p.name)))
HasLongPart (unix p) = (4096 < length (percent_decode (written p.name))) ⊎ (4096 < length (percent_decode (socket p)))
HasLongPart _ = ⊥

-- the fault holds of what is read; want of memory says nothing of it
abbrev pub Holds : UriFault → Reading → Type 0
Holds NoMemory reading = ⊥
Holds Scheme reading = reading ≡ unknown
Holds Tls reading = reading ≡ secured
Holds Host reading = HasBadHost reading
Holds Port reading = HasBadPort reading
Holds Escape reading = HasBadEscape reading
Holds NoSocket reading = LacksSocket reading
Holds NotUtf8 reading = HasBadUtf8 reading
Holds TooLong reading = HasLongPart reading

-- the fault shows in the text as it is written, before a part is decoded
abbrev pub IsWritten : UriFault → Type 0
IsWritten fault = number_of fault < 8

-- what is read has no such fault, so that its parts are decoded
abbrev pub IsDecoded : Reading → Type 0
IsDecoded reading = (fault : UriFault) → IsWritten fault → ¬ Holds fault reading

-- the fault holds, and none with a lower number does
pub record IsLowest (fault : UriFault) (reading : Reading) : Type 0 where
  pub holds : Holds fault reading
  pub lowest : (lower : UriFault) → number_of lower < number_of fault → ¬ Holds lower reading

-- the text has the fault, and none with a lower number
pub record HasFault (text : List ℕ) (fault : UriFault) : Type 0 where
  pub reading : Reading
  pub reads : ReadsAs text reading
  pub is_lowest : IsLowest fault reading

-- why two texts could not be made of these bytes
abbrev pub TextsFault : UriFault → List ℕ → List ℕ → Type 0
TextsFault NoMemory first second = ⊤
TextsFault NotUtf8 first second = (¬ IsUtf8 first) ⊎ (¬ IsUtf8 second)
TextsFault TooLong first second = IsUtf8 first × IsUtf8 second × ((4096 < length first) ⊎ (4096 < length second))
TextsFault _ first second = ⊥
