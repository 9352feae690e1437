-- The parts of an address, as RFC 3986 cuts a URI at its marks, and what may stand in them.
use Rattle.std.specs.Prelude.{ℕ, ◌+◌, ◌<◌, ◌≤◌, ◌≡◌, ◌≢◌, ◌==◌, ◌||◌, Bool, true, IsTrue, List, [], ◌∷◌, ◌++◌, All, Option, Some, None, codes, find, length, drop, nat_eq, slice_index, unwrap_or}
use Rattle.std.specs.Char.{is_ascii_alphanumeric, is_ascii_hexdigit}
use Rattle.std.specs.List.{AllPass, slice_split, starts_with}
use Rattle.std.specs.Option.{option_map}
use Rattle.std.specs.Str.{all_ascii_digits}
use Rattle.std.specs.Str.Parse.{digits_value}
use Rattle.percent_encoding.specs.Percent.{percent_decode}
use Rattle.lnbd_model.specs.Text.{IsText}

-- the text begins with these bytes
abbrev pub Begins : List ℕ → List ℕ → Type 0
Begins front text = (rest : List ℕ) × (text ≡ front ++ rest)

-- what stands behind a scheme, each part as it is written: HOST[:PORT][/NAME][?QUERY][#FRAGMENT]
pub record Parts : Type 0 where
  pub host : List ℕ
  pub port : Option (List ℕ)
  pub name : Option (List ℕ)
  pub query : Option (List ℕ)
  pub fragment : Option (List ℕ)

-- a part behind its mark, or nothing where the part isn't there
abbrev pub led_by : ℕ → Option (List ℕ) → List ℕ
led_by mark None = []
led_by mark (Some part) = mark ∷ part

-- HOST[:PORT]
abbrev pub authority : Parts → List ℕ
authority p = p.host ++ led_by 58 p.port

-- HOST[:PORT][/NAME]
abbrev pub until_query : Parts → List ℕ
until_query p = authority p ++ led_by 47 p.name

-- HOST[:PORT][/NAME][?QUERY]
abbrev pub until_fragment : Parts → List ℕ
until_fragment p = until_query p ++ led_by 63 p.query

-- the whole
abbrev pub spelling : Parts → List ℕ
spelling p = until_fragment p ++ led_by 35 p.fragment

-- the text is the scheme and these parts, and each mark is the first of its kind: `#` ends what stands before the fragment, `?` what stands before the query, `/` the authority and `:` the host
pub record IsSpelled (scheme text : List ℕ) (p : Parts) : Type 0 where
  pub spelled : text ≡ scheme ++ spelling p
  pub fragment : All (λ c. c ≢ 35) (until_fragment p)
  pub query : All (λ c. c ≢ 63) (until_query p)
  pub name : All (λ c. c ≢ 47) (authority p)
  pub port : All (λ c. c ≢ 58) p.host

-- a part, or no bytes where it isn't there
abbrev pub written : Option (List ℕ) → List ℕ
written part = unwrap_or part []

-- a letter, a digit, `.`, `-` or `_`
abbrev pub is_host_character : ℕ → Bool
is_host_character c = is_ascii_alphanumeric c || (c == 46 || (c == 45 || c == 95))

-- HOST: one or more of these characters
abbrev pub IsHost : List ℕ → Type 0
IsHost host = (0 < length host) × AllPass is_host_character host

-- PORT: one or more decimal digits that spell a number from 1 to 65535
pub record IsPort (digits : List ℕ) (port : ℕ) : Type 0 where
  pub nonempty : 0 < length digits
  pub decimal : all_ascii_digits digits ≡ true
  pub value : digits_value 10 digits ≡ port
  pub low : 1 ≤ port
  pub high : port ≤ 65535

-- the port of an address: the one that is written, else the NBD protocol's own
abbrev pub IsPortOf : Option (List ℕ) → ℕ → Type 0
IsPortOf None port = port ≡ 10809
IsPortOf (Some digits) port = IsPort digits port

-- two hexadecimal digits stand behind the place i
abbrev pub HasDigitsBehind : List ℕ → ℕ → Type 0
HasDigitsBehind part i = IsTrue (is_ascii_hexdigit (slice_index part (i + 1))) × IsTrue (is_ascii_hexdigit (slice_index part (i + 2)))

-- each `%` has two hexadecimal digits behind it
abbrev pub IsEscaped : List ℕ → Type 0
IsEscaped part = (i : ℕ) → i < length part → slice_index part i ≡ 37 → HasDigitsBehind part i

-- a part of an address stands for this text
pub record StandsFor (part text : List ℕ) : Type 0 where
  pub escaped : IsEscaped part
  pub decoded : text ≡ percent_decode part
  pub is_text : IsText text

-- the part of a query begins with `socket=`
abbrev pub is_socket_part : List ℕ → Bool
is_socket_part part = starts_with nat_eq part (codes "socket=")

-- what stands behind `socket=` in the first of the query's parts, cut at each `&`, that begins so
abbrev pub socket_value : List ℕ → Option (List ℕ)
socket_value query = option_map (λ part. drop 7 part) (find is_socket_part (slice_split (λ c. c == 38) query))

-- the socket of an address as it is written, or no bytes where none is
abbrev pub socket : Parts → List ℕ
socket p = written (socket_value (written p.query))
