-- How a place is spelled as an address.
use Rattle.std.specs.Prelude.{ℕ, ◌<◌, ◌≡◌, true, List, ◌++◌, All, Option, codes}
use Rattle.percent_encoding.specs.AsciiSet.{contains}
use Rattle.percent_encoding.specs.declared.ascii_set.AsciiSet.{AsciiSet}
use Rattle.percent_encoding.specs.Percent.{percent_encode}
use Rattle.lnbd_model.specs.declared.target.Place.{Place}
use Rattle.lnbd_model.specs.declared.target.Target.TheVariants.{Tcp, Unix}
use Rattle.lnbd_uri.specs.Parts.{led_by}

-- the marks that end a part, and `%` itself, are escaped
pub record EscapesMarks (set : AsciiSet) : Type 0 where
  pub percent : contains set 37 ≡ true
  pub number_sign : contains set 35 ≡ true
  pub question : contains set 63 ≡ true
  pub ampersand : contains set 38 ≡ true

-- each number fits a byte
abbrev pub IsBytes : List ℕ → Type 0
IsBytes bytes = All (λ b. b < 256) bytes

-- nbd://HOST[:PORT]/NAME, the name escaped
abbrev pub tcp_spelling : AsciiSet → List ℕ → Option (List ℕ) → List ℕ → List ℕ
tcp_spelling set host digits name = codes "nbd://" ++ host ++ led_by 58 digits ++ codes "/" ++ percent_encode set name

-- nbd+unix:///NAME?socket=PATH, both escaped
abbrev pub unix_spelling : AsciiSet → List ℕ → List ℕ → List ℕ
unix_spelling set path name = codes "nbd+unix:///" ++ percent_encode set name ++ codes "?socket=" ++ percent_encode set path

-- the export of this name at a host and a port
abbrev pub tcp_place : List ℕ → ℕ → List ℕ → Place
tcp_place host port name = record { to = Tcp host port; name = name }

-- the export of this name at the socket of this path
abbrev pub unix_place : List ℕ → List ℕ → Place
unix_place path name = record { to = Unix path; name = name }
