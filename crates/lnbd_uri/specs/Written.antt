-- The parts and readings that the code works on, as lists of bytes.
use Rattle.std.specs.Prelude.{option_copied}
use Rattle.lnbd_uri.specs.Address.{Reading, unknown, secured, tcp, unix}
use Rattle.lnbd_uri.specs.Parts.{Parts}
use Rattle.lnbd_uri.specs.declared.address.Address.{Address}
use Rattle.lnbd_uri.specs.declared.address.Address.TheVariants.{Unknown, Secured, Tcp, Unix}
use Rattle.lnbd_uri.specs.declared.parts.Parts as code

-- the bytes of the parts
abbrev pub parts_of : code.Parts → Parts
parts_of p = record {
  host = p.host.now;
  port = option_copied p.port;
  name = option_copied p.name;
  query = option_copied p.query;
  fragment = option_copied p.fragment;
}

-- what the code reads a text as
abbrev pub reading_of : Address → Reading
reading_of Unknown = unknown
reading_of Secured = secured
reading_of (Tcp p) = tcp (parts_of p)
reading_of (Unix p) = unix (parts_of p)
