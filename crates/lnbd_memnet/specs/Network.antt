-- What stands behind served wires: the exports with their addresses, the links with their sessions, and where the schedule stands.
use Rattle.std.specs.Prelude.{◌≡◌, ℕ, ◌<◌, true, false, List, [], length, slice_index_or}
use Rattle.lnbd_model.specs.declared.target.Target.TheVariants.{Unix}
use Rattle.lnbd_link.specs.Contents.{Stored}
use Rattle.lnbd_server.specs.declared.stage.Offers.{Offers}
use Rattle.lnbd_server.specs.Session.{fresh}
use Rattle.lnbd_memnet.specs.declared.hosted.Hosted.{Hosted}
use Rattle.lnbd_memnet.specs.declared.hosted.Served.{Served}
use Rattle.lnbd_memnet.specs.declared.link.Link.{Link}
use Rattle.lnbd_memnet.specs.declared.schedule.Schedule.{Schedule}

pub record Network : Type 0 where
  pub exports : List Hosted
  -- the links in the order of their numbers
  pub links : List Link
  pub schedule : Schedule
  -- how many reads and writes there were
  pub turn : ℕ

-- Structured replies and extended headers are offered.
abbrev pub offers : Offers
offers = record { structured = true; extended = true }

-- a link that was made just now
abbrev pub new_link : (place : ℕ) → Link
new_link place = record { place = place; session = fresh offers; opened = true; read_due = false; write_due = false }

-- no link: none has this number
abbrev pub no_link : Link
no_link = record { place = 0; session = fresh offers; opened = false; read_due = false; write_due = false }

-- no export: none has this place
abbrev pub no_export : Hosted
no_export = record { at = Unix []; start = []; export = record { name = []; description = []; bytes = []; zeros = []; read_only = false } }

abbrev pub link_in : List Link → ℕ → Link
link_in links n = slice_index_or links n no_link

abbrev pub export_in : List Hosted → ℕ → Hosted
export_in exports place = slice_index_or exports place no_export

-- No two exports have one address.
abbrev pub AreApart : List Hosted → Type 0
AreApart exports = (i j : ℕ) → i < length exports → j < length exports → (export_in exports i).at ≡ (export_in exports j).at → i ≡ j

-- The export of each link is there.
abbrev pub AreHosted : List Link → ℕ → Type 0
AreHosted links count = (n : ℕ) → n < length links → (link_in links n).place < count

-- an export as the wires tell it
abbrev pub stored_of : Hosted → Stored
stored_of hosted = record { at = hosted.at; name = hosted.export.name; start = hosted.start; now = hosted.export.bytes }

-- an export as it is handed in
abbrev pub hosted_of : Served → Hosted
hosted_of served = record { at = served.at; start = served.export.bytes; export = served.export }
