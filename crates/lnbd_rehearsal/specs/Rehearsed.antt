-- A copy that was rehearsed: the two exports that it was between, and what they hold afterwards.
use Rattle.std.specs.Prelude.{◌≡◌, ◌<◌, ◌∷◌, ℕ, List, [], Some, false, true, codes, get_or, length, replicate}
use Rattle.lnbd_model.specs.declared.target.Place.{Place}
use Rattle.lnbd_model.specs.declared.target.Target.TheVariants.{Unix}
use Rattle.lnbd_link.specs.Call.{Call}
use Rattle.lnbd_link.specs.Contents.{Stored}
use Rattle.lnbd_plan.specs.declared.options.CopyOptions.{CopyOptions}
use Rattle.lnbd_plan.specs.declared.summary.Summary.{Summary}
use Rattle.lnbd_course.specs.Copied.{Copied}
use Rattle.lnbd_conduct.specs.Made.{IsMade}
use Rattle.lnbd_export.specs.Export.{Export}
use Rattle.lnbd_conduct.specs.Conduct.{Conducts}
use Rattle.lnbd_export.specs.Generated.{IsGenerated, byte_at}
use Rattle.lnbd_memnet.specs.Network.{Network, hosted_of}
use Rattle.lnbd_memnet.specs.Wires.{Begins, Came, Played, Served, contents_of}
use Rattle.lnbd_memnet.specs.declared.hosted.Served.{Served as Handed}
use Rattle.lnbd_memnet.specs.declared.schedule.Schedule.TheVariants.{Seeded}
use Rattle.lnbd_rehearsal.specs.Carrying.{BytesAreMoved}
use Rattle.lnbd_rehearsal.specs.Sums.{sums_of}

abbrev pub source_name : List ℕ
source_name = codes "source"

abbrev pub destination_name : List ℕ
destination_name = codes "destination"

-- the export of this name, at the socket that is called so
abbrev pub place_of : List ℕ → Place
place_of name = record { to = Unix name; name = name }

-- The export from which is copied, at the socket that is called as it is: at first it holds the bytes that the seed gives.
pub record IsSource (seed n : ℕ) (stored : Stored) : Type 0 where
  pub at : stored.at ≡ Unix source_name
  pub name : stored.name ≡ source_name
  pub size : length stored.start ≡ n
  pub bytes : (p : ℕ) → p < n → get_or stored.start p 0 ≡ byte_at seed p

-- The export to which is copied, likewise: at first it holds as many bytes 0xff.
pub record IsDestination (n : ℕ) (stored : Stored) : Type 0 where
  pub at : stored.at ≡ Unix destination_name
  pub name : stored.name ≡ destination_name
  pub bytes : stored.start ≡ replicate n 255

-- An export that holds so many bytes 0xff, of which it tells none as zero. It has no description, and may be written.
pub record IsNoise (n : ℕ) (export : Export) : Type 0 where
  pub name : export.name ≡ destination_name
  pub description : export.description ≡ []
  pub bytes : export.bytes ≡ replicate n 255
  pub zeros : export.zeros ≡ replicate n false
  pub read_only : export.read_only ≡ false

-- These two stand behind the wires, and no others: an export that the seed gives, whose zero blocks are told as zero and no other bytes, and one of as many bytes 0xff. Both may be written.
pub record IsSetUp (seed n : ℕ) (network : Network) : Type 0 where
  pub source : Handed
  pub destination : Handed
  pub exports : network.exports ≡ hosted_of source ∷ hosted_of destination ∷ []
  pub from : source.at ≡ Unix source_name
  pub generated : IsGenerated source_name seed n false source.export
  pub to : destination.at ≡ Unix destination_name
  pub noise : IsNoise n destination.export

-- what a copy is asked for where its words name no option
abbrev pub usual : CopyOptions
usual = record { connections = 4; requests = 64; request_size = 262144; sparse = 4096; extents = true; allocated = false; destination_is_zero = false; flush = false }

-- These two stand behind the wires, which began with what the seed gives and tell all that was called, and by that nbdcopy copied from one to the other as it does where no option is given; the source is as it was, the
-- destination holds the same, and the sums are those of the source's blocks. Between two pauses bytes were moved.
pub record HasRehearsed (seed n : ℕ) (summary : Summary) (wires : Served) : Type 0 where
  pub source : Stored
  pub destination : Stored
  pub contents : contents_of wires ≡ Some (source ∷ destination ∷ [])
  pub from : IsSource seed n source
  pub to : IsDestination n destination
  pub shorts : wires.shorts ≡ 0
  -- the seed says of each read and write what it moves, and which reply is made first
  pub seeded : wires.network.schedule ≡ Seeded seed
  pub came : Came wires.calls wires.network
  pub set_up : IsSetUp seed n came.first
  pub copied : Copied (place_of source_name) (place_of destination_name) false wires.calls
  pub made : IsMade usual (place_of source_name) (place_of destination_name) summary wires.calls
  pub kept : source.now ≡ source.start
  pub equal : destination.now ≡ source.start
  pub sums : summary ≡ sums_of seed source.start
  -- and they conduct such a copy
  pub conducts : Conducts usual (place_of source_name) (place_of destination_name) wires.calls
  pub moved : BytesAreMoved wires.calls

-- By these calls the network came from such a beginning.
pub record CameFrom (seed n : ℕ) (calls : List Call) (network : Network) : Type 0 where
  pub first : Network
  pub set_up : IsSetUp seed n first
  pub begins : Begins first
  pub played : Played first calls network

-- the wires of a rehearsal, and the numbers from which their exports were made
pub record Staged : Type 0 where
  pub wires : Served
  pub seed : ℕ
  pub size : ℕ
