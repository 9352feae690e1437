-- What was seen in some bytes, as the code says it.
use Rattle.std.specs.Prelude.{◌≡◌, ℕ, ◌+◌, ◌≤◌, List, length, take, drop, Option, Some, None}
use Rattle.lnbd_model.specs.declared.kind.Kind.TheVariants.{Write}
use Rattle.lnbd_server.specs.declared.client.Seen.{Seen}
use Rattle.lnbd_server.specs.declared.client.Seen.TheVariants as seen
use Rattle.lnbd_server.specs.Client.{Flags, OptionRequest, Asks, Disconnect, Heard, heard, stray}

abbrev pub heard_of : Seen → List ℕ → Option Heard
heard_of seen.Nothing bytes = None
heard_of (seen.Flags flags) bytes = heard 4 (Flags flags)
heard_of (seen.OptionRequest option n) bytes = heard (16 + n) (OptionRequest option (take n (drop 16 bytes)))
heard_of (seen.Asks request head n) bytes = heard (head + n) (Asks request (take n (drop head bytes)))
heard_of (seen.Disconnect size) bytes = heard size Disconnect
heard_of seen.Stray bytes = Some stray

-- The bytes of what was seen are there, and a write's data has its length.
abbrev pub IsThere : Seen → List ℕ → Type 0
IsThere seen.Nothing bytes = Unit {0}
IsThere (seen.Flags flags) bytes = 4 ≤ length bytes
IsThere (seen.OptionRequest option n) bytes = 16 + n ≤ length bytes
IsThere (seen.Asks request head n) bytes = (head + n ≤ length bytes) × (request.kind ≡ Some Write → n ≡ request.length)
IsThere (seen.Disconnect size) bytes = size ≤ length bytes
IsThere seen.Stray bytes = Unit {0}

-- how many of so many bytes are used by what was seen: all of them where nothing is whole, and where they are no client's
abbrev pub used_of : Seen → ℕ → ℕ
used_of seen.Nothing all = all
used_of (seen.Flags flags) all = 4
used_of (seen.OptionRequest option n) all = 16 + n
used_of (seen.Asks request head n) all = head + n
used_of (seen.Disconnect size) all = size
used_of seen.Stray all = all
