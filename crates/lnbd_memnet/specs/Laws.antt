-- What a transcript says of the sessions behind its links.
use Rattle.std.specs.Prelude.{◌≡◌, ℕ, ◌<◌, Bool, true, false, List, [], ◌++◌, length, take, All, Any, ◌==◌}
use Rattle.lnbd_link.specs.Call.{Call, Connect, Listen, Accept, Read, Write, Pause, Shut, ReadTold, WriteTold, Sent}
use Rattle.lnbd_link.specs.declared.wires.Want.{Want}
use Rattle.lnbd_link.specs.Traffic.{bytes_read, bytes_written}
use Rattle.lnbd_export.specs.Export.{Export}
use Rattle.lnbd_server.specs.Session.{Session, Takes, Answers, fresh}
use Rattle.lnbd_memnet.specs.declared.link.Link.{Link}
use Rattle.lnbd_memnet.specs.Network.{Network, offers, link_in, export_in}
use Rattle.lnbd_memnet.specs.Plays.{Plays, Gives, Reads, Writes, given}
use Rattle.lnbd_memnet.specs.Schedule.{step_at}
use Rattle.lnbd_memnet.specs.Wires.{Came, Played}

-- A session took the first of these bytes and gave the second, each once and in order.
pub data Lived : List ℕ → List ℕ → Session → Type 0 where
  Begins : (took gave : List ℕ) (session : Session) → took ≡ [] → gave ≡ [] → session ≡ fresh offers → Lived took gave session
  Takes_more : (took gave bytes all : List ℕ) (before after : Session) (start end : Export) → Lived took gave before → Takes before start bytes after end → all ≡ took ++ bytes → Lived all gave after
  Makes : (took gave : List ℕ) (before after : Session) (pick : ℕ) (export : Export) → Lived took gave before → Answers before pick export after → Lived took gave after
  Gives_more : (took gave all : List ℕ) (before after : Session) (n : ℕ) → Lived took gave before → after ≡ given n before → all ≡ gave ++ take n before.dialogue.out → Lived took all after

-- What the transcript says of a link is what its session took and gave.
abbrev pub LinksAreSessions : Type 0
LinksAreSessions = (calls : List Call) (network : Network) (n : ℕ) → Came calls network → Lived (bytes_written n calls) (bytes_read n calls) (link_in network.links n).session

-- it is a read of this link, a write on it
abbrev pub reads_on : ℕ → Call → Bool
reads_on n (Read link room answer) = link == n
reads_on n (Write link offered answer) = false
reads_on n (Connect to link) = false
reads_on n (Listen at listener) = false
reads_on n (Accept listener answer) = false
reads_on n (Pause wants) = false
reads_on n (Shut link) = false

abbrev pub writes_on : ℕ → Call → Bool
writes_on n (Write link offered answer) = link == n
writes_on n (Read link room answer) = false
writes_on n (Connect to link) = false
writes_on n (Listen at listener) = false
writes_on n (Accept listener answer) = false
writes_on n (Pause wants) = false
writes_on n (Shut link) = false

-- A pause wanted this link, which was there, and these calls came after it.
pub record WasWanted (n : ℕ) (calls : List Call) (network : Network) : Type 0 where
  pub before : Network
  pub paused : Network
  pub wants : List Want
  pub there : n < length before.links
  pub wanted : Any (λ (want : Want). want.link ≡ n) wants
  pub pauses : Plays before (Pause wants) paused
  pub played : Played paused calls network

-- The first read on it after the pause moves as its step says, whatever the schedule says of it: a link that is open isn't shut out.
abbrev pub ReadsAreLetIn : Type 0
ReadsAreLetIn = (n room : ℕ) (calls : List Call) (network after : Network) (answer : ReadTold) → WasWanted n calls network → All (λ call. reads_on n call ≡ false) calls →
    (link_in network.links n).opened ≡ true → Reads network n room answer after →
    (link : Link) × Gives (step_at network.schedule network.turn) room (export_in network.exports (link_in network.links n).place).export (link_in network.links n) answer link

-- So does the first write: bytes are taken.
abbrev pub WritesAreLetIn : Type 0
WritesAreLetIn = (n offered : ℕ) (calls : List Call) (network after : Network) (answer : WriteTold) → WasWanted n calls network → All (λ call. writes_on n call ≡ false) calls →
    (link_in network.links n).opened ≡ true → Writes network n offered answer after → (bytes : List ℕ) × (answer ≡ Sent bytes)
