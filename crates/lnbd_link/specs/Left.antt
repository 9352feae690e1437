-- What a link of a list has left, and what it answers next.
use Rattle.std.specs.Prelude.{ℕ, Bool, false, nat_lt, ◌==◌, if◌then◌else◌, List, [], ◌∷◌, take, drop, length}
use Rattle.lnbd_link.specs.declared.left.ReadAnswer.{ReadAnswer}
use Rattle.lnbd_link.specs.declared.left.ReadAnswer.TheVariants as read
use Rattle.lnbd_link.specs.declared.left.WriteAnswer.{WriteAnswer}
use Rattle.lnbd_link.specs.declared.left.WriteAnswer.TheVariants as write
use Rattle.lnbd_link.specs.declared.left.ListLink.{ListLink}
use Rattle.lnbd_link.specs.Call.{ReadTold, Moved, Unready, Ended, ReadFault, WriteTold, Sent, Full, WriteFault}

-- a link in memory: whether its connect fails, and the answers that its reads and writes have left
pub record LinkLeft : Type 0 where
  pub fails : Bool
  pub reads : List ReadAnswer
  pub writes : List WriteAnswer

-- a link as it is handed in
abbrev pub link_of : ListLink → LinkLeft
link_of link = record { fails = link.fails; reads = link.reads.items; writes = link.writes.items }

-- an answer without its first n bytes
abbrev pub cut : ℕ → ReadAnswer → ReadAnswer
cut n (read.Bytes bytes) = read.Bytes (drop n bytes)
cut n read.NotReady = read.NotReady
cut n read.End = read.End
cut n read.Failed = read.Failed

-- it has more bytes than so many
abbrev pub is_longer : ReadAnswer → ℕ → Bool
is_longer (read.Bytes bytes) room = nat_lt room (length bytes)
is_longer read.NotReady room = false
is_longer read.End room = false
is_longer read.Failed room = false

-- what a read of so many bytes at most tells by it
abbrev pub told_of : ReadAnswer → ℕ → ReadTold
told_of (read.Bytes bytes) room = if nat_lt 0 (length bytes) then Moved (take room bytes) else ReadFault
told_of read.NotReady room = Unready
told_of read.End room = Ended
told_of read.Failed room = ReadFault

-- the answers that are left, where so many of the first one's bytes were given
abbrev pub reads_from : ℕ → List ReadAnswer → List ReadAnswer
reads_from given [] = []
reads_from given (answer ∷ rest) = cut given answer ∷ rest

-- a read is answered by the first answer that is left, and after the last by End
abbrev pub next_read : List ReadAnswer → ℕ → ReadTold
next_read [] room = Ended
next_read (answer ∷ rest) room = told_of answer room

-- what is left after it: bytes that didn't fit come first
abbrev pub reads_left : List ReadAnswer → ℕ → List ReadAnswer
reads_left [] room = []
reads_left (answer ∷ rest) room = if is_longer answer room then cut room answer ∷ rest else rest

-- what a write tells by an answer
abbrev pub written_of : WriteAnswer → List ℕ → WriteTold
written_of (write.AtMost most) from = if most == 0 then WriteFault else Sent (take most from)
written_of write.NotReady from = Full
written_of write.Failed from = WriteFault

-- a write is answered by the first answer that is left, and after the last all is taken
abbrev pub next_write : List WriteAnswer → List ℕ → WriteTold
next_write [] from = Sent from
next_write (answer ∷ rest) from = written_of answer from

-- what is left after it
abbrev pub writes_left : List WriteAnswer → List WriteAnswer
writes_left [] = []
writes_left (answer ∷ rest) = rest
