-- The answers of links, sources and sinks, by cases.
use Rattle.std.specs.Prelude.{ℕ, List, [], take}
use Rattle.lnbd_link.specs.declared.wires.Got.{Got}
use Rattle.lnbd_link.specs.declared.wires.Got.TheVariants as got
use Rattle.lnbd_link.specs.declared.wires.Took.{Took}
use Rattle.lnbd_link.specs.declared.wires.Took.TheVariants as took
use Rattle.lnbd_link.specs.declared.wires.Accepted.{Accepted}
use Rattle.lnbd_link.specs.declared.wires.Accepted.TheVariants as accepted
use Rattle.lnbd_link.specs.declared.source.SourceGot.{SourceGot}
use Rattle.lnbd_link.specs.declared.source.SourceGot.TheVariants as source
use Rattle.lnbd_link.specs.declared.sink.SinkTook.{SinkTook}
use Rattle.lnbd_link.specs.declared.sink.SinkTook.TheVariants as sink

-- a fact of the count of bytes that were read
abbrev pub IfMoved : Got → (ℕ → Type 0) → Type 0
IfMoved (got.Bytes n) P = P n
IfMoved got.NotReady P = Unit {0}
IfMoved got.End P = Unit {0}
IfMoved got.Failed P = Unit {0}

-- the read failed
abbrev pub ReadFailed : Got → Type 0
ReadFailed got.Failed = Unit {0}
ReadFailed got.End = ⊥
ReadFailed got.NotReady = ⊥
ReadFailed (got.Bytes n) = ⊥

-- a fact of the count of bytes that were taken
abbrev pub IfSent : Took → (ℕ → Type 0) → Type 0
IfSent (took.Bytes n) P = P n
IfSent took.NotReady P = Unit {0}
IfSent took.Failed P = Unit {0}

-- the write failed
abbrev pub WriteFailed : Took → Type 0
WriteFailed took.Failed = Unit {0}
WriteFailed took.NotReady = ⊥
WriteFailed (took.Bytes n) = ⊥

-- a fact of the number of the new link
abbrev pub IfLink : Accepted → (ℕ → Type 0) → Type 0
IfLink (accepted.Link n) P = P n
IfLink accepted.NotReady P = Unit {0}
IfLink accepted.Failed P = Unit {0}

-- the accept failed
abbrev pub AcceptFailed : Accepted → Type 0
AcceptFailed accepted.Failed = Unit {0}
AcceptFailed accepted.NotReady = ⊥
AcceptFailed (accepted.Link n) = ⊥

-- a fact of the count of bytes that a source gave
abbrev pub IfSourced : SourceGot → (ℕ → Type 0) → Type 0
IfSourced (source.Bytes n) P = P n
IfSourced source.End P = Unit {0}
IfSourced source.Failed P = Unit {0}

-- the source has ended
abbrev pub SourceEnded : SourceGot → Type 0
SourceEnded source.End = Unit {0}
SourceEnded source.Failed = ⊥
SourceEnded (source.Bytes n) = ⊥

-- the source failed
abbrev pub SourceFailed : SourceGot → Type 0
SourceFailed source.Failed = Unit {0}
SourceFailed source.End = ⊥
SourceFailed (source.Bytes n) = ⊥

-- a fact unless the source failed
abbrev pub UnlessFailed : SourceGot → Type 0 → Type 0
UnlessFailed (source.Bytes n) P = P
UnlessFailed source.End P = P
UnlessFailed source.Failed P = Unit {0}

-- the bytes that a source gave, at the front of the slice
abbrev pub sourced_of : SourceGot → List ℕ → List ℕ
sourced_of (source.Bytes n) into = take n into
sourced_of source.End into = []
sourced_of source.Failed into = []

-- a fact of the count of bytes that a sink took
abbrev pub IfSunk : SinkTook → (ℕ → Type 0) → Type 0
IfSunk (sink.Bytes n) P = P n
IfSunk sink.Failed P = Unit {0}

-- the sink failed
abbrev pub SinkFailed : SinkTook → Type 0
SinkFailed sink.Failed = Unit {0}
SinkFailed (sink.Bytes n) = ⊥

-- the bytes that a sink took, from the front
abbrev pub sunk_of : SinkTook → List ℕ → List ℕ
sunk_of (sink.Bytes n) from = take n from
sunk_of sink.Failed from = []
