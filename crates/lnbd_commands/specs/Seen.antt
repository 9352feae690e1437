-- What plain values stand for.
use Rattle.std.specs.Prelude.{Option, Some, None}
use Rattle.lnbd_outcome.specs.Hearing.{Hearing, Chunk, Extents}
use Rattle.lnbd_commands.specs.declared.flight.Hearing.{Hearing as ToldTo}
use Rattle.lnbd_commands.specs.declared.flight.Hearing.TheVariants as to

-- what a callback is told, if it is told something
abbrev pub told_to : ToldTo → Option Hearing
told_to to.Nothing = None
told_to (to.Chunk bytes offset status error) = Some (Chunk bytes.now offset status error)
told_to (to.Extents context offset entries error) = Some (Extents context.now offset entries.now error)
