-- What a `Seal` owns: the same as a `Box<Session>`, or nothing.
use base.Fml.{Fml, ftrue}
use base.Stored.{Coded}
use denote.RawPtr.{Ptr}
use Rattle.std.specs.declared.option.Option.{Option}
use Rattle.std.specs.declared.option.Option.TheVariants.{None, Some}
use Rattle.std.specs.Coded.{coded_option}
use Rattle.std.specs.Box.Ownership.{box_owns}
use Rattle.std.specs.Global.{Global}
use Rattle.std_heap.specs.contracts.GlobalAllocator.TheImpl.{ghosts}
use Rattle.lnbd_session.specs.contracts.session.Session.{the_row}

abbrev pub seal_owns : Global → Ptr → Option the_row.Denot → Fml
seal_owns alloc at None = ftrue
seal_owns alloc at (Some session) = box_owns (ghosts.dealloc_token alloc) the_row at session

abbrev pub session_coded : Coded (Option the_row.Denot)
session_coded = coded_option the_row.coded
