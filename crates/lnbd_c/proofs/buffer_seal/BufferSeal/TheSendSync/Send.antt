-- A seal may go to another thread, since a buffer and the right to free its block may.
use mir.Raw.{raw}
use denote.Memory.{lone}
use denote.RawPtr.{Ptr}
use denote.Struct.Struct.{exits_of}
use denote.Struct.Owning.{shape, fields, to}
use base.Shift.{Keyless}
use denote.Param.Send.{IsSend, AllSend, owning_send, struct_send, sendable}
use Rattle.std.specs.Global.{Global}
use Rattle.std.specs.declared.option.Option.{Option}
use Rattle.std.specs.declared.option.Option.TheVariants.{None, Some}
use Rattle.std.proofs.Crossing as heap
use Rattle.std_alloc.proofs.SendSync.{quiet, lies}
use Rattle.std_heap.proofs.Global.TheSendSync as handle
use Rattle.lnbd_session.specs.contracts.buffer.Buffer as Held
use Rattle.lnbd_session.proofs.buffer.Buffer.TheSendSync.{the_send as held}
use Rattle.lnbd_c.specs.BufferSealing.{buffer_owns}
use Rattle.lnbd_c.specs.contracts.buffer_seal.BufferSeal.{the_row, the_type}

crosses : (a : Global) (at : Ptr) (o : Option Held.the_row.Denot) → Keyless (buffer_owns a at o)
crosses a at None = tt
crosses a at (Some x) = (lies Held.the_row held at x, heap.frees.frees a (raw (lone Held.the_row.mir)) at)

pub send : IsSend the_row
send =
    let all : AllSend (fields the_type) = (search sendable, (handle.the_field_send, tt)) in
    owning_send the_type all (λ d. crosses d.alloc d.at d.held)
    (λ k. quiet (to the_type) (exits_of k (fields the_type)) ((struct_send (shape the_type) all).leaving k))
