-- No WRITE contains a block of zeros that was found.
use Rattle.std.proofs.Common.{◌≡◌, List, sym, subst, ◌∙◌}
use Rattle.lnbd_model.specs.declared.kind.Kind.{Kind}
use Rattle.lnbd_model.specs.declared.kind.Kind.TheVariants.{Flush, Write}
use Rattle.lnbd_history.specs.Commands.{Command}
use Rattle.lnbd_asked.specs.Link.{Nobody}
use Rattle.lnbd_plan.specs.declared.grid.Slice.{Slice}
use Rattle.lnbd_board.specs.declared.how.How.{How}
use Rattle.lnbd_board.specs.declared.ticket.Ticket.{Ticket}
use Rattle.lnbd_board.specs.declared.ticket.Ticket.TheVariants as ticket
use Rattle.lnbd_board.specs.Pieces.{IsDense}
use Rattle.lnbd_board.specs.Requests.{Request}
use Rattle.lnbd_board.specs.Rows.{AsksOfDestination}
use Rattle.lnbd_board.proofs.Lists.{in_each}
use Rattle.lnbd_course.specs.Course.{beside, on_side}
use Rattle.lnbd_course.specs.Spares.{EndedAreDense}
use Rattle.lnbd_course.proofs.Ending.{destination_dealt, out_in}
use Rattle.lnbd_course.proofs.Placed.{links_are_of_sides}

no_write : (kind : Kind) → kind ≡ Flush → kind ≡ Write → ⊥
no_write kind one other = let e = sym one ∙ other in absurd (cc e)

pub dense_of : (how : How) (slices : List Slice) (by : Ticket) (command : Command Nobody) → AsksOfDestination how slices by command → IsDense how command
dense_of how slices (ticket.Slice n) command asks = asks.2
dense_of how slices ticket.Extents command asks = absurd asks
dense_of how slices ticket.Flush command asks = λ finds writes. absurd (no_write command.kind asks.0 writes)

pub ended_are_dense : EndedAreDense
ended_are_dense from to size how has slices now calls b well two link cookie command asks =
    let law = links_are_of_sides from to size how has slices now calls b two in
    let dealt = destination_dealt from to how has slices now calls b.course law.0 in
    let u = dealt.only link cookie command asks in
    let stands = b.course.stood.stands well in
    subst (IsDense how) u.asks (dense_of how slices u.request.ticket u.request.said.command
    (in_each (λ (r : Request). AsksOfDestination how slices r.ticket r.said.command) u.request b.course.stood.destination (out_in (on_side (beside has) b.course.histories) u.request b.course.stood.destination u.within).0 stands.changes))
