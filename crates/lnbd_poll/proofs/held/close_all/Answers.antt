use Rattle.std.proofs.Common.{◌≡◌, ◌++◌, ◌∷◌, [], ◌∙◌, ap, arith, length}
use Rattle.std.proofs.lemmas.List.Elements.{All-append, All-cons, All-nil}
use Rattle.std.specs.Prelude.{option_to_list}
use Rattle.std.specs.Vec.Iter.{into_iter_items}
use Rattle.lnbd_commands.specs.declared.close.Closed.{Closed}
use Rattle.lnbd_poll.specs.Held.{all_held, seen_held}
use Rattle.lnbd_poll.proofs.HeldLemmas.{closing_done, closing_on, held_length, none_left}
use Rattle.lnbd_poll.proofs.held.close_all.Goals as goal

pub handles-preserved : goal.handles-preserved
handles-preserved g c =
    let first = c.next.ensures.items ∙ ap (λ o. option_to_list o ++ into_iter_items c.next.new.self) c.in-Some.is in
    let one = ap (λ o. length (option_to_list o)) c.in-Some.is in
    let long = ap length first in
    record {
      closing = λ seen at. rw c.push_reserved.ensures.items (closing_on g.K.Caller.steps seen _ _ _ (all_held (into_iter_items c.handles.left)) (all_held (into_iter_items c.next.new.self)) (seen_held c.in-Some.held) c.handles.closed.items c.close.result (c.handles.invariant.closing seen at) (ap all_held first) c.close.ensures.stands);
      lens = omega (arith, one, long, c.next.ensures.len, c.handles.invariant.lens);
      count = omega (arith, one, c.next.ensures.len, c.push_reserved.ensures.len, c.handles.invariant.count);
      room = omega (arith, c.push_reserved.ensures.capacity, c.handles.invariant.room);
      equal = rw c.push_reserved.ensures.items (All-append (λ (closed : Closed). closed.opened ≡ closed.freed) c.handles.closed.items (c.close.result ∷ []) c.handles.invariant.equal (All-cons (λ (closed : Closed). closed.opened ≡ closed.freed) c.close.result [] c.close.ensures.equal (All-nil (λ (closed : Closed). closed.opened ≡ closed.freed))));
    }

pub returns-clause-closes : goal.returns-clause-closes
returns-clause-closes g c seen at = closing_done g.K.Caller.steps seen _ _ (all_held (into_iter_items c.handles.left)) c.handles.closed.items (c.handles.invariant.closing seen at) (omega (arith, held_length (into_iter_items c.handles.left), c.handles.invariant.lens, none_left _ c.next.result c.in_default.is c.next.ensures.variant))
