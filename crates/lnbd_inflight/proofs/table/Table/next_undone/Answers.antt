use Rattle.std.proofs.Common.{◌≡◌, nat_eq, nat_lt, not, ◌&&◌, ap, ◌∙◌}
use Rattle.indexmap.specs.IndexMap.{get}
use Rattle.lnbd_inflight.specs.Done.{is_done}
use Rattle.lnbd_inflight.specs.Inside.{view_of}
use Rattle.lnbd_inflight.specs.Marks.{order_of}
use Rattle.lnbd_inflight.specs.Places.{first_waiting}
use Rattle.lnbd_inflight.specs.Table.{next_undone}
use Rattle.lnbd_inflight.proofs.Firsts.{next_undone_is}
use Rattle.lnbd_inflight.proofs.Sound.{found_held, found_above, found_undone_above}
use Rattle.lnbd_inflight.proofs.table.Table.next_undone.Goals as goal
use Rattle.lnbd_inflight.proofs.table.Table.next_undone.Goals.{After-first_unmarked}
use Rattle.lnbd_inflight.proofs.table.Table.next_undone.Given.{Over}

next : (g : Over) (c : After-first_unmarked g) → c.first_unmarked.result ≡ next_undone c.args.above (view_of c.self.inside)
next g c =
    let a = c.self.inside in
    c.first_unmarked.ensures ∙ ap (first_waiting a.spots) c.place_above-from.ensures
    ∙ next_undone_is a.spots (get nat_eq a.index) a.rows.items a.order.items (order_of a.done.items) c.self.invariant.placed c.args.above

pub place_above-from-requires : goal.place_above-from-requires
place_above-from-requires g c = c.self.invariant.placed.ordered.rising

pub returns-clause-first : goal.returns-clause-first
returns-clause-first g c = rw (← c.self.view_is) (next g c)

pub returns-clause-above : goal.returns-clause-above
returns-clause-above g c = rw (next g c) (found_above c.args.above (order_of c.self.inside.done.items) (view_of c.self.inside).rows)

pub returns-clause-held : goal.returns-clause-held
returns-clause-held g c = rw (← c.self.view_is, next g c) (found_held (λ cookie. nat_lt c.args.above cookie && not (is_done cookie (order_of c.self.inside.done.items))) (view_of c.self.inside).rows)

pub returns-clause-undone : goal.returns-clause-undone
returns-clause-undone g c = rw (← c.self.view_is, next g c) (found_undone_above c.args.above (order_of c.self.inside.done.items) (view_of c.self.inside).rows)
