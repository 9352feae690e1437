use Rattle.std.proofs.Common.{◌≡◌, nat_eq, not, ◌∙◌}
use Rattle.indexmap.specs.IndexMap.{get}
use Rattle.lnbd_inflight.specs.Done.{is_done}
use Rattle.lnbd_inflight.specs.Inside.{view_of}
use Rattle.lnbd_inflight.specs.Marks.{order_of}
use Rattle.lnbd_inflight.specs.Table.{first_undone}
use Rattle.lnbd_inflight.proofs.Firsts.{first_undone_is}
use Rattle.lnbd_inflight.proofs.Sound.{found_held, found_undone}
use Rattle.lnbd_inflight.proofs.table.Table.first_undone.Goals as goal
use Rattle.lnbd_inflight.proofs.table.Table.first_undone.Goals.{After-first_unmarked}
use Rattle.lnbd_inflight.proofs.table.Table.first_undone.Given.{Over}

first : (g : Over) (c : After-first_unmarked g) → c.first_unmarked.result ≡ first_undone (view_of c.self.inside)
first g c =
    let a = c.self.inside in
    c.first_unmarked.ensures ∙ first_undone_is a.spots (get nat_eq a.index) a.rows.items a.order.items (order_of a.done.items) c.self.invariant.placed

pub returns-clause-first : goal.returns-clause-first
returns-clause-first g c = rw (← c.self.view_is) (first g c)

pub returns-clause-held : goal.returns-clause-held
returns-clause-held g c = rw (← c.self.view_is, first g c) (found_held (λ cookie. not (is_done cookie (order_of c.self.inside.done.items))) (view_of c.self.inside).rows)

pub returns-clause-undone : goal.returns-clause-undone
returns-clause-undone g c = rw (← c.self.view_is, first g c) (found_undone (order_of c.self.inside.done.items) (view_of c.self.inside).rows)
