use Rattle.std.proofs.Common.{nat_eq, ap, sym, ◌∙◌, arith}
use Rattle.std.specs.Option.{option_map, option_copied}
use Rattle.indexmap.specs.IndexMap.{get}
use Rattle.lnbd_inflight.specs.declared.rows.Held.{Held}
use Rattle.lnbd_inflight.specs.Marks.{order_of}
use Rattle.lnbd_inflight.proofs.Changes.{value_at_kept, slot_within, slot_at}
use Rattle.lnbd_inflight.proofs.Placing.{row_of}
use Rattle.lnbd_inflight.proofs.table.Table.get.Goals as goal

pub returns-in_err-key : goal.returns-in_err-key
returns-in_err-key g c =
    let a = c.self.inside in
    rw (← c.self.view_is) (ap option_copied c.from_residual.ensures ∙ sym (value_at_kept a.spots (get nat_eq a.index) a.rows.items a.order.items (order_of a.done.items) c.self.invariant.placed c.args.cookie ∙ ap (row_of a.rows.items) (sym c.find_key.ensures ∙ c.in_err-key.was)))

pub index-requires : goal.index-requires
index-requires g c =
    let less = slot_within c.in_ok-key.key c.self.inside.rows.items (c.self.invariant.placed.filled c.args.cookie c.in_ok-key.key (sym c.find_key.ensures ∙ c.in_ok-key.was)) in
    omega (arith, c.self.inside.rows.ok.0)

pub returns-in-Some : goal.returns-in-Some
returns-in-Some g c =
    let a = c.self.inside in
    let k = c.in_ok-key.key in
    let less = slot_within k a.rows.items (c.self.invariant.placed.filled c.args.cookie k (sym c.find_key.ensures ∙ c.in_ok-key.was)) in
    let at = slot_at k c.index.result.now a.rows.items less c.index.ensures ∙ c.in-Some.is in
    rw (← c.self.view_is) (sym (value_at_kept a.spots (get nat_eq a.index) a.rows.items a.order.items (order_of a.done.items) c.self.invariant.placed c.args.cookie
    ∙ ap (row_of a.rows.items) (sym c.find_key.ensures ∙ c.in_ok-key.was) ∙ ap (option_map (λ (h : Held g.row.R.Denot). h.row)) at))

pub returns-in-None : goal.returns-in-None
returns-in-None g c =
    let a = c.self.inside in
    let k = c.in_ok-key.key in
    let less = slot_within k a.rows.items (c.self.invariant.placed.filled c.args.cookie k (sym c.find_key.ensures ∙ c.in_ok-key.was)) in
    let at = slot_at k c.index.result.now a.rows.items less c.index.ensures ∙ c.in-None.is in
    rw (← c.self.view_is) (sym (value_at_kept a.spots (get nat_eq a.index) a.rows.items a.order.items (order_of a.done.items) c.self.invariant.placed c.args.cookie
    ∙ ap (row_of a.rows.items) (sym c.find_key.ensures ∙ c.in_ok-key.was) ∙ ap (option_map (λ (h : Held g.row.R.Denot). h.row)) at))
