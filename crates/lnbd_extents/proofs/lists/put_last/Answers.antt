use Rattle.std.proofs.Common.{◌-◌, ap, sym, ◌∙◌, arith}
use Rattle.lnbd_model.specs.declared.export.Extent.{Extent}
use Rattle.lnbd_extents.proofs.ListLaws.{at_within, set_last, push_last, push_first}
use Rattle.lnbd_extents.proofs.lists.put_last.Goals.{else-count-gt0-via-then-count-gt0+else-index-extent, else-count-gt0-via-else-count-gt0}
use Rattle.lnbd_extents.proofs.lists.put_last.Goals as goal

pub overflow_add-index_mut : goal.overflow_add-index_mut
overflow_add-index_mut c =
    let within = at_within c.args.list.now.items c.index_mut.result.now (c.len-count.result - 1) (omega arith) in
    let is = ap (λ (extent : Extent). extent.length) c.index_mut.ensures.value in
    omega arith

pub returns-then-index-extent-clause-ok : goal.returns-then-index-extent-clause-ok
returns-then-index-extent-clause-ok c =
    set_last c.args.list.now.items c.args.extent c.index.result.now c.index_mut.result.now (c.len-count.result - 1) (omega arith) c.index.ensures c.index_mut.ensures.value c.if-index-extent.true

pub returns-clause-ok : goal.returns-clause-ok
returns-clause-ok c = elim c.else-count-gt0.branch [
  | else-count-gt0-via-then-count-gt0+else-index-extent w ↦
      c.in_ok-push.ensures.items ∙ sym (push_last c.args.list.now.items c.args.extent w.index.result.now (c.len-count.result - 1) (omega arith) w.index.ensures w.if-index-extent.false)
  | else-count-gt0-via-else-count-gt0 w ↦ c.in_ok-push.ensures.items ∙ sym (push_first c.args.list.now.items c.args.extent (omega arith))
]
