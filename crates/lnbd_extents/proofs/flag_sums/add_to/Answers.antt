use Rattle.std.proofs.Common.{rules, ◌≡◌, ◌∙◌, None, arith}
use Rattle.std.specs.List.{insert}
use Rattle.lnbd_keyed.specs.Keyed.{value_at}
use Rattle.lnbd_extents.proofs.TotalLaws.{row_value, row_set, row_insert}
use Rattle.lnbd_extents.proofs.flag_sums.add_to.Goals as goal

pub overflow_add-index_mut : goal.overflow_add-index_mut
overflow_add-index_mut c =
    let is = row_value c.args.rows.now.items c.deref.result.now c.args.flags c.in-Some.at c.index_mut.result.now c.deref.ensures.value c.in-Some.ensures.held c.in-Some.ensures.place c.index_mut.ensures.value in
    let room = c.requires.room in
    omega arith

pub returns-in-Some-clause-ok : goal.returns-in-Some-clause-ok
returns-in-Some-clause-ok c =
    row_set c.args.rows.now.items c.deref.result.now c.args.flags c.in-Some.at c.args.length c.index_mut.result.now c.deref.ensures.value c.requires.rising c.in-Some.ensures.held c.in-Some.ensures.place c.index_mut.ensures.value

pub returns-clause-ok : goal.returns-clause-ok
returns-clause-ok c =
    let none : value_at c.args.flags c.deref.result.now ≡ None = search rules in
    let put : c.insert.new.self.items ≡ insert c.args.rows.now.items c.rank_of-at.result (c.args.flags, c.args.length) = search rules in
    put ∙ row_insert c.args.rows.now.items c.deref.result.now c.deref-2.result.now c.args.flags c.rank_of-at.result c.args.length c.deref.ensures.value c.deref-2.ensures.value c.requires.rising none c.rank_of-at.ensures.rank
