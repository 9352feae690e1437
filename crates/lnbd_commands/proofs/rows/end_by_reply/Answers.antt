use Rattle.std.proofs.Common.{◌≡◌, Some, refl, sym, ◌∙◌, ap}
use Rattle.std.specs.Option.{option_copied_mut}
use Rattle.lnbd_keyed.specs.Keyed.{value_at}
use Rattle.lnbd_commands.proofs.CompleteLemmas.{completed_held, completed_empty, completed_table}
use Rattle.lnbd_commands.proofs.RowLemmas.{with_value_same}
use Rattle.lnbd_commands.proofs.rows.end_by_reply.Goals as goal

pub settle-requires-clause-held : goal.settle-requires-clause-held
settle-requires-clause-held g c =
    let here : value_at c.args.cookie c.args.table.now.rows ≡ Some c.in-Some.row.now = sym c.get_mut.follows ∙ ap option_copied_mut c.in-Some.is in
    let done = c.complete-kept.ensures in
    completed_held c.args.cookie done.0 c.in-Ok.landed.failure c.in-Some.row.now c.land_reply.new.self c.complete-kept.new.self c.args.table.now.rows here c.in-Ok.ensures.row done.2

pub settle-requires-clause-empty : goal.settle-requires-clause-empty
settle-requires-clause-empty g c =
    let here : value_at c.args.cookie c.args.table.now.rows ≡ Some c.in-Some.row.now = sym c.get_mut.follows ∙ ap option_copied_mut c.in-Some.is in
    let done = c.complete-kept.ensures in
    completed_empty c.args.cookie done.0 c.in-Ok.landed.failure c.in-Some.row.now c.land_reply.new.self c.complete-kept.new.self c.args.table.now.rows here c.in-Ok.ensures.row done.2

pub returns-in-Ok-clause-ends : goal.returns-in-Ok-clause-ends
returns-in-Ok-clause-ends g c =
    let here : value_at c.args.cookie c.args.table.now.rows ≡ Some c.in-Some.row.now = sym c.get_mut.follows ∙ ap option_copied_mut c.in-Some.is in
    let done = c.complete-kept.ensures in
    rw here (record {
      landing = c.in-Ok.landed;
      told = c.land_reply.new.desk.log;
      between = c.land_reply.new.world;
      lands = c.in-Ok.ensures.lands;
      completes = record {
        verdict = done.0;
        table = completed_table c.args.cookie done.0 c.in-Ok.landed.failure c.in-Some.row.now c.land_reply.new.self c.complete-kept.new.self c.args.table.now.rows here c.in-Ok.ensures.row done.2 c.complete-kept.result c.args.table.now.done c.settle.new.table done.1 c.settle.ensures;
        log = done.3;
        calls = done.4;
        freed = c.count-freed.ensures;
      };
    })

pub returns-in-Err-clause-err_table : goal.returns-in-Err-clause-err_table
returns-in-Err-clause-err_table g c =
    let here : value_at c.args.cookie c.args.table.now.rows ≡ Some c.in-Some.row.now = sym c.get_mut.follows ∙ ap option_copied_mut c.in-Some.is in
    rw (c.in-Err.ensures.err_row, with_value_same c.args.cookie c.in-Some.row.now c.args.table.now.rows here) refl
