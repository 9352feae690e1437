use Rattle.std.proofs.Common.{◌≡◌, Some, sym, ◌∙◌, ap}
use Rattle.std.specs.Option.{option_copied_mut}
use Rattle.lnbd_keyed.specs.Keyed.{value_at}
use Rattle.lnbd_commands.proofs.CompleteLemmas.{completed_held, completed_empty, completed_table}
use Rattle.lnbd_commands.proofs.rows.end_by_loss.Goals as goal

pub settle-requires-clause-held : goal.settle-requires-clause-held
settle-requires-clause-held g c =
    let here : value_at c.args.cookie c.args.table.now.rows ≡ Some c.in-Some.row.now = sym c.get_mut.follows ∙ ap option_copied_mut c.in-Some.is in
    let done = c.complete-kept.ensures in
    completed_held c.args.cookie done.0 c.land_lost-landed.result.failure c.in-Some.row.now c.land_lost-landed.new.self c.complete-kept.new.self c.args.table.now.rows here c.land_lost-landed.ensures.row done.2

pub settle-requires-clause-empty : goal.settle-requires-clause-empty
settle-requires-clause-empty g c =
    let here : value_at c.args.cookie c.args.table.now.rows ≡ Some c.in-Some.row.now = sym c.get_mut.follows ∙ ap option_copied_mut c.in-Some.is in
    let done = c.complete-kept.ensures in
    completed_empty c.args.cookie done.0 c.land_lost-landed.result.failure c.in-Some.row.now c.land_lost-landed.new.self c.complete-kept.new.self c.args.table.now.rows here c.land_lost-landed.ensures.row done.2

pub returns : goal.returns
returns g c =
    let here : value_at c.args.cookie c.args.table.now.rows ≡ Some c.in-Some.row.now = sym c.get_mut.follows ∙ ap option_copied_mut c.in-Some.is in
    let done = c.complete-kept.ensures in
    rw here (record {
      landing = c.land_lost-landed.result;
      lost = c.land_lost-landed.ensures.landed;
      flight = c.land_lost-landed.ensures.flight;
      completes = record {
        verdict = done.0;
        table = completed_table c.args.cookie done.0 c.land_lost-landed.result.failure c.in-Some.row.now c.land_lost-landed.new.self c.complete-kept.new.self c.args.table.now.rows here c.land_lost-landed.ensures.row done.2 c.complete-kept.result c.args.table.now.done c.settle.new.table done.1 c.settle.ensures;
        log = done.3;
        calls = done.4;
        freed = c.count-freed.ensures;
      };
    })
