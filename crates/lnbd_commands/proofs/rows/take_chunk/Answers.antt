use Rattle.std.proofs.Common.{◌≡◌, Some, refl, sym, ◌∙◌, ap}
use Rattle.std.specs.Option.{option_copied_mut}
use Rattle.lnbd_keyed.specs.Keyed.{value_at}
use Rattle.lnbd_commands.specs.Rows.{landed, unanswered}
use Rattle.lnbd_commands.proofs.CompleteLemmas.{live_flight, completed_held, completed_empty, completed_table}
use Rattle.lnbd_commands.proofs.RowLemmas.{with_value_same}
use Rattle.lnbd_commands.proofs.rows.take_chunk.Goals as goal

pub complete-kept-requires-clause-live : goal.complete-kept-requires-clause-live
complete-kept-requires-clause-live g c =
    let here : value_at c.args.cookie c.args.table.now.rows ≡ Some c.in-Some.row.now = sym c.get_mut.follows ∙ ap option_copied_mut c.in-Some.is in
    let tellable = rw here at c.requires.tellable in
    let flies = sym (ap (λ r. r.flight) c.in-Ok.ensures.row) ∙ c.land_last-landed.ensures.ends.flight in
    let told = c.in-Ok.ensures.hears.log c.land_last-landed.result.flight flies in
    live_flight c.in-Some.row.now.flight c.land_last-landed.result.flight c.args.desk.now.log c.tell.new.desk.log flies (ap (λ log. log.live) told) tellable.live

pub settle-requires-clause-held : goal.settle-requires-clause-held
settle-requires-clause-held g c =
    let here : value_at c.args.cookie c.args.table.now.rows ≡ Some c.in-Some.row.now = sym c.get_mut.follows ∙ ap option_copied_mut c.in-Some.is in
    let done = c.complete-kept.ensures in
    let failure = c.land_last-landed.result.failure in
    let lands = c.land_last-landed.ensures.row ∙ ap (landed failure (unanswered failure)) c.in-Ok.ensures.row in
    completed_held c.args.cookie done.0 failure c.in-Some.row.now c.land_last-landed.new.self c.complete-kept.new.self c.args.table.now.rows here lands done.2

pub settle-requires-clause-empty : goal.settle-requires-clause-empty
settle-requires-clause-empty g c =
    let here : value_at c.args.cookie c.args.table.now.rows ≡ Some c.in-Some.row.now = sym c.get_mut.follows ∙ ap option_copied_mut c.in-Some.is in
    let done = c.complete-kept.ensures in
    let failure = c.land_last-landed.result.failure in
    let lands = c.land_last-landed.ensures.row ∙ ap (landed failure (unanswered failure)) c.in-Ok.ensures.row in
    completed_empty c.args.cookie done.0 failure c.in-Some.row.now c.land_last-landed.new.self c.complete-kept.new.self c.args.table.now.rows here lands done.2

pub returns-else-not-last-clause-ends : goal.returns-else-not-last-clause-ends
returns-else-not-last-clause-ends g c = λ last.
    let here : value_at c.args.cookie c.args.table.now.rows ≡ Some c.in-Some.row.now = sym c.get_mut.follows ∙ ap option_copied_mut c.in-Some.is in
    let done = c.complete-kept.ensures in
    let failure = c.land_last-landed.result.failure in
    let lands = c.land_last-landed.ensures.row ∙ ap (landed failure (unanswered failure)) c.in-Ok.ensures.row in
    rw here (record {
      heard = c.in-Ok.heard;
      landing = c.land_last-landed.result;
      told = c.tell.new.desk.log;
      between = c.tell.new.world;
      hears = c.in-Ok.ensures.hears;
      ends = rw c.in-Ok.ensures.row at c.land_last-landed.ensures.ends;
      completes = record {
        verdict = done.0;
        table = completed_table c.args.cookie done.0 failure c.in-Some.row.now c.land_last-landed.new.self c.complete-kept.new.self c.args.table.now.rows here lands done.2 c.complete-kept.result c.args.table.now.done c.settle.new.table done.1 c.settle.ensures;
        log = done.3;
        calls = done.4;
        freed = c.count-freed.ensures;
      };
    })

pub returns-in-Err-clause-err_table : goal.returns-in-Err-clause-err_table
returns-in-Err-clause-err_table g c =
    let here : value_at c.args.cookie c.args.table.now.rows ≡ Some c.in-Some.row.now = sym c.get_mut.follows ∙ ap option_copied_mut c.in-Some.is in
    rw (c.in-Err.ensures.err_row, with_value_same c.args.cookie c.in-Some.row.now c.args.table.now.rows here) refl
