use Rattle.std.proofs.Common.{Err, Ok, arith}
use Rattle.lnbd_link.proofs.Parts.{keeps_on}
use Rattle.lnbd_waits.proofs.TurnLemmas.{held_one}
use Rattle.lnbd_dump.proofs.ReadLemmas.{read_misfit, read_span, read_unknown, read_waits, waits_on}
use Rattle.lnbd_dump.proofs.StopLemmas.{dry_not, not_output, not_silent}
use Rattle.lnbd_dump.proofs.talking.read.Goals as goal

pub returns-in-Err-clause-reads : goal.returns-in-Err-clause-reads
returns-in-Err-clause-reads g c = read_waits c.args.offset c.args.length c.args.world.now c.await_all.new.world (g.O.Sink.taken c.args.out.now) c.in-Err.stop _ _ _ _ c.args.handles.now c.await_all.new.handles c.in-Err.ensures.goes

pub returns-in-Err-clause-output : goal.returns-in-Err-clause-output
returns-in-Err-clause-output g c = dry_not (Err c.in-Err.stop) _ c.in-Err.ensures.dry

pub await_written-requires-clause-reached : goal.await_written-requires-clause-reached
await_written-requires-clause-reached g c = let went = c.in_default.ensures.goes c.requires.reached.0 c.requires.reached.1 in (went.after, went.at)

pub returns-in-Err-await_written-clause-reads : goal.returns-in-Err-await_written-clause-reads
returns-in-Err-await_written-clause-reads g c =
    read_waits c.args.offset c.args.length c.args.world.now c.await_written.new.world (g.O.Sink.taken c.args.out.now) c.in-Err-await_written.stop _ _ _ _ c.args.handles.now c.await_written.new.handles
    (waits_on (Err c.in-Err-await_written.stop) _ _ _ _ _ _ c.args.handles.now c.await_all.new.handles c.await_written.new.handles c.args.world.now c.await_all.new.world c.await_written.new.world c.await_all.ensures.faults c.await_written.ensures.faults c.in_default.ensures.goes c.in-Err-await_written.ensures.goes)

pub returns-in-Err-await_written-clause-output : goal.returns-in-Err-await_written-clause-output
returns-in-Err-await_written-clause-output g c = dry_not (Err c.in-Err-await_written.stop) _ c.in-Err-await_written.ensures.dry

pub returns-in-Err-await_written-clause-contents : goal.returns-in-Err-await_written-clause-contents
returns-in-Err-await_written-clause-contents g c = keeps_on _ _ _ c.await_all.ensures.contents c.await_written.ensures.contents

pub known-requires : goal.known-requires
known-requires g c =
    let went = c.in_default.ensures.goes c.requires.reached.0 c.requires.reached.1 in
    let more = c.in_default-await_written.ensures.goes went.after went.at in
    held_one c.await_written.new.handles more.after more.at

pub returns-in-Err-known-clause-reads : goal.returns-in-Err-known-clause-reads
returns-in-Err-known-clause-reads g c =
    read_unknown c.args.offset c.args.length c.args.world.now c.await_written.new.world (g.O.Sink.taken c.args.out.now) _ _ _ _ c.args.handles.now c.await_written.new.handles
    (waits_on (Ok tt) _ _ _ _ _ _ c.args.handles.now c.await_all.new.handles c.await_written.new.handles c.args.world.now c.await_all.new.world c.await_written.new.world c.await_all.ensures.faults c.await_written.ensures.faults c.in_default.ensures.goes c.in_default-await_written.ensures.goes)
    c.in-Err-known.stop c.in-Err-known.ensures.known

pub returns-in-Err-known-clause-silent : goal.returns-in-Err-known-clause-silent
returns-in-Err-known-clause-silent g c = not_silent (Err c.in-Err-known.stop) _ c.in-Err-known.ensures.plain

pub returns-in-Err-known-clause-output : goal.returns-in-Err-known-clause-output
returns-in-Err-known-clause-output g c = not_output (Err c.in-Err-known.stop) _ c.in-Err-known.ensures.plain

pub returns-in-Err-known-clause-contents : goal.returns-in-Err-known-clause-contents
returns-in-Err-known-clause-contents g c = keeps_on _ _ _ c.await_all.ensures.contents c.await_written.ensures.contents

pub returns-in-Err-judge-clause-reads : goal.returns-in-Err-judge-clause-reads
returns-in-Err-judge-clause-reads g c =
    read_misfit c.args.offset c.args.length c.args.world.now c.await_written.new.world (g.O.Sink.taken c.args.out.now) _ _ _ _ c.args.handles.now c.await_written.new.handles
    (waits_on (Ok tt) _ _ _ _ _ _ c.args.handles.now c.await_all.new.handles c.await_written.new.handles c.args.world.now c.await_all.new.world c.await_written.new.world c.await_all.ensures.faults c.await_written.ensures.faults c.in_default.ensures.goes c.in_default-await_written.ensures.goes)
    c.in-Ok.terms c.in-Ok.ensures.known c.in-Err-judge.stop c.in-Err-judge.ensures.judges

pub returns-in-Err-judge-clause-silent : goal.returns-in-Err-judge-clause-silent
returns-in-Err-judge-clause-silent g c = not_silent (Err c.in-Err-judge.stop) _ c.in-Err-judge.ensures.plain

pub returns-in-Err-judge-clause-output : goal.returns-in-Err-judge-clause-output
returns-in-Err-judge-clause-output g c = not_output (Err c.in-Err-judge.stop) _ c.in-Err-judge.ensures.plain

pub returns-in-Err-judge-clause-contents : goal.returns-in-Err-judge-clause-contents
returns-in-Err-judge-clause-contents g c = keeps_on _ _ _ c.await_all.ensures.contents c.await_written.ensures.contents

pub show_span-requires-clause-reached : goal.show_span-requires-clause-reached
show_span-requires-clause-reached g c =
    let went = c.in_default.ensures.goes c.requires.reached.0 c.requires.reached.1 in
    let more = c.in_default-await_written.ensures.goes went.after went.at in
    (more.after, more.at)

pub show_span-requires-clause-covers : goal.show_span-requires-clause-covers
show_span-requires-clause-covers g c = c.in-Ok-judge.ensures.judges.covers

pub show_span-requires-clause-block : goal.show_span-requires-clause-block
show_span-requires-clause-block g c = (c.in-Ok.ensures.block.0, c.in-Ok.ensures.block.1, c.in-Ok.ensures.piece.0, c.in-Ok.ensures.piece.1)

pub returns-in-Ok-judge-clause-reads : goal.returns-in-Ok-judge-clause-reads
returns-in-Ok-judge-clause-reads g c =
    read_span c.args.offset c.args.length c.args.world.now c.await_written.new.world (g.O.Sink.taken c.args.out.now) _ _ _ _ c.args.handles.now c.await_written.new.handles
    (waits_on (Ok tt) _ _ _ _ _ _ c.args.handles.now c.await_all.new.handles c.await_written.new.handles c.args.world.now c.await_all.new.world c.await_written.new.world c.await_all.ensures.faults c.await_written.ensures.faults c.in_default.ensures.goes c.in_default-await_written.ensures.goes)
    c.in-Ok.terms c.in-Ok.ensures.known c.in-Ok-judge.span c.in-Ok-judge.ensures.judges c.show_span.result (g.O.Sink.taken c.show_span.new.out) _ _ c.show_span.new.handles
    (omega (arith, c.await_all.ensures.faults, c.await_written.ensures.faults)) c.show_span.ensures.faults c.show_span.ensures.count c.show_span.ensures.shows

pub returns-in-Ok-judge-clause-contents : goal.returns-in-Ok-judge-clause-contents
returns-in-Ok-judge-clause-contents g c = keeps_on _ _ _ (keeps_on _ _ _ c.await_all.ensures.contents c.await_written.ensures.contents) c.show_span.ensures.contents
