use Rattle.std.proofs.Common.{refl}
use Rattle.lnbd_link.proofs.Parts.{keeps_on}
use Rattle.lnbd_dump.proofs.EndLemmas.{not_connected, with_connect}
use Rattle.lnbd_dump.proofs.dumping.dial.Goals as goal

pub returns-in-Ok-clause-dumps : goal.returns-in-Ok-clause-dumps
returns-in-Ok-clause-dumps g c = with_connect c.args.place.now c.in-Ok.link c.args.offset c.args.length c.requires.short _ _ _ (g.O.Sink.taken c.args.out.now) (g.O.Sink.taken c.dump_on.new.out) c.dump_on.result c.in-Ok.ensures.told c.dump_on.ensures.dumps

pub returns-in-Err-clause-dumps : goal.returns-in-Err-clause-dumps
returns-in-Err-clause-dumps g c = not_connected c.args.place.now c.args.offset c.args.length _ _ (g.O.Sink.taken c.args.out.now) _ _ _ refl c.in-Err.ensures.told

pub returns-in-Ok-clause-contents : goal.returns-in-Ok-clause-contents
returns-in-Ok-clause-contents g c = keeps_on _ _ _ c.in-Ok.ensures.contents c.dump_on.ensures.contents
