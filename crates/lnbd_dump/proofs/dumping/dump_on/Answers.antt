use Rattle.std.proofs.Common.{refl}
use Rattle.lnbd_link.proofs.Parts.{keeps_on}
use Rattle.lnbd_ask.proofs.EndLemmas.{held_begins}
use Rattle.lnbd_dump.proofs.EndLemmas.{dumped_on, not_held}
use Rattle.lnbd_dump.proofs.dumping.dump_on.Goals as goal

pub converse-told-requires-clause-begins : goal.converse-told-requires-clause-begins
converse-told-requires-clause-begins g c = (c.args.link, held_begins _ _ c.args.link c.args.handle.machine _ _ c.new-handles.ensures c.in-Ok.ensures.added c.requires.stands)

pub returns-in-Ok-clause-dumps : goal.returns-in-Ok-clause-dumps
returns-in-Ok-clause-dumps g c =
    dumped_on c.args.place.now c.args.link c.args.offset c.args.length c.requires.short _ _ (g.O.Sink.taken c.args.out.now) (g.O.Sink.taken c.converse-told.new.out) c.converse-told.result
    (c.converse-told.ensures.converses c.args.link (held_begins _ _ c.args.link c.args.handle.machine _ _ c.new-handles.ensures c.in-Ok.ensures.added c.requires.stands)) _ c.hang_up.ensures.told

pub returns-in-Ok-clause-contents : goal.returns-in-Ok-clause-contents
returns-in-Ok-clause-contents g c = keeps_on _ _ _ c.converse-told.ensures.contents c.hang_up.ensures.contents

pub returns-clause-dumps : goal.returns-clause-dumps
returns-clause-dumps g c = not_held c.args.place.now c.args.link c.args.offset c.args.length c.requires.short _ _ (g.O.Sink.taken c.args.out.now) _ refl c.hang_up-in-Err.ensures.told
