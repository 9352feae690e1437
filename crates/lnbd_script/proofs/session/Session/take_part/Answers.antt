use Rattle.lnbd_script.proofs.RoundLemmas.{part_lacks, part_ok, part_unlinked, part_whole}
use Rattle.lnbd_script.proofs.session.Session.take_part.Goals as goal

pub returns-in-None-clause-ok : goal.returns-in-None-clause-ok
returns-in-None-clause-ok g c = part_unlinked c.args.self.now c.args.first.now _ c.in-None.is

pub returns-in-Some-clause-ok : goal.returns-in-Some-clause-ok
returns-in-Some-clause-ok g c = part_ok c.turn-told.result c.args.self.now c.turn-told.new.session c.args.first.now c.in-Some.link _ _ c.in-Some.is c.turn-told.ensures.ok

pub returns-in-Some-clause-short : goal.returns-in-Some-clause-short
returns-in-Some-clause-short g c = part_lacks c.turn-told.result c.args.self.now c.turn-told.new.session c.args.first.now c.in-Some.link _ _ c.in-Some.is c.turn-told.ensures.short

pub returns-in-Some-clause-unread : goal.returns-in-Some-clause-unread
returns-in-Some-clause-unread g c = part_whole c.turn-told.result c.args.self.now c.args.first.now _ c.turn-told.ensures.unread
