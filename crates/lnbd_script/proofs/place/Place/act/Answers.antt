use Rattle.lnbd_script.proofs.PlaceLemmas.{acts_on, acts_whole}
use Rattle.lnbd_script.proofs.place.Place.act.Goals as goal

pub returns-clause-told : goal.returns-clause-told
returns-clause-told g c = acts_on c.args.line.now _ c.in-Open.session c.act-told.new.session c.args.first.now _ _ c.act-told.result c.in-Open.is c.act-told.ensures.told

pub returns-clause-unread : goal.returns-clause-unread
returns-clause-unread g c = acts_whole _ c.in-Open.session c.args.first.now c.act-told.result _ c.in-Open.is c.act-told.ensures.unread
