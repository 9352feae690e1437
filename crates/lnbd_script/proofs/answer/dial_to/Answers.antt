use Rattle.std.proofs.Common.{Some, None}
use Rattle.lnbd_script.proofs.LineLemmas.{at_start, uri_answered}
use Rattle.lnbd_script.proofs.answer.dial_to.Goals as goal

pub returns-in-Ok-clause-told : goal.returns-in-Ok-clause-told
returns-in-Ok-clause-told g c seen at =
    uri_answered seen c.args.session.now _ c.args.place.now c.args.name _ _ (Some c.in-Ok.link) at (at_start c.args.session.now.handle.machine c.requires.created) c.requires.named c.in-Ok.ensures.told (c.start_as.ensures.started seen at)

pub returns-in-Err-clause-told : goal.returns-in-Err-clause-told
returns-in-Err-clause-told g c seen at =
    uri_answered seen c.args.session.now _ c.args.place.now c.args.name _ _ None at (at_start c.args.session.now.handle.machine c.requires.created) c.requires.named c.in-Err.ensures.told (c.blame.ensures.noted seen at)
