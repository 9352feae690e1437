use Rattle.lnbd_copy.proofs.AgreeLemmas.{quiet_at, tells}
use Rattle.lnbd_copy.proofs.GroundLemmas.{is_shown}
use Rattle.lnbd_copy.proofs.agreeing.info_of.Goals as goal

pub returns-then-info-lt-SIZE_END-clause-tells : goal.returns-then-info-lt-SIZE_END-clause-tells
returns-then-info-lt-SIZE_END-clause-tells c =
    let quiet = quiet_at c.args.handles.now c.args.index c.get.result.now.machine c.requires.quiet c.get.ensures in
    tells c.get.result.now.machine c.in-Some.info.now quiet.ready quiet.quiet c.in-Some.ensures.told c.args.index c.args.handles.now c.get.ensures

pub returns-then-info-lt-SIZE_END-clause-shown : goal.returns-then-info-lt-SIZE_END-clause-shown
returns-then-info-lt-SIZE_END-clause-shown c =
    let quiet = quiet_at c.args.handles.now c.args.index c.get.result.now.machine c.requires.quiet c.get.ensures in
    is_shown c.get.result.now.machine c.in-Some.info.now c.args.index c.args.handles.now quiet.ready c.in-Some.ensures.told c.get.ensures
