use Rattle.std.proofs.Common.{◌∙◌}
use Rattle.lnbd_script.proofs.PlaceLemmas.{over_is, shut_is}
use Rattle.lnbd_script.proofs.place.close.Goals as goal

pub returns-clause-closes : goal.returns-clause-closes
returns-clause-closes g c held at =
    let e = c.close-opened.ensures in
    let l = c.left_of.ensures in (
      shut_is held c.args.session _ _ at c.shut.ensures.told,
      over_is held c.args.session c.left_of.result c.close-opened.new.world c.close-opened.result.freed at e.world (l.opened ∙ e.opened) e.freed (l.opened ∙ e.equal) l.fits l.freed,
    )
