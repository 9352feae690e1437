use Rattle.std.proofs.Common.{refl, subst}
use Rattle.lnbd_callbacks.specs.Calls.{counted}
use Rattle.lnbd_session.specs.declared.keeping.ToldExtents.{ToldExtents}
use Rattle.lnbd_session.specs.Keeps.{KeepsExtents}
use Rattle.lnbd_session.proofs.keeping.KeepingCaller.extents.Goals as goal

pub returns-in_default : goal.returns-in_default
returns-in_default c = (c.args.told.now, ((record { extents = refl; chunks = refl }, refl), refl))

pub returns : goal.returns
returns c =
    let keeps = λ (told : ToldExtents). KeepsExtents told (counted c.keep_extents.result) c.args.told.now c.keep_extents.new.self in
    (c.keep_extents.new.self, (subst keeps c.in-Ok.ensures c.keep_extents.ensures, refl))
