use Rattle.lnbd_ask.specs.Lists.{naming}
use Rattle.lnbd_ask.specs.Parts.{no_value}
use Rattle.lnbd_ask.proofs.ActLemmas.{named_so, short}
use Rattle.lnbd_ask.proofs.acts.name_export.Goals as goal

pub returns-in-Ok : goal.returns-in-Ok
returns-in-Ok g c = named_so _ _ _ _ c.in-Ok.ensures c.set_name.ensures

pub returns-in-Err : goal.returns-in-Err
returns-in-Err g c = short (naming c.args.listed.now.name) no_value _
