use Rattle.std.proofs.Common.{refl}
use Rattle.lnbd_records.specs.Options.{opt_info}
use Rattle.lnbd_ask.proofs.ActLemmas.{asked}
use Rattle.lnbd_ask.proofs.acts.ask_info.Goals as goal

pub returns : goal.returns
returns g c =
    rw c.short_of.ensures
    (asked c.args.handles.now c.get_mut.result.now.machine c.opt_info.new.self.machine opt_info c.opt_info.result c.get_mut.ensures.value refl c.opt_info.ensures.allowed c.opt_info.ensures.refused c.opt_info.ensures.stands)
