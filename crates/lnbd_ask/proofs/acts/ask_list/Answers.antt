use Rattle.std.proofs.Common.{refl}
use Rattle.lnbd_records.specs.Options.{opt_list}
use Rattle.lnbd_ask.proofs.ActLemmas.{asked}
use Rattle.lnbd_ask.proofs.acts.ask_list.Goals as goal

pub returns : goal.returns
returns g c =
    rw c.short_of.ensures
    (asked c.args.handles.now c.get_mut.result.now.machine c.opt_list.new.self.machine opt_list c.opt_list.result c.get_mut.ensures.value refl c.opt_list.ensures.allowed c.opt_list.ensures.refused c.opt_list.ensures.stands)
