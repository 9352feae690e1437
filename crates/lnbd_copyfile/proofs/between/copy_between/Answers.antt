use Rattle.std.proofs.Common.{Err, sym, subst, ap}
use Rattle.lnbd_touched.specs.Grown.{Grew}
use Rattle.lnbd_copyfile.specs.declared.fault.Stop.{Stop}
use Rattle.lnbd_copyfile.specs.Calls.{NotDone}
use Rattle.lnbd_copyfile.proofs.CallLemmas.{early}
use Rattle.lnbd_copyfile.proofs.CauseLemmas.{cause_is, change_is, stop_is}
use Rattle.lnbd_copyfile.proofs.between.copy_between.Goals as goal

pub returns-in-Err-clause-stopped : goal.returns-in-Err-clause-stopped
returns-in-Err-clause-stopped g c =
    subst (λ (why : Stop). Grew (g.S.Store.told c.args.store.now) (g.S.Store.told c.copy.new.store) (NotDone c.args.from.now c.args.to.now c.args.options why))
    (sym (stop_is _ _ c.in-Err.why c.fault.result c.fault.ensures)) c.in-Err.ensures.stopped

pub returns-in-Err-clause-store_fault : goal.returns-in-Err-clause-store_fault
returns-in-Err-clause-store_fault g c =
    let stopped = c.in-Err.ensures.stopped in
    cause_is c.faults-before.result c.faults.result _ _ c.in-Err.why c.fault.result c.fault.ensures c.faults-before.ensures c.faults.ensures (λ e. c.in-Err.ensures.failed (ap (λ (w : Stop). Err w) e))
    (λ n end e. early c.args.from.now c.args.to.now n end c.args.options c.in-Err.why stopped.calls e stopped.leads)

pub returns-in-Err-clause-changed : goal.returns-in-Err-clause-changed
returns-in-Err-clause-changed g c = λ told. c.in-Err.ensures.changed (change_is _ _ c.in-Err.why c.fault.result c.fault.ensures told)
