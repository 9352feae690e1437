use Rattle.std.proofs.Common.{Some, Ok, Err, refl}
use Rattle.lnbd_spawn.specs.declared.deed.Deed.TheVariants.{Wait}
use Rattle.lnbd_spawn.specs.declared.spawner.Waited.TheVariants as waited
use Rattle.lnbd_child.specs.declared.fault.RunFault.TheVariants as fault
use Rattle.lnbd_child.specs.Child.{Ended, Unknown, Waits}
use Rattle.lnbd_child.proofs.GrownLemmas.{grew_one}
use Rattle.lnbd_child.proofs.child.wait_for.Goals as goal

pub returns-in-Failed-clause-waits : goal.returns-in-Failed-clause-waits
returns-in-Failed-clause-waits g c =
    grew_one _ _ (Wait c.args.child waited.Failed) (Waits (record { served = c.args.served; child = Some c.args.child }) (Err (fault.Spawn c.faults-before.result c.faults.result))) c.in-Failed.ensures.told
    (Unknown c.args.child c.faults-before.result c.faults.result refl refl refl)

pub returns-in-Signal-clause-waits : goal.returns-in-Signal-clause-waits
returns-in-Signal-clause-waits g c =
    grew_one _ _ (Wait c.args.child waited.Signal) (Waits (record { served = c.args.served; child = Some c.args.child }) (Ok (record { served = c.args.served; ended = Some waited.Signal }))) c.in-Signal.ensures.told
    (Ended c.args.child waited.Signal refl refl refl refl)

pub returns-in-Status-clause-waits : goal.returns-in-Status-clause-waits
returns-in-Status-clause-waits g c =
    grew_one _ _ (Wait c.args.child (waited.Status c.in-Status.status)) (Waits (record { served = c.args.served; child = Some c.args.child }) (Ok (record { served = c.args.served; ended = Some (waited.Status c.in-Status.status) })))
    c.in-Status.ensures.told (Ended c.args.child (waited.Status c.in-Status.status) refl refl refl refl)
