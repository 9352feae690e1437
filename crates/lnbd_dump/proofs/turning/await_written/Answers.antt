use Rattle.std.proofs.Common.{Err, Ok, refl}
use Rattle.lnbd_waits.specs.declared.waiting.Awaited.TheVariants as awaited
use Rattle.lnbd_dump.specs.declared.stop.Stop.TheVariants as stop
use Rattle.lnbd_dump.proofs.LeadLemmas.{waits_go}
use Rattle.lnbd_dump.proofs.turning.await_written.Goals as goal

pub returns-in-Ok-clause-goes : goal.returns-in-Ok-clause-goes
returns-in-Ok-clause-goes g c = waits_go awaited.Written _ _ _ _ c.args.handles.now c.settle.new.handles c.args.world.now c.settle.new.world (Ok tt) (Ok tt) refl (λ h. tt) c.in-Ok.ensures.waits

pub returns-in-Err-clause-goes : goal.returns-in-Err-clause-goes
returns-in-Err-clause-goes g c = waits_go awaited.Written _ _ _ _ c.args.handles.now c.settle.new.handles c.args.world.now c.settle.new.world (Err c.in-Err.halt) (Err (stop.Halted c.in-Err.halt)) refl (λ h. tt) c.in-Err.ensures.waits
