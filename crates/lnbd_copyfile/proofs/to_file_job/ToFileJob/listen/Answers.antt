use Rattle.lnbd_copyfile.proofs.ToFileJobLemmas.{acts_then}
use Rattle.lnbd_copyfile.proofs.to_file_job.ToFileJob.listen.Goals as goal
use Rattle.std.proofs.Common.{ap}
use Rattle.lnbd_copy.specs.Windows as windows
use Rattle.lnbd_copyfile.proofs.HearingLemmas.{hears_on}

pub returns-then-heard-clause-acts : goal.returns-then-heard-clause-acts
returns-then-heard-clause-acts c = λ file shelf taken.
    acts_then file _ _ _ _ _ _ _ _ _ _ _ _ _ _ _ (c.in_ok-heard.ensures.acts file c.args.handles.now shelf taken) (c.in_ok-asked.ensures.acts file shelf taken)

pub returns-else-heard-clause-acts : goal.returns-else-heard-clause-acts
returns-else-heard-clause-acts c = λ file shelf taken.
    acts_then file _ _ _ _ _ _ _ _ _ _ _ _ _ _ _ (c.in_ok-heard.ensures.acts file c.args.handles.now shelf taken) (c.in_ok-asked.ensures.acts file shelf taken)

pub returns-then-heard-clause-hears : goal.returns-then-heard-clause-hears
returns-then-heard-clause-hears c = hears_on _ _ _ _ _ (c.in_ok-heard.ensures.hears c.args.handles.now) (ap (λ (w : windows.Seen). w.at) c.ask.ensures.windows)

pub returns-else-heard-clause-hears : goal.returns-else-heard-clause-hears
returns-else-heard-clause-hears c = hears_on _ _ _ _ _ (c.in_ok-heard.ensures.hears c.args.handles.now) (ap (λ (w : windows.Seen). w.at) c.ask.ensures.windows)
