use Rattle.std.proofs.Common.{sym, ◌∙◌}
use Rattle.lnbd_script.proofs.SceneLemmas.{acts_alone, chosen}
use Rattle.lnbd_script.proofs.sessions.Sessions.step.Goals as goal

pub returns-in-Choice-clause-acts : goal.returns-in-Choice-clause-acts
returns-in-Choice-clause-acts g c = chosen c.args.line.now c.in-Choice.number c.args.self.now _ _ _ (sym c.of.ensures ∙ c.in-Choice.is) c.choose.ensures

pub returns-in-Current-clause-acts : goal.returns-in-Current-clause-acts
returns-in-Current-clause-acts g c = acts_alone c.args.line.now c.args.self.now _ _ _ _ _ c.step_current.result (sym c.of.ensures ∙ c.in-Current.is) c.step_current.ensures.acts
