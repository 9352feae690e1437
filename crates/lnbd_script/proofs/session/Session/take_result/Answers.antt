use Rattle.lnbd_script.proofs.LineLemmas.{result_taken}
use Rattle.lnbd_script.proofs.session.Session.take_result.Goals as goal

pub returns-clause-told : goal.returns-clause-told
returns-clause-told c seen at = result_taken seen c.args.self.now c.command_completed.new.self c.args.cookie c.command_completed.result at c.command_completed.ensures.completed c.command_completed.ensures.taken
