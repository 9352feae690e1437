use Rattle.lnbd_script.proofs.LineLemmas.{option_lacks, option_ok}
use Rattle.lnbd_script.proofs.session.Session.ask.Goals as goal

pub returns-clause-ok : goal.returns-clause-ok
returns-clause-ok c = rw c.told_of_option.ensures (option_ok c.args.option c.args.self.now c.opt-answer.new.handle c.opt-answer.result c.opt-answer.ensures.takes)

pub returns-clause-lacks : goal.returns-clause-lacks
returns-clause-lacks c = rw c.told_of_option.ensures (option_lacks c.args.option c.args.self.now c.opt-answer.new.handle c.opt-answer.result c.opt-answer.ensures.takes)
