use Rattle.lnbd_script.proofs.LineLemmas.{at_start, is_started, started}
use Rattle.lnbd_script.proofs.session.Session.start.Goals as goal

pub returns-clause-started : goal.returns-clause-started
returns-clause-started c seen at =
    let created = at_start c.args.self.now.handle.machine c.requires.created in
    started seen c.args.self.now c.start.new.self c.args.link at created (is_started c.args.self.now.handle.machine c.start.new.self.machine c.start.result created c.start.ensures.ok c.start.ensures.refused)
