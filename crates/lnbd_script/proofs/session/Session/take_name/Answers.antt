use Rattle.lnbd_script.proofs.LineLemmas.{at_start, is_named, named_before, still_created}
use Rattle.lnbd_script.proofs.session.Session.take_name.Goals as goal

pub returns-clause-named : goal.returns-clause-named
returns-clause-named c seen at =
    let created = at_start c.args.self.now.handle.machine c.requires.created in
    named_before seen c.args.self.now c.set_export_name.new.self c.args.name at created (is_named c.args.self.now.handle.machine c.set_export_name.new.self.machine c.args.name c.set_export_name.result created c.set_export_name.ensures.ok c.set_export_name.ensures.refused)

pub returns-clause-created : goal.returns-clause-created
returns-clause-created c =
    let created = at_start c.args.self.now.handle.machine c.requires.created in
    still_created c.args.self.now.handle.machine c.set_export_name.new.self.machine c.args.name created (is_named c.args.self.now.handle.machine c.set_export_name.new.self.machine c.args.name c.set_export_name.result created c.set_export_name.ensures.ok c.set_export_name.ensures.refused)
