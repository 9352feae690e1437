use Rattle.lnbd_commands.specs.Asks.{command_of}
use Rattle.lnbd_handle.proofs.IssueLemmas.{refuse_faults, refuse_sound}
use Rattle.lnbd_handle.proofs.issue.refuse.Goals as goal

pub returns-in-Ok-clause-faults : goal.returns-in-Ok-clause-faults
returns-in-Ok-clause-faults g c = refuse_faults g.K.Caller.steps c.args.connection.now (command_of c.args.asked) c.args.why c.from_vec-buf.result c.refuse.new.self c.args.world.now c.refuse.new.world c.requires.why c.from_vec-buf.ensures c.requires.sound c.in-Ok.ensures.ok

pub returns-in-Ok-clause-sound : goal.returns-in-Ok-clause-sound
returns-in-Ok-clause-sound g c = refuse_sound g.K.Caller.steps c.args.connection.now (command_of c.args.asked) c.refuse.new.self c.args.world.now c.refuse.new.world c.in-Ok.ensures.ok c.requires.sound
