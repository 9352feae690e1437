use Rattle.lnbd_keyed.specs.Keyed.{keys}
use Rattle.lnbd_history.specs.Entries.{Lost}
use Rattle.lnbd_machine.specs.Machine.{file_all}
use Rattle.lnbd_handle.specs.Seen.{state_of}
use Rattle.lnbd_handle.proofs.RunLemmas.{killed, issued_all, takes_issued}
use Rattle.lnbd_handle.proofs.TurnLemmas.{dead_sound}
use Rattle.lnbd_handle.proofs.deaths.die.Goals as goal

pub returns-clause-acts : goal.returns-clause-acts
returns-clause-acts g c =
    killed g.K.Caller.steps c.args.cause c.args.connection.now c.clear.new.self c.lose_all.new.self c.args.world.now c.lose_all.new.world c.clear.ensures c.lose_all.ensures

pub returns-clause-sound : goal.returns-clause-sound
returns-clause-sound g c =
    dead_sound c.args.connection.now c.clear.new.self c.lose_all.new.self c.args.cause c.clear.ensures
    (takes_issued g.K.Caller.steps (file_all Lost (keys c.args.connection.now.commands.rows)) (state_of c.args.connection.now) c.args.connection.now.commands c.lose_all.new.self c.args.world.now c.lose_all.new.world
    (λ d. issued_all Lost (keys c.args.connection.now.commands.rows) d) c.lose_all.ensures)
    c.requires
