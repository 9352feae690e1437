use Rattle.std.proofs.Common.{◌≡◌, ◌≤◌, ◌-◌}
use Rattle.lnbd_history.specs.Entries.{Lost}
use Rattle.lnbd_history.specs.History.{cookies}
use Rattle.lnbd_machine.specs.Machine.{file_all}
use Rattle.lnbd_commands.specs.Takes.{Takes}
use Rattle.lnbd_commands.proofs.commands.Commands.lose_all.Given as goal

-- the commands up to here are lost, in order
abbrev pub invariant-loop-cookie : goal.invariant-loop-cookie
invariant-loop-cookie g l = (l.lost ≤ l.fn.self.issued) × (l.self.issued ≡ l.fn.self.issued) × Takes g.K.Caller.steps (file_all Lost (cookies l.lost)) l.fn.self l.self l.fn.world l.world

abbrev pub decreases-loop-cookie : goal.decreases-loop-cookie
decreases-loop-cookie g l = l.fn.self.issued - l.lost
