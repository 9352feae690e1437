use Rattle.std.proofs.Common.{◌∙◌}
use Rattle.lnbd_commands.proofs.MarkLemmas.{undone_flying}
use Rattle.lnbd_commands.proofs.commands.Commands.in_flight.Goals as goal

pub returns : goal.returns
returns g c = rw (← c.self.view_is) (c.undone.ensures ∙ undone_flying c.self.inside.table.done c.self.inside.table.rows c.self.invariant.rows)
