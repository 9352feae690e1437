use Rattle.std.proofs.Common.{sym, ◌∙◌}
use Rattle.lnbd_machine.specs.Machine.{flying}
use Rattle.lnbd_handle.specs.Seen.{state_of}
use Rattle.lnbd_handle.proofs.EndLemmas.{closing_none}
use Rattle.lnbd_handle.proofs.deaths.end_closing.Goals as goal

pub returns-then-in_flight-eq0-clause-acts : goal.returns-then-in_flight-eq0-clause-acts
returns-then-in_flight-eq0-clause-acts g c =
    closing_none g.K.Caller.steps g.met.K.Caller.empty (state_of c.args.connection.now) (state_of c.shut.new.connection) c.args.world.now (flying c.args.connection.now.commands.rows) (sym c.in_flight.ensures ∙ c.if-in_flight-eq0.true) c.shut.ensures.state
