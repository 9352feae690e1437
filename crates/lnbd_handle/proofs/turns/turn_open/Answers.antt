use Rattle.std.proofs.Common.{sym, ap, ◌∙◌, [], ◌∷◌}
use Rattle.lnbd_history.specs.Arrivals.{shows_in}
use Rattle.lnbd_machine.specs.Machine.{sight, waited}
use Rattle.lnbd_handle.specs.Seen.{state_of}
use Rattle.lnbd_handle.proofs.TurnLemmas.{turn_ignored, shown_open}
use Rattle.lnbd_handle.proofs.turns.turn_open.Goals as goal

pub returns-in-Refused-clause-means : goal.returns-in-Refused-clause-means
returns-in-Refused-clause-means g c =
    let old = c.args.connection.now in
    turn_ignored g.K.Caller.steps g.met.K.Caller.empty old c.args.world.now c.args.rest.now
    (λ byte answers made. shown_open old (byte ∷ []) c.requires.open answers made ∙ ap (λ p. shows_in p (sight (state_of old)) (waited (state_of old)) (byte ∷ [])) (sym c.phase.ensures ∙ c.in-Refused.is))
