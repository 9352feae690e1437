use Rattle.std.proofs.Common.{◌≡◌, ◌∷◌, ◌++◌, [], ap, sym, subst, ◌∙◌, arith, add-zero}
use Rattle.lnbd_history.specs.declared.kinds.Stage.TheVariants.{Aborting}
use Rattle.lnbd_history.specs.Outgoing.{plain}
use Rattle.lnbd_outgoing.specs.Queue.{waits}
use Rattle.lnbd_handle.specs.Seen.{AreAhead, writes_in, flies_in, waits_in, ends_in, state_of}
use Rattle.lnbd_outgoing.specs.declared.piece.Piece.TheVariants.{Abort}
use Rattle.lnbd_handle.proofs.GreetLemmas.{ends_append}
use Rattle.lnbd_handle.proofs.QueuedLemmas.{ahead_push}
use Rattle.lnbd_handle.proofs.aborting.abort.Goals as goal

pub returns-clause-state : goal.returns-clause-state
returns-clause-state g c =
    let old = c.args.connection.now in
    ap (λ w. record (state_of old) { stage = Aborting; waits = w }) (c.push_last.ensures.waits (writes_in old.commands) ∙ ap (λ b. waits_in old ++ plain b ∷ []) c.abort_request.ensures)

pub returns-clause-sound : goal.returns-clause-sound
returns-clause-sound g c =
    let old = c.args.connection.now in
    let same : ends_in (waits (writes_in old.commands) c.push_last.new.self) ≡ ends_in (waits_in old) =
    ap ends_in (c.push_last.ensures.waits (writes_in old.commands)) ∙ ends_append (waits_in old) (plain c.abort_request.result) ∙ add-zero (ends_in (waits_in old)) in
    record {
      fits = c.push_last.ensures.fits (writes_in old.commands) tt c.requires.sound.fits;
      ahead = subst (λ q. AreAhead (flies_in old.commands) old.written q.pieces) (sym c.push_last.ensures.queued) (ahead_push (flies_in old.commands) old.written old.queue.pieces (Abort c.abort_request.result) c.requires.sound.ahead tt);
      stands = tt;
      counted = omega (arith, same, c.requires.sound.counted);
    }
