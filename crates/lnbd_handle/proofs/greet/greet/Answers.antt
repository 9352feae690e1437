use Rattle.std.proofs.Common.{◌<◌, ◌++◌, ◌∷◌, [], length, sym, ap, subst, ◌∙◌, add-zero}
use Rattle.std.specs.List.{concat}
use Rattle.lnbd_history.specs.Agreement.{Hello}
use Rattle.lnbd_history.specs.Outgoing.{plain}
use Rattle.lnbd_history.specs.Talk.{sent}
use Rattle.lnbd_outgoing.specs.declared.piece.Piece.TheVariants.{Text}
use Rattle.lnbd_outgoing.specs.Queue.{waits, AllFit}
use Rattle.lnbd_handle.specs.Seen.{AreAhead, writes_in, flies_in, ends_in}
use Rattle.lnbd_handle.proofs.TurnLemmas.{open_queue}
use Rattle.lnbd_handle.proofs.GreetLemmas.{ends_append, flags_size, greeted_state, queue_sound}
use Rattle.lnbd_handle.proofs.QueuedLemmas.{ahead_push}
use Rattle.lnbd_handle.proofs.greet.greet.Goals as goal

pub reserve-requires : goal.reserve-requires
reserve-requires g c = open_queue c.args.connection.now c.requires.sound c.requires.open

pub push-requires-clause-open : goal.push-requires-clause-open
push-requires-clause-open g c = ap (λ q. q.ended) c.in_ok-reserve.ensures.ok ∙ open_queue c.args.connection.now c.requires.sound c.requires.open

pub push-requires-clause-some : goal.push-requires-clause-some
push-requires-clause-some g c = subst (λ b. 0 < length b) (sym c.in_ok-head.ensures) (flags_size c.args.flags)

pub push_request-requires-clause-open : goal.push_request-requires-clause-open
push_request-requires-clause-open g c =
    ap (λ q. q.ended) c.push.ensures.queued ∙ ap (λ q. q.ended) c.in_ok-reserve.ensures.ok ∙ open_queue c.args.connection.now c.requires.sound c.requires.open

pub returns-clause-greets : goal.returns-clause-greets
returns-clause-greets g c = (
  c.in_ok-hello.ensures.0,
  greeted_state c.args.connection.now c.args.flags c.hello.new.self c.push_request.new.queue c.hello.new.out.items (waits (writes_in c.args.connection.now.commands) c.push.new.self) c.in_ok-hello.ensures.1.talk
      (c.in_ok-hello.ensures.1.sends ∙ ap (λ o. o ++ concat (sent Hello c.args.connection.now.talk)) c.new-request.ensures.items)
      (c.push.ensures.waits (writes_in c.args.connection.now.commands) ∙ ap (λ q. waits (writes_in c.args.connection.now.commands) q ++ plain c.in_ok-head.head ∷ []) c.in_ok-reserve.ensures.ok ∙ ap (λ b. waits (writes_in c.args.connection.now.commands) c.args.connection.now.queue ++ plain b ∷ []) c.in_ok-head.ensures)
      (c.push_request.ensures.waits (writes_in c.args.connection.now.commands)),
)

pub returns-clause-sound : goal.returns-clause-sound
returns-clause-sound g c = queue_sound c.args.connection.now c.args.flags c.hello.new.self c.push_request.new.queue c.requires.open c.requires.sound
    (c.push_request.ensures.fits (writes_in c.args.connection.now.commands) (c.push.ensures.fits (writes_in c.args.connection.now.commands) tt (subst (λ q. AllFit (writes_in c.args.connection.now.commands) q.pieces) (sym c.in_ok-reserve.ensures.ok) c.requires.sound.fits)))
    (c.push_request.ensures.ahead (flies_in c.args.connection.now.commands) c.args.connection.now.written (subst (λ q. AreAhead (flies_in c.args.connection.now.commands) c.args.connection.now.written q.pieces) (sym c.push.ensures.queued)
    (ahead_push (flies_in c.args.connection.now.commands) c.args.connection.now.written c.reserve.new.self.pieces (Text c.in_ok-head.head) (subst (λ q. AreAhead (flies_in c.args.connection.now.commands) c.args.connection.now.written q.pieces) (sym c.in_ok-reserve.ensures.ok) c.requires.sound.ahead) tt)))
    c.push_request.ensures.ended
    (c.push_request.ensures.ends (writes_in c.args.connection.now.commands) ∙ ap ends_in (c.push.ensures.waits (writes_in c.args.connection.now.commands)) ∙ ends_append (waits (writes_in c.args.connection.now.commands) c.reserve.new.self) (plain c.in_ok-head.head) ∙ add-zero (ends_in (waits (writes_in c.args.connection.now.commands) c.reserve.new.self)) ∙ ap (λ q. ends_in (waits (writes_in c.args.connection.now.commands) q)) c.in_ok-reserve.ensures.ok)
