use Rattle.std.proofs.Common.{◌++◌, map, ap, sym, subst, ◌∙◌}
use Rattle.lnbd_history.specs.Agreement.{Opted}
use Rattle.lnbd_history.specs.Outgoing.{plain, request_at}
use Rattle.lnbd_negotiate.specs.Means.{Takes}
use Rattle.lnbd_outgoing.specs.Queue.{waits, AllFit}
use Rattle.lnbd_handle.specs.Seen.{AreAhead, ends_in, flies_in, writes_in}
use Rattle.lnbd_handle.proofs.OptionLemmas.{opted_state}
use Rattle.lnbd_handle.proofs.GreetLemmas.{queue_sound}
use Rattle.lnbd_handle.proofs.options.ask.Goals as goal

pub returns-clause-ok : goal.returns-clause-ok
returns-clause-ok g c =
    let old = c.args.connection.now in
    opted_state old c.ask.new.self c.push_request.new.queue c.args.option c.ask.new.out.items
    (subst (λ out. Takes (Opted c.args.option) old.talk c.ask.new.self out c.ask.new.out.items) c.new-request.ensures.items c.in_ok-ask.ensures.ok)
    (λ at name wanted e. c.push_request.ensures.waits (writes_in old.commands) at name wanted e ∙ ap (λ q. waits (writes_in old.commands) q ++ map plain (request_at at name wanted)) c.in_ok-reserve.ensures.ok)

pub returns-clause-sound : goal.returns-clause-sound
returns-clause-sound g c =
    let old = c.args.connection.now in
    queue_sound old old.flags c.ask.new.self c.push_request.new.queue c.requires.open c.requires.sound
    (c.push_request.ensures.fits (writes_in old.commands) (subst (λ q. AllFit (writes_in old.commands) q.pieces) (sym c.in_ok-reserve.ensures.ok) c.requires.sound.fits))
    (c.push_request.ensures.ahead (flies_in old.commands) old.written (subst (λ q. AreAhead (flies_in old.commands) old.written q.pieces) (sym c.in_ok-reserve.ensures.ok) c.requires.sound.ahead))
    c.push_request.ensures.ended
    (c.push_request.ensures.ends (writes_in old.commands) ∙ ap (λ q. ends_in (waits (writes_in old.commands) q)) c.in_ok-reserve.ensures.ok)
