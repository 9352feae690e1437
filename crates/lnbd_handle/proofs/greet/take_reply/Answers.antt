use Rattle.std.proofs.Common.{◌++◌, map, Ok, Err, refl, ap, sym, subst, ◌∙◌}
use Rattle.lnbd_history.specs.Arrivals.{reply_verdict}
use Rattle.lnbd_history.specs.Outgoing.{plain, request_at}
use Rattle.lnbd_machine.specs.Machine.{sight}
use Rattle.lnbd_negotiate.specs.Means.{Applies}
use Rattle.lnbd_negotiate.specs.declared.kinds.TalkFault.TheVariants as fault
use Rattle.lnbd_outgoing.specs.Queue.{waits, AllFit}
use Rattle.lnbd_handle.specs.Seen.{AreAhead, writes_in, flies_in, ends_in, state_of}
use Rattle.lnbd_handle.proofs.TurnLemmas.{open_queue}
use Rattle.lnbd_handle.proofs.GreetLemmas.{queue_sound, replied_well, replied_ill}
use Rattle.lnbd_handle.proofs.greet.take_reply.Goals as goal

pub returns-in-Err-NoMemory-clause-replies : goal.returns-in-Err-NoMemory-clause-replies
returns-in-Err-NoMemory-clause-replies g c =
    let old = c.args.connection.now in
    let verdict = reply_verdict (sight (state_of old)) c.args.head.now.option c.args.head.now.kind c.args.head.now.length c.args.body.now in
    let a = c.in-Err-NoMemory.ensures (sight (state_of old)) (record { phase = refl; count = refl; size = refl }) in
    let stays = subst (λ r. Applies old.talk verdict c.new-request.result.items r c.apply_seen.new.self c.apply_seen.new.out.items) (ap Err c.in-Err-NoMemory.field-0-is) a in
    ap (λ q. state_of (record old { talk = c.apply_seen.new.self; queue = q })) c.in_ok-reserve.ensures.ok ∙ ap (λ t. state_of (record old { talk = t })) stays.talk

pub returns-in-Err-Cause-clause-replies : goal.returns-in-Err-Cause-clause-replies
returns-in-Err-Cause-clause-replies g c =
    let old = c.args.connection.now in
    let verdict = reply_verdict (sight (state_of old)) c.args.head.now.option c.args.head.now.kind c.args.head.now.length c.args.body.now in
    let a = c.in-Err-Cause.ensures (sight (state_of old)) (record { phase = refl; count = refl; size = refl }) in
    let b = subst (λ r. Applies old.talk verdict c.new-request.result.items r c.apply_seen.new.self c.apply_seen.new.out.items) (ap Err c.in-Err-Cause.field-0-is) a in
    let d = subst (λ o. Applies old.talk verdict o (Err (fault.Cause c.in-Err-Cause.cause)) c.apply_seen.new.self c.apply_seen.new.out.items) c.new-request.ensures.items b in
    replied_ill old c.apply_seen.new.self c.push_request.new.queue verdict c.apply_seen.new.out.items c.in-Err-Cause.cause d
    (λ at name wanted e. c.push_request.ensures.waits (writes_in old.commands) at name wanted e ∙ ap (λ q. waits (writes_in old.commands) q ++ map plain (request_at at name wanted)) c.in_ok-reserve.ensures.ok)

pub returns-in-Ok-clause-replies : goal.returns-in-Ok-clause-replies
returns-in-Ok-clause-replies g c =
    let old = c.args.connection.now in
    let verdict = reply_verdict (sight (state_of old)) c.args.head.now.option c.args.head.now.kind c.args.head.now.length c.args.body.now in
    let a = c.in-Ok.ensures (sight (state_of old)) (record { phase = refl; count = refl; size = refl }) in
    let d = subst (λ o. Applies old.talk verdict o (Ok c.in-Ok.field-0) c.apply_seen.new.self c.apply_seen.new.out.items) c.new-request.ensures.items a in
    replied_well old c.apply_seen.new.self c.push_request-in-Ok.new.queue verdict c.apply_seen.new.out.items c.in-Ok.field-0 d
    (λ at name wanted e. c.push_request-in-Ok.ensures.waits (writes_in old.commands) at name wanted e ∙ ap (λ q. waits (writes_in old.commands) q ++ map plain (request_at at name wanted)) c.in_ok-reserve.ensures.ok)

pub returns-in-Err-NoMemory-clause-sound : goal.returns-in-Err-NoMemory-clause-sound
returns-in-Err-NoMemory-clause-sound g c =
    let old = c.args.connection.now in
    let verdict = reply_verdict (sight (state_of old)) c.args.head.now.option c.args.head.now.kind c.args.head.now.length c.args.body.now in
    let a = c.in-Err-NoMemory.ensures (sight (state_of old)) (record { phase = refl; count = refl; size = refl }) in
    let stays = subst (λ r. Applies old.talk verdict c.new-request.result.items r c.apply_seen.new.self c.apply_seen.new.out.items) (ap Err c.in-Err-NoMemory.field-0-is) a in
    queue_sound old old.flags c.apply_seen.new.self c.reserve.new.self c.requires.open c.requires.sound
    (subst (λ q. AllFit (writes_in old.commands) q.pieces) (sym c.in_ok-reserve.ensures.ok) c.requires.sound.fits)
    (subst (λ q. AreAhead (flies_in old.commands) old.written q.pieces) (sym c.in_ok-reserve.ensures.ok) c.requires.sound.ahead)
    (ap (λ q. q.ended) c.in_ok-reserve.ensures.ok ∙ open_queue old c.requires.sound c.requires.open)
    (ap (λ q. ends_in (waits (writes_in old.commands) q)) c.in_ok-reserve.ensures.ok)

pub returns-in-Err-Cause-clause-sound : goal.returns-in-Err-Cause-clause-sound
returns-in-Err-Cause-clause-sound g c =
    let old = c.args.connection.now in
    let verdict = reply_verdict (sight (state_of old)) c.args.head.now.option c.args.head.now.kind c.args.head.now.length c.args.body.now in
    let a = c.in-Err-Cause.ensures (sight (state_of old)) (record { phase = refl; count = refl; size = refl }) in
    let b = subst (λ r. Applies old.talk verdict c.new-request.result.items r c.apply_seen.new.self c.apply_seen.new.out.items) (ap Err c.in-Err-Cause.field-0-is) a in
    queue_sound old old.flags c.apply_seen.new.self c.push_request.new.queue c.requires.open c.requires.sound
    (c.push_request.ensures.fits (writes_in old.commands) (subst (λ q. AllFit (writes_in old.commands) q.pieces) (sym c.in_ok-reserve.ensures.ok) c.requires.sound.fits))
    (c.push_request.ensures.ahead (flies_in old.commands) old.written (subst (λ q. AreAhead (flies_in old.commands) old.written q.pieces) (sym c.in_ok-reserve.ensures.ok) c.requires.sound.ahead))
    c.push_request.ensures.ended
    (c.push_request.ensures.ends (writes_in old.commands) ∙ ap (λ q. ends_in (waits (writes_in old.commands) q)) c.in_ok-reserve.ensures.ok)

pub returns-in-Ok-clause-sound : goal.returns-in-Ok-clause-sound
returns-in-Ok-clause-sound g c =
    let old = c.args.connection.now in
    let verdict = reply_verdict (sight (state_of old)) c.args.head.now.option c.args.head.now.kind c.args.head.now.length c.args.body.now in
    let a = c.in-Ok.ensures (sight (state_of old)) (record { phase = refl; count = refl; size = refl }) in
    queue_sound old old.flags c.apply_seen.new.self c.push_request-in-Ok.new.queue c.requires.open c.requires.sound
    (c.push_request-in-Ok.ensures.fits (writes_in old.commands) (subst (λ q. AllFit (writes_in old.commands) q.pieces) (sym c.in_ok-reserve.ensures.ok) c.requires.sound.fits))
    (c.push_request-in-Ok.ensures.ahead (flies_in old.commands) old.written (subst (λ q. AreAhead (flies_in old.commands) old.written q.pieces) (sym c.in_ok-reserve.ensures.ok) c.requires.sound.ahead))
    c.push_request-in-Ok.ensures.ended
    (c.push_request-in-Ok.ensures.ends (writes_in old.commands) ∙ ap (λ q. ends_in (waits (writes_in old.commands) q)) c.in_ok-reserve.ensures.ok)
