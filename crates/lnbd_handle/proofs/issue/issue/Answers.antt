use Rattle.std.proofs.Common.{◌≡◌, ℕ, ◌++◌, ◌≤◌, false, ap, sym, ◌∙◌, max, subst}
use Rattle.std.specs.Prelude.{is_err}
use Rattle.lnbd_history.specs.Refusals.{sendable_flags}
use Rattle.lnbd_machine.specs.Now.{terms_now}
use Rattle.lnbd_outgoing.specs.Pieces.{head_bytes}
use Rattle.lnbd_outgoing.specs.Queue.{waits, AllFit}
use Rattle.lnbd_commands.specs.Asks.{command_of}
use Rattle.lnbd_handle.specs.Queued.{pieces_of, parts_of}
use Rattle.lnbd_handle.specs.Seen.{state_of}
use Rattle.lnbd_handle.proofs.IssueLemmas.{when_ok, accepted_flags, accepted_open, head_as, head_length, Queues, issue_does, issue_sound}
use Rattle.lnbd_handle.proofs.issue.issue.Given.{Over}
use Rattle.lnbd_handle.proofs.issue.issue.Goals as goal

pub reserve-requires : goal.reserve-requires
reserve-requires g c =
    let old = c.args.connection.now in
    accepted_open old.stage old.talk.phase old.queue.ended _ c.requires.accepted c.requires.sound.stands

pub put-head-requires-clause-flags : goal.put-head-requires-clause-flags
put-head-requires-clause-flags g c =
    let asked = c.args.asked in
    subst (λ (n : ℕ). n ≤ sendable_flags) (sym c.of-head.ensures.flags) (accepted_flags 1024 (terms_now (state_of c.args.connection.now)) asked.kind asked.flags asked.offset asked.length c.requires.accepted)

pub put-head-requires-clause-length : goal.put-head-requires-clause-length
put-head-requires-clause-length g c compact =
    let asked = c.args.asked in
    head_length 1024 (terms_now (state_of c.args.connection.now)) asked.kind asked.flags asked.offset asked.length c.of-head.result.length c.requires.accepted c.of-head.ensures.length (sym c.extended.ensures ∙ compact)

pub queue_request-requires-clause-open : goal.queue_request-requires-clause-open
queue_request-requires-clause-open g c =
    let old = c.args.connection.now in
    let failed : is_err c.reserve.result ≡ false = cc in
    let room : c.reserve.new.self ≡ record old.queue { room = max old.queue.room 2 } = when_ok _ c.reserve.result failed c.reserve.ensures.ok in
    ap (λ q. q.ended) room ∙ accepted_open old.stage old.talk.phase old.queue.ended _ c.requires.accepted c.requires.sound.stands

-- what was queued of the command
queued : (g : Over) (c : goal.After-queue_request g) → Queues c.args.connection.now (command_of c.args.asked) c.queue_request.new.queue
queued g c =
    let old = c.args.connection.now in
    let failed : is_err c.reserve.result ≡ false = cc in
    let room : c.reserve.new.self ≡ record old.queue { room = max old.queue.room 2 } = when_ok _ c.reserve.result failed c.reserve.ensures.ok in
    let cookie_is = c.in-Ok.ensures.cookie ∙ ap (λ x. x.issued) c.in-Ok.ensures.ok in
    let opened = accepted_open old.stage old.talk.phase old.queue.ended _ c.requires.accepted c.requires.sound.stands in
    record {
      head = c.put-head.result;
      cookie = c.in-Ok.cookie;
      size = c.sent_size-size.result;
      cookie_is = cookie_is;
      head_is = c.put-head.ensures ∙ head_as (command_of c.args.asked) old.talk.extended c.extended.result c.of-head.result.kind c.of-head.result.flags c.in-Ok.cookie _ c.of-head.result.offset c.of-head.result.length
          c.extended.ensures c.of-head.ensures.kind c.of-head.ensures.flags cookie_is c.of-head.ensures.offset c.of-head.ensures.length;
      size_is = c.sent_size-size.ensures;
      waits = λ writes. c.queue_request.ensures.waits writes ∙ ap (λ q. waits writes q ++ parts_of (head_bytes c.put-head.result) c.sent_size-size.result (writes c.in-Ok.cookie)) room;
      pieces = c.queue_request.ensures.pieces ∙ ap (λ q. q.pieces ++ pieces_of c.put-head.result c.in-Ok.cookie c.sent_size-size.result) room;
      fits = λ writes sized all. c.queue_request.ensures.fits writes sized (subst (λ q. AllFit writes q.pieces) (sym room) all);
      ended = c.queue_request.ensures.ended ∙ sym opened;
    }

pub returns-clause-ok : goal.returns-clause-ok
returns-clause-ok g c = issue_does c.args.connection.now (command_of c.args.asked) c.queue_request.new.queue c.issue.ensures.sound.issued (queued g c) c.requires.sound c.issue.new.self c.in-Ok.ensures.ok

pub returns-clause-sound : goal.returns-clause-sound
returns-clause-sound g c = issue_sound c.args.connection.now (command_of c.args.asked) c.queue_request.new.queue c.issue.ensures.sound.issued (queued g c) c.requires.sound c.issue.new.self c.in-Ok.ensures.ok
