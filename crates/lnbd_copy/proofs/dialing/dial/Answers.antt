use Rattle.std.proofs.Common.{false, refl, [], ◌∙◌}
use Rattle.lnbd_copy.proofs.DialLemmas.{dials}
use Rattle.lnbd_copy.proofs.PauseLemmas.{unpaused_adds, unpaused_then}
use Rattle.lnbd_copy.proofs.LinkLemmas.{links_connected, links_end, links_refused}
use Rattle.lnbd_copy.proofs.ConnectLemmas.{goes_all}
use Rattle.lnbd_copy.proofs.UnaskedLemmas.{unasked_connects, unasked_idle, unasked_none, unasked_then, unissued_more}
use Rattle.lnbd_copy.proofs.ConnectedLemmas.{connected_adds, connected_same, connected_then}
use Rattle.lnbd_copy.proofs.DrivingLemmas.{one_dials, one_idly, one_none}
use Rattle.lnbd_copy.proofs.IdleLemmas.{idly_adds}
use Rattle.lnbd_copy.proofs.DecidingLemmas.{decides_refused}
use Rattle.lnbd_copy.proofs.PaceLemmas.{tires_none, untired_connects, untired_idly, untired_then}
use Rattle.lnbd_copy.proofs.CalmLemmas.{calm_more}
use Rattle.lnbd_copy.proofs.dialing.dial.Goals as goal

pub returns-in_ok-hold_next-in-Ok-clause-calm : goal.returns-in_ok-hold_next-in-Ok-clause-calm
returns-in_ok-hold_next-in-Ok-clause-calm g c =
    calm_more c.args.sides c.args.board.now _ c.args.handles.now _ c.args.place.now.name c.args.extents c.in-Ok.link c.in_ok-handle.handle.machine c.in_ok-handle.ensures.stands
    (c.in_ok-hold_next-in-Ok.ensures.board ∙ c.in_ok-handle.ensures.board) c.in_ok-hold_next-in-Ok.ensures.held c.requires.calm

pub returns-in_ok-hold_next-in-Ok-clause-dials : goal.returns-in_ok-hold_next-in-Ok-clause-dials
returns-in_ok-hold_next-in-Ok-clause-dials g c =
    dials _ _ _ c.args.place.now c.args.board.now _ _ c.in-Ok.link c.args.extents c.in_ok-handle.handle.machine c.in-Ok.ensures.told c.in-Ok.ensures.fresh c.in_ok-hold_next-in-Ok.ensures.told c.in_ok-handle.ensures.short c.in_ok-handle.ensures.stands c.in_ok-hold_next-in-Ok.ensures.held

pub returns-in_ok-hold_next-in-Ok-clause-unpaused : goal.returns-in_ok-hold_next-in-Ok-clause-unpaused
returns-in_ok-hold_next-in-Ok-clause-unpaused g c = unpaused_then _ _ _ (unpaused_adds _ _ _ refl c.in-Ok.ensures.told) c.hold_next.ensures.unpaused

pub returns-in_ok-hold_next-in-Ok-clause-links : goal.returns-in_ok-hold_next-in-Ok-clause-links
returns-in_ok-hold_next-in-Ok-clause-links g c =
    goes_all _ _ _ _ _ (links_end _ _ _ _ _ _ _ (links_connected c.args.handles.now (record { link = c.in-Ok.link; handle = c.in_ok-handle.handle.machine; inbox = [] }) _ _ _ c.in-Ok.ensures.told c.in-Ok.ensures.fresh) c.in_ok-hold_next-in-Ok.ensures.links)

pub returns-in_ok-hold_next-in-Ok-clause-connects : goal.returns-in_ok-hold_next-in-Ok-clause-connects
returns-in_ok-hold_next-in-Ok-clause-connects g c =
    links_end _ _ _ _ _ _ _ (links_connected c.args.handles.now (record { link = c.in-Ok.link; handle = c.in_ok-handle.handle.machine; inbox = [] }) _ _ _ c.in-Ok.ensures.told c.in-Ok.ensures.fresh) c.in_ok-hold_next-in-Ok.ensures.links

pub returns-in_err-hold_next-in-Ok-clause-links : goal.returns-in_err-hold_next-in-Ok-clause-links
returns-in_err-hold_next-in-Ok-clause-links g c =
    goes_all _ _ _ _ _ (links_end _ _ _ _ _ _ _ (links_connected c.args.handles.now (record { link = c.in-Ok.link; handle = c.in_ok-handle.handle.machine; inbox = [] }) _ _ _ c.in-Ok.ensures.told c.in-Ok.ensures.fresh) c.in_err-hold_next-in-Ok.ensures.links)

pub returns-in-Err-clause-links : goal.returns-in-Err-clause-links
returns-in-Err-clause-links g c =
    goes_all _ _ _ _ _ (links_refused _ _ _ _ c.in-Err.ensures.told)

pub returns-in_ok-hold_next-in-Ok-clause-unissued : goal.returns-in_ok-hold_next-in-Ok-clause-unissued
returns-in_ok-hold_next-in-Ok-clause-unissued g c none =
    unissued_more _ _ _ c.args.extents c.in-Ok.link c.in_ok-handle.handle.machine c.in_ok-handle.ensures.stands c.in_ok-hold_next-in-Ok.ensures.held none

pub returns-in_ok-hold_next-in-Ok-clause-unasked : goal.returns-in_ok-hold_next-in-Ok-clause-unasked
returns-in_ok-hold_next-in-Ok-clause-unasked g c from to there = unasked_then from to _ _ _ (unasked_connects from to c.args.place.now _ _ _ there c.in-Ok.ensures.told) (unasked_idle from to _ _ c.hold_next.ensures.idly)

pub returns-in_err-hold_next-in-Ok-clause-unasked : goal.returns-in_err-hold_next-in-Ok-clause-unasked
returns-in_err-hold_next-in-Ok-clause-unasked g c from to there = unasked_then from to _ _ _ (unasked_connects from to c.args.place.now _ _ _ there c.in-Ok.ensures.told) (unasked_idle from to _ _ c.hold_next.ensures.idly)

pub returns-in-Err-clause-unasked : goal.returns-in-Err-clause-unasked
returns-in-Err-clause-unasked g c from to there = unasked_connects from to c.args.place.now _ _ _ there c.in-Err.ensures.told

pub returns-in_err-handle-clause-unasked : goal.returns-in_err-handle-clause-unasked
returns-in_err-handle-clause-unasked g c from to there = unasked_none from to _

pub returns-in_err-hold_next-in-Ok-clause-unpaused : goal.returns-in_err-hold_next-in-Ok-clause-unpaused
returns-in_err-hold_next-in-Ok-clause-unpaused g c = unpaused_then _ _ _ (unpaused_adds _ _ _ refl c.in-Ok.ensures.told) c.hold_next.ensures.unpaused

pub returns-in_ok-hold_next-in-Ok-clause-connected : goal.returns-in_ok-hold_next-in-Ok-clause-connected
returns-in_ok-hold_next-in-Ok-clause-connected g c = connected_then _ _ _ (connected_adds _ _ _ _ c.in-Ok.ensures.told) (connected_same _ _ c.in_ok-hold_next-in-Ok.ensures.told)

pub returns-in_ok-hold_next-in-Ok-clause-drives : goal.returns-in_ok-hold_next-in-Ok-clause-drives
returns-in_ok-hold_next-in-Ok-clause-drives g c =
    one_dials _ _ _ _ _ _ _ (returns-in_ok-hold_next-in-Ok-clause-dials g c)

pub returns-in_err-hold_next-in-Ok-clause-drives : goal.returns-in_err-hold_next-in-Ok-clause-drives
returns-in_err-hold_next-in-Ok-clause-drives g c =
    one_idly _ _ _ _ _ _ _
    (one_dials _ _ _ _ _ _ _ (dials _ _ _ c.args.place.now c.args.board.now _ _ c.in-Ok.link c.args.extents c.in_ok-handle.handle.machine c.in-Ok.ensures.told c.in-Ok.ensures.fresh refl c.in_ok-handle.ensures.short c.in_ok-handle.ensures.stands refl))
    c.hold_next.ensures.idly

pub returns-in-Err-clause-drives : goal.returns-in-Err-clause-drives
returns-in-Err-clause-drives g c = one_idly _ _ _ _ _ _ _ (one_none _ _ _ _ _) (idly_adds _ _ _ (λ n. refl) (λ n. refl) c.in-Err.ensures.told)

pub returns-in_err-handle-clause-drives : goal.returns-in_err-handle-clause-drives
returns-in_err-handle-clause-drives g c = one_none _ _ _ _ _

pub returns-in-Err-clause-decides : goal.returns-in-Err-clause-decides
returns-in-Err-clause-decides g c = decides_refused _ false _ _ _ _ c.args.place.now.to _ c.requires.calm refl c.in-Err.ensures.told

pub returns-in_ok-hold_next-in-Ok-clause-untried : goal.returns-in_ok-hold_next-in-Ok-clause-untried
returns-in_ok-hold_next-in-Ok-clause-untried g c = untired_then _ _ _ (untired_connects _ _ _ _ c.in-Ok.ensures.told) (untired_idly _ _ c.hold_next.ensures.idly)

pub returns-in_err-hold_next-in-Ok-clause-untried : goal.returns-in_err-hold_next-in-Ok-clause-untried
returns-in_err-hold_next-in-Ok-clause-untried g c = untired_then _ _ _ (untired_connects _ _ _ _ c.in-Ok.ensures.told) (untired_idly _ _ c.hold_next.ensures.idly)

pub returns-in-Err-clause-untried : goal.returns-in-Err-clause-untried
returns-in-Err-clause-untried g c = untired_connects _ _ _ _ c.in-Err.ensures.told

pub returns-in_err-handle-clause-untried : goal.returns-in_err-handle-clause-untried
returns-in_err-handle-clause-untried g c = tires_none 0 _
