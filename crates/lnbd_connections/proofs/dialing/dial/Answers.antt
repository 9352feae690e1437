use Rattle.std.proofs.Common.{[], refl, ◌∙◌, arith}
use Rattle.lnbd_copy.proofs.ConnectedLemmas.{connected_adds, connected_same, connected_then}
use Rattle.lnbd_copy.proofs.LinkLemmas.{links_connected, links_end, links_refused}
use Rattle.lnbd_copy.proofs.PauseLemmas.{unpaused_adds, unpaused_then}
use Rattle.lnbd_connections.proofs.BoundWay.{dialed_binds, dialed_drives}
use Rattle.lnbd_connections.proofs.FewLemmas.{few_adds, few_idly, few_then}
use Rattle.lnbd_connections.proofs.StepLemmas.{dials}
use Rattle.lnbd_connections.proofs.UnreadyLemmas.{awaits_dialed}
use Rattle.lnbd_connections.proofs.UseLemmas.{uses_all, uses_unpaused}
use Rattle.lnbd_connections.proofs.AskLemmas.{dials_only_none, dials_only_one, dials_only_refused}
use Rattle.lnbd_connections.proofs.dialing.dial.Goals as goal

pub returns-in_ok-hold-in-Ok-clause-dials : goal.returns-in_ok-hold-in-Ok-clause-dials
returns-in_ok-hold-in-Ok-clause-dials g c =
    dials _ _ _ c.args.place.now c.args.board.now _ _ c.in-Ok.link c.args.extents c.in_ok-handle.handle.machine c.in-Ok.ensures.told c.in-Ok.ensures.fresh c.in_ok-hold-in-Ok.ensures.told
    c.in_ok-handle.ensures.short c.in_ok-handle.ensures.stands c.in_ok-hold-in-Ok.ensures.held

pub returns-in_ok-hold-in-Ok-clause-connects : goal.returns-in_ok-hold-in-Ok-clause-connects
returns-in_ok-hold-in-Ok-clause-connects g c =
    uses_unpaused _ _ _ _ _ _ _ _ _
    (links_end _ _ _ _ _ _ _ (links_connected c.args.handles.now (record { link = c.in-Ok.link; handle = c.in_ok-handle.handle.machine; inbox = [] }) _ _ _ c.in-Ok.ensures.told c.in-Ok.ensures.fresh)
    c.hold.ensures.links)
    (unpaused_then _ _ _ (unpaused_adds _ _ _ refl c.in-Ok.ensures.told) c.hold.ensures.unpaused) (omega (arith, c.connect.ensures.idles, c.hold.ensures.counts.idles))

pub returns-in_ok-hold-in-Ok-clause-links : goal.returns-in_ok-hold-in-Ok-clause-links
returns-in_ok-hold-in-Ok-clause-links g c = uses_all _ _ _ _ _ _ _ _ _ (returns-in_ok-hold-in-Ok-clause-connects g c)

pub returns-in_err-hold-in-Ok-clause-links : goal.returns-in_err-hold-in-Ok-clause-links
returns-in_err-hold-in-Ok-clause-links g c =
    uses_all _ _ _ _ _ _ _ _ _
    (uses_unpaused _ _ _ _ _ _ _ _ _
    (links_end _ _ _ _ _ _ _ (links_connected c.args.handles.now (record { link = c.in-Ok.link; handle = c.in_ok-handle.handle.machine; inbox = [] }) _ _ _ c.in-Ok.ensures.told c.in-Ok.ensures.fresh)
    c.hold.ensures.links)
    (unpaused_then _ _ _ (unpaused_adds _ _ _ refl c.in-Ok.ensures.told) c.hold.ensures.unpaused) (omega (arith, c.connect.ensures.idles, c.hold.ensures.counts.idles)))

pub returns-in-Err-clause-links : goal.returns-in-Err-clause-links
returns-in-Err-clause-links g c =
    uses_all _ _ _ _ _ _ _ _ _ (uses_unpaused _ _ _ _ _ _ _ _ _ (links_refused _ _ _ _ c.in-Err.ensures.told) (unpaused_adds _ _ _ refl c.in-Err.ensures.told) c.connect.ensures.idles)

pub returns-in_ok-hold-in-Ok-clause-connected : goal.returns-in_ok-hold-in-Ok-clause-connected
returns-in_ok-hold-in-Ok-clause-connected g c = connected_then _ _ _ (connected_adds _ _ _ _ c.in-Ok.ensures.told) (connected_same _ _ c.in_ok-hold-in-Ok.ensures.told)

pub returns-in_ok-hold-in-Ok-clause-unpaused : goal.returns-in_ok-hold-in-Ok-clause-unpaused
returns-in_ok-hold-in-Ok-clause-unpaused g c = unpaused_then _ _ _ (unpaused_adds _ _ _ refl c.in-Ok.ensures.told) c.hold.ensures.unpaused

pub returns-in_ok-hold-in-Ok-clause-awaits : goal.returns-in_ok-hold-in-Ok-clause-awaits
returns-in_ok-hold-in-Ok-clause-awaits g c =
    awaits_dialed _ _ _ c.args.place.now c.args.board.now _ _ _ c.in-Ok.link c.args.extents c.in_ok-handle.handle.machine c.in-Ok.ensures.told c.in-Ok.ensures.fresh c.in_ok-hold-in-Ok.ensures.told
    c.in_ok-handle.ensures.short c.in_ok-handle.ensures.stands c.in_ok-hold-in-Ok.ensures.held (c.in_ok-hold-in-Ok.ensures.board ∙ c.in_ok-handle.ensures.board) (returns-in_ok-hold-in-Ok-clause-dials g c).stand
    (returns-in_ok-hold-in-Ok-clause-connects g c).links (returns-in_ok-hold-in-Ok-clause-unpaused g c)

pub returns-in_err-hold-in-Ok-clause-unpaused : goal.returns-in_err-hold-in-Ok-clause-unpaused
returns-in_err-hold-in-Ok-clause-unpaused g c = unpaused_then _ _ _ (unpaused_adds _ _ _ refl c.in-Ok.ensures.told) c.hold.ensures.unpaused

pub returns-in-Err-clause-unpaused : goal.returns-in-Err-clause-unpaused
returns-in-Err-clause-unpaused g c = unpaused_adds _ _ _ refl c.in-Err.ensures.told

pub returns-in_ok-hold-in-Ok-clause-asks : goal.returns-in_ok-hold-in-Ok-clause-asks
returns-in_ok-hold-in-Ok-clause-asks g c =
    dials_only_one _ _ _ c.args.place.now _ _ c.in-Ok.link c.args.extents c.in_ok-handle.handle.machine c.in-Ok.ensures.told c.in-Ok.ensures.fresh c.in_ok-handle.ensures.short
    c.in_ok-handle.ensures.stands c.hold.ensures.idly

pub returns-in_err-hold-in-Ok-clause-asks : goal.returns-in_err-hold-in-Ok-clause-asks
returns-in_err-hold-in-Ok-clause-asks g c =
    dials_only_one _ _ _ c.args.place.now _ _ c.in-Ok.link c.args.extents c.in_ok-handle.handle.machine c.in-Ok.ensures.told c.in-Ok.ensures.fresh c.in_ok-handle.ensures.short
    c.in_ok-handle.ensures.stands c.hold.ensures.idly

pub returns-in-Err-clause-asks : goal.returns-in-Err-clause-asks
returns-in-Err-clause-asks g c = dials_only_refused c.args.place.now _ _ _ _ c.in-Err.ensures.told

pub returns-in_err-handle-clause-asks : goal.returns-in_err-handle-clause-asks
returns-in_err-handle-clause-asks g c = dials_only_none _ _ _ _

pub returns-in_ok-hold-in-Ok-clause-binds : goal.returns-in_ok-hold-in-Ok-clause-binds
returns-in_ok-hold-in-Ok-clause-binds g c =
    dialed_binds _ _ _ c.args.place.now c.args.board.now _ _ c.in-Ok.link c.args.extents c.in_ok-handle.handle.machine c.in-Ok.ensures.told c.in-Ok.ensures.fresh c.in_ok-hold-in-Ok.ensures.told
    c.in_ok-handle.ensures.short c.in_ok-handle.ensures.stands c.in_ok-hold-in-Ok.ensures.held

pub returns-in_ok-hold-in-Ok-clause-drives : goal.returns-in_ok-hold-in-Ok-clause-drives
returns-in_ok-hold-in-Ok-clause-drives g c =
    dialed_drives _ _ _ c.args.place.now c.args.board.now _ _ c.in-Ok.link c.args.extents c.in_ok-handle.handle.machine c.in-Ok.ensures.told c.in-Ok.ensures.fresh c.in_ok-hold-in-Ok.ensures.told
    c.in_ok-handle.ensures.short c.in_ok-handle.ensures.stands c.in_ok-hold-in-Ok.ensures.held

pub returns-in_ok-hold-in-Ok-clause-few : goal.returns-in_ok-hold-in-Ok-clause-few
returns-in_ok-hold-in-Ok-clause-few g c most start = few_then most start _ _ _ (few_adds most start _ _ _ (λ link. refl) c.connect.ensures.told) (few_idly most start _ _ c.hold.ensures.idly)

pub returns-in_err-hold-in-Ok-clause-few : goal.returns-in_err-hold-in-Ok-clause-few
returns-in_err-hold-in-Ok-clause-few g c most start = few_then most start _ _ _ (few_adds most start _ _ _ (λ link. refl) c.connect.ensures.told) (few_idly most start _ _ c.hold.ensures.idly)

pub returns-in-Err-clause-few : goal.returns-in-Err-clause-few
returns-in-Err-clause-few g c most start = few_adds most start _ _ _ (λ link. refl) c.connect.ensures.told
