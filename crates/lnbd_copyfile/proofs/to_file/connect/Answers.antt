use Rattle.std.proofs.Common.{None, Some, true, ◌<◌, arith, refl, [], ◌-◌, List, ap, length}
use Rattle.lnbd_copy.proofs.CauseLemmas.{goes_then}
use Rattle.lnbd_copy.proofs.ConnectedLemmas.{connected_links, connected_then}
use Rattle.lnbd_connections.proofs.UseLemmas.{uses_all, uses_any, uses_end, uses_none, usesto_any}
use Rattle.lnbd_copyfile.proofs.LinkClauses.{as_told, settled_on, within_first, within_more, within_then}
use Rattle.lnbd_copyfile.proofs.ToFileRunLemmas.{begins_agreed, begins_dialed, begins_settled}
use Rattle.lnbd_copyfile.proofs.to_file.connect.Goals as goal
use Rattle.lnbd_copyfile.specs.ToFile.{beginning}
use Rattle.lnbd_copyfile.proofs.ShareLemmas.{begins_few, drives_dialed, opens, opens_agreed, opens_dialed, opens_settled, terms_later, terms_told}
use Rattle.lnbd_connections.proofs.FewLemmas.{few_then}
use Rattle.lnbd_course.specs.Far.{ToFile}
use Rattle.lnbd_copyfile.proofs.TakenLemmas.{reads_begin, reads_dialed, reads_settled, block_later, was_of_block}
use Rattle.lnbd_poll.specs.Held.{Held}
use Rattle.lnbd_board.specs.declared.ticket.Ticket.{Ticket}
use Rattle.lnbd_copy.proofs.PauseLemmas.{no_pauses}
use Rattle.lnbd_copy.proofs.PausedLemmas.{told_stays}
use Rattle.lnbd_copy.proofs.TurnLemmas.{told_begins}
use Rattle.lnbd_connections.specs.Unready.{IsUnready}
use Rattle.lnbd_copyfile.proofs.ToFilePauseLemmas.{awaits_begun, awaits_further, holds_first, terms_found, terms_on, unready_full}
use Rattle.lnbd_copyfile.proofs.HearingLemmas.{heard_begin, heard_dialed, heard_settled, led_agreed, led_dialed, led_further, led_settled}

pub returns-clause-begins : goal.returns-clause-begins
returns-clause-begins g c =
    let at = c.args.from.now in
    let start = g.W.Wires.told c.args.wires.now in
    let size = Some c.in_ok-terms.terms.size in
    let dialed = begins_dialed at start None 1 _ _ _ _ _ _ c.in_ok-dial.ensures.board c.in_ok-dial.ensures.dials c.requires.begins in
    let agreed = begins_agreed at start c.in_ok-terms.terms.size _ _ _ c.in_ok-terms.ensures.tells (begins_settled at start None _ _ _ _ _ _ c.in_ok-settle.ensures.goes dialed) in
    let further = begins_dialed at start size _ _ _ _ _ _ _ c.in_ok-dial_further.ensures.board c.in_ok-dial_further.ensures.dials agreed in
    begins_settled at start size _ _ _ _ _ _ c.in_ok-settle-2.ensures.goes further

pub returns-clause-some : goal.returns-clause-some
returns-clause-some g c =
    let one = c.in_ok-dial.ensures.dials.stand c.requires.begins.stand in
    let two = c.in_ok-settle.ensures.goes.stand one in
    let three = c.in_ok-dial_further.ensures.dials.stand two in
    omega (arith, c.in_ok-dial.ensures.dials.many, c.in_ok-settle.ensures.goes.many one, c.in_ok-dial_further.ensures.dials.many, c.in_ok-settle-2.ensures.goes.many three)

pub returns-in_err-dial-clause-asks : goal.returns-in_err-dial-clause-asks
returns-in_err-dial-clause-asks g c =
    let at = c.args.from.now in
    let start = g.W.Wires.told c.args.wires.now in
    let first = reads_begin at start _ _ c.requires.well c.requires.begins in
    reads_dialed at None start _ _ _ _ c.requires.begins first c.requires.well c.dial.ensures.asks

pub returns-in_err-settle-clause-asks : goal.returns-in_err-settle-clause-asks
returns-in_err-settle-clause-asks g c =
    let at = c.args.from.now in
    let start = g.W.Wires.told c.args.wires.now in
    let first = reads_begin at start _ _ c.requires.well c.requires.begins in
    let dialed_asks = reads_dialed at None start _ _ _ _ c.requires.begins first c.requires.well c.dial.ensures.asks in
    let dialed = begins_dialed at start None 1 _ _ _ _ _ _ c.in_ok-dial.ensures.board c.in_ok-dial.ensures.dials c.requires.begins in
    reads_settled at None start _ _ _ _ dialed dialed_asks c.settle.ensures.asks

pub returns-in_err-terms-clause-asks : goal.returns-in_err-terms-clause-asks
returns-in_err-terms-clause-asks g c =
    let at = c.args.from.now in
    let start = g.W.Wires.told c.args.wires.now in
    let first = reads_begin at start _ _ c.requires.well c.requires.begins in
    let dialed_asks = reads_dialed at None start _ _ _ _ c.requires.begins first c.requires.well c.dial.ensures.asks in
    let dialed = begins_dialed at start None 1 _ _ _ _ _ _ c.in_ok-dial.ensures.board c.in_ok-dial.ensures.dials c.requires.begins in
    reads_settled at None start _ _ _ _ dialed dialed_asks c.settle.ensures.asks

pub returns-in_err-dial_further-clause-asks : goal.returns-in_err-dial_further-clause-asks
returns-in_err-dial_further-clause-asks g c =
    let at = c.args.from.now in
    let start = g.W.Wires.told c.args.wires.now in
    let first = reads_begin at start _ _ c.requires.well c.requires.begins in
    let dialed_asks = reads_dialed at None start _ _ _ _ c.requires.begins first c.requires.well c.dial.ensures.asks in
    let dialed = begins_dialed at start None 1 _ _ _ _ _ _ c.in_ok-dial.ensures.board c.in_ok-dial.ensures.dials c.requires.begins in
    let settled_asks = reads_settled at None start _ _ _ _ dialed dialed_asks c.settle.ensures.asks in
    let size = Some c.in_ok-terms.terms.size in
    let agreed = begins_agreed at start c.in_ok-terms.terms.size _ _ _ c.in_ok-terms.ensures.tells (begins_settled at start None _ _ _ _ _ _ c.in_ok-settle.ensures.goes dialed) in
    reads_dialed at size start _ _ _ _ agreed settled_asks c.in_ok-settle.ensures.well c.dial_further.ensures.asks

pub returns-in_err-settle-2-clause-asks : goal.returns-in_err-settle-2-clause-asks
returns-in_err-settle-2-clause-asks g c =
    let at = c.args.from.now in
    let start = g.W.Wires.told c.args.wires.now in
    let first = reads_begin at start _ _ c.requires.well c.requires.begins in
    let dialed_asks = reads_dialed at None start _ _ _ _ c.requires.begins first c.requires.well c.dial.ensures.asks in
    let dialed = begins_dialed at start None 1 _ _ _ _ _ _ c.in_ok-dial.ensures.board c.in_ok-dial.ensures.dials c.requires.begins in
    let settled_asks = reads_settled at None start _ _ _ _ dialed dialed_asks c.settle.ensures.asks in
    let size = Some c.in_ok-terms.terms.size in
    let agreed = begins_agreed at start c.in_ok-terms.terms.size _ _ _ c.in_ok-terms.ensures.tells (begins_settled at start None _ _ _ _ _ _ c.in_ok-settle.ensures.goes dialed) in
    let more_asks = reads_dialed at size start _ _ _ _ agreed settled_asks c.in_ok-settle.ensures.well c.dial_further.ensures.asks in
    let further = begins_dialed at start size _ _ _ _ _ _ _ c.in_ok-dial_further.ensures.board c.in_ok-dial_further.ensures.dials agreed in
    reads_settled at size start _ _ _ _ further more_asks c.settle-2.ensures.asks

pub returns-clause-asks : goal.returns-clause-asks
returns-clause-asks g c =
    let at = c.args.from.now in
    let start = g.W.Wires.told c.args.wires.now in
    let first = reads_begin at start _ _ c.requires.well c.requires.begins in
    let dialed_asks = reads_dialed at None start _ _ _ _ c.requires.begins first c.requires.well c.dial.ensures.asks in
    let dialed = begins_dialed at start None 1 _ _ _ _ _ _ c.in_ok-dial.ensures.board c.in_ok-dial.ensures.dials c.requires.begins in
    let settled_asks = reads_settled at None start _ _ _ _ dialed dialed_asks c.settle.ensures.asks in
    let size = Some c.in_ok-terms.terms.size in
    let agreed = begins_agreed at start c.in_ok-terms.terms.size _ _ _ c.in_ok-terms.ensures.tells (begins_settled at start None _ _ _ _ _ _ c.in_ok-settle.ensures.goes dialed) in
    let more_asks = reads_dialed at size start _ _ _ _ agreed settled_asks c.in_ok-settle.ensures.well c.dial_further.ensures.asks in
    let further = begins_dialed at start size _ _ _ _ _ _ _ c.in_ok-dial_further.ensures.board c.in_ok-dial_further.ensures.dials agreed in
    reads_settled at size start _ _ _ _ further more_asks c.settle-2.ensures.asks

pub returns-clause-blocks : goal.returns-clause-blocks
returns-clause-blocks g c =
    let at = c.args.from.now in
    let start = g.W.Wires.told c.args.wires.now in
    let size = Some c.in_ok-terms.terms.size in
    let block = c.in_ok-terms.terms.grain in
    let dialed = begins_dialed at start None 1 _ _ _ _ _ _ c.in_ok-dial.ensures.board c.in_ok-dial.ensures.dials c.requires.begins in
    let settled = begins_settled at start None _ _ _ _ _ _ c.in_ok-settle.ensures.goes dialed in
    let agreed = begins_agreed at start c.in_ok-terms.terms.size _ _ _ c.in_ok-terms.ensures.tells settled in
    let further = begins_dialed at start size _ _ _ _ _ _ _ c.in_ok-dial_further.ensures.board c.in_ok-dial_further.ensures.dials agreed in
    let first = was_of_block at None block start _ _ _ c.in_ok-terms.ensures.blocks settled in
    block_later at block start _ _ (c.settle-2.ensures.asks.lasts further.stand) (block_later at block start _ _ c.dial_further.ensures.asks.lasts first)

pub returns-clause-opens : goal.returns-clause-opens
returns-clause-opens g c =
    let at = c.args.from.now in
    let start = g.W.Wires.told c.args.wires.now in
    let size = Some c.in_ok-terms.terms.size in
    let one = c.in_ok-dial.ensures.dials.stand c.requires.begins.stand in
    let two = c.in_ok-settle.ensures.goes.stand one in
    let three = c.in_ok-dial_further.ensures.dials.stand two in
    let dialed = opens_dialed at start None _ _ _ _ _ _ c.in_ok-dial.ensures.board c.in_ok-dial.ensures.binds (opens at start _ _ c.requires.begins) in
    let settled = opens_settled at start None _ _ _ _ _ _ (c.in_ok-settle.ensures.goes.filed one) one c.in_ok-settle.ensures.binds dialed in
    let agreed = opens_agreed at start c.in_ok-terms.terms.size _ _ _ c.in_ok-terms.ensures.tells settled in
    let further = opens_dialed at start size _ _ _ _ _ _ c.in_ok-dial_further.ensures.board c.in_ok-dial_further.ensures.binds agreed in
    opens_settled at start size _ _ _ _ _ _ (c.in_ok-settle-2.ensures.goes.filed three) three c.in_ok-settle-2.ensures.binds further

pub returns-clause-led : goal.returns-clause-led
returns-clause-led g c =
    let extents = c.args.options.extents in
    let at = c.args.from.now in
    let start = g.W.Wires.told c.args.wires.now in
    let size = Some c.in_ok-terms.terms.size in
    let one = c.in_ok-dial.ensures.dials.stand c.requires.begins.stand in
    let two = c.in_ok-settle.ensures.goes.stand one in
    let three = c.in_ok-dial_further.ensures.dials.stand two in
    let some : 0 < length c.settle.new.handles = omega (arith, c.in_ok-dial.ensures.dials.many, c.in_ok-settle.ensures.goes.many one) in
    let dialed = led_dialed extents at start _ _ _ _ _ _ c.in_ok-dial.ensures.board c.requires.none c.in_ok-dial.ensures.drives (opens at start _ _ c.requires.begins) in
    let settled = led_settled extents at start None _ _ _ _ _ _ (c.in_ok-settle.ensures.goes.filed one) one c.in_ok-settle.ensures.binds dialed in
    let agreed = led_agreed extents at start c.in_ok-terms.terms.size _ _ _ c.in_ok-terms.ensures.tells settled in
    let further = led_further extents at start size _ _ _ _ _ _ c.in_ok-dial_further.ensures.board some c.in_ok-dial_further.ensures.binds agreed in
    led_settled extents at start size _ _ _ _ _ _ (c.in_ok-settle-2.ensures.goes.filed three) three c.in_ok-settle-2.ensures.binds further

pub returns-clause-settles : goal.returns-clause-settles
returns-clause-settles g c =
    let at = c.args.from.now in
    let start = g.W.Wires.told c.args.wires.now in
    let size = Some c.in_ok-terms.terms.size in
    let one = c.in_ok-dial.ensures.dials.stand c.requires.begins.stand in
    let dialed = begins_dialed at start None 1 _ _ _ _ _ _ c.in_ok-dial.ensures.board c.in_ok-dial.ensures.dials c.requires.begins in
    let agreed = begins_agreed at start c.in_ok-terms.terms.size _ _ _ c.in_ok-terms.ensures.tells (begins_settled at start None _ _ _ _ _ _ c.in_ok-settle.ensures.goes dialed) in
    let further = begins_dialed at start size _ _ _ _ _ _ _ c.in_ok-dial_further.ensures.board c.in_ok-dial_further.ensures.dials agreed in
    terms_later c.args.options at 0 start start _ _ c.in_ok-terms.terms
    (few_then 0 start _ _ _ (c.dial_further.ensures.few 0 start) (begins_few at size start _ _ _ _ further c.settle-2.ensures.few))
    (terms_told c.args.options at None c.args.board.now.how _ _ start _ c.in_ok-terms.terms c.in_ok-terms.ensures.settles
    (c.in_ok-settle.ensures.binds.drives c.args.options.extents (ToFile []) (beginning at None c.args.board.now.how) start one
    (drives_dialed at c.args.options.extents start _ _ _ _ _ _ c.in_ok-dial.ensures.board c.requires.none c.in_ok-dial.ensures.drives (opens at start _ _ c.requires.begins))))

pub returns-in_err-dial-clause-few : goal.returns-in_err-dial-clause-few
returns-in_err-dial-clause-few g c = c.dial.ensures.few 0 (g.W.Wires.told c.args.wires.now)

pub returns-in_err-settle-clause-few : goal.returns-in_err-settle-clause-few
returns-in_err-settle-clause-few g c =
    let at = c.args.from.now in
    let start = g.W.Wires.told c.args.wires.now in
    let dialed = begins_dialed at start None 1 _ _ _ _ _ _ c.in_ok-dial.ensures.board c.in_ok-dial.ensures.dials c.requires.begins in
    few_then 0 start _ _ _ (c.dial.ensures.few 0 start) (begins_few at None start _ _ _ _ dialed c.settle.ensures.few)

pub returns-in_err-terms-clause-few : goal.returns-in_err-terms-clause-few
returns-in_err-terms-clause-few g c =
    let at = c.args.from.now in
    let start = g.W.Wires.told c.args.wires.now in
    let dialed = begins_dialed at start None 1 _ _ _ _ _ _ c.in_ok-dial.ensures.board c.in_ok-dial.ensures.dials c.requires.begins in
    few_then 0 start _ _ _ (c.dial.ensures.few 0 start) (begins_few at None start _ _ _ _ dialed c.settle.ensures.few)

pub returns-in_err-dial_further-clause-few : goal.returns-in_err-dial_further-clause-few
returns-in_err-dial_further-clause-few g c =
    let at = c.args.from.now in
    let start = g.W.Wires.told c.args.wires.now in
    let dialed = begins_dialed at start None 1 _ _ _ _ _ _ c.in_ok-dial.ensures.board c.in_ok-dial.ensures.dials c.requires.begins in
    few_then 0 start _ _ _ (few_then 0 start _ _ _ (c.dial.ensures.few 0 start) (begins_few at None start _ _ _ _ dialed c.settle.ensures.few)) (c.dial_further.ensures.few 0 start)

pub returns-in_err-settle-2-clause-few : goal.returns-in_err-settle-2-clause-few
returns-in_err-settle-2-clause-few g c =
    let at = c.args.from.now in
    let start = g.W.Wires.told c.args.wires.now in
    let size = Some c.in_ok-terms.terms.size in
    let dialed = begins_dialed at start None 1 _ _ _ _ _ _ c.in_ok-dial.ensures.board c.in_ok-dial.ensures.dials c.requires.begins in
    let agreed = begins_agreed at start c.in_ok-terms.terms.size _ _ _ c.in_ok-terms.ensures.tells (begins_settled at start None _ _ _ _ _ _ c.in_ok-settle.ensures.goes dialed) in
    let further = begins_dialed at start size _ _ _ _ _ _ _ c.in_ok-dial_further.ensures.board c.in_ok-dial_further.ensures.dials agreed in
    few_then 0 start _ _ _ (few_then 0 start _ _ _ (c.dial.ensures.few 0 start) (begins_few at None start _ _ _ _ dialed c.settle.ensures.few))
    (few_then 0 start _ _ _ (c.dial_further.ensures.few 0 start) (begins_few at size start _ _ _ _ further c.settle-2.ensures.few))

pub returns-clause-few : goal.returns-clause-few
returns-clause-few g c =
    let at = c.args.from.now in
    let start = g.W.Wires.told c.args.wires.now in
    let size = Some c.in_ok-terms.terms.size in
    let dialed = begins_dialed at start None 1 _ _ _ _ _ _ c.in_ok-dial.ensures.board c.in_ok-dial.ensures.dials c.requires.begins in
    let agreed = begins_agreed at start c.in_ok-terms.terms.size _ _ _ c.in_ok-terms.ensures.tells (begins_settled at start None _ _ _ _ _ _ c.in_ok-settle.ensures.goes dialed) in
    let further = begins_dialed at start size _ _ _ _ _ _ _ c.in_ok-dial_further.ensures.board c.in_ok-dial_further.ensures.dials agreed in
    few_then 0 start _ _ _ (few_then 0 start _ _ _ (c.dial.ensures.few 0 start) (begins_few at None start _ _ _ _ dialed c.settle.ensures.few))
    (few_then 0 start _ _ _ (c.dial_further.ensures.few 0 start) (begins_few at size start _ _ _ _ further c.settle-2.ensures.few))

pub returns-in_err-dial-clause-within : goal.returns-in_err-dial-clause-within
returns-in_err-dial-clause-within g c = within_first _ _ _ _ _ _ _ _ _ (usesto_any _ _ _ _ _ _ _ _ _ c.dial.ensures.links)

pub returns-in_err-settle-clause-within : goal.returns-in_err-settle-clause-within
returns-in_err-settle-clause-within g c =
    let one = c.in_ok-dial.ensures.dials.stand c.requires.begins.stand in
    within_first _ _ _ _ _ _ _ _ _ (uses_all _ _ _ _ _ _ _ _ _ (uses_end _ _ _ _ _ _ _ _ _ _ _ _ c.in_ok-dial.ensures.connects (c.settle.ensures.uses one)))

pub returns-in_err-terms-clause-within : goal.returns-in_err-terms-clause-within
returns-in_err-terms-clause-within g c =
    let one = c.in_ok-dial.ensures.dials.stand c.requires.begins.stand in
    within_first _ _ _ _ _ _ _ _ _
    (uses_all _ _ _ _ _ _ _ _ _ (uses_end _ _ _ _ _ _ _ _ _ _ _ _ c.in_ok-dial.ensures.connects (uses_any _ _ _ _ _ _ _ _ _ (c.in_ok-settle.ensures.settles one))))

pub returns-in_err-dial_further-clause-within : goal.returns-in_err-dial_further-clause-within
returns-in_err-dial_further-clause-within g c =
    let at = c.args.from.now in
    let start = g.W.Wires.told c.args.wires.now in
    let one = c.in_ok-dial.ensures.dials.stand c.requires.begins.stand in
    let dialed = begins_dialed at start None 1 _ _ _ _ _ _ c.in_ok-dial.ensures.board c.in_ok-dial.ensures.dials c.requires.begins in
    let agreed = begins_agreed at start c.in_ok-terms.terms.size _ _ _ c.in_ok-terms.ensures.tells (begins_settled at start None _ _ _ _ _ _ c.in_ok-settle.ensures.goes dialed) in
    within_more _ _ _ c.in_ok-terms.terms.sides.source _ _ _ _ _ _ _ _ _ (settled_on _ _ _ _ _ at start _ _ refl c.in_ok-terms.ensures.many agreed.on)
    (uses_end _ _ _ _ _ _ _ _ _ _ _ _ c.in_ok-dial.ensures.connects (c.in_ok-settle.ensures.settles one)) (usesto_any _ _ _ _ _ _ _ _ _ c.dial_further.ensures.links)

pub returns-in_err-settle-2-clause-within : goal.returns-in_err-settle-2-clause-within
returns-in_err-settle-2-clause-within g c =
    let at = c.args.from.now in
    let start = g.W.Wires.told c.args.wires.now in
    let one = c.in_ok-dial.ensures.dials.stand c.requires.begins.stand in
    let three = c.in_ok-dial_further.ensures.dials.stand (c.in_ok-settle.ensures.goes.stand one) in
    let dialed = begins_dialed at start None 1 _ _ _ _ _ _ c.in_ok-dial.ensures.board c.in_ok-dial.ensures.dials c.requires.begins in
    let agreed = begins_agreed at start c.in_ok-terms.terms.size _ _ _ c.in_ok-terms.ensures.tells (begins_settled at start None _ _ _ _ _ _ c.in_ok-settle.ensures.goes dialed) in
    within_more _ _ _ c.in_ok-terms.terms.sides.source _ _ _ _ _ _ _ _ _ (settled_on _ _ _ _ _ at start _ _ refl c.in_ok-terms.ensures.many agreed.on)
    (uses_end _ _ _ _ _ _ _ _ _ _ _ _ c.in_ok-dial.ensures.connects (c.in_ok-settle.ensures.settles one))
    (uses_all _ _ _ _ _ _ _ _ _ (uses_end _ _ _ _ _ _ _ _ _ _ _ _ c.in_ok-dial_further.ensures.connects (c.settle-2.ensures.uses three)))

pub returns-clause-connects : goal.returns-clause-connects
returns-clause-connects g c =
    let at = c.args.from.now in
    let start = g.W.Wires.told c.args.wires.now in
    let one = c.in_ok-dial.ensures.dials.stand c.requires.begins.stand in
    let three = c.in_ok-dial_further.ensures.dials.stand (c.in_ok-settle.ensures.goes.stand one) in
    let settles = c.in_ok-settle.ensures.settles one in
    let settles2 = c.in_ok-settle-2.ensures.settles three in
    let dialed = begins_dialed at start None 1 _ _ _ _ _ _ c.in_ok-dial.ensures.board c.in_ok-dial.ensures.dials c.requires.begins in
    let agreed = begins_agreed at start c.in_ok-terms.terms.size _ _ _ c.in_ok-terms.ensures.tells (begins_settled at start None _ _ _ _ _ _ c.in_ok-settle.ensures.goes dialed) in
    as_told _ _ _ c.in_ok-terms.terms.sides.source _ _ _ _ _ _ _ _ _ (settled_on _ _ _ _ _ at start _ _ refl c.in_ok-terms.ensures.many agreed.on)
    (uses_end _ _ _ _ _ _ _ _ _ _ _ _ c.in_ok-dial.ensures.connects settles) (uses_end _ _ _ _ _ _ _ _ _ _ _ _ c.in_ok-dial_further.ensures.connects settles2)
    (connected_then _ _ _ c.in_ok-dial.ensures.connected (connected_links _ _ _ _ settles.links)) (connected_then _ _ _ c.in_ok-dial_further.ensures.connected (connected_links _ _ _ _ settles2.links))

pub returns-clause-within : goal.returns-clause-within
returns-clause-within g c = within_then _ _ _ _ _ _ _ _ _ _ _ _ (returns-clause-connects g c) (uses_none true _ _ _ _)

pub returns-in_err-dial-clause-unready : goal.returns-in_err-dial-clause-unready
returns-in_err-dial-clause-unready g c =
    let at = c.args.from.now in
    let start = g.W.Wires.told c.args.wires.now in
    let extents = c.args.options.extents in
    told_stays start start _ c.dial.ensures.unpaused (told_begins start (no_pauses (IsUnready extents at)))

pub returns-in_err-settle-clause-unready : goal.returns-in_err-settle-clause-unready
returns-in_err-settle-clause-unready g c =
    let at = c.args.from.now in
    let start = g.W.Wires.told c.args.wires.now in
    let extents = c.args.options.extents in
    let first = awaits_begun at extents start _ _ _ _ _ c.requires.none c.requires.begins c.in_ok-dial.ensures.awaits in
    c.settle.ensures.unready.on extents (ToFile []) _ start first

pub returns-in_err-terms-clause-unready : goal.returns-in_err-terms-clause-unready
returns-in_err-terms-clause-unready g c =
    let at = c.args.from.now in
    let start = g.W.Wires.told c.args.wires.now in
    let extents = c.args.options.extents in
    let first = awaits_begun at extents start _ _ _ _ _ c.requires.none c.requires.begins c.in_ok-dial.ensures.awaits in
    c.settle.ensures.unready.on extents (ToFile []) _ start first

pub returns-in_err-dial_further-clause-unready : goal.returns-in_err-dial_further-clause-unready
returns-in_err-dial_further-clause-unready g c =
    let at = c.args.from.now in
    let start = g.W.Wires.told c.args.wires.now in
    let extents = c.args.options.extents in
    let first = awaits_begun at extents start _ _ _ _ _ c.requires.none c.requires.begins c.in_ok-dial.ensures.awaits in
    told_stays start _ _ c.dial_further.ensures.unpaused (c.settle.ensures.unready.on extents (ToFile []) _ start first)

pub returns-in_err-settle-2-clause-unready : goal.returns-in_err-settle-2-clause-unready
returns-in_err-settle-2-clause-unready g c =
    let at = c.args.from.now in
    let start = g.W.Wires.told c.args.wires.now in
    let extents = c.args.options.extents in
    let first = awaits_begun at extents start _ _ _ _ _ c.requires.none c.requires.begins c.in_ok-dial.ensures.awaits in
    let one = c.in_ok-dial.ensures.dials.stand c.requires.begins.stand in
    let further = awaits_further at extents _ _ start _ _ _ _ _ _ _ _ _ c.in_ok-dial.ensures.dials.many (c.in_ok-settle.ensures.goes.many one) c.in_ok-settle.ensures.awaits
    c.in_ok-dial_further.ensures.awaits first in
    c.settle-2.ensures.unready.on extents (ToFile []) _ start further

pub returns-clause-unready : goal.returns-clause-unready
returns-clause-unready g c =
    let at = c.args.from.now in
    let start = g.W.Wires.told c.args.wires.now in
    let extents = c.args.options.extents in
    let first = awaits_begun at extents start _ _ _ _ _ c.requires.none c.requires.begins c.in_ok-dial.ensures.awaits in
    let one = c.in_ok-dial.ensures.dials.stand c.requires.begins.stand in
    let further = awaits_further at extents _ _ start _ _ _ _ _ _ _ _ _ c.in_ok-dial.ensures.dials.many (c.in_ok-settle.ensures.goes.many one) c.in_ok-settle.ensures.awaits
    c.in_ok-dial_further.ensures.awaits first in
    c.settle-2.ensures.unready.on extents (ToFile []) _ start further

pub returns-clause-ready : goal.returns-clause-ready
returns-clause-ready g c =
    let at = c.args.from.now in
    let start = g.W.Wires.told c.args.wires.now in
    let one = c.in_ok-dial.ensures.dials.stand c.requires.begins.stand in
    let two = c.in_ok-settle.ensures.goes.stand one in
    let three = c.in_ok-dial_further.ensures.dials.stand two in
    let dialed = begins_dialed at start None 1 _ _ _ _ _ _ c.in_ok-dial.ensures.board c.in_ok-dial.ensures.dials c.requires.begins in
    let settled = begins_settled at start None _ _ _ _ _ _ c.in_ok-settle.ensures.goes dialed in
    let made = uses_end _ _ _ _ _ _ _ _ _ _ _ _ c.in_ok-dial_further.ensures.connects (c.in_ok-settle-2.ensures.settles three) in
    let none = ap (λ (l : List (Held Ticket)). length l) c.requires.none in
    record {
      holds = holds_first c.args.start.idles (c.in_ok-terms.terms.sides.source - 1) at.to c.args.handles.now c.settle.new.handles _ _ _ _ _ _ _ c.requires.none
          (uses_end _ _ _ _ _ _ _ _ _ _ _ _ c.in_ok-dial.ensures.connects (c.in_ok-settle.ensures.settles one)) made
          (omega (arith, none, c.in_ok-dial.ensures.dials.many, c.in_ok-settle.ensures.goes.many one, c.in_ok-dial_further.ensures.dials.many, c.in_ok-settle-2.ensures.goes.many three));
      settled = terms_on c.settle.new.handles c.settle-2.new.handles start _ _ c.args.options at c.in_ok-terms.terms c.in_ok-terms.terms made.links.lasts refl
          (terms_found c.args.options at None start _ _ _ c.in_ok-terms.terms c.in_ok-terms.ensures.settles settled);
      pauses = unready_full c.args.options at start _ (returns-clause-unready g c);
    }

pub returns-in_err-dial_further-clause-counts : goal.returns-in_err-dial_further-clause-counts
returns-in_err-dial_further-clause-counts g c = goes_then _ _ _ _ _ _ _ _ _ c.dial.ensures.counts (goes_then _ _ _ _ _ _ _ _ _ c.settle.ensures.counts c.dial_further.ensures.counts)

pub returns-in_err-settle-2-clause-counts : goal.returns-in_err-settle-2-clause-counts
returns-in_err-settle-2-clause-counts g c =
    goes_then _ _ _ _ _ _ _ _ _ c.dial.ensures.counts
    (goes_then _ _ _ _ _ _ _ _ _ c.settle.ensures.counts (goes_then _ _ _ _ _ _ _ _ _ c.dial_further.ensures.counts c.settle-2.ensures.counts))

pub returns-clause-counts : goal.returns-clause-counts
returns-clause-counts g c =
    goes_then _ _ _ _ _ _ _ _ _ c.dial.ensures.counts
    (goes_then _ _ _ _ _ _ _ _ _ c.settle.ensures.counts (goes_then _ _ _ _ _ _ _ _ _ c.dial_further.ensures.counts c.settle-2.ensures.counts))

pub returns-in_err-dial-clause-heard : goal.returns-in_err-dial-clause-heard
returns-in_err-dial-clause-heard g c =
    let at = c.args.from.now in
    let start = g.W.Wires.told c.args.wires.now in
    let first = heard_begin c.args.options.extents at start _ _ c.requires.well c.requires.begins in
    heard_dialed c.args.options.extents at None start _ _ _ _ c.requires.begins first c.requires.well c.dial.ensures.asks

pub returns-in_err-settle-clause-heard : goal.returns-in_err-settle-clause-heard
returns-in_err-settle-clause-heard g c =
    let at = c.args.from.now in
    let start = g.W.Wires.told c.args.wires.now in
    let first = heard_begin c.args.options.extents at start _ _ c.requires.well c.requires.begins in
    let dialed_heard = heard_dialed c.args.options.extents at None start _ _ _ _ c.requires.begins first c.requires.well c.dial.ensures.asks in
    let dialed = begins_dialed at start None 1 _ _ _ _ _ _ c.in_ok-dial.ensures.board c.in_ok-dial.ensures.dials c.requires.begins in
    heard_settled c.args.options.extents at None start _ _ _ _ dialed dialed_heard c.settle.ensures.asks

pub returns-in_err-terms-clause-heard : goal.returns-in_err-terms-clause-heard
returns-in_err-terms-clause-heard g c =
    let at = c.args.from.now in
    let start = g.W.Wires.told c.args.wires.now in
    let first = heard_begin c.args.options.extents at start _ _ c.requires.well c.requires.begins in
    let dialed_heard = heard_dialed c.args.options.extents at None start _ _ _ _ c.requires.begins first c.requires.well c.dial.ensures.asks in
    let dialed = begins_dialed at start None 1 _ _ _ _ _ _ c.in_ok-dial.ensures.board c.in_ok-dial.ensures.dials c.requires.begins in
    heard_settled c.args.options.extents at None start _ _ _ _ dialed dialed_heard c.settle.ensures.asks

pub returns-in_err-dial_further-clause-heard : goal.returns-in_err-dial_further-clause-heard
returns-in_err-dial_further-clause-heard g c =
    let at = c.args.from.now in
    let start = g.W.Wires.told c.args.wires.now in
    let first = heard_begin c.args.options.extents at start _ _ c.requires.well c.requires.begins in
    let dialed_heard = heard_dialed c.args.options.extents at None start _ _ _ _ c.requires.begins first c.requires.well c.dial.ensures.asks in
    let dialed = begins_dialed at start None 1 _ _ _ _ _ _ c.in_ok-dial.ensures.board c.in_ok-dial.ensures.dials c.requires.begins in
    let settled_heard = heard_settled c.args.options.extents at None start _ _ _ _ dialed dialed_heard c.settle.ensures.asks in
    let size = Some c.in_ok-terms.terms.size in
    let agreed = begins_agreed at start c.in_ok-terms.terms.size _ _ _ c.in_ok-terms.ensures.tells (begins_settled at start None _ _ _ _ _ _ c.in_ok-settle.ensures.goes dialed) in
    heard_dialed c.args.options.extents at size start _ _ _ _ agreed settled_heard c.in_ok-settle.ensures.well c.dial_further.ensures.asks

pub returns-in_err-settle-2-clause-heard : goal.returns-in_err-settle-2-clause-heard
returns-in_err-settle-2-clause-heard g c =
    let at = c.args.from.now in
    let start = g.W.Wires.told c.args.wires.now in
    let first = heard_begin c.args.options.extents at start _ _ c.requires.well c.requires.begins in
    let dialed_heard = heard_dialed c.args.options.extents at None start _ _ _ _ c.requires.begins first c.requires.well c.dial.ensures.asks in
    let dialed = begins_dialed at start None 1 _ _ _ _ _ _ c.in_ok-dial.ensures.board c.in_ok-dial.ensures.dials c.requires.begins in
    let settled_heard = heard_settled c.args.options.extents at None start _ _ _ _ dialed dialed_heard c.settle.ensures.asks in
    let size = Some c.in_ok-terms.terms.size in
    let agreed = begins_agreed at start c.in_ok-terms.terms.size _ _ _ c.in_ok-terms.ensures.tells (begins_settled at start None _ _ _ _ _ _ c.in_ok-settle.ensures.goes dialed) in
    let more_heard = heard_dialed c.args.options.extents at size start _ _ _ _ agreed settled_heard c.in_ok-settle.ensures.well c.dial_further.ensures.asks in
    let further = begins_dialed at start size _ _ _ _ _ _ _ c.in_ok-dial_further.ensures.board c.in_ok-dial_further.ensures.dials agreed in
    heard_settled c.args.options.extents at size start _ _ _ _ further more_heard c.settle-2.ensures.asks

pub returns-clause-heard : goal.returns-clause-heard
returns-clause-heard g c =
    let at = c.args.from.now in
    let start = g.W.Wires.told c.args.wires.now in
    let first = heard_begin c.args.options.extents at start _ _ c.requires.well c.requires.begins in
    let dialed_heard = heard_dialed c.args.options.extents at None start _ _ _ _ c.requires.begins first c.requires.well c.dial.ensures.asks in
    let dialed = begins_dialed at start None 1 _ _ _ _ _ _ c.in_ok-dial.ensures.board c.in_ok-dial.ensures.dials c.requires.begins in
    let settled_heard = heard_settled c.args.options.extents at None start _ _ _ _ dialed dialed_heard c.settle.ensures.asks in
    let size = Some c.in_ok-terms.terms.size in
    let agreed = begins_agreed at start c.in_ok-terms.terms.size _ _ _ c.in_ok-terms.ensures.tells (begins_settled at start None _ _ _ _ _ _ c.in_ok-settle.ensures.goes dialed) in
    let more_heard = heard_dialed c.args.options.extents at size start _ _ _ _ agreed settled_heard c.in_ok-settle.ensures.well c.dial_further.ensures.asks in
    let further = begins_dialed at start size _ _ _ _ _ _ _ c.in_ok-dial_further.ensures.board c.in_ok-dial_further.ensures.dials agreed in
    heard_settled c.args.options.extents at size start _ _ _ _ further more_heard c.settle-2.ensures.asks
