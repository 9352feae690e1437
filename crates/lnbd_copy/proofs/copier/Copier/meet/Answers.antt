use Rattle.std.proofs.Common.{List, false, ◌∙◌, ◌<◌, [], ◌∷◌, ap, sym, subst, arith, length}
use Rattle.lnbd_copy.specs.Agreed.{AreQuiet}
use Rattle.lnbd_copy.specs.Copier.{Seen}
use Rattle.lnbd_copy.proofs.AlikeLemmas.{terms_known}
use Rattle.lnbd_copy.proofs.CauseLemmas.{goes_then}
use Rattle.lnbd_copy.proofs.CopierLemmas.{always_on_ok, dials_as, if_ok_both, if_ok_leads, kept_then, meets, two_meet}
use Rattle.lnbd_copy.proofs.DecidedLemmas.{decided_grounded}
use Rattle.lnbd_copy.proofs.GroundLemmas.{found_fails, found_terms, if_err_leads, handed_on}
use Rattle.lnbd_poll.specs.Held.{Held, max_held}
use Rattle.lnbd_board.specs.declared.ticket.Ticket.{Ticket}
use Rattle.lnbd_copy.specs.Way.{Stand}
use Rattle.lnbd_copy.proofs.PauseLemmas.{pauses_then, pauses_unpaused}
use Rattle.lnbd_copy.proofs.ConnectLemmas.{both_made, goes_all, goes_wider, second_fails}
use Rattle.lnbd_copy.proofs.LinkLemmas.{links_end}
use Rattle.lnbd_copy.proofs.LittleLemmas.{both_little, source_dials, source_little}
use Rattle.lnbd_copy.proofs.TriedLemmas.{tries_anyhow, tries_then, tries_unpaused}
use Rattle.lnbd_copy.proofs.TurnLemmas.{none_stand}
use Rattle.lnbd_copy.proofs.PausedLemmas.{meet_unready, source_dialled, source_unready, told_stays}
use Rattle.lnbd_copy.proofs.UnaskedLemmas.{both_unasked, both_unissued, source_unasked, stays_kept}
use Rattle.lnbd_copy.proofs.ConnectedLemmas.{connected_links, connected_then}
use Rattle.lnbd_copy.proofs.DrivingLemmas.{destination_dialed, destination_settled, one_as, source_dialed, source_settled}
use Rattle.lnbd_copy.proofs.MeetLemmas.{begins_decided, destination_decided, second_decided, source_decided, terms_decided}
use Rattle.lnbd_copy.proofs.PatientLemmas.{always_if_err, patient_any, patient_settles, patient_then, patient_unpaused}
use Rattle.lnbd_copy.proofs.PaceLemmas.{pace_fewer, pace_untired}
use Rattle.lnbd_copy.proofs.PaceMeets.{meet_paced, source_paced, source_tried}
use Rattle.lnbd_copy.proofs.CalmLemmas.{calm_none}
use Rattle.lnbd_copy.proofs.copier.Copier.meet.Goals as goal

pub dial_source-requires-clause-calm : goal.dial_source-requires-clause-calm
dial_source-requires-clause-calm g c = calm_none _ _ _ c.requires.begun.held c.requires.begun.well

pub returns-clause-calm : goal.returns-clause-calm
returns-clause-calm g c = always_on_ok c.agree.result c.in_ok-settle-2.ensures.calm

pub dial_source-requires-clause-few : goal.dial_source-requires-clause-few
dial_source-requires-clause-few g c = subst (λ (l : List (Held Ticket)). length l < max_held) (sym c.requires.begun.held) (omega arith)

pub dial_destination-requires-clause-few : goal.dial_destination-requires-clause-few
dial_destination-requires-clause-few g c =
    let begun = subst (λ (l : List (Held Ticket)). Stand l) (sym c.requires.begun.held) none_stand in
    let none = ap (λ (l : List (Held Ticket)). length l) c.requires.begun.held in
    let one = c.in_ok-dial_source.ensures.dials.many in
    let same = c.in_ok-settle.ensures.goes.many (c.in_ok-dial_source.ensures.dials.stand begun) in
    omega (arith, none, one, same)

pub returns-clause-met : goal.returns-clause-met
returns-clause-met g c =
    if_ok_both c.agree.result
    (λ terms agreed finds.
    let dials = dials_as c.args.self.now.options _ _ _ _ _ _ _ (ap (λ (s : Seen). s.options.extents) c.self.view_is) c.in_ok-dial_source.ensures.dials in
    let found = found_terms c.args.self.now c.dial_source.new.self c.settle.new.self c.dial_destination.new.self c.settle-2.new.self _ _ _ _ _ c.self-2.inside.options terms c.self-2.inside.handles
    (sym (ap (λ (s : Seen). s.options.extents) c.self-2.view_is ∙ ap (λ (s : Seen). s.options.extents) c.in_ok-settle-2.ensures.kept ∙ ap (λ (s : Seen). s.options.extents) c.in_ok-dial_destination.ensures.kept
    ∙ ap (λ (s : Seen). s.options.extents) c.in_ok-settle.ensures.kept ∙ ap (λ (s : Seen). s.options.extents) c.in_ok-dial_source.ensures.kept))
    c.in_ok-dial_source.ensures.kept c.in_ok-settle.ensures.kept c.in_ok-dial_source.ensures.board c.in_ok-dial_destination.ensures.board (ap (λ (s : Seen). s.held) c.self-2.view_is)
    dials c.in_ok-settle.ensures.goes c.in_ok-dial_destination.ensures.dials c.in_ok-settle-2.ensures.goes c.requires.begun finds
    (terms_known c.self-2.inside.options terms c.self-2.inside.handles c.settle-2.new.self.held (ap (λ (s : Seen). s.held) c.self-2.view_is) finds) in
    meets c.args.self.now c.dial_source.new.self c.settle.new.self c.dial_destination.new.self c.settle-2.new.self _ _ _ _ _ c.self-2.inside.options c.self-2.inside.handles terms
    c.in_ok-dial_source.ensures.kept c.in_ok-settle.ensures.kept c.in_ok-dial_destination.ensures.kept c.in_ok-settle-2.ensures.kept c.in_ok-dial_source.ensures.board c.in_ok-dial_destination.ensures.board
    (ap (λ (s : Seen). s.options) c.self-2.view_is) (ap (λ (s : Seen). s.held) c.self-2.view_is)
    dials c.in_ok-settle.ensures.goes c.in_ok-dial_destination.ensures.dials c.in_ok-settle-2.ensures.goes c.requires.begun agreed found.first found.know)
    c.agree.ensures.agrees c.agree.ensures.settles

pub returns-clause-unready : goal.returns-clause-unready
returns-clause-unready g c =
    meet_unready c.args.self.now c.dial_source.new.self c.settle.new.self c.dial_destination.new.self _ _ _ _ _
    c.in_ok-dial_source.ensures.kept c.in_ok-settle.ensures.kept c.in_ok-dial_source.ensures.board c.in_ok-dial_destination.ensures.board
    (dials_as c.args.self.now.options _ _ _ _ _ _ _ (ap (λ (s : Seen). s.options.extents) c.self.view_is) c.in_ok-dial_source.ensures.dials) c.in_ok-settle.ensures.goes c.in_ok-dial_destination.ensures.dials c.requires.begun
    c.in_ok-dial_source.ensures.connects c.settle.ensures.links c.in_ok-dial_destination.ensures.connects
    c.dial_source.ensures.unpaused c.settle.ensures.unready c.dial_destination.ensures.unpaused c.settle-2.ensures.unready

pub returns-clause-many : goal.returns-clause-many
returns-clause-many g c = if_ok_leads c.agree.result (λ terms agreed. agreed.some) c.agree.ensures.agrees

pub returns-clause-two : goal.returns-clause-two
returns-clause-two g c =
    always_on_ok c.agree.result
    (two_meet c.args.self.now c.dial_source.new.self c.settle.new.self c.dial_destination.new.self c.settle-2.new.self _ _ _ _ _
    c.in_ok-dial_source.ensures.kept c.in_ok-settle.ensures.kept c.in_ok-dial_source.ensures.board c.in_ok-dial_destination.ensures.board
    (dials_as c.args.self.now.options _ _ _ _ _ _ _ (ap (λ (s : Seen). s.options.extents) c.self.view_is) c.in_ok-dial_source.ensures.dials) c.in_ok-settle.ensures.goes c.in_ok-dial_destination.ensures.dials c.in_ok-settle-2.ensures.goes c.requires.begun)

pub agree-requires-clause-both : goal.agree-requires-clause-both
agree-requires-clause-both g c =
    let two = ap (λ (s : Seen). length s.held) c.self-2.view_is
    ∙ two_meet c.args.self.now c.dial_source.new.self c.settle.new.self c.dial_destination.new.self c.settle-2.new.self _ _ _ _ _
    c.in_ok-dial_source.ensures.kept c.in_ok-settle.ensures.kept c.in_ok-dial_source.ensures.board c.in_ok-dial_destination.ensures.board
    (dials_as c.args.self.now.options _ _ _ _ _ _ _ (ap (λ (s : Seen). s.options.extents) c.self.view_is) c.in_ok-dial_source.ensures.dials) c.in_ok-settle.ensures.goes c.in_ok-dial_destination.ensures.dials c.in_ok-settle-2.ensures.goes c.requires.begun in
    omega (arith, two)

pub agree-requires-clause-quiet : goal.agree-requires-clause-quiet
agree-requires-clause-quiet g c = subst (λ (s : Seen). AreQuiet s.held) (sym c.self-2.view_is) c.in_ok-settle-2.ensures.quiet

pub returns-in_err-settle-clause-grounds : goal.returns-in_err-settle-clause-grounds
returns-in_err-settle-clause-grounds g c =
    handed_on _ c.from_residual-in_err-settle.result _ c.from_residual-in_err-settle.ensures.1 (
    decided_grounded _ _ _ _ _ _ (
    source_decided c.args.self.now c.dial_source.new.self _ _ c.in_ok-dial_source.ensures.board (dials_as c.args.self.now.options _ _ _ _ _ _ _ (ap (λ (s : Seen). s.options.extents) c.self.view_is) c.in_ok-dial_source.ensures.dials) c.requires.begun _ _ c.in_err-settle.ensures.decides))

pub returns-in_err-settle-2-clause-grounds : goal.returns-in_err-settle-2-clause-grounds
returns-in_err-settle-2-clause-grounds g c =
    handed_on _ c.from_residual-in_err-settle-2.result _ c.from_residual-in_err-settle-2.ensures.1 (
    decided_grounded _ _ _ _ _ _ (
    destination_decided c.args.self.now c.dial_source.new.self _ _ c.in_ok-dial_source.ensures.board (dials_as c.args.self.now.options _ _ _ _ _ _ _ (ap (λ (s : Seen). s.options.extents) c.self.view_is) c.in_ok-dial_source.ensures.dials) c.requires.begun c.settle.new.self _ c.in_ok-settle.ensures.goes c.dial_destination.new.self _
    c.in_ok-dial_source.ensures.kept c.in_ok-settle.ensures.kept c.in_ok-dial_destination.ensures.board c.in_ok-dial_destination.ensures.dials _ _ c.in_err-settle-2.ensures.decides))

pub returns-clause-grounds : goal.returns-clause-grounds
returns-clause-grounds g c =
    let one = c.in_ok-dial_source.ensures.dials.stand (subst Stand (sym c.requires.begun.held) none_stand) in
    let both = c.in_ok-dial_destination.ensures.dials.stand (c.in_ok-settle.ensures.goes.stand one) in
    let connects = links_end _ _ _ _ _ _ _ (both_made (c.args.self.now.from.to ∷ []) (c.args.self.now.to.to ∷ []) (c.settle.new.self.to.to ∷ []) _ _ _ _ _ _ (ap (λ (s : Seen). s.to.to ∷ []) c.in_ok-settle.ensures.kept ∙ ap (λ (s : Seen). s.to.to ∷ []) c.in_ok-dial_source.ensures.kept) (links_end _ _ _ _ _ _ _ c.in_ok-dial_source.ensures.connects (c.in_ok-settle.ensures.links one)) c.in_ok-dial_destination.ensures.connects) (c.in_ok-settle-2.ensures.links both) in
    if_err_leads c.agree.result
    (λ why found. found_fails c.args.self.now c.dial_source.new.self c.settle.new.self c.dial_destination.new.self c.settle-2.new.self _ _ _ _ _ c.self-2.inside.handles why
    c.in_ok-dial_source.ensures.kept c.in_ok-settle.ensures.kept c.in_ok-dial_source.ensures.board c.in_ok-dial_destination.ensures.board (ap (λ (s : Seen). s.held) c.self-2.view_is)
    (dials_as c.args.self.now.options _ _ _ _ _ _ _ (ap (λ (s : Seen). s.options.extents) c.self.view_is) c.in_ok-dial_source.ensures.dials) c.in_ok-settle.ensures.goes c.in_ok-dial_destination.ensures.dials c.in_ok-settle-2.ensures.goes c.requires.begun connects found)
    c.agree.ensures.found

pub returns-clause-counts : goal.returns-clause-counts
returns-clause-counts g c = goes_then _ _ _ _ _ _ _ _ _ (goes_then _ _ _ _ _ _ _ _ _ c.dial_source.ensures.counts c.settle.ensures.counts) (goes_then _ _ _ _ _ _ _ _ _ c.dial_destination.ensures.counts c.settle-2.ensures.counts)

pub returns-clause-vain : goal.returns-clause-vain
returns-clause-vain g c =
    let begun = subst (λ (l : List (Held Ticket)). Stand l) (sym c.requires.begun.held) none_stand in
    let one = c.in_ok-dial_source.ensures.dials.stand begun in
    let two = c.in_ok-dial_destination.ensures.dials.stand (c.in_ok-settle.ensures.goes.stand one) in
    pauses_then _ _ _ (pauses_then _ _ _ (pauses_unpaused _ _ c.dial_source.ensures.unpaused) (c.settle.ensures.vain one))
    (pauses_then _ _ _ (pauses_unpaused _ _ c.dial_destination.ensures.unpaused) (c.settle-2.ensures.vain two))

pub returns-clause-links : goal.returns-clause-links
returns-clause-links g c =
    let first = c.in_ok-dial_source.ensures.dials.stand (subst Stand (sym c.requires.begun.held) none_stand) in
    let second = c.in_ok-dial_destination.ensures.dials.stand (c.in_ok-settle.ensures.goes.stand first) in
    goes_all _ _ _ _ _ (links_end _ _ _ _ _ _ _ (both_made (c.args.self.now.from.to ∷ []) (c.args.self.now.to.to ∷ []) (c.settle.new.self.to.to ∷ []) _ _ _ _ _ _ (ap (λ (s : Seen). s.to.to ∷ []) c.in_ok-settle.ensures.kept ∙ ap (λ (s : Seen). s.to.to ∷ []) c.in_ok-dial_source.ensures.kept) (links_end _ _ _ _ _ _ _ c.in_ok-dial_source.ensures.connects (c.in_ok-settle.ensures.links first)) c.in_ok-dial_destination.ensures.connects) (c.in_ok-settle-2.ensures.links second))

pub returns-clause-connects : goal.returns-clause-connects
returns-clause-connects g c =
    let first = c.in_ok-dial_source.ensures.dials.stand (subst Stand (sym c.requires.begun.held) none_stand) in
    let second = c.in_ok-dial_destination.ensures.dials.stand (c.in_ok-settle.ensures.goes.stand first) in
    always_on_ok c.agree.result (links_end _ _ _ _ _ _ _ (both_made (c.args.self.now.from.to ∷ []) (c.args.self.now.to.to ∷ []) (c.settle.new.self.to.to ∷ []) _ _ _ _ _ _ (ap (λ (s : Seen). s.to.to ∷ []) c.in_ok-settle.ensures.kept ∙ ap (λ (s : Seen). s.to.to ∷ []) c.in_ok-dial_source.ensures.kept) (links_end _ _ _ _ _ _ _ c.in_ok-dial_source.ensures.connects (c.in_ok-settle.ensures.links first)) c.in_ok-dial_destination.ensures.connects) (c.in_ok-settle-2.ensures.links second))

pub returns-in_err-settle-2-clause-links : goal.returns-in_err-settle-2-clause-links
returns-in_err-settle-2-clause-links g c =
    let first = c.in_ok-dial_source.ensures.dials.stand (subst Stand (sym c.requires.begun.held) none_stand) in
    let second = c.in_ok-dial_destination.ensures.dials.stand (c.in_ok-settle.ensures.goes.stand first) in
    goes_all _ _ _ _ _ (links_end _ _ _ _ _ _ _ (both_made (c.args.self.now.from.to ∷ []) (c.args.self.now.to.to ∷ []) (c.settle.new.self.to.to ∷ []) _ _ _ _ _ _ (ap (λ (s : Seen). s.to.to ∷ []) c.in_ok-settle.ensures.kept ∙ ap (λ (s : Seen). s.to.to ∷ []) c.in_ok-dial_source.ensures.kept) (links_end _ _ _ _ _ _ _ c.in_ok-dial_source.ensures.connects (c.in_ok-settle.ensures.links first)) c.in_ok-dial_destination.ensures.connects) (c.in_err-settle-2.ensures.links second))

pub returns-in_err-dial_destination-clause-links : goal.returns-in_err-dial_destination-clause-links
returns-in_err-dial_destination-clause-links g c =
    let first = c.in_ok-dial_source.ensures.dials.stand (subst Stand (sym c.requires.begun.held) none_stand) in
    second_fails (c.args.self.now.from.to ∷ []) (c.args.self.now.to.to ∷ []) (c.settle.new.self.to.to ∷ []) _ _ _ _ _ _ (ap (λ (s : Seen). s.to.to ∷ []) c.in_ok-settle.ensures.kept ∙ ap (λ (s : Seen). s.to.to ∷ []) c.in_ok-dial_source.ensures.kept) (links_end _ _ _ _ _ _ _ c.in_ok-dial_source.ensures.connects (c.in_ok-settle.ensures.links first)) c.in_err-dial_destination.ensures.links

pub returns-in_err-settle-clause-links : goal.returns-in_err-settle-clause-links
returns-in_err-settle-clause-links g c =
    let first = c.in_ok-dial_source.ensures.dials.stand (subst Stand (sym c.requires.begun.held) none_stand) in
    goes_wider (c.args.self.now.from.to ∷ []) (c.args.self.now.to.to ∷ []) _ _ _ _ (goes_all _ _ _ _ _ (links_end _ _ _ _ _ _ _ c.in_ok-dial_source.ensures.connects (c.in_err-settle.ensures.links first)))

pub returns-in_err-dial_source-clause-links : goal.returns-in_err-dial_source-clause-links
returns-in_err-dial_source-clause-links g c =
    goes_wider (c.args.self.now.from.to ∷ []) (c.args.self.now.to.to ∷ []) _ _ _ _ c.in_err-dial_source.ensures.links

pub returns-in_err-settle-clause-unasked : goal.returns-in_err-settle-clause-unasked
returns-in_err-settle-clause-unasked g c =
    source_unasked c.args.self.now c.dial_source.new.self _ _ c.in_ok-dial_source.ensures.board (dials_as c.args.self.now.options _ _ _ _ _ _ _ (ap (λ (s : Seen). s.options.extents) c.self.view_is) c.in_ok-dial_source.ensures.dials) c.requires.begun c.in_ok-dial_source.ensures.unissued _ c.settle.ensures.asks

pub returns-in_err-dial_destination-clause-unasked : goal.returns-in_err-dial_destination-clause-unasked
returns-in_err-dial_destination-clause-unasked g c =
    (stays_kept c.args.self.now c.settle.new.self _ _ (kept_then c.args.self.now c.dial_source.new.self c.settle.new.self c.in_ok-dial_source.ensures.kept c.in_ok-settle.ensures.kept) c.dial_destination.ensures.unasked).on _
    (source_unasked c.args.self.now c.dial_source.new.self _ _ c.in_ok-dial_source.ensures.board (dials_as c.args.self.now.options _ _ _ _ _ _ _ (ap (λ (s : Seen). s.options.extents) c.self.view_is) c.in_ok-dial_source.ensures.dials) c.requires.begun c.in_ok-dial_source.ensures.unissued _ c.settle.ensures.asks)

pub returns-in_err-settle-2-clause-unasked : goal.returns-in_err-settle-2-clause-unasked
returns-in_err-settle-2-clause-unasked g c =
    both_unasked c.args.self.now c.dial_source.new.self _ _ c.in_ok-dial_source.ensures.board (dials_as c.args.self.now.options _ _ _ _ _ _ _ (ap (λ (s : Seen). s.options.extents) c.self.view_is) c.in_ok-dial_source.ensures.dials) c.requires.begun c.in_ok-dial_source.ensures.unissued
    c.settle.new.self c.dial_destination.new.self _ _ c.in_ok-dial_source.ensures.kept c.in_ok-settle.ensures.kept c.in_ok-dial_destination.ensures.board c.in_ok-settle.ensures.goes c.in_ok-settle.ensures.fresh c.in_ok-dial_destination.ensures.dials c.in_ok-dial_destination.ensures.unissued _ c.settle-2.ensures.asks

pub returns-clause-unasked : goal.returns-clause-unasked
returns-clause-unasked g c =
    both_unasked c.args.self.now c.dial_source.new.self _ _ c.in_ok-dial_source.ensures.board (dials_as c.args.self.now.options _ _ _ _ _ _ _ (ap (λ (s : Seen). s.options.extents) c.self.view_is) c.in_ok-dial_source.ensures.dials) c.requires.begun c.in_ok-dial_source.ensures.unissued
    c.settle.new.self c.dial_destination.new.self _ _ c.in_ok-dial_source.ensures.kept c.in_ok-settle.ensures.kept c.in_ok-dial_destination.ensures.board c.in_ok-settle.ensures.goes c.in_ok-settle.ensures.fresh c.in_ok-dial_destination.ensures.dials c.in_ok-dial_destination.ensures.unissued _ c.settle-2.ensures.asks

pub returns-clause-unissued : goal.returns-clause-unissued
returns-clause-unissued g c =
    always_on_ok c.agree.result
    (both_unissued c.args.self.now c.dial_source.new.self _ _ c.in_ok-dial_source.ensures.board (dials_as c.args.self.now.options _ _ _ _ _ _ _ (ap (λ (s : Seen). s.options.extents) c.self.view_is) c.in_ok-dial_source.ensures.dials) c.requires.begun c.in_ok-dial_source.ensures.unissued
    c.settle.new.self c.dial_destination.new.self _ _ c.in_ok-dial_source.ensures.kept c.in_ok-settle.ensures.kept c.in_ok-dial_destination.ensures.board c.in_ok-settle.ensures.goes c.in_ok-settle.ensures.fresh c.in_ok-dial_destination.ensures.dials c.in_ok-dial_destination.ensures.unissued _ _ _ c.in_ok-settle-2.ensures.fresh)

pub returns-in_err-dial_source-clause-unready : goal.returns-in_err-dial_source-clause-unready
returns-in_err-dial_source-clause-unready g c = source_dialled c.args.self.now.options.extents c.args.self.now.from c.args.self.now.to _ _ c.dial_source.ensures.unpaused

pub returns-in_err-settle-clause-unready : goal.returns-in_err-settle-clause-unready
returns-in_err-settle-clause-unready g c = source_unready c.args.self.now c.dial_source.new.self _ _ _ c.in_ok-dial_source.ensures.board (dials_as c.args.self.now.options _ _ _ _ _ _ _ (ap (λ (s : Seen). s.options.extents) c.self.view_is) c.in_ok-dial_source.ensures.dials) c.requires.begun c.in_ok-dial_source.ensures.connects c.dial_source.ensures.unpaused c.settle.ensures.unready

pub returns-in_err-dial_destination-clause-unready : goal.returns-in_err-dial_destination-clause-unready
returns-in_err-dial_destination-clause-unready g c = told_stays _ _ _ c.dial_destination.ensures.unpaused (source_unready c.args.self.now c.dial_source.new.self _ _ _ c.in_ok-dial_source.ensures.board (dials_as c.args.self.now.options _ _ _ _ _ _ _ (ap (λ (s : Seen). s.options.extents) c.self.view_is) c.in_ok-dial_source.ensures.dials) c.requires.begun c.in_ok-dial_source.ensures.connects c.dial_source.ensures.unpaused c.settle.ensures.unready)

pub returns-in_err-settle-2-clause-unready : goal.returns-in_err-settle-2-clause-unready
returns-in_err-settle-2-clause-unready g c =
    meet_unready c.args.self.now c.dial_source.new.self c.settle.new.self c.dial_destination.new.self _ _ _ _ _
    c.in_ok-dial_source.ensures.kept c.in_ok-settle.ensures.kept c.in_ok-dial_source.ensures.board c.in_ok-dial_destination.ensures.board
    (dials_as c.args.self.now.options _ _ _ _ _ _ _ (ap (λ (s : Seen). s.options.extents) c.self.view_is) c.in_ok-dial_source.ensures.dials) c.in_ok-settle.ensures.goes c.in_ok-dial_destination.ensures.dials c.requires.begun
    c.in_ok-dial_source.ensures.connects c.settle.ensures.links c.in_ok-dial_destination.ensures.connects
    c.dial_source.ensures.unpaused c.settle.ensures.unready c.dial_destination.ensures.unpaused c.settle-2.ensures.unready

pub returns-in_err-dial_source-clause-vain : goal.returns-in_err-dial_source-clause-vain
returns-in_err-dial_source-clause-vain g c = pauses_unpaused _ _ c.dial_source.ensures.unpaused

pub returns-in_err-settle-clause-vain : goal.returns-in_err-settle-clause-vain
returns-in_err-settle-clause-vain g c =
    let begun = subst (λ (l : List (Held Ticket)). Stand l) (sym c.requires.begun.held) none_stand in
    let one = c.in_ok-dial_source.ensures.dials.stand begun in
    pauses_then _ _ _ (pauses_unpaused _ _ c.dial_source.ensures.unpaused) (c.settle.ensures.vain one)

pub returns-in_err-dial_destination-clause-vain : goal.returns-in_err-dial_destination-clause-vain
returns-in_err-dial_destination-clause-vain g c =
    let begun = subst (λ (l : List (Held Ticket)). Stand l) (sym c.requires.begun.held) none_stand in
    let one = c.in_ok-dial_source.ensures.dials.stand begun in
    pauses_then _ _ _ (pauses_then _ _ _ (pauses_unpaused _ _ c.dial_source.ensures.unpaused) (c.settle.ensures.vain one)) (pauses_unpaused _ _ c.dial_destination.ensures.unpaused)

pub returns-in_err-settle-2-clause-vain : goal.returns-in_err-settle-2-clause-vain
returns-in_err-settle-2-clause-vain g c =
    let begun = subst (λ (l : List (Held Ticket)). Stand l) (sym c.requires.begun.held) none_stand in
    let one = c.in_ok-dial_source.ensures.dials.stand begun in
    let two = c.in_ok-dial_destination.ensures.dials.stand (c.in_ok-settle.ensures.goes.stand one) in
    pauses_then _ _ _ (pauses_then _ _ _ (pauses_unpaused _ _ c.dial_source.ensures.unpaused) (c.settle.ensures.vain one))
    (pauses_then _ _ _ (pauses_unpaused _ _ c.dial_destination.ensures.unpaused) (c.settle-2.ensures.vain two))

pub returns-clause-wanted : goal.returns-clause-wanted
returns-clause-wanted g c =
    let begun = subst (λ (l : List (Held Ticket)). Stand l) (sym c.requires.begun.held) none_stand in
    let one = c.in_ok-dial_source.ensures.dials.stand begun in
    let two = c.in_ok-dial_destination.ensures.dials.stand (c.in_ok-settle.ensures.goes.stand one) in
    pauses_then _ _ _ (pauses_then _ _ _ (pauses_unpaused _ _ c.dial_source.ensures.unpaused) (c.settle.ensures.wanted one))
    (pauses_then _ _ _ (pauses_unpaused _ _ c.dial_destination.ensures.unpaused) (c.settle-2.ensures.wanted two))

pub returns-in_err-dial_source-clause-wanted : goal.returns-in_err-dial_source-clause-wanted
returns-in_err-dial_source-clause-wanted g c = pauses_unpaused _ _ c.dial_source.ensures.unpaused

pub returns-in_err-settle-clause-wanted : goal.returns-in_err-settle-clause-wanted
returns-in_err-settle-clause-wanted g c =
    let begun = subst (λ (l : List (Held Ticket)). Stand l) (sym c.requires.begun.held) none_stand in
    let one = c.in_ok-dial_source.ensures.dials.stand begun in
    pauses_then _ _ _ (pauses_unpaused _ _ c.dial_source.ensures.unpaused) (c.settle.ensures.wanted one)

pub returns-in_err-dial_destination-clause-wanted : goal.returns-in_err-dial_destination-clause-wanted
returns-in_err-dial_destination-clause-wanted g c =
    let begun = subst (λ (l : List (Held Ticket)). Stand l) (sym c.requires.begun.held) none_stand in
    let one = c.in_ok-dial_source.ensures.dials.stand begun in
    pauses_then _ _ _ (pauses_then _ _ _ (pauses_unpaused _ _ c.dial_source.ensures.unpaused) (c.settle.ensures.wanted one)) (pauses_unpaused _ _ c.dial_destination.ensures.unpaused)

pub returns-in_err-settle-2-clause-wanted : goal.returns-in_err-settle-2-clause-wanted
returns-in_err-settle-2-clause-wanted g c =
    let begun = subst (λ (l : List (Held Ticket)). Stand l) (sym c.requires.begun.held) none_stand in
    let one = c.in_ok-dial_source.ensures.dials.stand begun in
    let two = c.in_ok-dial_destination.ensures.dials.stand (c.in_ok-settle.ensures.goes.stand one) in
    pauses_then _ _ _ (pauses_then _ _ _ (pauses_unpaused _ _ c.dial_source.ensures.unpaused) (c.settle.ensures.wanted one))
    (pauses_then _ _ _ (pauses_unpaused _ _ c.dial_destination.ensures.unpaused) (c.settle-2.ensures.wanted two))

pub returns-clause-little : goal.returns-clause-little
returns-clause-little g c =
    both_little c.args.self.now c.dial_source.new.self _ _ c.in_ok-dial_source.ensures.board (dials_as c.args.self.now.options _ _ _ _ _ _ _ (ap (λ (s : Seen). s.options.extents) c.self.view_is) c.in_ok-dial_source.ensures.dials) c.requires.begun c.in_ok-dial_source.ensures.unissued c.dial_source.ensures.unpaused
    c.settle.new.self c.dial_destination.new.self _ _ _ c.in_ok-dial_source.ensures.kept c.in_ok-settle.ensures.kept c.in_ok-dial_destination.ensures.board c.in_ok-settle.ensures.goes c.in_ok-settle.ensures.fresh c.in_ok-dial_destination.ensures.dials c.in_ok-dial_destination.ensures.unissued
    c.settle.ensures.little c.dial_destination.ensures.unpaused c.settle-2.ensures.little

pub returns-in_err-dial_source-clause-little : goal.returns-in_err-dial_source-clause-little
returns-in_err-dial_source-clause-little g c = source_dials _ _ c.dial_source.ensures.unpaused

pub returns-in_err-settle-clause-little : goal.returns-in_err-settle-clause-little
returns-in_err-settle-clause-little g c =
    source_little c.args.self.now c.dial_source.new.self _ _ c.in_ok-dial_source.ensures.board (dials_as c.args.self.now.options _ _ _ _ _ _ _ (ap (λ (s : Seen). s.options.extents) c.self.view_is) c.in_ok-dial_source.ensures.dials) c.requires.begun c.in_ok-dial_source.ensures.unissued c.dial_source.ensures.unpaused _ c.settle.ensures.little

pub returns-in_err-dial_destination-clause-little : goal.returns-in_err-dial_destination-clause-little
returns-in_err-dial_destination-clause-little g c =
    told_stays _ _ _ c.dial_destination.ensures.unpaused
    (source_little c.args.self.now c.dial_source.new.self _ _ c.in_ok-dial_source.ensures.board (dials_as c.args.self.now.options _ _ _ _ _ _ _ (ap (λ (s : Seen). s.options.extents) c.self.view_is) c.in_ok-dial_source.ensures.dials) c.requires.begun c.in_ok-dial_source.ensures.unissued c.dial_source.ensures.unpaused _ c.settle.ensures.little)

pub returns-in_err-settle-2-clause-little : goal.returns-in_err-settle-2-clause-little
returns-in_err-settle-2-clause-little g c =
    both_little c.args.self.now c.dial_source.new.self _ _ c.in_ok-dial_source.ensures.board (dials_as c.args.self.now.options _ _ _ _ _ _ _ (ap (λ (s : Seen). s.options.extents) c.self.view_is) c.in_ok-dial_source.ensures.dials) c.requires.begun c.in_ok-dial_source.ensures.unissued c.dial_source.ensures.unpaused
    c.settle.new.self c.dial_destination.new.self _ _ _ c.in_ok-dial_source.ensures.kept c.in_ok-settle.ensures.kept c.in_ok-dial_destination.ensures.board c.in_ok-settle.ensures.goes c.in_ok-settle.ensures.fresh c.in_ok-dial_destination.ensures.dials c.in_ok-dial_destination.ensures.unissued
    c.settle.ensures.little c.dial_destination.ensures.unpaused c.settle-2.ensures.little

pub returns-clause-connected : goal.returns-clause-connected
returns-clause-connected g c =
    let first = c.in_ok-dial_source.ensures.dials.stand (subst Stand (sym c.requires.begun.held) none_stand) in
    let second = c.in_ok-dial_destination.ensures.dials.stand (c.in_ok-settle.ensures.goes.stand first) in
    always_on_ok c.agree.result
    (connected_then _ _ _ (connected_then _ _ _ c.in_ok-dial_source.ensures.connected (connected_links _ _ _ _ (c.in_ok-settle.ensures.links first)))
    (connected_then _ _ _ c.in_ok-dial_destination.ensures.connected (connected_links _ _ _ _ (c.in_ok-settle-2.ensures.links second))))

pub returns-in_err-dial_source-clause-drives : goal.returns-in_err-dial_source-clause-drives
returns-in_err-dial_source-clause-drives g c = source_dialed c.args.self.now _ _ (one_as c.args.self.now.options _ _ _ _ _ _ (ap (λ (s : Seen). s.options.extents) c.self.view_is) c.dial_source.ensures.drives) c.requires.begun

pub returns-in_err-settle-clause-drives : goal.returns-in_err-settle-clause-drives
returns-in_err-settle-clause-drives g c = source_settled c.args.self.now c.dial_source.new.self _ _ c.in_ok-dial_source.ensures.board (dials_as c.args.self.now.options _ _ _ _ _ _ _ (ap (λ (s : Seen). s.options.extents) c.self.view_is) c.in_ok-dial_source.ensures.dials) c.requires.begun _ c.settle.ensures.drives

pub returns-in_err-dial_destination-clause-drives : goal.returns-in_err-dial_destination-clause-drives
returns-in_err-dial_destination-clause-drives g c =
    destination_dialed c.args.self.now c.dial_source.new.self _ _ c.in_ok-dial_source.ensures.board (dials_as c.args.self.now.options _ _ _ _ _ _ _ (ap (λ (s : Seen). s.options.extents) c.self.view_is) c.in_ok-dial_source.ensures.dials) c.requires.begun
    c.settle.new.self _ c.in_ok-dial_source.ensures.kept c.in_ok-settle.ensures.kept c.in_ok-settle.ensures.goes _ c.dial_destination.ensures.drives

pub returns-in_err-settle-2-clause-drives : goal.returns-in_err-settle-2-clause-drives
returns-in_err-settle-2-clause-drives g c =
    destination_settled c.args.self.now c.dial_source.new.self _ _ c.in_ok-dial_source.ensures.board (dials_as c.args.self.now.options _ _ _ _ _ _ _ (ap (λ (s : Seen). s.options.extents) c.self.view_is) c.in_ok-dial_source.ensures.dials) c.requires.begun
    c.settle.new.self _ c.in_ok-dial_source.ensures.kept c.in_ok-settle.ensures.kept c.in_ok-settle.ensures.goes c.dial_destination.new.self _ _ c.in_ok-dial_destination.ensures.board c.in_ok-dial_destination.ensures.dials c.settle-2.ensures.drives

pub returns-clause-drives : goal.returns-clause-drives
returns-clause-drives g c =
    destination_settled c.args.self.now c.dial_source.new.self _ _ c.in_ok-dial_source.ensures.board (dials_as c.args.self.now.options _ _ _ _ _ _ _ (ap (λ (s : Seen). s.options.extents) c.self.view_is) c.in_ok-dial_source.ensures.dials) c.requires.begun
    c.settle.new.self _ c.in_ok-dial_source.ensures.kept c.in_ok-settle.ensures.kept c.in_ok-settle.ensures.goes c.dial_destination.new.self _ _ c.in_ok-dial_destination.ensures.board c.in_ok-dial_destination.ensures.dials c.settle-2.ensures.drives

pub returns-in_err-dial_source-clause-decides : goal.returns-in_err-dial_source-clause-decides
returns-in_err-dial_source-clause-decides g c =
    handed_on _ c.from_residual.result _ c.from_residual.ensures.1 (begins_decided c.args.self.now _ _ _ c.requires.begun c.in_err-dial_source.ensures.decides)

pub returns-in_err-settle-clause-decides : goal.returns-in_err-settle-clause-decides
returns-in_err-settle-clause-decides g c =
    handed_on _ c.from_residual-in_err-settle.result _ c.from_residual-in_err-settle.ensures.1 (
    source_decided c.args.self.now c.dial_source.new.self _ _ c.in_ok-dial_source.ensures.board (dials_as c.args.self.now.options _ _ _ _ _ _ _ (ap (λ (s : Seen). s.options.extents) c.self.view_is) c.in_ok-dial_source.ensures.dials) c.requires.begun _ _ c.in_err-settle.ensures.decides)

pub returns-in_err-dial_destination-clause-decides : goal.returns-in_err-dial_destination-clause-decides
returns-in_err-dial_destination-clause-decides g c =
    handed_on _ c.from_residual-in_err-dial_destination.result _ c.from_residual-in_err-dial_destination.ensures.1 (
    second_decided c.args.self.now c.dial_source.new.self _ _ c.in_ok-dial_source.ensures.board (dials_as c.args.self.now.options _ _ _ _ _ _ _ (ap (λ (s : Seen). s.options.extents) c.self.view_is) c.in_ok-dial_source.ensures.dials) c.requires.begun c.settle.new.self _ c.in_ok-settle.ensures.goes _ _ c.in_err-dial_destination.ensures.decides)

pub returns-in_err-settle-2-clause-decides : goal.returns-in_err-settle-2-clause-decides
returns-in_err-settle-2-clause-decides g c =
    handed_on _ c.from_residual-in_err-settle-2.result _ c.from_residual-in_err-settle-2.ensures.1 (
    destination_decided c.args.self.now c.dial_source.new.self _ _ c.in_ok-dial_source.ensures.board (dials_as c.args.self.now.options _ _ _ _ _ _ _ (ap (λ (s : Seen). s.options.extents) c.self.view_is) c.in_ok-dial_source.ensures.dials) c.requires.begun c.settle.new.self _ c.in_ok-settle.ensures.goes c.dial_destination.new.self _
    c.in_ok-dial_source.ensures.kept c.in_ok-settle.ensures.kept c.in_ok-dial_destination.ensures.board c.in_ok-dial_destination.ensures.dials _ _ c.in_err-settle-2.ensures.decides)

pub returns-clause-decides : goal.returns-clause-decides
returns-clause-decides g c =
    let one = c.in_ok-dial_source.ensures.dials.stand (subst Stand (sym c.requires.begun.held) none_stand) in
    let both = c.in_ok-dial_destination.ensures.dials.stand (c.in_ok-settle.ensures.goes.stand one) in
    let connects = links_end _ _ _ _ _ _ _ (both_made (c.args.self.now.from.to ∷ []) (c.args.self.now.to.to ∷ []) (c.settle.new.self.to.to ∷ []) _ _ _ _ _ _ (ap (λ (s : Seen). s.to.to ∷ []) c.in_ok-settle.ensures.kept ∙ ap (λ (s : Seen). s.to.to ∷ []) c.in_ok-dial_source.ensures.kept) (links_end _ _ _ _ _ _ _ c.in_ok-dial_source.ensures.connects (c.in_ok-settle.ensures.links one)) c.in_ok-dial_destination.ensures.connects) (c.in_ok-settle-2.ensures.links both) in
    if_err_leads c.agree.result
    (λ why found. terms_decided c.args.self.now c.dial_source.new.self _ _ c.in_ok-dial_source.ensures.board (dials_as c.args.self.now.options _ _ _ _ _ _ _ (ap (λ (s : Seen). s.options.extents) c.self.view_is) c.in_ok-dial_source.ensures.dials) c.requires.begun c.settle.new.self _ c.in_ok-settle.ensures.goes c.dial_destination.new.self _
    c.in_ok-dial_source.ensures.kept c.in_ok-settle.ensures.kept c.in_ok-dial_destination.ensures.board c.in_ok-dial_destination.ensures.dials c.settle-2.new.self _ c.self-2.inside.handles why
    (ap (λ (s : Seen). s.held) c.self-2.view_is) c.in_ok-settle-2.ensures.goes connects c.in_ok-settle-2.ensures.calm found)
    c.agree.ensures.found

pub returns-in_err-dial_source-clause-tries : goal.returns-in_err-dial_source-clause-tries
returns-in_err-dial_source-clause-tries g c = tries_anyhow _ _ (tries_unpaused _ _ c.dial_source.ensures.unpaused)

pub returns-in_err-settle-clause-tries : goal.returns-in_err-settle-clause-tries
returns-in_err-settle-clause-tries g c =
    let begun = subst (λ (l : List (Held Ticket)). Stand l) (sym c.requires.begun.held) none_stand in
    let one = c.in_ok-dial_source.ensures.dials.stand begun in
    tries_then _ _ _ (tries_unpaused _ _ c.dial_source.ensures.unpaused) (c.settle.ensures.tries one)

pub returns-in_err-dial_destination-clause-tries : goal.returns-in_err-dial_destination-clause-tries
returns-in_err-dial_destination-clause-tries g c =
    let begun = subst (λ (l : List (Held Ticket)). Stand l) (sym c.requires.begun.held) none_stand in
    let one = c.in_ok-dial_source.ensures.dials.stand begun in
    tries_anyhow _ _ (tries_then _ _ _ (tries_then _ _ _ (tries_unpaused _ _ c.dial_source.ensures.unpaused) (c.in_ok-settle.ensures.tried one)) (tries_unpaused _ _ c.dial_destination.ensures.unpaused))

pub returns-in_err-settle-2-clause-tries : goal.returns-in_err-settle-2-clause-tries
returns-in_err-settle-2-clause-tries g c =
    let begun = subst (λ (l : List (Held Ticket)). Stand l) (sym c.requires.begun.held) none_stand in
    let one = c.in_ok-dial_source.ensures.dials.stand begun in
    let two = c.in_ok-dial_destination.ensures.dials.stand (c.in_ok-settle.ensures.goes.stand one) in
    tries_then _ _ _ (tries_then _ _ _ (tries_unpaused _ _ c.dial_source.ensures.unpaused) (c.in_ok-settle.ensures.tried one)) (tries_then _ _ _ (tries_unpaused _ _ c.dial_destination.ensures.unpaused) (c.settle-2.ensures.tries two))

pub returns-clause-tries : goal.returns-clause-tries
returns-clause-tries g c =
    let begun = subst (λ (l : List (Held Ticket)). Stand l) (sym c.requires.begun.held) none_stand in
    let one = c.in_ok-dial_source.ensures.dials.stand begun in
    let two = c.in_ok-dial_destination.ensures.dials.stand (c.in_ok-settle.ensures.goes.stand one) in
    tries_then _ _ _ (tries_then _ _ _ (tries_unpaused _ _ c.dial_source.ensures.unpaused) (c.in_ok-settle.ensures.tried one)) (tries_then _ _ _ (tries_unpaused _ _ c.dial_destination.ensures.unpaused) (c.settle-2.ensures.tries two))

pub returns-clause-tried : goal.returns-clause-tried
returns-clause-tried g c =
    let begun = subst (λ (l : List (Held Ticket)). Stand l) (sym c.requires.begun.held) none_stand in
    let one = c.in_ok-dial_source.ensures.dials.stand begun in
    let two = c.in_ok-dial_destination.ensures.dials.stand (c.in_ok-settle.ensures.goes.stand one) in
    always_on_ok c.agree.result (tries_then _ _ _ (tries_then _ _ _ (tries_unpaused _ _ c.dial_source.ensures.unpaused) (c.in_ok-settle.ensures.tried one)) (tries_then _ _ _ (tries_unpaused _ _ c.dial_destination.ensures.unpaused) (c.in_ok-settle-2.ensures.tried two)))

pub returns-in_err-dial_source-clause-impatient : goal.returns-in_err-dial_source-clause-impatient
returns-in_err-dial_source-clause-impatient g c = always_if_err c.from_residual.result (λ why. patient_any _ _ _ _ _ _ (patient_unpaused _ _ _ _ _ c.dial_source.ensures.unpaused c.dial_source.ensures.counts.idles))

pub returns-in_err-settle-clause-impatient : goal.returns-in_err-settle-clause-impatient
returns-in_err-settle-clause-impatient g c =
    let begun = subst (λ (l : List (Held Ticket)). Stand l) (sym c.requires.begun.held) none_stand in
    let one = c.in_ok-dial_source.ensures.dials.stand begun in
    handed_on _ c.from_residual-in_err-settle.result _ c.from_residual-in_err-settle.ensures.1
    (patient_settles _ _ _ _ _ _ _ _ _ c.dial_source.ensures.unpaused c.dial_source.ensures.counts.idles (ap (λ (s : Seen). s.start.idles) c.in_ok-dial_source.ensures.kept) (c.in_err-settle.ensures.impatient one))

pub returns-in_err-dial_destination-clause-impatient : goal.returns-in_err-dial_destination-clause-impatient
returns-in_err-dial_destination-clause-impatient g c =
    let begun = subst (λ (l : List (Held Ticket)). Stand l) (sym c.requires.begun.held) none_stand in
    let one = c.in_ok-dial_source.ensures.dials.stand begun in
    always_if_err c.from_residual-in_err-dial_destination.result
    (λ why. patient_any _ _ _ _ _ _ (patient_then false _ _ _ _ _ _ _ (patient_settles false _ _ _ _ _ _ _ _ c.dial_source.ensures.unpaused c.dial_source.ensures.counts.idles (ap (λ (s : Seen). s.start.idles) c.in_ok-dial_source.ensures.kept) (c.in_ok-settle.ensures.patient one)) (patient_unpaused _ _ _ _ _ c.dial_destination.ensures.unpaused c.dial_destination.ensures.counts.idles)))

pub returns-in_err-settle-2-clause-impatient : goal.returns-in_err-settle-2-clause-impatient
returns-in_err-settle-2-clause-impatient g c =
    let begun = subst (λ (l : List (Held Ticket)). Stand l) (sym c.requires.begun.held) none_stand in
    let one = c.in_ok-dial_source.ensures.dials.stand begun in
    let two = c.in_ok-dial_destination.ensures.dials.stand (c.in_ok-settle.ensures.goes.stand one) in
    handed_on _ c.from_residual-in_err-settle-2.result _ c.from_residual-in_err-settle-2.ensures.1
    (patient_then _ _ _ _ _ _ _ _ (patient_settles false _ _ _ _ _ _ _ _ c.dial_source.ensures.unpaused c.dial_source.ensures.counts.idles (ap (λ (s : Seen). s.start.idles) c.in_ok-dial_source.ensures.kept) (c.in_ok-settle.ensures.patient one))
    (patient_settles _ _ _ _ _ _ _ _ _ c.dial_destination.ensures.unpaused c.dial_destination.ensures.counts.idles (ap (λ (s : Seen). s.start.idles) c.in_ok-dial_destination.ensures.kept ∙ ap (λ (s : Seen). s.start.idles) c.in_ok-settle.ensures.kept ∙ ap (λ (s : Seen). s.start.idles) c.in_ok-dial_source.ensures.kept) (c.in_err-settle-2.ensures.impatient two)))

pub returns-clause-patient : goal.returns-clause-patient
returns-clause-patient g c =
    let begun = subst (λ (l : List (Held Ticket)). Stand l) (sym c.requires.begun.held) none_stand in
    let one = c.in_ok-dial_source.ensures.dials.stand begun in
    let two = c.in_ok-dial_destination.ensures.dials.stand (c.in_ok-settle.ensures.goes.stand one) in
    always_on_ok c.agree.result
    (patient_then _ _ _ _ _ _ _ _ (patient_settles false _ _ _ _ _ _ _ _ c.dial_source.ensures.unpaused c.dial_source.ensures.counts.idles (ap (λ (s : Seen). s.start.idles) c.in_ok-dial_source.ensures.kept) (c.in_ok-settle.ensures.patient one))
    (patient_settles _ _ _ _ _ _ _ _ _ c.dial_destination.ensures.unpaused c.dial_destination.ensures.counts.idles (ap (λ (s : Seen). s.start.idles) c.in_ok-dial_destination.ensures.kept ∙ ap (λ (s : Seen). s.start.idles) c.in_ok-settle.ensures.kept ∙ ap (λ (s : Seen). s.start.idles) c.in_ok-dial_source.ensures.kept) (c.in_ok-settle-2.ensures.patient two)))

pub returns-clause-impatient : goal.returns-clause-impatient
returns-clause-impatient g c =
    let begun = subst (λ (l : List (Held Ticket)). Stand l) (sym c.requires.begun.held) none_stand in
    let one = c.in_ok-dial_source.ensures.dials.stand begun in
    let two = c.in_ok-dial_destination.ensures.dials.stand (c.in_ok-settle.ensures.goes.stand one) in
    always_if_err c.agree.result
    (λ why. patient_any _ _ _ _ _ _
    (patient_then _ _ _ _ _ _ _ _ (patient_settles false _ _ _ _ _ _ _ _ c.dial_source.ensures.unpaused c.dial_source.ensures.counts.idles (ap (λ (s : Seen). s.start.idles) c.in_ok-dial_source.ensures.kept) (c.in_ok-settle.ensures.patient one))
    (patient_settles _ _ _ _ _ _ _ _ _ c.dial_destination.ensures.unpaused c.dial_destination.ensures.counts.idles (ap (λ (s : Seen). s.start.idles) c.in_ok-dial_destination.ensures.kept ∙ ap (λ (s : Seen). s.start.idles) c.in_ok-settle.ensures.kept ∙ ap (λ (s : Seen). s.start.idles) c.in_ok-dial_source.ensures.kept) (c.in_ok-settle-2.ensures.patient two))))

pub returns-in_err-dial_source-clause-paces : goal.returns-in_err-dial_source-clause-paces
returns-in_err-dial_source-clause-paces g c = source_tried _ _ c.dial_source.ensures.untried

pub returns-in_err-settle-clause-paces : goal.returns-in_err-settle-clause-paces
returns-in_err-settle-clause-paces g c = source_paced 2 c.args.self.now c.dial_source.new.self _ _ _ c.in_ok-dial_source.ensures.board (dials_as c.args.self.now.options _ _ _ _ _ _ _ (ap (λ (s : Seen). s.options.extents) c.self.view_is) c.in_ok-dial_source.ensures.dials) c.requires.begun c.dial_source.ensures.untried c.settle.ensures.paces

pub returns-in_err-dial_destination-clause-paces : goal.returns-in_err-dial_destination-clause-paces
returns-in_err-dial_destination-clause-paces g c =
    pace_fewer 1 2 _ _ (omega arith) (pace_untired 1 _ _ _ (omega arith) c.dial_destination.ensures.untried (source_paced 1 c.args.self.now c.dial_source.new.self _ _ _ c.in_ok-dial_source.ensures.board (dials_as c.args.self.now.options _ _ _ _ _ _ _ (ap (λ (s : Seen). s.options.extents) c.self.view_is) c.in_ok-dial_source.ensures.dials) c.requires.begun c.dial_source.ensures.untried c.in_ok-settle.ensures.paced))

pub returns-in_err-settle-2-clause-paces : goal.returns-in_err-settle-2-clause-paces
returns-in_err-settle-2-clause-paces g c =
    meet_paced 2 c.args.self.now c.dial_source.new.self c.settle.new.self c.dial_destination.new.self _ _ _ _ _
    c.in_ok-dial_source.ensures.kept c.in_ok-settle.ensures.kept c.in_ok-dial_source.ensures.board c.in_ok-dial_destination.ensures.board
    (dials_as c.args.self.now.options _ _ _ _ _ _ _ (ap (λ (s : Seen). s.options.extents) c.self.view_is) c.in_ok-dial_source.ensures.dials) c.in_ok-settle.ensures.goes c.in_ok-dial_destination.ensures.dials c.requires.begun
    c.dial_source.ensures.untried c.in_ok-settle.ensures.paced c.dial_destination.ensures.untried c.settle-2.ensures.paces

pub returns-clause-paces : goal.returns-clause-paces
returns-clause-paces g c =
    meet_paced 2 c.args.self.now c.dial_source.new.self c.settle.new.self c.dial_destination.new.self _ _ _ _ _
    c.in_ok-dial_source.ensures.kept c.in_ok-settle.ensures.kept c.in_ok-dial_source.ensures.board c.in_ok-dial_destination.ensures.board
    (dials_as c.args.self.now.options _ _ _ _ _ _ _ (ap (λ (s : Seen). s.options.extents) c.self.view_is) c.in_ok-dial_source.ensures.dials) c.in_ok-settle.ensures.goes c.in_ok-dial_destination.ensures.dials c.requires.begun
    c.dial_source.ensures.untried c.in_ok-settle.ensures.paced c.dial_destination.ensures.untried c.settle-2.ensures.paces

pub returns-clause-paced : goal.returns-clause-paced
returns-clause-paced g c =
    always_on_ok c.agree.result
    (meet_paced 1 c.args.self.now c.dial_source.new.self c.settle.new.self c.dial_destination.new.self _ _ _ _ _
    c.in_ok-dial_source.ensures.kept c.in_ok-settle.ensures.kept c.in_ok-dial_source.ensures.board c.in_ok-dial_destination.ensures.board
    (dials_as c.args.self.now.options _ _ _ _ _ _ _ (ap (λ (s : Seen). s.options.extents) c.self.view_is) c.in_ok-dial_source.ensures.dials) c.in_ok-settle.ensures.goes c.in_ok-dial_destination.ensures.dials c.requires.begun
    c.dial_source.ensures.untried c.in_ok-settle.ensures.paced c.dial_destination.ensures.untried c.in_ok-settle-2.ensures.paced)
