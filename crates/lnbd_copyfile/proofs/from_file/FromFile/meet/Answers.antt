use Rattle.std.proofs.Common.{[], ◌∷◌, ◌+◌, length, List, IfOk, true, false, ap, sym, subst, ◌∙◌}
use Rattle.lnbd_touched.proofs.GrownLemmas.{ok_as, ok_both}
use Rattle.lnbd_copy.proofs.ConnectedLemmas.{connected_links, connected_then}
use Rattle.lnbd_connections.specs.Uses.{Uses, UsesTo}
use Rattle.lnbd_connections.proofs.UseLemmas.{uses_all, uses_end, usesto_any}
use Rattle.lnbd_poll.specs.Held.{Held}
use Rattle.lnbd_board.specs.declared.ticket.Ticket.{Ticket}
use Rattle.lnbd_copyfile.specs.Linked.{FindsMany}
use Rattle.lnbd_copyfile.proofs.LinkClauses.{none_stand, ok_anyway}
use Rattle.lnbd_copyfile.specs.FromFile.{HasAgreed, HasMet, HasNotBegun, Seen}
use Rattle.lnbd_copyfile.proofs.FromFileLemmas.{meets}
use Rattle.lnbd_copyfile.proofs.from_file.FromFile.meet.Goals as goal
use Rattle.lnbd_copyfile.proofs.GivenLemmas.{always_ok, meets_dials, meets_turns}
use Rattle.lnbd_copyfile.proofs.ShareFromLemmas.{met_few, opening_meets, terms_met}
use Rattle.lnbd_copyfile.specs.SharingFrom.{FindsTermsFrom, HasTermsFrom, HaveMet}
use Rattle.lnbd_copyfile.specs.Shown.{FindsShown, HasShown}
use Rattle.lnbd_copyfile.proofs.ShownLemmas.{met_shown}
use Rattle.lnbd_copyfile.proofs.FromFilePauseLemmas.{awaits_met, awaits_settled, first_unready, unready_settled}

pub returns-clause-met : goal.returns-clause-met
returns-clause-met g c =
    let was : Seen = record { options = c.self.inside.options; start = c.self.inside.start; held = c.self.inside.handles; board = c.self.inside.board } in
    let mid : Seen = record { options = c.self.inside.options; start = c.self.inside.start; held = c.dial.new.handles; board = c.dial.new.board } in
    let new : Seen = record { options = c.self.inside.options; start = c.self.inside.start; held = c.settle.new.handles; board = c.settle.new.board } in
    ok_as c.agree.result (λ terms. HasAgreed terms c.settle.new.handles) (λ terms. HasMet c.args.to.now terms (g.W.Wires.told c.args.wires.now) (g.W.Wires.told c.settle.new.wires) new)
    (λ terms agreed. meets c.args.to.now _ _ _ was mid new terms (subst HasNotBegun (sym c.self.view_is) c.requires.begun) c.in_ok-dial.ensures.board c.in_ok-dial.ensures.dials
    c.in_ok-settle.ensures.goes agreed) c.agree.ensures.agrees

pub returns-clause-opens : goal.returns-clause-opens
returns-clause-opens g c =
    let was : Seen = record { options = c.self.inside.options; start = c.self.inside.start; held = c.self.inside.handles; board = c.self.inside.board } in
    let mid : Seen = record { options = c.self.inside.options; start = c.self.inside.start; held = c.dial.new.handles; board = c.dial.new.board } in
    let new : Seen = record { options = c.self.inside.options; start = c.self.inside.start; held = c.settle.new.handles; board = c.settle.new.board } in
    ok_as c.agree.result (λ terms. HasAgreed terms c.settle.new.handles) (λ terms. HaveMet c.args.to.now terms (g.W.Wires.told c.args.wires.now) (g.W.Wires.told c.settle.new.wires) new)
    (λ terms agreed. opening_meets c.args.to.now _ _ _ was mid new terms (subst HasNotBegun (sym c.self.view_is) c.requires.begun) c.in_ok-dial.ensures.board c.in_ok-dial.ensures.dials
    c.in_ok-dial.ensures.binds c.in_ok-settle.ensures.binds agreed) c.agree.ensures.agrees

pub returns-clause-settles : goal.returns-clause-settles
returns-clause-settles g c =
    let was : Seen = record { options = c.self.inside.options; start = c.self.inside.start; held = c.self.inside.handles; board = c.self.inside.board } in
    let mid : Seen = record { options = c.self.inside.options; start = c.self.inside.start; held = c.dial.new.handles; board = c.dial.new.board } in
    let new : Seen = record { options = c.self.inside.options; start = c.self.inside.start; held = c.settle.new.handles; board = c.settle.new.board } in
    subst (λ (s : Seen). IfOk c.agree.result (λ terms. HasTermsFrom s.options c.args.to.now (g.W.Wires.told c.args.wires.now) (g.W.Wires.told c.settle.new.wires) terms)) c.self.view_is
    (ok_as c.agree.result (λ terms. FindsTermsFrom c.self.inside.options terms c.settle.new.handles)
    (λ terms. HasTermsFrom c.self.inside.options c.args.to.now (g.W.Wires.told c.args.wires.now) (g.W.Wires.told c.settle.new.wires) terms)
    (λ terms finds. terms_met c.args.to.now _ _ _ was mid new c.self.inside.options terms (subst HasNotBegun (sym c.self.view_is) c.requires.begun) c.in_ok-dial.ensures.board
    c.in_ok-dial.ensures.dials
    c.in_ok-dial.ensures.drives c.in_ok-settle.ensures.binds finds) c.agree.ensures.settles)

pub returns-in_err-dial-clause-few : goal.returns-in_err-dial-clause-few
returns-in_err-dial-clause-few g c = c.dial.ensures.few 0 (g.W.Wires.told c.args.wires.now)

pub returns-in_err-settle-clause-few : goal.returns-in_err-settle-clause-few
returns-in_err-settle-clause-few g c =
    let was : Seen = record { options = c.self.inside.options; start = c.self.inside.start; held = c.self.inside.handles; board = c.self.inside.board } in
    let mid : Seen = record { options = c.self.inside.options; start = c.self.inside.start; held = c.dial.new.handles; board = c.dial.new.board } in
    met_few c.args.to.now _ _ _ was mid (subst HasNotBegun (sym c.self.view_is) c.requires.begun) c.in_ok-dial.ensures.board c.in_ok-dial.ensures.dials
    (c.dial.ensures.few 0 (g.W.Wires.told c.args.wires.now)) c.settle.ensures.few

pub returns-clause-few : goal.returns-clause-few
returns-clause-few g c =
    let was : Seen = record { options = c.self.inside.options; start = c.self.inside.start; held = c.self.inside.handles; board = c.self.inside.board } in
    let mid : Seen = record { options = c.self.inside.options; start = c.self.inside.start; held = c.dial.new.handles; board = c.dial.new.board } in
    met_few c.args.to.now _ _ _ was mid (subst HasNotBegun (sym c.self.view_is) c.requires.begun) c.in_ok-dial.ensures.board c.in_ok-dial.ensures.dials
    (c.dial.ensures.few 0 (g.W.Wires.told c.args.wires.now)) c.settle.ensures.few

pub returns-clause-unasked : goal.returns-clause-unasked
returns-clause-unasked g c =
    let was : Seen = record { options = c.self.inside.options; start = c.self.inside.start; held = c.self.inside.handles; board = c.self.inside.board } in
    let mid : Seen = record { options = c.self.inside.options; start = c.self.inside.start; held = c.dial.new.handles; board = c.dial.new.board } in
    meets_turns c.args.to.now _ _ _ was mid (subst HasNotBegun (sym c.self.view_is) c.requires.begun) c.in_ok-dial.ensures.board c.dial.ensures.asks c.in_ok-dial.ensures.dials c.settle.ensures.asks

pub returns-in_err-settle-clause-unasked : goal.returns-in_err-settle-clause-unasked
returns-in_err-settle-clause-unasked g c =
    let was : Seen = record { options = c.self.inside.options; start = c.self.inside.start; held = c.self.inside.handles; board = c.self.inside.board } in
    let mid : Seen = record { options = c.self.inside.options; start = c.self.inside.start; held = c.dial.new.handles; board = c.dial.new.board } in
    meets_turns c.args.to.now _ _ _ was mid (subst HasNotBegun (sym c.self.view_is) c.requires.begun) c.in_ok-dial.ensures.board c.dial.ensures.asks c.in_ok-dial.ensures.dials c.settle.ensures.asks

pub returns-in_err-dial-clause-unasked : goal.returns-in_err-dial-clause-unasked
returns-in_err-dial-clause-unasked g c =
    let was : Seen = record { options = c.self.inside.options; start = c.self.inside.start; held = c.self.inside.handles; board = c.self.inside.board } in
    meets_dials c.args.to.now _ _ was (subst HasNotBegun (sym c.self.view_is) c.requires.begun) c.dial.ensures.asks

pub returns-clause-well : goal.returns-clause-well
returns-clause-well g c = always_ok c.agree.result c.in_ok-settle.ensures.well

pub returns-in_err-dial-clause-links : goal.returns-in_err-dial-clause-links
returns-in_err-dial-clause-links g c =
    subst (λ (s : Seen). UsesTo true s.start.idles (c.args.to.now.to ∷ []) s.held (g.W.Wires.told c.args.wires.now) (g.W.Wires.idles c.args.wires.now) c.dial.new.handles (g.W.Wires.told
    c.dial.new.wires) (g.W.Wires.idles c.dial.new.wires)) c.self.view_is
    (usesto_any _ _ _ _ _ _ _ _ _ c.dial.ensures.links)

pub returns-in_err-settle-clause-links : goal.returns-in_err-settle-clause-links
returns-in_err-settle-clause-links g c =
    let one = c.in_ok-dial.ensures.dials.stand (none_stand _ (ap (λ (s : Seen). s.held) c.self.view_is ∙ c.requires.begun.held)) in
    subst (λ (s : Seen). UsesTo true s.start.idles (c.args.to.now.to ∷ []) s.held (g.W.Wires.told c.args.wires.now) (g.W.Wires.idles c.args.wires.now) c.settle.new.handles (g.W.Wires.told
    c.settle.new.wires) (g.W.Wires.idles c.settle.new.wires)) c.self.view_is
    (uses_all _ _ _ _ _ _ _ _ _ (uses_end _ _ _ _ _ _ _ _ _ _ _ _ c.in_ok-dial.ensures.connects (c.settle.ensures.uses one)))

pub returns-clause-links : goal.returns-clause-links
returns-clause-links g c =
    let one = c.in_ok-dial.ensures.dials.stand (none_stand _ (ap (λ (s : Seen). s.held) c.self.view_is ∙ c.requires.begun.held)) in
    subst (λ (s : Seen). UsesTo true s.start.idles (c.args.to.now.to ∷ []) s.held (g.W.Wires.told c.args.wires.now) (g.W.Wires.idles c.args.wires.now) c.settle.new.handles (g.W.Wires.told
    c.settle.new.wires) (g.W.Wires.idles c.settle.new.wires)) c.self.view_is
    (uses_all _ _ _ _ _ _ _ _ _ (uses_end _ _ _ _ _ _ _ _ _ _ _ _ c.in_ok-dial.ensures.connects (c.settle.ensures.uses one)))

pub returns-clause-connects : goal.returns-clause-connects
returns-clause-connects g c =
    let one = c.in_ok-dial.ensures.dials.stand (none_stand _ (ap (λ (s : Seen). s.held) c.self.view_is ∙ c.requires.begun.held)) in
    ok_anyway c.agree.result _
    (subst (λ (s : Seen). Uses false s.start.idles (c.args.to.now.to ∷ []) s.held (g.W.Wires.told c.args.wires.now) (g.W.Wires.idles c.args.wires.now) c.settle.new.handles (g.W.Wires.told
    c.settle.new.wires) (g.W.Wires.idles c.settle.new.wires)) c.self.view_is
    (uses_end _ _ _ _ _ _ _ _ _ _ _ _ c.in_ok-dial.ensures.connects (c.in_ok-settle.ensures.settles one)))

pub returns-clause-connected : goal.returns-clause-connected
returns-clause-connected g c =
    let one = c.in_ok-dial.ensures.dials.stand (none_stand _ (ap (λ (s : Seen). s.held) c.self.view_is ∙ c.requires.begun.held)) in
    ok_anyway c.agree.result _ (connected_then _ _ _ c.in_ok-dial.ensures.connected (connected_links _ _ _ _ (c.in_ok-settle.ensures.settles one).links))

pub returns-clause-many : goal.returns-clause-many
returns-clause-many g c =
    subst (λ (s : Seen). IfOk c.agree.result (λ terms. FindsMany s.options terms.sides.destination c.settle.new.handles)) c.self.view_is c.agree.ensures.many

pub returns-clause-shows : goal.returns-clause-shows
returns-clause-shows g c =
    let to = c.args.to.now in
    let new : Seen = record { options = c.self.inside.options; start = c.self.inside.start; held = c.settle.new.handles; board = c.settle.new.board } in
    subst (λ (s : Seen). IfOk c.agree.result (λ terms. HasShown s.options c.args.size to (g.W.Wires.told c.args.wires.now) (g.W.Wires.told c.settle.new.wires) terms)) c.self.view_is
    (ok_both c.agree.result (λ terms. HasMet to terms (g.W.Wires.told c.args.wires.now) (g.W.Wires.told c.settle.new.wires) new)
    (λ terms. FindsShown c.self.inside.options c.args.size c.settle.new.handles terms)
    (λ terms. HasShown c.self.inside.options c.args.size to (g.W.Wires.told c.args.wires.now) (g.W.Wires.told c.settle.new.wires) terms)
    (λ terms met finds. met_shown c.self.inside.options c.args.size to _ _ new terms met finds) (returns-clause-met g c) c.agree.ensures.finds)

pub returns-in_err-dial-clause-unready : goal.returns-in_err-dial-clause-unready
returns-in_err-dial-clause-unready g c = first_unready c.args.to.now _ _ c.dial.ensures.unpaused

pub returns-in_err-settle-clause-unready : goal.returns-in_err-settle-clause-unready
returns-in_err-settle-clause-unready g c =
    let was : Seen = record { options = c.self.inside.options; start = c.self.inside.start; held = c.self.inside.handles; board = c.self.inside.board } in
    let mid : Seen = record { options = c.self.inside.options; start = c.self.inside.start; held = c.dial.new.handles; board = c.dial.new.board } in
    unready_settled c.args.to.now (g.W.Wires.told c.args.wires.now) _ _ mid c.settle.ensures.unready
    (awaits_met c.args.to.now (g.W.Wires.told c.args.wires.now) _ was mid (subst HasNotBegun (sym c.self.view_is) c.requires.begun) c.in_ok-dial.ensures.awaits)

pub returns-clause-unready : goal.returns-clause-unready
returns-clause-unready g c =
    let was : Seen = record { options = c.self.inside.options; start = c.self.inside.start; held = c.self.inside.handles; board = c.self.inside.board } in
    let mid : Seen = record { options = c.self.inside.options; start = c.self.inside.start; held = c.dial.new.handles; board = c.dial.new.board } in
    unready_settled c.args.to.now (g.W.Wires.told c.args.wires.now) _ _ mid c.settle.ensures.unready
    (awaits_met c.args.to.now (g.W.Wires.told c.args.wires.now) _ was mid (subst HasNotBegun (sym c.self.view_is) c.requires.begun) c.in_ok-dial.ensures.awaits)

pub returns-clause-awaits : goal.returns-clause-awaits
returns-clause-awaits g c =
    let was : Seen = record { options = c.self.inside.options; start = c.self.inside.start; held = c.self.inside.handles; board = c.self.inside.board } in
    let mid : Seen = record { options = c.self.inside.options; start = c.self.inside.start; held = c.dial.new.handles; board = c.dial.new.board } in
    let new : Seen = record { options = c.self.inside.options; start = c.self.inside.start; held = c.settle.new.handles; board = c.settle.new.board } in
    ok_anyway c.agree.result _
    (awaits_settled c.args.to.now (g.W.Wires.told c.args.wires.now) _ _ mid new c.in_ok-settle.ensures.awaits
    (awaits_met c.args.to.now (g.W.Wires.told c.args.wires.now) _ was mid (subst HasNotBegun (sym c.self.view_is) c.requires.begun) c.in_ok-dial.ensures.awaits))

pub returns-clause-one : goal.returns-clause-one
returns-clause-one g c =
    let empty = ap (λ (s : Seen). s.held) c.self.view_is ∙ c.requires.begun.held in
    let stand = c.in_ok-dial.ensures.dials.stand (none_stand _ empty) in
    ok_anyway c.agree.result _ (c.in_ok-settle.ensures.goes.many stand ∙ c.in_ok-dial.ensures.dials.many ∙ ap (λ (l : List (Held Ticket)). length l + 1) empty)
