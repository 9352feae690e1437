use Rattle.std.proofs.Common.{sym, subst, ap, ◌∙◌, ◌+◌, length, ◌-◌, [], ℕ, true, false, replicate, List, Option, ◌≡◌, None}
use Rattle.lnbd_link.specs.Call.{Call}
use Rattle.lnbd_touched.proofs.GrownLemmas.{done_as}
use Rattle.lnbd_connections.specs.Steps.{Goes}
use Rattle.lnbd_copy.specs.Way.{Stand}
use Rattle.lnbd_copy.proofs.ConnectedLemmas.{connected_links, connected_then}
use Rattle.lnbd_connections.specs.Uses.{Uses, UsesTo}
use Rattle.lnbd_connections.proofs.UseLemmas.{uses_all, uses_end, usesto_any}
use Rattle.lnbd_copyfile.proofs.LinkClauses.{ok_anyway}
use Rattle.lnbd_copyfile.specs.FromFile.{HasMet, Seen}
use Rattle.lnbd_copyfile.proofs.FromFileLemmas.{joins}
use Rattle.lnbd_copyfile.proofs.from_file.FromFile.join.Goals as goal
use Rattle.lnbd_copyfile.proofs.GivenLemmas.{joins_dials, joins_turns}
use Rattle.lnbd_copyfile.proofs.ShareFromLemmas.{join_few, opening_joins}
use Rattle.lnbd_copyfile.specs.SharingFrom.{HaveMet}
use Rattle.lnbd_connections.specs.Bound.{Binds}
use Rattle.lnbd_copyfile.specs.FromFilePauses.{IsAwaited}
use Rattle.lnbd_copyfile.proofs.FromFilePauseLemmas.{awaits_more, unready_settled}
use Rattle.lnbd_copy.proofs.PausedLemmas.{told_stays}

pub returns-clause-on : goal.returns-clause-on
returns-clause-on g c =
    let was : Seen = record { options = c.self.inside.options; start = c.self.inside.start; held = c.self.inside.handles; board = c.self.inside.board } in
    let mid : Seen = record { options = c.self.inside.options; start = c.self.inside.start; held = c.dial_further.new.handles; board = c.dial_further.new.board } in
    let new : Seen = record { options = c.self.inside.options; start = c.self.inside.start; held = c.settle.new.handles; board = c.settle.new.board } in
    done_as c.settle.result (Goes mid.board mid.held (g.W.Wires.told c.dial_further.new.wires) new.board new.held (g.W.Wires.told c.settle.new.wires))
    ((start : Option (List Call)) → HasMet c.args.to.now c.args.terms start (g.W.Wires.told c.args.wires.now) c.args.self.now →
    HasMet c.args.to.now c.args.terms start (g.W.Wires.told c.settle.new.wires) new)
    (λ goes start met. joins c.args.to.now c.args.terms start _ _ _ was mid new c.saturating_sub-more.result c.in_ok-dial_further.ensures.board c.in_ok-dial_further.ensures.dials goes
    (subst (λ (s : Seen). HasMet c.args.to.now c.args.terms start (g.W.Wires.told c.args.wires.now) s) (sym c.self.view_is) met)) c.settle.ensures.goes

pub returns-clause-opens : goal.returns-clause-opens
returns-clause-opens g c =
    let was : Seen = record { options = c.self.inside.options; start = c.self.inside.start; held = c.self.inside.handles; board = c.self.inside.board } in
    let mid : Seen = record { options = c.self.inside.options; start = c.self.inside.start; held = c.dial_further.new.handles; board = c.dial_further.new.board } in
    let new : Seen = record { options = c.self.inside.options; start = c.self.inside.start; held = c.settle.new.handles; board = c.settle.new.board } in
    done_as c.settle.result (Binds mid.board mid.held (g.W.Wires.told c.dial_further.new.wires) new.board new.held (g.W.Wires.told c.settle.new.wires))
    ((start : Option (List Call)) → HasMet c.args.to.now c.args.terms start (g.W.Wires.told c.args.wires.now) c.args.self.now →
    HaveMet c.args.to.now c.args.terms start (g.W.Wires.told c.args.wires.now) c.args.self.now → HaveMet c.args.to.now c.args.terms start (g.W.Wires.told c.settle.new.wires) new)
    (λ binds start met have. opening_joins c.args.to.now c.args.terms start _ _ was mid c.saturating_sub-more.result _ new c.in_ok-dial_further.ensures.board c.in_ok-dial_further.ensures.dials
    c.in_ok-dial_further.ensures.binds binds (subst (λ (s : Seen). HasMet c.args.to.now c.args.terms start (g.W.Wires.told c.args.wires.now) s) (sym c.self.view_is) met)
    (subst (λ (s : Seen). HaveMet c.args.to.now c.args.terms start (g.W.Wires.told c.args.wires.now) s) (sym c.self.view_is) have)) c.settle.ensures.binds

pub returns-in_err-dial_further-clause-few : goal.returns-in_err-dial_further-clause-few
returns-in_err-dial_further-clause-few g c = λ start met. c.dial_further.ensures.few 0 start

pub returns-clause-few : goal.returns-clause-few
returns-clause-few g c = λ start met.
    let was : Seen = record { options = c.self.inside.options; start = c.self.inside.start; held = c.self.inside.handles; board = c.self.inside.board } in
    let mid : Seen = record { options = c.self.inside.options; start = c.self.inside.start; held = c.dial_further.new.handles; board = c.dial_further.new.board } in
    join_few c.args.to.now c.args.terms start _ _ was mid c.saturating_sub-more.result _ c.in_ok-dial_further.ensures.board c.in_ok-dial_further.ensures.dials
    (c.dial_further.ensures.few 0 start) c.settle.ensures.few
    (subst (λ (s : Seen). HasMet c.args.to.now c.args.terms start (g.W.Wires.told c.args.wires.now) s) (sym c.self.view_is) met)

pub returns-clause-unasked : goal.returns-clause-unasked
returns-clause-unasked g c = λ start met well unasked.
    let was : Seen = record { options = c.self.inside.options; start = c.self.inside.start; held = c.self.inside.handles; board = c.self.inside.board } in
    let mid : Seen = record { options = c.self.inside.options; start = c.self.inside.start; held = c.dial_further.new.handles; board = c.dial_further.new.board } in
    joins_turns c.args.to.now c.args.terms start _ _ _ was mid c.saturating_sub-more.result c.in_ok-dial_further.ensures.board
    (subst (λ (s : Seen). HasMet c.args.to.now c.args.terms start (g.W.Wires.told c.args.wires.now) s) (sym c.self.view_is) met)
    (subst (λ (s : Seen). s.board.error ≡ None) (sym c.self.view_is) well) c.dial_further.ensures.asks c.in_ok-dial_further.ensures.dials c.settle.ensures.asks unasked

pub returns-in_err-dial_further-clause-unasked : goal.returns-in_err-dial_further-clause-unasked
returns-in_err-dial_further-clause-unasked g c = λ start met well unasked.
    let was : Seen = record { options = c.self.inside.options; start = c.self.inside.start; held = c.self.inside.handles; board = c.self.inside.board } in
    joins_dials c.args.to.now c.args.terms start _ _ was (subst (λ (s : Seen). HasMet c.args.to.now c.args.terms start (g.W.Wires.told c.args.wires.now) s) (sym c.self.view_is) met)
    (subst (λ (s : Seen). s.board.error ≡ None) (sym c.self.view_is) well) c.dial_further.ensures.asks unasked

pub returns-in_err-dial_further-clause-links : goal.returns-in_err-dial_further-clause-links
returns-in_err-dial_further-clause-links g c stand =
    subst (λ (s : Seen). UsesTo true s.start.idles (replicate (c.args.terms.sides.destination - 1) c.args.to.now.to) s.held (g.W.Wires.told c.args.wires.now) (g.W.Wires.idles c.args.wires.now)
    c.dial_further.new.handles (g.W.Wires.told c.dial_further.new.wires) (g.W.Wires.idles c.dial_further.new.wires)) c.self.view_is
    (subst (λ (n : ℕ). UsesTo true c.self.inside.start.idles (replicate n c.args.to.now.to) c.self.inside.handles (g.W.Wires.told c.args.wires.now) (g.W.Wires.idles c.args.wires.now)
    c.dial_further.new.handles (g.W.Wires.told c.dial_further.new.wires) (g.W.Wires.idles c.dial_further.new.wires)) c.saturating_sub-more.ensures
    (usesto_any _ _ _ _ _ _ _ _ _ c.dial_further.ensures.links))

pub returns-clause-links : goal.returns-clause-links
returns-clause-links g c stand =
    let three = c.in_ok-dial_further.ensures.dials.stand (subst (λ (s : Seen). Stand s.held) (sym c.self.view_is) stand) in
    subst (λ (s : Seen). UsesTo true s.start.idles (replicate (c.args.terms.sides.destination - 1) c.args.to.now.to) s.held (g.W.Wires.told c.args.wires.now) (g.W.Wires.idles c.args.wires.now)
    c.settle.new.handles (g.W.Wires.told c.settle.new.wires) (g.W.Wires.idles c.settle.new.wires)) c.self.view_is
    (subst (λ (n : ℕ). UsesTo true c.self.inside.start.idles (replicate n c.args.to.now.to) c.self.inside.handles (g.W.Wires.told c.args.wires.now) (g.W.Wires.idles c.args.wires.now)
    c.settle.new.handles (g.W.Wires.told c.settle.new.wires) (g.W.Wires.idles c.settle.new.wires)) c.saturating_sub-more.ensures
    (uses_all _ _ _ _ _ _ _ _ _ (uses_end _ _ _ _ _ _ _ _ _ _ _ _ c.in_ok-dial_further.ensures.connects (c.settle.ensures.uses three))))

pub returns-clause-connects : goal.returns-clause-connects
returns-clause-connects g c =
    done_as c.settle.result (Stand c.dial_further.new.handles → Uses false c.self.inside.start.idles [] c.dial_further.new.handles (g.W.Wires.told c.dial_further.new.wires) (g.W.Wires.idles
    c.dial_further.new.wires) c.settle.new.handles (g.W.Wires.told c.settle.new.wires) (g.W.Wires.idles c.settle.new.wires))
    (Stand c.args.self.now.held → Uses false c.args.self.now.start.idles (replicate (c.args.terms.sides.destination - 1) c.args.to.now.to) c.args.self.now.held (g.W.Wires.told c.args.wires.now)
    (g.W.Wires.idles c.args.wires.now) c.settle.new.handles (g.W.Wires.told c.settle.new.wires) (g.W.Wires.idles c.settle.new.wires))
    (λ settles stand.
    let three = c.in_ok-dial_further.ensures.dials.stand (subst (λ (s : Seen). Stand s.held) (sym c.self.view_is) stand) in
    subst (λ (s : Seen). Uses false s.start.idles (replicate (c.args.terms.sides.destination - 1) c.args.to.now.to) s.held (g.W.Wires.told c.args.wires.now) (g.W.Wires.idles c.args.wires.now)
    c.settle.new.handles (g.W.Wires.told c.settle.new.wires) (g.W.Wires.idles c.settle.new.wires)) c.self.view_is
    (subst (λ (n : ℕ). Uses false c.self.inside.start.idles (replicate n c.args.to.now.to) c.self.inside.handles (g.W.Wires.told c.args.wires.now) (g.W.Wires.idles c.args.wires.now)
    c.settle.new.handles (g.W.Wires.told c.settle.new.wires) (g.W.Wires.idles c.settle.new.wires)) c.saturating_sub-more.ensures
    (uses_end _ _ _ _ _ _ _ _ _ _ _ _ c.in_ok-dial_further.ensures.connects (settles three)))) c.settle.ensures.settles

pub returns-clause-connected : goal.returns-clause-connected
returns-clause-connected g c =
    ok_anyway c.settle.result _ (λ stand.
    let three = c.in_ok-dial_further.ensures.dials.stand (subst (λ (s : Seen). Stand s.held) (sym c.self.view_is) stand) in
    connected_then _ _ _ c.in_ok-dial_further.ensures.connected (connected_links _ _ _ _ (c.settle.ensures.uses three).links))

pub returns-in_err-dial_further-clause-unready : goal.returns-in_err-dial_further-clause-unready
returns-in_err-dial_further-clause-unready g c = λ start awaits. told_stays start _ _ c.dial_further.ensures.unpaused awaits.so.pauses

pub returns-clause-unready : goal.returns-clause-unready
returns-clause-unready g c = λ start awaits.
    let was : Seen = record { options = c.self.inside.options; start = c.self.inside.start; held = c.self.inside.handles; board = c.self.inside.board } in
    let mid : Seen = record { options = c.self.inside.options; start = c.self.inside.start; held = c.dial_further.new.handles; board = c.dial_further.new.board } in
    unready_settled c.args.to.now start _ _ mid c.settle.ensures.unready
    (awaits_more c.args.to.now start _ _ was mid c.in_ok-dial_further.ensures.awaits
    (subst (λ (s : Seen). IsAwaited c.args.to.now start (g.W.Wires.told c.args.wires.now) s) (sym c.self.view_is) awaits))

pub returns-clause-many : goal.returns-clause-many
returns-clause-many g c =
    done_as c.settle.result (Goes c.dial_further.new.board c.dial_further.new.handles (g.W.Wires.told c.dial_further.new.wires) c.settle.new.board c.settle.new.handles (g.W.Wires.told
    c.settle.new.wires))
    (Stand c.args.self.now.held → length c.settle.new.handles ≡ length c.args.self.now.held + (c.args.terms.sides.destination - 1))
    (λ goes stand.
    goes.many (c.in_ok-dial_further.ensures.dials.stand (subst (λ (s : Seen). Stand s.held) (sym c.self.view_is) stand)) ∙ c.in_ok-dial_further.ensures.dials.many
    ∙ ap (λ (n : ℕ). length c.self.inside.handles + n) c.saturating_sub-more.ensures
    ∙ ap (λ (s : Seen). length s.held + (c.args.terms.sides.destination - 1)) c.self.view_is) c.settle.ensures.goes
