use Rattle.std.proofs.Common.{◌≡◌, ◌≤◌, ◌+◌, ℕ, List, All, Result, min, ap, arith, sym, subst, ◌∙◌}
use Rattle.std.proofs.lemmas.List.Elements.{All-nil}
use Rattle.std.specs.Prelude.{OnOk, IfErr}
use Rattle.lnbd_serve.specs.declared.fault.ServeFault.{ServeFault}
use Rattle.lnbd_serve.specs.declared.guest.Guest.{Guest}
use Rattle.lnbd_serve.specs.Halls.{Hall, Rests, ServesUntil}
use Rattle.lnbd_serve.specs.Rounds.{ServedWhole, hall_of}
use Rattle.lnbd_serve.specs.Served.{ServedAs}
use Rattle.lnbd_serve.specs.Steps.{Went}
use Rattle.lnbd_serve.proofs.ServeLemmas.{link_of, served_as, silent_of}
use Rattle.lnbd_serve.proofs.serving.serve_on.Goals as goal

pub serve_all-served-requires-clause-rests : goal.serve_all-served-requires-clause-rests
serve_all-served-requires-clause-rests g c = subst (λ (gs : List Guest). All Rests gs) (sym (ap (λ (h : Hall). h.guests) (c.new-guests.ensures c.args.export.now))) (All-nil Rests)

pub serve_all-served-requires-clause-few : goal.serve_all-served-requires-clause-few
serve_all-served-requires-clause-few g c = let none : c.new-guests.result.accepted ≡ 0 = ap (λ (h : Hall). h.accepted) (c.new-guests.ensures c.args.export.now) in omega (arith, none)

pub returns-clause-serves : goal.returns-clause-serves
returns-clause-serves g c =
    let start = c.new-guests.ensures c.args.export.now in
    let hall = hall_of c.serve_all-served.new.guests c.serve_all-served.new.export in
    subst (λ (r : Result ℕ ServeFault). Went (g.W.Wires.told c.args.wires.now) (g.W.Wires.told c.shut_all.new.wires) (λ calls. ServedAs c.args.listener c.args.sessions r c.args.export.now calls c.serve_all-served.new.export)) (sym c.answer_of.ensures)
    (served_as _ _ _ c.args.listener c.args.sessions c.serve_all-served.result hall c.args.export.now _ _ _
    (subst (λ (h : Hall). OnOk c.serve_all-served.result (Went (g.W.Wires.told c.args.wires.now) (g.W.Wires.told c.serve_all-served.new.wires) (λ calls. ServedWhole c.args.listener c.args.sessions h calls hall))) start c.serve_all-served.ensures.ok)
    (subst (λ (h : Hall). IfErr c.serve_all-served.result (λ why. Went (g.W.Wires.told c.args.wires.now) (g.W.Wires.told c.serve_all-served.new.wires) (λ calls. ServesUntil c.args.listener c.args.sessions h calls hall why))) start c.serve_all-served.ensures.err)
    c.shut_all.ensures.shuts)

pub returns-clause-link : goal.returns-clause-link
returns-clause-link g c x y e =
    let l = link_of c.serve_all-served.result _ _ _ _ _ x y (sym c.answer_of.ensures ∙ e) in
    let rises : min (g.W.Wires.faults c.args.wires.now + 1) 18446744073709551615 ≤ g.W.Wires.faults c.serve_all-served.new.wires = c.serve_all-served.ensures.counts.cause l.0 in
    let first : x ≡ g.W.Wires.faults c.args.wires.now = l.1 ∙ c.faults-before.ensures.count in
    let last : y ≡ g.W.Wires.faults c.shut_all.new.wires = l.2 ∙ c.faults.ensures.count in
    (first, last, omega (arith, rises, first, last, c.shut_all.ensures.counts.faults_later))

pub returns-clause-silent : goal.returns-clause-silent
returns-clause-silent g c x e =
    let s = silent_of c.serve_all-served.result _ _ _ _ _ x (sym c.answer_of.ensures ∙ e) in
    let rises : min (g.W.Wires.idles c.args.wires.now + 1000000000) 18446744073709551615 ≤ g.W.Wires.idles c.serve_all-served.new.wires = c.serve_all-served.ensures.silent s.0 in
    let last : x ≡ g.W.Wires.idles c.shut_all.new.wires = s.1 ∙ c.idles.ensures in
    (last, omega (arith, rises, last, c.shut_all.ensures.counts.idles_later))
