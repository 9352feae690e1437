use Rattle.std.proofs.Common.{[], subst}
use Rattle.lnbd_copy.specs.Copier.{Seen}
use Rattle.lnbd_copy.specs.Links.{LinksGo}
use Rattle.lnbd_copy.proofs.FaultLemmas.{behaves_idly}
use Rattle.lnbd_copy.proofs.GroundLemmas.{grounded_later, if_err_leads}
use Rattle.lnbd_copy.proofs.LinkLemmas.{links_then}
use Rattle.lnbd_copy.proofs.PauseLemmas.{unpaused_then}
use Rattle.lnbd_copy.proofs.DecidingLemmas.{decided_shut}
use Rattle.lnbd_copy.proofs.DrivenAsLemmas.{driven_idly}
use Rattle.lnbd_copy.proofs.PaceLemmas.{tires_behind, untired_idly}
use Rattle.lnbd_copy.proofs.copier.Copier.turn.Goals as goal

pub returns-then-is_err-clause-grounds : goal.returns-then-is_err-clause-grounds
returns-then-is_err-clause-grounds g c =
    if_err_leads c.go_on-told.result (λ why grounds start on. grounded_later start _ _ _ _ _ why c.shut_all.ensures.lasts (grounds start on)) c.go_on-told.ensures.grounds

pub returns-then-is_err-clause-links : goal.returns-then-is_err-clause-links
returns-then-is_err-clause-links g c = links_then _ _ _ _ _ _ c.go_on-told.ensures.links (subst (λ (s : Seen). LinksGo [] s.held (g.W.Wires.told c.go_on-told.new.wires) c.shut_all.new.handles (g.W.Wires.told c.shut_all.new.wires)) c.self.view_is c.shut_all.ensures.links)

pub returns-then-is_err-clause-fair : goal.returns-then-is_err-clause-fair
returns-then-is_err-clause-fair g c start on two fair = behaves_idly _ _ _ start _ _ c.shut_all.ensures.idly (c.go_on-told.ensures.fair start on two fair)

pub returns-then-is_err-clause-unpaused : goal.returns-then-is_err-clause-unpaused
returns-then-is_err-clause-unpaused g c = unpaused_then _ _ _ c.go_on-told.ensures.unpaused c.shut_all.ensures.unpaused

pub returns-then-is_err-clause-drives : goal.returns-then-is_err-clause-drives
returns-then-is_err-clause-drives g c start on = driven_idly _ _ _ start _ _ c.shut_all.ensures.idly (c.go_on-told.ensures.drives start on)

pub returns-then-is_err-clause-decides : goal.returns-then-is_err-clause-decides
returns-then-is_err-clause-decides g c =
    if_err_leads c.go_on-told.result (λ why decides start on. decided_shut _ _ _ start _ _ c.shut_all.ensures.shuts why (decides start on)) c.go_on-told.ensures.decides

pub returns-then-is_err-clause-once : goal.returns-then-is_err-clause-once
returns-then-is_err-clause-once g c start on = tires_behind 1 _ _ _ (c.go_on-told.ensures.once start on) (untired_idly _ _ c.shut_all.ensures.idly)
