use Rattle.std.proofs.Common.{[], ap, subst, arith}
use Rattle.lnbd_copy.specs.Copier.{Seen}
use Rattle.lnbd_copy.specs.declared.counts.Counts.{Counts}
use Rattle.lnbd_copy.proofs.GroundLemmas.{grounded_as, grounded_later, if_err_leads}
use Rattle.lnbd_copy.proofs.PauseLemmas.{pauses_begin, pauses_then, pauses_unpaused}
use Rattle.lnbd_copy.specs.Connects.{LinksGoWithin}
use Rattle.lnbd_conduct.specs.Connects.{AreDrivenBy}
use Rattle.lnbd_copy.specs.Links.{LinksGo}
use Rattle.lnbd_conduct.specs.Told.{Told}
use Rattle.lnbd_copy.proofs.ConnectLemmas.{within_end}
use Rattle.lnbd_copy.proofs.LeftOutLemmas.{early_wants, wants_as}
use Rattle.lnbd_copy.proofs.UnaskedLemmas.{told_unasked, unasked_as}
use Rattle.lnbd_copy.proofs.PausedLemmas.{early_opening, early_waits, opening_as, told_stays}
use Rattle.std.proofs.lemmas.Result.{on_ok_weaker}
use Rattle.lnbd_copy.proofs.TriedLemmas.{left_stays, left_tried, tries_any, tries_begin}
use Rattle.lnbd_copy.proofs.VainLemmas.{vain_empty, vain_full}
use Rattle.lnbd_conduct.specs.Decided.{IsDecided}
use Rattle.lnbd_copy.proofs.DecidingLemmas.{decided_shut}
use Rattle.lnbd_copy.proofs.DrivenAsLemmas.{driven_idly}
use Rattle.lnbd_copy.proofs.PatientLemmas.{patient_begins, waited_on}
use Rattle.lnbd_copy.proofs.PaceLemmas.{pace_keeps, pace_untired, untired_idly}
use Rattle.lnbd_copy.proofs.copier.Copier.begin.Goals as goal

pub returns-then-is_err-clause-grounds : goal.returns-then-is_err-clause-grounds
returns-then-is_err-clause-grounds g c =
    if_err_leads c.connect-told.result
    (λ why grounds. grounded_as (g.W.Wires.told c.args.wires.now) (g.W.Wires.told c.shut_all.new.wires) _ _ _ _ _ _ why (ap (λ (s : Seen). s.options.extents) c.self.view_is) (ap (λ (s : Seen). s.from) c.self.view_is) (ap (λ (s : Seen). s.to) c.self.view_is)
    (grounded_later _ _ _ _ _ _ why c.shut_all.ensures.lasts grounds))
    c.connect-told.ensures.grounds

pub returns-else-is_err-clause-writes : goal.returns-else-is_err-clause-writes
returns-else-is_err-clause-writes g c = vain_full _ _ c.connect-told.ensures.vain

pub returns-then-is_err-clause-links : goal.returns-then-is_err-clause-links
returns-then-is_err-clause-links g c =
    subst (λ (s : Seen). LinksGoWithin s.options s.from s.to s.held (g.W.Wires.told c.args.wires.now) c.shut_all.new.handles (g.W.Wires.told c.shut_all.new.wires)) c.self.view_is
    (within_end _ _ _ _ _ _ _ _ _ c.connect-told.ensures.links (subst (λ (s : Seen). LinksGo [] s.held (g.W.Wires.told c.connect-told.new.wires) c.shut_all.new.handles (g.W.Wires.told c.shut_all.new.wires)) c.self-2.view_is c.shut_all.ensures.links))

pub returns-then-is_err-clause-unasked : goal.returns-then-is_err-clause-unasked
returns-then-is_err-clause-unasked g c =
    told_unasked _ _ _ _ _ c.shut_all.ensures.idly (unasked_as _ _ _ _ _ _ (ap (λ (s : Seen). s.from) c.self.view_is) (ap (λ (s : Seen). s.to) c.self.view_is) c.connect-told.ensures.unasked)

pub returns-then-is_err-clause-writes : goal.returns-then-is_err-clause-writes
returns-then-is_err-clause-writes g c = vain_full _ _ (pauses_then _ _ _ c.connect-told.ensures.vain (pauses_unpaused _ _ c.shut_all.ensures.unpaused))

pub returns-then-is_err-clause-unready : goal.returns-then-is_err-clause-unready
returns-then-is_err-clause-unready g c = opening_as _ _ _ _ c.self.view_is (told_stays _ _ _ c.shut_all.ensures.unpaused (early_opening _ _ _ _ _ c.connect-told.ensures.unready))

pub returns-then-is_err-clause-waits : goal.returns-then-is_err-clause-waits
returns-then-is_err-clause-waits g c = told_stays _ _ _ c.shut_all.ensures.unpaused (early_waits _ _ _ _ _ c.connect-told.ensures.unready)

pub returns-else-is_err-clause-unready : goal.returns-else-is_err-clause-unready
returns-else-is_err-clause-unready g c = opening_as _ _ _ _ c.self.view_is (early_opening _ _ _ _ _ c.connect-told.ensures.unready)

pub returns-else-is_err-clause-waits : goal.returns-else-is_err-clause-waits
returns-else-is_err-clause-waits g c = early_waits _ _ _ _ _ c.connect-told.ensures.unready

pub returns-then-is_err-clause-wants_all : goal.returns-then-is_err-clause-wants_all
returns-then-is_err-clause-wants_all g c = wants_as _ _ _ _ c.self.view_is (told_stays _ _ _ c.shut_all.ensures.unpaused (early_wants _ _ _ _ _ c.connect-told.ensures.unready))

pub returns-else-is_err-clause-wants_all : goal.returns-else-is_err-clause-wants_all
returns-else-is_err-clause-wants_all g c = wants_as _ _ _ _ c.self.view_is (early_wants _ _ _ _ _ c.connect-told.ensures.unready)

pub returns-else-is_err-clause-reads : goal.returns-else-is_err-clause-reads
returns-else-is_err-clause-reads g c = vain_empty _ _ c.connect-told.ensures.vain

pub returns-then-is_err-clause-reads : goal.returns-then-is_err-clause-reads
returns-then-is_err-clause-reads g c = vain_empty _ _ (pauses_then _ _ _ c.connect-told.ensures.vain (pauses_unpaused _ _ c.shut_all.ensures.unpaused))

pub returns-else-is_err-clause-wanted : goal.returns-else-is_err-clause-wanted
returns-else-is_err-clause-wanted g c = pauses_begin _ _ c.connect-told.ensures.wanted

pub returns-then-is_err-clause-wanted : goal.returns-then-is_err-clause-wanted
returns-then-is_err-clause-wanted g c = pauses_begin _ _ (pauses_then _ _ _ c.connect-told.ensures.wanted (pauses_unpaused _ _ c.shut_all.ensures.unpaused))

pub returns-then-is_err-clause-little : goal.returns-then-is_err-clause-little
returns-then-is_err-clause-little g c = told_stays _ _ _ c.shut_all.ensures.unpaused c.connect-told.ensures.little

pub returns-then-is_err-clause-drives : goal.returns-then-is_err-clause-drives
returns-then-is_err-clause-drives g c =
    driven_idly _ _ _ _ _ _ c.shut_all.ensures.idly (subst (λ (s : Seen). Told (g.W.Wires.told c.args.wires.now) (g.W.Wires.told c.connect-told.new.wires) (AreDrivenBy s.options s.from s.to)) c.self.view_is c.connect-told.ensures.drives)

pub returns-then-is_err-clause-decides : goal.returns-then-is_err-clause-decides
returns-then-is_err-clause-decides g c =
    if_err_leads c.connect-told.result
    (λ why decides. subst (λ (s : Seen). IsDecided (g.W.Wires.told c.args.wires.now) (g.W.Wires.told c.shut_all.new.wires) s.options s.from s.to why) c.self.view_is
    (decided_shut _ _ _ _ _ _ c.shut_all.ensures.shuts why decides))
    c.connect-told.ensures.decides

pub returns-else-is_err-clause-tries : goal.returns-else-is_err-clause-tries
returns-else-is_err-clause-tries g c = left_tried _ _ (tries_begin _ _ c.connect-told.ensures.tries)

pub returns-then-is_err-clause-tries : goal.returns-then-is_err-clause-tries
returns-then-is_err-clause-tries g c = left_tried _ _ (tries_begin _ _ (tries_any _ _ _ c.connect-told.ensures.tries c.shut_all.ensures.unpaused))

pub returns-else-is_err-clause-tried : goal.returns-else-is_err-clause-tried
returns-else-is_err-clause-tried g c = on_ok_weaker c.connect-told.result (λ tried. tries_begin _ _ tried) c.connect-told.ensures.tried

pub returns-then-is_err-clause-tried : goal.returns-then-is_err-clause-tried
returns-then-is_err-clause-tried g c = on_ok_weaker c.connect-told.result (λ tried. left_stays _ _ _ c.shut_all.ensures.unpaused (tries_begin _ _ tried)) c.connect-told.ensures.tried

pub returns-then-is_err-clause-patient : goal.returns-then-is_err-clause-patient
returns-then-is_err-clause-patient g c = on_ok_weaker c.connect-told.result (λ stays. waited_on _ _ _ _ _ _ _ c.shut_all.ensures.unpaused c.shut_all.ensures.counts.idles (patient_begins _ _ _ _ _ _ (ap (λ (counts : Counts). counts.idles) c.of-self-inside.ensures) stays)) c.connect-told.ensures.patient

pub returns-then-is_err-clause-impatient : goal.returns-then-is_err-clause-impatient
returns-then-is_err-clause-impatient g c = if_err_leads c.connect-told.result (λ why stays. waited_on _ _ _ _ _ _ _ c.shut_all.ensures.unpaused c.shut_all.ensures.counts.idles (patient_begins _ _ _ _ _ _ (ap (λ (counts : Counts). counts.idles) c.of-self-inside.ensures) stays)) c.connect-told.ensures.impatient

pub returns-else-is_err-clause-patient : goal.returns-else-is_err-clause-patient
returns-else-is_err-clause-patient g c = on_ok_weaker c.connect-told.result (λ stays. patient_begins _ _ _ _ _ _ (ap (λ (counts : Counts). counts.idles) c.of-self-inside.ensures) stays) c.connect-told.ensures.patient

pub returns-else-is_err-clause-impatient : goal.returns-else-is_err-clause-impatient
returns-else-is_err-clause-impatient g c = if_err_leads c.connect-told.result (λ why stays. patient_begins _ _ _ _ _ _ (ap (λ (counts : Counts). counts.idles) c.of-self-inside.ensures) stays) c.connect-told.ensures.impatient

pub returns-then-is_err-clause-paces : goal.returns-then-is_err-clause-paces
returns-then-is_err-clause-paces g c = pace_keeps 2 _ _ (pace_untired 2 _ _ _ (omega arith) (untired_idly _ _ c.shut_all.ensures.idly) c.connect-told.ensures.paces)

pub returns-else-is_err-clause-paces : goal.returns-else-is_err-clause-paces
returns-else-is_err-clause-paces g c = pace_keeps 2 _ _ c.connect-told.ensures.paces

pub returns-then-is_err-clause-paced : goal.returns-then-is_err-clause-paced
returns-then-is_err-clause-paced g c = on_ok_weaker c.connect-told.result (λ paced. pace_untired 1 _ _ _ (omega arith) (untired_idly _ _ c.shut_all.ensures.idly) paced) c.connect-told.ensures.paced
