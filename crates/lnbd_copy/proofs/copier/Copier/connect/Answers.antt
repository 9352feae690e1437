use Rattle.std.proofs.Common.{refl, ap}
use Rattle.lnbd_copy.specs.Copier.{Seen}
use Rattle.lnbd_copy.proofs.CauseLemmas.{goes_then}
use Rattle.lnbd_copy.proofs.CopierLemmas.{met_further}
use Rattle.lnbd_copy.proofs.GroundLemmas.{grounded_as, handed_on}
use Rattle.lnbd_copy.proofs.PauseLemmas.{pauses_then}
use Rattle.lnbd_copy.proofs.LinkLemmas.{links_begin, links_same}
use Rattle.lnbd_copy.proofs.TriedLemmas.{tries_then}
use Rattle.lnbd_copy.proofs.PausedLemmas.{early_back, early_kept}
use Rattle.lnbd_copy.proofs.ConnectedLemmas.{connected_begins}
use Rattle.lnbd_copy.proofs.ConnectLemmas.{told_end, told_met, within_first, within_met, within_told}
use Rattle.lnbd_copy.proofs.UnaskedLemmas.{unasked_as}
use Rattle.lnbd_copy.proofs.MeetLemmas.{decided_met}
use Rattle.lnbd_copy.proofs.DrivenAsLemmas.{first_driven, met_driven}
use Rattle.lnbd_copy.proofs.ToldAlikeLemmas.{quiet_same}
use Rattle.lnbd_copy.proofs.PatientLemmas.{always_if_err, patient_any, patient_at, patient_then}
use Rattle.lnbd_copy.proofs.LawfulLemmas.{sides_some}
use Rattle.lnbd_copy.proofs.FewLemmas.{sides_few}
use Rattle.lnbd_copy.proofs.CalmLemmas.{calm_two}
use Rattle.lnbd_copy.proofs.copier.Copier.connect.Goals as goal

pub dial_further-requires-clause-calm : goal.dial_further-requires-clause-calm
dial_further-requires-clause-calm g c = calm_two c.in_ok-terms.terms.sides _ _ c.in_ok-terms.ensures.two c.in_ok-terms.ensures.calm

pub set_up-requires-clause-well : goal.set_up-requires-clause-well
set_up-requires-clause-well g c = c.in_ok-dial_further.ensures.calm.well

pub dial_further-requires-clause-few : goal.dial_further-requires-clause-few
dial_further-requires-clause-few g c = sides_few c.args.self.now c.meet.new.self _ _ c.in_ok-terms.terms c.in_ok-terms.ensures.kept c.requires.begun.limits c.in_ok-terms.ensures.met

pub returns-clause-begins : goal.returns-clause-begins
returns-clause-begins g c =
    c.in_ok-set_up.ensures.begins (g.W.Wires.told c.args.wires.now) (g.W.Wires.told c.dial_further.new.wires)
    (met_further c.meet.new.self c.dial_further.new.self _ _ _ c.in_ok-terms.terms c.in_ok-dial_further.ensures.kept c.in_ok-terms.ensures.met c.in_ok-terms.ensures.two c.in_ok-dial_further.ensures.further)

pub returns-clause-unready : goal.returns-clause-unready
returns-clause-unready g c =
    early_back c.args.self.now c.meet.new.self _ _ c.in_ok-terms.ensures.kept
    (c.dial_further.ensures.unready (g.W.Wires.told c.args.wires.now) c.in_ok-terms.terms c.in_ok-terms.ensures.met refl c.in_ok-terms.ensures.two
    (c.in_ok-terms.ensures.connects.on _ (links_begin _ _ c.requires.begun.held)) (early_kept c.args.self.now c.meet.new.self _ _ c.in_ok-terms.ensures.kept c.in_ok-terms.ensures.unready))

pub returns-in_err-dial_further-clause-grounds : goal.returns-in_err-dial_further-clause-grounds
returns-in_err-dial_further-clause-grounds g c =
    handed_on _ c.from_residual-in_err-dial_further.result _ c.from_residual-in_err-dial_further.ensures.1 (
    grounded_as (g.W.Wires.told c.args.wires.now) (g.W.Wires.told c.dial_further.new.wires) _ _ _ _ _ _ _ (ap (λ (s : Seen). s.options.extents) c.in_ok-terms.ensures.kept) (ap (λ (s : Seen). s.from) c.in_ok-terms.ensures.kept) (ap (λ (s : Seen). s.to) c.in_ok-terms.ensures.kept)
    (c.in_err-dial_further.ensures.grounds (g.W.Wires.told c.args.wires.now) c.in_ok-terms.terms c.in_ok-terms.ensures.met refl c.in_ok-terms.ensures.two))

pub returns-clause-vain : goal.returns-clause-vain
returns-clause-vain g c = pauses_then _ _ _ c.in_ok-terms.ensures.vain (c.dial_further.ensures.vain c.in_ok-terms.ensures.met.stand)

pub returns-in_err-dial_further-clause-counts : goal.returns-in_err-dial_further-clause-counts
returns-in_err-dial_further-clause-counts g c = goes_then _ _ _ _ _ _ _ _ _ c.meet.ensures.counts c.dial_further.ensures.counts

pub returns-in_err-terms-clause-links : goal.returns-in_err-terms-clause-links
returns-in_err-terms-clause-links g c =
    within_first _ _ _ _ _ _ _ c.in_err-terms.ensures.links

pub returns-in_err-dial_further-clause-links : goal.returns-in_err-dial_further-clause-links
returns-in_err-dial_further-clause-links g c =
    within_met c.args.self.now c.meet.new.self _ _ _ _ c.in_ok-terms.terms c.in_ok-terms.ensures.kept c.in_ok-terms.ensures.met c.in_ok-terms.ensures.connects c.in_err-dial_further.ensures.links

pub returns-in_err-set_up-clause-links : goal.returns-in_err-set_up-clause-links
returns-in_err-set_up-clause-links g c =
    within_told _ _ _ _ _ _ _ (told_end _ _ _ _ _ _ _ _ _ (told_met c.args.self.now c.meet.new.self _ _ _ _ c.in_ok-terms.terms c.in_ok-terms.ensures.kept c.in_ok-terms.ensures.met c.in_ok-terms.ensures.connects c.in_ok-dial_further.ensures.connects (connected_begins _ _ c.in_ok-terms.ensures.connected) c.in_ok-dial_further.ensures.connected) (links_same _ _ _ c.in_err-set_up.ensures.links))

pub returns-clause-links : goal.returns-clause-links
returns-clause-links g c =
    within_told _ _ _ _ _ _ _ (told_end _ _ _ _ _ _ _ _ _ (told_met c.args.self.now c.meet.new.self _ _ _ _ c.in_ok-terms.terms c.in_ok-terms.ensures.kept c.in_ok-terms.ensures.met c.in_ok-terms.ensures.connects c.in_ok-dial_further.ensures.connects (connected_begins _ _ c.in_ok-terms.ensures.connected) c.in_ok-dial_further.ensures.connected) (links_same _ _ _ c.in_ok-set_up.ensures.links))

pub returns-clause-connects : goal.returns-clause-connects
returns-clause-connects g c =
    told_end _ _ _ _ _ _ _ _ _ (told_met c.args.self.now c.meet.new.self _ _ _ _ c.in_ok-terms.terms c.in_ok-terms.ensures.kept c.in_ok-terms.ensures.met c.in_ok-terms.ensures.connects c.in_ok-dial_further.ensures.connects (connected_begins _ _ c.in_ok-terms.ensures.connected) c.in_ok-dial_further.ensures.connected) (links_same _ _ _ c.in_ok-set_up.ensures.links)

pub returns-in_err-dial_further-clause-unready : goal.returns-in_err-dial_further-clause-unready
returns-in_err-dial_further-clause-unready g c =
    early_back c.args.self.now c.meet.new.self _ _ c.in_ok-terms.ensures.kept
    (c.dial_further.ensures.unready (g.W.Wires.told c.args.wires.now) c.in_ok-terms.terms c.in_ok-terms.ensures.met refl c.in_ok-terms.ensures.two
    (c.in_ok-terms.ensures.connects.on _ (links_begin _ _ c.requires.begun.held)) (early_kept c.args.self.now c.meet.new.self _ _ c.in_ok-terms.ensures.kept c.in_ok-terms.ensures.unready))

pub returns-in_err-dial_further-clause-vain : goal.returns-in_err-dial_further-clause-vain
returns-in_err-dial_further-clause-vain g c = pauses_then _ _ _ c.in_ok-terms.ensures.vain (c.dial_further.ensures.vain c.in_ok-terms.ensures.met.stand)

pub returns-in_err-set_up-clause-unready : goal.returns-in_err-set_up-clause-unready
returns-in_err-set_up-clause-unready g c =
    early_back c.args.self.now c.meet.new.self _ _ c.in_ok-terms.ensures.kept
    (c.dial_further.ensures.unready (g.W.Wires.told c.args.wires.now) c.in_ok-terms.terms c.in_ok-terms.ensures.met refl c.in_ok-terms.ensures.two
    (c.in_ok-terms.ensures.connects.on _ (links_begin _ _ c.requires.begun.held)) (early_kept c.args.self.now c.meet.new.self _ _ c.in_ok-terms.ensures.kept c.in_ok-terms.ensures.unready))

pub returns-in_err-set_up-clause-vain : goal.returns-in_err-set_up-clause-vain
returns-in_err-set_up-clause-vain g c = pauses_then _ _ _ c.in_ok-terms.ensures.vain (c.dial_further.ensures.vain c.in_ok-terms.ensures.met.stand)

pub returns-clause-wanted : goal.returns-clause-wanted
returns-clause-wanted g c = pauses_then _ _ _ c.in_ok-terms.ensures.wanted (c.dial_further.ensures.wanted c.in_ok-terms.ensures.met.stand)

pub returns-in_err-dial_further-clause-wanted : goal.returns-in_err-dial_further-clause-wanted
returns-in_err-dial_further-clause-wanted g c = pauses_then _ _ _ c.in_ok-terms.ensures.wanted (c.dial_further.ensures.wanted c.in_ok-terms.ensures.met.stand)

pub returns-in_err-set_up-clause-wanted : goal.returns-in_err-set_up-clause-wanted
returns-in_err-set_up-clause-wanted g c = pauses_then _ _ _ c.in_ok-terms.ensures.wanted (c.dial_further.ensures.wanted c.in_ok-terms.ensures.met.stand)

pub returns-clause-little : goal.returns-clause-little
returns-clause-little g c =
    c.dial_further.ensures.little _ c.in_ok-terms.terms c.in_ok-terms.ensures.met refl c.in_ok-terms.ensures.unissued c.in_ok-terms.ensures.two c.in_ok-terms.ensures.little

pub returns-in_err-dial_further-clause-little : goal.returns-in_err-dial_further-clause-little
returns-in_err-dial_further-clause-little g c =
    c.dial_further.ensures.little _ c.in_ok-terms.terms c.in_ok-terms.ensures.met refl c.in_ok-terms.ensures.unissued c.in_ok-terms.ensures.two c.in_ok-terms.ensures.little

pub returns-in_err-set_up-clause-little : goal.returns-in_err-set_up-clause-little
returns-in_err-set_up-clause-little g c =
    c.dial_further.ensures.little _ c.in_ok-terms.terms c.in_ok-terms.ensures.met refl c.in_ok-terms.ensures.unissued c.in_ok-terms.ensures.two c.in_ok-terms.ensures.little

pub returns-in_err-set_up-clause-unasked : goal.returns-in_err-set_up-clause-unasked
returns-in_err-set_up-clause-unasked g c =
    unasked_as _ _ _ _ _ _ (ap (λ (s : Seen). s.from) c.in_ok-terms.ensures.kept) (ap (λ (s : Seen). s.to) c.in_ok-terms.ensures.kept)
    (c.dial_further.ensures.unasked _ c.in_ok-terms.terms c.in_ok-terms.ensures.met refl c.in_ok-terms.ensures.unissued c.in_ok-terms.ensures.two)

pub returns-clause-unasked : goal.returns-clause-unasked
returns-clause-unasked g c =
    unasked_as _ _ _ _ _ _ (ap (λ (s : Seen). s.from) c.in_ok-terms.ensures.kept) (ap (λ (s : Seen). s.to) c.in_ok-terms.ensures.kept)
    (c.dial_further.ensures.unasked _ c.in_ok-terms.terms c.in_ok-terms.ensures.met refl c.in_ok-terms.ensures.unissued c.in_ok-terms.ensures.two)

pub returns-in_err-dial_further-clause-drives : goal.returns-in_err-dial_further-clause-drives
returns-in_err-dial_further-clause-drives g c = met_driven c.args.self.now c.meet.new.self _ _ _ c.in_ok-terms.terms c.in_ok-terms.ensures.kept c.in_ok-terms.ensures.met (c.dial_further.ensures.links c.in_ok-terms.ensures.met.stand).go.lasts (c.dial_further.ensures.drives (g.W.Wires.told c.args.wires.now) c.in_ok-terms.terms c.in_ok-terms.ensures.met refl c.in_ok-terms.ensures.two)

pub returns-in_err-set_up-clause-drives : goal.returns-in_err-set_up-clause-drives
returns-in_err-set_up-clause-drives g c = met_driven c.args.self.now c.meet.new.self _ _ _ c.in_ok-terms.terms c.in_ok-terms.ensures.kept c.in_ok-terms.ensures.met (c.dial_further.ensures.links c.in_ok-terms.ensures.met.stand).go.lasts (c.dial_further.ensures.drives (g.W.Wires.told c.args.wires.now) c.in_ok-terms.terms c.in_ok-terms.ensures.met refl c.in_ok-terms.ensures.two)

pub returns-clause-drives : goal.returns-clause-drives
returns-clause-drives g c = met_driven c.args.self.now c.meet.new.self _ _ _ c.in_ok-terms.terms c.in_ok-terms.ensures.kept c.in_ok-terms.ensures.met (c.dial_further.ensures.links c.in_ok-terms.ensures.met.stand).go.lasts (c.dial_further.ensures.drives (g.W.Wires.told c.args.wires.now) c.in_ok-terms.terms c.in_ok-terms.ensures.met refl c.in_ok-terms.ensures.two)

pub returns-in_err-terms-clause-drives : goal.returns-in_err-terms-clause-drives
returns-in_err-terms-clause-drives g c = first_driven c.args.self.now.options _ _ _ _ _ _ c.requires.begun.held c.meet.ensures.links c.meet.ensures.drives

pub returns-in_err-dial_further-clause-decides : goal.returns-in_err-dial_further-clause-decides
returns-in_err-dial_further-clause-decides g c =
    handed_on _ c.from_residual-in_err-dial_further.result _ c.from_residual-in_err-dial_further.ensures.1 (
    decided_met c.args.self.now c.meet.new.self _ _ _ c.in_ok-terms.ensures.kept
    (c.in_err-dial_further.ensures.decides (g.W.Wires.told c.args.wires.now) c.in_ok-terms.terms c.in_ok-terms.ensures.met refl c.in_ok-terms.ensures.two))

pub returns-clause-tries : goal.returns-clause-tries
returns-clause-tries g c = tries_then _ _ _ c.in_ok-terms.ensures.tried (c.dial_further.ensures.tries c.in_ok-terms.ensures.met.stand)

pub returns-clause-tried : goal.returns-clause-tried
returns-clause-tried g c = tries_then _ _ _ c.in_ok-terms.ensures.tried (c.in_ok-dial_further.ensures.tried c.in_ok-terms.ensures.met.stand)

pub returns-in_err-dial_further-clause-tries : goal.returns-in_err-dial_further-clause-tries
returns-in_err-dial_further-clause-tries g c = tries_then _ _ _ c.in_ok-terms.ensures.tried (c.dial_further.ensures.tries c.in_ok-terms.ensures.met.stand)

pub returns-in_err-set_up-clause-tries : goal.returns-in_err-set_up-clause-tries
returns-in_err-set_up-clause-tries g c = tries_then _ _ _ c.in_ok-terms.ensures.tried (c.dial_further.ensures.tries c.in_ok-terms.ensures.met.stand)

pub set_up-requires-clause-same : goal.set_up-requires-clause-same
set_up-requires-clause-same g c =
    quiet_same c.in_ok-terms.terms.sides c.dial_further.new.self.held (c.in_ok-dial_further.ensures.further.stand c.in_ok-terms.ensures.met.stand) c.in_ok-dial_further.ensures.quiet c.in_ok-dial_further.ensures.calm.fit.0

pub returns-in_err-dial_further-clause-impatient : goal.returns-in_err-dial_further-clause-impatient
returns-in_err-dial_further-clause-impatient g c =
    handed_on _ c.from_residual-in_err-dial_further.result _ c.from_residual-in_err-dial_further.ensures.1
    (patient_then _ _ _ _ _ _ _ _ c.in_ok-terms.ensures.patient (patient_at _ _ _ _ _ _ _ (ap (λ (s : Seen). s.start.idles) c.in_ok-terms.ensures.kept) (c.in_err-dial_further.ensures.impatient c.in_ok-terms.ensures.met.stand)))

pub returns-in_err-set_up-clause-impatient : goal.returns-in_err-set_up-clause-impatient
returns-in_err-set_up-clause-impatient g c = always_if_err c.from_residual-in_err-set_up.result (λ why. patient_any _ _ _ _ _ _ (patient_then _ _ _ _ _ _ _ _ c.in_ok-terms.ensures.patient (patient_at _ _ _ _ _ _ _ (ap (λ (s : Seen). s.start.idles) c.in_ok-terms.ensures.kept) (c.in_ok-dial_further.ensures.patient c.in_ok-terms.ensures.met.stand))))

pub returns-clause-patient : goal.returns-clause-patient
returns-clause-patient g c = (patient_then _ _ _ _ _ _ _ _ c.in_ok-terms.ensures.patient (patient_at _ _ _ _ _ _ _ (ap (λ (s : Seen). s.start.idles) c.in_ok-terms.ensures.kept) (c.in_ok-dial_further.ensures.patient c.in_ok-terms.ensures.met.stand)))

pub returns-clause-paces : goal.returns-clause-paces
returns-clause-paces g c = c.dial_further.ensures.paces _ c.in_ok-terms.terms c.in_ok-terms.ensures.met refl c.in_ok-terms.ensures.two c.in_ok-terms.ensures.paced

pub returns-in_err-dial_further-clause-paces : goal.returns-in_err-dial_further-clause-paces
returns-in_err-dial_further-clause-paces g c = c.dial_further.ensures.paces _ c.in_ok-terms.terms c.in_ok-terms.ensures.met refl c.in_ok-terms.ensures.two c.in_ok-terms.ensures.paced

pub returns-in_err-set_up-clause-paces : goal.returns-in_err-set_up-clause-paces
returns-in_err-set_up-clause-paces g c = c.dial_further.ensures.paces _ c.in_ok-terms.terms c.in_ok-terms.ensures.met refl c.in_ok-terms.ensures.two c.in_ok-terms.ensures.paced

pub returns-clause-paced : goal.returns-clause-paced
returns-clause-paced g c = c.in_ok-dial_further.ensures.paced _ c.in_ok-terms.terms c.in_ok-terms.ensures.met refl c.in_ok-terms.ensures.two c.in_ok-terms.ensures.paced

pub returns-clause-awaits : goal.returns-clause-awaits
returns-clause-awaits g c =
    c.in_ok-set_up.ensures.awaits (g.W.Wires.told c.args.wires.now) (g.W.Wires.told c.dial_further.new.wires)
    (met_further c.meet.new.self c.dial_further.new.self _ _ _ c.in_ok-terms.terms c.in_ok-dial_further.ensures.kept c.in_ok-terms.ensures.met c.in_ok-terms.ensures.two c.in_ok-dial_further.ensures.further)

pub set_up-requires-clause-met : goal.set_up-requires-clause-met
set_up-requires-clause-met g c = record {
  start = g.W.Wires.told c.args.wires.now;
  told = g.W.Wires.told c.dial_further.new.wires;
  met = met_further c.meet.new.self c.dial_further.new.self _ _ _ c.in_ok-terms.terms c.in_ok-dial_further.ensures.kept c.in_ok-terms.ensures.met c.in_ok-terms.ensures.two c.in_ok-dial_further.ensures.further;
}

pub set_up-requires-clause-many : goal.set_up-requires-clause-many
set_up-requires-clause-many g c =
    c.in_ok-dial_further.ensures.many c.in_ok-terms.ensures.met.stand c.in_ok-terms.ensures.two (sides_some c.meet.new.self _ _ c.in_ok-terms.terms c.in_ok-terms.ensures.met).1
