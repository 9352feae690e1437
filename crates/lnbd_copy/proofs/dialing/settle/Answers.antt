use Rattle.std.proofs.Common.{false, refl, true, arith, List, Some, subst, sym}
use Rattle.lnbd_poll.specs.Held.{Held}
use Rattle.lnbd_board.specs.declared.ticket.Ticket.{Ticket}
use Rattle.lnbd_copy.specs.Deciding.{IsCalm}
use Rattle.lnbd_copy.proofs.CauseLemmas.{goes_same, goes_then}
use Rattle.lnbd_copy.proofs.FullLemmas.{cut_unpaused, turned_unpaused}
use Rattle.lnbd_copy.proofs.DecidingLemmas.{decides_calm, decides_rests, decides_then}
use Rattle.lnbd_copy.proofs.GroundLemmas.{handed_on}
use Rattle.lnbd_copy.proofs.PauseLemmas.{pauses_none, pauses_then, pauses_unpaused, unpaused_same}
use Rattle.lnbd_copy.proofs.PausedLemmas.{unready_none, unready_then, unready_turn, unready_unpaused}
use Rattle.lnbd_copy.proofs.TurnLemmas.{goes_none, goes_on, turned_goes}
use Rattle.lnbd_copy.proofs.LinkLemmas.{links_cut, links_none, links_then, links_turned}
use Rattle.lnbd_copy.proofs.LittleLemmas.{little_none, little_then, little_turn, little_unpaused}
use Rattle.lnbd_copy.proofs.PatientLemmas.{patient_any, patient_gives, patient_looked, patient_none, patient_then, patient_unpaused}
use Rattle.lnbd_copy.proofs.PaceTurns.{stays_cut, stays_fewer, stays_none, stays_rested, stays_then, stays_turned}
use Rattle.lnbd_copy.proofs.UnaskedLemmas.{fresh_asks_none, fresh_none, fresh_on, fresh_rests, none_idly, none_then, cut_unasked, whole_fresh}
use Rattle.lnbd_copy.proofs.TriedLemmas.{early_ends, early_none, early_rests, early_turned, tries_any, tries_anyhow, turned_heard}
use Rattle.lnbd_copy.proofs.VainLemmas.{turned_vain}
use Rattle.lnbd_copy.proofs.DrivingLemmas.{drives_idly, drives_then, goes_drive, cut_drives}
use Rattle.lnbd_copy.proofs.dialing.settle.Goals as goal

pub turns-init : goal.turns-init
turns-init g c = record {
  goes = goes_none _ _ _;
  unready = unready_none _ _ _;
  vain = λ stand. pauses_none _;
  links = λ stand. links_none _ _;
  fresh = fresh_none _ _ _;
  counts = goes_same _ _ _;
  wanted = λ stand. pauses_none _;
  little = little_none _ _ _;
  patient = λ stand. patient_none true _ _ _;
  tries = λ stand. early_none _ _;
  paced = stays_none 1 _ _ _ (omega arith);
  calm = c.requires.calm;
}

pub turns-preserved : goal.turns-preserved
turns-preserved g c = record {
  goes = goes_on _ _ _ _ _ _ _ _ _ c.turns.invariant.goes (goes_on _ _ _ _ _ _ _ _ _ (turned_goes _ _ _ _ c.in_ok-told.told _ _ _ _ c.in_ok-told.ensures.ok) (c.in_ok-rest.ensures.goes c.turn.new.board));
  unready = unready_then _ _ _ _ _ _ _ c.turns.invariant.goes c.turns.invariant.links c.turns.invariant.unready
      (unready_then _ _ _ _ _ _ _ (turned_goes _ _ _ _ c.in_ok-told.told _ _ _ _ c.in_ok-told.ensures.ok) (links_turned _ _ _ _ c.in_ok-told.told _ _ _ _ c.in_ok-told.ensures.ok) (unready_turn _ _ _ _ c.in_ok-told.told _ _ _ _ c.in_ok-told.ensures.ok) (c.in_ok-rest.ensures.unready c.turn.new.board));
  vain = λ stand.
      let here = c.turns.invariant.goes.stand stand in
      pauses_then _ _ _ (c.turns.invariant.vain stand)
      (c.in_ok-rest.ensures.vain _ (turned_unpaused _ _ _ _ c.in_ok-told.told _ _ _ _ c.in_ok-told.ensures.ok here) (λ still. turned_vain _ _ _ _ c.in_ok-told.told _ _ _ _ c.in_ok-told.ensures.ok still here));
  links = λ stand. links_then _ _ _ _ _ _ (c.turns.invariant.links stand) (links_then _ _ _ _ _ _ (links_turned _ _ _ _ c.in_ok-told.told _ _ _ _ c.in_ok-told.ensures.ok (c.turns.invariant.goes.stand stand)) c.rest.ensures.links);
  fresh =
      let turned = whole_fresh _ _ _ _ c.in_ok-told.told _ _ _ _ c.in_ok-told.ensures.ok in
      fresh_on _ _ _ _ _ _ _ _ _ c.turns.invariant.goes.stand c.turns.invariant.fresh
      (fresh_on _ _ _ _ _ _ _ _ _ (turned_goes _ _ _ _ c.in_ok-told.told _ _ _ _ c.in_ok-told.ensures.ok).stand turned (fresh_rests c.turn.new.board _ _ _ _ c.rest.ensures.same (c.in_ok-rest.ensures.goes c.turn.new.board)));
  counts = goes_then _ _ _ _ _ _ _ _ _ c.turns.invariant.counts (goes_then _ _ _ _ _ _ _ _ _ c.turn.ensures.counts c.rest.ensures.counts);
  wanted = λ stand.
      pauses_then _ _ _ (c.turns.invariant.wanted stand)
      (pauses_then _ _ _ (pauses_unpaused _ _ (turned_unpaused _ _ _ _ c.in_ok-told.told _ _ _ _ c.in_ok-told.ensures.ok (c.turns.invariant.goes.stand stand))) c.rest.ensures.wanted);
  little =
      little_then _ _ _ _ _ _ _ c.turns.invariant.goes.stand c.turns.invariant.fresh c.turns.invariant.little
      (little_then _ _ _ _ _ _ _ (turned_goes _ _ _ _ c.in_ok-told.told _ _ _ _ c.in_ok-told.ensures.ok).stand (whole_fresh _ _ _ _ c.in_ok-told.told _ _ _ _ c.in_ok-told.ensures.ok) (little_turn _ _ _ _ c.in_ok-told.told _ _ _ _ c.in_ok-told.ensures.ok) (c.rest.ensures.little c.turn.new.board));
  patient = λ stand.
      patient_then true _ _ _ _ _ _ _ (patient_then false _ _ _ _ _ _ _ (patient_looked true _ _ _ _ _ c.in_ok-check_idles.ensures.well (c.turns.invariant.patient stand))
      (patient_unpaused _ _ _ _ _ (turned_unpaused _ _ _ _ c.in_ok-told.told _ _ _ _ c.in_ok-told.ensures.ok (c.turns.invariant.goes.stand stand)) c.turn.ensures.counts.idles)) c.rest.ensures.patient;
  paced = stays_then 1 _ _ _ _ _ _ _ c.turns.invariant.goes c.turns.invariant.paced (stays_rested _ _ _ _ _ c.in_ok-told.told _ _ _ _ c.in_ok-told.ensures.ok c.in_ok-rest.ensures.rests c.in_ok-rest.ensures.paused);
  tries = λ stand.
      let here = c.turns.invariant.goes.stand stand in
      early_rests _ _ _ _ _ _ c.rest.ensures.same (λ still. turned_heard _ _ _ _ c.in_ok-told.told _ _ _ _ c.in_ok-told.ensures.ok still here) c.in_ok-rest.ensures.rests
      (early_turned _ _ _ _ _ c.in_ok-told.told _ _ _ _ c.in_ok-told.ensures.ok here (c.turns.invariant.tries stand));
  calm = subst (λ (l : List (Held Ticket)). IsCalm (Some c.args.sides) c.turn.new.board l) (sym c.rest.ensures.same) c.in_ok-told.ensures.calm;
}

pub returns-then-are_quiet-clause-quiet : goal.returns-then-are_quiet-clause-quiet
returns-then-are_quiet-clause-quiet g c = c.if-are_quiet.ensures refl

pub returns-in_err-told-clause-links : goal.returns-in_err-told-clause-links
returns-in_err-told-clause-links g c stand =
    links_then _ _ _ _ _ _ (c.turns.invariant.links stand) (links_cut _ _ _ _ _ _ _ _ c.in_err-told.ensures.cut (c.turns.invariant.goes.stand stand))

pub returns-in_err-rest-clause-links : goal.returns-in_err-rest-clause-links
returns-in_err-rest-clause-links g c stand =
    links_then _ _ _ _ _ _ (c.turns.invariant.links stand) (links_then _ _ _ _ _ _ (links_turned _ _ _ _ c.in_ok-told.told _ _ _ _ c.in_ok-told.ensures.ok (c.turns.invariant.goes.stand stand)) c.rest.ensures.links)

pub returns-in_err-told-clause-asks : goal.returns-in_err-told-clause-asks
returns-in_err-told-clause-asks g c = none_then _ _ _ _ _ _ _ c.turns.invariant.goes.stand c.turns.invariant.fresh (cut_unasked _ _ _ _ _ _ _ _ c.in_err-told.ensures.cut)

pub returns-in_err-rest-clause-asks : goal.returns-in_err-rest-clause-asks
returns-in_err-rest-clause-asks g c =
    none_idly _ _ _ _ _ (none_then _ _ _ _ _ _ _ c.turns.invariant.goes.stand c.turns.invariant.fresh (fresh_asks_none _ _ _ _ _ _ (whole_fresh _ _ _ _ c.in_ok-told.told _ _ _ _ c.in_ok-told.ensures.ok))) c.rest.ensures.idly

pub returns-in_err-told-clause-unready : goal.returns-in_err-told-clause-unready
returns-in_err-told-clause-unready g c =
    unready_then _ _ _ _ _ _ _ c.turns.invariant.goes c.turns.invariant.links c.turns.invariant.unready (unready_unpaused _ _ _ _ (cut_unpaused _ _ _ _ _ _ _ _ c.in_err-told.ensures.cut))

pub returns-in_err-told-clause-vain : goal.returns-in_err-told-clause-vain
returns-in_err-told-clause-vain g c stand =
    pauses_then _ _ _ (c.turns.invariant.vain stand) (pauses_unpaused _ _ (cut_unpaused _ _ _ _ _ _ _ _ c.in_err-told.ensures.cut (c.turns.invariant.goes.stand stand)))

pub returns-in_err-rest-clause-unready : goal.returns-in_err-rest-clause-unready
returns-in_err-rest-clause-unready g c =
    let goes = turned_goes _ _ _ _ c.in_ok-told.told _ _ _ _ c.in_ok-told.ensures.ok in
    unready_then _ _ _ _ _ _ _ c.turns.invariant.goes c.turns.invariant.links c.turns.invariant.unready
    (unready_then _ _ _ _ _ _ _ goes (links_turned _ _ _ _ c.in_ok-told.told _ _ _ _ c.in_ok-told.ensures.ok) (unready_turn _ _ _ _ c.in_ok-told.told _ _ _ _ c.in_ok-told.ensures.ok) (c.in_err-rest.ensures.unready c.turn.new.board))

pub returns-in_err-rest-clause-vain : goal.returns-in_err-rest-clause-vain
returns-in_err-rest-clause-vain g c stand =
    let here = c.turns.invariant.goes.stand stand in
    pauses_then _ _ _ (c.turns.invariant.vain stand)
    (c.in_err-rest.ensures.vain _ (turned_unpaused _ _ _ _ c.in_ok-told.told _ _ _ _ c.in_ok-told.ensures.ok here) (λ still. turned_vain _ _ _ _ c.in_ok-told.told _ _ _ _ c.in_ok-told.ensures.ok still here))

pub returns-in_err-told-clause-wanted : goal.returns-in_err-told-clause-wanted
returns-in_err-told-clause-wanted g c stand =
    pauses_then _ _ _ (c.turns.invariant.wanted stand) (pauses_unpaused _ _ (cut_unpaused _ _ _ _ _ _ _ _ c.in_err-told.ensures.cut (c.turns.invariant.goes.stand stand)))

pub returns-in_err-rest-clause-wanted : goal.returns-in_err-rest-clause-wanted
returns-in_err-rest-clause-wanted g c stand =
    pauses_then _ _ _ (c.turns.invariant.wanted stand)
    (pauses_then _ _ _ (pauses_unpaused _ _ (turned_unpaused _ _ _ _ c.in_ok-told.told _ _ _ _ c.in_ok-told.ensures.ok (c.turns.invariant.goes.stand stand))) c.rest.ensures.wanted)

pub returns-in_err-told-clause-little : goal.returns-in_err-told-clause-little
returns-in_err-told-clause-little g c =
    little_then _ _ _ _ _ _ _ c.turns.invariant.goes.stand c.turns.invariant.fresh c.turns.invariant.little (little_unpaused _ _ _ _ (cut_unpaused _ _ _ _ _ _ _ _ c.in_err-told.ensures.cut))

pub returns-in_err-rest-clause-little : goal.returns-in_err-rest-clause-little
returns-in_err-rest-clause-little g c =
    little_then _ _ _ _ _ _ _ c.turns.invariant.goes.stand c.turns.invariant.fresh c.turns.invariant.little
    (little_then _ _ _ _ _ _ _ (turned_goes _ _ _ _ c.in_ok-told.told _ _ _ _ c.in_ok-told.ensures.ok).stand (whole_fresh _ _ _ _ c.in_ok-told.told _ _ _ _ c.in_ok-told.ensures.ok) (little_turn _ _ _ _ c.in_ok-told.told _ _ _ _ c.in_ok-told.ensures.ok) (c.rest.ensures.little c.turn.new.board))

pub returns-then-are_quiet-clause-drives : goal.returns-then-are_quiet-clause-drives
returns-then-are_quiet-clause-drives g c = goes_drive _ _ _ _ _ _ c.turns.invariant.goes

pub returns-in_err-told-clause-drives : goal.returns-in_err-told-clause-drives
returns-in_err-told-clause-drives g c = drives_then _ _ _ _ _ _ _ c.turns.invariant.goes (cut_drives _ _ _ _ _ _ _ _ c.in_err-told.ensures.cut)

pub returns-in_err-rest-clause-drives : goal.returns-in_err-rest-clause-drives
returns-in_err-rest-clause-drives g c =
    drives_idly _ _ _ _ _ (drives_then _ _ _ _ _ _ _ c.turns.invariant.goes (goes_drive _ _ _ _ _ _ (turned_goes _ _ _ _ c.in_ok-told.told _ _ _ _ c.in_ok-told.ensures.ok))) c.rest.ensures.idly

pub returns-clause-drives : goal.returns-clause-drives
returns-clause-drives g c = goes_drive _ _ _ _ _ _ c.turns.invariant.goes

pub returns-in_err-told-clause-decides : goal.returns-in_err-told-clause-decides
returns-in_err-told-clause-decides g c =
    handed_on _ c.from_residual-in_err-told.result _ c.from_residual-in_err-told.ensures.1 (decides_then _ false _ _ _ _ _ _ _ _ c.turns.invariant.goes (c.in_err-told.ensures.decides false))

pub returns-in_err-rest-clause-decides : goal.returns-in_err-rest-clause-decides
returns-in_err-rest-clause-decides g c =
    handed_on _ c.from_residual-in_err-rest.result _ c.from_residual-in_err-rest.ensures.1 (
    decides_then _ false _ _ _ _ _ _ _ _ (goes_on _ _ _ _ _ _ _ _ _ c.turns.invariant.goes (turned_goes _ _ _ _ c.in_ok-told.told _ _ _ _ c.in_ok-told.ensures.ok))
    (decides_rests _ false _ _ _ _ _ c.in_ok-told.ensures.calm c.in_err-rest.ensures.still c.in_err-rest.ensures.free))

pub returns-then-are_quiet-clause-calm : goal.returns-then-are_quiet-clause-calm
returns-then-are_quiet-clause-calm g c = c.turns.invariant.calm

pub returns-then-are_quiet-clause-tried : goal.returns-then-are_quiet-clause-tried
returns-then-are_quiet-clause-tried g c stand = early_ends _ _ _ (c.turns.invariant.goes.stand stand) (c.if-are_quiet.ensures refl) (c.turns.invariant.tries stand)

pub returns-then-are_quiet-clause-tries : goal.returns-then-are_quiet-clause-tries
returns-then-are_quiet-clause-tries g c stand = tries_anyhow _ _ (c.turns.invariant.tries stand)

pub returns-in_err-told-clause-tries : goal.returns-in_err-told-clause-tries
returns-in_err-told-clause-tries g c stand = tries_any _ _ _ (c.turns.invariant.tries stand) (cut_unpaused _ _ _ _ _ _ _ _ c.in_err-told.ensures.cut (c.turns.invariant.goes.stand stand))

pub returns-in_err-rest-clause-tries : goal.returns-in_err-rest-clause-tries
returns-in_err-rest-clause-tries g c stand =
    tries_any _ _ _ (early_turned _ _ _ _ _ c.in_ok-told.told _ _ _ _ c.in_ok-told.ensures.ok (c.turns.invariant.goes.stand stand) (c.turns.invariant.tries stand)) (unpaused_same _ _ c.in_err-rest.ensures.still)

pub returns-clause-tries : goal.returns-clause-tries
returns-clause-tries g c stand = tries_anyhow _ _ (c.turns.invariant.tries stand)

pub returns-in_err-check_idles-clause-drives : goal.returns-in_err-check_idles-clause-drives
returns-in_err-check_idles-clause-drives g c = goes_drive _ _ _ _ _ _ c.turns.invariant.goes

pub returns-in_err-check_idles-clause-decides : goal.returns-in_err-check_idles-clause-decides
returns-in_err-check_idles-clause-decides g c =
    handed_on _ c.from_residual.result _ c.from_residual.ensures.1 (
    decides_then _ false _ _ _ _ _ _ _ _ c.turns.invariant.goes (decides_calm _ false _ _ _ _ c.turns.invariant.calm c.in_err-check_idles.ensures.free))

pub returns-in_err-check_idles-clause-tries : goal.returns-in_err-check_idles-clause-tries
returns-in_err-check_idles-clause-tries g c stand = tries_anyhow _ _ (c.turns.invariant.tries stand)

pub returns-in_err-check_idles-clause-impatient : goal.returns-in_err-check_idles-clause-impatient
returns-in_err-check_idles-clause-impatient g c =
    handed_on _ c.from_residual.result _ c.from_residual.ensures.1 (λ stand. patient_gives _ _ _ _ _ _ c.in_err-check_idles.ensures.silent (c.turns.invariant.patient stand))

pub returns-then-are_quiet-clause-patient : goal.returns-then-are_quiet-clause-patient
returns-then-are_quiet-clause-patient g c stand = patient_looked true _ _ _ _ _ c.in_ok-check_idles.ensures.well (c.turns.invariant.patient stand)

pub returns-in_err-told-clause-impatient : goal.returns-in_err-told-clause-impatient
returns-in_err-told-clause-impatient g c =
    handed_on _ c.from_residual-in_err-told.result _ c.from_residual-in_err-told.ensures.1
    (λ stand. patient_any _ _ _ _ _ _ (
    patient_then false _ _ _ _ _ _ _ (patient_looked true _ _ _ _ _ c.in_ok-check_idles.ensures.well (c.turns.invariant.patient stand))
    (patient_unpaused _ _ _ _ _ (cut_unpaused _ _ _ _ _ _ _ _ c.in_err-told.ensures.cut (c.turns.invariant.goes.stand stand)) c.turn.ensures.counts.idles)))

pub returns-in_err-rest-clause-impatient : goal.returns-in_err-rest-clause-impatient
returns-in_err-rest-clause-impatient g c =
    handed_on _ c.from_residual-in_err-rest.result _ c.from_residual-in_err-rest.ensures.1
    (λ stand. patient_any _ _ _ _ _ _ (
    patient_then false _ _ _ _ _ _ _ (patient_looked true _ _ _ _ _ c.in_ok-check_idles.ensures.well (c.turns.invariant.patient stand))
    (patient_then false _ _ _ _ _ _ _
    (patient_unpaused _ _ _ _ _ (turned_unpaused _ _ _ _ c.in_ok-told.told _ _ _ _ c.in_ok-told.ensures.ok (c.turns.invariant.goes.stand stand)) c.turn.ensures.counts.idles)
    (patient_unpaused _ _ _ _ _ (unpaused_same _ _ c.in_err-rest.ensures.still) c.rest.ensures.counts.idles))))

pub returns-then-are_quiet-clause-paces : goal.returns-then-are_quiet-clause-paces
returns-then-are_quiet-clause-paces g c = stays_fewer _ _ _ _ c.turns.invariant.paced

pub returns-clause-paces : goal.returns-clause-paces
returns-clause-paces g c = stays_fewer _ _ _ _ c.turns.invariant.paced

pub returns-in_err-check_idles-clause-paces : goal.returns-in_err-check_idles-clause-paces
returns-in_err-check_idles-clause-paces g c = stays_fewer _ _ _ _ c.turns.invariant.paced

pub returns-in_err-told-clause-paces : goal.returns-in_err-told-clause-paces
returns-in_err-told-clause-paces g c = stays_then 2 _ _ _ _ _ _ _ c.turns.invariant.goes c.turns.invariant.paced (stays_cut _ _ _ _ _ _ _ _ c.in_err-told.ensures.cut)

pub returns-in_err-rest-clause-paces : goal.returns-in_err-rest-clause-paces
returns-in_err-rest-clause-paces g c = stays_then 2 _ _ _ _ _ _ _ c.turns.invariant.goes c.turns.invariant.paced (stays_turned _ _ _ _ _ c.in_ok-told.told _ _ _ _ c.in_ok-told.ensures.ok c.in_err-rest.ensures.still)
