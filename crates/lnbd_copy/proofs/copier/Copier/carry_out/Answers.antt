use Rattle.std.proofs.Common.{◌<◌, ◌≤◌, ap}
use Rattle.std.proofs.lemmas.Result.{on_ok_weaker}
use Rattle.lnbd_copy.proofs.EndLemmas.{done_asks, done_carries, done_dense, done_driven, done_flushed, done_left, done_spares, done_whole, done_wholly, told_part}
use Rattle.lnbd_link.specs.Count.{patience}
use Rattle.lnbd_copy.proofs.CauseLemmas.{goes_then}
use Rattle.lnbd_copy.proofs.EndedLemmas.{on_ok_two, still_unrisen}
use Rattle.lnbd_copy.proofs.FaultLemmas.{behaves_idly}
use Rattle.lnbd_copy.proofs.FlushLemmas.{done_flushes}
use Rattle.lnbd_copy.proofs.SummedLemmas.{done_sums}
use Rattle.lnbd_copy.proofs.GroundLemmas.{grounded_later, if_err_leads}
use Rattle.lnbd_copy.proofs.AccountLemmas.{done_fairly}
use Rattle.lnbd_copy.proofs.PausedLemmas.{done_pauses, told_stays}
use Rattle.lnbd_copy.proofs.ConnectLemmas.{connects_as_told, connects_within, told_end, within_end}
use Rattle.lnbd_copy.proofs.LinkLemmas.{links_kept}
use Rattle.lnbd_copy.proofs.DecidingLemmas.{decided_shut}
use Rattle.lnbd_copy.proofs.DrivenAsLemmas.{driven_idly}
use Rattle.lnbd_copy.proofs.PatientLemmas.{few_stay}
use Rattle.lnbd_copy.proofs.PaceLemmas.{pace_ends, untired_idly}
use Rattle.lnbd_copy.proofs.copier.Copier.carry_out.Goals as goal

pub returns-clause-carries : goal.returns-clause-carries
returns-clause-carries g c two =
    on_ok_weaker c.copy-told.result
    (λ done. done_carries c.args.self c.copy-told.new.self _ _ _ c.copy-told.ensures.kept (ap g.W.Wires.told (c.end.ensures.parted done.parted)) two done)
    c.copy-told.ensures.done

pub returns-clause-asks : goal.returns-clause-asks
returns-clause-asks g c two =
    on_ok_weaker c.copy-told.result
    (λ done. done_asks c.args.self c.copy-told.new.self _ _ _ c.copy-told.ensures.kept (ap g.W.Wires.told (c.end.ensures.parted done.parted)) two done)
    c.copy-told.ensures.done

pub returns-clause-done : goal.returns-clause-done
returns-clause-done g c two =
    on_ok_weaker c.copy-told.result
    (λ done. done_whole c.args.self c.copy-told.new.self _ _ _ c.copy-told.ensures.kept (ap g.W.Wires.told (c.end.ensures.parted done.parted)) two done)
    c.copy-told.ensures.done

pub returns-clause-spares : goal.returns-clause-spares
returns-clause-spares g c two =
    on_ok_weaker c.copy-told.result
    (λ done. done_spares c.args.self c.copy-told.new.self _ _ _ c.copy-told.ensures.kept (ap g.W.Wires.told (c.end.ensures.parted done.parted)) two done)
    c.copy-told.ensures.done

pub returns-clause-dense : goal.returns-clause-dense
returns-clause-dense g c two =
    on_ok_weaker c.copy-told.result
    (λ done. done_dense c.args.self c.copy-told.new.self _ _ _ c.copy-told.ensures.kept (ap g.W.Wires.told (c.end.ensures.parted done.parted)) two done)
    c.copy-told.ensures.done

pub returns-clause-summary : goal.returns-clause-summary
returns-clause-summary g c two = done_sums c.args.self c.copy-told.new.self _ _ _ c.copy-told.result c.copy-told.ensures.kept (λ parted. ap g.W.Wires.told (c.end.ensures.parted parted)) two c.copy-told.ensures.done c.copy-told.ensures.sums

pub returns-clause-grounds : goal.returns-clause-grounds
returns-clause-grounds g c = if_err_leads c.copy-told.result (λ why grounds. grounded_later _ _ _ _ _ _ why c.end.ensures.lasts grounds) c.copy-told.ensures.grounds

pub returns-clause-flushes : goal.returns-clause-flushes
returns-clause-flushes g c two = done_flushes c.args.self c.copy-told.new.self _ _ _ c.copy-told.result c.copy-told.ensures.kept (λ parted. ap g.W.Wires.told (c.end.ensures.parted parted)) two c.copy-told.ensures.done c.copy-told.ensures.flushes

pub returns-clause-pauses : goal.returns-clause-pauses
returns-clause-pauses g c two = done_pauses c.args.self c.copy-told.new.self _ _ _ c.copy-told.ensures.kept c.end.ensures.unpaused two c.copy-told.ensures.pauses

pub returns-clause-fewest : goal.returns-clause-fewest
returns-clause-fewest g c two = done_fairly c.args.self c.copy-told.new.self _ _ _ c.copy-told.ensures.kept c.end.ensures.unpaused two c.copy-told.ensures.fewest

pub returns-clause-driven : goal.returns-clause-driven
returns-clause-driven g c =
    on_ok_weaker c.copy-told.result
    (λ done. done_driven c.copy-told.new.self _ _ _ (ap g.W.Wires.told (c.end.ensures.parted done.parted)) done)
    c.copy-told.ensures.done

pub returns-clause-flushed : goal.returns-clause-flushed
returns-clause-flushed g c two =
    on_ok_weaker c.copy-told.result
    (λ done. done_flushed c.args.self c.copy-told.new.self _ _ _ c.copy-told.ensures.kept (ap g.W.Wires.told (c.end.ensures.parted done.parted)) two done)
    c.copy-told.ensures.done

pub returns-clause-writes : goal.returns-clause-writes
returns-clause-writes g c = told_part _ _ (told_stays _ _ _ c.end.ensures.unpaused c.copy-told.ensures.writes)

pub returns-clause-reads : goal.returns-clause-reads
returns-clause-reads g c = told_part _ _ (told_stays _ _ _ c.end.ensures.unpaused c.copy-told.ensures.reads)

pub returns-clause-links : goal.returns-clause-links
returns-clause-links g c =
    links_kept c.copy-told.ensures.links.go.to c.args.self.held c.copy-told.new.self.held _ _ _ c.requires.held c.copy-told.ensures.links.go.go c.end.ensures.links

pub returns-clause-within : goal.returns-clause-within
returns-clause-within g c =
    connects_within _ _ _ _ _ _ _ (within_end _ _ _ _ _ _ _ _ _ c.copy-told.ensures.links c.end.ensures.links)

pub returns-clause-connects : goal.returns-clause-connects
returns-clause-connects g c =
    on_ok_weaker c.copy-told.result (λ told. connects_as_told _ _ _ _ _ _ _ (told_end _ _ _ _ _ _ _ _ _ told c.end.ensures.links)) c.copy-told.ensures.connects

pub returns-clause-counts : goal.returns-clause-counts
returns-clause-counts g c = goes_then _ _ _ _ _ _ _ _ _ c.copy-told.ensures.counts c.end.ensures.counts

pub returns-clause-waits : goal.returns-clause-waits
returns-clause-waits g c = told_part _ _ (told_stays _ _ _ c.end.ensures.unpaused c.copy-told.ensures.waits)

pub returns-clause-tries : goal.returns-clause-tries
returns-clause-tries g c = told_part _ _ (told_stays _ _ _ c.end.ensures.unpaused c.copy-told.ensures.tries)

pub returns-clause-wanted : goal.returns-clause-wanted
returns-clause-wanted g c = told_part _ _ (told_stays _ _ _ c.end.ensures.unpaused c.copy-told.ensures.wanted)

pub returns-clause-little : goal.returns-clause-little
returns-clause-little g c = told_part _ _ (told_stays _ _ _ c.end.ensures.unpaused c.copy-told.ensures.little)

pub returns-clause-wants_all : goal.returns-clause-wants_all
returns-clause-wants_all g c = told_part _ _ (told_stays _ _ _ c.end.ensures.unpaused c.copy-told.ensures.wants_all)

pub returns-clause-few : goal.returns-clause-few
returns-clause-few g c = told_part _ _ (few_stay (λ n. n ≤ patience) _ _ _ c.end.ensures.unpaused c.copy-told.ensures.few)

pub returns-clause-less : goal.returns-clause-less
returns-clause-less g c = if_err_leads c.copy-told.result (λ why less other. told_part _ _ (few_stay (λ n. n < patience) _ _ _ c.end.ensures.unpaused (less other))) c.copy-told.ensures.less

pub returns-clause-connected : goal.returns-clause-connected
returns-clause-connected g c =
    on_ok_weaker c.copy-told.result (λ told. told_part _ _ (told_end _ _ _ _ _ _ _ _ _ told c.end.ensures.links).connected) c.copy-told.ensures.connects

pub returns-clause-well : goal.returns-clause-well
returns-clause-well g c = on_ok_two c.copy-told.result (λ done well. still_unrisen 1 _ _ _ (ap g.W.Wires.faults (c.end.ensures.parted done.parted)) well.faults) c.copy-told.ensures.done c.copy-told.ensures.well

pub returns-clause-patient : goal.returns-clause-patient
returns-clause-patient g c = on_ok_two c.copy-told.result (λ done well. still_unrisen patience _ _ _ (ap g.W.Wires.idles (c.end.ensures.parted done.parted)) well.idles) c.copy-told.ensures.done c.copy-told.ensures.well

pub returns-clause-drives : goal.returns-clause-drives
returns-clause-drives g c = told_part _ _ (driven_idly _ _ _ _ _ _ c.end.ensures.idly c.copy-told.ensures.drives)

pub returns-clause-left : goal.returns-clause-left
returns-clause-left g c =
    on_ok_weaker c.copy-told.result
    (λ done. done_left c.args.self c.copy-told.new.self _ _ _ c.copy-told.ensures.kept (ap g.W.Wires.told (c.end.ensures.parted done.parted)) done)
    c.copy-told.ensures.done

pub returns-clause-whole : goal.returns-clause-whole
returns-clause-whole g c two =
    on_ok_weaker c.copy-told.result
    (λ done. done_wholly c.args.self c.copy-told.new.self _ _ _ c.copy-told.ensures.kept (ap g.W.Wires.told (c.end.ensures.parted done.parted)) two done)
    c.copy-told.ensures.done

pub returns-clause-paces : goal.returns-clause-paces
returns-clause-paces g c = told_part _ _ (pace_ends _ _ _ (untired_idly _ _ c.end.ensures.idly) c.copy-told.ensures.paces)

pub returns-clause-decides : goal.returns-clause-decides
returns-clause-decides g c = if_err_leads c.copy-told.result (λ why decides. decided_shut _ _ _ _ _ _ c.end.ensures.shuts why decides) c.copy-told.ensures.decides

pub returns-clause-behaves : goal.returns-clause-behaves
returns-clause-behaves g c two = told_part _ _ (behaves_idly _ _ _ _ _ _ c.end.ensures.idly (c.copy-told.ensures.fair two))
