use Rattle.std.proofs.Common.{ap}
use Rattle.lnbd_copy.specs.declared.counts.Counts.{Counts}
use Rattle.lnbd_copyfile.proofs.LinkClauses.{all_connected, conducts, connects_as_told}
use Rattle.lnbd_copyfile.proofs.ToFileRunLemmas.{begins, made_grew, cut_grew}
use Rattle.lnbd_copyfile.proofs.PassedRunLemmas.{passed_grew}
use Rattle.lnbd_copyfile.proofs.to_file.copy_to_file.Goals as goal
use Rattle.lnbd_copy.proofs.EndLemmas.{told_part}
use Rattle.lnbd_copyfile.proofs.ShareLemmas.{shares_always, shares_later}
use Rattle.lnbd_board.specs.Files.{Seen}
use Rattle.lnbd_copyfile.proofs.TakenLemmas.{reads_grew}
use Rattle.lnbd_copyfile.proofs.ToFilePauseLemmas.{full_grew}
use Rattle.lnbd_copyfile.proofs.SparingLemmas.{spared_grew, spares_grew}
use Rattle.lnbd_copyfile.proofs.HearingLemmas.{answered_grew}

pub copy-told-requires-clause-begins : goal.copy-told-requires-clause-begins
copy-told-requires-clause-begins g c = begins c.args.from.now _ _ _ _ c.new-board.ensures c.new-handles.ensures

pub returns-in-Ok-clause-to_file : goal.returns-in-Ok-clause-to_file
returns-in-Ok-clause-to_file g c all part is grown =
    let parted = c.shut_all.ensures.parted c.in-Ok.ensures.parted in
    (made_grew c.args.from.now c.args.to.now c.in-Ok.summary _ _ _ _ _ _ _ (ap (λ w. g.W.Wires.told w) parted) c.in-Ok.ensures.makes all part is grown).copied

pub returns-in-Ok-clause-sums : goal.returns-in-Ok-clause-sums
returns-in-Ok-clause-sums g c all part is grown =
    let parted = c.shut_all.ensures.parted c.in-Ok.ensures.parted in
    (made_grew c.args.from.now c.args.to.now c.in-Ok.summary _ _ _ _ _ _ _ (ap (λ w. g.W.Wires.told w) parted) c.in-Ok.ensures.makes all part is grown).summed

pub returns-in-Ok-clause-asks : goal.returns-in-Ok-clause-asks
returns-in-Ok-clause-asks g c all part is grown =
    let parted = c.shut_all.ensures.parted c.in-Ok.ensures.parted in
    (made_grew c.args.from.now c.args.to.now c.in-Ok.summary _ _ _ _ _ _ _ (ap (λ w. g.W.Wires.told w) parted) c.in-Ok.ensures.makes all part is grown).asked

pub returns-in-Ok-clause-done : goal.returns-in-Ok-clause-done
returns-in-Ok-clause-done g c all part is grown =
    let parted = c.shut_all.ensures.parted c.in-Ok.ensures.parted in
    (made_grew c.args.from.now c.args.to.now c.in-Ok.summary _ _ _ _ _ _ _ (ap (λ w. g.W.Wires.told w) parted) c.in-Ok.ensures.makes all part is grown).done

pub returns-in-Ok-clause-reads : goal.returns-in-Ok-clause-reads
returns-in-Ok-clause-reads g c = reads_grew c.args.from.now _ _ _ c.shut_all.ensures.asks c.copy-told.ensures.asks

pub returns-in-Err-clause-reads : goal.returns-in-Err-clause-reads
returns-in-Err-clause-reads g c = reads_grew c.args.from.now _ _ _ c.shut_all.ensures.asks c.copy-told.ensures.asks

pub returns-in-Ok-clause-cuts : goal.returns-in-Ok-clause-cuts
returns-in-Ok-clause-cuts g c =
    let parted = c.shut_all.ensures.parted c.in-Ok.ensures.parted in
    cut_grew c.args.from.now c.args.to.now c.args.options.flush c.in-Ok.summary _ _ _ _ _ (ap (λ w. g.W.Wires.told w) parted) c.in-Ok.ensures.cuts

pub copy-told-requires-clause-well : goal.copy-told-requires-clause-well
copy-told-requires-clause-well g c = ap (λ (s : Seen). s.error) c.new-board.ensures

pub returns-in-Ok-clause-spares : goal.returns-in-Ok-clause-spares
returns-in-Ok-clause-spares g c =
    let parted = c.shut_all.ensures.parted c.in-Ok.ensures.parted in
    spares_grew c.args.from.now _ _ _ (ap (λ w. g.W.Wires.told w) parted) c.in-Ok.ensures.spares

pub returns-in-Ok-clause-shares : goal.returns-in-Ok-clause-shares
returns-in-Ok-clause-shares g c =
    told_part _ _ (shares_always c.args.options c.args.from.now _ _ (shares_later c.args.options c.args.from.now _ _ _ c.shut_all.ensures.idly c.copy-told.ensures.shares))

pub returns-in-Err-clause-shares : goal.returns-in-Err-clause-shares
returns-in-Err-clause-shares g c =
    told_part _ _ (shares_always c.args.options c.args.from.now _ _ (shares_later c.args.options c.args.from.now _ _ _ c.shut_all.ensures.idly c.copy-told.ensures.shares))

pub returns-in-Ok-clause-conducts : goal.returns-in-Ok-clause-conducts
returns-in-Ok-clause-conducts g c =
    conducts _ _ _ _ _ _ _ _ _ _ _ _ c.new-handles.ensures c.shut_all.ensures.none (ap (λ (s : Counts). s.idles) c.of-start.ensures) c.copy-told.ensures.within (c.shut_all.ensures.uses 0).links
    c.shut_all.ensures.unpaused c.shut_all.ensures.counts.idles

pub returns-in-Err-clause-conducts : goal.returns-in-Err-clause-conducts
returns-in-Err-clause-conducts g c =
    conducts _ _ _ _ _ _ _ _ _ _ _ _ c.new-handles.ensures c.shut_all.ensures.none (ap (λ (s : Counts). s.idles) c.of-start.ensures) c.copy-told.ensures.within (c.shut_all.ensures.uses 0).links
    c.shut_all.ensures.unpaused c.shut_all.ensures.counts.idles

pub returns-in-Ok-clause-connects : goal.returns-in-Ok-clause-connects
returns-in-Ok-clause-connects g c = connects_as_told _ _ _ _ _ _ _ _ _ _ _ c.in-Ok.ensures.connects (c.shut_all.ensures.uses 0).links

pub returns-in-Ok-clause-connected : goal.returns-in-Ok-clause-connected
returns-in-Ok-clause-connected g c = all_connected _ _ _ _ _ _ _ _ _ _ _ c.in-Ok.ensures.connects (c.shut_all.ensures.uses 0).links

pub returns-in-Ok-clause-full : goal.returns-in-Ok-clause-full
returns-in-Ok-clause-full g c = full_grew c.args.options c.args.from.now _ _ _ c.copy-told.ensures.full c.shut_all.ensures.unpaused

pub returns-in-Err-clause-full : goal.returns-in-Err-clause-full
returns-in-Err-clause-full g c = full_grew c.args.options c.args.from.now _ _ _ c.copy-told.ensures.full c.shut_all.ensures.unpaused

pub returns-in-Ok-clause-passed : goal.returns-in-Ok-clause-passed
returns-in-Ok-clause-passed g c =
    let parted = c.shut_all.ensures.parted c.in-Ok.ensures.parted in
    passed_grew c.args.options c.args.from.now c.in-Ok.summary.skipped _ _ _ (ap (λ w. g.W.Wires.told w) parted) c.in-Ok.ensures.passes

pub returns-in-Ok-clause-heard : goal.returns-in-Ok-clause-heard
returns-in-Ok-clause-heard g c = answered_grew c.args.options.extents c.args.from.now _ _ _ c.shut_all.ensures.asks c.copy-told.ensures.heard

pub returns-in-Err-clause-heard : goal.returns-in-Err-clause-heard
returns-in-Err-clause-heard g c = answered_grew c.args.options.extents c.args.from.now _ _ _ c.shut_all.ensures.asks c.copy-told.ensures.heard

pub returns-in-Ok-clause-spared : goal.returns-in-Ok-clause-spared
returns-in-Ok-clause-spared g c = spared_grew c.args.from.now _ _ _ c.shut_all.ensures.asks c.copy-told.ensures.spared

pub returns-in-Err-clause-spared : goal.returns-in-Err-clause-spared
returns-in-Err-clause-spared g c = spared_grew c.args.from.now _ _ _ c.shut_all.ensures.asks c.copy-told.ensures.spared
