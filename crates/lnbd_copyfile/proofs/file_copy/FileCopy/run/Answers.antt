use Rattle.std.proofs.Common.{◌∙◌}
use Rattle.lnbd_copyfile.specs.FileCopy.{Download, DownloadRuns, Upload, UploadRuns}
use Rattle.lnbd_copyfile.proofs.FileCopyLemmas.{download_conducts, downloaded, this_download, this_upload, uploaded}
use Rattle.lnbd_copyfile.proofs.file_copy.FileCopy.run.Goals as goal

pub returns-in-Nbd-File-clause-download : goal.returns-in-Nbd-File-clause-download
returns-in-Nbd-File-clause-download g c d is =
    let W = g.W.Wires in
    let S = g.S.Store in
    let did = c.copy_to_file.ensures in
    let result = c.copy_to_file.result in
    this_download (λ (d : Download). DownloadRuns d W.told W.faults W.idles W.contents c.args.wires.now c.copy_to_file.new.wires S.told S.shelf S.taken S.faults c.args.store.now
    c.copy_to_file.new.store result) c.self.inside.options c.self.inside.from c.self.inside.to c.in-Nbd-File.from c.in-Nbd-File.to c.in-Nbd-File.is-0 c.in-Nbd-File.is-1 (record {
      conducts = download_conducts _ _ _ did.conducts did.reads did.spared did.shares did.full did.heard;
      counts = did.counts;
      made = downloaded _ _ _ _ _ _ _ _ _ result did.to_file did.asks did.done did.sums did.cuts did.spares did.passed did.connects did.connected did.stores;
      well = did.well;
      patient = did.patient;
      stopped = did.stopped;
      causes = did.causes;
    }) d (c.self.view_is ∙ is)

pub returns-in-File-Nbd-clause-upload : goal.returns-in-File-Nbd-clause-upload
returns-in-File-Nbd-clause-upload g c u is =
    let W = g.W.Wires in
    let S = g.S.Store in
    let did = c.copy_from_file.ensures in
    let result = c.copy_from_file.result in
    this_upload (λ (u : Upload). UploadRuns u W.told W.faults W.idles W.contents c.args.wires.now c.copy_from_file.new.wires S.told S.shelf S.given S.taken S.faults c.args.store.now
    c.copy_from_file.new.store result) c.self.inside.options c.self.inside.from c.self.inside.to c.in-File-Nbd.from c.in-File-Nbd.to c.in-File-Nbd.is-0 c.in-File-Nbd.is-1 (record {
      conducts = record { links = did.conducts; asks = did.behaves; shares = did.shares; full = did.full };
      counts = did.counts;
      taken_same = did.taken;
      made = uploaded _ _ _ _ _ _ _ _ _ result did.from_file did.asks did.done did.flushes did.unflushed did.flushed did.flushed_last did.sums did.summary did.connects did.connected did.stores;
      well = did.well;
      patient = did.patient;
      stopped = did.stopped;
      wires_cause = did.copy_faults;
      store_cause = did.store_fault;
      changed = did.changed;
    }) u (c.self.view_is ∙ is)
