use Rattle.lnbd_cli.proofs.FilingLemmas.{files_end, files_known, files_link, files_patient, files_run, files_silent, files_storing, files_well}
use Rattle.lnbd_cli.proofs.filing.copy_files.Goals as goal

pub returns-in-Ok : goal.returns-in-Ok
returns-in-Ok g c =
    let W = g.W.Wires in
    let S = g.S.Store in
    let is = c.end_of.ensures.end in
    let run = files_run W.told W.faults W.idles W.contents c.args.wires.now c.run.new.wires S.told S.shelf S.given S.taken S.faults c.args.store.now c.run.new.store
    c.in-Ok.copy c.args.options c.args.from c.args.to c.run.result c.requires.sides c.in-Ok.ensures.made c.run.ensures.between c.run.ensures.download c.run.ensures.upload in
    record {
      ends = files_end _ _ _ _ _ _ _ _ _ _ _ _ _ _ _ _ _ _ run is;
      known = files_known _ _ _ _ _ _ _ _ _ _ _ _ _ _ _ _ _ _ run is c.end_of.ensures.known;
      link = files_link _ _ _ _ _ _ _ _ _ _ _ _ _ _ _ _ _ _ run is;
      silent = files_silent _ _ _ _ _ _ _ _ _ _ _ _ _ _ _ _ _ _ run is;
      storing = files_storing _ _ _ _ _ _ _ _ _ _ _ _ _ _ _ _ _ _ run is;
      well = files_well _ _ _ _ _ _ _ _ _ _ _ _ _ _ _ _ _ _ run is;
      patient = files_patient _ _ _ _ _ _ _ _ _ _ _ _ _ _ _ _ _ _ run is;
    }
