use Rattle.std.proofs.Common.{refl, ap}
use Rattle.lnbd_touched.proofs.GrownLemmas.{grew_both}
use Rattle.lnbd_copyfile.specs.declared.fault.Stop.TheVariants as stop
use Rattle.lnbd_copyfile.specs.FromFileJob.{Seen}
use Rattle.lnbd_copyfile.specs.OneFile.{BreaksReading, Read_lacks_memory, Reads}
use Rattle.lnbd_copyfile.proofs.DealtLemmas.{spreads_same, spreads_then}
use Rattle.lnbd_copyfile.proofs.FromFileJobLemmas.{acts_then}
use Rattle.lnbd_copyfile.proofs.OneFileLemmas.{reads_on}
use Rattle.lnbd_copyfile.proofs.from_file_job.FromFileJob.copy.Goals as goal

pub returns-in-Ok-conclude-clause-acts : goal.returns-in-Ok-conclude-clause-acts
returns-in-Ok-conclude-clause-acts g c =
    acts_then c.args.file c.args.self.now c.hear.new.self c.conclude.new.self c.args.board.now c.send.new.board c.conclude.new.board c.args.handles.now c.send.new.handles c.conclude.new.handles
    _ _ _ _ _ _
    (acts_then c.args.file c.args.self.now c.send.new.self c.hear.new.self c.args.board.now c.send.new.board c.send.new.board c.args.handles.now c.send.new.handles c.send.new.handles
    _ _ _ _ _ _ c.in-Ok.ensures.acts (c.in-Ok-hear.ensures.acts c.send.new.board c.send.new.handles))
    (c.in-Ok-conclude.ensures.concludes.on c.args.file _ _)

pub returns-in-Ok-conclude-clause-spread : goal.returns-in-Ok-conclude-clause-spread
returns-in-Ok-conclude-clause-spread g c =
    spreads_then c.args.self.now c.send.new.self c.conclude.new.self c.args.board.now c.send.new.board c.conclude.new.board c.in-Ok.ensures.spread
    (spreads_then c.send.new.self c.hear.new.self c.conclude.new.self c.send.new.board c.send.new.board c.conclude.new.board
    (spreads_same c.send.new.self c.hear.new.self c.send.new.board c.send.new.board (ap (λ (j : Seen). j.terms) c.hear.ensures.others) (ap (λ (j : Seen). j.bound) c.hear.ensures.others) refl)
    c.in-Ok-conclude.ensures.spread)

pub returns-then-sent-clause-acts : goal.returns-then-sent-clause-acts
returns-then-sent-clause-acts g c =
    acts_then c.args.file c.args.self.now c.send.new.self c.hear.new.self c.args.board.now c.send.new.board c.send.new.board c.args.handles.now c.send.new.handles c.send.new.handles
    _ _ _ _ _ _ c.in-Ok.ensures.acts (c.in-Ok-hear.ensures.acts c.send.new.board c.send.new.handles)

pub returns-else-sent-clause-acts : goal.returns-else-sent-clause-acts
returns-else-sent-clause-acts g c =
    acts_then c.args.file c.args.self.now c.send.new.self c.hear.new.self c.args.board.now c.send.new.board c.send.new.board c.args.handles.now c.send.new.handles c.send.new.handles
    _ _ _ _ _ _ c.in-Ok.ensures.acts (c.in-Ok-hear.ensures.acts c.send.new.board c.send.new.handles)

pub returns-then-sent-clause-reads : goal.returns-then-sent-clause-reads
returns-then-sent-clause-reads g c =
    grew_both _ _ _ (Reads c.args.file) (Reads c.args.file) (Reads c.args.file) (λ xs ys p q. reads_on c.args.file xs ys p q) c.in-Ok.ensures.reads c.hear.ensures.reads

pub returns-else-sent-clause-reads : goal.returns-else-sent-clause-reads
returns-else-sent-clause-reads g c =
    grew_both _ _ _ (Reads c.args.file) (Reads c.args.file) (Reads c.args.file) (λ xs ys p q. reads_on c.args.file xs ys p q) c.in-Ok.ensures.reads c.hear.ensures.reads

pub returns-in-Ok-conclude-clause-reads : goal.returns-in-Ok-conclude-clause-reads
returns-in-Ok-conclude-clause-reads g c =
    grew_both _ _ _ (Reads c.args.file) (Reads c.args.file) (Reads c.args.file) (λ xs ys p q. reads_on c.args.file xs ys p q) c.in-Ok.ensures.reads c.hear.ensures.reads

pub returns-in-Err-hear-clause-breaks : goal.returns-in-Err-hear-clause-breaks
returns-in-Err-hear-clause-breaks g c =
    grew_both _ _ _ (Reads c.args.file) (Reads c.args.file) (BreaksReading c.args.file c.args.self.now.terms.size stop.NoMemory)
    (λ xs ys p q. Read_lacks_memory (reads_on c.args.file xs ys p q) refl) c.in-Ok.ensures.reads c.hear.ensures.reads

pub returns-in-Err-conclude-clause-breaks : goal.returns-in-Err-conclude-clause-breaks
returns-in-Err-conclude-clause-breaks g c =
    grew_both _ _ _ (Reads c.args.file) (Reads c.args.file) (BreaksReading c.args.file c.args.self.now.terms.size stop.NoMemory)
    (λ xs ys p q. Read_lacks_memory (reads_on c.args.file xs ys p q) refl) c.in-Ok.ensures.reads c.hear.ensures.reads
