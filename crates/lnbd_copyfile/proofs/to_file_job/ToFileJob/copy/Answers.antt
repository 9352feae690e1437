use Rattle.std.proofs.Common.{refl, ap}
use Rattle.lnbd_copy.specs.Bound.{on_source}
use Rattle.lnbd_touched.proofs.GrownLemmas.{grew_both}
use Rattle.lnbd_copyfile.specs.OneFile.{BreaksWriting, Writes}
use Rattle.lnbd_copyfile.proofs.OneFileLemmas.{breaks_writing_behind, writes_on}
use Rattle.lnbd_copyfile.specs.Jobs.{Seen}
use Rattle.lnbd_copyfile.proofs.FullLemmas.{fills_most}
use Rattle.lnbd_copyfile.proofs.SpreadLemmas.{spreads_same, spreads_then}
use Rattle.lnbd_copyfile.proofs.ToFileJobLemmas.{acts_then}
use Rattle.lnbd_copyfile.proofs.to_file_job.ToFileJob.copy.Goals as goal
use Rattle.lnbd_copy.specs.Windows as windows
use Rattle.lnbd_copyfile.proofs.HearingLemmas.{hears_on, hears_same, hears_then}

pub returns-in-Err-begin-clause-breaks : goal.returns-in-Err-begin-clause-breaks
returns-in-Err-begin-clause-breaks g c =
    grew_both _ _ _ (Writes c.args.file) (BreaksWriting c.args.file c.in-Err-begin.why) (BreaksWriting c.args.file c.in-Err-begin.why)
    (λ calls more m b. breaks_writing_behind c.args.file c.in-Err-begin.why calls more m b) c.in-Ok.ensures.writes c.in-Err-begin.ensures.breaks

pub returns-then-begun-clause-acts : goal.returns-then-begun-clause-acts
returns-then-begun-clause-acts g c =
    acts_then c.args.file _ _ _ _ _ _ _ _ _ _ _ _ _ _ _ (c.in-Ok.ensures.acts c.args.handles.now)
    (acts_then c.args.file _ _ _ _ _ _ _ _ _ _ _ _ _ _ _ (c.in-Ok-listen.ensures.acts c.args.file _ _)
    (acts_then c.args.file _ _ _ _ _ _ _ _ _ _ _ _ _ _ _ c.in-Ok-begin.ensures.acts (c.leave_where_copied-left.ensures.acts c.args.file _ _)))

pub returns-else-begun-clause-acts : goal.returns-else-begun-clause-acts
returns-else-begun-clause-acts g c =
    acts_then c.args.file _ _ _ _ _ _ _ _ _ _ _ _ _ _ _ (c.in-Ok.ensures.acts c.args.handles.now)
    (acts_then c.args.file _ _ _ _ _ _ _ _ _ _ _ _ _ _ _ (c.in-Ok-listen.ensures.acts c.args.file _ _)
    (acts_then c.args.file _ _ _ _ _ _ _ _ _ _ _ _ _ _ _ c.in-Ok-begin.ensures.acts (c.leave_where_copied-left.ensures.acts c.args.file _ _)))

pub returns-then-begun-clause-writes : goal.returns-then-begun-clause-writes
returns-then-begun-clause-writes g c =
    grew_both _ _ _ (Writes c.args.file) (Writes c.args.file) (Writes c.args.file) (λ xs ys p q. writes_on c.args.file xs ys p q) c.in-Ok.ensures.writes c.in-Ok-begin.ensures.writes

pub returns-else-begun-clause-writes : goal.returns-else-begun-clause-writes
returns-else-begun-clause-writes g c =
    grew_both _ _ _ (Writes c.args.file) (Writes c.args.file) (Writes c.args.file) (λ xs ys p q. writes_on c.args.file xs ys p q) c.in-Ok.ensures.writes c.in-Ok-begin.ensures.writes

pub returns-then-begun-clause-spread : goal.returns-then-begun-clause-spread
returns-then-begun-clause-spread g c =
    spreads_then c.args.self.now c.go_on.new.self c.leave_where_copied-left.new.self c.args.board.now c.go_on.new.board c.begin.new.board c.in-Ok.ensures.spread
    (spreads_then c.go_on.new.self c.listen.new.self c.leave_where_copied-left.new.self c.go_on.new.board c.listen.new.board c.begin.new.board
    (spreads_same c.go_on.new.self c.listen.new.self c.go_on.new.board c.listen.new.board c.listen.ensures.terms c.listen.ensures.bound (ap on_source c.in-Ok-listen.ensures.rows))
    (spreads_then c.listen.new.self c.begin.new.self c.leave_where_copied-left.new.self c.listen.new.board c.begin.new.board c.begin.new.board c.in-Ok-begin.ensures.spread
    (spreads_same c.begin.new.self c.leave_where_copied-left.new.self c.begin.new.board c.begin.new.board c.leave_where_copied-left.ensures.terms c.leave_where_copied-left.ensures.bound refl)))

pub returns-else-begun-clause-spread : goal.returns-else-begun-clause-spread
returns-else-begun-clause-spread g c =
    spreads_then c.args.self.now c.go_on.new.self c.leave_where_copied-left.new.self c.args.board.now c.go_on.new.board c.begin.new.board c.in-Ok.ensures.spread
    (spreads_then c.go_on.new.self c.listen.new.self c.leave_where_copied-left.new.self c.go_on.new.board c.listen.new.board c.begin.new.board
    (spreads_same c.go_on.new.self c.listen.new.self c.go_on.new.board c.listen.new.board c.listen.ensures.terms c.listen.ensures.bound (ap on_source c.in-Ok-listen.ensures.rows))
    (spreads_then c.listen.new.self c.begin.new.self c.leave_where_copied-left.new.self c.listen.new.board c.begin.new.board c.begin.new.board c.in-Ok-begin.ensures.spread
    (spreads_same c.begin.new.self c.leave_where_copied-left.new.self c.begin.new.board c.begin.new.board c.leave_where_copied-left.ensures.terms c.leave_where_copied-left.ensures.bound refl)))

pub returns-then-begun-clause-most : goal.returns-then-begun-clause-most
returns-then-begun-clause-most g c = λ l.
    fills_most c.args.file c.args.self.now c.go_on.new.self c.listen.new.self c.args.board.now c.go_on.new.board c.listen.new.board c.begin.new.board _ _ _ _ c.in-Ok.ensures.makes
    (ap (λ (j : Seen). j.terms) c.in-Ok.ensures.job) c.listen.ensures.terms c.in-Ok-listen.ensures.rows c.in-Ok-begin.ensures.most l

pub returns-else-begun-clause-most : goal.returns-else-begun-clause-most
returns-else-begun-clause-most g c = λ l.
    fills_most c.args.file c.args.self.now c.go_on.new.self c.listen.new.self c.args.board.now c.go_on.new.board c.listen.new.board c.begin.new.board _ _ _ _ c.in-Ok.ensures.makes
    (ap (λ (j : Seen). j.terms) c.in-Ok.ensures.job) c.listen.ensures.terms c.in-Ok-listen.ensures.rows c.in-Ok-begin.ensures.most l

pub returns-then-begun-clause-hears : goal.returns-then-begun-clause-hears
returns-then-begun-clause-hears g c =
    hears_on c.args.self.now c.begin.new.self c.leave_where_copied-left.new.self _ _
    (hears_on c.args.self.now c.listen.new.self c.begin.new.self _ _
    (hears_then c.args.file _ _ _ _ _ _ _ _ _ _ _ (c.in-Ok.ensures.acts c.args.handles.now) (hears_same _ _ _ _ (ap (λ (j : Seen). j.windows.at) c.in-Ok.ensures.job)) c.in-Ok-listen.ensures.hears)
    c.begin.ensures.at)
    (ap (λ (w : windows.Seen). w.at) c.leave_where_copied-left.ensures.windows)

pub returns-else-begun-clause-hears : goal.returns-else-begun-clause-hears
returns-else-begun-clause-hears g c =
    hears_on c.args.self.now c.begin.new.self c.leave_where_copied-left.new.self _ _
    (hears_on c.args.self.now c.listen.new.self c.begin.new.self _ _
    (hears_then c.args.file _ _ _ _ _ _ _ _ _ _ _ (c.in-Ok.ensures.acts c.args.handles.now) (hears_same _ _ _ _ (ap (λ (j : Seen). j.windows.at) c.in-Ok.ensures.job)) c.in-Ok-listen.ensures.hears)
    c.begin.ensures.at)
    (ap (λ (w : windows.Seen). w.at) c.leave_where_copied-left.ensures.windows)
