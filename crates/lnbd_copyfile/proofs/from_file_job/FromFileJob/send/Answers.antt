use Rattle.std.proofs.Common.{refl, ap, subst, ◌∙◌}
use Rattle.lnbd_touched.proofs.GrownLemmas.{done_as}
use Rattle.lnbd_copyfile.specs.Binding.{Deals, Spreads}
use Rattle.lnbd_copyfile.specs.FromFileJob.{Acts, Seen}
use Rattle.lnbd_copyfile.proofs.DealtLemmas.{spreads_deals}
use Rattle.lnbd_copyfile.specs.Sending.{Sends}
use Rattle.lnbd_copyfile.proofs.FromFileJobLemmas.{acts_sent}
use Rattle.lnbd_copyfile.proofs.from_file_job.FromFileJob.send.Goals as goal

pub returns-clause-acts : goal.returns-clause-acts
returns-clause-acts g c =
    let was : Seen = record { terms = c.self.inside.terms; windows = c.self.inside.windows; phase = c.self.inside.phase; bound = c.self.inside.bindings } in
    let new : Seen = record { terms = c.self.inside.terms; windows = c.send.new.windows; phase = c.self.inside.phase; bound = c.send.new.self } in
    done_as c.send.result (Sends c.args.file c.self.inside.windows c.send.new.windows c.args.board.now c.send.new.board c.args.handles.now c.send.new.handles
    (g.S.Store.shelf c.args.store.now) (g.S.Store.shelf c.send.new.store) (g.S.Store.given c.args.store.now) (g.S.Store.given c.send.new.store))
    (Acts c.args.file c.args.self.now new c.args.board.now c.send.new.board c.args.handles.now c.send.new.handles
    (g.S.Store.shelf c.args.store.now) (g.S.Store.shelf c.send.new.store) (g.S.Store.given c.args.store.now) (g.S.Store.given c.send.new.store))
    (λ sends. subst (λ (j : Seen). Acts c.args.file j new c.args.board.now c.send.new.board c.args.handles.now c.send.new.handles
    (g.S.Store.shelf c.args.store.now) (g.S.Store.shelf c.send.new.store) (g.S.Store.given c.args.store.now) (g.S.Store.given c.send.new.store)) c.self.view_is
    (acts_sent c.args.file was new c.send.new.windows c.send.new.self c.args.board.now c.send.new.board c.args.handles.now c.send.new.handles _ _ _ _
    (ap (λ (j : Seen). j.phase) c.self.view_is ∙ c.requires.copying) refl sends)) c.send.ensures.sends

pub returns-clause-spread : goal.returns-clause-spread
returns-clause-spread g c =
    let was : Seen = record { terms = c.self.inside.terms; windows = c.self.inside.windows; phase = c.self.inside.phase; bound = c.self.inside.bindings } in
    let new : Seen = record { terms = c.self.inside.terms; windows = c.send.new.windows; phase = c.self.inside.phase; bound = c.send.new.self } in
    done_as c.send.result (Deals was.terms.limit was.bound new.bound c.args.board.now c.send.new.board) (Spreads c.args.self.now new c.args.board.now c.send.new.board)
    (λ deals. subst (λ (j : Seen). Spreads j new c.args.board.now c.send.new.board) c.self.view_is (spreads_deals was new c.args.board.now c.send.new.board refl deals)) c.send.ensures.deals
