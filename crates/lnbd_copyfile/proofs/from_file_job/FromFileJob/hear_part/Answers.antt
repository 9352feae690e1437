use Rattle.std.proofs.Common.{◌∷◌, [], ℕ, Option, refl, ap, subst, ◌∙◌}
use Rattle.lnbd_copy.specs.Windows.{wanted, zero_heard}
use Rattle.lnbd_touched.specs.Touches.{Touches}
use Rattle.lnbd_copyfile.specs.FromFileJob.{Acts, Seen}
use Rattle.lnbd_copyfile.specs.Holes.{ToldHoles, nowhere}
use Rattle.lnbd_copyfile.proofs.FromFileJobLemmas.{acts_heard}
use Rattle.lnbd_copyfile.proofs.from_file_job.FromFileJob.hear_part.Goals as goal

pub returns-in_ok-hear-in-Some-clause-acts : goal.returns-in_ok-hear-in-Some-clause-acts
returns-in_ok-hear-in-Some-clause-acts g c = λ now held.
    let was : Seen = record { terms = c.self.inside.terms; windows = c.self.inside.windows; phase = c.self.inside.phase; bound = c.self.inside.bindings } in
    let new : Seen = record { terms = c.self.inside.terms; windows = c.hear.new.self; phase = c.self.inside.phase; bound = c.self.inside.bindings } in
    let told = c.extent_at.result ∷ [] in
    let holes = subst (λ (range : Option (ℕ × ℕ)). Touches c.args.file (ToldHoles nowhere (zero_heard range told)) (g.S.Store.shelf c.args.store.now) (g.S.Store.shelf c.extent_at.new.store))
    c.in-Some.ensures (c.extent_at.ensures.holes c.in-Some.wanted.length) in
    subst (λ (j : Seen). Acts c.args.file j new now now held held (g.S.Store.shelf c.args.store.now) (g.S.Store.shelf c.extent_at.new.store) (g.S.Store.given c.args.store.now)
    (g.S.Store.given c.extent_at.new.store)) c.self.view_is
    (acts_heard c.args.file was new c.hear.new.self (zero_heard (wanted c.self.inside.windows) told) now held _ _ _ _ (ap (λ (j : Seen). j.phase) c.self.view_is ∙ c.requires.copying) refl
    c.in_ok-hear-in-Some.ensures.planned c.hear.ensures.cells c.hear.ensures.size holes c.extent_at.ensures.given)
