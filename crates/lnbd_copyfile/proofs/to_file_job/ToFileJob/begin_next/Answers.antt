use Rattle.std.proofs.Common.{refl, ap, sym, subst, length, ◌<◌, ◌^◌, ◌≡◌, ◌∙◌}
use Rattle.lnbd_copy.specs.Windows as windows
use Rattle.lnbd_copy.proofs.DealingLemmas.{taken_some}
use Rattle.lnbd_copy.proofs.UnderWayLemmas.{none_begun}
use Rattle.lnbd_copyfile.specs.Jobs.{Seen}
use Rattle.lnbd_copyfile.specs.ToFileJob.{Acts, Spreads}
use Rattle.lnbd_copyfile.proofs.SpreadLemmas.{one_more, spreads_begun}
use Rattle.lnbd_copyfile.proofs.ToFileJobLemmas.{acts_begun, acts_none}
use Rattle.lnbd_copyfile.proofs.to_file_job.ToFileJob.begin_next.Goals as goal
use Rattle.lnbd_copyfile.proofs.to_file_job.ToFileJob.begin_next.Goals.{in-Ok, in-Err}

pub returns-in-None-clause-acts : goal.returns-in-None-clause-acts
returns-in-None-clause-acts g c =
    let job = c.self.inside in
    let none = none_begun c.next.result job.windows c.next.new.self c.args.board.now c.in-None.is c.next.ensures.slices c.next.ensures.others c.next.ensures.some in
    let new : Seen = record { terms = job.terms; windows = c.next.new.self; asked = job.asked; is_parting = job.is_parting; bound = job.bound } in
    let same : new ≡ c.args.self.now = ap (λ (w : windows.Seen). record new { windows = w }) none.1 ∙ c.self.view_is in
    subst (λ (j : Seen). Acts c.args.file c.args.self.now j c.args.board.now c.args.board.now c.args.handles.now c.args.handles.now (g.S.Store.shelf c.args.store.now)
    (g.S.Store.shelf c.args.store.now)
    (g.S.Store.taken c.args.store.now) (g.S.Store.taken c.args.store.now)) (sym same) (acts_none c.args.file c.args.self.now c.args.board.now c.args.handles.now _ _)

pub returns-clause-acts : goal.returns-clause-acts
returns-clause-acts g c =
    let job = c.self.inside in
    let was : Seen = record { terms = job.terms; windows = job.windows; asked = job.asked; is_parting = job.is_parting; bound = job.bound } in
    let new : Seen = record { terms = job.terms; windows = c.next.new.self; asked = job.asked; is_parting = job.is_parting; bound = c.begin_one.new.bound } in
    elim c.match-begin_one.branch [
      | in-Ok w ↦
          rw w.result-is
          (subst (λ (j : Seen). Acts c.args.file j new c.args.board.now c.begin_one.new.board c.args.handles.now c.begin_one.new.handles (g.S.Store.shelf c.args.store.now)
          (g.S.Store.shelf c.begin_one.new.store)
          (g.S.Store.taken c.args.store.now) (g.S.Store.taken c.begin_one.new.store)) c.self.view_is
          (acts_begun c.args.file was new c.next.new.self c.begin_one.new.bound c.in-Some.slice c.args.board.now c.begin_one.new.board c.args.handles.now c.begin_one.new.handles _ _ _ _
          (ap (λ (j : Seen). j.is_parting) c.self.view_is ∙ c.requires.copying) (c.requires.how ∙ sym (ap (λ (j : Seen). j.terms.how) c.self.view_is)) w.in-Ok.ensures.how refl
          (taken_some c.next.result c.in-Some.slice _ _ c.in-Some.is c.next.ensures.slices) c.next.ensures.others w.in-Ok.ensures.begins))
      | in-Err w ↦ rw w.result-is tt
    ]

pub returns-clause-spread : goal.returns-clause-spread
returns-clause-spread g c =
    let job = c.self.inside in
    let was : Seen = record { terms = job.terms; windows = job.windows; asked = job.asked; is_parting = job.is_parting; bound = job.bound } in
    let new : Seen = record { terms = job.terms; windows = c.next.new.self; asked = job.asked; is_parting = job.is_parting; bound = c.begin_one.new.bound } in
    elim c.match-begin_one.branch [
      | in-Ok w ↦
          rw w.result-is
          (subst (λ (j : Seen). j.terms.limit < 2 ^ 64 → length c.args.board.now.rows < j.terms.limit → Spreads j new c.args.board.now c.begin_one.new.board) c.self.view_is
          (λ fits less. spreads_begun was new c.args.board.now c.begin_one.new.board refl w.in-Ok.ensures.binds fits less))
      | in-Err w ↦ rw w.result-is tt
    ]

pub returns-clause-more : goal.returns-clause-more
returns-clause-more g c = elim c.match-begin_one.branch [
  | in-Ok w ↦ rw w.result-is (λ is. one_more c.self.inside.bound c.begin_one.new.bound c.args.board.now.rows c.begin_one.new.board.rows w.in-Ok.ensures.binds)
  | in-Err w ↦ rw w.result-is tt
]
