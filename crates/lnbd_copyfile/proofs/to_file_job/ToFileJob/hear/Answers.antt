use Rattle.std.proofs.Common.{◌||◌, ℕ, false, Bool, List, refl, ap, sym, subst, ◌∙◌}
use Rattle.lnbd_model.specs.declared.export.Extent.{Extent}
use Rattle.lnbd_plan.specs.declared.grid.Slice.{Slice}
use Rattle.lnbd_copy.specs.Heard.{IsHeardTo, passed_heard}
use Rattle.lnbd_copy.specs.Reached.{IsToldTo, told_heard}
use Rattle.lnbd_copy.specs.Spared.{IsSpared, whole_heard}
use Rattle.lnbd_copy.specs.Windows as windows
use Rattle.lnbd_copyfile.specs.Jobs.{Seen}
use Rattle.lnbd_copyfile.specs.ToFileJob.{Acts}
use Rattle.lnbd_copyfile.proofs.ToFileJobLemmas.{acts_heard}
use Rattle.lnbd_copyfile.proofs.to_file_job.ToFileJob.hear.Goals as goal
use Rattle.lnbd_copyfile.proofs.HearingLemmas.{hears_heard}
use Rattle.lnbd_copyfile.specs.Hearing.{HearsOn}

pub returns-clause-acts : goal.returns-clause-acts
returns-clause-acts c = λ file held shelf taken.
    let was : Seen = record { terms = c.self.inside.terms; windows = c.self.inside.windows; asked = c.self.inside.asked; is_parting = c.self.inside.is_parting; bound = c.self.inside.bound } in
    let new : Seen = record { terms = c.self.inside.terms; windows = c.hear.new.self; asked = false; is_parting = c.self.inside.is_parting; bound = c.self.inside.bound } in
    let plan = c.self.inside.windows in
    let hears =
    subst (λ (told : List Extent). (blank : ℕ → Bool) (slices : List Slice) → windows.IsPlanned plan blank slices → windows.IsPlanned c.hear.new.self
    (λ p. blank p || windows.zero_heard (windows.wanted plan) told p) slices)
    c.told.ensures c.in_ok-hear.ensures.planned in
    let spares =
    subst (λ (told : List Extent). (whole : ℕ → Bool) (slices : List Slice) → IsSpared plan whole slices → IsSpared c.hear.new.self
    (λ p. whole p || whole_heard plan.grain (windows.wanted plan) told p) slices)
    c.told.ensures c.in_ok-hear.ensures.spared in
    let goes =
    subst (λ (told : List Extent). (heard : ℕ → Bool) → IsHeardTo plan heard → IsHeardTo c.hear.new.self (λ p. heard p || passed_heard plan.grain (windows.wanted plan) told p)) c.told.ensures
    c.in_ok-hear.ensures.heard in
    let reaches =
    subst (λ (told : List Extent). (reach : ℕ → Bool) → IsToldTo plan reach → IsToldTo c.hear.new.self (λ p. reach p || told_heard (windows.wanted plan) told p)) c.told.ensures
    c.in_ok-hear.ensures.reached in
    subst (λ (j : Seen). Acts file j new c.args.board.now c.args.board.now held held shelf shelf taken taken) c.self.view_is
    (acts_heard file was new c.hear.new.self c.args.board.now held shelf taken (ap (λ (j : Seen). j.is_parting) c.self.view_is ∙ c.requires.copying)
    (ap (λ (j : Seen). j.asked) c.self.view_is ∙ c.has_come.ensures.asked c.if-not-has_come.false) (c.has_come.ensures.mapped c.if-not-has_come.false)
    (sym c.is_short.ensures ∙ c.if-is_short.false) refl
    c.hear.ensures.cells c.hear.ensures.size c.hear.ensures.grain spares hears goes reaches)

pub returns-clause-hears : goal.returns-clause-hears
returns-clause-hears c = λ held.
    let was : Seen = record { terms = c.self.inside.terms; windows = c.self.inside.windows; asked = c.self.inside.asked; is_parting = c.self.inside.is_parting; bound = c.self.inside.bound } in
    let new : Seen = record { terms = c.self.inside.terms; windows = c.hear.new.self; asked = false; is_parting = c.self.inside.is_parting; bound = c.self.inside.bound } in
    let plan = c.self.inside.windows in
    let goes =
    subst (λ (told : List Extent). (heard : ℕ → Bool) → IsHeardTo plan heard → IsHeardTo c.hear.new.self (λ p. heard p || passed_heard plan.grain (windows.wanted plan) told p)) c.told.ensures
    c.in_ok-hear.ensures.heard in
    subst (λ (j : Seen). HearsOn j new c.args.board.now held) c.self.view_is
    (hears_heard was new c.hear.new.self c.args.board.now held (ap (λ (j : Seen). j.asked) c.self.view_is ∙ c.has_come.ensures.asked c.if-not-has_come.false)
    (c.has_come.ensures.mapped c.if-not-has_come.false) refl goes c.in_ok-hear.ensures.ahead c.hear.ensures.unwanted)
