use Rattle.std.proofs.Common.{◌||◌, ℕ, false, Bool, List, refl, ap, sym, subst, ◌∙◌}
use Rattle.lnbd_model.specs.declared.export.Extent.{Extent}
use Rattle.lnbd_plan.specs.declared.grid.Slice.{Slice}
use Rattle.lnbd_copy.specs.Heard.{IsHeardTo, passed_heard}
use Rattle.lnbd_copy.specs.Job.{Acts, Seen}
use Rattle.lnbd_copy.specs.Reached.{IsToldTo, told_heard}
use Rattle.lnbd_copy.specs.Spared.{IsSpared, whole_heard}
use Rattle.lnbd_copy.specs.Windows as windows
use Rattle.lnbd_copy.specs.Ready.{MayAct}
use Rattle.lnbd_copy.proofs.JobLemmas.{acts_heard}
use Rattle.lnbd_copy.proofs.ReadyLemmas.{may_act_heard}
use Rattle.lnbd_copy.proofs.job.Job.hear.Goals as goal

pub returns-clause-acts : goal.returns-clause-acts
returns-clause-acts c = λ held.
    let was : Seen = record { terms = c.self.inside.terms; windows = c.self.inside.windows; asked = c.self.inside.asked; phase = c.self.inside.phase; bound = c.self.inside.bindings.bound } in
    let new : Seen = record { terms = c.self.inside.terms; windows = c.hear.new.self; asked = false; phase = c.self.inside.phase; bound = c.self.inside.bindings.bound } in
    let hears =
    subst (λ (told : List Extent). (blank : ℕ → Bool) (slices : List Slice) → windows.IsPlanned c.self.inside.windows blank slices → windows.IsPlanned c.hear.new.self (λ p. blank p || windows.zero_heard (windows.wanted c.self.inside.windows) told p) slices)
    c.told.ensures c.in_ok-hear.ensures.planned in
    let spares =
    subst (λ (told : List Extent). (whole : ℕ → Bool) (slices : List Slice) → IsSpared c.self.inside.windows whole slices → IsSpared c.hear.new.self (λ p. whole p || whole_heard c.self.inside.windows.grain (windows.wanted c.self.inside.windows) told p) slices)
    c.told.ensures c.in_ok-hear.ensures.spared in
    let tells =
    subst (λ (told : List Extent). (reach : ℕ → Bool) → IsToldTo c.self.inside.windows reach → IsToldTo c.hear.new.self (λ p. reach p || told_heard (windows.wanted c.self.inside.windows) told p))
    c.told.ensures c.in_ok-hear.ensures.reached in
    let goes =
    subst (λ (told : List Extent). (heard : ℕ → Bool) → IsHeardTo c.self.inside.windows heard → IsHeardTo c.hear.new.self (λ p. heard p || passed_heard c.self.inside.windows.grain (windows.wanted c.self.inside.windows) told p))
    c.told.ensures c.in_ok-hear.ensures.heard in
    subst (λ (j : Seen). Acts j new c.args.board.now c.args.board.now held held) c.self.view_is
    (acts_heard was new c.hear.new.self c.args.board.now held (ap (λ (j : Seen). j.phase) c.self.view_is ∙ c.requires) (ap (λ (j : Seen). j.asked) c.self.view_is ∙ c.has_come.ensures.asked c.if-not-has_come.false) (c.has_come.ensures.mapped c.if-not-has_come.false) (sym c.is_short.ensures ∙ c.if-is_short.false) refl c.hear.ensures.cells c.hear.ensures.size c.hear.ensures.grain spares hears goes tells c.in_ok-hear.ensures.ahead c.in_ok-hear.ensures.inside)

pub returns-clause-may : goal.returns-clause-may
returns-clause-may c = λ held.
    let was : Seen = record { terms = c.self.inside.terms; windows = c.self.inside.windows; asked = c.self.inside.asked; phase = c.self.inside.phase; bound = c.self.inside.bindings.bound } in
    let new : Seen = record { terms = c.self.inside.terms; windows = c.hear.new.self; asked = false; phase = c.self.inside.phase; bound = c.self.inside.bindings.bound } in
    subst (λ (j : Seen). MayAct j held → MayAct new held) c.self.view_is (may_act_heard was new held refl c.hear.ensures.unwanted)
