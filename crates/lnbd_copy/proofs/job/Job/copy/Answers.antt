use Rattle.std.proofs.Common.{ap, inl, inr, refl, sym, ◌∙◌}
use Rattle.std.proofs.lemmas.Bool.{false≢true}
use Rattle.lnbd_copy.specs.Job.{Seen}
use Rattle.lnbd_copy.proofs.AwaitLemmas.{asks_no_more, board_unflushed, copying_waits, flushing_waits}
use Rattle.lnbd_copy.proofs.FewestLemmas.{copy_takes, past_takes}
use Rattle.lnbd_copy.proofs.JobLemmas.{acts_then}
use Rattle.lnbd_copy.proofs.ReadyLemmas.{may_go}
use Rattle.lnbd_copy.proofs.SpreadLemmas.{spreads_all, spreads_past}
use Rattle.lnbd_copy.proofs.UnderWayLemmas.{past_refills, refilled}
use Rattle.lnbd_copy.proofs.job.Job.copy.Goals as goal

pub returns-then-is_copied-clause-acts : goal.returns-then-is_copied-clause-acts
returns-then-is_copied-clause-acts c = acts_then _ _ _ _ _ _ _ _ _
    (acts_then _ _ _ _ _ _ _ _ _ c.in_ok-went.ensures.acts (acts_then _ _ _ _ _ _ _ _ _ (c.in_ok-heard.ensures.acts c.go_on.new.handles) (acts_then _ _ _ _ _ _ _ _ _ c.in_ok-asked.ensures.acts c.in_ok-begun.ensures.acts)))
    c.in_ok-conclude.ensures.acts

pub returns-then-heard-clause-acts : goal.returns-then-heard-clause-acts
returns-then-heard-clause-acts c = (acts_then _ _ _ _ _ _ _ _ _ c.in_ok-went.ensures.acts (acts_then _ _ _ _ _ _ _ _ _ (c.in_ok-heard.ensures.acts c.go_on.new.handles) (acts_then _ _ _ _ _ _ _ _ _ c.in_ok-asked.ensures.acts c.in_ok-begun.ensures.acts)))

pub returns-else-heard-clause-acts : goal.returns-else-heard-clause-acts
returns-else-heard-clause-acts c = (acts_then _ _ _ _ _ _ _ _ _ c.in_ok-went.ensures.acts (acts_then _ _ _ _ _ _ _ _ _ (c.in_ok-heard.ensures.acts c.go_on.new.handles) (acts_then _ _ _ _ _ _ _ _ _ c.in_ok-asked.ensures.acts c.in_ok-begun.ensures.acts)))

pub returns-then-is_copied-clause-full : goal.returns-then-is_copied-clause-full
returns-then-is_copied-clause-full c =
    past_refills _ _ _ _ _ _
    (refilled _ _ _ _ _ _ _ _ c.in_ok-went.ensures.looked (c.hear.ensures.terms ∙ ap (λ (j : Seen). j.terms) c.go_on.ensures.job) c.in_ok-heard.ensures.untold c.in_ok-asked.ensures.asks c.in_ok-begun.ensures.fills c.if-is_copied.ensures.quiet)
    c.in_ok-conclude.ensures.past

pub returns-then-heard-clause-full : goal.returns-then-heard-clause-full
returns-then-heard-clause-full c =
    refilled _ _ _ _ _ _ _ _ c.in_ok-went.ensures.looked (c.hear.ensures.terms ∙ ap (λ (j : Seen). j.terms) c.go_on.ensures.job) c.in_ok-heard.ensures.untold c.in_ok-asked.ensures.asks c.in_ok-begun.ensures.fills c.if-is_copied.ensures.quiet

pub returns-else-heard-clause-full : goal.returns-else-heard-clause-full
returns-else-heard-clause-full c =
    refilled _ _ _ _ _ _ _ _ c.in_ok-went.ensures.looked (c.hear.ensures.terms ∙ ap (λ (j : Seen). j.terms) c.go_on.ensures.job) c.in_ok-heard.ensures.untold c.in_ok-asked.ensures.asks c.in_ok-begun.ensures.fills c.if-is_copied.ensures.quiet

pub returns-then-is_copied-clause-spread : goal.returns-then-is_copied-clause-spread
returns-then-is_copied-clause-spread c =
    spreads_past _ _ _ _ _ _
    (spreads_all _ _ _ _ _ _ _ _ _ c.in_ok-went.ensures.spread c.hear.ensures.terms c.in_ok-heard.ensures.bound c.in_ok-asked.ensures.asks c.in_ok-begun.ensures.spread)
    c.in_ok-conclude.ensures.terms c.in_ok-conclude.ensures.bound c.in_ok-conclude.ensures.past

pub returns-then-heard-clause-spread : goal.returns-then-heard-clause-spread
returns-then-heard-clause-spread c = spreads_all _ _ _ _ _ _ _ _ _ c.in_ok-went.ensures.spread c.hear.ensures.terms c.in_ok-heard.ensures.bound c.in_ok-asked.ensures.asks c.in_ok-begun.ensures.spread

pub returns-else-heard-clause-spread : goal.returns-else-heard-clause-spread
returns-else-heard-clause-spread c = spreads_all _ _ _ _ _ _ _ _ _ c.in_ok-went.ensures.spread c.hear.ensures.terms c.in_ok-heard.ensures.bound c.in_ok-asked.ensures.asks c.in_ok-begun.ensures.spread

pub returns-then-is_copied-clause-fewest : goal.returns-then-is_copied-clause-fewest
returns-then-is_copied-clause-fewest c =
    past_takes c.args.self.now.terms.sides _ c.args.board.now c.begin.new.board c.conclude.new.board
    (copy_takes c.args.self.now c.go_on.new.self c.hear.new.self c.ask.new.self c.args.board.now c.go_on.new.board c.ask.new.board c.begin.new.board c.in_ok-went.ensures.spread (ap (λ (j : Seen). j.terms) c.go_on.ensures.job) c.in_ok-went.ensures.leaves c.hear.ensures.terms c.in_ok-heard.ensures.bound c.in_ok-asked.ensures.asks c.in_ok-begun.ensures.fewest c.requires.dealt)
    c.in_ok-conclude.ensures.past c.in_ok-conclude.ensures.begun

pub returns-then-heard-clause-fewest : goal.returns-then-heard-clause-fewest
returns-then-heard-clause-fewest c =
    copy_takes c.args.self.now c.go_on.new.self c.hear.new.self c.ask.new.self c.args.board.now c.go_on.new.board c.ask.new.board c.begin.new.board c.in_ok-went.ensures.spread (ap (λ (j : Seen). j.terms) c.go_on.ensures.job) c.in_ok-went.ensures.leaves c.hear.ensures.terms c.in_ok-heard.ensures.bound c.in_ok-asked.ensures.asks c.in_ok-begun.ensures.fewest c.requires.dealt

pub returns-else-heard-clause-fewest : goal.returns-else-heard-clause-fewest
returns-else-heard-clause-fewest c =
    copy_takes c.args.self.now c.go_on.new.self c.hear.new.self c.ask.new.self c.args.board.now c.go_on.new.board c.ask.new.board c.begin.new.board c.in_ok-went.ensures.spread (ap (λ (j : Seen). j.terms) c.go_on.ensures.job) c.in_ok-went.ensures.leaves c.hear.ensures.terms c.in_ok-heard.ensures.bound c.in_ok-asked.ensures.asks c.in_ok-begun.ensures.fewest c.requires.dealt

pub returns-then-is_copied-clause-awaits : goal.returns-then-is_copied-clause-awaits
returns-then-is_copied-clause-awaits c unflushed =
    flushing_waits _ _ c.in_ok-conclude.ensures.past.past (c.in_ok-conclude.ensures.flushed ∙ board_unflushed c.args.board.now c.go_on.new.board c.ask.new.board c.begin.new.board c.hear.new.self c.ask.new.self c.begin.new.self c.in_ok-went.ensures.others c.in_ok-asked.ensures.asks c.in_ok-begun.ensures.fills unflushed)

pub returns-then-heard-clause-awaits : goal.returns-then-heard-clause-awaits
returns-then-heard-clause-awaits c unflushed =
    copying_waits _ _ _ _ _ _ _ c.in_ok-went.ensures.looked c.in_ok-went.ensures.others c.in_ok-heard.ensures.untold c.in_ok-asked.ensures.asks c.in_ok-asked.ensures.done c.in_ok-begun.ensures.fills (c.if-is_copied.ensures.left refl) unflushed

pub returns-else-heard-clause-awaits : goal.returns-else-heard-clause-awaits
returns-else-heard-clause-awaits c unflushed =
    copying_waits _ _ _ _ _ _ _ c.in_ok-went.ensures.looked c.in_ok-went.ensures.others c.in_ok-heard.ensures.untold c.in_ok-asked.ensures.asks c.in_ok-asked.ensures.done c.in_ok-begun.ensures.fills (c.if-is_copied.ensures.left refl) unflushed

pub returns-then-is_copied-clause-idle : goal.returns-then-is_copied-clause-idle
returns-then-is_copied-clause-idle c nothing = absurd ((asks_no_more c.args.self.now c.go_on.new.self c.hear.new.self c.ask.new.self c.begin.new.self c.args.board.now c.go_on.new.board c.ask.new.board c.begin.new.board _ _ _ _ c.requires.copying c.go_on.ensures.job c.in_ok-went.ensures.none c.in_ok-went.ensures.same c.in_ok-heard.ensures.heard c.in_ok-asked.ensures.due c.in_ok-asked.ensures.asked c.in_ok-asked.ensures.asks c.in_ok-begun.ensures.fills c.in_ok-begun.ensures.none nothing).left (c.if-is_copied.ensures.over refl))

pub returns-then-heard-clause-idle : goal.returns-then-heard-clause-idle
returns-then-heard-clause-idle c nothing =
    let more = (asks_no_more c.args.self.now c.go_on.new.self c.hear.new.self c.ask.new.self c.begin.new.self c.args.board.now c.go_on.new.board c.ask.new.board c.begin.new.board _ _ _ _ c.requires.copying c.go_on.ensures.job c.in_ok-went.ensures.none c.in_ok-went.ensures.same c.in_ok-heard.ensures.heard c.in_ok-asked.ensures.due c.in_ok-asked.ensures.asked c.in_ok-asked.ensures.asks c.in_ok-begun.ensures.fills c.in_ok-begun.ensures.none nothing) in
    elim c.if-heard.either [ inl went ↦ absurd (went more.went) | inr (inl begun) ↦ absurd (begun.1 more.begun) | inr (inr heard) ↦ absurd (false≢true (sym more.heard ∙ heard.2)) ]

pub returns-else-heard-clause-idle : goal.returns-else-heard-clause-idle
returns-else-heard-clause-idle c nothing = (asks_no_more c.args.self.now c.go_on.new.self c.hear.new.self c.ask.new.self c.begin.new.self c.args.board.now c.go_on.new.board c.ask.new.board c.begin.new.board _ _ _ _ c.requires.copying c.go_on.ensures.job c.in_ok-went.ensures.none c.in_ok-went.ensures.same c.in_ok-heard.ensures.heard c.in_ok-asked.ensures.due c.in_ok-asked.ensures.asked c.in_ok-asked.ensures.asks c.in_ok-begun.ensures.fills c.in_ok-begun.ensures.none nothing).asked

pub ask-requires-clause-may : goal.ask-requires-clause-may
ask-requires-clause-may c = c.in_ok-heard.ensures.may c.go_on.new.handles c.in_ok-went.ensures.may

pub returns-then-heard-clause-may : goal.returns-then-heard-clause-may
returns-then-heard-clause-may c = may_go _ _ c.in_ok-begun.ensures.may

pub returns-else-heard-clause-may : goal.returns-else-heard-clause-may
returns-else-heard-clause-may c = may_go _ _ c.in_ok-begun.ensures.may
