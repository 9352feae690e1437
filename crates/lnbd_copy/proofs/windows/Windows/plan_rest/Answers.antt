use Rattle.std.proofs.Common.{◌≤◌, ◌+◌, ◌-◌, ◌≡◌, refl, inr, ap, sym, subst, arith}
use Rattle.lnbd_copy.specs.Windows.{Seen, IsPlanned}
use Rattle.lnbd_plan.specs.Plans.{Planned}
use Rattle.lnbd_copy.proofs.QueriedLemmas.{none_wanted}
use Rattle.lnbd_copy.proofs.ReachLemmas.{heard_all}
use Rattle.lnbd_copy.proofs.ToldLemmas.{told_none}
use Rattle.lnbd_copy.proofs.WindowLemmas.{window_kept, window_planned}
use Rattle.lnbd_copy.proofs.windows.Windows.plan_rest.Goals as goal

pub invariant_of-self-2 : goal.invariant_of-self-2
invariant_of-self-2 c =
    let kept = c.self.invariant in
    let inside : c.self.inside.start ≤ c.self.inside.size = omega (arith, kept.ahead, kept.inside) in
    let last : c.self.inside.start + (c.self.inside.size - c.self.inside.start) ≡ c.self.inside.size = omega arith in
    window_kept c.self.inside.plan c.window.new.self c.self.inside.start c.self.inside.at c.self.inside.size c.self.inside.grain (c.self.inside.size - c.self.inside.start) c.self.inside.size c.self.inside.zero kept last (omega arith) c.in_ok-window.ensures.ok

pub returns-clause-planned : goal.returns-clause-planned
returns-clause-planned c = λ blank slices planned.
    let ahead = c.self.invariant.ahead in
    let inside = c.self.invariant.inside in
    let fits : c.self.inside.start + (c.self.inside.size - c.self.inside.start) ≤ c.self.inside.size = omega arith in
    let was = subst (λ (w : Seen). IsPlanned w blank slices) (sym c.self.view_is) planned in
    window_planned _ _ blank slices c.self.inside.start (c.self.inside.size - c.self.inside.start) c.self.inside.zero was c.self.invariant.begins c.in_ok-window.ensures.ok fits was.under_way was.under_way refl (inr (omega (arith, ahead, inside)))

pub returns-clause-heard : goal.returns-clause-heard
returns-clause-heard c = λ heard all.
    let ends = ap (λ (p : Planned). p.end) c.in_ok-window.ensures.ok in
    let ahead = c.self.invariant.ahead in
    let inside = c.self.invariant.inside in
    heard_all _ heard (omega (arith, ends, ahead, inside)) all

pub returns-clause-reached : goal.returns-clause-reached
returns-clause-reached c = λ reach none. told_none _ reach none

pub returns-clause-unwanted : goal.returns-clause-unwanted
returns-clause-unwanted c =
    let ends = ap (λ (p : Planned). p.end) c.in_ok-window.ensures.ok in
    let ahead = c.self.invariant.ahead in
    let inside = c.self.invariant.inside in
    let new : Seen = record { plan = c.window.new.self; size = c.self.inside.size; grain = c.self.inside.grain; at = c.self.inside.size; zero = c.self.inside.zero } in
    λ some. none_wanted new c.self.inside.size c.self.inside.size (omega (arith, ends, ahead, inside)) (omega arith) (omega arith) some
