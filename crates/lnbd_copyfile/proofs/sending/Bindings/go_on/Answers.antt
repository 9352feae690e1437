use Rattle.std.proofs.Common.{arith, refl, sym}
use Rattle.std.proofs.lemmas.Bool.{false≢true}
use Rattle.lnbd_copy.proofs.LinkLemmas.{same_none, same_then}
use Rattle.lnbd_copyfile.proofs.SendingLemmas.{passes_none, passes_then}
use Rattle.lnbd_copyfile.proofs.sending.Bindings.go_on.Goals as goal
use Rattle.lnbd_copyfile.proofs.DealtLemmas.{deals_none, deals_then}

pub slices-init : goal.slices-init
slices-init c = record {
  links = same_none c.args.handles.now;
  kept = λ none. refl;
  fewer = omega arith;
  still = λ none. refl;
  passes = passes_none c.args.board.now c.args.handles.now;
  deals = λ limit. deals_none limit c.args.self.now c.args.board.now;
}

pub slices-preserved : goal.slices-preserved
slices-preserved c = record {
  links = same_then _ _ _ c.slices.invariant.links c.go_on_once.ensures.links;
  kept = λ none. absurd (false≢true (sym none));
  fewer = let a = c.slices.invariant.fewer in let b = c.in_ok-go_on_once.ensures.fewer in omega (arith, a, b);
  still = λ none. absurd (false≢true (sym none));
  passes = passes_then _ _ _ _ _ _ c.slices.invariant.passes c.in_ok-go_on_once.ensures.passes;
  deals = λ limit. deals_then limit _ _ _ _ _ _ (c.slices.invariant.deals limit) (c.in_ok-go_on_once.ensures.deals limit);
}

pub returns-then-not-branch-clause-passes : goal.returns-then-not-branch-clause-passes
returns-then-not-branch-clause-passes c = passes_then _ _ _ _ _ _ c.slices.invariant.passes c.in_ok-go_on_once.ensures.passes

pub returns-then-not-branch-clause-deals : goal.returns-then-not-branch-clause-deals
returns-then-not-branch-clause-deals c limit = deals_then limit _ _ _ _ _ _ (c.slices.invariant.deals limit) (c.in_ok-go_on_once.ensures.deals limit)
