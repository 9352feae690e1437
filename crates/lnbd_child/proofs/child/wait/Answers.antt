use Rattle.std.proofs.Common.{◌≡◌, ℕ, Option, Some, None, Ok, refl, sym, subst, ◌∙◌}
use Rattle.lnbd_child.specs.Child.{Nobody, Waits}
use Rattle.lnbd_child.specs.Grown.{Grew}
use Rattle.lnbd_child.proofs.GrownLemmas.{grew_none}
use Rattle.lnbd_child.proofs.child.wait.Goals as goal

pub returns-in-None-clause-waits : goal.returns-in-None-clause-waits
returns-in-None-clause-waits g c = grew_none _ (Waits c.args.running (Ok (record { served = c.args.running.served; ended = None }))) (Nobody c.in-None.is refl refl)

pub returns-in-Some-clause-waits : goal.returns-in-Some-clause-waits
returns-in-Some-clause-waits g c =
    subst (λ (k : Option ℕ). Grew (g.P.Spawner.told c.args.spawn.now) (g.P.Spawner.told c.wait_for.new.spawn) (Waits (record { served = c.args.running.served; child = k }) c.wait_for.result)) (sym c.in-Some.is) c.wait_for.ensures.waits

pub returns-in-Some-clause-alone : goal.returns-in-Some-clause-alone
returns-in-Some-clause-alone g c none = let bad : Some c.in-Some.child ≡ None = sym c.in-Some.is ∙ none in cc
