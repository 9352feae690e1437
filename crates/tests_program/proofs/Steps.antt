-- What tests need of schedules.
use Rattle.std.proofs.Common.{ℕ, ◌≤◌, ◌≡◌, ◌++◌, ◌∷◌, List, [], All, replicate, subst, sym}
use Rattle.std.proofs.lemmas.List.Elements.{All-append}
use Rattle.lnbd_memnet.specs.declared.schedule.Step.{Step}
use Rattle.lnbd_memnet.proofs.Apart.{all_same}

-- so many steps and one more, each of which moves a byte
pub all_move : (step last : Step) (count : ℕ) (steps : List Step) → 1 ≤ step.most → 1 ≤ last.most → steps ≡ replicate count step ++ last ∷ [] → All (λ (s : Step). 1 ≤ s.most) steps
all_move step last count steps some more is =
    subst (λ (all : List Step). All (λ (s : Step). 1 ≤ s.most) all) (sym is)
    (All-append (λ (s : Step). 1 ≤ s.most) (replicate count step) (last ∷ []) (all_same step count some) (all_same last 1 more))
