use Rattle.std.proofs.Common.{arith, rules, ◌≡◌, ◌<◌, ◌∙◌, ◌∷◌, [], ℕ, List, length, drop, None, refl, ap, sym, subst, drop-cons}
use Rattle.std.specs.Prelude.{IfErr, IfOk}
use Rattle.lnbd_serve.proofs.TurnLemmas.{empty_is}
use Rattle.lnbd_child.specs.Child.{Starts, StartsNot}
use Rattle.lnbd_child.specs.Grown.{Grew}
use Rattle.lnbd_child.proofs.GrownLemmas.{grew_none}
use Rattle.lnbd_child.proofs.HostLemmas.{some_there}
use Rattle.lnbd_child.proofs.child.start.Goals as goal

pub returns-then-is_empty-clause-starts : goal.returns-then-is_empty-clause-starts
returns-then-is_empty-clause-starts g c =
    let none : c.args.run.now ≡ [] = sym c.as_slice-words.ensures ∙ empty_is c.as_slice-words.result.now (sym c.is_empty.ensures ∙ c.if-is_empty.true) in
    subst (λ (run : List (List ℕ)). Grew (g.P.Spawner.told c.args.spawn.now) (g.P.Spawner.told c.args.spawn.now) (Starts run c.args.uri.now None)) (sym none)
    (grew_none (g.P.Spawner.told c.args.spawn.now) (Starts [] c.args.uri.now None) (refl, refl))

pub returns-clause-starts : goal.returns-clause-starts
returns-clause-starts g c =
    let run : List (List ℕ) = c.as_slice-words.result.now in
    let first : List ℕ = c.index-words-0.result in
    let some : 0 < length run = search rules in
    let whole : first ∷ c.rest_of.result.now ≡ c.args.run.now = ap (λ (t : List (List ℕ)). first ∷ t) c.rest_of.ensures ∙ ap (λ (t : List ℕ). t ∷ drop 1 run) c.index-words-0.is ∙ sym (drop-cons run 0 first some) ∙ c.as_slice-words.ensures in
    subst (λ (x : List (List ℕ)). IfOk c.start_program.result (λ child. Grew (g.P.Spawner.told c.args.spawn.now) (g.P.Spawner.told c.start_program.new.spawn) (Starts x c.args.uri.now child))) whole c.start_program.ensures.starts

pub returns-clause-unstarted : goal.returns-clause-unstarted
returns-clause-unstarted g c =
    let run : List (List ℕ) = c.as_slice-words.result.now in
    let first : List ℕ = c.index-words-0.result in
    let some : 0 < length run = search rules in
    let whole : first ∷ c.rest_of.result.now ≡ c.args.run.now = ap (λ (t : List (List ℕ)). first ∷ t) c.rest_of.ensures ∙ ap (λ (t : List ℕ). t ∷ drop 1 run) c.index-words-0.is ∙ sym (drop-cons run 0 first some) ∙ c.as_slice-words.ensures in
    subst (λ (x : List (List ℕ)). IfErr c.start_program.result (λ why. Grew (g.P.Spawner.told c.args.spawn.now) (g.P.Spawner.told c.start_program.new.spawn) (StartsNot x c.args.uri.now why))) whole c.start_program.ensures.unstarted

pub returns-clause-alone : goal.returns-clause-alone
returns-clause-alone g c none = absurd (omega (arith, ap (λ (xs : List (List ℕ)). length xs) (c.as_slice-words.ensures ∙ none), some_there c.as_slice-words.result.now (sym c.is_empty.ensures ∙ c.if-is_empty.false)))

pub returns-clause-nobody : goal.returns-clause-nobody
returns-clause-nobody g c none = absurd (omega (arith, ap (λ (xs : List (List ℕ)). length xs) (c.as_slice-words.ensures ∙ none), some_there c.as_slice-words.result.now (sym c.is_empty.ensures ∙ c.if-is_empty.false)))
