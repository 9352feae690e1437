use Rattle.std.proofs.Common.{◌∙◌, ◌≤◌, ℕ, length, subst, sym}
use Rattle.lnbd_args.proofs.RunLemmas.{found, found_alone, not_found, run_at_within}
use Rattle.lnbd_args.proofs.split.split.Goals as goal

pub split_at-requires : goal.split_at-requires
split_at-requires c = subst (λ (n : ℕ). n ≤ length c.args.words.now) (sym c.run_at.ensures) (run_at_within c.args.words.now)

pub returns-then-is_empty : goal.returns-then-is_empty
returns-then-is_empty c =
    found_alone c.args.words.now c.split_at.result.0.now c.split_at.result.1.now c.split_at.ensures.by_index.0 (c.split_at.ensures.front_len ∙ c.run_at.ensures)
    c.in-Some.field-0-0.now c.in-Some.run'.now c.in-Some.ensures.cases.0 (sym c.is_empty.ensures ∙ c.if-is_empty.true)

pub returns-in-None : goal.returns-in-None
returns-in-None c =
    not_found c.args.words.now c.split_at.result.0.now c.split_at.result.1.now c.split_at.ensures.by_index.0 (c.split_at.ensures.front_len ∙ c.run_at.ensures) c.in-None.ensures.cases

pub returns-else-is_empty : goal.returns-else-is_empty
returns-else-is_empty c =
    found c.args.words.now c.split_at.result.0.now c.split_at.result.1.now c.split_at.ensures.by_index.0 (c.split_at.ensures.front_len ∙ c.run_at.ensures)
    c.in-Some.field-0-0.now c.in-Some.run'.now c.in-Some.ensures.cases.0 (sym c.is_empty.ensures ∙ c.if-is_empty.false)
