-- What stays of a plan.
use Rattle.std.proofs.Common.{◌≡◌, ◌∙◌, ℕ, ap, sym}
use Rattle.lnbd_dump.specs.declared.asking.Plan.{Plan}

pub plan_at : (a b : Plan) (n : ℕ) → b ≡ record a { at = n } → b.at ≡ n
plan_at a b n is = ap (λ (p : Plan). p.at) is

-- first what is known is other, and then where the next part begins
pub plan_both : (a b c : Plan) → b ≡ record a { known = b.known } → c ≡ record b { at = c.at } → c ≡ record a { at = c.at; known = c.known }
plan_both a b c one two =
    let known : b.known ≡ c.known = sym (ap (λ (p : Plan). p.known) two) in
    two ∙ ap (λ (p : Plan). record p { at = c.at }) one ∙ ap (λ (n : ℕ). record a { at = c.at; known = n }) known

pub plan_known : (a b : Plan) → b ≡ record a { known = b.known } → b ≡ record a { at = b.at; known = b.known }
plan_known a b one = one ∙ ap (λ (n : ℕ). record a { at = n; known = b.known }) (sym (ap (λ (p : Plan). p.at) one))

pub plan_on : (a b c : Plan) → b ≡ record a { at = b.at } → c ≡ record b { at = c.at } → c ≡ record a { at = c.at }
plan_on a b c one two = two ∙ ap (λ (p : Plan). record p { at = c.at }) one

pub plan_same : (a b c : Plan) → b ≡ record a { at = b.at; known = b.known } → c ≡ record b { at = c.at; known = c.known } → c ≡ record a { at = c.at; known = c.known }
plan_same a b c one two = two ∙ ap (λ (p : Plan). record p { at = c.at; known = c.known }) one
