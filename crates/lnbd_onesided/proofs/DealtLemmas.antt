-- Requests that are apart are what was dealt.
use Rattle.std.proofs.Common.{◌≡◌, ℕ, List, [], ◌∷◌, Bool, true, false, ◌&&◌, ◌==◌, cond, refl, ap, sym, subst, ◌∙◌, arith, Some, None, inl, inr}
use Rattle.std.specs.Option.{option_map}
use Rattle.std.proofs.lemmas.Grind.{common_steps}
use Rattle.std.proofs.lemmas.Bool.Decides.{nat_tests}
use Rattle.lnbd_history.specs.Commands.{Command}
use Rattle.lnbd_asked.specs.Link.{Nobody}
use Rattle.lnbd_board.specs.Requests.{Request, IsIn, Under}
use Rattle.lnbd_onesided.specs.Dealt.{found, outcome_of, AreApart, ApartAreDealt}

eq_self : (n : ℕ) → (n == n) ≡ true
eq_self n = grind (arith, nat_tests, common_steps)

eq_is : (n m : ℕ) → (n == m) ≡ true → n ≡ m
eq_is n m h = grind (arith, nat_tests, common_steps)

and_first : (a b : Bool) → (a && b) ≡ true → a ≡ true
and_first true b h = refl
and_first false b h = cc

and_second : (a b : Bool) → (a && b) ≡ true → b ≡ true
and_second true b h = h
and_second false b h = cc

-- a request that is in the list is found, if they are apart
pub found_in : (r : Request) (asked : List Request) → AreApart asked → IsIn r asked → found asked r.link r.cookie ≡ Some r
found_in r [] apart h = absurd h
found_in r (x ∷ xs) apart (inl same) = subst (λ (y : Request). cond ((x.link == y.link) && (x.cookie == y.cookie)) (Some x) (found xs y.link y.cookie) ≡ Some y) same (rw
    (eq_self x.link, eq_self x.cookie) refl)
found_in r (x ∷ xs) apart (inr h) =
    let e = found_in r xs apart.1 h in
    elim ((x.link == r.link) && (x.cookie == r.cookie)) as (λ b. ((x.link == r.link) && (x.cookie == r.cookie)) ≡ b → cond b (Some x) (found xs r.link r.cookie) ≡ Some r) [
      | true ↦ λ t. absurd (
          let l = eq_is x.link r.link (and_first (x.link == r.link) (x.cookie == r.cookie) t) in
          let c = eq_is x.cookie r.cookie (and_second (x.link == r.link) (x.cookie == r.cookie) t) in
          let n : found xs r.link r.cookie ≡ None = subst (λ (k : ℕ). found xs r.link k ≡ None) c (subst (λ (k : ℕ). found xs k x.cookie ≡ None) l apart.0) in
          none_some (sym n ∙ e))
      | false ↦ λ t. e
    ] refl
  where
    none_some : {y : Request} → None ≡ Some y → ⊥
    none_some e = cc

pub some_is : {A : Type 0} {a b : A} → Some a ≡ Some b → a ≡ b
some_is e = cc

found_under : (link cookie : ℕ) (command : Command Nobody) (asked : List Request) → option_map (λ (r : Request). r.said.command) (found asked link cookie) ≡ Some command
    → Under link cookie command asked
found_under link cookie command [] h = absurd (cc)
found_under link cookie command (x ∷ xs) h =
    elim ((x.link == link) && (x.cookie == cookie)) as (λ b. ((x.link == link) && (x.cookie == cookie)) ≡ b
    → option_map (λ (r : Request). r.said.command) (cond b (Some x) (found xs link cookie)) ≡ Some command → Under link cookie command (x ∷ xs)) [
      | true ↦ λ t e. record {
        request = x;
        within = inl refl;
        on = eq_is x.link link (and_first (x.link == link) (x.cookie == cookie) t);
        by = eq_is x.cookie cookie (and_second (x.link == link) (x.cookie == cookie) t);
        asks = some_is e;
      }
      | false ↦ λ t e. let u = found_under link cookie command xs e in record { request = u.request; within = inr u.within; on = u.on; by = u.by; asks = u.asks }
    ] refl h

pub apart_are_dealt : ApartAreDealt
apart_are_dealt size asked apart = record {
  shown = λ r h. let e = found_in r asked apart h in (ap (option_map (λ (x : Request). x.said.command)) e, ap outcome_of e);
  only = λ link cookie command e. found_under link cookie command asked e;
}
