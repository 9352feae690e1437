use Rattle.std.proofs.Common.{◌≡◌, ◌∙◌, ap, sym, subst, Bool, true, ℕ, List, [], ◌∷◌, ⊎_elim, Option, Some, None, Bor, MatchOption, option_copied, find, drop, codes, refl}
use Rattle.std.proofs.lemmas.Bool.{cases_Bool}
use Rattle.std.proofs.lemmas.Bool.Decides.{Decides-eqb}
use Rattle.std.proofs.lemmas.Option.{same_Some}
use Rattle.std.proofs.lemmas.Slice.Eq.{starts_is}
use Rattle.std.specs.List.{slice_split}
use Rattle.std.specs.Prelude.{◌==◌}
use Rattle.std.specs.Option.{option_map}
use Rattle.std.specs.Str.Pattern.{FindsTextPrefix, StripsPrefix}
use Rattle.lnbd_uri.specs.Parts.{is_socket_part}
use Rattle.lnbd_uri.proofs.query.socket_value.Goals as goal

-- what is found passes the test
found_passes : (p : List ℕ → Bool) (xs : List (List ℕ)) (x : List ℕ) → find p xs ≡ Some x → p x ≡ true
found_passes p [] x e = cc
found_passes p (y ∷ ys) x e =
    ⊎_elim
    (λ yes. let same : Some y ≡ Some x = rw yes at e in subst (λ z. p z ≡ true) (same_Some y x same) yes)
    (λ no. found_passes p ys x (rw no at e))
    (cases_Bool (p y))

-- a part that begins with `socket=` is cut behind it
stripped : (part : List ℕ) (r : Option (Bor (List ℕ))) → is_socket_part part ≡ true
    → MatchOption r (FindsTextPrefix (codes "socket=") part None) (λ x. StripsPrefix (FindsTextPrefix (codes "socket=")) part x.now)
    → option_copied r ≡ Some (drop 7 part)
stripped part None begins lacks = absurd (lacks (drop 7 part) ((starts_is Decides-eqb part (codes "socket=") true (sym begins)).0 refl))
stripped part (Some x) begins (n, finds, is, whole) = ap Some (is ∙ ap (λ k. drop k part) finds.0)

pub returns-in-Some : goal.returns-in-Some
returns-in-Some c =
    stripped c.in-Some.part.now c.strip_prefix.result (found_passes is_socket_part (slice_split (λ c. c == 38) c.args.query.now) c.in-Some.part.now (sym c.in-Some.ensures)) c.strip_prefix.ensures.cases
    ∙ ap (option_map (λ part. drop 7 part)) c.in-Some.ensures
