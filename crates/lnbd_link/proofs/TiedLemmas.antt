-- Each call keeps the state of links tied to the calls so far.
use Rattle.std.proofs.Common.{◌≡◌, inl, inr, ℕ, zero, suc, ◌+◌, ◌<◌, ◌≤◌, min, Bool, true, false, List, [], ◌∷◌, ◌++◌, Some, None, length, get_or, slice_set, replicate, get_or-set_same, get_or-set_other, refl, sym, ◌∙◌, ap, arith, cond, zero-add}
use Rattle.std.proofs.lemmas.Grind.{common_steps}
use Rattle.std.proofs.lemmas.Bool.{cases_eq}
use Rattle.std.proofs.lemmas.Bool.Decides.{nat_tests}
use Rattle.std.proofs.lemmas.List.{get_or_past}
use Rattle.std.proofs.lemmas.List.Sums.{sum_by-append}
use Rattle.lnbd_model.specs.declared.target.Target.{Target}
use Rattle.lnbd_link.specs.Call.{Call, Connect, Shut}
use Rattle.lnbd_link.specs.Numbers.{gives, open_by, is_open}
use Rattle.lnbd_link.specs.Connects.{is_connect, connects}
use Rattle.lnbd_link.specs.Tied.{Tied}
use Rattle.lnbd_link.proofs.Openings.{is_open-call, not_given-call}

connects-call : (cs : List Call) (c : Call) → connects (cs ++ c ∷ []) ≡ connects cs + cond (is_connect c) 1 0
connects-call cs c =
    let both : connects (cs ++ c ∷ []) ≡ connects cs + (0 + cond (is_connect c) 1 0) = sum_by-append (λ (x : Call). cond (is_connect x) 1 0) cs (c ∷ []) in
    both ∙ ap (λ n. connects cs + n) (zero-add (cond (is_connect c) 1 0))

set_false : (xs : List Bool) (k : ℕ) → get_or (slice_set xs k false) k false ≡ false
set_false [] k = refl
set_false (x ∷ xs) zero = refl
set_false (x ∷ xs) (suc k) = set_false xs k

none_open : (n k : ℕ) → get_or (replicate n false) k false ≡ false
none_open zero k = refl
none_open (suc n) zero = refl
none_open (suc n) (suc k) = none_open n k

-- a call that gives and shuts no number, and is no connect
pub tied_plain : (next : ℕ) (opened : List Bool) (cs : List Call) (c : Call) → is_connect c ≡ false → ((n : ℕ) → gives n c ≡ false) → ((n : ℕ) (was : Bool) → open_by n was c ≡ was) → Tied next opened cs → Tied next opened (cs ++ c ∷ [])
tied_plain next opened cs c nc g o t = record {
  counted = t.counted ∙ ap (λ k. min k (length opened)) (sym (connects-call cs c ∙ ap (λ b. connects cs + cond b 1 0) nc ∙ omega arith));
  fresh = λ n le. not_given-call n cs c (t.fresh n le) (g n);
  open_is = λ n. t.open_is n ∙ sym (is_open-call n cs c ∙ o n _);
}

-- a connect that gave no number
pub tied_unmade : (next later : ℕ) (opened : List Bool) (cs : List Call) (to : Target) → next ≤ later → later ≡ min (connects cs + 1) (length opened) → Tied next opened cs → Tied later opened (cs ++ Connect to None ∷ [])
tied_unmade next later opened cs to le is t = record {
  counted = is ∙ ap (λ k. min k (length opened)) (sym (connects-call cs (Connect to None)));
  fresh = λ n at. not_given-call n cs (Connect to None) (t.fresh n (omega arith)) refl;
  open_is = λ n. t.open_is n ∙ sym (is_open-call n cs (Connect to None));
}

-- a connect that gave the next number
pub tied_made : (next : ℕ) (opened : List Bool) (cs : List Call) (to : Target) → next < length opened → Tied next opened cs → Tied (next + 1) (slice_set opened next true) (cs ++ Connect to (Some next) ∷ [])
tied_made next opened cs to lt t = record {
  counted = counts;
  fresh = λ n at. not_given-call n cs (Connect to (Some next)) (t.fresh n (omega arith)) (differs n at);
  open_is = λ n. made n ∙ sym (is_open-call n cs (Connect to (Some next)));
}
  where
    counts : next + 1 ≡ min (connects (cs ++ Connect to (Some next) ∷ [])) (length (slice_set opened next true))
    counts = let is = t.counted in let more = connects-call cs (Connect to (Some next)) in grind (arith, common_steps)

    differs : (n : ℕ) → next + 1 ≤ n → gives n (Connect to (Some next)) ≡ false
    differs n at = grind (arith, nat_tests)

    made : (n : ℕ) → get_or (slice_set opened next true) n false ≡ open_by n (is_open n cs) (Connect to (Some next))
    made n = elim (cases_eq next n) [
      | inl e ↦ grind (arith, common_steps, nat_tests, get_or-set_same)
      | inr ne ↦ let was = t.open_is n in grind (arith, common_steps, nat_tests, get_or-set_other)
    ]

pub tied_shut : (next : ℕ) (opened : List Bool) (cs : List Call) (k : ℕ) → Tied next opened cs → Tied next (slice_set opened k false) (cs ++ Shut k ∷ [])
tied_shut next opened cs k t = record {
  counted = counts;
  fresh = λ n at. not_given-call n cs (Shut k) (t.fresh n at) refl;
  open_is = λ n. kept n ∙ sym (is_open-call n cs (Shut k));
}
  where
    counts : next ≡ min (connects (cs ++ Shut k ∷ [])) (length (slice_set opened k false))
    counts = let is = t.counted in let more = connects-call cs (Shut k) in grind (arith, common_steps)

    kept : (n : ℕ) → get_or (slice_set opened k false) n false ≡ open_by n (is_open n cs) (Shut k)
    kept n = elim (cases_eq k n) [
      | inl e ↦ let gone = ap (λ (j : ℕ). get_or (slice_set opened k false) j false) (sym e) ∙ set_false opened k in grind (arith, nat_tests)
      | inr ne ↦ let was = t.open_is n in grind (arith, common_steps, nat_tests, get_or-set_other)
    ]

-- a shut of a number that was never given
pub tied_past : (next : ℕ) (opened : List Bool) (cs : List Call) (k : ℕ) → length opened ≤ k → Tied next opened cs → Tied next opened (cs ++ Shut k ∷ [])
tied_past next opened cs k le t = record {
  counted = counts;
  fresh = λ n at. not_given-call n cs (Shut k) (t.fresh n at) refl;
  open_is = λ n. kept n ∙ sym (is_open-call n cs (Shut k));
}
  where
    counts : next ≡ min (connects (cs ++ Shut k ∷ [])) (length opened)
    counts = let is = t.counted in let more = connects-call cs (Shut k) in grind (arith, common_steps)

    kept : (n : ℕ) → get_or opened n false ≡ open_by n (is_open n cs) (Shut k)
    kept n = elim (cases_eq k n) [
      | inl e ↦ let past = get_or_past opened n false (omega arith) in grind (arith, nat_tests)
      | inr ne ↦ let was = t.open_is n in grind (arith, nat_tests)
    ]

pub tied_start : (n : ℕ) → Tied 0 (replicate n false) []
tied_start n = record { counted = omega arith; fresh = λ k le. refl; open_is = λ k. none_open n k }
