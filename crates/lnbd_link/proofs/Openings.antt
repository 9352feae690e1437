-- Which numbers are given and open after one call more, or after two parts of a transcript.
use Rattle.std.proofs.Common.{◌≡◌, ℕ, Bool, false, ◌||◌, List, [], ◌∷◌, ◌++◌, refl, arith}
use Rattle.std.proofs.lemmas.Bool.Decides.{nat_tests}
use Rattle.std.proofs.lemmas.List.Folds.{list_any-append}
use Rattle.lnbd_link.specs.Call.{Call}
use Rattle.lnbd_link.specs.Numbers.{gives, is_given, open_by, open_after, is_open}

-- what is open after both parts
pub open_after-append : (n : ℕ) (was : Bool) (cs ds : List Call) → open_after n was (cs ++ ds) ≡ open_after n (open_after n was cs) ds
open_after-append n was [] ds = refl
open_after-append n was (c ∷ cs) ds = open_after-append n (open_by n was c) cs ds

-- what is open after one call more
pub is_open-call : (n : ℕ) (cs : List Call) (c : Call) → is_open n (cs ++ c ∷ []) ≡ open_by n (is_open n cs) c
is_open-call n cs c = open_after-append n false cs (c ∷ [])

-- what is given by both parts
pub is_given-append : (n : ℕ) (cs ds : List Call) → is_given n (cs ++ ds) ≡ (is_given n cs || is_given n ds)
is_given-append n cs ds = list_any-append (gives n) cs ds

-- what neither the calls nor one more gave isn't given
pub not_given-call : (n : ℕ) (cs : List Call) (c : Call) → is_given n cs ≡ false → gives n c ≡ false → is_given n (cs ++ c ∷ []) ≡ false
not_given-call n cs c a b = grind (arith, list_any-append (gives n) cs (c ∷ []), nat_tests)
