-- Laws of what waits.
use Rattle.std.proofs.Common.{◌≡◌, ℕ, ◌+◌, ◌-◌, ◌≤◌, Bool, true, false, List, [], ◌∷◌, ◌++◌, length, refl, sym, subst, arith, ◌==◌, nat_lt}
use Rattle.std.proofs.lemmas.List.{length-drop, drop-drop}
use Rattle.std.proofs.lemmas.Bool.{eqb-true}
use Rattle.lnbd_history.specs.Outgoing.{Part, waiting, whole, total, out, wrote, ended}

waiting-none : (ps : List Part) → waiting ps 0 ≡ ps
waiting-none [] = refl
waiting-none (p ∷ ps) = refl

whole-none : (ps : List Part) → whole ps 0 ≡ 0
whole-none [] = refl
whole-none (p ∷ ps) = refl

-- parts that are asked later wait behind
pub waiting-append : (ps qs : List Part) (n : ℕ) → n ≤ total ps → waiting (ps ++ qs) n ≡ waiting ps n ++ qs
waiting-append [] qs n h = let e : n ≡ 0 = omega arith in rw e (waiting-none qs)
waiting-append (p ∷ ps) qs n h = grind (arith, waiting-append ps qs (n - length p.bytes))

pub whole-append : (ps qs : List Part) (n : ℕ) → n ≤ total ps → whole (ps ++ qs) n ≡ whole ps n
whole-append [] qs n h = let e : n ≡ 0 = omega arith in rw e (whole-none qs)
whole-append (p ∷ ps) qs n h = grind (arith, whole-append ps qs (n - length p.bytes))

first_part : (p : Part) (ps : List Part) (n k : ℕ) → n ≡ 0 → k ≤ length (out (waiting (p ∷ ps) n)) → waiting (p ∷ ps) (n + k) ≡ wrote (waiting (p ∷ ps) n) k
first_part p ps n k z = subst (λ (m : ℕ). k ≤ length (out (waiting (p ∷ ps) m)) → waiting (p ∷ ps) (m + k) ≡ wrote (waiting (p ∷ ps) m) k) (sym z) (λ h. grind (arith, waiting-none ps))

first_whole : (p : Part) (ps : List Part) (n k : ℕ) → n ≡ 0 → k ≤ length (out (waiting (p ∷ ps) n)) → whole (p ∷ ps) (n + k) ≡ whole (p ∷ ps) n + ended (waiting (p ∷ ps) n) k
first_whole p ps n k z = subst (λ (m : ℕ). k ≤ length (out (waiting (p ∷ ps) m)) → whole (p ∷ ps) (m + k) ≡ whole (p ∷ ps) m + ended (waiting (p ∷ ps) m) k) (sym z) (λ h. grind (arith, whole-none ps))

within : (p : Part) (ps : List Part) (n k : ℕ) → (n == 0) ≡ false → nat_lt n (length p.bytes) ≡ true → k ≤ length (out (waiting (p ∷ ps) n)) → waiting (p ∷ ps) (n + k) ≡ wrote (waiting (p ∷ ps) n) k
within p ps n k e f h = rw (e, f) (grind (arith, waiting-none ps, length-drop n p.bytes, drop-drop k n p.bytes))

within_whole : (p : Part) (ps : List Part) (n k : ℕ) → (n == 0) ≡ false → nat_lt n (length p.bytes) ≡ true → k ≤ length (out (waiting (p ∷ ps) n)) → whole (p ∷ ps) (n + k) ≡ whole (p ∷ ps) n + ended (waiting (p ∷ ps) n) k
within_whole p ps n k e f h = rw (e, f) (grind (arith, whole-none ps, length-drop n p.bytes))

-- bytes that go out
pub waiting-more : (ps : List Part) (n k : ℕ) → k ≤ length (out (waiting ps n)) → waiting ps (n + k) ≡ wrote (waiting ps n) k
waiting-more [] n k h = refl
waiting-more (p ∷ ps) n k h = go (n == 0) refl (nat_lt n (length p.bytes)) refl (waiting-more ps (n - length p.bytes) k)
  where
    go : (a : Bool) → (n == 0) ≡ a → (b : Bool) → nat_lt n (length p.bytes) ≡ b →
        (k ≤ length (out (waiting ps (n - length p.bytes))) → waiting ps (n - length p.bytes + k) ≡ wrote (waiting ps (n - length p.bytes)) k) →
        waiting (p ∷ ps) (n + k) ≡ wrote (waiting (p ∷ ps) n) k
    go true e b f ih = first_part p ps n k (eqb-true _ _ e) h
    go false e true f ih = within p ps n k e f h
    go false e false f ih = grind (arith, ih)

pub whole-more : (ps : List Part) (n k : ℕ) → k ≤ length (out (waiting ps n)) → whole ps (n + k) ≡ whole ps n + ended (waiting ps n) k
whole-more [] n k h = refl
whole-more (p ∷ ps) n k h = go (n == 0) refl (nat_lt n (length p.bytes)) refl (whole-more ps (n - length p.bytes) k)
  where
    go : (a : Bool) → (n == 0) ≡ a → (b : Bool) → nat_lt n (length p.bytes) ≡ b →
        (k ≤ length (out (waiting ps (n - length p.bytes))) → whole ps (n - length p.bytes + k) ≡ whole ps (n - length p.bytes) + ended (waiting ps (n - length p.bytes)) k) →
        whole (p ∷ ps) (n + k) ≡ whole (p ∷ ps) n + ended (waiting (p ∷ ps) n) k
    go true e b f ih = first_whole p ps n k (eqb-true _ _ e) h
    go false e true f ih = within_whole p ps n k e f h
    go false e false f ih = grind (arith, ih)

pub total-more : (ps : List Part) (n k : ℕ) → n ≤ total ps → k ≤ length (out (waiting ps n)) → n + k ≤ total ps
total-more [] n k h g = grind arith
total-more (p ∷ ps) n k h g = grind (arith, total-more ps (n - length p.bytes) k, length-drop n p.bytes)

pub total-append : (ps qs : List Part) → total (ps ++ qs) ≡ total ps + total qs
total-append [] qs = omega arith
total-append (p ∷ ps) qs = omega (arith, total-append ps qs)
