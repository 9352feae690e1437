-- Lemmas on the order of done cookies.
use Rattle.std.proofs.Common.{◌≡◌, ℕ, zero, suc, ◌<◌, List, [], ◌∷◌, ◌++◌, Bool, true, false, not, cond, ◌≢◌, refl, arith, Some, None, Option, IsSome, OnSome, length, get_or, nat_eq, slice_get}
use Rattle.std.specs.List.{remove}
use Rattle.std.proofs.lemmas.Grind.{common_steps}
use Rattle.lnbd_inflight.specs.declared.marks.Mark.{Mark}
use Rattle.lnbd_inflight.specs.Done.{is_done, forgetting, IsOnce}
use Rattle.lnbd_inflight.specs.Marks.{order_of}

pub length_order : (marks : List Mark) → length (order_of marks) ≡ length marks
length_order [] = refl
length_order (x ∷ xs) = let e = length_order xs in grind (arith, common_steps)

pub order_append : (mark : Mark) (marks : List Mark) → order_of (marks ++ mark ∷ []) ≡ order_of marks ++ mark.cookie ∷ []
order_append mark [] = refl
order_append mark (x ∷ xs) = let e = order_append mark xs in grind (arith, common_steps)

-- a cookie that isn't done is in the order nowhere
pub forgetting_none : (c : ℕ) (done : List ℕ) → is_done c done ≡ false → forgetting c done ≡ done
forgetting_none c [] h = refl
forgetting_none c (x ∷ xs) h = grind (arith, common_steps, forgetting_none c xs)

-- the cookie of the mark at a place
pub cookie_at : (at : ℕ) (mark : Mark) (marks : List Mark) → at < length marks → mark ≡ get_or marks at mark → slice_get (order_of marks) at ≡ Some mark.cookie
cookie_at at mark [] h e = absurd (omega arith)
cookie_at zero mark (x ∷ xs) h e = grind (arith, common_steps)
cookie_at (suc at) mark (x ∷ xs) h e = cookie_at at mark xs (omega arith) e

-- a place that holds a cookie is within the order
pub spot_within : (at c : ℕ) (marks : List Mark) → slice_get (order_of marks) at ≡ Some c → at < length marks
spot_within at c [] h = cc
spot_within zero c (x ∷ xs) h = omega arith
spot_within (suc at) c (x ∷ xs) h = omega (arith, spot_within at c xs h)

-- and the cookie is done
pub spot_done : (at c : ℕ) (marks : List Mark) → slice_get (order_of marks) at ≡ Some c → is_done c (order_of marks) ≡ true
spot_done at c [] h = cc
spot_done zero c (x ∷ xs) h = grind (arith, common_steps)
spot_done (suc at) c (x ∷ xs) h = let e = spot_done at c xs h in grind (arith, common_steps)

-- the one mark of a cookie leaves
pub forgetting_remove : (at c : ℕ) (marks : List Mark) → IsOnce (order_of marks) → slice_get (order_of marks) at ≡ Some c → order_of (remove marks at) ≡ forgetting c (order_of marks)
forgetting_remove at c [] o h = cc
forgetting_remove zero c (x ∷ xs) o h =
    let gone = forgetting_none c (order_of xs) in
    let alone : is_done x.cookie (order_of xs) ≡ false = o.0 in
    grind (arith, common_steps, gone)
forgetting_remove (suc at) c (x ∷ xs) o h =
    let e = forgetting_remove at c xs o.1 h in
    let d = spot_done at c xs h in
    let alone : is_done x.cookie (order_of xs) ≡ false = o.0 in
    grind (arith, common_steps)

-- what a removal at a place within the order does
pub removed : (o : Option Mark) (at c : ℕ) (marks new : List Mark) → (at < length marks → IsSome o) → OnSome o (new ≡ remove marks at) → IsOnce (order_of marks) → slice_get (order_of marks) at ≡ Some c → order_of new ≡ forgetting c (order_of marks)
removed None at c marks new there items once spot = absurd (cc (there (spot_within at c marks spot)))
removed (Some mark) at c marks new there items once spot = rw items (forgetting_remove at c marks once spot)

-- what a mark at the end changes
pub done_append : (n c : ℕ) (done : List ℕ) → is_done n (done ++ c ∷ []) ≡ cond (is_done n done) true (nat_eq c n)
done_append n c [] = grind (arith, common_steps)
done_append n c (x ∷ xs) = let e = done_append n c xs in grind (arith, common_steps)

pub done_last : (c : ℕ) (done : List ℕ) → is_done c (done ++ c ∷ []) ≡ true
done_last c [] = grind (arith, common_steps)
done_last c (x ∷ xs) = let e = done_last c xs in grind (arith, common_steps)

pub done_before_last : (n c : ℕ) (done : List ℕ) → n ≢ c → is_done n (done ++ c ∷ []) ≡ is_done n done
done_before_last n c [] h = grind (arith, common_steps)
done_before_last n c (x ∷ xs) h = let e = done_before_last n c xs h in grind (arith, common_steps)

-- what is forgotten isn't done, and all else is as it was
pub done_same : (c : ℕ) (done : List ℕ) → is_done c (forgetting c done) ≡ false
done_same c [] = refl
done_same c (x ∷ xs) = let e = done_same c xs in grind (arith, common_steps)

pub done_other : (n c : ℕ) (done : List ℕ) → n ≢ c → is_done n (forgetting c done) ≡ is_done n done
done_other n c [] h = refl
done_other n c (x ∷ xs) h = let e = done_other n c xs h in grind (arith, common_steps)

pub done_before : (n c : ℕ) (done : List ℕ) → is_done n (forgetting c done) ≡ true → is_done n done ≡ true
done_before n c [] h = h
done_before n c (x ∷ xs) h = grind (arith, common_steps, done_before n c xs)

-- no cookie comes to stand twice
pub once_append : (c : ℕ) (done : List ℕ) → IsOnce done → is_done c done ≡ false → IsOnce (done ++ c ∷ [])
once_append c [] o h = (refl, tt)
once_append c (x ∷ xs) o h =
    let e = done_append x c xs in
    let alone : is_done x xs ≡ false = o.0 in
    (grind (arith, common_steps), once_append c xs o.1 (grind (arith, common_steps)))

once_cons : (b : Bool) (x : ℕ) (xs : List ℕ) → is_done x xs ≡ false → IsOnce xs → IsOnce (cond b (x ∷ xs) xs)
once_cons true x xs h o = (h, o)
once_cons false x xs h o = o

pub once_forgetting : (c : ℕ) (done : List ℕ) → IsOnce done → IsOnce (forgetting c done)
once_forgetting c [] o = tt
once_forgetting c (x ∷ xs) o =
    let rest = once_forgetting c xs o.1 in
    let alone : is_done x (forgetting c xs) ≡ false = grind (arith, common_steps, o.0, done_before x c xs) in
    once_cons (not (nat_eq x c)) x (forgetting c xs) alone rest
