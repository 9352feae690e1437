-- Lists of extents: what joining and cutting keep of each position.
use Rattle.std.proofs.Common.{◌≡◌, ◌≢◌, ℕ, zero, suc, ◌+◌, ◌-◌, ◌<◌, ◌≤◌, Bool, true, false, List, [], ◌∷◌, ◌++◌, Option, Some, None, refl, ap, sym, ◌∙◌, arith, length, get_or, nat_lt, ◌==◌, if◌then◌else◌, slice_set, min, ◌⊎◌, inl, inr, Result, Ok, Err, OnOk}
use Rattle.std.proofs.lemmas.Bool.{cases_order}
use Rattle.std.proofs.lemmas.List.{get_or_default}
use Rattle.std.proofs.lemmas.Grind.{common_steps}
use Rattle.lnbd_model.specs.declared.export.Extent.{Extent}
use Rattle.lnbd_extents.specs.Lists.{span, flags_at, StartsOtherwise, AreJoined, joining, with_extent, clipped}

pub span-append : (xs ys : List Extent) → span (xs ++ ys) ≡ span xs + span ys
span-append [] ys = omega arith
span-append (x ∷ xs) ys = let e = span-append xs ys in omega arith

pub flags_at_left : (xs ys : List Extent) (p : ℕ) → p < span xs → flags_at (xs ++ ys) p ≡ flags_at xs p
flags_at_left [] ys p l = absurd (omega arith)
flags_at_left (x ∷ xs) ys p l = let e = flags_at_left xs ys (p - x.length) in grind (arith, common_steps, e)

pub flags_at_right : (xs ys : List Extent) (p : ℕ) → flags_at (xs ++ ys) (span xs + p) ≡ flags_at ys p
flags_at_right [] ys p = ap (flags_at ys) (omega arith)
flags_at_right (x ∷ xs) ys p =
    let e : flags_at (xs ++ ys) (span xs + p) ≡ flags_at ys p = flags_at_right xs ys p in
    let same : x.length + span xs + p - x.length ≡ span xs + p = omega arith in
    let k : nat_lt (x.length + span xs + p) x.length ≡ false = grind (arith, common_steps) in
    ap (λ b. if b then Some x.flags else flags_at (xs ++ ys) (x.length + span xs + p - x.length)) k ∙ ap (flags_at (xs ++ ys)) same ∙ e

-- past the end there are no flags
pub flags_at_none : (xs : List Extent) (p : ℕ) → span xs ≤ p → flags_at xs p ≡ None
flags_at_none [] p l = refl
flags_at_none (x ∷ xs) p l = let e = flags_at_none xs (p - x.length) (omega arith) in grind (arith, common_steps)

pub flags_at_some : (xs : List Extent) (p f : ℕ) → flags_at xs p ≡ Some f → p < span xs
flags_at_some xs p f e = go (nat_lt p (span xs)) refl
  where
    go : (b : Bool) → nat_lt p (span xs) ≡ b → p < span xs
    go true w = grind (arith, common_steps)
    go false w = absurd (let k : None ≡ Some f = sym (flags_at_none xs p (grind (arith, common_steps))) ∙ e in cc)

-- joining

pub span_joining : (xs : List Extent) (e : Extent) → span (joining xs e) ≡ span xs + e.length
span_joining [] e = omega arith
span_joining (x ∷ []) e = elim (x.flags == e.flags) as (λ b. span (if b then record { length = x.length + e.length; flags = x.flags } ∷ [] else x ∷ e ∷ []) ≡ span (x ∷ []) + e.length) [ true ↦ omega arith | false ↦ omega arith ]
span_joining (x ∷ y ∷ xs) e = let h = span_joining (y ∷ xs) e in omega arith

pub flags_at_joining : (xs : List Extent) (e : Extent) (p : ℕ) → flags_at (joining xs e) p ≡ flags_at (xs ++ e ∷ []) p
flags_at_joining [] e p = refl
flags_at_joining (x ∷ []) e p = grind (arith, common_steps)
flags_at_joining (x ∷ y ∷ xs) e p = let h = flags_at_joining (y ∷ xs) e (p - x.length) in ap (λ v. if nat_lt p x.length then Some x.flags else v) h

starts_joining : (f : ℕ) (x : Extent) (xs : List Extent) (e : Extent) → f ≢ x.flags → StartsOtherwise f (joining (x ∷ xs) e)
starts_joining f x [] e h = elim (x.flags == e.flags) as (λ b. StartsOtherwise f (if b then record { length = x.length + e.length; flags = x.flags } ∷ [] else x ∷ e ∷ [])) [ true ↦ h | false ↦ h ]
starts_joining f x (y ∷ xs) e h = h

pub joined_joining : (xs : List Extent) (e : Extent) → 0 < e.length → AreJoined xs → AreJoined (joining xs e)
joined_joining [] e l j = (l, tt, tt)
joined_joining (x ∷ []) e l j = go (x.flags == e.flags) refl
  where
    go : (b : Bool) → (x.flags == e.flags) ≡ b → AreJoined (if b then record { length = x.length + e.length; flags = x.flags } ∷ [] else x ∷ e ∷ [])
    go true w = (omega arith, tt, tt)
    go false w = (j.0, grind (arith, common_steps), (l, tt, tt))
joined_joining (x ∷ y ∷ xs) e l j = (j.0, starts_joining x.flags y xs e j.1, joined_joining (y ∷ xs) e l j.2)

-- a write into the last extent
pub joining_set : (xs : List Extent) (e d : Extent) (last : ℕ) → suc last ≡ length xs → (get_or xs last d).flags ≡ e.flags →
    slice_set xs last (record { length = (get_or xs last d).length + e.length; flags = (get_or xs last d).flags }) ≡ joining xs e
joining_set [] e d last l h = absurd (omega arith)
joining_set (x ∷ []) e d zero l h = grind (arith, common_steps)
joining_set (x ∷ []) e d (suc last) l h = absurd (omega arith)
joining_set (x ∷ y ∷ xs) e d zero l h = absurd (omega arith)
joining_set (x ∷ y ∷ xs) e d (suc last) l h = ap (λ ys. x ∷ ys) (joining_set (y ∷ xs) e d last (omega arith) h)

pub joining_push : (xs : List Extent) (e d : Extent) (last : ℕ) → suc last ≡ length xs → (get_or xs last d).flags ≢ e.flags → joining xs e ≡ xs ++ e ∷ []
joining_push [] e d last l h = absurd (omega arith)
joining_push (x ∷ []) e d zero l h = grind (arith, common_steps)
joining_push (x ∷ []) e d (suc last) l h = absurd (omega arith)
joining_push (x ∷ y ∷ xs) e d zero l h = absurd (omega arith)
joining_push (x ∷ y ∷ xs) e d (suc last) l h = ap (λ ys. x ∷ ys) (joining_push (y ∷ xs) e d last (omega arith) h)

pub set_last : (xs : List Extent) (e p q : Extent) (last : ℕ) → suc last ≡ length xs → p ≡ get_or xs last p → q ≡ get_or xs last q → p.flags ≡ e.flags →
    slice_set xs last (record { length = q.length + e.length; flags = q.flags }) ≡ joining xs e
set_last xs e p q last l is at h =
    let same : get_or xs last q ≡ get_or xs last p = get_or_default xs last q p (omega arith) in
    let flags : (get_or xs last q).flags ≡ e.flags = ap (λ (r : Extent). r.flags) (same ∙ sym is) ∙ h in
    ap (λ (r : Extent). slice_set xs last (record { length = r.length + e.length; flags = r.flags })) at ∙ joining_set xs e q last l flags

pub push_last : (xs : List Extent) (e p : Extent) (last : ℕ) → suc last ≡ length xs → p ≡ get_or xs last p → p.flags ≢ e.flags → joining xs e ≡ xs ++ e ∷ []
push_last xs e p last l is other = joining_push xs e p last l (λ same. other (ap (λ (r : Extent). r.flags) is ∙ same))

pub push_first : (xs : List Extent) (e : Extent) → length xs ≤ 0 → joining xs e ≡ xs ++ e ∷ []
push_first [] e l = refl
push_first (x ∷ xs) e l = absurd (omega arith)

pub at_within : (xs : List Extent) (d : Extent) (i : ℕ) → i < length xs → (get_or xs i d).length ≤ span xs
at_within [] d i l = absurd (omega arith)
at_within (x ∷ xs) d zero l = omega arith
at_within (x ∷ xs) d (suc i) l = let h = at_within xs d i (omega arith) in omega arith

-- cutting

pub flags_at_clipped : (n : ℕ) (xs : List Extent) (p : ℕ) → flags_at (clipped n xs) p ≡ (if nat_lt p n then flags_at xs p else None)
flags_at_clipped n [] p = elim (nat_lt p n) as (λ b. ◌≡◌ {A = Option ℕ} None (if b then None else None)) [ true ↦ refl | false ↦ refl ]
flags_at_clipped n (x ∷ xs) p = let h = flags_at_clipped (n - x.length) xs (p - x.length) in grind (arith, common_steps)

pub span_clipped : (n : ℕ) (xs : List Extent) → span (clipped n xs) ≡ min n (span xs)
span_clipped n [] = omega arith
span_clipped n (x ∷ xs) = let h = span_clipped (n - x.length) xs in grind (arith, common_steps)

-- What a call that adds or cuts leaves, from the list that it leaves.

pub flags_with_extent : (xs : List Extent) (e : Extent) (p : ℕ) → flags_at (with_extent xs e) p ≡ flags_at (xs ++ e ∷ []) p
flags_with_extent xs e p = go (e.length == 0) refl
  where
    go : (b : Bool) → (e.length == 0) ≡ b → flags_at (if b then xs else joining xs e) p ≡ flags_at (xs ++ e ∷ []) p
    go false w = flags_at_joining xs e p
    go true w = empty xs p
      where
        none : (p : ℕ) → flags_at (e ∷ []) p ≡ None
        none p = flags_at_none (e ∷ []) p (grind (arith, common_steps))

        empty : (xs : List Extent) (p : ℕ) → flags_at xs p ≡ flags_at (xs ++ e ∷ []) p
        empty [] p = sym (none p)
        empty (x ∷ xs) p = ap (λ v. if nat_lt p x.length then Some x.flags else v) (empty xs (p - x.length))

pub span_with_extent : (xs : List Extent) (e : Extent) → span (with_extent xs e) ≡ span xs + e.length
span_with_extent xs e = go (e.length == 0) refl
  where
    go : (b : Bool) → (e.length == 0) ≡ b → span (if b then xs else joining xs e) ≡ span xs + e.length
    go false w = span_joining xs e
    go true w = grind (arith, common_steps)

pub joined_with_extent : (xs : List Extent) (e : Extent) → AreJoined xs → AreJoined (with_extent xs e)
joined_with_extent xs e j = go (e.length == 0) refl
  where
    go : (b : Bool) → (e.length == 0) ≡ b → AreJoined (if b then xs else joining xs e)
    go true w = j
    go false w = joined_joining xs e (grind (arith, common_steps)) j

pub flags_after_clip : (n : ℕ) (es old new : List Extent) → new ≡ old ++ clipped n es → (p : ℕ) → p < n → flags_at new (span old + p) ≡ flags_at es p
flags_after_clip n es old new is p l =
    let b : nat_lt p n ≡ true = grind (arith, common_steps) in
    ap (λ xs. flags_at xs (span old + p)) is ∙ flags_at_right old (clipped n es) p ∙ flags_at_clipped n es p ∙ ap (λ t. if t then flags_at es p else None) b

pub span_after_clip : (n : ℕ) (es old new : List Extent) → new ≡ old ++ clipped n es → span new ≡ span old + min n (span es)
span_after_clip n es old new is = ap span is ∙ span-append old (clipped n es) ∙ ap (λ k. span old + k) (span_clipped n es)

-- Joined extents with the same flags at each position are the same list.

starts_at : (x : Extent) (xs : List Extent) → 0 < x.length → flags_at (x ∷ xs) 0 ≡ Some x.flags
starts_at x xs l = let b : nat_lt 0 x.length ≡ true = grind (arith, common_steps) in ap (λ t. if t then Some x.flags else flags_at xs (0 - x.length)) b

-- behind the first extent other flags stand, or none
other_flags : (x : Extent) (xs : List Extent) → AreJoined (x ∷ xs) → flags_at (x ∷ xs) x.length ≡ Some x.flags → ⊥
other_flags x [] j e = let n = flags_at_none (x ∷ []) x.length (omega arith) in let k : None ≡ Some x.flags = sym n ∙ e in cc
other_flags x (y ∷ ys) j e =
    let b : nat_lt x.length x.length ≡ false = grind (arith, common_steps) in
    let z : x.length - x.length ≡ 0 = omega arith in
    let behind : flags_at (x ∷ y ∷ ys) x.length ≡ Some y.flags = ap (λ t. if t then Some x.flags else flags_at (y ∷ ys) (x.length - x.length)) b ∙ ap (flags_at (y ∷ ys)) z ∙ starts_at y ys j.2.0 in
    j.1 (let k : Some y.flags ≡ Some x.flags = sym behind ∙ e in cc)

inside_first : (x : Extent) (xs : List Extent) (p : ℕ) → p < x.length → flags_at (x ∷ xs) p ≡ Some x.flags
inside_first x xs p l = let b : nat_lt p x.length ≡ true = grind (arith, common_steps) in ap (λ t. if t then Some x.flags else flags_at xs (p - x.length)) b

behind_first : (x : Extent) (xs : List Extent) (p : ℕ) → flags_at (x ∷ xs) (x.length + p) ≡ flags_at xs p
behind_first x xs p =
    let b : nat_lt (x.length + p) x.length ≡ false = grind (arith, common_steps) in
    let z : x.length + p - x.length ≡ p = omega arith in
    ap (λ t. if t then Some x.flags else flags_at xs (x.length + p - x.length)) b ∙ ap (flags_at xs) z

pub same_joined : (xs ys : List Extent) → AreJoined xs → AreJoined ys → ((p : ℕ) → flags_at xs p ≡ flags_at ys p) → xs ≡ ys
same_joined [] [] jx jy same = refl
same_joined [] (y ∷ ys) jx jy same = let e : None ≡ Some y.flags = same 0 ∙ starts_at y ys jy.0 in cc
same_joined (x ∷ xs) [] jx jy same = let e : None ≡ Some x.flags = sym (same 0) ∙ starts_at x xs jx.0 in cc
same_joined (x ∷ xs) (y ∷ ys) jx jy same = go (cases_order x.length y.length) (λ tails. same_joined xs ys jx.2 jy.2 tails)
  where
    flags : x.flags ≡ y.flags
    flags = let e : Some x.flags ≡ Some y.flags = sym (starts_at x xs jx.0) ∙ same 0 ∙ starts_at y ys jy.0 in cc

    go : (x.length ≡ y.length) ⊎ ((x.length < y.length) ⊎ (y.length < x.length)) → (((p : ℕ) → flags_at xs p ≡ flags_at ys p) → xs ≡ ys) → x ∷ xs ≡ y ∷ ys
    go (inl e) rest =
        let t : xs ≡ ys = rest (λ p. sym (behind_first x xs p) ∙ same (x.length + p) ∙ ap (λ n. flags_at (y ∷ ys) (n + p)) e ∙ behind_first y ys p) in
        let h : x ≡ y = ap (λ n. record { length = n; flags = x.flags }) e ∙ ap (λ f. record { length = y.length; flags = f }) flags in
        ap (λ z. z ∷ xs) h ∙ ap (λ zs. y ∷ zs) t
    go (inr (inl less)) rest = absurd (other_flags x xs jx (same x.length ∙ inside_first y ys x.length less ∙ ap (λ f. Some f) (sym flags)))
    go (inr (inr less)) rest = absurd (other_flags y ys jy (sym (same y.length) ∙ inside_first x xs y.length less ∙ ap (λ f. Some f) flags))

pub then_ok : {T E : Type 0} (r : Result T E) (P Q : Type 0) → (P → Q) → OnOk r P → OnOk r Q
then_ok (Ok x) P Q f p = f p
then_ok (Err x) P Q f p = tt

pub flags_with_empty : (xs : List Extent) (e : Extent) → e.length ≡ 0 → (p : ℕ) → flags_at xs p ≡ flags_at (xs ++ e ∷ []) p
flags_with_empty xs e l p = let b : true ≡ (e.length == 0) = grind (arith, common_steps) in ap (λ t. flags_at (if t then xs else joining xs e) p) b ∙ flags_with_extent xs e p
