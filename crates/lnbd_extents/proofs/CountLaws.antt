-- How many ranges pages have, and where the range of a number lies.
use Rattle.std.proofs.Common.{◌≡◌, ℕ, zero, suc, ◌+◌, ◌*◌, ◌<◌, ◌≤◌, List, [], ◌∷◌, ◌++◌, refl, ap, sym, subst, ◌∙◌, arith, length, get_or, ◌⊎◌, inl, inr, take, add-one}
use Rattle.std.proofs.lemmas.List.{get_or_append_left, get_or-append-add, get_or_default, length-append}
use Rattle.lnbd_extents.specs.Ranges.{IsFrom, AreUpTo, taking_away}
use Rattle.lnbd_extents.specs.Pages.{page_size, ranges_of, AreFilled, AreFull, page_at}
use Rattle.lnbd_extents.proofs.PageLaws.{filled_at, page_up_to}
use Rattle.lnbd_extents.proofs.CutLaws.{left_more}

-- each range has a position, so there are no more of them than positions
pub count_le : (m s : ℕ) (rs : List (ℕ × ℕ)) → IsFrom m rs → AreUpTo s rs → (length rs ≡ 0) ⊎ (m + length rs ≤ s)
count_le m s [] f u = inl refl
count_le m s (r ∷ rs) f u =
    let low = f.0 in
    let some = f.1 in
    let end = u.0 in
    elim (count_le (r.0 + r.1 + 1) s rs f.2 u.1) [ inl e ↦ inr (omega arith) | inr h ↦ inr (omega arith) ]

pub count_bound : (s : ℕ) (rs : List (ℕ × ℕ)) → IsFrom 0 rs → AreUpTo s rs → length rs ≤ s
count_bound s rs f u = elim (count_le 0 s rs f u) [ inl e ↦ omega arith | inr h ↦ omega arith ]

pub take_page : (i : ℕ) (pages : List (List (ℕ × ℕ))) → i < length pages → length (ranges_of (take (suc i) pages)) ≡ length (ranges_of (take i pages)) + length (page_at pages i)
take_page i [] l = absurd (omega arith)
take_page zero (p ∷ ps) l = length-append p [] ∙ omega arith
take_page (suc i) (p ∷ ps) l =
    let h = take_page i ps (omega arith) in
    let a = length-append p (ranges_of (take (suc i) ps)) in
    let b = length-append p (ranges_of (take i ps)) in
    omega arith

pub take_le : (i : ℕ) (pages : List (List (ℕ × ℕ))) → length (ranges_of (take i pages)) ≤ length (ranges_of pages)
take_le zero pages = omega arith
take_le (suc i) [] = omega arith
take_le (suc i) (p ∷ ps) =
    let h = take_le i ps in
    let a = length-append p (ranges_of (take i ps)) in
    let b = length-append p (ranges_of ps) in
    omega arith

pub take_whole : (i : ℕ) (pages : List (List (ℕ × ℕ))) → length pages ≤ i → length (ranges_of (take i pages)) ≡ length (ranges_of pages)
take_whole zero [] l = refl
take_whole (suc i) [] l = refl
take_whole zero (p ∷ ps) l = absurd (omega arith)
take_whole (suc i) (p ∷ ps) l =
    let h = take_whole i ps (omega arith) in
    let a = length-append p (ranges_of (take i ps)) in
    let b = length-append p (ranges_of ps) in
    omega arith

pub range_in : (i j : ℕ) (d : ℕ × ℕ) (pages : List (List (ℕ × ℕ))) → i < length pages → j < length (page_at pages i) →
    get_or (page_at pages i) j d ≡ get_or (ranges_of pages) (length (ranges_of (take i pages)) + j) d
range_in i j d [] l k = absurd (omega arith)
range_in zero j d (p ∷ ps) l k = let same : j ≡ 0 + j = omega arith in sym (get_or_append_left p (ranges_of ps) d j k) ∙ ap (λ n. get_or (p ++ ranges_of ps) n d) same
range_in (suc i) j d (p ∷ ps) l k =
    let h : get_or (page_at ps i) j d ≡ get_or (ranges_of ps) (length (ranges_of (take i ps)) + j) d = range_in i j d ps (omega arith) k in
    let a = length-append p (ranges_of (take i ps)) in
    h ∙ sym (get_or-append-add p (ranges_of ps) (length (ranges_of (take i ps)) + j) d) ∙ ap (λ n. get_or (p ++ ranges_of ps) n d) (omega arith)

pub page_le : (i : ℕ) (pages : List (List (ℕ × ℕ))) → i < length pages → length (ranges_of (take i pages)) + length (page_at pages i) ≤ length (ranges_of pages)
page_le i pages l = let h = take_page i pages l in let k = take_le (suc i) pages in omega arith

-- full pages

pub full_within : (n : ℕ) (pages : List (List (ℕ × ℕ))) → AreFull n pages → n ≤ length pages
full_within zero pages f = omega arith
full_within (suc n) [] f = absurd f
full_within (suc n) (p ∷ ps) f = let h = full_within n ps f.1 in omega arith

pub full_less : (n k : ℕ) (pages : List (List (ℕ × ℕ))) → AreFull n pages → k ≤ n → AreFull k pages
full_less n zero pages f l = tt
full_less zero (suc k) pages f l = absurd (omega arith)
full_less (suc n) (suc k) [] f l = f
full_less (suc n) (suc k) (p ∷ ps) f l = (f.0, full_less n k ps f.1 (omega arith))

pub full_at : (n k : ℕ) (pages : List (List (ℕ × ℕ))) → AreFull n pages → k < n → length (page_at pages k) ≡ page_size
full_at zero k pages f l = absurd (omega arith)
full_at (suc n) k [] f l = absurd f
full_at (suc n) zero (p ∷ ps) f l = f.0
full_at (suc n) (suc k) (p ∷ ps) f l = full_at n k ps f.1 (omega arith)

pub full_more : (n : ℕ) (pages : List (List (ℕ × ℕ))) → AreFull n pages → n < length pages → length (page_at pages n) ≡ page_size → AreFull (suc n) pages
full_more n [] f l e = absurd (omega arith)
full_more zero (p ∷ ps) f l e = (e, tt)
full_more (suc n) (p ∷ ps) f l e = (f.0, full_more n ps f.1 (omega arith) e)

pub full_length : (n k : ℕ) (pages : List (List (ℕ × ℕ))) → AreFull n pages → k ≤ n → length (ranges_of (take k pages)) ≡ k * page_size
full_length n zero pages f l = omega arith
full_length zero (suc k) pages f l = absurd (omega arith)
full_length (suc n) (suc k) [] f l = absurd f
full_length (suc n) (suc k) (p ∷ ps) f l =
    let h = full_length n k ps f.1 (omega arith) in
    let a = length-append p (ranges_of (take k ps)) in
    let b = f.0 in
    omega arith

full_taken : (n k : ℕ) (pages : List (List (ℕ × ℕ))) → AreFull n pages → n ≤ k → AreFull n (take k pages)
full_taken zero k pages f l = tt
full_taken (suc n) k [] f l = absurd f
full_taken (suc n) zero (p ∷ ps) f l = absurd (omega arith)
full_taken (suc n) (suc k) (p ∷ ps) f l = (f.0, full_taken n k ps f.1 (omega arith))

full_untaken : (n k : ℕ) (pages : List (List (ℕ × ℕ))) → AreFull n (take k pages) → AreFull n pages
full_untaken zero k pages f = tt
full_untaken (suc n) zero pages f = absurd f
full_untaken (suc n) (suc k) [] f = f
full_untaken (suc n) (suc k) (p ∷ ps) f = (f.0, full_untaken n k ps f.1)

-- pages in front of a change stay full
pub full_front : (n k : ℕ) (old new : List (List (ℕ × ℕ))) → take k new ≡ take k old → n ≤ k → AreFull n old → AreFull n new
full_front n k old new e l f = full_untaken n k new (subst (AreFull n) (sym e) (full_taken n k old f l))

-- the same of a page that was read

read_is : (i : ℕ) (p : List (ℕ × ℕ)) (pages : List (List (ℕ × ℕ))) → i < length pages → p ≡ get_or pages i p → p ≡ page_at pages i
read_is i p pages l e = e ∙ get_or_default pages i p [] l

pub filled_read : (i : ℕ) (p : List (ℕ × ℕ)) (pages : List (List (ℕ × ℕ))) → AreFilled pages → i < length pages → p ≡ get_or pages i p → 0 < length p
filled_read i p pages h l e = subst (λ (q : List (ℕ × ℕ)). 0 < length q) (sym (read_is i p pages l e)) (filled_at i pages h l)

pub take_read : (i : ℕ) (p : List (ℕ × ℕ)) (pages : List (List (ℕ × ℕ))) → i < length pages → p ≡ get_or pages i p → length (ranges_of (take (i + 1) pages)) ≡ length (ranges_of (take i pages)) + length p
take_read i p pages l e = rw add-one (take_page i pages l ∙ ap (λ (q : List (ℕ × ℕ)). length (ranges_of (take i pages)) + length q) (sym (read_is i p pages l e)))

pub read_le : (i : ℕ) (p : List (ℕ × ℕ)) (pages : List (List (ℕ × ℕ))) → i < length pages → p ≡ get_or pages i p → length (ranges_of (take i pages)) + length p ≤ length (ranges_of pages)
read_le i p pages l e = let h = take_read i p pages l e in let k = take_le (i + 1) pages in omega arith

pub full_le : (n k : ℕ) (pages : List (List (ℕ × ℕ))) → AreFull n pages → k ≤ n → k * page_size ≤ length (ranges_of pages)
full_le n k pages f l = let h = full_length n k pages f l in let j = take_le k pages in omega arith

pub up_to_read : (m i : ℕ) (p : List (ℕ × ℕ)) (pages : List (List (ℕ × ℕ))) → i < length pages → AreUpTo m (ranges_of pages) → p ≡ get_or pages i p → AreUpTo m p
up_to_read m i p pages l u e = subst (AreUpTo m) (sym (read_is i p pages l e)) (page_up_to m i pages l u)

pub left_read : (s e : ℕ) (pages kept new : List (List (ℕ × ℕ))) (i : ℕ) (p : List (ℕ × ℕ)) → i < length pages → ranges_of kept ≡ taking_away s e (ranges_of (take i pages)) → p ≡ get_or pages i p →
    ranges_of new ≡ ranges_of kept ++ taking_away s e p → ranges_of new ≡ taking_away s e (ranges_of (take (i + 1) pages))
left_read s e pages kept new i p l so_far is more = left_more s e pages kept new i l so_far (more ∙ ap (λ (q : List (ℕ × ℕ)). ranges_of kept ++ taking_away s e q) (read_is i p pages l is))
