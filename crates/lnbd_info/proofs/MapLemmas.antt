-- Extents and their lines, one after another, and what totals are of a map.
use Rattle.std.proofs.Common.{◌≡◌, ◌∙◌, ℕ, ◌+◌, ◌-◌, ◌<◌, ◌≤◌, zero, suc, List, [], ◌∷◌, ◌++◌, Bool, true, false, Some, ap, arith, append_assoc, drop, get_or, length, refl, sym, take, unwrap_or, ⊎_elim, All}
use Rattle.std.specs.Prelude.{filter, ◌==◌}
use Rattle.std.proofs.lemmas.Bool.{cases_Bool, cases_lt}
use Rattle.std.proofs.lemmas.Bool.Decides.{nat_tests}
use Rattle.std.proofs.lemmas.List.{drop_more, take_more}
use Rattle.lnbd_model.specs.declared.export.Extent.{Extent}
use Rattle.lnbd_keyed.specs.Keyed.{IsAbove, IsRising, value_at}
use Rattle.lnbd_keyed.proofs.KeyedLemmas.{same_map}
use Rattle.lnbd_extents.specs.Lists.{AreJoined, by_flags, flags_at, span, total_at, with_extent}
use Rattle.lnbd_extents.proofs.ListLaws.{flags_at_left, flags_at_right, flags_with_extent, joined_with_extent, span-append, span_with_extent}
use Rattle.lnbd_extents.proofs.TotalLaws.{total_le}
use Rattle.lnbd_info.specs.Map.{AreFilled, AreTotals, IsMapOf, IsPartOf, map_line, map_lines}

-- one extent more
pub span_more : (xs : List Extent) (i : ℕ) (d : Extent) → i < length xs → span (take (i + 1) xs) ≡ span (take i xs) + (get_or xs i d).length
span_more xs i d h =
    let one : span (get_or xs i d ∷ []) ≡ (get_or xs i d).length = omega arith in
    ap span (take_more xs i d h) ∙ span-append (take i xs) (get_or xs i d ∷ []) ∙ ap (λ (n : ℕ). span (take i xs) + n) one

-- what is told behind two lists that tell the same is told alike
flags_behind : (xs ys zs : List Extent) (p : ℕ) → ((q : ℕ) → flags_at xs q ≡ flags_at ys q) → span xs ≡ span ys → flags_at (xs ++ zs) p ≡ flags_at (ys ++ zs) p
flags_behind xs ys zs p same long = ⊎_elim
    (λ low. let under : p < span ys = omega arith in flags_at_left xs zs p low ∙ same p ∙ sym (flags_at_left ys zs p under))
    (λ high.
    let place : p ≡ span xs + (p - span xs) = omega arith in
    let other : span ys + (p - span xs) ≡ p = omega arith in
    ap (flags_at (xs ++ zs)) place ∙ flags_at_right xs zs (p - span xs) ∙ sym (flags_at_right ys zs (p - span xs)) ∙ ap (flags_at (ys ++ zs)) other)
    (cases_lt p (span xs))

pub map_more : (told : List Extent) (i : ℕ) (d : Extent) (map new : List Extent) → i < length told → IsMapOf (take i told) map → new ≡ with_extent map (get_or told i d)
    → IsMapOf (take (i + 1) told) new
map_more told i d map new h held is =
    let e : Extent = get_or told i d in
    let more : take (i + 1) told ≡ take i told ++ e ∷ [] = take_more told i d h in
    let long : span new ≡ span (take i told) + e.length = ap span is ∙ span_with_extent map e ∙ ap (λ (n : ℕ). n + e.length) held.all in
    record {
      flags = λ p. ap (λ xs. flags_at xs p) is ∙ flags_with_extent map e p ∙ flags_behind map (take i told) (e ∷ []) p held.flags held.all ∙ ap (λ xs. flags_at xs p) (sym more);
      all = long ∙ sym (span_more told i d h);
      joined = rw is (joined_with_extent map e held.joined);
    }

-- one line more
pub lines_more : (allocation : Bool) (offset : ℕ) (map : List Extent) (i : ℕ) (d : Extent) (whole text new : List ℕ) → i < length map
    → text ++ map_lines allocation offset (drop i map) ≡ whole → new ≡ text ++ map_line allocation offset (get_or map i d)
    → new ++ map_lines allocation (offset + (get_or map i d).length) (drop (i + 1) map) ≡ whole
lines_more allocation offset map i d whole text new h held pushed =
    let e : Extent = get_or map i d in
    let rest : List ℕ = map_lines allocation (offset + e.length) (drop (i + 1) map) in
    ap (λ (t : List ℕ). t ++ rest) pushed ∙ append_assoc text (map_line allocation offset e) rest
    ∙ ap (λ (t : List ℕ). text ++ t) (ap (map_lines allocation offset) (sym (drop_more map i d h))) ∙ held

-- ---- totals

above : (n : ℕ) (xs : List Extent) (k : ℕ) (d : Extent) → k < length xs → IsAbove n (by_flags xs) → n < (get_or xs k d).flags
above n [] k d h a = absurd (omega arith)
above n (x ∷ xs) zero d h a = a.0
above n (x ∷ xs) (suc k) d h a = above n xs k d (omega arith) a.1

own_value : (xs : List Extent) (k : ℕ) (d : Extent) → k < length xs → IsRising (by_flags xs) → value_at (get_or xs k d).flags (by_flags xs) ≡ Some (get_or xs k d).length
own_value [] k d h r = absurd (omega arith)
own_value (x ∷ xs) zero d h r = let same : (x.flags == x.flags) ≡ true = grind (arith, nat_tests) in rw same refl
own_value (x ∷ xs) (suc k) d h r =
    let past : x.flags < (get_or xs k d).flags = above x.flags xs k d (omega arith) r.0 in
    let other : ((get_or xs k d).flags == x.flags) ≡ false = grind (arith, nat_tests) in
    rw other (own_value xs k d (omega arith) r.1)

total_some : (map : List Extent) (f n : ℕ) → AreFilled map → total_at map f ≡ Some n → 0 < n
total_some [] f n h is = absurd (cc)
total_some (x ∷ xs) f n h is = ⊎_elim
    (λ (same : (x.flags == f) ≡ true).
    let first : 0 < x.length = h.0 in
    let sum = rw same at is in
    let n_is : x.length + span (filter (λ (e : Extent). e.flags == f) xs) ≡ n = cc in
    omega arith)
    (λ (other : (x.flags == f) ≡ false).
    let rest = rw other at is in
    total_some xs f n h.1 rest)
    (cases_Bool (x.flags == f))

pub parts_of_totals : (map totals : List Extent) → AreFilled map → IsRising (by_flags totals) → ((flags : ℕ) → value_at flags (by_flags totals) ≡ total_at map flags)
    → All (IsPartOf (span map)) totals
parts_of_totals map totals filled rising sums k d within =
    let t : Extent = get_or totals k d in
    let is : total_at map t.flags ≡ Some t.length = sym (sums t.flags) ∙ own_value totals k d within rising in
    let most : unwrap_or (total_at map t.flags) 0 ≤ span map = total_le map t.flags in
    let least : 0 < t.length = total_some map t.flags t.length filled is in
    let sum : unwrap_or (total_at map t.flags) 0 ≡ t.length = rw is refl in
    (least, omega arith)

-- ---- joined extents

-- none of them is empty
pub filled : (extents : List Extent) → AreJoined extents → AreFilled extents
filled [] joined = tt
filled (x ∷ xs) joined = (joined.0, filled xs joined.2)

by_flags_once : (xs ys : List Extent) → by_flags xs ≡ by_flags ys → xs ≡ ys
by_flags_once [] [] e = refl
by_flags_once [] (y ∷ ys) e = cc
by_flags_once (x ∷ xs) [] e = cc
by_flags_once (x ∷ xs) (y ∷ ys) e =
    let rest : by_flags xs ≡ by_flags ys = cc in
    let flags : x.flags ≡ y.flags = ap (λ (rows : List (ℕ × ℕ)). (get_or rows 0 (0, 0)).0) e in
    let size : x.length ≡ y.length = ap (λ (rows : List (ℕ × ℕ)). (get_or rows 0 (0, 0)).1) e in
    let same : xs ≡ ys = by_flags_once xs ys rest in
    λ i. record { length = size i; flags = flags i } ∷ same i

-- a map has one list of totals
pub totals_once : (map first second : List Extent) → AreTotals map first → AreTotals map second → first ≡ second
totals_once map first second one two =
    by_flags_once first second (same_map (by_flags first) (by_flags second) one.rising two.rising (λ flags. one.sums flags ∙ sym (two.sums flags)))
