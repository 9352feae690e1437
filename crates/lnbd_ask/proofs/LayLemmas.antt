-- What counts of an answer, and extents that are added to a map one after another.
use Rattle.std.proofs.Common.{◌≡◌, ◌∙◌, ◌<◌, ◌≤◌, ◌+◌, ◌-◌, ◌*◌, ◌/◌, ◌%◌, ℕ, Bool, true, false, List, [], ◌∷◌, ◌++◌, add-mul, ap, append_assoc, append-nil, arith, get_or, if◌then◌else◌, length, min, one-mul, refl, subst, sym, take, ⊎_elim}
use Rattle.std.specs.Prelude.{nat_lt}
use Rattle.std.proofs.lemmas.Bool.{cases_lt}
use Rattle.std.proofs.lemmas.Bool.Decides.{nat_tests}
use Rattle.std.proofs.lemmas.Nat.{div-add-mod', mod_below, mul-le}
use Rattle.lnbd_model.specs.declared.export.Extent.{Extent}
use Rattle.lnbd_extents.specs.Lists.{clipped, flags_at, span, with_extent}
use Rattle.lnbd_extents.proofs.ListLaws.{flags_at_left, flags_at_right, flags_with_extent, joined_with_extent, span-append, span_clipped, span_with_extent}
use Rattle.lnbd_info.specs.Map.{IsMapOf}
use Rattle.lnbd_info.proofs.MapLemmas.{span_more}
use Rattle.lnbd_ask.specs.Maps.{Asked, counting, counting_of, first_flags, reached, told_by}
use Rattle.lnbd_ask.specs.MapSteps.{with_all}

-- ---- Multiples of a block.

pub multiple_of : (r m rem : ℕ) → m + rem ≡ r → r - rem ≡ m
multiple_of r m rem is = omega (arith, is)

-- a multiple that lies below another lies below it by a block at least
pub below_by_one : (block at whole j k : ℕ) → at ≡ j * block → whole ≡ k * block → at < whole → at + block ≤ whole
below_by_one block at whole j k at_is whole_is below = ⊎_elim
    (λ (less : j < k).
    let more : (j + 1) * block ≤ k * block = mul-le (j + 1) block k block (omega (arith, less)) (omega arith) in
    let sum : (j + 1) * block ≡ j * block + block = add-mul j 1 block ∙ ap (λ (n : ℕ). j * block + n) (one-mul block) in
    omega (arith, more, sum, at_is, whole_is))
    (λ (most : k ≤ j).
    let over : k * block ≤ j * block = mul-le k block j block most (omega arith) in
    absurd (omega (arith, over, at_is, whole_is, below)))
    (cases_lt j k)

pub plus_blocks : (at passed j k block : ℕ) → at ≡ j * block → passed ≡ k * block → at + passed ≡ (j + k) * block
plus_blocks at passed j k block one two = ap (λ (n : ℕ). n + passed) one ∙ ap (λ (n : ℕ). j * block + n) two ∙ sym (add-mul j k block)

-- a range that is asked for has at least a block, and lies within the whole blocks
pub record Range (block at whole size : ℕ) : Type 0 where
  pub fits : block ≤ size
  pub inside : at + size ≤ whole

pub range_fits : (block at whole size j n : ℕ) → at ≡ j * block → whole ≡ n * block → at < whole → size ≡ min 134217728 (whole - at) → block ≤ 134217728 → Range block at whole size
range_fits block at whole size j n at_is whole_is below size_is few =
    let room : at + block ≤ whole = below_by_one block at whole j n at_is whole_is below in
    record { fits = omega (arith, room, size_is, few); inside = omega (arith, size_is, below) }

-- ---- What counts.

-- It takes the asking on by some whole blocks, and not past what was asked for.
pub record Passes_on (block length n : ℕ) : Type 0 where
  pub least : block ≤ n
  pub most : n ≤ length
  pub times : (k : ℕ) × (n ≡ k * block)

whole_blocks : (block length r : ℕ) → 0 < block → block ≤ r → r ≤ length → Passes_on block length (r - r % block)
whole_blocks block length r some reach within =
    let rest : r % block < block = mod_below r block some in
    let split : r / block * block + r % block ≡ r = div-add-mod' r block in
    let is : r - r % block ≡ r / block * block = multiple_of r (r / block * block) (r % block) split in
    let least : block ≤ r / block * block = ⊎_elim
    (λ (none : r / block < 1).
    let zero_is : r / block * block ≤ 0 * block = mul-le (r / block) block 0 block (omega (arith, none)) (omega arith) in
    let nothing : 0 * block ≡ 0 = omega arith in
    absurd (omega (arith, zero_is, nothing, split, rest, reach)))
    (λ (one : 1 ≤ r / block).
    let more : 1 * block ≤ r / block * block = mul-le 1 block (r / block) block one (omega arith) in
    let unit : 1 * block ≡ block = one-mul block in
    omega (arith, more, unit))
    (cases_lt (r / block) 1) in
    record { least = omega (arith, least, is); most = omega (arith, within); times = (r / block, is) }

counted_by : (b : Bool) (block length : ℕ) (told : List Extent) → nat_lt (min length (span told)) block ≡ b → 0 < block → block ≤ length
    → Passes_on block length (span (if b then record { length = block; flags = first_flags told } ∷ [] else clipped (min length (span told) - min length (span told) % block) told))
counted_by true block length told is some fits = record { least = omega arith; most = omega (arith, fits); times = (1, omega (arith, one-mul block)) }
counted_by false block length told is some fits =
    let r : ℕ = min length (span told) in
    let reach : block ≤ r = grind (arith, nat_tests) in
    let on : Passes_on block length (r - r % block) = whole_blocks block length r some reach (omega arith) in
    let cut : min (r - r % block) (span told) ≡ r - r % block = omega arith in
    subst (Passes_on block length) (sym (span_clipped (r - r % block) told ∙ cut)) on

pub counts_on : (block length : ℕ) (told : List Extent) → 0 < block → block ≤ length → Passes_on block length (span (counting block length told))
counts_on block length told some fits = counted_by (nat_lt (min length (span told)) block) block length told refl some fits

-- ---- How far extents reach.

pub reach_more : (told : List Extent) (i : ℕ) (d : Extent) (left length' : ℕ) → i < length told → left ≡ length' - span (take i told) → left - (get_or told i d).length ≡ length' - span (take (i + 1) told)
reach_more told i d left length' h is = omega (arith, is, span_more told i d h)

span_by : (b : Bool) (block length' r : ℕ) (told : List Extent) → nat_lt (min length' (span told)) block ≡ b → r ≡ min length' (span told) → block ≤ r
    → r - r % block ≡ span (if b then record { length = block; flags = first_flags told } ∷ [] else clipped (min length' (span told) - min length' (span told) % block) told)
span_by true block length' r told is r_is reach =
    let less : min length' (span told) < block = grind (arith, nat_tests) in
    absurd (omega (arith, less, r_is, reach))
span_by false block length' r told is r_is reach =
    let m : ℕ = min length' (span told) in
    let cut : min (m - m % block) (span told) ≡ m - m % block = omega arith in
    ap (λ (n : ℕ). n - n % block) r_is ∙ (sym cut ∙ sym (span_clipped (m - m % block) told))

pub span_counted : (block length' r : ℕ) (told : List Extent) → r ≡ reached length' told → block ≤ r → r - r % block ≡ span (counting block length' told)
span_counted block length' r told r_is reach = span_by (nat_lt (min length' (span told)) block) block length' r told refl r_is reach

pub span_with_all : (map extents : List Extent) → span (with_all map extents) ≡ span map + span extents
span_with_all map [] = omega arith
span_with_all map (extent ∷ extents) = omega (arith, span_with_all (with_extent map extent) extents, span_with_extent map extent)

-- ---- Extents that are added.

-- what is told behind two lists that tell the same is told alike
flags_behind : (xs ys zs : List Extent) (p : ℕ) → ((q : ℕ) → flags_at xs q ≡ flags_at ys q) → span xs ≡ span ys → flags_at (xs ++ zs) p ≡ flags_at (ys ++ zs) p
flags_behind xs ys zs p same long = ⊎_elim
    (λ low. let under : p < span ys = omega (arith, low, long) in flags_at_left xs zs p low ∙ same p ∙ sym (flags_at_left ys zs p under))
    (λ high.
    let place : p ≡ span xs + (p - span xs) = omega (arith, high) in
    let other : span ys + (p - span xs) ≡ p = omega (arith, high, long) in
    ap (flags_at (xs ++ zs)) place ∙ flags_at_right xs zs (p - span xs) ∙ sym (flags_at_right ys zs (p - span xs)) ∙ ap (flags_at (ys ++ zs)) other)
    (cases_lt p (span xs))

pub map_with : (told map : List Extent) (extent : Extent) → IsMapOf told map → IsMapOf (told ++ extent ∷ []) (with_extent map extent)
map_with told map extent held =
    let one : span (extent ∷ []) ≡ extent.length = omega arith in
    record {
      flags = λ p. flags_with_extent map extent p ∙ flags_behind map told (extent ∷ []) p held.flags held.all;
      all = span_with_extent map extent ∙ ap (λ (n : ℕ). n + extent.length) held.all ∙ ap (λ (n : ℕ). span told + n) (sym one) ∙ sym (span-append told (extent ∷ []));
      joined = joined_with_extent map extent held.joined;
    }

pub map_with_all : (told map extents : List Extent) → IsMapOf told map → IsMapOf (told ++ extents) (with_all map extents)
map_with_all told map [] held = subst (λ (l : List Extent). IsMapOf l map) (sym (append-nil told)) held
map_with_all told map (extent ∷ extents) held =
    subst (λ (l : List Extent). IsMapOf l (with_all (with_extent map extent) extents)) (append_assoc told (extent ∷ []) extents)
    (map_with_all (told ++ extent ∷ []) (with_extent map extent) extents (map_with told map extent held))

pub map_none : IsMapOf [] []
map_none = record { flags = λ p. refl; all = refl; joined = tt }

pub told_by_more : (block : ℕ) (all : List Asked) (asked : Asked) → told_by block (all ++ asked ∷ []) ≡ told_by block all ++ counting_of block asked
told_by_more block [] asked = append-nil (counting_of block asked)
told_by_more block (one ∷ all) asked = ap (λ (l : List Extent). counting_of block one ++ l) (told_by_more block all asked) ∙ sym (append_assoc (counting_of block one) (told_by block all) (counting_of block asked))
