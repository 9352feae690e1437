-- An export stays one, byte by byte.
use Rattle.std.proofs.Common.{◌≡◌, ℕ, zero, suc, ◌+◌, ◌-◌, ◌<◌, ◌≤◌, Bool, true, false, not, ◌&&◌, ◌||◌, cond, List, ◌∷◌, ◌++◌, length, take, drop, replicate, get_or, refl, ap, sym, subst, ◌∙◌, arith, nat_lt, nat_le, inl, inr, length-append, length-drop, length-take}
use Rattle.std.proofs.lemmas.List.{get_or_append_left, get_or-append_right, get_or-take, get_or-drop, get_or-replicate, length-replicate, take-append-drop}
use Rattle.std.proofs.lemmas.Bool.{ltb-true, ltb-false, cases_lt}
use Rattle.std.proofs.lemmas.Bool.Decides.{nat_tests}
use Rattle.lnbd_extents.specs.Positions.{within}
use Rattle.lnbd_export.specs.Export.{Export, AreZeros, TellsTruly, flags, put, written, zeroed}

pub length-put : {A : Type 0} (at : ℕ) (new old : List A) → at + length new ≤ length old → length (put at new old) ≡ length old
length-put at new old fits = omega (arith, length-append (take at old) (new ++ drop (at + length new) old), length-append new (drop (at + length new) old), length-take at old, length-drop (at + length new) old)

pub put_below : {A : Type 0} (at : ℕ) (new old : List A) (i : ℕ) (d : A) → at + length new ≤ length old → i < at → get_or (put at new old) i d ≡ get_or old i d
put_below at new old i d fits below =
    get_or_append_left (take at old) (new ++ drop (at + length new) old) d i (omega (arith, length-take at old)) ∙ get_or-take at old i d below

pub put_in : {A : Type 0} (at : ℕ) (new old : List A) (i : ℕ) (d : A) → at + length new ≤ length old → at ≤ i → i < at + length new → get_or (put at new old) i d ≡ get_or new (i - at) d
put_in at new old i d fits low high =
    get_or-append_right (take at old) (new ++ drop (at + length new) old) at i d (omega (arith, length-take at old)) low
    ∙ get_or_append_left new (drop (at + length new) old) d (i - at) (omega arith)

pub put_above : {A : Type 0} (at : ℕ) (new old : List A) (i : ℕ) (d : A) → at + length new ≤ length old → at + length new ≤ i → get_or (put at new old) i d ≡ get_or old i d
put_above at new old i d fits high =
    get_or-append_right (take at old) (new ++ drop (at + length new) old) at i d (omega (arith, length-take at old)) (omega arith)
    ∙ get_or-append_right new (drop (at + length new) old) (length new) (i - at) d refl (omega arith)
    ∙ get_or-drop (at + length new) old ((i - at) - length new) d
    ∙ (let e : (at + length new) + ((i - at) - length new) ≡ i = omega arith in ap (λ k. get_or old k d) e)

-- one place, by the test
pub put_at : {A : Type 0} (at : ℕ) (new old : List A) (i : ℕ) (d : A) → at + length new ≤ length old →
    get_or (put at new old) i d ≡ cond (within (at, length new) i) (get_or new (i - at) d) (get_or old i d)
put_at at new old i d fits = go (nat_le at i) (nat_lt i (at + length new)) refl refl
  where
    go : (low high : Bool) → nat_le at i ≡ low → nat_lt i (at + length new) ≡ high →
        get_or (put at new old) i d ≡ cond (low && high) (get_or new (i - at) d) (get_or old i d)
    go true true l h = put_in at new old i d fits (grind (arith, nat_tests)) (ltb-true i (at + length new) h)
    go true false l h = put_above at new old i d fits (ltb-false i (at + length new) h)
    go false true l h = put_below at new old i d fits (grind (arith, nat_tests))
    go false false l h = put_below at new old i d fits (grind (arith, nat_tests))

-- what is told as zero stays zero

pub kept_written : (offset : ℕ) (payload bytes bytes' : List ℕ) (zeros zeros' : ℕ → Bool) → AreZeros bytes zeros → offset + length payload ≤ length bytes →
    bytes' ≡ put offset payload bytes → ((p : ℕ) → zeros' p ≡ not (within (offset, length payload) p) && zeros p) → AreZeros bytes' zeros'
kept_written offset payload bytes bytes' zeros zeros' are fits e held p told = ap (λ (xs : List ℕ). get_or xs p 1) e ∙ put_at offset payload bytes p 1 fits ∙ go (within (offset, length payload) p) refl
  where
    go : (b : Bool) → within (offset, length payload) p ≡ b → cond b (get_or payload (p - offset) 1) (get_or bytes p 1) ≡ 0
    go true w = let no : false ≡ true = sym (ap (λ b. not b && zeros p) w) ∙ sym (held p) ∙ told in cc
    go false w = are p (sym (ap (λ b. not b && zeros p) w) ∙ sym (held p) ∙ told)

within_less : (offset n p : ℕ) → within (offset, n) p ≡ true → p - offset < n
within_less offset n p e = go (nat_le offset p) (nat_lt p (offset + n)) refl refl e
  where
    go : (low high : Bool) → nat_le offset p ≡ low → nat_lt p (offset + n) ≡ high → low && high ≡ true → p - offset < n
    go true true l h e = let less = ltb-true p (offset + n) h in let more : offset ≤ p = grind (arith, nat_tests) in omega arith
    go true false l h e = cc
    go false high l h e = cc

pub kept_zeroed : (offset n : ℕ) (bytes bytes' : List ℕ) (zeros zeros' : ℕ → Bool) → AreZeros bytes zeros → offset + n ≤ length bytes →
    bytes' ≡ put offset (replicate n 0) bytes → ((p : ℕ) → zeros' p ≡ within (offset, n) p || zeros p) → AreZeros bytes' zeros'
kept_zeroed offset n bytes bytes' zeros zeros' are fits e held p told =
    let size : length (replicate {A = ℕ} n 0) ≡ n = length-replicate n 0 in
    ap (λ (xs : List ℕ). get_or xs p 1) e ∙ put_at offset (replicate n 0) bytes p 1 (omega arith)
    ∙ ap (λ (k : ℕ). cond (within (offset, k) p) (get_or (replicate n 0) (p - offset) 1) (get_or bytes p 1)) size ∙ go (within (offset, n) p) refl
  where
    go : (b : Bool) → within (offset, n) p ≡ b → cond b (get_or (replicate n 0) (p - offset) 1) (get_or bytes p 1) ≡ 0
    go true w = get_or-replicate n (p - offset) 0 1 (within_less offset n p w)
    go false w = are p (sym (ap (λ b. b || zeros p) w) ∙ sym (held p) ∙ told)

-- flags of positions

pub flags_same : (told other : ℕ → Bool) (start n : ℕ) → ((p : ℕ) → start ≤ p → p < start + n → told p ≡ other p) → flags told start n ≡ flags other start n
flags_same told other start zero same = refl
flags_same told other start (suc n) same =
    ap (λ b. b ∷ flags told (start + 1) n) (same start (omega arith) (omega arith))
    ∙ ap (λ bs. other start ∷ bs) (flags_same told other (start + 1) n (λ p low high. same p (omega arith) (omega arith)))

pub flags_all : (told : ℕ → Bool) (b : Bool) (start n : ℕ) → ((p : ℕ) → start ≤ p → p < start + n → told p ≡ b) → flags told start n ≡ replicate n b
flags_all told b start zero all = refl
flags_all told b start (suc n) all =
    ap (λ x. x ∷ flags told (start + 1) n) (all start (omega arith) (omega arith))
    ∙ ap (λ bs. b ∷ bs) (flags_all told b (start + 1) n (λ p low high. all p (omega arith) (omega arith)))

pub length-flags : (told : ℕ → Bool) (start n : ℕ) → length (flags told start n) ≡ n
length-flags told start zero = refl
length-flags told start (suc n) = ap (λ (k : ℕ). suc k) (length-flags told (start + 1) n)

pub flags_front : (told : ℕ → Bool) (start a n : ℕ) → a ≤ n → take a (flags told start n) ≡ flags told start a
flags_front told start zero n le = refl
flags_front told start (suc a) zero le = absurd (omega arith)
flags_front told start (suc a) (suc n) le = ap (λ bs. told start ∷ bs) (flags_front told (start + 1) a n (omega arith))

pub flags_rest : (told : ℕ → Bool) (start a n : ℕ) → a ≤ n → drop a (flags told start n) ≡ flags told (start + a) (n - a)
flags_rest told start zero n le =
    let here : start + 0 ≡ start = omega arith in
    let all : n - 0 ≡ n = omega arith in
    sym (ap (λ s. flags told s (n - 0)) here ∙ ap (flags told start) all)
flags_rest told start (suc a) zero le = absurd (omega arith)
flags_rest told start (suc a) (suc n) le =
    let here : start + 1 + a ≡ start + suc a = omega arith in
    let size : n - a ≡ suc n - suc a = omega arith in
    flags_rest told (start + 1) a n (omega arith) ∙ ap (λ s. flags told s (n - a)) here ∙ ap (flags told (start + suc a)) size

pub flags_part : (told : ℕ → Bool) (offset n all : ℕ) → offset + n ≤ all → take n (drop offset (flags told 0 all)) ≡ flags told offset n
flags_part told offset n all fits =
    let here : 0 + offset ≡ offset = omega arith in
    ap (take n) (flags_rest told 0 offset all (omega arith)) ∙ flags_front told (0 + offset) n (all - offset) (omega arith) ∙ ap (λ s. flags told s n) here

flags_joined : (told : ℕ → Bool) (start a n : ℕ) → a ≤ n → flags told start n ≡ flags told start a ++ flags told (start + a) (n - a)
flags_joined told start a n le =
    sym (take-append-drop a (flags told start n)) ∙ ap (λ bs. bs ++ drop a (flags told start n)) (flags_front told start a n le) ∙ ap (λ bs. flags told start a ++ bs) (flags_rest told start a n le)

-- one span of the flags changes
pub flags_put : (told before : ℕ → Bool) (b : Bool) (offset n all : ℕ) → offset + n ≤ all → ((p : ℕ) → offset ≤ p → p < offset + n → told p ≡ b) →
    ((p : ℕ) → p < offset → told p ≡ before p) → ((p : ℕ) → offset + n ≤ p → told p ≡ before p) → flags told 0 all ≡ put offset (replicate n b) (flags before 0 all)
flags_put told before b offset n all fits inside below above =
    let here : 0 + offset ≡ offset = omega arith in
    let there : 0 + (offset + n) ≡ offset + n = omega arith in
    let size : length (replicate n b) ≡ n = length-replicate n b in
    let left : all - offset - n ≡ all - (offset + n) = omega arith in
    let first : flags told 0 offset ≡ take offset (flags before 0 all) = flags_same told before 0 offset (λ p low high. below p (omega arith)) ∙ sym (flags_front before 0 offset all (omega arith)) in
    let middle : flags told offset n ≡ replicate n b = flags_all told b offset n inside in
    let last : flags told (offset + n) (all - offset - n) ≡ drop (offset + length (replicate n b)) (flags before 0 all) =
    ap (flags told (offset + n)) left ∙ flags_same told before (offset + n) (all - (offset + n)) (λ p low high. above p low)
    ∙ sym (ap (λ k. drop (offset + k) (flags before 0 all)) size ∙ flags_rest before 0 (offset + n) all fits ∙ ap (λ s. flags before s (all - (offset + n))) there) in
    flags_joined told 0 offset all (omega arith)
    ∙ ap (λ s. flags told 0 offset ++ flags told s (all - offset)) here
    ∙ ap (λ bs. flags told 0 offset ++ bs) (flags_joined told offset n (all - offset) (omega arith))
    ∙ ap (λ bs. bs ++ (flags told offset n ++ flags told (offset + n) (all - offset - n))) first
    ∙ ap (λ bs. take offset (flags before 0 all) ++ (bs ++ flags told (offset + n) (all - offset - n))) middle
    ∙ ap (λ bs. take offset (flags before 0 all) ++ (replicate n b ++ bs)) last

within_in : (offset n p : ℕ) → offset ≤ p → p < offset + n → within (offset, n) p ≡ true
within_in offset n p low high = grind (arith, nat_tests)

within_below : (offset n p : ℕ) → p < offset → within (offset, n) p ≡ false
within_below offset n p low = grind (arith, nat_tests)

within_above : (offset n p : ℕ) → offset + n ≤ p → within (offset, n) p ≡ false
within_above offset n p high = grind (arith, nat_tests)

pub released : (told before : ℕ → Bool) (offset n all : ℕ) → offset + n ≤ all → ((p : ℕ) → told p ≡ not (within (offset, n) p) && before p) → flags told 0 all ≡ put offset (replicate n false) (flags before 0 all)
released told before offset n all fits held = flags_put told before false offset n all fits
    (λ p low high. held p ∙ ap (λ b. not b && before p) (within_in offset n p low high))
    (λ p low. held p ∙ ap (λ b. not b && before p) (within_below offset n p low))
    (λ p high. held p ∙ ap (λ b. not b && before p) (within_above offset n p high))

pub held_now : (told before : ℕ → Bool) (offset n all : ℕ) → offset + n ≤ all → ((p : ℕ) → told p ≡ within (offset, n) p || before p) → flags told 0 all ≡ put offset (replicate n true) (flags before 0 all)
held_now told before offset n all fits held = flags_put told before true offset n all fits
    (λ p low high. held p ∙ ap (λ b. b || before p) (within_in offset n p low high))
    (λ p low. held p ∙ ap (λ b. b || before p) (within_below offset n p low))
    (λ p high. held p ∙ ap (λ b. b || before p) (within_above offset n p high))

-- one flag

pub get_or-flags : (told : ℕ → Bool) (start n i : ℕ) → i < n → get_or (flags told start n) i false ≡ told (start + i)
get_or-flags told start zero i less = absurd (omega arith)
get_or-flags told start (suc n) zero less = let here : start ≡ start + 0 = omega arith in ap told here
get_or-flags told start (suc n) (suc i) less = let here : start + 1 + i ≡ start + suc i = omega arith in get_or-flags told (start + 1) n i (omega arith) ∙ ap told here

get_or-flags_past : (told : ℕ → Bool) (start n i : ℕ) → n ≤ i → get_or (flags told start n) i false ≡ false
get_or-flags_past told start zero i le = refl
get_or-flags_past told start (suc n) zero le = absurd (omega arith)
get_or-flags_past told start (suc n) (suc i) le = get_or-flags_past told (start + 1) n i (omega arith)

pub tells_truly : (name description bytes : List ℕ) (told : ℕ → Bool) (read_only : Bool) (export : Export) → AreZeros bytes told →
    record { name = name; description = description; bytes = bytes; zeros = flags told 0 (length bytes); read_only = read_only } ≡ export → TellsTruly export
tells_truly name description bytes told read_only export are seen = subst TellsTruly seen (record {
  each = length-flags told 0 (length bytes);
  truly = λ p e. elim (cases_lt p (length bytes)) [
    | inl h ↦ let here : 0 + p ≡ p = omega arith in are p (sym (get_or-flags told 0 (length bytes) p h ∙ ap told here) ∙ e)
    | inr h ↦ let no : false ≡ true = sym (get_or-flags_past told 0 (length bytes) p h) ∙ e in cc
  ];
})

-- as contracts see it

pub seen_written : (before : Export) (offset : ℕ) (payload bytes bytes' : List ℕ) (told told' : ℕ → Bool) (name description : List ℕ) (read_only : Bool) →
    record { name = name; description = description; bytes = bytes; zeros = flags told 0 (length bytes); read_only = read_only } ≡ before →
    offset + length payload ≤ length bytes → bytes' ≡ put offset payload bytes → ((p : ℕ) → told' p ≡ not (within (offset, length payload) p) && told p) →
    record { name = name; description = description; bytes = bytes'; zeros = flags told' 0 (length bytes'); read_only = read_only } ≡ written offset payload before
seen_written before offset payload bytes bytes' told told' name description read_only seen fits e held =
    let size : length bytes' ≡ length bytes = ap length e ∙ length-put offset payload bytes fits in
    let z : flags told' 0 (length bytes') ≡ put offset (replicate (length payload) false) (flags told 0 (length bytes)) =
    ap (flags told' 0) size ∙ released told' told offset (length payload) (length bytes) fits held in
    ap (λ (xs : List ℕ). record { name = name; description = description; bytes = xs; zeros = flags told' 0 (length bytes'); read_only = read_only }) e
    ∙ ap (λ (bs : List Bool). record { name = name; description = description; bytes = put offset payload bytes; zeros = bs; read_only = read_only }) z
    ∙ ap (written offset payload) seen

pub seen_zeroed : (before : Export) (offset n : ℕ) (bytes bytes' : List ℕ) (told told' : ℕ → Bool) (name description : List ℕ) (read_only : Bool) →
    record { name = name; description = description; bytes = bytes; zeros = flags told 0 (length bytes); read_only = read_only } ≡ before →
    offset + n ≤ length bytes → bytes' ≡ put offset (replicate n 0) bytes → ((p : ℕ) → told' p ≡ within (offset, n) p || told p) →
    record { name = name; description = description; bytes = bytes'; zeros = flags told' 0 (length bytes'); read_only = read_only } ≡ zeroed offset n before
seen_zeroed before offset n bytes bytes' told told' name description read_only seen fits e held =
    let all : length (replicate {A = ℕ} n 0) ≡ n = length-replicate n 0 in
    let size : length bytes' ≡ length bytes = ap length e ∙ length-put offset (replicate n 0) bytes (omega arith) in
    let z : flags told' 0 (length bytes') ≡ put offset (replicate n true) (flags told 0 (length bytes)) =
    ap (flags told' 0) size ∙ held_now told' told offset n (length bytes) fits held in
    ap (λ (xs : List ℕ). record { name = name; description = description; bytes = xs; zeros = flags told' 0 (length bytes'); read_only = read_only }) e
    ∙ ap (λ (bs : List Bool). record { name = name; description = description; bytes = put offset (replicate n 0) bytes; zeros = bs; read_only = read_only }) z
    ∙ ap (zeroed offset n) seen

-- where what is told stays, so does the export

pub same_zeros : (bytes : List ℕ) (told told' : ℕ → Bool) → AreZeros bytes told → ((p : ℕ) → told' p ≡ told p) → AreZeros bytes told'
same_zeros bytes told told' are same p e = are p (sym (same p) ∙ e)

pub seen_same : (before : Export) (bytes : List ℕ) (told told' : ℕ → Bool) (name description : List ℕ) (read_only : Bool) →
    record { name = name; description = description; bytes = bytes; zeros = flags told 0 (length bytes); read_only = read_only } ≡ before →
    ((p : ℕ) → told' p ≡ told p) → record { name = name; description = description; bytes = bytes; zeros = flags told' 0 (length bytes); read_only = read_only } ≡ before
seen_same before bytes told told' name description read_only seen same =
    ap (λ (bs : List Bool). record { name = name; description = description; bytes = bytes; zeros = bs; read_only = read_only }) (flags_same told' told 0 (length bytes) (λ p low high. same p)) ∙ seen
