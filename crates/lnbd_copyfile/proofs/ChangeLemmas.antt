-- Bytes that are put in a file are a change of it.
use Rattle.std.proofs.Common.{◌≡◌, ℕ, ◌+◌, ◌-◌, ◌<◌, ◌≤◌, ◌==◌, true, false, List, ◌++◌, length, take, drop, replicate, get_or, refl, ap, sym, subst, ◌∙◌, arith, length-append, length-drop, inl, inr}
use Rattle.std.proofs.lemmas.Grind.{common_steps}
use Rattle.std.proofs.lemmas.Bool.{cases_lt}
use Rattle.std.proofs.lemmas.Bool.Decides.{nat_tests}
use Rattle.std.proofs.lemmas.List.{get_or-drop, get_or-replicate, get_or-take, length-replicate, replicate-append-replicate, take-replicate}
use Rattle.std.proofs.Math.ListN.{get_or-append}
use Rattle.std.proofs.Math.Seq.{get_or-append_right}
use Rattle.lnbd_model.specs.declared.kind.Kind.TheVariants.{Write, Zero}
use Rattle.lnbd_extents.specs.Positions.{within}
use Rattle.lnbd_board.specs.Pieces.{write_at}
use Rattle.lnbd_onesided.specs.Honest.{Makes}
use Rattle.lnbd_store.specs.Bytes.{cut_to, put_at}
use Rattle.lnbd_touched.specs.Parts.{Puts}
use Rattle.lnbd_touched.proofs.PartLemmas.{puts_then, size_of, size_of_cut}
use Rattle.lnbd_copyfile.specs.Making.{MakesInside, zero_at}

-- The positions of what is put.
module _ (at : ℕ) (bytes old : List ℕ) (fits : at + length bytes ≤ length old) where
  front : at ≤ length old
  front = omega (arith, fits)

  put_length : length (put_at at bytes old) ≡ length old
  put_length =
      let n = length-append (cut_to at old) (bytes ++ drop (at + length bytes) old) in
      let k = length-append bytes (drop (at + length bytes) old) in
      let m = size_of_cut at old in
      let d = length-drop (at + length bytes) old in
      omega (arith, n, k, m, d, fits)

  put_before : (p : ℕ) → p < at → get_or (put_at at bytes old) p 0 ≡ get_or old p 0
  put_before p l =
      let cut = cut_to at old in
      let size = size_of_cut at old in
      let taken = size_of at old front in
      get_or-append cut (bytes ++ drop (at + length bytes) old) 0 p (omega (arith, size, l))
      ∙ get_or-append (take at old) (replicate (at - length old) 0) 0 p (omega (arith, taken, l)) ∙ get_or-take at old p 0 l

  -- behind the cut
  put_past : (p : ℕ) → at ≤ p → get_or (put_at at bytes old) p 0 ≡ get_or (bytes ++ drop (at + length bytes) old) (p - at) 0
  put_past p l =
      let cut = cut_to at old in
      let size = size_of_cut at old in
      get_or-append_right cut (bytes ++ drop (at + length bytes) old) p 0 (omega (arith, size, l)) ∙ ap (λ (k : ℕ). get_or (bytes ++ drop (at + length bytes) old) (p - k) 0) size

  put_inside : (p : ℕ) → at ≤ p → p < at + length bytes → get_or (put_at at bytes old) p 0 ≡ get_or bytes (p - at) 0
  put_inside p l h = put_past p l ∙ get_or-append bytes (drop (at + length bytes) old) 0 (p - at) (omega (arith, l, h))

  put_behind : (p : ℕ) → at + length bytes ≤ p → get_or (put_at at bytes old) p 0 ≡ get_or old p 0
  put_behind p l =
      put_past p (omega (arith, l)) ∙ get_or-append_right bytes (drop (at + length bytes) old) (p - at) 0 (omega (arith, l))
      ∙ get_or-drop (at + length bytes) old (p - at - length bytes) 0 ∙ ap (λ (k : ℕ). get_or old k 0) (omega (arith, l))

  put_outside : (p : ℕ) → within (at, length bytes) p ≡ false → get_or (put_at at bytes old) p 0 ≡ get_or old p 0
  put_outside p out = elim (cases_lt p at) [
    | inl l ↦ put_before p l
    | inr l ↦ put_behind p (not_within p out l)
  ]
    where
      not_within : (p : ℕ) → within (at, length bytes) p ≡ false → at ≤ p → at + length bytes ≤ p
      not_within p out l = grind (arith, nat_tests, common_steps)

-- a range that has positions has its last one
last_within : (at n : ℕ) → 0 < n → within (at, n) (at + n - 1) ≡ true
last_within at n some = grind (arith, nat_tests, common_steps)

pub within_is : (at n p : ℕ) → within (at, n) p ≡ true → (at ≤ p) × (p < at + n)
within_is at n p is = (grind (arith, nat_tests, common_steps), grind (arith, nat_tests, common_steps))

-- a range with positions, none of them behind the end, ends before it
range_fits : (at n end : ℕ) → 0 < n → ((p : ℕ) → within (at, n) p ≡ true → p < end) → at + n ≤ end
range_fits at n end some below = let l = below (at + n - 1) (last_within at n some) in omega (arith, l, some)

zero_write : Zero ≡ Write → ⊥
zero_write e = cc

write_zero : Write ≡ Zero → ⊥
write_zero e = cc

-- bytes are written
pub writes_make : (at : ℕ) (bytes old new : List ℕ) → 0 < length bytes → Puts at bytes old new → MakesInside (write_at at bytes) old new
writes_make at bytes old new some puts = record {
  on = λ below.
      let fits = range_fits at (length bytes) (length old) some below in
      let is : new ≡ put_at at bytes old = puts.on (omega (arith, fits)) in
      subst (λ (now : List ℕ). Makes (write_at at bytes) old now) (sym is) (record {
        kept = put_length at bytes old fits;
        inside = λ p here. let w = within_is at (length bytes) p here in (λ k. put_inside at bytes old fits p w.0 w.1, λ k. absurd (write_zero k));
        outside = λ p out. put_outside at bytes old fits p out;
      });
}

-- zeros are written
pub zeros_make : (at n flags : ℕ) (old new : List ℕ) → 0 < n → Puts at (replicate n 0) old new → MakesInside (zero_at at n flags) old new
zeros_make at n flags old new some puts = record {
  on = λ below.
      let bytes = replicate {A = ℕ} n 0 in
      let size : length bytes ≡ n = length-replicate n 0 in
      let whole = range_fits at n (length old) some below in
      let fits : at + length bytes ≤ length old = omega (arith, whole, size) in
      let is : new ≡ put_at at bytes old = puts.on (omega (arith, fits)) in
      subst (λ (now : List ℕ). Makes (zero_at at n flags) old now) (sym is) (record {
        kept = put_length at bytes old fits;
        inside = λ p here.
            let w = within_is at n p here in
            let l : p - at < n = omega (arith, w) in
            (λ k. absurd (zero_write k), λ k. put_inside at bytes old fits p w.0 (omega (arith, w, size)) ∙ get_or-replicate n (p - at) 0 0 l);
        outside = λ p out. put_outside at bytes old fits p (subst (λ (m : ℕ). within (at, m) p ≡ false) (sym size) out);
      });
}

-- Nothing is changed where a change has no position.

none_within : (at p : ℕ) → within (at, 0) p ≡ true → ⊥
none_within at p is = let w = within_is at 0 p is in absurd (omega (arith, w))

pub empty_write : (at : ℕ) (bytes old : List ℕ) → length bytes ≡ 0 → MakesInside (write_at at bytes) old old
empty_write at bytes old none = record {
  on = λ below. record {
    kept = refl;
    inside = λ p here. absurd (none_within at p (subst (λ (n : ℕ). within (at, n) p ≡ true) none here));
    outside = λ p out. refl;
  };
}

pub empty_zero : (at n flags : ℕ) (old : List ℕ) → n ≡ 0 → MakesInside (zero_at at n flags) old old
empty_zero at n flags old none = record {
  on = λ below. record {
    kept = refl;
    inside = λ p here. absurd (none_within at p (subst (λ (k : ℕ). within (at, k) p ≡ true) none here));
    outside = λ p out. refl;
  };
}

-- zeros, and then more of them
pub zeros_then : (at done more : ℕ) (block x y z : List ℕ) → block ≡ replicate (length block) 0 → more ≤ length block
    → Puts at (replicate done 0) x y → Puts (at + done) (take more block) y z → Puts at (replicate (done + more) 0) x z
zeros_then at done more block x y z zero few f g =
    let size : length (replicate {A = ℕ} done 0) ≡ done = length-replicate done 0 in
    let part : take more block ≡ replicate more 0 = ap (take more) zero ∙ take-replicate more (length block) 0 few in
    let all : replicate {A = ℕ} done 0 ++ replicate more 0 ≡ replicate (done + more) 0 = replicate-append-replicate done more 0 in
    let second : Puts (at + length (replicate {A = ℕ} done 0)) (replicate more 0) y z =
    subst (λ (k : ℕ). Puts (at + k) (replicate more 0) y z) (sym size) (subst (λ (bytes : List ℕ). Puts (at + done) bytes y z) part g) in
    subst (λ (bytes : List ℕ). Puts at bytes x z) all (puts_then at (replicate done 0) (replicate more 0) x y z f second)

pub some_is : (n : ℕ) → (n == 0) ≡ false → 0 < n
some_is n is = grind (arith, nat_tests, common_steps)

pub none_is : (n : ℕ) → (n == 0) ≡ true → n ≡ 0
none_is n is = grind (arith, nat_tests, common_steps)
