-- What a file tells of itself from a place on, as an extent: where that says zeros, they are zeros of the file.
use Rattle.std.proofs.Common.{◌≡◌, ◌<◌, ◌≤◌, ◌+◌, ◌-◌, ◌&&◌, ℕ, Bool, true, false, [], ◌∷◌, length, Option, Some, None, refl, sym, ◌∙◌, arith, nat_lt, nat_le, if◌then◌else◌, leb-true, ltb-true}
use Rattle.std.proofs.lemmas.Bool.{false≢true}
use Rattle.lnbd_model.specs.declared.export.Extent.{Extent}
use Rattle.lnbd_extents.specs.Lists.{flags_at}
use Rattle.lnbd_extents.specs.Positions.{within}
use Rattle.lnbd_asked.specs.Transcript.{is_zero}
use Rattle.lnbd_copy.specs.Windows.{zero_within}
use Rattle.lnbd_store.specs.Effects.{AreZeros}
use Rattle.lnbd_store.specs.Shelf.{Goes, Reads, Same, Shelf}
use Rattle.lnbd_touched.specs.Touches.{Touches}
use Rattle.lnbd_touched.proofs.TouchLemmas.{touches_read, touches_same}
use Rattle.lnbd_copyfile.specs.Holes.{ToldHoles, nowhere}

abbrev extent : (length flags : ℕ) → Extent
extent length flags = record { length = length; flags = flags }

both : (a b : Bool) → (a && b) ≡ true → (a ≡ true) × (b ≡ true)
both true b e = (refl, e)
both false b e = absurd (false≢true e)

module _ (length flags : ℕ) where
  -- a position behind it has no flags
  reaches : (p : ℕ) → is_zero (flags_at (extent length flags ∷ []) p) ≡ true → p < length
  reaches p = elim (nat_lt p length) as (λ b. nat_lt p length ≡ b → is_zero (if b then Some flags else None) ≡ true → p < length) [
    | true ↦ λ less e. ltb-true p length less
    | false ↦ λ less e. absurd (false≢true e)
  ] refl

no_flags : (length p : ℕ) → is_zero (flags_at (extent length 0 ∷ []) p) ≡ false
no_flags length p = elim (nat_lt p length) as (λ b. is_zero (if b then Some 0 else None) ≡ false) [ true ↦ refl | false ↦ refl ]

-- the position lies in the extent, if it has the flag
lies : (offset n length flags p : ℕ) → zero_within (offset, n) (extent length flags ∷ []) p ≡ true → (offset ≤ p) × (p < offset + length)
lies offset n length flags p e =
    let one = both (within (offset, n) p) (nat_le offset p && is_zero (flags_at (extent length flags ∷ []) (p - offset))) e in
    let two = both (nat_le offset p) (is_zero (flags_at (extent length flags ∷ []) (p - offset))) one.1 in
    let low : offset ≤ p = leb-true offset p two.0 in
    let less = reaches length flags (p - offset) two.1 in
    (low, omega (arith, low, less))

-- of bytes none has it
lies_not : (offset n length p : ℕ) → zero_within (offset, n) (extent length 0 ∷ []) p ≡ true → ⊥
lies_not offset n length p e =
    let one = both (within (offset, n) p) (nat_le offset p && is_zero (flags_at (extent length 0 ∷ []) (p - offset))) e in
    let two = both (nat_le offset p) (is_zero (flags_at (extent length 0 ∷ []) (p - offset))) one.1 in
    false≢true (sym (no_flags length (p - offset)) ∙ two.1)

module _ (file offset n length : ℕ) (a b : Option Shelf) where
  pub zeros_hold : Goes a b (Reads file (AreZeros offset length)) → Touches file (ToldHoles nowhere (zero_within (offset, n) (extent length 2 ∷ []))) a b
  zeros_hold goes = touches_read file (ToldHoles nowhere (zero_within (offset, n) (extent length 2 ∷ []))) (AreZeros offset length) a b
      (λ x zeros. record { same = refl; on = λ none p inside e. let l = lies offset n length 2 p e in zeros.are p l.0 l.1 inside }) goes

  pub bytes_hold : Goes a b Same → Touches file (ToldHoles nowhere (zero_within (offset, n) (extent length 0 ∷ []))) a b
  bytes_hold goes = touches_same file (ToldHoles nowhere (zero_within (offset, n) (extent length 0 ∷ []))) a b
      (λ x. record { same = refl; on = λ none p inside e. absurd (lies_not offset n length p e) }) goes
