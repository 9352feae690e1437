-- Which calls were made, read by read and write by write.
use Rattle.std.proofs.Common.{◌≡◌, ℕ, ◌+◌, ◌-◌, ◌<◌, ◌≤◌, List, [], ◌∷◌, ◌++◌, length, take, drop, Some, refl, ap, sym, subst, arith, length-take, length-drop}
use Rattle.std.proofs.Math.Seq.{take-add}
use Rattle.lnbd_store.specs.Call.{Call, Length, ReadAt, ReadTold, Gave, Ended, ReadFault, WriteAt, Took, WriteFault}
use Rattle.lnbd_child.specs.declared.reading.Unread.TheVariants as unread
use Rattle.lnbd_child.specs.Reading.{Ends, Fails, HasReadOf, Part, Parts, Stops, max_file}
use Rattle.lnbd_child.specs.Writing.{Breaks, Wrote, Wrote_on}

size_of : (at : ℕ) (bytes : List ℕ) → at ≤ length bytes → length (take at bytes) ≡ at
size_of at bytes fits = let k = length-take at bytes in omega (arith, k, fits)

-- a read asks for what comes behind the first bytes
asks : (file size at : ℕ) (bytes : List ℕ) (answer : ReadTold) (calls : List Call) → at ≤ length bytes → calls ++ ReadAt file at (size - at) answer ∷ [] ≡ calls ++ ReadAt file (length (take at bytes)) (size - length (take at bytes)) answer ∷ []
asks file size at bytes answer calls fits = ap (λ (k : ℕ). calls ++ ReadAt file k (size - k) answer ∷ []) (sym (size_of at bytes fits))

module _ (file size at : ℕ) (more : at < size) where
  pub parts_more : (n : ℕ) (was bytes : List ℕ) (calls : List Call) → 0 < n → at + n ≤ length bytes → take at bytes ≡ take at was → Parts file size (take at was) calls
      → Parts file size (take (at + n) bytes) (calls ++ ReadAt file at (size - at) (Gave (take n (drop at bytes))) ∷ [])
  parts_more n was bytes calls some fits same parts =
      let front : length (take at bytes) ≡ at = size_of at bytes (omega (arith, fits)) in
      let part : length (take n (drop at bytes)) ≡ n = size_of n (drop at bytes) (let k = length-drop at bytes in omega (arith, k, fits)) in
      Part (take (at + n) bytes) _ (take at bytes) (take n (drop at bytes)) calls (subst (λ (xs : List ℕ). Parts file size xs calls) (sym same) parts) (omega (arith, front, more)) (omega (arith, part, some)) (take-add at n bytes)
      (asks file size at bytes (Gave (take n (drop at bytes))) calls (omega (arith, fits)))

  pub parts_fail : (bytes : List ℕ) (calls : List Call) → at ≤ length bytes → Parts file size (take at bytes) calls → Stops file size unread.Failed (calls ++ ReadAt file at (size - at) ReadFault ∷ [])
  parts_fail bytes calls fits parts =
      let front : length (take at bytes) ≡ at = size_of at bytes fits in
      Fails (take at bytes) calls parts (omega (arith, front, more)) (asks file size at bytes ReadFault calls fits) refl

  pub parts_end : (bytes : List ℕ) (calls : List Call) → at ≤ length bytes → Parts file size (take at bytes) calls → Stops file size (unread.Changed size at) (calls ++ ReadAt file at (size - at) Ended ∷ [])
  parts_end bytes calls fits parts =
      let front : length (take at bytes) ≡ at = size_of at bytes fits in
      Ends (take at bytes) calls parts (omega (arith, front, more)) (asks file size at bytes Ended calls fits) (ap (λ (k : ℕ). unread.Changed size k) (sym front))

pub has_read : (file size : ℕ) (bytes : List ℕ) (calls : List Call) → length bytes ≡ size → size ≤ max_file → Parts file size bytes calls → HasReadOf file bytes (Length file (Some size) ∷ calls)
has_read file size bytes calls is few parts = record {
  few = omega (arith, is, few);
  own = calls;
  parts = subst (λ (k : ℕ). Parts file k bytes calls) (sym is) parts;
  calls_are = ap (λ (k : ℕ). Length file (Some k) ∷ calls) (sym is);
}

module _ (file at : ℕ) (bytes : List ℕ) where
  pub wrote_more : (n : ℕ) (calls : List Call) → 0 < n → at + n ≤ length bytes → Wrote file bytes at calls → Wrote file bytes (at + n) (calls ++ WriteAt file at (length bytes - at) (Took (take n (drop at bytes))) ∷ [])
  wrote_more n calls some fits wrote = Wrote_on (at + n) _ at n calls wrote some fits refl refl

  pub breaks_there : (calls : List Call) → at < length bytes → Wrote file bytes at calls → Breaks file bytes (calls ++ WriteAt file at (length bytes - at) WriteFault ∷ [])
  breaks_there calls more wrote = record { at = at; own = calls; wrote = wrote; more = more; calls_are = refl }
