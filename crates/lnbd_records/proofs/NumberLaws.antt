-- Laws on numbers as bytes: what was written is read again, and what was read is written so.
use Rattle.std.proofs.Common.{◌≡◌, ℕ, zero, suc, ◌+◌, ◌^◌, ◌<◌, ◌≤◌, List, [], ◌∷◌, ◌++◌, length, take, drop, get_or, refl, sym, ap, ◌∙◌, arith, append_assoc, length-append, append-nil, length-drop, length-take}
use Rattle.std.proofs.lemmas.Nat.{same_from_place, mod_below}
use Rattle.std.proofs.lemmas.List.{drop-drop, take-append-drop, get_or-drop}
use Rattle.std.proofs.Math.Seq.{drop-append_seam}
use Rattle.std.specs.Int.{byte_at}
use Rattle.byteorder.specs.Endian.{big_from, big_bytes, big_number}
use Rattle.byteorder.specs.Numbers.{big_from-cons, big_from-lt, big_from-take, big_number-reads_back, length-bytes_high_first}
use Rattle.lnbd_records.specs.Numbers.{Field, number, row, AllFit, IsBytes, IsRow, IsRowThen, Begins, number_at, fields_at, widths, total}

byte_at-lt : (k x : ℕ) → byte_at k x < 256
byte_at-lt zero x = mod_below x 256 (omega arith)
byte_at-lt (suc k) x = mod_below _ 256 (omega arith)

cons_bytes : (a : ℕ) (xs : List ℕ) → a < 256 → IsBytes xs → (i : ℕ) → get_or (a ∷ xs) i 0 < 256
cons_bytes a xs h p zero = h
cons_bytes a xs h p (suc i) = p i

no_bytes : (i : ℕ) → get_or (let e : List ℕ = [] in e) i 0 < 256
no_bytes zero = omega arith
no_bytes (suc i) = omega arith

pub bytes_are_bytes : (n x : ℕ) → IsBytes (big_bytes n x)
bytes_are_bytes zero x = no_bytes
bytes_are_bytes (suc n) x = cons_bytes _ _ (byte_at-lt n x) (bytes_are_bytes n x)

-- two lists of n bytes that spell one number are one list
pub same_number : (n : ℕ) (xs ys : List ℕ) → IsBytes xs → IsBytes ys → length xs ≡ n → length ys ≡ n → big_from 0 n xs ≡ big_from 0 n ys → xs ≡ ys
same_number zero [] [] p q d e h = refl
same_number zero [] (y ∷ ys) p q d e h = absurd (omega arith)
same_number zero (x ∷ xs) ys p q d e h = absurd (omega arith)
same_number (suc n) [] ys p q d e h = absurd (omega arith)
same_number (suc n) (x ∷ xs) [] p q d e h = absurd (omega arith)
same_number (suc n) (x ∷ xs) (y ∷ ys) p q d e h =
    let px : IsBytes xs = λ i. p (suc i) in
    let qy : IsBytes ys = λ i. q (suc i) in
    let a = big_from-cons 0 n x xs in
    let b = big_from-cons 0 n y ys in
    let r = big_from-lt 0 n xs px in
    let s = big_from-lt 0 n ys qy in
    let both = same_from_place x (big_from 0 n xs) y (big_from 0 n ys) (256 ^ n) r s (rw (← a, ← b) h) in
    let tails = same_number n xs ys px qy (omega arith) (omega arith) both.1 in
    cc (both.0, tails)

pub bytes_of_drop : (n : ℕ) (bytes : List ℕ) → IsBytes bytes → IsBytes (drop n bytes)
bytes_of_drop n bytes h = λ i. rw get_or-drop (h (n + i))

pub bytes_of_take : (n : ℕ) (bytes : List ℕ) → IsBytes bytes → n ≤ length bytes → IsBytes (take n bytes)
bytes_of_take zero bytes h e = no_bytes
bytes_of_take (suc n) [] h e = absurd (omega arith)
bytes_of_take (suc n) (x ∷ xs) h e = cons_bytes _ _ (h 0) (bytes_of_take n xs (λ i. h (suc i)) (omega arith))

-- the bytes of the number that was read are those that were read
pub big_bytes-number : (n : ℕ) (bytes : List ℕ) → IsBytes bytes → n ≤ length bytes → big_bytes n (big_number n bytes) ≡ take n bytes
big_bytes-number n bytes h e =
    let fits = big_from-lt 0 n bytes h in
    let there : big_from 0 n (big_bytes n (big_number n bytes) ++ []) ≡ big_from 0 n bytes = big_number-reads_back n (big_number n bytes) [] fits in
    let plain : big_bytes n (big_number n bytes) ++ [] ≡ big_bytes n (big_number n bytes) = append-nil (big_bytes n (big_number n bytes)) in
    let part = big_from-take 0 n n bytes (omega arith) in
    same_number n _ _ (bytes_are_bytes n _) (bytes_of_take n bytes h e) (length-bytes_high_first n _) (simp length-take (omega arith)) ((ap (big_from 0 n) (sym plain) ∙ there) ∙ sym part)

pub length-row : (fs : List Field) → length (row fs) ≡ total (widths fs)
unfolding row
length-row [] = refl
length-row (number v x ∷ fs) =
    let e = length-row fs in
    let d = length-bytes_high_first v x in
    omega (arith, e, d, length-append (big_bytes v x) (row fs))

-- the fields that stand in the bytes are written as those bytes
pub row-fields_at : (ws : List ℕ) (i : ℕ) (bytes : List ℕ) → IsBytes bytes → i + total ws ≤ length bytes → row (fields_at i ws bytes) ++ drop (i + total ws) bytes ≡ drop i bytes
unfolding row number_at
row-fields_at [] i bytes h e = ap (λ (k : ℕ). drop k bytes) (omega arith)
row-fields_at (w ∷ ws) i bytes h e =
    let ih = row-fields_at ws (i + w) bytes h (omega arith) in
    let k : i + w + total ws ≡ i + (w + total ws) = omega arith in
    let ih' : row (fields_at (i + w) ws bytes) ++ drop (i + (w + total ws)) bytes ≡ drop (i + w) bytes = rw (← k) ih in
    let one = big_bytes-number w (drop i bytes) (bytes_of_drop i bytes h) (simp length-drop (omega arith)) in
    let rest = drop-drop w i bytes in
    let seam = take-append-drop w (drop i bytes) in
    append_assoc (big_bytes w (big_number w (drop i bytes))) (row (fields_at (i + w) ws bytes)) (drop (i + (w + total ws)) bytes) ∙ ap (λ (t : List ℕ). big_bytes w (big_number w (drop i bytes)) ++ t) ih' ∙ ap (λ (t : List ℕ). t ++ drop (i + w) bytes) one ∙ ap (λ (t : List ℕ). take w (drop i bytes) ++ t) (sym rest) ∙ seam

pub AllFit-fields_at : (ws : List ℕ) (i : ℕ) (bytes : List ℕ) → IsBytes bytes → AllFit (fields_at i ws bytes)
unfolding number_at
AllFit-fields_at [] i bytes h = tt
AllFit-fields_at (w ∷ ws) i bytes h = (big_from-lt 0 w (drop i bytes) (bytes_of_drop i bytes h), AllFit-fields_at ws (i + w) bytes h)

-- fields that were written are read again, whatever follows
pub fields_at-row : (fs : List Field) (i : ℕ) (bytes rest : List ℕ) → AllFit fs → drop i bytes ≡ row fs ++ rest → fields_at i (widths fs) bytes ≡ fs
unfolding row number_at
fields_at-row [] i bytes rest h e = refl
fields_at-row (number v x ∷ fs) i bytes rest h e =
    let front : drop i bytes ≡ big_bytes v x ++ (row fs ++ rest) = e ∙ append_assoc (big_bytes v x) (row fs) rest in
    let same : big_number v (drop i bytes) ≡ x = ap (big_number v) front ∙ big_number-reads_back v x _ h.0 in
    let seam : drop (length (big_bytes v x)) (big_bytes v x ++ (row fs ++ rest)) ≡ row fs ++ rest = drop-append_seam (big_bytes v x) (row fs ++ rest) in
    let seam' : drop v (big_bytes v x ++ (row fs ++ rest)) ≡ row fs ++ rest = ap (λ (k : ℕ). drop k (big_bytes v x ++ (row fs ++ rest))) (sym (length-bytes_high_first v x)) ∙ seam in
    let after : drop (i + v) bytes ≡ row fs ++ rest = sym (drop-drop v i bytes) ∙ ap (drop v) front ∙ seam' in
    let ih = fields_at-row fs (i + v) bytes rest h.1 after in
    ap (λ (y : ℕ). number v y ∷ fields_at (i + v) (widths fs) bytes) same ∙ ap (λ (t : List Field). number v x ∷ t) ih

-- What begins with a record has its length, and these are its fields.
pub record Read (fs : List Field) (bytes : List ℕ) : Type 0 where
  pub long : total (widths fs) ≤ length bytes
  pub fields : fields_at 0 (widths fs) bytes ≡ fs

pub begins_read : (fs : List Field) (bytes : List ℕ) → Begins (IsRow fs) bytes → Read fs bytes
begins_read fs bytes b =
    let whole : bytes ≡ row fs ++ b.rest = b.whole ∙ ap (λ (t : List ℕ). t ++ b.rest) b.is.spelled in
    let size = ap length whole in
    record {
      long = omega (arith, size, length-append (row fs) b.rest, length-row fs);
      fields = fields_at-row fs 0 bytes b.rest b.is.fit whole;
    }

-- Bytes that are long enough begin with the fields that stand in them.
pub read_begins : (ws : List ℕ) (bytes : List ℕ) → IsBytes bytes → total ws ≤ length bytes → Begins (IsRow (fields_at 0 ws bytes)) bytes
read_begins ws bytes h e = record {
  front = row (fields_at 0 ws bytes);
  rest = drop (total ws) bytes;
  is = record { fit = AllFit-fields_at ws 0 bytes h; spelled = refl };
  whole =
      let k : 0 + total ws ≡ total ws = omega arith in
      sym (rw k at (row-fields_at ws 0 bytes h (omega arith)));
}

pub row-append : (fs gs : List Field) → row (fs ++ gs) ≡ row fs ++ row gs
unfolding row
row-append [] gs = refl
row-append (number v x ∷ fs) gs = ap (λ (t : List ℕ). big_bytes v x ++ t) (row-append fs gs) ∙ sym (append_assoc (big_bytes v x) (row fs) (row gs))

pub row-one : (w x : ℕ) → row (number w x ∷ []) ≡ big_bytes w x
unfolding row
row-one w x = append-nil (big_bytes w x)

pub row-push : (fs : List Field) (w x : ℕ) → row (fs ++ number w x ∷ []) ≡ row fs ++ big_bytes w x
row-push fs w x = row-append fs (number w x ∷ []) ∙ ap (λ (t : List ℕ). row fs ++ t) (row-one w x)

-- bytes that are long enough begin with the one number that stands at their front
pub number_begins : (w : ℕ) (bytes : List ℕ) → IsBytes bytes → w ≤ length bytes → Begins (IsRow (number w (number_at 0 w bytes) ∷ [])) bytes
number_begins w bytes h e = read_begins (w ∷ []) bytes h (omega arith)

-- the first number of a record that stands at the front
pub first_of : (w x : ℕ) (fs : List Field) (bytes : List ℕ) → Begins (IsRow (number w x ∷ fs)) bytes → (w ≤ length bytes) × (number_at 0 w bytes ≡ x)
first_of w x fs bytes b =
    let r = begins_read (number w x ∷ fs) bytes b in
    let e = r.fields in
    (omega (arith, r.long), cc)

pub row-nil : (let none : List ℕ = [] in none) ≡ row []
unfolding row
row-nil = refl

-- What is read of a record and what follows it.
pub record ReadThen (fs : List Field) (rest bytes : List ℕ) : Type 0 where
  pub size : length bytes ≡ total (widths fs) + length rest
  pub fields : fields_at 0 (widths fs) bytes ≡ fs
  pub behind : drop (total (widths fs)) bytes ≡ rest

drop_row : (fs : List Field) (rest : List ℕ) → drop (total (widths fs)) (row fs ++ rest) ≡ rest
drop_row fs rest = ap (λ (k : ℕ). drop k (row fs ++ rest)) (sym (length-row fs)) ∙ drop-append_seam (row fs) rest

pub then_reads : (fs : List Field) (rest bytes : List ℕ) → IsRowThen fs rest bytes → ReadThen fs rest bytes
then_reads fs rest bytes r =
    let size = ap length r.spelled in
    record {
      size = omega (arith, size, length-append (row fs) rest, length-row fs);
      fields = fields_at-row fs 0 bytes rest r.fit r.spelled;
      behind = ap (drop (total (widths fs))) r.spelled ∙ drop_row fs rest;
    }

-- Bytes that are long enough are the fields that stand in them and what follows.
pub reads_then : (ws : List ℕ) (bytes : List ℕ) → IsBytes bytes → total ws ≤ length bytes → IsRowThen (fields_at 0 ws bytes) (drop (total ws) bytes) bytes
reads_then ws bytes h e =
    let k : 0 + total ws ≡ total ws = omega arith in
    record { fit = AllFit-fields_at ws 0 bytes h; spelled = sym (rw k at (row-fields_at ws 0 bytes h (omega arith))) }

pub row_alone : (fs : List Field) (bytes : List ℕ) → IsRowThen fs [] bytes → IsRow fs bytes
row_alone fs bytes r = record { fit = r.fit; spelled = r.spelled ∙ append-nil (row fs) }

pub row_then : (fs : List Field) (bytes : List ℕ) → IsRow fs bytes → IsRowThen fs [] bytes
row_then fs bytes r = record { fit = r.fit; spelled = r.spelled ∙ sym (append-nil (row fs)) }
