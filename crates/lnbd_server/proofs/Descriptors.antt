-- Descriptors of a block status, put one behind another.
use Rattle.std.proofs.Common.{◌≡◌, ℕ, zero, suc, ◌+◌, ◌/◌, ◌%◌, ◌<◌, List, [], ◌∷◌, ◌++◌, length, take, get_or, flat_map, ap, sym, ◌∙◌, arith, append_assoc, append-nil, length-append}
use Rattle.byteorder.specs.Endian.{big_bytes}
use Rattle.lnbd_model.specs.declared.export.Extent.{Extent}
use Rattle.lnbd_records.specs.Numbers.{Field, number, row}
use Rattle.lnbd_records.specs.Transmission.{descriptor, block_status, extended_descriptor}
use Rattle.lnbd_records.proofs.NumberLaws.{row-one, row-append, length-row}

low_bytes : (n : ℕ) → big_bytes 4 (n % 4294967296) ≡ big_bytes 4 n
low_bytes n =
    let a : n % 4294967296 / 16777216 % 256 ≡ n / 16777216 % 256 = omega arith in
    let b : n % 4294967296 / 65536 % 256 ≡ n / 65536 % 256 = omega arith in
    let c : n % 4294967296 / 256 % 256 ≡ n / 256 % 256 = omega arith in
    let d : n % 4294967296 % 256 ≡ n % 256 = omega arith in
    cc

low_field : (n x : ℕ) → x ≡ n % 4294967296 → row (number 4 x ∷ []) ≡ row (number 4 n ∷ [])
low_field n x e = ap (λ k. row (number 4 k ∷ [])) e ∙ row-one 4 (n % 4294967296) ∙ low_bytes n ∙ sym (row-one 4 n)

fields_more : (put : Extent → List Field) (ds : List Extent) (i : ℕ) (d : Extent) → i < length ds → flat_map put (take (i + 1) ds) ≡ flat_map put (take i ds) ++ put (get_or ds i d)
fields_more put [] i d less = absurd (omega arith)
fields_more put (x ∷ ds) zero d less = append-nil (put x)
fields_more put (x ∷ ds) (suc i) d less =
    let n : suc i + 1 ≡ suc (i + 1) = omega arith in
    ap (λ k. flat_map put (take k (x ∷ ds))) n ∙ ap (λ fs. put x ++ fs) (fields_more put ds i d (omega arith)) ∙ sym (append_assoc (put x) (flat_map put (take i ds)) (put (get_or ds i d)))

two_fields : (w a b : ℕ) → row (number w a ∷ number w b ∷ []) ≡ row (number w a ∷ []) ++ row (number w b ∷ [])
two_fields w a b = row-append (number w a ∷ []) (number w b ∷ [])

joined_fields : (fs : List Field) (w a b : ℕ) (payload one two : List ℕ) → payload ≡ row fs → one ≡ payload ++ row (number w a ∷ []) → two ≡ one ++ row (number w b ∷ []) →
    two ≡ row (fs ++ number w a ∷ number w b ∷ [])
joined_fields fs w a b payload one two p e f =
    f ∙ ap (λ xs. xs ++ row (number w b ∷ [])) e ∙ append_assoc payload (row (number w a ∷ [])) (row (number w b ∷ [])) ∙ ap (λ xs. payload ++ xs) (sym (two_fields w a b))
    ∙ ap (λ xs. xs ++ row (number w a ∷ number w b ∷ [])) p ∙ sym (row-append fs (number w a ∷ number w b ∷ []))

pub descriptor_more : (ds : List Extent) (i x y : ℕ) (d : Extent) (payload one two : List ℕ) → i < length ds → payload ≡ row (block_status 1 (take i ds)) →
    one ≡ payload ++ row (number 4 x ∷ []) → two ≡ one ++ row (number 4 y ∷ []) → x ≡ (get_or ds i d).length % 4294967296 → y ≡ (get_or ds i d).flags % 4294967296 → two ≡ row (block_status 1 (take (i + 1) ds))
descriptor_more ds i x y d payload one two less p e f is_x is_y =
    joined_fields (block_status 1 (take i ds)) 4 (get_or ds i d).length (get_or ds i d).flags payload one two p
    (e ∙ ap (λ xs. payload ++ xs) (low_field (get_or ds i d).length x is_x)) (f ∙ ap (λ xs. one ++ xs) (low_field (get_or ds i d).flags y is_y))
    ∙ ap (λ fs. row (number 4 1 ∷ fs)) (sym (fields_more (λ k. descriptor k.length k.flags) ds i d less))

pub extended_more : (ds : List Extent) (i n : ℕ) (d : Extent) (payload one two : List ℕ) → i < length ds →
    payload ≡ row (number 4 1 ∷ number 4 n ∷ flat_map (λ k. extended_descriptor k.length k.flags) (take i ds)) →
    one ≡ payload ++ row (number 8 (get_or ds i d).length ∷ []) → two ≡ one ++ row (number 8 (get_or ds i d).flags ∷ []) →
    two ≡ row (number 4 1 ∷ number 4 n ∷ flat_map (λ k. extended_descriptor k.length k.flags) (take (i + 1) ds))
extended_more ds i n d payload one two less p e f =
    joined_fields (number 4 1 ∷ number 4 n ∷ flat_map (λ k. extended_descriptor k.length k.flags) (take i ds)) 8 (get_or ds i d).length (get_or ds i d).flags payload one two p e f
    ∙ ap (λ fs. row (number 4 1 ∷ number 4 n ∷ fs)) (sym (fields_more (λ k. extended_descriptor k.length k.flags) ds i d less))

pub two_more : (w x y : ℕ) (payload one two : List ℕ) → one ≡ payload ++ row (number w x ∷ []) → two ≡ one ++ row (number w y ∷ []) → length two ≡ length payload + w + w
two_more w x y payload one two e f =
    let first : length (row (number w x ∷ [])) ≡ w + 0 = length-row (number w x ∷ []) in
    let second : length (row (number w y ∷ [])) ≡ w + 0 = length-row (number w y ∷ []) in
    let a : length one ≡ length payload + length (row (number w x ∷ [])) = ap (λ (xs : List ℕ). length xs) e ∙ length-append payload (row (number w x ∷ [])) in
    let b : length two ≡ length one + length (row (number w y ∷ [])) = ap (λ (xs : List ℕ). length xs) f ∙ length-append one (row (number w y ∷ [])) in
    omega arith
