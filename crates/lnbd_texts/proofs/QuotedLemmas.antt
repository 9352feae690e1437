-- What a character is in quotes.
use Rattle.std.proofs.Common.{◌≡◌, ◌∙◌, ◌<◌, ◌≤◌, ℕ, false, true, List, [], ◌∷◌, ◌++◌, get_or, length, suc, refl, sym, ap, arith, append-nil, append_assoc, inl, inr}
use Rattle.std.specs.Prelude.{encode_utf8, if◌then◌else◌, is_ok, OnOk, Result, Ok, Err}
use Rattle.std.proofs.lemmas.Bool.{cases_lt}
use Rattle.std.proofs.lemmas.Bool.Decides.{nat_tests}
use Rattle.std.proofs.lemmas.Str.{encode_ascii, inside_one}
use Rattle.lnbd_texts.specs.Quoted.{escape_text, is_escaped, quoted_byte, quoted_bytes}

quoted_plain : (byte : ℕ) → is_escaped byte ≡ false → quoted_byte byte ≡ byte ∷ []
quoted_plain byte h = rw h refl

-- bytes that are not escaped stand as they are
plain : (bytes : List ℕ) → ((k : ℕ) → k < length bytes → is_escaped (get_or bytes k 0) ≡ false) → quoted_bytes bytes ≡ bytes
plain [] h = refl
plain (byte ∷ bytes) h =
    ap (λ (t : List ℕ). t ++ quoted_bytes bytes) (quoted_plain byte (h 0 (omega arith)))
    ∙ ap (λ (t : List ℕ). byte ∷ t) (plain bytes (λ k within. h (suc k) (omega arith)))

high_is_plain : (byte : ℕ) → 128 ≤ byte → is_escaped byte ≡ false
high_is_plain byte h = grind (arith, nat_tests)

escaped_is_ascii : (letter : ℕ) → is_escaped letter ≡ true → letter < 128
escaped_is_ascii letter h = grind (arith, nat_tests)

-- a character that is not escaped stands as its bytes
pub letter_is_plain : (letter : ℕ) → is_escaped letter ≡ false → quoted_bytes (encode_utf8 letter) ≡ encode_utf8 letter
letter_is_plain letter h = plain (encode_utf8 letter) each
  where
    each : (k : ℕ) → k < length (encode_utf8 letter) → is_escaped (get_or (encode_utf8 letter) k 0) ≡ false
    each k within = elim (cases_lt (get_or (encode_utf8 letter) k 0) 128) [
      | inl low ↦ ap is_escaped (sym (inside_one letter [] (encode_utf8 letter) k (sym (append-nil (encode_utf8 letter))) within low)) ∙ h
      | inr high ↦ high_is_plain (get_or (encode_utf8 letter) k 0) high
    ]

-- one that is escaped is one byte
pub letter_is_escaped : (letter : ℕ) → is_escaped letter ≡ true → quoted_bytes (encode_utf8 letter) ≡ escape_text letter
letter_is_escaped letter h =
    let one : encode_utf8 letter ≡ letter ∷ [] = encode_ascii letter (escaped_is_ascii letter h) in
    ap quoted_bytes one ∙ rw h (append-nil (escape_text letter))

-- One character behind another.
pub rest_pushed : (whole before text text' rest rest' : List ℕ) (letter : ℕ) → text ++ quoted_bytes rest ≡ before ++ quoted_bytes whole → rest ≡ encode_utf8 letter ++ rest'
    → text' ≡ text ++ quoted_bytes (encode_utf8 letter) → text' ++ quoted_bytes rest' ≡ before ++ quoted_bytes whole
rest_pushed whole before text text' rest rest' letter held parts pushed =
    ap (λ (t : List ℕ). t ++ quoted_bytes rest') pushed ∙ append_assoc text (quoted_bytes (encode_utf8 letter)) (quoted_bytes rest')
    ∙ ap (λ (t : List ℕ). text ++ t) (sym (quoted_append (encode_utf8 letter) rest')) ∙ ap (λ (t : List ℕ). text ++ quoted_bytes t) (sym parts) ∙ held
  where
    quoted_append : (a b : List ℕ) → quoted_bytes (a ++ b) ≡ quoted_bytes a ++ quoted_bytes b
    quoted_append [] b = refl
    quoted_append (x ∷ a) b = ap (λ (t : List ℕ). quoted_byte x ++ t) (quoted_append a b) ∙ sym (append_assoc (quoted_byte x) (quoted_bytes a) (quoted_bytes b))

pub all_pushed : (whole before text rest : List ℕ) → length rest ≡ 0 → text ++ quoted_bytes rest ≡ before ++ quoted_bytes whole → text ≡ before ++ quoted_bytes whole
all_pushed whole before text [] none held = sym (append-nil text) ∙ held
all_pushed whole before text (x ∷ rest) none held = absurd (omega arith)

pub pushed_as : {T E : Type 0} (r : Result T E) (old now part other : List ℕ) → now ≡ (if is_ok r then old ++ part else old) → other ≡ part → OnOk r (now ≡ old ++ other)
pushed_as (Ok x) old now part other is same = is ∙ ap (λ (t : List ℕ). old ++ t) (sym same)
pushed_as (Err e) old now part other is same = tt
