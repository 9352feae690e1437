-- A pair of digits spells one byte.
use Rattle.std.proofs.Common.{◌≡◌, ◌∙◌, List, [], ◌∷◌, ℕ, Ok, Err, sym}
use Rattle.hex.specs.Hex.{decode_of, decode_sized}
use Rattle.hex.specs.declared.error.FromHexError.{FromHexError}
use Rattle.hex.proofs.HexLemmas.{decode_of-ok, decode_sized-ok, decode_sized-twice}

pub one_byte : (pair : List ℕ) (byte : ℕ) → decode_sized pair 1 ≡ Ok (byte ∷ []) → decode_of pair ≡ Ok (byte ∷ [])
one_byte pair byte h = sym (decode_sized-twice pair 1 (decode_sized-ok pair 1 (byte ∷ []) h)) ∙ h

pub no_byte : (pair : List ℕ) (byte : ℕ) (e : FromHexError) → decode_sized pair 1 ≡ Err e → decode_of pair ≡ Ok (byte ∷ []) → ⊥
no_byte pair byte e fails h =
    let size = (decode_of-ok pair (byte ∷ []) h).2 in
    let same : decode_sized pair 1 ≡ Ok (byte ∷ []) = decode_sized-twice pair 1 size ∙ h in
    cc (same, fails)
