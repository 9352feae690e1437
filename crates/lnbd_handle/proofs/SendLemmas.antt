-- Bytes that went out, and the commands that end with them.
use Rattle.std.proofs.Common.{◌≡◌, ℕ, zero, suc, ◌+◌, ◌↔◌, IsTrue, Bool, true, false, not, List, [], ◌∷◌, length, drop, if◌then◌else◌, ◌==◌, nat_lt, refl, ap, sym, arith}
use Rattle.std.proofs.lemmas.Bool.{false≢true, lt-ltb}
use Rattle.lnbd_history.specs.Outgoing.{Part, one_if, wrote, ended}
use Rattle.lnbd_handle.specs.Seen.{ends_in}

pub ends_wrote : (parts : List Part) (n : ℕ) → ended parts n + ends_in (wrote parts n) ≡ ends_in parts
ends_wrote [] n = refl
ends_wrote (part ∷ parts) n = go (n == 0) (nat_lt n (length part.bytes))
  where
    go : (a b : Bool) → (if a then 0 else if b then 0 else one_if part.ends) + ends_in (if a then part ∷ parts else if b then record { bytes = drop n part.bytes; ends = part.ends } ∷ parts else parts) ≡ one_if part.ends + ends_in parts
    go true b = omega arith
    go false true = omega arith
    go false false = refl

-- Whether bytes are offered.

pub offers : (empty : Bool) (n : ℕ) → (IsTrue empty ↔ (n ≡ 0)) → not empty ≡ nat_lt 0 n
offers true n is = sym (ap (nat_lt 0) (is.0 refl))
offers false zero is = absurd (false≢true (is.1 refl))
offers false (suc n) is = sym (lt-ltb 0 (suc n) (omega arith))
