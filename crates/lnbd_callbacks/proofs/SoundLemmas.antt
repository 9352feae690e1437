-- Each change of a desk keeps what holds of its fields.
use Rattle.std.proofs.Common.{◌≡◌, ℕ, ◌+◌, ◌-◌, ◌≤◌, ◌^◌, List, [], ◌∷◌, ◌++◌, Bool, true, false, arith, Some}
use Rattle.lnbd_keyed.specs.Keyed.{value_at, with_value, without, IsBelow}
use Rattle.lnbd_keyed.proofs.KeyedLemmas.{IsBelow_with, IsBelow_without}
use Rattle.lnbd_callbacks.specs.Sound.{IsSound, owed_by, owed_for}
use Rattle.lnbd_callbacks.proofs.LiveLemmas.{IsBelow-next, owed_by-append, owed_by-with_value, owed_by-without, owed_for-positive}

-- a callback more, with room for its two notes
pub IsSound-admission : (notes room owed capacity admitted : ℕ) (live : List (ℕ × Bool)) → notes + owed + room + 2 ≤ capacity → owed ≡ owed_by live → IsBelow live (admitted + 1) → admitted + 1 ≤ 2 ^ 56 → IsSound notes room (owed + 2) capacity (admitted + 1) (live ++ (admitted + 1, false) ∷ [])
IsSound-admission notes room owed capacity admitted live fits owes below limit =
    let e = owed_by-append live (admitted + 1) in
    record {
      fits = omega arith;
      owes = omega (arith, e);
      numbered = IsBelow-next (admitted + 1) false live below;
      limit = limit;
    }

-- two callbacks more
pub IsSound-admissions : (notes room owed capacity admitted : ℕ) (live : List (ℕ × Bool)) → notes + owed + room + 4 ≤ capacity → owed ≡ owed_by live → IsBelow live (admitted + 1) → admitted + 1 + 1 ≤ 2 ^ 56 → IsSound notes room (owed + 4) capacity (admitted + 1 + 1) (live ++ (admitted + 1, false) ∷ [] ++ (admitted + 1 + 1, false) ∷ [])
IsSound-admissions notes room owed capacity admitted live fits owes below limit =
    let first = IsSound-admission notes room owed capacity admitted live (omega arith) owes below (omega arith) in
    let second = IsSound-admission notes room (owed + 2) capacity (admitted + 1) (live ++ (admitted + 1, false) ∷ []) (omega arith) first.owes first.numbered limit in
    let f = second.fits in
    let o = second.owes in
    record {
      fits = omega arith;
      owes = omega arith;
      numbered = second.numbered;
      limit = limit;
    }

-- a completion, with its note
pub IsSound-completion : (notes room owed capacity admitted number : ℕ) (live : List (ℕ × Bool)) → IsSound notes room owed capacity admitted live → value_at number live ≡ Some false → IsSound (notes + 1) room (owed - 1) capacity admitted (with_value number true live)
IsSound-completion notes room owed capacity admitted number live sound at =
    let e = owed_by-with_value number live at in
    let fits = sound.fits in
    let owes = sound.owes in
    record {
      fits = omega arith;
      owes = omega arith;
      numbered = IsBelow_with (admitted + 1) number true live sound.numbered;
      limit = sound.limit;
    }

-- an end, with its note
pub IsSound-end : (notes room owed capacity admitted number : ℕ) (completed : Bool) (live : List (ℕ × Bool)) → IsSound notes room owed capacity admitted live → value_at number live ≡ Some completed → IsSound (notes + 1) room (owed - owed_for completed) capacity admitted (without number live)
IsSound-end notes room owed capacity admitted number completed live sound at =
    let e = owed_by-without number completed live at in
    let fits = sound.fits in
    let owes = sound.owes in
    let one = owed_for-positive completed in
    record {
      fits = omega arith;
      owes = omega arith;
      numbered = IsBelow_without (admitted + 1) number live sound.numbered;
      limit = sound.limit;
    }
