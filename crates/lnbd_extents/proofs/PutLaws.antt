-- What adding leaves.
use Rattle.std.proofs.Common.{◌≡◌, ℕ, ◌+◌, ◌<◌, ◌≤◌, List, false, ◌||◌, arith, sym, subst, Ok, Err, Result, OnOk, OnErr}
use Rattle.lnbd_extents.specs.Positions.{within, holds}
use Rattle.lnbd_extents.specs.Spots.{meets}
use Rattle.lnbd_extents.specs.Ranges.{adding, IsFrom, AreUpTo}
use Rattle.lnbd_extents.proofs.RangeLaws.{from_adding, holds-adding}
use Rattle.lnbd_extents.proofs.SpotLaws.{up_to_adding}

pub put_keeps : {T E : Type 0} (r : Result T E) (m s n : ℕ) (old new : List (ℕ × ℕ)) → OnOk r (new ≡ adding s n old) → OnOk r (meets s n old ≡ false) → OnErr r (new ≡ old) →
    IsFrom 0 old → AreUpTo m old → 0 < n → s + n ≤ m → IsFrom 0 new × AreUpTo m new
put_keeps (Ok x) m s n old new a b c f u h l =
    (subst (IsFrom 0) (sym a) (from_adding 0 s n old (omega arith) h f b), subst (AreUpTo m) (sym a) (up_to_adding m s n old u l))
put_keeps (Err x) m s n old new a b c f u h l = (subst (IsFrom 0) (sym c) f, subst (AreUpTo m) (sym c) u)

pub put_holds : {T E : Type 0} (r : Result T E) (s n : ℕ) (old new : List (ℕ × ℕ)) → OnOk r (new ≡ adding s n old) → OnOk r ((p : ℕ) → holds new p ≡ within (s, n) p || holds old p)
put_holds (Ok x) s n old new a = λ p. subst (λ ys. holds ys p ≡ within (s, n) p || holds old p) (sym a) (holds-adding s n old p)
put_holds (Err x) s n old new a = a
