-- Which handles are connections of the source.
use Rattle.std.proofs.Common.{◌≡◌, ℕ, ◌+◌, ◌<◌, Bool, true, false, ◌&&◌, ◌||◌, ◌==◌, nat_lt, nat_le, refl, ap, ◌∙◌, arith}
use Rattle.std.proofs.lemmas.Bool.{lt-ltb, le-leb, lt-leb}
use Rattle.lnbd_conduct.specs.declared.sides.Sides.{Sides}
use Rattle.lnbd_conduct.specs.Sides.{is_source}

either : (a b c : Bool) → b ≡ true → c ≡ true → a || (b && c) ≡ true
either true b c p q = refl
either false b c p q = ap (λ x. x && c) p ∙ q

neither : (a b c : Bool) → a ≡ false → c ≡ false → a || (b && c) ≡ false
neither a true c p q = ap (λ x. x || c) p ∙ q
neither a false c p q = ap (λ x. x || false) p

-- the handle behind a further connection of the source
pub further_source : (sides : Sides) (connection : ℕ) → 0 < connection → connection < sides.source → is_source sides (connection + 1) ≡ true
further_source sides connection some held = either (connection + 1 == 0) (nat_lt 1 (connection + 1)) (nat_le (connection + 1) sides.source) (lt-ltb 1 (connection + 1) (omega arith)) (le-leb (connection + 1) sides.source (omega arith))

not_first : (index : ℕ) → 0 < index → (index == 0) ≡ false
not_first index some = grind arith

-- a handle behind those of the source
pub behind_source : (sides : Sides) (index : ℕ) → sides.source < index → is_source sides index ≡ false
behind_source sides index behind = neither (index == 0) (nat_lt 1 index) (nat_le index sides.source) (not_first index (omega arith)) (lt-leb index sides.source behind)
