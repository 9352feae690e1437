use Rattle.std.proofs.Common.{◌≡◌, ℕ, ◌+◌, ◌*◌, ◌%◌, ◌∙◌, nat_lt, ap, sym, arith}
use Rattle.std.proofs.Math.Pow.{mod-mod-pow}
use Rattle.std.proofs.lemmas.Nat.{mul-mod_first}
use Rattle.lnbd_export.specs.Generated.{mixed}
use Rattle.lnbd_rehearsal.proofs.sums.is_zero_block.Goals as goal

odd : (s : ℕ) → (s * 2 % 18446744073709551616 + 1) % 18446744073709551616 % 4294967296 ≡ (2 * s + 1) % 4294967296
odd s = omega arith

-- a product that wraps at 2^64 is the same below 2^32
below : (x y z : ℕ) → x % 4294967296 ≡ z % 4294967296 → (x * y) % 18446744073709551616 % 4294967296 ≡ (z * y) % 4294967296
below x y z e = mod-mod-pow (x * y) 32 32 ∙ sym (mul-mod_first x y 4294967296) ∙ ap (λ (n : ℕ). (n * y) % 4294967296) e ∙ mul-mod_first z y 4294967296

mixed_is : (s b : ℕ) → (((s * 2 % 18446744073709551616 + 1) % 18446744073709551616 * (b + 1)) % 18446744073709551616 * 2654435761) % 18446744073709551616 % 4294967296 ≡ mixed s b
mixed_is s b =
    below (((s * 2 % 18446744073709551616 + 1) % 18446744073709551616 * (b + 1)) % 18446744073709551616) 2654435761 ((2 * s + 1) * (b + 1))
    (below ((s * 2 % 18446744073709551616 + 1) % 18446744073709551616) (b + 1) (2 * s + 1) (odd s))

pub returns : goal.returns
returns c = ap (λ (n : ℕ). nat_lt n 1073741824) (mixed_is c.args.seed c.args.block)
