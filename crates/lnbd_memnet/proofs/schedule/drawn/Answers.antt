use Rattle.std.proofs.Common.{◌≡◌, ℕ, ◌+◌, ◌*◌, ◌%◌, ◌∙◌, ap, sym, arith}
use Rattle.std.proofs.Math.Pow.{mod-mod-pow}
use Rattle.std.proofs.lemmas.Nat.{mul-mod_first, mul-mod_second}
use Rattle.lnbd_memnet.specs.Schedule.{drawn}
use Rattle.lnbd_memnet.proofs.schedule.drawn.Goals as goal

odd : (s : ℕ) → (s * 2 % 18446744073709551616 + 1) % 18446744073709551616 % 65536 ≡ (2 * s + 1) % 65536
odd s = omega arith

next : (t : ℕ) → (t + 1) % 18446744073709551616 % 65536 ≡ (t + 1) % 65536
next t = omega arith

-- a product that wraps at 2^64 is the same below 2^16
below : (x y z : ℕ) → x % 65536 ≡ z % 65536 → (x * y) % 18446744073709551616 % 65536 ≡ (z * y) % 65536
below x y z e = mod-mod-pow (x * y) 48 16 ∙ sym (mul-mod_first x y 65536) ∙ ap (λ (n : ℕ). (n * y) % 65536) e ∙ mul-mod_first z y 65536

second : (a t : ℕ) → (a * ((t + 1) % 18446744073709551616)) % 65536 ≡ (a * (t + 1)) % 65536
second a t = sym (mul-mod_second a ((t + 1) % 18446744073709551616) 65536) ∙ ap (λ (n : ℕ). (a * n) % 65536) (next t) ∙ mul-mod_second a (t + 1) 65536

drawn_is : (s t : ℕ) → (((s * 2 % 18446744073709551616 + 1) % 18446744073709551616 * ((t + 1) % 18446744073709551616)) % 18446744073709551616 * 40503) % 18446744073709551616 % 65536 ≡ drawn s t
drawn_is s t =
    below (((s * 2 % 18446744073709551616 + 1) % 18446744073709551616 * ((t + 1) % 18446744073709551616)) % 18446744073709551616) 40503 ((2 * s + 1) * (t + 1))
    (below ((s * 2 % 18446744073709551616 + 1) % 18446744073709551616) ((t + 1) % 18446744073709551616) (2 * s + 1) (odd s) ∙ second (2 * s + 1) t)

pub returns-clause-number : goal.returns-clause-number
returns-clause-number c = drawn_is c.args.seed c.args.turn
