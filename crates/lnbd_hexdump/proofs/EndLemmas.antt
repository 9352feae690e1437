-- The last group, and that what is said is a front of the whole.
use Rattle.std.proofs.Common.{◌≡◌, ◌∙◌, ℕ, zero, suc, ◌+◌, ◌-◌, ◌*◌, ◌<◌, ◌≤◌, ◌&&◌, Bool, true, false}
use Rattle.std.proofs.Common.{List, [], ◌++◌, length, refl, sym, ap, subst, arith, append-nil, append_assoc, length-append, nat_lt, codes}
use Rattle.std.specs.Prelude.{if◌then◌else◌, Result, Ok, Err, OnOk}
use Rattle.std.proofs.lemmas.Bool.{lt-ltb, le-ltb}
use Rattle.lnbd_hexdump.specs.Dump.{dump, group, group_line, groups, is_repeat, is_squeezed, line, lines}
use Rattle.lnbd_hexdump.specs.Said.{Ends, IsFront, Kept, Stands, early_line, early_lines, said, settled}
use Rattle.lnbd_hexdump.proofs.SaidLemmas.{is_gone_group, lines_stay, said_as}

and_true : (b c : Bool) → c ≡ true → (b && c) ≡ b
and_true true c e = e
and_true false c e = refl

and_false : (b c : Bool) → c ≡ false → (b && c) ≡ false
and_false true c e = e
and_false false c e = refl

squeezed_early : (bytes : List ℕ) (k : ℕ) → k < settled (length bytes) → is_squeezed bytes k ≡ is_repeat bytes k
squeezed_early bytes k lt = and_true (is_repeat bytes k) (nat_lt (k + 1) (groups (length bytes))) (lt-ltb (k + 1) (groups (length bytes)) (omega arith))

line_early : (first : ℕ) (bytes : List ℕ) (k : ℕ) → k < settled (length bytes) → line first bytes k ≡ early_line first bytes k
line_early first bytes k lt =
    ap (λ (b : Bool). if b then (if is_squeezed bytes (k - 1) then [] else codes "*\n") else group_line (first + 16 * k) (group bytes k)) (squeezed_early bytes k lt)
    ∙ ap (λ (b : Bool). if is_repeat bytes k then (if b then [] else codes "*\n") else group_line (first + 16 * k) (group bytes k)) (squeezed_early bytes (k - 1) (omega arith))

lines_early : (first : ℕ) (bytes : List ℕ) (n : ℕ) → n ≤ settled (length bytes) → lines first bytes n ≡ early_lines first bytes n
lines_early first bytes zero le = refl
lines_early first bytes (suc k) le =
    ap (λ (t : List ℕ). t ++ line first bytes k) (lines_early first bytes k (omega arith)) ∙ ap (λ (t : List ℕ). early_lines first bytes k ++ t) (line_early first bytes k (omega arith))

-- the last line, where there is one
last_line : (first : ℕ) (bytes : List ℕ) (kept : Kept) → Stands first bytes kept → 0 < length bytes → line first bytes (settled (length bytes)) ≡ group_line kept.at kept.pending
last_line first bytes kept is some =
    let k : ℕ = settled (length bytes) in
    let off : is_squeezed bytes k ≡ false = and_false (is_repeat bytes k) (nat_lt (k + 1) (groups (length bytes))) (le-ltb (k + 1) (groups (length bytes)) (omega arith)) in
    ap (λ (b : Bool). if b then (if is_squeezed bytes (k - 1) then [] else codes "*\n") else group_line (first + 16 * k) (group bytes k)) off
    ∙ ap (λ (t : List ℕ). group_line (first + 16 * k) t) (is_gone_group first bytes k kept is)
    ∙ ap (λ (n : ℕ). group_line n kept.pending) (sym is.at)

dump_as : (first : ℕ) (bytes : List ℕ) (n : ℕ) → groups (length bytes) ≡ n → dump first bytes ≡ lines first bytes n
unfolding dump
dump_as first bytes n e = ap (λ (k : ℕ). lines first bytes k) e

pub ends_with_line : (kept : Kept) (text : List ℕ) → 0 < length kept.pending → Ends kept text (text ++ group_line kept.at kept.pending)
ends_with_line kept text some first bytes is =
    let counted = is.count in
    let n : groups (length bytes) ≡ suc (settled (length bytes)) = omega arith in
    let whole = dump_as first bytes (suc (settled (length bytes))) n in
    let front = lines_early first bytes (settled (length bytes)) (omega arith) ∙ sym (said_as first bytes (settled (length bytes)) refl) in (
      group_line kept.at kept.pending,
      refl,
      whole ∙ ap (λ (t : List ℕ). t ++ line first bytes (settled (length bytes))) front ∙ ap (λ (t : List ℕ). said first bytes ++ t) (last_line first bytes kept is (omega arith)),
    )

pub ends_empty : (kept : Kept) (text : List ℕ) → length kept.pending ≡ 0 → Ends kept text text
ends_empty kept text none first bytes is =
    let counted = is.count in
    let no : groups (length bytes) ≡ 0 = omega arith in
    let still : settled (length bytes) ≡ 0 = omega arith in
    ([], sym (append-nil text), dump_as first bytes 0 no ∙ sym (append-nil []) ∙ ap (λ (t : List ℕ). t ++ []) (sym (said_as first bytes 0 still)))

-- ---- a front

further : (first : ℕ) (bytes : List ℕ) (n d : ℕ) → (rest : List ℕ) × (lines first bytes (n + d) ≡ lines first bytes n ++ rest)
further first bytes n zero = ([], ap (λ (k : ℕ). lines first bytes k) zero_more ∙ sym (append-nil (lines first bytes n)))
  where
    zero_more : n + 0 ≡ n
    zero_more = omega arith
further first bytes n (suc d) =
    let h = further first bytes n d in
    let e : n + suc d ≡ suc (n + d) = omega arith in (
      h.0 ++ line first bytes (n + d),
      ap (λ (k : ℕ). lines first bytes k) e ∙ ap (λ (t : List ℕ). t ++ line first bytes (n + d)) h.1 ∙ append_assoc (lines first bytes n) h.0 (line first bytes (n + d)),
    )

pub said_front : (first : ℕ) (bytes more : List ℕ) → IsFront (said first bytes) (dump first (bytes ++ more))
said_front first bytes more =
    let n : ℕ = settled (length bytes) in
    let long = length-append bytes more in
    let all : groups (length (bytes ++ more)) ≡ n + (groups (length (bytes ++ more)) - n) = omega arith in
    let h = further first (bytes ++ more) n (groups (length (bytes ++ more)) - n) in
    let early = lines_early first (bytes ++ more) n (omega arith) ∙ lines_stay first bytes more n (omega arith) ∙ sym (said_as first bytes n refl) in
    record { rest = h.0; is = dump_as first (bytes ++ more) (n + (groups (length (bytes ++ more)) - n)) all ∙ h.1 ∙ ap (λ (t : List ℕ). t ++ h.0) early }

pub ends_pushed : {E : Type 0} (r : Result (Unit {0}) E) (kept : Kept) (text now : List ℕ) → 0 < length kept.pending
    → OnOk r (now ≡ text ++ group_line kept.at kept.pending) → OnOk r (Ends kept text now)
ends_pushed (Ok done) kept text now some e = subst (λ (t : List ℕ). Ends kept text t) (sym e) (ends_with_line kept text some)
ends_pushed (Err e) kept text now some told = told
