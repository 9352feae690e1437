-- The longest run at the front of some bytes.
use Rattle.std.proofs.Common.{◌≡◌, ◌∙◌, ℕ, ◌+◌, ◌<◌, true, false, List, [], ◌∷◌, ap, arith, drop, drop-cons, get_or, length, refl, subst, suc, sym, ⊎_elim}
use Rattle.std.specs.Prelude.{◌==◌, take_while}
use Rattle.std.specs.List.{prefix_len}
use Rattle.std.proofs.lemmas.Bool.{cases_Bool, eqb-true}
use Rattle.std.proofs.lemmas.Bool.Decides.{nat_tests}
use Rattle.std.proofs.lemmas.List.{drop-drop}
use Rattle.std.proofs.lemmas.List.Folds.{length-prefix_len}
use Rattle.lnbd_texts.specs.Runs.{runs, with_byte}

-- the run of the byte in front comes first
with_byte_first : (byte : ℕ) (rest : List (ℕ × ℕ)) → (count : ℕ) × (more : List (ℕ × ℕ)) × (with_byte byte rest ≡ (byte, count) ∷ more)
with_byte_first byte [] = (1, [], refl)
with_byte_first byte ((next, count) ∷ more) =
    ⊎_elim
    (λ same. (count + 1, more, (let e : next ≡ byte = sym (eqb-true byte next same) in rw same (ap (λ b. (b, count + 1) ∷ more) e))))
    (λ other. (1, (next, count) ∷ more, rw other refl))
    (cases_Bool (byte == next))

-- another byte begins a run of its own
with_byte_other : (byte next : ℕ) (rest : List (ℕ × ℕ)) → (byte == next) ≡ false → with_byte byte (with_byte next rest) ≡ (byte, 1) ∷ with_byte next rest
with_byte_other byte next rest other =
    let first = with_byte_first next rest in
    let e : with_byte next rest ≡ (next, first.0) ∷ first.1 = first.2 in
    rw (e, other) refl

-- an equal byte joins it
with_byte_same : (byte count : ℕ) (more : List (ℕ × ℕ)) → with_byte byte ((byte, count) ∷ more) ≡ (byte, count + 1) ∷ more
with_byte_same byte count more = let same : (byte == byte) ≡ true = grind (arith, nat_tests) in rw same refl

-- the equal bytes at the front are one run
longest_run : (byte : ℕ) (bytes : List ℕ)
    → runs (byte ∷ bytes) ≡ (byte, prefix_len (λ b. b == byte) bytes + 1) ∷ runs (drop (prefix_len (λ b. b == byte) bytes) bytes)
longest_run byte [] = refl
longest_run byte (next ∷ bytes) =
    let count : ℕ = prefix_len (λ b. b == byte) bytes in
    let more : List (ℕ × ℕ) = runs (drop count bytes) in
    ⊎_elim
    (λ same.
    let e : byte ≡ next = sym (eqb-true next byte same) in
    let front : with_byte next (runs bytes) ≡ (byte, count + 1) ∷ more =
    subst (λ b. with_byte b (runs bytes) ≡ (byte, count + 1) ∷ more) e (longest_run byte bytes) in
    let whole : with_byte byte (with_byte next (runs bytes)) ≡ (byte, count + 1 + 1) ∷ more = ap (with_byte byte) front ∙ with_byte_same byte (count + 1) more in
    let one : 1 + count ≡ suc count = omega arith in
    let two : count + 1 + 1 ≡ suc count + 1 = omega arith in
    rw (same, one) (whole ∙ ap (λ n. (byte, n) ∷ more) two))
    (λ other.
    let apart : (byte == next) ≡ false = grind (arith, nat_tests) in
    rw other (with_byte_other byte next (runs bytes) apart))
    (cases_Bool (next == byte))

-- the run that begins at a place
pub run_at_place : (bytes : List ℕ) (at count byte : ℕ) (rest : List ℕ) → at < length bytes → byte ≡ get_or bytes at 0 → rest ≡ drop at bytes
    → count ≡ length (take_while (λ other. other == byte) rest) → runs (drop at bytes) ≡ (get_or bytes at 0, count) ∷ runs (drop (at + count) bytes)
run_at_place bytes at count byte rest inside is_byte is_rest counted =
    let behind : List ℕ = drop (suc at) bytes in
    let further : ℕ = prefix_len (λ other. other == byte) behind in
    let split : drop at bytes ≡ byte ∷ behind = drop-cons bytes at 0 inside ∙ ap (λ b. b ∷ behind) (sym is_byte) in
    let same : (byte == byte) ≡ true = grind (arith, nat_tests) in
    let front : prefix_len (λ other. other == byte) (byte ∷ behind) ≡ 1 + further = rw same refl in
    let all : count ≡ 1 + further =
    counted ∙ length-prefix_len (λ other. other == byte) rest ∙ ap (prefix_len (λ other. other == byte)) (is_rest ∙ split) ∙ front in
    let place : suc at + further ≡ at + count = omega arith in
    let from_here : drop further behind ≡ drop (at + count) bytes = drop-drop further (suc at) bytes ∙ ap (λ n. drop n bytes) place in
    let one : further + 1 ≡ count = omega arith in
    let run : runs (drop at bytes) ≡ (byte, count) ∷ runs (drop (at + count) bytes) =
    ap runs split ∙ longest_run byte behind ∙ ap (λ n. (byte, n) ∷ runs (drop further behind)) one ∙ ap (λ xs. (byte, count) ∷ runs xs) from_here in
    run ∙ ap (λ b. (b, count) ∷ runs (drop (at + count) bytes)) is_byte
