-- Zeros in number: behind two groups of them, groups of zeros say nothing.
use Rattle.std.proofs.Common.{◌≡◌, ◌∙◌, ℕ, zero, suc, ◌+◌, ◌-◌, ◌*◌, ◌/◌, ◌%◌, ◌<◌, ◌≤◌, ◌&&◌, Bool, true, false, List}
use Rattle.std.proofs.Common.{[], ◌++◌, length, take, drop, replicate, sym, ap, subst, arith, append-nil, append_assoc, length-append, nat_lt, nat_le, codes}
use Rattle.std.specs.Prelude.{if◌then◌else◌, Result, Ok, Err, OnOk}
use Rattle.std.specs.Str.{bytes_eq}
use Rattle.std.proofs.lemmas.Bool.{lt-ltb}
use Rattle.std.proofs.lemmas.List.{length-replicate, drop-replicate, take-replicate, replicate-append-replicate}
use Rattle.std.proofs.Math.Seq.{drop-append-add}
use Rattle.lnbd_hexdump.specs.Dump.{group, group_line, is_repeat}
use Rattle.lnbd_hexdump.specs.Said.{Fed, IsAt, Kept, Stands, early_line, early_lines, said, settled}
use Rattle.lnbd_hexdump.proofs.SaidLemmas.{lines_stay, one_more, said_as}

-- so many zeros behind some bytes
abbrev pub zeroed : List ℕ → ℕ → List ℕ
zeroed bytes n = bytes ++ replicate n 0

length_zeroed : (bytes : List ℕ) (n : ℕ) → length (zeroed bytes n) ≡ length bytes + n
length_zeroed bytes n = length-append bytes (replicate n 0) ∙ ap (λ (k : ℕ). length bytes + k) (length-replicate n 0)

-- what lies behind the bytes are zeros
behind : (bytes : List ℕ) (n at : ℕ) → length bytes ≤ at → drop at (zeroed bytes n) ≡ replicate (n - (at - length bytes)) 0
behind bytes n at most =
    let e : at ≡ length bytes + (at - length bytes) = omega arith in
    ap (λ (k : ℕ). drop k (zeroed bytes n)) e ∙ drop-append-add bytes (replicate n 0) (at - length bytes) ∙ drop-replicate (at - length bytes) n 0

zero_group : (bytes : List ℕ) (n k : ℕ) → length bytes ≤ 16 * k → 16 * (k + 1) ≤ length bytes + n → group (zeroed bytes n) k ≡ replicate 16 0
zero_group bytes n k low high = ap (λ (t : List ℕ). take 16 t) (behind bytes n (16 * k) low) ∙ take-replicate 16 (n - (16 * k - length bytes)) 0 (omega arith)

-- a group of zeros behind one is a repeat
zero_repeat : (bytes : List ℕ) (n k : ℕ) → length bytes + 16 ≤ 16 * k → 16 * (k + 1) ≤ length bytes + n → is_repeat (zeroed bytes n) k ≡ true
zero_repeat bytes n k low high =
    let here = zero_group bytes n k (omega arith) high in
    let there = zero_group bytes n (k - 1) (omega arith) (omega arith) in
    let some : nat_lt 0 k ≡ true = lt-ltb 0 k (omega arith) in
    ap (λ (b : Bool). b && bytes_eq (group (zeroed bytes n) k) (group (zeroed bytes n) (k - 1))) some
    ∙ ap (λ (t : List ℕ). bytes_eq t (group (zeroed bytes n) (k - 1))) here
    ∙ ap (λ (t : List ℕ). bytes_eq (replicate 16 0) t) there

-- and behind two it has no line
zero_line : (first : ℕ) (bytes : List ℕ) (n k : ℕ) → length bytes + 32 ≤ 16 * k → 16 * (k + 1) ≤ length bytes + n → early_line first (zeroed bytes n) k ≡ []
zero_line first bytes n k low high =
    let one = zero_repeat bytes n k (omega arith) high in
    let two = zero_repeat bytes n (k - 1) (omega arith) (omega arith) in
    ap (λ (b : Bool). if b then (if is_repeat (zeroed bytes n) (k - 1) then [] else codes "*\n") else group_line (first + 16 * k) (group (zeroed bytes n) k)) one
    ∙ ap (λ (b : Bool). if b then [] else codes "*\n") two

-- nor have many
no_lines : (first : ℕ) (bytes : List ℕ) (n k j : ℕ) → length bytes + 32 ≤ 16 * k → 16 * (k + j) ≤ length bytes + n
    → early_lines first (zeroed bytes n) (k + j) ≡ early_lines first (zeroed bytes n) k
no_lines first bytes n k zero low high = let e : k + 0 ≡ k = omega arith in ap (λ (m : ℕ). early_lines first (zeroed bytes n) m) e
no_lines first bytes n k (suc j) low high =
    let e : k + suc j ≡ (k + j) + 1 = omega arith in
    ap (λ (m : ℕ). early_lines first (zeroed bytes n) m) e
    ∙ one_more first (zeroed bytes n) (k + j)
    ∙ ap (λ (t : List ℕ). early_lines first (zeroed bytes n) (k + j) ++ t) (zero_line first bytes n (k + j) (omega arith) (omega arith))
    ∙ append-nil (early_lines first (zeroed bytes n) (k + j))
    ∙ no_lines first bytes n k j low (omega arith)

-- many groups of zeros on
abbrev pub skipped : Kept → ℕ → Kept
skipped kept j = record kept { at = kept.at + 16 * j }

settled_on : (n j : ℕ) → 1 ≤ n → settled (n + 16 * j) ≡ settled n + j
settled_on n j some = omega arith

split : (bytes : List ℕ) (n m : ℕ) → zeroed bytes (n + m) ≡ zeroed bytes n ++ replicate m 0
split bytes n m = ap (λ (t : List ℕ). bytes ++ t) (sym (replicate-append-replicate n m 0)) ∙ sym (append_assoc bytes (replicate n 0) (replicate m 0))

pub skips : (first : ℕ) (bytes : List ℕ) (j : ℕ) (kept : Kept) → Stands first (zeroed bytes 64) kept
    → Stands first (zeroed bytes (64 + 16 * j)) (skipped kept j) × (said first (zeroed bytes (64 + 16 * j)) ≡ said first (zeroed bytes 64))
skips first bytes j kept is =
    let n : ℕ = length bytes + 64 in
    let gone : ℕ = settled n in
    let long : length (zeroed bytes 64) ≡ n = length_zeroed bytes 64 in
    let longer : length (zeroed bytes (64 + 16 * j)) ≡ n + 16 * j = length_zeroed bytes (64 + 16 * j) ∙ (omega arith) in
    let at_gone : IsAt first (zeroed bytes 64) gone kept = subst (λ (k : ℕ). IsAt first (zeroed bytes 64) (settled k) kept) long is in
    let on : settled (length (zeroed bytes (64 + 16 * j))) ≡ gone + j = ap settled longer ∙ settled_on n j (omega arith) in
    let counted : length (zeroed bytes 64) ≡ 16 * gone + length kept.pending = at_gone.count in
    let placed : kept.at ≡ first + 16 * gone = at_gone.at in
    let most : length kept.pending ≤ 16 = at_gone.most in
    let low : length bytes + 47 < 16 * gone + 16 = omega arith in
    let tail : kept.pending ≡ replicate (64 - (16 * gone - length bytes)) 0 = at_gone.pending ∙ behind bytes 64 (16 * gone) (omega arith) in
    let tail' : drop (16 * (gone + j)) (zeroed bytes (64 + 16 * j)) ≡ replicate (64 + 16 * j - (16 * (gone + j) - length bytes)) 0 = behind bytes (64 + 16 * j) (16 * (gone + j)) (omega arith) in
    let rest : 64 - (16 * gone - length bytes) ≡ 64 + 16 * j - (16 * (gone + j) - length bytes) = omega arith in
    let some : nat_le gone 0 ≡ false = grind arith in
    let some' : nat_le (gone + j) 0 ≡ false = grind arith in
    let before : kept.before ≡ replicate 16 0 =
    at_gone.before ∙ ap (λ (b : Bool). if b then [] else group (zeroed bytes 64) (gone - 1)) some ∙ zero_group bytes 64 (gone - 1) (omega arith) (omega arith) in
    let before' : (if nat_le (gone + j) 0 then [] else group (zeroed bytes (64 + 16 * j)) (gone + j - 1)) ≡ replicate 16 0 =
    ap (λ (b : Bool). if b then [] else group (zeroed bytes (64 + 16 * j)) (gone + j - 1)) some' ∙ zero_group bytes (64 + 16 * j) (gone + j - 1) (omega arith) (omega arith) in
    let repeated : kept.repeated ≡ true = at_gone.repeated ∙ zero_repeat bytes 64 (gone - 1) (omega arith) (omega arith) in
    let repeated' : is_repeat (zeroed bytes (64 + 16 * j)) (gone + j - 1) ≡ true = zero_repeat bytes (64 + 16 * j) (gone + j - 1) (omega arith) (omega arith) in
    let there : IsAt first (zeroed bytes (64 + 16 * j)) (gone + j) (skipped kept j) = record {
      at = omega arith;
      count = rw longer (omega arith);
      most = at_gone.most;
      pending = tail ∙ ap (λ (k : ℕ). replicate k 0) rest ∙ sym tail';
      before = before ∙ sym before';
      repeated = repeated ∙ sym repeated';
    } in
    let none = no_lines first bytes (64 + 16 * j) gone j (omega arith) (omega arith) in
    let front : early_lines first (zeroed bytes (64 + 16 * j)) gone ≡ early_lines first (zeroed bytes 64) gone =
    ap (λ (t : List ℕ). early_lines first t gone) (split bytes 64 (16 * j)) ∙ lines_stay first (zeroed bytes 64) (replicate (16 * j) 0) gone (omega arith) in (
      subst (λ (k : ℕ). IsAt first (zeroed bytes (64 + 16 * j)) k (skipped kept j)) (sym on) there,
      said_as first (zeroed bytes (64 + 16 * j)) (gone + j) on ∙ none ∙ front ∙ sym (said_as first (zeroed bytes 64) gone (ap settled long)),
    )

-- zeros in number, by the first 64 of them, the groups that say nothing, and what is left
pub fed_zeros : (kept between after : Kept) (j r : ℕ) (text text' text'' : List ℕ) → Fed kept between (replicate 64 0) text text' → Fed (skipped between j) after (replicate r 0) text' text''
    → Fed kept after (replicate (64 + 16 * j + r) 0) text text''
fed_zeros kept between after j r text text' text'' one two first bytes is =
    let a = one first bytes is in
    let s = skips first bytes j between a.0 in
    let b = two first (zeroed bytes (64 + 16 * j)) s.0 in
    let whole : zeroed bytes (64 + 16 * j) ++ replicate r 0 ≡ zeroed bytes (64 + 16 * j + r) = sym (split bytes (64 + 16 * j) r) in (
      subst (λ (t : List ℕ). Stands first t after) whole b.0,
      record {
        part = a.1.part ++ b.1.part;
        text_is = b.1.text_is ∙ ap (λ (t : List ℕ). t ++ b.1.part) a.1.text_is ∙ append_assoc text a.1.part b.1.part;
        said_is = ap (λ (t : List ℕ). said first t) (sym whole) ∙ b.1.said_is ∙ ap (λ (t : List ℕ). t ++ b.1.part) (s.1 ∙ a.1.said_is) ∙ append_assoc (said first bytes) a.1.part b.1.part;
      },
    )

pub fed_many : {E : Type 0} (r : Result (Unit {0}) E) (kept between skip after : Kept) (count : ℕ) (text text' text'' : List ℕ) → 64 < count
    → Fed kept between (replicate 64 0) text text' → skip ≡ skipped between ((count - 64) / 16) → OnOk r (Fed skip after (replicate ((count - 64) % 16) 0) text' text'')
    → OnOk r (Fed kept after (replicate count 0) text text'')
fed_many (Ok done) kept between skip after count text text' text'' many one e two =
    let j : ℕ = (count - 64) / 16 in
    let r : ℕ = (count - 64) % 16 in
    let all : 64 + 16 * j + r ≡ count = omega arith in
    subst (λ (n : ℕ). Fed kept after (replicate n 0) text text'') all (fed_zeros kept between after j r text text' text'' one (subst (λ (k : Kept). Fed k after (replicate r 0) text' text'') e two))
fed_many (Err e) kept between skip after count text text' text'' many one is told = told
