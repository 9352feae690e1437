-- The sums of blocks, block by block.
use Rattle.std.proofs.Common.{◌≡◌, ◌≤◌, ℕ, ◌+◌, ◌-◌, Bool, not, List, length, if◌then◌else◌, add-one, ap, sym, ◌∙◌, refl, arith}
use Rattle.lnbd_export.specs.Generated.{is_zero_block}
use Rattle.lnbd_plan.specs.declared.summary.Summary.{Summary}
use Rattle.lnbd_rehearsal.specs.Sums.{block_of, blocks, bytes_in, holds_data, read_of, sums_of, written_of}

-- no block yet
pub none_yet : (such : ℕ → Bool) (bytes : List ℕ) → 0 ≡ bytes_in such bytes 0
unfolding bytes_in
none_yet such bytes = refl

after_one : (such : ℕ → Bool) (bytes : List ℕ) (block : ℕ) → bytes_in such bytes (block + 1) ≡ bytes_in such bytes block + (if such block then length (block_of bytes block) else 0)
unfolding bytes_in
after_one such bytes block = ap (λ (k : ℕ). bytes_in such bytes k) (add-one block)

-- one block more
pub one_more : (such : ℕ → Bool) (bytes : List ℕ) (block sum count more : ℕ) (is : Bool) → sum ≡ bytes_in such bytes block → is ≡ such block → count ≡ length (block_of bytes block) → more ≡ (if is then count else 0)
    → sum + more ≡ bytes_in such bytes (block + 1)
one_more such bytes block sum count more is so_far same long added =
    ap (λ (n : ℕ). n + more) so_far
    ∙ ap (λ (n : ℕ). bytes_in such bytes block + n) (added ∙ ap (λ (b : Bool). if b then count else 0) same ∙ ap (λ (n : ℕ). if such block then n else 0) long)
    ∙ sym (after_one such bytes block)

-- all blocks
abbrev summary : (read written zeroed : ℕ) → Summary
summary read written zeroed = record { read = read; written = written; zeroed = zeroed; skipped = 0 }

pub all_blocks : (seed : ℕ) (bytes : List ℕ) (read written zeroed block end : ℕ) → read ≡ bytes_in (λ (k : ℕ). not (is_zero_block seed k)) bytes block → written ≡ bytes_in (λ (k : ℕ). holds_data (block_of bytes k)) bytes block
    → end ≡ blocks bytes → end ≤ block → block ≤ end → zeroed ≡ length bytes - written → record { read = read; written = written; zeroed = zeroed; skipped = 0 } ≡ sums_of seed bytes
all_blocks seed bytes read written zeroed block end reads writes ends past within zeroes =
    let same : block ≡ end = omega (arith, past, within) in
    let r : read ≡ read_of seed bytes = reads ∙ ap (λ (n : ℕ). bytes_in (λ (k : ℕ). not (is_zero_block seed k)) bytes n) (same ∙ ends) in
    let w : written ≡ written_of bytes = writes ∙ ap (λ (n : ℕ). bytes_in (λ (k : ℕ). holds_data (block_of bytes k)) bytes n) (same ∙ ends) in
    ap (λ (n : ℕ). summary n written zeroed) r
    ∙ ap (λ (n : ℕ). summary (read_of seed bytes) n zeroed) w
    ∙ ap (λ (n : ℕ). summary (read_of seed bytes) (written_of bytes) n) (zeroes ∙ ap (λ (n : ℕ). length bytes - n) w)
