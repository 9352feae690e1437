-- Writes and cuts of a file's bytes.
use Rattle.std.proofs.Common.{◌≡◌, ℕ, ◌+◌, ◌-◌, ◌<◌, ◌≤◌, List, ◌++◌, ap, sym, subst, ◌∙◌, arith, length, take, drop, replicate, ◌⊎◌, inl, inr}
use Rattle.std.proofs.lemmas.Grind.{common_steps}
use Rattle.std.proofs.lemmas.Bool.{cases_lt}
use Rattle.std.proofs.Math.Seq.{take-append-add}
use Rattle.std.proofs.lemmas.List.{take-replicate}
use Rattle.lnbd_store.specs.Bytes.{put_at, cut_to, put, Grown}

-- where there is room a write grows nothing
pub put_there : (offset : ℕ) (from bytes : List ℕ) → offset + length from ≤ length bytes → put_at offset from bytes ≡ put offset from bytes
put_there offset from bytes h = grind (arith, common_steps)

cut_longer : (n : ℕ) (bytes : List ℕ) → length bytes ≤ n → cut_to n bytes ≡ bytes ++ replicate (n - length bytes) 0
cut_longer n bytes h = grind (arith, common_steps)

take_longer : (at n : ℕ) (bytes : List ℕ) → length bytes ≤ n → at ≤ n → take at (bytes ++ replicate (n - length bytes) 0) ≡ cut_to at bytes
take_longer at n bytes h k = go (cases_lt at (length bytes))
  where
    go : (at < length bytes) ⊎ (length bytes ≤ at) → take at (bytes ++ replicate (n - length bytes) 0) ≡ cut_to at bytes
    go (inl l) = grind (arith, common_steps)
    go (inr l) = let e : length bytes + (at - length bytes) ≡ at = omega (arith, l) in
        subst (λ (m : ℕ). take m (bytes ++ replicate (n - length bytes) 0) ≡ bytes ++ replicate (at - length bytes) 0) e
        (take-append-add bytes (replicate {A = ℕ} (n - length bytes) 0) (at - length bytes) ∙ ap (λ x. bytes ++ x) (take-replicate (at - length bytes) (n - length bytes) 0 (omega (arith, l, k))))
        ∙ sym (cut_longer at bytes l)

-- past the end zeros are put first
pub put_grown : (offset : ℕ) (from bytes : List ℕ) → length bytes < offset + length from → put offset from (cut_to (offset + length from) bytes) ≡ put_at offset from bytes
put_grown offset from bytes h =
    let e = cut_longer (offset + length from) bytes (omega (arith, h)) in
    let t = take_longer offset (offset + length from) bytes (omega (arith, h)) (omega arith) in
    let d : drop (offset + length from) (bytes ++ replicate (offset + length from - length bytes) 0) ≡ drop (offset + length from) bytes = grind (arith, common_steps) in
    ap (put offset from) e ∙ ap (λ front. front ++ (from ++ drop (offset + length from) (bytes ++ replicate (offset + length from - length bytes) 0))) t ∙ ap (λ back. cut_to offset bytes ++ (from ++ back)) d

pub grown_there : (end : ℕ) (bytes : List ℕ) → end ≤ length bytes → Grown end bytes bytes
grown_there end bytes h = record { room = h; on = λ offset from e. sym (put_there offset from bytes (omega (arith, e, h))) }

pub grown_to : (end : ℕ) (bytes : List ℕ) → length bytes < end → Grown end bytes (cut_to end bytes)
grown_to end bytes h = record {
  room = grind (arith, common_steps);
  on = λ offset from e. subst (λ (n : ℕ). put offset from (cut_to n bytes) ≡ put_at offset from bytes) e (put_grown offset from bytes (omega (arith, e, h)));
}
