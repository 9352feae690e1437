-- How many bytes an option reply has, by its head that was read.
use Rattle.std.proofs.Common.{◌≡◌, ◌≢◌, ℕ, ◌+◌, ◌<◌, Bool, true, false, not, ◌||◌, ◌==◌, if◌then◌else◌, nat_lt, List, [], length, inl, inr, refl, sym, ◌∙◌, arith}
use Rattle.std.proofs.lemmas.Grind.{common_steps}
use Rattle.lnbd_records.specs.Fronts.{IsFront}
use Rattle.lnbd_records.specs.Handshake.{option_reply_magic}
use Rattle.lnbd_records.specs.Numbers.{number_at}
use Rattle.lnbd_records.proofs.NumberLaws.{first_of}
use Rattle.lnbd_options.specs.Heads.{reply_fields, front_of}
use Rattle.lnbd_options.specs.declared.head.OptionHead.{OptionHead}
use Rattle.lnbd_options.specs.declared.head.Read64.{Read64}
use Rattle.lnbd_options.specs.declared.head.Read64.TheVariants.{Value, NeedMore, BadMagic}
use Rattle.lnbd_negotiate.proofs.Headed.{head_read}

abbrev size_read : Read64 OptionHead → ℕ
size_read (Value head) = 20 + head.length
size_read NeedMore = 20
size_read (BadMagic other) = 20

no_head : (bytes : List ℕ) → length bytes < 20 → (if nat_lt (length bytes) 20 || not (number_at 0 8 bytes == option_reply_magic) then 20 else 20 + number_at 16 4 bytes) ≡ 20
no_head bytes less =
    let short : nat_lt (length bytes) 20 ≡ true = grind (arith, common_steps) in
    rw short refl

no_magic : (short : Bool) (bytes : List ℕ) → number_at 0 8 bytes ≢ option_reply_magic → (if short || not (number_at 0 8 bytes == option_reply_magic) then 20 else 20 + number_at 16 4 bytes) ≡ 20
no_magic true bytes other = refl
no_magic false bytes other =
    let is : (number_at 0 8 bytes == option_reply_magic) ≡ false = grind (arith, common_steps, other) in
    rw is refl

pub option_size_is : (read : Read64 OptionHead) (bytes : List ℕ) → IsFront reply_fields 8 option_reply_magic 20 bytes (front_of read) →
    size_read read ≡ (if nat_lt (length bytes) 20 || not (number_at 0 8 bytes == option_reply_magic) then 20 else 20 + number_at 16 4 bytes)
option_size_is (Value head) bytes front =
    let h = head_read (Value head) bytes front in
    let there = h.there in
    let long : nat_lt (length bytes) 20 ≡ false = grind (arith, common_steps) in
    let is : (number_at 0 8 bytes == option_reply_magic) ≡ true = rw h.magic refl in
    rw (long, is, h.size) refl
option_size_is NeedMore bytes front = elim front [
  | inl less ↦ sym (no_head bytes (omega (arith, less)))
  | inr begun ↦ sym (no_head bytes begun.1)
]
option_size_is (BadMagic other) bytes front =
    let f = first_of 8 other [] bytes front.1 in
    sym (no_magic (nat_lt (length bytes) 20) bytes (λ same. front.0 (sym f.1 ∙ same)))
