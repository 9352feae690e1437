-- The head of an option reply that `lnbd_options` read, by the numbers that stand in the bytes.
use Rattle.std.proofs.Common.{◌≡◌, ◌≢◌, ℕ, ◌<◌, ◌≤◌, true, false, nat_lt, List, [], Some, None, length, inl, inr, refl, sym, ◌∙◌, arith, ◌==◌}
use Rattle.std.proofs.lemmas.Grind.{common_steps}
use Rattle.lnbd_model.specs.declared.breach.Breach.TheVariants.{BadOptionMagic}
use Rattle.lnbd_records.specs.Numbers.{number_at}
use Rattle.lnbd_records.specs.Fronts.{IsFront}
use Rattle.lnbd_records.specs.Handshake.{option_reply_magic}
use Rattle.lnbd_records.proofs.NumberLaws.{begins_read, first_of}
use Rattle.lnbd_options.specs.Heads.{reply_fields, front_of}
use Rattle.lnbd_options.specs.declared.head.OptionHead.{OptionHead}
use Rattle.lnbd_options.specs.declared.head.Read64.{Read64}
use Rattle.lnbd_options.specs.declared.head.Read64.TheVariants.{Value, NeedMore, BadMagic}
use Rattle.lnbd_history.specs.Arrivals.{Broken, Sight, shows_option}
use Rattle.lnbd_stream.specs.Grammar.{once, wants}
use Rattle.lnbd_negotiate.specs.Reading.{IsHeadRead}

before_magic : (sight : Sight) (bytes : List ℕ) → length bytes < 8 → shows_option sight bytes ≡ None
unfolding shows_option once
before_magic sight bytes less =
    let short : nat_lt (length bytes) 8 ≡ true = grind (arith, common_steps) in
    rw short refl

before_end : (sight : Sight) (bytes : List ℕ) → 8 ≤ length bytes → number_at 0 8 bytes ≡ option_reply_magic → length bytes < 20 → shows_option sight bytes ≡ None
unfolding shows_option once wants
before_end sight bytes there magic less =
    let long : nat_lt (length bytes) 8 ≡ false = grind (arith, common_steps) in
    let short : nat_lt (length bytes) 20 ≡ true = grind (arith, common_steps) in
    let is : (number_at 0 8 bytes == option_reply_magic) ≡ true = rw magic refl in
    rw (long, is, short) refl

bad_magic : (sight : Sight) (bytes : List ℕ) → 8 ≤ length bytes → number_at 0 8 bytes ≢ option_reply_magic → shows_option sight bytes ≡ Some (Broken BadOptionMagic)
unfolding shows_option once wants
bad_magic sight bytes there other =
    let long : nat_lt (length bytes) 8 ≡ false = grind (arith, common_steps) in
    let is : (number_at 0 8 bytes == option_reply_magic) ≡ false = grind (arith, common_steps, other) in
    rw (long, is) refl

pub head_read : (read : Read64 OptionHead) (bytes : List ℕ) → IsFront reply_fields 8 option_reply_magic 20 bytes (front_of read) → IsHeadRead bytes read
head_read (Value head) bytes front =
    let r = begins_read (reply_fields head) bytes front in
    let e = r.fields in
    record { there = omega (arith, r.long); magic = cc; option = cc; kind = cc; size = cc }
head_read NeedMore bytes front = λ sight. elim front [
  | inl less ↦ before_magic sight bytes less
  | inr begun ↦ let f = first_of 8 option_reply_magic [] bytes begun.0 in before_end sight bytes f.0 f.1 begun.1
]
head_read (BadMagic other) bytes front = λ sight.
    let f = first_of 8 other [] bytes front.1 in
    bad_magic sight bytes f.0 (λ same. front.0 (sym f.1 ∙ same))
