-- A hello, and a reply to an option, that may come is told.
use Rattle.std.proofs.Common.{◌≡◌, ◌≢◌, ℕ, ◌+◌, ◌^◌, ◌<◌, Bool, true, false, not, ◌&&◌, List, ◌++◌, length, take, drop, refl, ap, ◌∙◌, arith, ◌==◌, nat_le, inl, inr, length-append}
use Rattle.std.proofs.Math.Seq.{take-append_seam}
use Rattle.std.proofs.lemmas.Str.{is_utf8-from_IsUtf8}
use Rattle.std.specs.Prelude.{is_none}
use Rattle.lnbd_model.specs.Text.{IsText}
use Rattle.lnbd_records.specs.Handshake.{hello, init_magic, option_magic, option_reply_magic, option_reply_head}
use Rattle.lnbd_records.specs.Limits.{max_listed, max_option_reply, max_replies, max_text}
use Rattle.lnbd_records.specs.Numbers.{number_at}
use Rattle.lnbd_records.specs.Options.{first_rep_error, opt_go, opt_info, rep_info}
use Rattle.lnbd_records.specs.Replies.{Tells, is_text, are_texts}
use Rattle.lnbd_records.specs.Requests.{is_info}
use Rattle.lnbd_records.specs.Told.{Told, Size}
use Rattle.lnbd_records.specs.Told as told
use Rattle.lnbd_records.proofs.Basics.{le_true, both_true, same_true}
use Rattle.lnbd_records.proofs.NumberLaws.{then_reads}
use Rattle.lnbd_records.proofs.ReplyLemmas.{told_so}
use Rattle.lnbd_stream.proofs.Grammar.{once_there, wants_true}
use Rattle.lnbd_history.specs.Arrivals.{Sight, is_asked, is_named, limit, counts, is_too_big, is_ack, shows_hello, shows_option}
use Rattle.lnbd_accepts.specs.Talks.{LawfulHellosAreTold, HasTexts, MayInform, MayCome, LawfulAnswersAreTold}

pub lawful_hellos_are_told : LawfulHellosAreTold
unfolding shows_hello
lawful_hellos_are_told flags rest bytes r new =
    let read = then_reads (hello flags) rest bytes r in
    let e = read.fields in
    let first : number_at 0 8 bytes ≡ init_magic = cc in
    let second : number_at 8 8 bytes ≡ option_magic = cc in
    let third : number_at 16 2 bytes ≡ flags = cc in
    rw (first, second, third)
    (once_there 8 bytes _ (omega (arith, read.size)) ∙ wants_true _ _ _ refl ∙ once_there 16 bytes _ (omega (arith, read.size)) ∙ wants_true _ _ _ refl ∙ wants_true _ _ _ refl
    ∙ once_there 18 bytes _ (omega (arith, read.size)) ∙ wants_true _ _ _ new)

a_text : (bytes : List ℕ) → IsText bytes → is_text bytes ≡ true
a_text bytes h = both_true _ _ (is_utf8-from_IsUtf8 bytes h.0) (le_true (length bytes) max_text h.1)

texts_are_texts : (t : Told) → HasTexts t → are_texts t ≡ true
texts_are_texts (told.Server listed) h = both_true _ _ (a_text listed.name h.0) (a_text listed.description h.1)
texts_are_texts (told.Name name) h = a_text name h
texts_are_texts (told.Description description) h = a_text description h
texts_are_texts (told.Context context) h = a_text context.name h
texts_are_texts told.Ack h = refl
texts_are_texts (told.Error code) h = refl
texts_are_texts (told.Export size) h = refl
texts_are_texts (told.Blocks blocks) h = refl
texts_are_texts told.Passed h = refl

-- what is tested of a reply that may come
record Tested (sight : Sight) (option type : ℕ) (t : Told) : Type 0 where
  named : is_named option type ≡ true
  few : not (counts type && nat_le (limit option) sight.count) ≡ true
  sized : not (is_ack t && is_info option && is_none sight.size) ≡ true
  small : not (is_too_big t) ≡ true

not_yet : (most count : ℕ) → count < most → nat_le most count ≡ false
not_yet most count h = grind (arith, h)

-- INFO, to INFO or GO
tested_info : (sight : Sight) (option type : ℕ) (t : Told) → type ≡ rep_info → is_ack t ≡ false → not (is_too_big t) ≡ true → MayInform sight option → Tested sight option type t
tested_info sight option type t is plain small (inl info, few) = record {
  named = rw (is, info) refl;
  few = rw (is, info, not_yet max_replies sight.count few) refl;
  sized = rw plain refl;
  small = small;
}
tested_info sight option type t is plain small (inr go, few) = record {
  named = rw (is, go) refl;
  few = rw (is, go, not_yet max_replies sight.count few) refl;
  sized = rw plain refl;
  small = small;
}

other_than : (m n : ℕ) → m ≢ n → (m == n) ≡ false
other_than m n h = grind (arith, h)

tested : (sight : Sight) (option type : ℕ) (body : List ℕ) (t : Told) → Tells type body t → MayCome sight option t → Tested sight option type t
tested sight option type body told.Ack h (inl other) = record {
  named = rw (h.0) refl;
  few = rw (h.0) refl;
  sized = rw (other_than option opt_info other.0, other_than option opt_go other.1) refl;
  small = refl;
}
tested sight option type body told.Ack h (inr size) = record {
  named = rw (h.0) refl;
  few = rw (h.0) refl;
  sized = rw (size.1) (never (is_info option));
  small = refl;
}
  where
    never : (b : Bool) → not (b && false) ≡ true
    never true = refl
    never false = refl
tested sight option type body (told.Error code) h a =
    let big : nat_le first_rep_error type ≡ true = le_true first_rep_error type (omega (arith, h)) in
    record { named = rw big refl; few = rw big refl; sized = refl; small = refl }
tested sight option type body (told.Server listed) h a = record {
  named = rw (h.0, a.0) refl;
  few = rw (h.0, a.0, not_yet max_listed sight.count a.1) refl;
  sized = refl;
  small = refl;
}
tested sight option type body (told.Export size) h a = tested_info sight option type (told.Export size) h.0 refl (rw (not_yet (2 ^ 63) size.size a.1) refl) a.0
tested sight option type body (told.Name name) h a = tested_info sight option type (told.Name name) h.0 refl refl a
tested sight option type body (told.Description description) h a = tested_info sight option type (told.Description description) h.0 refl refl a
tested sight option type body (told.Blocks blocks) h a = tested_info sight option type (told.Blocks blocks) h.0 refl refl a
tested sight option type body told.Passed h a = tested_info sight option type told.Passed h.0 refl refl a
tested sight option type body (told.Context context) h a = record {
  named = rw (h.0, a.0) refl;
  few = rw (h.0, a.0, not_yet max_replies sight.count a.1) refl;
  sized = refl;
  small = refl;
}

pub lawful_answers_are_told : LawfulAnswersAreTold
unfolding shows_option
lawful_answers_are_told sight t bytes b =
    let read = then_reads (option_reply_head b.option b.type (length b.body)) (b.body ++ b.rest) bytes b.spelled in
    let e = read.fields in
    let magic : number_at 0 8 bytes ≡ option_reply_magic = cc in
    let option : number_at 8 4 bytes ≡ b.option = cc in
    let type : number_at 12 4 bytes ≡ b.type = cc in
    let size : number_at 16 4 bytes ≡ length b.body = cc in
    let long : length bytes ≡ 20 + (length b.body + length b.rest) = omega (arith, read.size, length-append b.body b.rest) in
    let body : take (length b.body) (drop 20 bytes) ≡ b.body = ap (take (length b.body)) read.behind ∙ take-append_seam b.body b.rest in
    let asked : is_asked b.option sight.phase ≡ true = rw (b.asked) (same_true b.option b.option refl) in
    let x = tested sight b.option b.type b.body t b.tells b.comes in
    rw (magic, option, type, size, body, told_so b.type b.body t b.tells)
    (once_there 8 bytes _ (omega (arith, long)) ∙ wants_true _ _ _ refl ∙ once_there 20 bytes _ (omega (arith, long)) ∙ wants_true _ _ _ asked
    ∙ wants_true _ _ _ (le_true (length b.body) max_option_reply b.short) ∙ wants_true _ _ _ x.named ∙ once_there (20 + length b.body) bytes _ (omega (arith, long))
    ∙ wants_true _ _ _ x.few ∙ wants_true _ _ _ (texts_are_texts t b.texts) ∙ wants_true _ _ _ x.sized ∙ wants_true _ _ _ x.small)
