-- What a reply shows stays, whatever follows.
use Rattle.std.proofs.Common.{◌≡◌, ℕ, zero, suc, ◌+◌, ◌-◌, ◌*◌, ◌/◌, ◌≤◌, Bool, true, false, List, [], ◌++◌, length, drop, ◌%◌, ◌&&◌, nat_le, Option, Some, None, refl, ap, sym, ◌∙◌, arith, if◌then◌else◌, ◌==◌}
use Rattle.std.proofs.Math.Nat.{mul-div-le}
use Rattle.std.proofs.lemmas.Bool.{and_parts, leb-true}
use Rattle.std.proofs.lemmas.List.{length-drop, drop-append-le, take-append-le}
use Rattle.byteorder.specs.Endian.{big_from, big_number}
use Rattle.byteorder.specs.Numbers.{big_from-take}
use Rattle.lnbd_model.specs.declared.breach.Breach.{Breach}
use Rattle.lnbd_records.specs.Content.{Content}
use Rattle.lnbd_records.specs.Numbers.{number_at}
use Rattle.lnbd_stream.specs.Grammar.{once, wants, Kept}
use Rattle.lnbd_stream.proofs.Grammar.{kept_same, kept_once, kept_wants, part_more}
use Rattle.lnbd_chunks.specs.declared.form.Form.{Form}
use Rattle.lnbd_chunks.specs.declared.form.Form.TheVariants.{Empty, Data, Hole, Status, ExtendedStatus, Error, ErrorAt, OtherError, Unknown}
use Rattle.lnbd_records.specs.Transmission.{simple_reply_magic}
use Rattle.lnbd_chunks.specs.Chunk.{Waiting, Head, is_done, form_of, fits_length, descriptors_in, extended_descriptors_in, is_between, shows_data, shows_hole, shows_status, shows_extended_status, shows_error, shows_payload, shows_form, shows_chunk}
use Rattle.lnbd_chunks.specs.Reply.{content_size, shows_simple, shows_chunk_for, shows_compact, shows_extended, shows_reply, chunk_head_in, extended_head_in}

number_more : (width : ℕ) (bytes more : List ℕ) → width ≤ length bytes → big_number width (bytes ++ more) ≡ big_number width bytes
number_more width bytes more h = sym (big_from-take 0 width width (bytes ++ more) (omega arith)) ∙ ap (big_from 0 width) (take-append-le width bytes more h) ∙ big_from-take 0 width width bytes (omega arith)

-- a number that is there is there in more bytes
pub at_more : (place width : ℕ) (bytes more : List ℕ) → place + width ≤ length bytes → number_at place width (bytes ++ more) ≡ number_at place width bytes
unfolding number_at
at_more place width bytes more h =
    ap (big_number width) (drop-append-le place bytes more (omega (arith, h))) ∙ number_more width (drop place bytes) more (omega (arith, h, length-drop place bytes))

-- descriptors that are there
pub descriptors_more : (n : ℕ) (bytes more : List ℕ) → 8 * n ≤ length bytes → descriptors_in n (bytes ++ more) ≡ descriptors_in n bytes
descriptors_more zero bytes more h = refl
descriptors_more (suc n) bytes more h =
    rw (at_more 0 4 bytes more (omega (arith, h)), at_more 4 4 bytes more (omega (arith, h)), drop-append-le 8 bytes more (omega (arith, h)), descriptors_more n (drop 8 bytes) more (omega (arith, h, length-drop 8 bytes))) refl

pub extended_descriptors_more : (n : ℕ) (bytes more : List ℕ) → 16 * n ≤ length bytes → extended_descriptors_in n (bytes ++ more) ≡ extended_descriptors_in n bytes
extended_descriptors_more zero bytes more h = refl
extended_descriptors_more (suc n) bytes more h =
    rw (at_more 0 8 bytes more (omega (arith, h)), at_more 8 8 bytes more (omega (arith, h)), drop-append-le 16 bytes more (omega (arith, h)), extended_descriptors_more n (drop 16 bytes) more (omega (arith, h, length-drop 16 bytes))) refl

pub least : (a b n : ℕ) → is_between a b n ≡ true → a ≤ n
least a b n e = leb-true a n (and_parts (nat_le a n) (nat_le n b) e).0

pub least_and : (a b n : ℕ) (also : Bool) → (is_between a b n && also) ≡ true → a ≤ n
least_and a b n also e = least a b n (and_parts (is_between a b n) also e).0

module _ {R : Type 0} where
  -- what follows stays where the test holds
  kept_wants_if : (test : Bool) (fault : R) (x y : Option R) → (test ≡ true → Kept x y) → Kept (wants test fault x) (wants test fault y)
  unfolding wants
  kept_wants_if true fault x y keep = keep refl
  kept_wants_if false fault x y keep = kept_same (Some fault)

  kept_choice : (test : Bool) (a b c d : Option R) → Kept a b → Kept c d → Kept (if test then a else c) (if test then b else d)
  kept_choice true a b c d keep other = keep
  kept_choice false a b c d keep other = other

module _ {R : Type 0} (broken : Breach → R) (told : Content → R) where
  stays_data : (waiting : Waiting) (n : ℕ) (p more : List ℕ) → Kept (shows_data broken told waiting n p) (shows_data broken told waiting n (p ++ more))
  unfolding shows_data
  stays_data waiting n p more =
      kept_once 8 p more _ _ (λ h. rw (at_more 0 8 p more h) (kept_wants _ _ _ _
      (kept_once n p more _ _ (λ k. rw (part_more 8 (n - 8) p more (omega (arith, h, k))) (kept_same _)))))

  stays_hole : (waiting : Waiting) (p more : List ℕ) → Kept (shows_hole broken told waiting p) (shows_hole broken told waiting (p ++ more))
  unfolding shows_hole
  stays_hole waiting p more =
      kept_once 8 p more _ _ (λ h. rw (at_more 0 8 p more h) (kept_wants _ _ _ _
      (kept_once 12 p more _ _ (λ k. rw (at_more 8 4 p more k) (kept_wants _ _ _ _ (kept_same _))))))

  stays_status : (n : ℕ) (p more : List ℕ) → 12 ≤ n → Kept (shows_status broken told n p) (shows_status broken told n (p ++ more))
  unfolding shows_status
  stays_status n p more long =
      kept_once n p more _ _ (λ k. rw (
        at_more 0 4 p more (omega (arith, k, long)),
        drop-append-le 4 p more (omega (arith, k, long)),
        descriptors_more ((n - 4) / 8) (drop 4 p) more (omega (arith, k, long, mul-div-le (n - 4) 8, length-drop 4 p)),
      ) (kept_same _))

  stays_extended_status : (n : ℕ) (p more : List ℕ) → 24 ≤ n → Kept (shows_extended_status broken told n p) (shows_extended_status broken told n (p ++ more))
  unfolding shows_extended_status
  stays_extended_status n p more long =
      kept_once 8 p more _ _ (λ h. rw (at_more 4 4 p more h) (kept_wants _ _ _ _
      (kept_once n p more _ _ (λ k. rw (
        at_more 0 4 p more (omega (arith, h)),
        drop-append-le 8 p more h,
        extended_descriptors_more ((n - 8) / 16) (drop 8 p) more (omega (arith, k, long, mul-div-le (n - 8) 16, length-drop 8 p)),
      ) (kept_same _)))))

  stays_error : (n : ℕ) (p more : List ℕ) → Kept (shows_error broken told Error n p) (shows_error broken told Error n (p ++ more))
  unfolding shows_error
  stays_error n p more =
      kept_once 6 p more _ _ (λ h. rw (at_more 4 2 p more h, at_more 0 4 p more (omega (arith, h))) (kept_wants _ _ _ _ (kept_wants _ _ _ _
      (kept_once n p more _ _ (λ k. kept_same _)))))

  stays_other : (n : ℕ) (p more : List ℕ) → Kept (shows_error broken told OtherError n p) (shows_error broken told OtherError n (p ++ more))
  unfolding shows_error
  stays_other n p more =
      kept_once 6 p more _ _ (λ h. rw (at_more 4 2 p more h, at_more 0 4 p more (omega (arith, h))) (kept_wants _ _ _ _ (kept_wants _ _ _ _
      (kept_once n p more _ _ (λ k. kept_same _)))))

  stays_error_at : (n : ℕ) (p more : List ℕ) → 14 ≤ n → Kept (shows_error broken told ErrorAt n p) (shows_error broken told ErrorAt n (p ++ more))
  unfolding shows_error
  stays_error_at n p more long =
      kept_once 6 p more _ _ (λ h. rw (at_more 4 2 p more h, at_more 0 4 p more (omega (arith, h))) (kept_wants _ _ _ _ (kept_wants _ _ _ _
      (kept_once n p more _ _ (λ k. rw (at_more (n - 8) 8 p more (omega (arith, k, long))) (kept_same _))))))

  stays_payload : (form : Form) (waiting : Waiting) (n : ℕ) (p more : List ℕ) → fits_length form n ≡ true →
      Kept (shows_payload broken told form waiting n p) (shows_payload broken told form waiting n (p ++ more))
  stays_payload Empty waiting n p more fits = kept_same _
  stays_payload Data waiting n p more fits = stays_data waiting n p more
  stays_payload Hole waiting n p more fits = stays_hole waiting p more
  stays_payload Status waiting n p more fits = stays_status n p more (least_and 12 8388612 n (n % 8 == 4) fits)
  stays_payload ExtendedStatus waiting n p more fits = stays_extended_status n p more (least_and 24 16777224 n (n % 16 == 8) fits)
  stays_payload Error waiting n p more fits = stays_error n p more
  stays_payload ErrorAt waiting n p more fits = stays_error_at n p more (least 14 4110 n fits)
  stays_payload OtherError waiting n p more fits = stays_other n p more
  stays_payload Unknown waiting n p more fits = kept_same _

  stays_form : (form : Form) (waiting : Waiting) (head : Head) (p more : List ℕ) → Kept (shows_form broken told form waiting head p) (shows_form broken told form waiting head (p ++ more))
  stays_form form waiting head p more =
      kept_wants_if (fits_length form head.length) _ _ _ (λ fits. kept_wants _ _ _ _ (kept_wants _ _ _ _ (stays_payload form waiting head.length p more fits)))

  pub stays_chunk : (extended : Bool) (waiting : Waiting) (head : Head) (p more : List ℕ) → Kept (shows_chunk broken told extended waiting head p) (shows_chunk broken told extended waiting head (p ++ more))
  unfolding shows_chunk
  stays_chunk extended waiting head p more = stays_form (form_of extended head.type) waiting head p more

module _ {R : Type 0} (broken : Breach → R) (told : ℕ → Content → Bool → R) where
  stays_simple : (structured : Bool) (w : Option Waiting) (bytes more : List ℕ) → 16 ≤ length bytes → Kept (shows_simple broken told structured w bytes) (shows_simple broken told structured w (bytes ++ more))
  unfolding shows_simple
  stays_simple structured None bytes more h = kept_same _
  stays_simple structured (Some command) bytes more h = rw (at_more 4 4 bytes more (omega (arith, h)), at_more 8 8 bytes more h)
      (kept_wants _ _ _ _ (kept_once (16 + content_size command (number_at 4 4 bytes)) bytes more _ _ (λ k. rw (part_more 16 (content_size command (number_at 4 4 bytes)) bytes more k) (kept_same _))))

  stays_chunk_for : (extended : Bool) (w : Option Waiting) (cookie : ℕ) (head : Head) (p more : List ℕ) → Kept (shows_chunk_for broken told extended w cookie head p) (shows_chunk_for broken told extended w cookie head (p ++ more))
  unfolding shows_chunk_for
  stays_chunk_for extended None cookie head p more = kept_same _
  stays_chunk_for extended (Some command) cookie head p more = stays_chunk broken (λ content. told cookie content (is_done head)) extended command head p more

  stays_compact : (structured : Bool) (waited : ℕ → Option Waiting) (bytes more : List ℕ) → 4 ≤ length bytes → Kept (shows_compact broken told structured waited bytes) (shows_compact broken told structured waited (bytes ++ more))
  unfolding shows_compact
  stays_compact structured waited bytes more h = rw (at_more 0 4 bytes more h) (kept_wants _ _ _ _ (kept_choice (number_at 0 4 bytes == simple_reply_magic) _ _ _ _
      (kept_once 16 bytes more _ _ (λ k. rw (at_more 8 8 bytes more k) (stays_simple structured (waited (number_at 8 8 bytes)) bytes more k)))
      (kept_once 20 bytes more _ _ (λ k. rw (at_more 4 2 bytes more (omega (arith, k)), at_more 6 2 bytes more (omega (arith, k)), at_more 8 8 bytes more (omega (arith, k)), at_more 16 4 bytes more k, drop-append-le 20 bytes more k)
      (stays_chunk_for false (waited (number_at 8 8 bytes)) (number_at 8 8 bytes) (chunk_head_in bytes) (drop 20 bytes) more)))))

  stays_extended : (waited : ℕ → Option Waiting) (bytes more : List ℕ) → 4 ≤ length bytes → Kept (shows_extended broken told waited bytes) (shows_extended broken told waited (bytes ++ more))
  unfolding shows_extended
  stays_extended waited bytes more h = rw (at_more 0 4 bytes more h) (kept_wants _ _ _ _ (kept_wants _ _ _ _
      (kept_once 32 bytes more _ _ (λ k. rw (at_more 4 2 bytes more (omega (arith, k)), at_more 6 2 bytes more (omega (arith, k)), at_more 8 8 bytes more (omega (arith, k)), at_more 24 8 bytes more k, drop-append-le 32 bytes more k)
      (stays_chunk_for true (waited (number_at 8 8 bytes)) (number_at 8 8 bytes) (extended_head_in bytes) (drop 32 bytes) more)))))

  pub stays_reply : (structured extended : Bool) (waited : ℕ → Option Waiting) (bytes more : List ℕ) → Kept (shows_reply broken told structured extended waited bytes) (shows_reply broken told structured extended waited (bytes ++ more))
  unfolding shows_reply
  stays_reply structured extended waited bytes more =
      kept_once 4 bytes more _ _ (λ h. kept_choice extended _ _ _ _ (stays_extended waited bytes more h) (stays_compact structured waited bytes more h))

  pub none_reply : (structured extended : Bool) (waited : ℕ → Option Waiting) → shows_reply broken told structured extended waited [] ≡ None
  unfolding once shows_reply
  none_reply structured extended waited = refl
