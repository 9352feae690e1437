-- What bytes may show where they are judged: a property holds of it where it holds of each case.
use Rattle.std.proofs.Common.{◌≡◌, ℕ, ◌+◌, ◌-◌, ◌≤◌, ◌<◌, Bool, true, false, not, ◌&&◌, ◌||◌, List, ◌∷◌, length, take, drop, ◌^◌, ◌%◌, Option, Some, None, refl, ap, sym, ◌∙◌, arith, nat_lt, nat_le, ◌==◌, if◌then◌else◌}
use Rattle.std.proofs.lemmas.Bool.{false≢true, ltb-true, ltb-false, leb-true, leb-false}
use Rattle.std.proofs.lemmas.List.{length-drop, length-take-le}
use Rattle.lnbd_model.specs.declared.breach.Breach.{Breach}
use Rattle.lnbd_model.specs.declared.breach.Breach.TheVariants.{BadOptionLength, UnknownCookie, TooManyReplies}
use Rattle.lnbd_records.specs.Numbers.{number_at}
use Rattle.lnbd_records.specs.Told.{Told, Body}
use Rattle.lnbd_records.specs.Told as told
use Rattle.lnbd_records.specs.Replies.{fits, body_of}
use Rattle.lnbd_stream.specs.Grammar.{once, wants}
use Rattle.lnbd_history.specs.declared.kinds.Phase.TheVariants as phase
use Rattle.lnbd_history.specs.Agreement.{End, Acknowledged, Failed, end_of}
use Rattle.lnbd_history.specs.Arrivals.{Content, Shown, Hello, OptionReply, ExportReply, Broken, Passed, Waiting, Sight, limit, counts, is_asked, shows_hello, shows_whole, shows_option, shows_by_name, reply, shows_frame, shows_passed}
use Rattle.lnbd_history.specs.Commands.{is_read, is_status}
use Rattle.lnbd_records.specs.Limits.{max_data, max_faults}
use Rattle.lnbd_records.specs.Transmission.{simple_reply_magic}
use Rattle.lnbd_chunks.specs.declared.form.Form.{Form}
use Rattle.lnbd_chunks.specs.declared.form.Form.TheVariants.{Empty, Data, Hole, Status, ExtendedStatus, Error, ErrorAt, OtherError, Unknown}
use Rattle.lnbd_chunks.specs.Chunk.{Head, is_done, form_of, is_error, is_between, fits_length, fits_command, may_come, lies_within, error_told, shows_data, shows_hole, shows_status, shows_extended_status, shows_error, shows_payload, shows_chunk}
use Rattle.lnbd_chunks.specs.Reply.{content_size, shows_simple, shows_chunk_for, shows_compact, shows_extended, shows_reply, chunk_head_in, extended_head_in}
use Rattle.lnbd_bounds.proofs.Owed.{May, MayFollow}

-- an ACK or an error, where the type is of one
ends_where : (type : ℕ) (bytes : List ℕ) (body : Body) → body_of type bytes ≡ Some body → counts type ≡ false → end_of body.told ≡ None → ⊥
unfolding body_of
ends_where type bytes body e plain none = go (nat_le (2 ^ 31) type) (type == 1) (length bytes == 0) (type - 2 ^ 31) _ plain e
  where
    end_in : Option Body → Option End
    end_in None = None
    end_in (Some one) = end_of one.told

    refuted : (end : End) (shown : Option Body) → end_in shown ≡ Some end → shown ≡ Some body → ⊥
    refuted end shown is same = let bad : Some end ≡ None = sym is ∙ ap end_in same ∙ none in cc

    go : (a b c : Bool) (code : ℕ) (x : Option Body) → not (a || b) ≡ false → (if a then fits true (told.Error code) else if b then fits c told.Ack else x) ≡ Some body → ⊥
    go true b c code x t same = refuted (Failed code) (fits true (told.Error code)) refl same
    go false true true code x t same = refuted Acknowledged (fits true told.Ack) refl same
    go false true false code x t same = let bad : None ≡ Some body = same in cc
    go false false c code x t same = absurd (false≢true (sym t))

-- how many bytes may follow the head of a simple reply
size_below : (command : Waiting) (error : ℕ) → content_size command error ≤ command.length
size_below command error = go (error == 0) (is_read command.kind)
  where
    go : (a b : Bool) → (if a then if b then command.length else 0 else 0) ≤ command.length
    go true true = omega arith
    go true false = omega arith
    go false b = omega arith

-- What is read of a chunk's tests.

both : (a b : Bool) → (a && b) ≡ true → (a ≡ true) × (b ≡ true)
both true b e = (refl, e)
both false b e = absurd (false≢true e)

least : (a b n : ℕ) → is_between a b n ≡ true → a ≤ n
least a b n e = leb-true a n (both (nat_le a n) (nat_le n b) e).0

most_of : (a b n : ℕ) → is_between a b n ≡ true → n ≤ b
most_of a b n e = leb-true n b (both (nat_le a n) (nat_le n b) e).1

few_faults : (faults : ℕ) (form : Form) (last : Bool) → may_come faults form last ≡ true → last ≡ false → faults < max_faults
few_faults faults form last e goes = ltb-true faults max_faults (go (nat_lt faults max_faults) (sym (ap (λ (l : Bool). nat_lt faults max_faults || (l && not (is_error form))) goes) ∙ e))
  where
    go : (a : Bool) → (a || (false && not (is_error form))) ≡ true → a ≡ true
    go true e = refl
    go false e = e

inside : (command : Waiting) (offset n : ℕ) → lies_within command offset n ≡ true → (command.offset ≤ offset) × (offset + n ≤ command.offset + command.length)
inside command offset n e =
    let parts = both (nat_le command.offset offset) (nat_le (offset + n) (command.offset + command.length)) e in
    (leb-true command.offset offset parts.0, leb-true (offset + n) (command.offset + command.length) parts.1)

module _ (P : Option Shown → Type 0) (broken : (breach : Breach) → P (Some (Broken breach))) where
  by_once : (n : ℕ) (bytes : List ℕ) (shown : Option Shown) → (length bytes < n → P None) → (n ≤ length bytes → P shown) → P (once n bytes shown)
  unfolding once
  by_once n bytes shown none some = go (nat_lt (length bytes) n) refl
    where
      go : (b : Bool) → nat_lt (length bytes) n ≡ b → P (if b then None else shown)
      go true w = none (ltb-true (length bytes) n w)
      go false w = some (ltb-false (length bytes) n w)

  by_wants : (test : Bool) (breach : Breach) (shown : Option Shown) → (test ≡ true → P shown) → P (wants test (Broken breach) shown)
  unfolding wants
  by_wants true breach shown some = some refl
  by_wants false breach shown some = broken breach

  pub by_hello : (bytes : List ℕ) → (length bytes < 18 → P None) → ((flags : ℕ) → P (Some (Hello flags))) → P (shows_hello bytes)
  unfolding shows_hello
  by_hello bytes none hello =
      by_once _ _ _ (λ less. none (omega arith)) (λ _. by_wants _ _ _ (λ _.
      by_once _ _ _ (λ less. none (omega arith)) (λ _. by_wants _ _ _ (λ _. by_wants _ _ _ (λ _.
      by_once _ _ _ none (λ _. by_wants _ _ _ (λ _. hello _)))))))

  by_whole : (sight : Sight) (option type : ℕ) (bytes : List ℕ) (body : Option Body) → body_of type bytes ≡ body → ((one : Told) → (end_of one ≡ None → sight.count < limit option) → P (Some (OptionReply one))) → P (shows_whole sight option type body)
  by_whole sight option type bytes None e reply = broken BadOptionLength
  by_whole sight option type bytes (Some body) e reply =
      by_wants _ _ _ (λ counted. by_wants _ _ _ (λ _. by_wants _ _ _ (λ _. by_wants _ _ _ (λ _. reply body.told (λ none. few (counts type) (nat_le (limit option) sight.count) refl refl none counted)))))
    where
      few : (a b : Bool) → counts type ≡ a → nat_le (limit option) sight.count ≡ b → end_of body.told ≡ None → not (a && b) ≡ true → sight.count < limit option
      few true true v w none t = absurd (false≢true t)
      few true false v w none t = leb-false (limit option) sight.count w
      few false b v w none t = absurd (ends_where type bytes body e v none)

  pub by_option : (sight : Sight) (bytes : List ℕ) → (length bytes < 20 + 65536 → P None) →
      ((option : ℕ) (one : Told) → is_asked option sight.phase ≡ true → (end_of one ≡ None → sight.count < limit option) → P (Some (OptionReply one))) → P (shows_option sight bytes)
  unfolding shows_option
  by_option sight bytes none reply =
      by_once _ _ _ (λ less. none (omega arith)) (λ _. by_wants _ _ _ (λ _.
      by_once _ _ _ (λ less. none (omega arith)) (λ _. by_wants _ _ _ (λ asked. by_wants _ _ _ (λ short. by_wants _ _ _ (λ _.
      by_once _ _ _ (λ less. none (omega (arith, less, leb-true (number_at 16 4 bytes) 65536 short)))
      (λ _. by_whole sight (number_at 8 4 bytes) (number_at 12 4 bytes) (take (number_at 16 4 bytes) (drop 20 bytes)) _ refl (λ one few. reply (number_at 8 4 bytes) one asked few))))))))

  -- where no option is unanswered
  pub by_no_option : (sight : Sight) (bytes : List ℕ) → sight.phase ≡ phase.OptMode → (length bytes < 20 → P None) → P (shows_option sight bytes)
  unfolding shows_option
  by_no_option sight bytes is none =
      by_once _ _ _ (λ less. none (omega arith)) (λ _. by_wants _ _ _ (λ _.
      by_once _ _ _ none (λ _. by_wants _ _ _ (λ asked. absurd (false≢true (sym (ap (is_asked (number_at 8 4 bytes)) is) ∙ asked))))))

  pub by_export : (no_zeroes : Bool) (bytes : List ℕ) → (length bytes < 134 → P None) → ((size flags : ℕ) → P (Some (ExportReply size flags))) → P (shows_by_name no_zeroes bytes)
  unfolding shows_by_name
  by_export no_zeroes bytes none export = by_once _ _ _ (λ less. none (small no_zeroes less)) (λ _. by_wants _ _ _ (λ _. export _ _))
    where
      small : (b : Bool) → length bytes < (if b then 10 else 134) → length bytes < 134
      small true less = omega arith
      small false less = less

  -- Replies to commands.

  module _ (waited : ℕ → Option Waiting) (told : (command : Waiting) (cookie : ℕ) (content : Content) (last : Bool) → waited cookie ≡ Some command → (last ≡ false → MayFollow command content) → P (Some (reply cookie content last))) where
    by_simple : (structured : Bool) (bytes : List ℕ) (w : Option Waiting) → waited (number_at 8 8 bytes) ≡ w → ((command : Waiting) → w ≡ Some command → length bytes < 16 + command.length → P None) → P (shows_simple Broken reply structured w bytes)
    unfolding shows_simple
    by_simple structured bytes None e none = broken UnknownCookie
    by_simple structured bytes (Some command) e none = by_wants _ _ _ (λ _.
        by_once _ _ _ (λ less. none command refl (omega (arith, less, size_below command (number_at 4 4 bytes)))) (λ _. told command (number_at 8 8 bytes) _ true e (λ goes. absurd (false≢true (sym goes)))))

    -- the payload of a chunk that was looked up, with what may be said of it where it isn't the last
    module _ (command : Waiting) (cookie : ℕ) (e : waited cookie ≡ Some command) (last : Bool) (few : last ≡ false → command.faults < max_faults) (p : List ℕ) (none : length p < 8 + max_data → P None) where
      tells : (content : Content) → (last ≡ false → May command content) → P (Some (reply cookie content last))
      tells content may = told command cookie content last e (λ goes. record { few = few goes; may = may goes })

      by_data : (n : ℕ) → is_read command.kind ≡ true → 9 ≤ n → n ≤ 8 + max_data → P (shows_data Broken (λ content. reply cookie content last) command n p)
      unfolding shows_data
      by_data n reads low high =
          by_once _ _ _ (λ less. none (omega (arith, less))) (λ _. by_wants _ _ _ (λ within.
          by_once _ _ _ (λ less. none (omega (arith, less, high))) (λ long. tells _ (λ goes. (
          let size : length (take (n - 8) (drop 8 p)) ≡ n - 8 = length-take-le (n - 8) (drop 8 p) (omega (arith, long, low, length-drop 8 p)) in
          let range = inside command (number_at 0 8 p) (n - 8) within in
          (reads, omega (arith, size, low), range.0, omega (arith, size, range.1)))))))

      by_hole : is_read command.kind ≡ true → P (shows_hole Broken (λ content. reply cookie content last) command p)
      unfolding shows_hole
      by_hole reads =
          by_once _ _ _ (λ less. none (omega (arith, less))) (λ _. by_wants _ _ _ (λ _.
          by_once _ _ _ (λ less. none (omega (arith, less))) (λ _. by_wants _ _ _ (λ within. tells _ (λ goes. (
          let range = inside command (number_at 0 8 p) (number_at 8 4 p) within in
          (reads, range.0, range.1)))))))

      by_status : (n : ℕ) → is_status command.kind ≡ true → n ≤ 8 + max_data → P (shows_status Broken (λ content. reply cookie content last) n p)
      unfolding shows_status
      by_status n is high = by_once _ _ _ (λ less. none (omega (arith, less, high))) (λ _. tells _ (λ goes. is))

      by_extended_status : (n : ℕ) → is_status command.kind ≡ true → n ≤ 8 + max_data → P (shows_extended_status Broken (λ content. reply cookie content last) n p)
      unfolding shows_extended_status
      by_extended_status n is high =
          by_once _ _ _ (λ less. none (omega (arith, less))) (λ _. by_wants _ _ _ (λ _.
          by_once _ _ _ (λ less. none (omega (arith, less, high))) (λ _. tells _ (λ goes. is))))

      by_error : (form : Form) (n : ℕ) → n ≤ 8 + max_data → (last ≡ false → May command (error_told form n p)) → P (shows_error Broken (λ content. reply cookie content last) form n p)
      unfolding shows_error
      by_error form n high may =
          by_once _ _ _ (λ less. none (omega (arith, less))) (λ _. by_wants _ _ _ (λ _. by_wants _ _ _ (λ _.
          by_once _ _ _ (λ less. none (omega (arith, less, high))) (λ _. tells _ may))))

      by_payload : (form : Form) (n : ℕ) → fits_length form n ≡ true → fits_command form last command.kind ≡ true → P (shows_payload Broken (λ content. reply cookie content last) form command n p)
      by_payload Empty n fits is = tells _ (λ goes. absurd (false≢true (sym goes ∙ is)))
      by_payload Data n fits is = by_data n is (least 9 33554440 n fits) (most_of 9 33554440 n fits)
      by_payload Hole n fits is = by_hole is
      by_payload Status n fits is = by_status n is (omega (arith, most_of 12 8388612 n (both (is_between 12 8388612 n) (n % 8 == 4) fits).0))
      by_payload ExtendedStatus n fits is = by_extended_status n is (omega (arith, most_of 24 16777224 n (both (is_between 24 16777224 n) (n % 16 == 8) fits).0))
      by_payload Error n fits is = by_error Error n (omega (arith, most_of 6 4102 n fits)) (λ goes. tt)
      by_payload ErrorAt n fits is = by_error ErrorAt n (omega (arith, most_of 14 4110 n fits)) (λ goes. tt)
      by_payload OtherError n fits is = by_error OtherError n (omega (arith, most_of 6 65536 n fits)) (λ goes. tt)
      by_payload Unknown n fits is = absurd (false≢true is)

    by_chunk : (extended : Bool) (cookie : ℕ) (head : Head) (p : List ℕ) (w : Option Waiting) → waited cookie ≡ w → (length p < 8 + max_data → P None) → P (shows_chunk_for Broken reply extended w cookie head p)
    unfolding shows_chunk_for shows_chunk
    by_chunk extended cookie head p None e none = broken UnknownCookie
    by_chunk extended cookie head p (Some command) e none =
        let form = form_of extended head.type in
        by_wants _ _ _ (λ fits. by_wants _ _ _ (λ is. by_wants _ _ _ (λ come.
        by_payload command cookie e (is_done head) (few_faults command.faults form (is_done head) come) p none form head.length fits is)))

    by_compact : (structured : Bool) (bytes : List ℕ) → (length bytes < 32 + (8 + max_data) → P None) → ((command : Waiting) (cookie : ℕ) → waited cookie ≡ Some command → length bytes < 16 + command.length → P None) → P (shows_compact Broken reply structured waited bytes)
    unfolding shows_compact
    by_compact structured bytes none less = by_wants _ _ _ (λ _. go (number_at 0 4 bytes == simple_reply_magic))
      where
        go : (b : Bool) →
            P (if b then once 16 bytes (shows_simple Broken reply structured (waited (number_at 8 8 bytes)) bytes) else once 20 bytes (shows_chunk_for Broken reply false (waited (number_at 8 8 bytes)) (number_at 8 8 bytes) (chunk_head_in bytes) (drop 20 bytes)))
        go true = by_once _ _ _ (λ few. none (omega (arith, few))) (λ _. by_simple structured bytes (waited (number_at 8 8 bytes)) refl (λ command w. less command (number_at 8 8 bytes) w))
        go false = by_once _ _ _ (λ few. none (omega (arith, few))) (λ _. by_chunk false (number_at 8 8 bytes) (chunk_head_in bytes) (drop 20 bytes) (waited (number_at 8 8 bytes)) refl (λ few. none (omega (arith, few, length-drop 20 bytes))))

    by_extended : (bytes : List ℕ) → (length bytes < 32 + (8 + max_data) → P None) → P (shows_extended Broken reply waited bytes)
    unfolding shows_extended
    by_extended bytes none = by_wants _ _ _ (λ _. by_wants _ _ _ (λ _.
        by_once _ _ _ (λ few. none (omega (arith, few))) (λ _. by_chunk true (number_at 8 8 bytes) (extended_head_in bytes) (drop 32 bytes) (waited (number_at 8 8 bytes)) refl (λ few. none (omega (arith, few, length-drop 32 bytes))))))

  pub by_frame : (structured extended : Bool) (waited : ℕ → Option Waiting) (bytes : List ℕ) → (length bytes < 32 + (8 + max_data) → P None) →
      ((command : Waiting) (cookie : ℕ) → waited cookie ≡ Some command → length bytes < 16 + command.length → P None) →
      ((command : Waiting) (cookie : ℕ) (content : Content) (last : Bool) → waited cookie ≡ Some command → (last ≡ false → MayFollow command content) → P (Some (reply cookie content last))) → P (shows_frame structured extended waited bytes)
  unfolding shows_frame shows_reply
  by_frame structured extended waited bytes none less told = by_once _ _ _ (λ few. none (omega (arith, few))) (λ _. go extended)
    where
      go : (b : Bool) → P (if b then shows_extended Broken reply waited bytes else shows_compact Broken reply structured waited bytes)
      go true = by_extended waited told bytes none
      go false = by_compact waited told structured bytes none less

  pub by_passed : (passed byte : ℕ) (bytes : List ℕ) → (passed < 65536 → P (Some Passed)) → P (shows_passed passed (byte ∷ bytes))
  by_passed passed byte bytes pass = go (nat_lt passed 65536) refl
    where
      go : (b : Bool) → nat_lt passed 65536 ≡ b → P (if b then Some Passed else Some (Broken TooManyReplies))
      go true w = pass (ltb-true passed 65536 w)
      go false w = broken TooManyReplies
