-- What a client's bytes say stays, whatever follows, and no thing is said by fewer bytes than it has.
use Rattle.std.proofs.Common.{◌≡◌, ◌⊎◌, inl, inr, ℕ, ◌+◌, ◌≤◌, Bool, true, false, List, [], ◌∷◌, ◌++◌, length, take, drop, nat_le, Some, None, refl, ap, sym, subst, ◌∙◌, arith, ◌==◌}
use Rattle.std.proofs.lemmas.List.{length-drop, length-take, drop-append-le, take-append-le, take-append-drop, drop-take, take-take}
use Rattle.byteorder.specs.Endian.{big_from, big_number}
use Rattle.byteorder.specs.Numbers.{big_from-take}
use Rattle.lnbd_records.specs.Handshake.{option_magic}
use Rattle.lnbd_records.specs.Numbers.{number_at}
use Rattle.lnbd_records.specs.Transmission.{request_magic, extended_request_magic}
use Rattle.lnbd_stream.specs.Grammar.{each_byte, Kept, Fits}
use Rattle.lnbd_stream.proofs.Grammar.{once_there, once_some, wants_true, wants_is, kept_same, kept_once, kept_wants, kept_each_byte, part_more, fits_some, fits_once, fits_wants, each_byte_none, once_none}
use Rattle.lnbd_server.specs.declared.stage.Stage.{Stage}
use Rattle.lnbd_server.specs.declared.stage.Stage.TheVariants.{Greeting, Haggling, Serving, Ended, Strayed}
use Rattle.lnbd_server.specs.Client.{Flags, OptionRequest, Heard, heard, stray, are_client_flags, says_flags, says_option, says_asked, says_request, says_extended, says, data_size, asks_of, max_option_request}

number_more : (width : ℕ) (bytes more : List ℕ) → width ≤ length bytes → big_number width (bytes ++ more) ≡ big_number width bytes
number_more width bytes more h = sym (big_from-take 0 width width (bytes ++ more) (omega arith)) ∙ ap (big_from 0 width) (take-append-le width bytes more h) ∙ big_from-take 0 width width bytes (omega arith)

-- a number that is there is there in more bytes
pub at_more : (place width : ℕ) (bytes more : List ℕ) → place + width ≤ length bytes → number_at place width (bytes ++ more) ≡ number_at place width bytes
unfolding number_at
at_more place width bytes more h =
    ap (big_number width) (drop-append-le place bytes more (omega (arith, h))) ∙ number_more width (drop place bytes) more (omega (arith, h, length-drop place bytes))

-- and in fewer
pub at_front : (place width n : ℕ) (bytes : List ℕ) → place + width ≤ n → n ≤ length bytes → number_at place width (take n bytes) ≡ number_at place width bytes
at_front place width n bytes h k =
    sym (at_more place width (take n bytes) (drop n bytes) (omega (arith, length-take n bytes))) ∙ ap (number_at place width) (take-append-drop n bytes)

stays_flags : (bytes more : List ℕ) → Kept (says_flags bytes) (says_flags (bytes ++ more))
unfolding says_flags
stays_flags bytes more = kept_once 4 bytes more _ _ (λ h. rw (at_more 0 4 bytes more h) (kept_same _))

stays_option : (bytes more : List ℕ) → Kept (says_option bytes) (says_option (bytes ++ more))
unfolding says_option
stays_option bytes more =
    kept_once 8 bytes more _ _ (λ h. rw (at_more 0 8 bytes more h) (kept_wants _ _ _ _
    (kept_once 16 bytes more _ _ (λ k. rw (at_more 12 4 bytes more k, at_more 8 4 bytes more (omega (arith, k))) (kept_wants _ _ _ _
    (kept_once (16 + number_at 12 4 bytes) bytes more _ _ (λ l. rw (part_more 16 (number_at 12 4 bytes) bytes more l) (kept_same _))))))))

stays_asked : (extended : Bool) (size type flags cookie offset n : ℕ) (bytes more : List ℕ) →
    Kept (says_asked extended size type flags cookie offset n bytes) (says_asked extended size type flags cookie offset n (bytes ++ more))
unfolding says_asked
stays_asked extended size type flags cookie offset n bytes more =
    kept_wants _ _ _ _ (kept_once (size + data_size extended type flags n) bytes more _ _ (λ l. rw (part_more size (data_size extended type flags n) bytes more l) (kept_same _)))

stays_request : (bytes more : List ℕ) → Kept (says_request bytes) (says_request (bytes ++ more))
unfolding says_request
stays_request bytes more =
    kept_once 4 bytes more _ _ (λ h. rw (at_more 0 4 bytes more h) (kept_wants _ _ _ _
    (kept_once 28 bytes more _ _ (λ k. rw (at_more 6 2 bytes more (omega (arith, k)), at_more 4 2 bytes more (omega (arith, k)), at_more 8 8 bytes more (omega (arith, k)), at_more 16 8 bytes more (omega (arith, k)), at_more 24 4 bytes more (omega (arith, k)))
    (stays_asked false 28 (number_at 6 2 bytes) (number_at 4 2 bytes) (number_at 8 8 bytes) (number_at 16 8 bytes) (number_at 24 4 bytes) bytes more)))))

stays_extended : (bytes more : List ℕ) → Kept (says_extended bytes) (says_extended (bytes ++ more))
unfolding says_extended
stays_extended bytes more =
    kept_once 4 bytes more _ _ (λ h. rw (at_more 0 4 bytes more h) (kept_wants _ _ _ _
    (kept_once 32 bytes more _ _ (λ k. rw (at_more 6 2 bytes more (omega (arith, k)), at_more 4 2 bytes more (omega (arith, k)), at_more 8 8 bytes more (omega (arith, k)), at_more 16 8 bytes more (omega (arith, k)), at_more 24 8 bytes more (omega (arith, k)))
    (stays_asked true 32 (number_at 6 2 bytes) (number_at 4 2 bytes) (number_at 8 8 bytes) (number_at 16 8 bytes) (number_at 24 8 bytes) bytes more)))))

pub says_stays : (stage : Stage) (extended : Bool) (bytes more : List ℕ) → Kept (says stage extended bytes) (says stage extended (bytes ++ more))
says_stays Greeting extended bytes more = stays_flags bytes more
says_stays Haggling extended bytes more = stays_option bytes more
says_stays Serving true bytes more = stays_extended bytes more
says_stays Serving false bytes more = stays_request bytes more
says_stays Ended extended bytes more = kept_each_byte _ bytes more
says_stays Strayed extended bytes more = kept_each_byte _ bytes more

pub says_none : (stage : Stage) (extended : Bool) → says stage extended [] ≡ None
unfolding says_flags says_option says_request says_extended
says_none Greeting extended = once_none 4 _ (omega arith)
says_none Haggling extended = once_none 8 _ (omega arith)
says_none Serving true = once_none 4 _ (omega arith)
says_none Serving false = once_none 4 _ (omega arith)
says_none Ended extended = each_byte_none _
says_none Strayed extended = each_byte_none _

-- sizes

abbrev size : Heard → ℕ
size heard = heard.size

fits_flags : (bytes : List ℕ) → Fits size bytes (says_flags bytes)
unfolding says_flags
fits_flags bytes = fits_once size 4 bytes _ (λ h. fits_wants size bytes _ stray _ (omega arith) (fits_some size bytes (record { size = 4; said = Flags (number_at 0 4 bytes) }) h))

fits_option : (bytes : List ℕ) → Fits size bytes (says_option bytes)
unfolding says_option
fits_option bytes =
    fits_once size 8 bytes _ (λ h. fits_wants size bytes _ stray _ (omega arith)
    (fits_once size 16 bytes _ (λ k. fits_wants size bytes _ stray _ (omega arith)
    (fits_once size (16 + number_at 12 4 bytes) bytes _ (λ l. fits_some size bytes (record { size = 16 + number_at 12 4 bytes; said = OptionRequest (number_at 8 4 bytes) (take (number_at 12 4 bytes) (drop 16 bytes)) }) l)))))

fits_asked : (extended : Bool) (head type flags cookie offset n : ℕ) (bytes : List ℕ) → Fits size bytes (says_asked extended head type flags cookie offset n bytes)
unfolding says_asked
fits_asked extended head type flags cookie offset n bytes =
    fits_wants size bytes _ stray _ (omega arith) (fits_once size (head + data_size extended type flags n) bytes _
    (λ l. fits_some size bytes (record { size = head + data_size extended type flags n; said = asks_of type flags cookie offset n (take (data_size extended type flags n) (drop head bytes)) }) l))

fits_request : (bytes : List ℕ) → Fits size bytes (says_request bytes)
unfolding says_request
fits_request bytes =
    fits_once size 4 bytes _ (λ h. fits_wants size bytes _ stray _ (omega arith)
    (fits_once size 28 bytes _ (λ k. fits_asked false 28 (number_at 6 2 bytes) (number_at 4 2 bytes) (number_at 8 8 bytes) (number_at 16 8 bytes) (number_at 24 4 bytes) bytes)))

fits_extended : (bytes : List ℕ) → Fits size bytes (says_extended bytes)
unfolding says_extended
fits_extended bytes =
    fits_once size 4 bytes _ (λ h. fits_wants size bytes _ stray _ (omega arith)
    (fits_once size 32 bytes _ (λ k. fits_asked true 32 (number_at 6 2 bytes) (number_at 4 2 bytes) (number_at 8 8 bytes) (number_at 16 8 bytes) (number_at 24 8 bytes) bytes)))

fits_each : (one : Heard) (bytes : List ℕ) → one.size ≤ 1 → Fits size bytes (each_byte one bytes)
unfolding each_byte
fits_each one [] small = λ found e. cc
fits_each one (byte ∷ bytes) small = fits_some size (byte ∷ bytes) one (omega arith)

pub says_fits : (stage : Stage) (extended : Bool) (bytes : List ℕ) → Fits size bytes (says stage extended bytes)
says_fits Greeting extended bytes = fits_flags bytes
says_fits Haggling extended bytes = fits_option bytes
says_fits Serving true bytes = fits_extended bytes
says_fits Serving false bytes = fits_request bytes
says_fits Ended extended bytes = fits_each _ bytes (omega arith)
says_fits Strayed extended bytes = fits_each _ bytes (omega arith)

-- What is said by some bytes, other than that they are no client's, is said by as many of them as it has.

some_is : {A : Type 0} (a b : A) → Some a ≡ Some b → a ≡ b
some_is a b e = cc

flags_at : (bytes : List ℕ) → 4 ≤ length bytes → are_client_flags (number_at 0 4 bytes) ≡ true → says_flags bytes ≡ heard 4 (Flags (number_at 0 4 bytes))
unfolding says_flags
flags_at bytes h t = once_there 4 bytes _ h ∙ wants_true _ stray _ t

first_flags : (bytes : List ℕ) (found : Heard) → says_flags bytes ≡ Some found → (found ≡ stray) ⊎ (says_flags (take found.size bytes) ≡ Some found)
unfolding says_flags
first_flags bytes found e =
    let there = once_some 4 bytes _ found e in
    elim (wants_is _ stray _ (Some found) there.1) [
      | inl h ↦
          let long = there.0 in
          let number : number_at 0 4 (take 4 bytes) ≡ number_at 0 4 bytes = at_front 0 4 4 bytes (omega arith) long in
          let whole : says_flags (take 4 bytes) ≡ heard 4 (Flags (number_at 0 4 bytes)) =
          flags_at (take 4 bytes) (omega (arith, length-take 4 bytes)) (ap are_client_flags number ∙ h.0) ∙ ap (λ n. heard 4 (Flags n)) number in
          inr (subst (λ (f : Heard). says_flags (take f.size bytes) ≡ Some f) (some_is _ found h.1) whole)
      | inr h ↦ inl (sym (some_is stray found h.1))
    ]

option_at : (bytes : List ℕ) → 16 + number_at 12 4 bytes ≤ length bytes → (number_at 0 8 bytes == option_magic) ≡ true → nat_le (number_at 12 4 bytes) max_option_request ≡ true →
    says_option bytes ≡ heard (16 + number_at 12 4 bytes) (OptionRequest (number_at 8 4 bytes) (take (number_at 12 4 bytes) (drop 16 bytes)))
unfolding says_option
option_at bytes h t u =
    once_there 8 bytes _ (omega arith) ∙ wants_true _ stray _ t ∙ once_there 16 bytes _ (omega arith) ∙ wants_true _ stray _ u ∙ once_there (16 + number_at 12 4 bytes) bytes _ h

body_front : (n size : ℕ) (bytes : List ℕ) → take n (drop size (take (size + n) bytes)) ≡ take n (drop size bytes)
body_front n size bytes = ap (take n) (drop-take size n bytes) ∙ take-take n n (drop size bytes) (omega arith)

first_option : (bytes : List ℕ) (found : Heard) → says_option bytes ≡ Some found → (found ≡ stray) ⊎ (says_option (take found.size bytes) ≡ Some found)
unfolding says_option
first_option bytes found e =
    let eight = once_some 8 bytes _ found e in
    elim (wants_is _ stray _ (Some found) eight.1) [
      | inl magic ↦
          let sixteen = once_some 16 bytes _ found magic.1 in
          elim (wants_is _ stray _ (Some found) sixteen.1) [
            | inl few ↦
                let all = once_some (16 + number_at 12 4 bytes) bytes _ found few.1 in
                let long = all.0 in
                let front : List ℕ = take (16 + number_at 12 4 bytes) bytes in
                let one : number_at 0 8 front ≡ number_at 0 8 bytes = at_front 0 8 (16 + number_at 12 4 bytes) bytes (omega arith) long in
                let two : number_at 8 4 front ≡ number_at 8 4 bytes = at_front 8 4 (16 + number_at 12 4 bytes) bytes (omega arith) long in
                let three : number_at 12 4 front ≡ number_at 12 4 bytes = at_front 12 4 (16 + number_at 12 4 bytes) bytes (omega arith) long in
                let whole : says_option front ≡ heard (16 + number_at 12 4 bytes) (OptionRequest (number_at 8 4 bytes) (take (number_at 12 4 bytes) (drop 16 bytes))) =
                option_at front (omega (arith, length-take (16 + number_at 12 4 bytes) bytes)) (ap (λ n. n == option_magic) one ∙ magic.0) (ap (λ n. nat_le n max_option_request) three ∙ few.0)
                ∙ ap (λ n. heard (16 + n) (OptionRequest (number_at 8 4 front) (take n (drop 16 front)))) three
                ∙ ap (λ n. heard (16 + number_at 12 4 bytes) (OptionRequest n (take (number_at 12 4 bytes) (drop 16 front)))) two
                ∙ ap (λ body. heard (16 + number_at 12 4 bytes) (OptionRequest (number_at 8 4 bytes) body)) (body_front (number_at 12 4 bytes) 16 bytes) in
                inr (subst (λ (f : Heard). says_option (take f.size bytes) ≡ Some f) (some_is _ found all.1) whole)
            | inr h ↦ inl (sym (some_is stray found h.1))
          ]
      | inr h ↦ inl (sym (some_is stray found h.1))
    ]

-- the same of a request behind its head
record FirstAsked (extended : Bool) (head type flags cookie offset n : ℕ) (bytes : List ℕ) (found : Heard) : Type 0 where
  least : head ≤ found.size
  within : found.size ≤ length bytes
  front : says_asked extended head type flags cookie offset n (take found.size bytes) ≡ Some found

first_asked : (extended : Bool) (head type flags cookie offset n : ℕ) (bytes : List ℕ) (found : Heard) → says_asked extended head type flags cookie offset n bytes ≡ Some found →
    (found ≡ stray) ⊎ FirstAsked extended head type flags cookie offset n bytes found
unfolding says_asked
first_asked extended head type flags cookie offset n bytes found e =
    elim (wants_is _ stray _ (Some found) e) [
      | inl lawful ↦
          let all = once_some (head + data_size extended type flags n) bytes _ found lawful.1 in
          let long = all.0 in
          let front : List ℕ = take (head + data_size extended type flags n) bytes in
          let whole : says_asked extended head type flags cookie offset n front ≡ heard (head + data_size extended type flags n) (asks_of type flags cookie offset n (take (data_size extended type flags n) (drop head bytes))) =
          wants_true _ stray _ lawful.0 ∙ once_there (head + data_size extended type flags n) front _ (omega (arith, length-take (head + data_size extended type flags n) bytes))
          ∙ ap (λ payload. heard (head + data_size extended type flags n) (asks_of type flags cookie offset n payload)) (body_front (data_size extended type flags n) head bytes) in
          inr (subst (λ (f : Heard). FirstAsked extended head type flags cookie offset n bytes f) (some_is _ found all.1) (record { least = omega arith; within = long; front = whole }))
      | inr h ↦ inl (sym (some_is stray found h.1))
    ]

request_front : (bytes : List ℕ) (m : ℕ) → 28 ≤ m → m ≤ length bytes → (number_at 0 4 bytes == request_magic) ≡ true →
    says_request (take m bytes) ≡ says_asked false 28 (number_at 6 2 bytes) (number_at 4 2 bytes) (number_at 8 8 bytes) (number_at 16 8 bytes) (number_at 24 4 bytes) (take m bytes)
unfolding says_request
request_front bytes m h k t =
    let size = length-take m bytes in
    let type : number_at 6 2 (take m bytes) ≡ number_at 6 2 bytes = at_front 6 2 m bytes (omega arith) k in
    let flags : number_at 4 2 (take m bytes) ≡ number_at 4 2 bytes = at_front 4 2 m bytes (omega arith) k in
    let cookie : number_at 8 8 (take m bytes) ≡ number_at 8 8 bytes = at_front 8 8 m bytes (omega arith) k in
    let offset : number_at 16 8 (take m bytes) ≡ number_at 16 8 bytes = at_front 16 8 m bytes (omega arith) k in
    let n : number_at 24 4 (take m bytes) ≡ number_at 24 4 bytes = at_front 24 4 m bytes (omega arith) k in
    once_there 4 (take m bytes) _ (omega arith) ∙ wants_true _ stray _ (ap (λ x. x == request_magic) (at_front 0 4 m bytes (omega arith) k) ∙ t) ∙ once_there 28 (take m bytes) _ (omega arith)
    ∙ (cc)

extended_front : (bytes : List ℕ) (m : ℕ) → 32 ≤ m → m ≤ length bytes → (number_at 0 4 bytes == extended_request_magic) ≡ true →
    says_extended (take m bytes) ≡ says_asked true 32 (number_at 6 2 bytes) (number_at 4 2 bytes) (number_at 8 8 bytes) (number_at 16 8 bytes) (number_at 24 8 bytes) (take m bytes)
unfolding says_extended
extended_front bytes m h k t =
    let size = length-take m bytes in
    let type : number_at 6 2 (take m bytes) ≡ number_at 6 2 bytes = at_front 6 2 m bytes (omega arith) k in
    let flags : number_at 4 2 (take m bytes) ≡ number_at 4 2 bytes = at_front 4 2 m bytes (omega arith) k in
    let cookie : number_at 8 8 (take m bytes) ≡ number_at 8 8 bytes = at_front 8 8 m bytes (omega arith) k in
    let offset : number_at 16 8 (take m bytes) ≡ number_at 16 8 bytes = at_front 16 8 m bytes (omega arith) k in
    let n : number_at 24 8 (take m bytes) ≡ number_at 24 8 bytes = at_front 24 8 m bytes (omega arith) k in
    once_there 4 (take m bytes) _ (omega arith) ∙ wants_true _ stray _ (ap (λ x. x == extended_request_magic) (at_front 0 4 m bytes (omega arith) k) ∙ t) ∙ once_there 32 (take m bytes) _ (omega arith)
    ∙ (cc)

first_request : (bytes : List ℕ) (found : Heard) → says_request bytes ≡ Some found → (found ≡ stray) ⊎ (says_request (take found.size bytes) ≡ Some found)
unfolding says_request
first_request bytes found e =
    let four = once_some 4 bytes _ found e in
    elim (wants_is _ stray _ (Some found) four.1) [
      | inl magic ↦
          let head = once_some 28 bytes _ found magic.1 in
          elim (first_asked false 28 (number_at 6 2 bytes) (number_at 4 2 bytes) (number_at 8 8 bytes) (number_at 16 8 bytes) (number_at 24 4 bytes) bytes found head.1) [
            | inl h ↦ inl h
            | inr h ↦ inr (request_front bytes found.size h.least h.within magic.0 ∙ h.front)
          ]
      | inr h ↦ inl (sym (some_is stray found h.1))
    ]

first_extended : (bytes : List ℕ) (found : Heard) → says_extended bytes ≡ Some found → (found ≡ stray) ⊎ (says_extended (take found.size bytes) ≡ Some found)
unfolding says_extended
first_extended bytes found e =
    let four = once_some 4 bytes _ found e in
    elim (wants_is _ stray _ (Some found) four.1) [
      | inl magic ↦
          let head = once_some 32 bytes _ found magic.1 in
          elim (first_asked true 32 (number_at 6 2 bytes) (number_at 4 2 bytes) (number_at 8 8 bytes) (number_at 16 8 bytes) (number_at 24 8 bytes) bytes found head.1) [
            | inl h ↦ inl h
            | inr h ↦ inr (extended_front bytes found.size h.least h.within magic.0 ∙ h.front)
          ]
      | inr h ↦ inl (sym (some_is stray found h.1))
    ]

first_each : (one : Heard) (bytes : List ℕ) (found : Heard) → one.size ≡ 1 → each_byte one bytes ≡ Some found → (found ≡ stray) ⊎ (each_byte one (take found.size bytes) ≡ Some found)
unfolding each_byte
first_each one [] found size e = cc
first_each one (byte ∷ bytes) found size e =
    let same : one ≡ found = some_is one found e in
    inr (ap (λ n. each_byte one (take n (byte ∷ bytes))) (sym (ap (λ (h : Heard). h.size) same) ∙ size) ∙ e)

pub says_first : (stage : Stage) (extended : Bool) (bytes : List ℕ) (found : Heard) → says stage extended bytes ≡ Some found → (found ≡ stray) ⊎ (says stage extended (take found.size bytes) ≡ Some found)
says_first Greeting extended bytes found e = first_flags bytes found e
says_first Haggling extended bytes found e = first_option bytes found e
says_first Serving true bytes found e = first_extended bytes found e
says_first Serving false bytes found e = first_request bytes found e
says_first Ended extended bytes found e = first_each _ bytes found refl e
says_first Strayed extended bytes found e = first_each _ bytes found refl e

-- where no byte is held
pub empty_none : (stage : Stage) (extended : Bool) (held : List ℕ) → held ≡ [] → says stage extended held ≡ None
empty_none stage extended held e = ap (says stage extended) e ∙ says_none stage extended
