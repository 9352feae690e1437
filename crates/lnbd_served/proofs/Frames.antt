-- What a front of each reply of a server shows to a reader that waits for it.
use Rattle.std.proofs.Common.{◌≡◌, ℕ, ◌+◌, ◌≤◌, Bool, true, false, List, [], ◌++◌, length, take, drop, Option, Some, None, refl, ap, sym, ◌∙◌, arith, inl, inr, ◌==◌, if◌then◌else◌, length-append}
use Rattle.std.proofs.lemmas.List.{take_all, drop-append-le}
use Rattle.lnbd_model.specs.declared.breach.Breach.TheVariants.{BadReplyMagic, UnknownCookie, MixedHeaders}
use Rattle.lnbd_records.specs.Content.{Content}
use Rattle.lnbd_records.specs.Numbers.{AllFit, row, number_at}
use Rattle.lnbd_records.specs.Transmission.{simple_reply, simple_reply_magic, structured_reply_magic, extended_reply_magic, chunk_head, extended_chunk_head}
use Rattle.lnbd_records.proofs.NumberLaws.{then_reads}
use Rattle.lnbd_stream.proofs.Grammar.{wants_false}
use Rattle.lnbd_chunks.specs.Chunk.{Waiting, Head}
use Rattle.lnbd_chunks.specs.Reply.{is_agreed, content_size, simple_content, chunk_head_in, extended_head_in, shows_simple, shows_chunk_for, shows_compact, shows_extended, shows_reply}
use Rattle.lnbd_history.specs.Arrivals.{Shown, Broken, reply, shows_frame}
use Rattle.lnbd_served.proofs.Hearing.{if_true, if_false}
use Rattle.lnbd_served.proofs.Settling.{Good, good_as, good_once, good_wants, good_whole}
use Rattle.lnbd_served.proofs.Shown.{IsBroken, value, front, whole, sum_of, Says, IsSaid, good_form}

-- a command waits under this cookie, and this is shown of it
abbrev pub Waits : (ℕ → Option Waiting) → ℕ → (Waiting → Shown → Type 0) → Shown → Type 0
Waits waited cookie R found = (command : Waiting) × (waited cookie ≡ Some command) × R command found

for_command : (R : Waiting → Shown → Type 0) (left : List ℕ) (f : Option Waiting → Option Shown) (waited : ℕ → Option Waiting) (cookie : ℕ) (v : Option Waiting) → waited cookie ≡ v → f None ≡ Some (Broken UnknownCookie) →
    ((command : Waiting) → waited cookie ≡ Some command → Good IsBroken (R command) left (f (Some command))) → Good IsBroken (Waits waited cookie R) left (f v)
for_command R left f waited cookie None e none h = good_as IsBroken (Waits waited cookie R) left (f None) (Some (Broken UnknownCookie)) none (inl tt)
for_command R left f waited cookie (Some command) e none h = go (f (Some command)) (h command e)
  where
    go : (w : Option Shown) → Good IsBroken (R command) left w → Good IsBroken (Waits waited cookie R) left w
    go None g = g
    go (Some found) (inl b) = inl b
    go (Some found) (inr (l, r)) = inr (l, (command, e, r))

-- a simple reply to this command
abbrev pub SimpleFor : (cookie error : ℕ) → List ℕ → Waiting → Shown → Type 0
SimpleFor cookie error bytes command found = found ≡ reply cookie (simple_content command error bytes) true

module _ (error cookie : ℕ) (bytes now left : List ℕ) (fit : AllFit (simple_reply error cookie)) (e : now ++ left ≡ row (simple_reply error cookie) ++ bytes) where
  simple_size : length now + length left ≡ 16 + length bytes
  simple_size = sum_of now left _ e ∙ (then_reads (simple_reply error cookie) bytes (row (simple_reply error cookie) ++ bytes) (record { fit = fit; spelled = refl })).size

  simple_magic : 4 ≤ length now → number_at 0 4 now ≡ simple_reply_magic
  unfolding number_at
  simple_magic a = front 0 4 now left _ e a ∙ ap (λ fs. value fs 0) (then_reads (simple_reply error cookie) bytes (row (simple_reply error cookie) ++ bytes) (record { fit = fit; spelled = refl })).fields

  simple_cookie : 16 ≤ length now → number_at 8 8 now ≡ cookie
  unfolding number_at
  simple_cookie b = front 8 8 now left _ e b ∙ ap (λ fs. value fs 2) (then_reads (simple_reply error cookie) bytes (row (simple_reply error cookie) ++ bytes) (record { fit = fit; spelled = refl })).fields

  simple_error : 16 ≤ length now → number_at 4 4 now ≡ error
  unfolding number_at
  simple_error b = front 4 4 now left _ e (omega (arith, b)) ∙ ap (λ fs. value fs 1) (then_reads (simple_reply error cookie) bytes (row (simple_reply error cookie) ++ bytes) (record { fit = fit; spelled = refl })).fields

  good_simple_for : (structured : Bool) (command : Waiting) → content_size command error ≡ length bytes → 16 ≤ length now → Good IsBroken (SimpleFor cookie error bytes command) left (shows_simple Broken reply structured (Some command) now)
  unfolding shows_simple
  good_simple_for structured command sized b =
      let r = then_reads (simple_reply error cookie) bytes (row (simple_reply error cookie) ++ bytes) (record { fit = fit; spelled = refl }) in
      let size : content_size command (number_at 4 4 now) ≡ length bytes = ap (content_size command) (simple_error b) ∙ sized in
      let n = simple_size in
      good_wants IsBroken (SimpleFor cookie error bytes command) left _ _ _ tt (λ ok.
      good_whole IsBroken (SimpleFor cookie error bytes command) (16 + content_size command (number_at 4 4 now)) now left _ (omega (arith, n, size, length-append now left)) (λ none.
      let is : now ≡ row (simple_reply error cookie) ++ bytes = whole now left _ e none in
      good_as IsBroken (SimpleFor cookie error bytes command) [] _ (Some (reply cookie (simple_content command error bytes) true))
      (ap (λ k. Some (reply k (simple_content command (number_at 4 4 now) (take (content_size command (number_at 4 4 now)) (drop 16 now))) true)) (simple_cookie b)
      ∙ ap (λ k. Some (reply cookie (simple_content command k (take (content_size command k) (drop 16 now))) true)) (simple_error b)
      ∙ ap (λ k. Some (reply cookie (simple_content command error (take k (drop 16 now))) true)) sized
      ∙ ap (λ x. Some (reply cookie (simple_content command error (take (length bytes) (drop 16 x))) true)) is
      ∙ ap (λ x. Some (reply cookie (simple_content command error (take (length bytes) x)) true)) r.behind
      ∙ ap (λ x. Some (reply cookie (simple_content command error x) true)) (take_all (length bytes) bytes (omega arith)))
      (inr (refl, refl))))

  pub good_simple : (structured extended : Bool) (waited : ℕ → Option Waiting) → ((command : Waiting) → waited cookie ≡ Some command → content_size command error ≡ length bytes) →
      Good IsBroken (Waits waited cookie (SimpleFor cookie error bytes)) left (shows_frame structured extended waited now)
  unfolding shows_frame shows_reply shows_compact shows_extended shows_simple
  good_simple structured true waited sized =
      let n = simple_size in
      good_once IsBroken (Waits waited cookie (SimpleFor cookie error bytes)) 4 now left _ (omega (arith, n, length-append now left)) (λ a. good_wants IsBroken (Waits waited cookie (SimpleFor cookie error bytes)) left _ _ _ tt (λ any.
      good_as IsBroken (Waits waited cookie (SimpleFor cookie error bytes)) left _ (Some (Broken MixedHeaders)) (wants_false _ _ _ (ap (λ k. k == extended_reply_magic) (simple_magic a))) (inl tt)))
  good_simple structured false waited sized =
      let n = simple_size in
      good_once IsBroken (Waits waited cookie (SimpleFor cookie error bytes)) 4 now left _ (omega (arith, n, length-append now left)) (λ a. good_wants IsBroken (Waits waited cookie (SimpleFor cookie error bytes)) left _ _ _ tt (λ any.
      good_as IsBroken (Waits waited cookie (SimpleFor cookie error bytes)) left _ _ (if_true (number_at 0 4 now == simple_reply_magic) _ _ (ap (λ k. k == simple_reply_magic) (simple_magic a)))
      (good_once IsBroken (Waits waited cookie (SimpleFor cookie error bytes)) 16 now left _ (omega (arith, n, length-append now left)) (λ b.
      good_as IsBroken (Waits waited cookie (SimpleFor cookie error bytes)) left _ _ (ap (λ k. shows_simple Broken reply structured (waited k) now) (simple_cookie b))
      (for_command (SimpleFor cookie error bytes) left (λ w. shows_simple Broken reply structured w now) waited cookie (waited cookie) refl refl (λ command is. good_simple_for structured command (sized command is) b))))))

-- a chunk for this command
abbrev pub ChunkFor : (cookie : ℕ) → Content → Waiting → Shown → Type 0
ChunkFor cookie content command found = found ≡ reply cookie content true

good_payload : (extended : Bool) (said : Says) (cookie : ℕ) (waited : ℕ → Option Waiting) (p left : List ℕ) → IsSaid extended said → p ++ left ≡ said.payload →
    Good IsBroken (Waits waited cookie (ChunkFor cookie said.content)) left (shows_chunk_for Broken reply extended (waited cookie) cookie (record { flags = 1; type = said.type; length = length said.payload }) p)
unfolding shows_chunk_for
good_payload extended said cookie waited p left is e =
    for_command (ChunkFor cookie said.content) left (λ w. shows_chunk_for Broken reply extended w cookie (record { flags = 1; type = said.type; length = length said.payload }) p) waited cookie (waited cookie) refl refl
    (λ command there. good_form (λ content. reply cookie content true) extended said command 1 p left is e)

head_is : (f g t u n m : ℕ) → f ≡ g → t ≡ u → n ≡ m → record { flags = f; type = t; length = n } ≡ (let h : Head = record { flags = g; type = u; length = m } in h)
head_is f g t u n m a b c = cc

module _ (said : Says) (cookie : ℕ) (now left : List ℕ) (fit : AllFit (chunk_head 1 said.type cookie (length said.payload))) (is : IsSaid false said) (e : now ++ left ≡ row (chunk_head 1 said.type cookie (length said.payload)) ++ said.payload) where
  pub good_chunk : (structured extended : Bool) (waited : ℕ → Option Waiting) → Good IsBroken (Waits waited cookie (ChunkFor cookie said.content)) left (shows_frame structured extended waited now)
  unfolding shows_frame shows_reply shows_compact shows_extended number_at
  good_chunk structured extended waited =
      let all : List ℕ = row (chunk_head 1 said.type cookie (length said.payload)) ++ said.payload in
      let r = then_reads (chunk_head 1 said.type cookie (length said.payload)) said.payload (row (chunk_head 1 said.type cookie (length said.payload)) ++ said.payload) (record { fit = fit; spelled = refl }) in
      let n : length now + length left ≡ 20 + length said.payload = sum_of now left _ e ∙ r.size in
      let magic : number_at 0 4 (row (chunk_head 1 said.type cookie (length said.payload)) ++ said.payload) ≡ structured_reply_magic = ap (λ fs. value fs 0) r.fields in
      let flags : number_at 4 2 (row (chunk_head 1 said.type cookie (length said.payload)) ++ said.payload) ≡ 1 = ap (λ fs. value fs 1) r.fields in
      let type : number_at 6 2 (row (chunk_head 1 said.type cookie (length said.payload)) ++ said.payload) ≡ said.type = ap (λ fs. value fs 2) r.fields in
      let who : number_at 8 8 (row (chunk_head 1 said.type cookie (length said.payload)) ++ said.payload) ≡ cookie = ap (λ fs. value fs 3) r.fields in
      let size : number_at 16 4 (row (chunk_head 1 said.type cookie (length said.payload)) ++ said.payload) ≡ length said.payload = ap (λ fs. value fs 4) r.fields in
      good_once IsBroken (Waits waited cookie (ChunkFor cookie said.content)) 4 now left _ (omega (arith, n, length-append now left)) (λ a. by extended (front 0 4 now left _ e a ∙ magic)
      (λ b. head_is _ _ _ _ _ _ (front 4 2 now left _ e (omega (arith, b)) ∙ flags) (front 6 2 now left _ e (omega (arith, b)) ∙ type) (front 16 4 now left _ e b ∙ size))
      (λ b. front 8 8 now left _ e (omega (arith, b)) ∙ who)
      (λ b. sym (drop-append-le 20 now left b) ∙ ap (drop 20) e ∙ r.behind) (omega (arith, n, length-append now left)))
    where
      by : (extended : Bool) → number_at 0 4 now ≡ structured_reply_magic → (20 ≤ length now → chunk_head_in now ≡ record { flags = 1; type = said.type; length = length said.payload }) → (20 ≤ length now → number_at 8 8 now ≡ cookie) →
          (20 ≤ length now → drop 20 now ++ left ≡ said.payload) → 20 ≤ length (now ++ left) →
          Good IsBroken (Waits waited cookie (ChunkFor cookie said.content)) left (if extended then shows_extended Broken reply waited now else shows_compact Broken reply structured waited now)
      by true magic head who behind long = good_wants IsBroken (Waits waited cookie (ChunkFor cookie said.content)) left _ _ _ tt (λ any.
          good_as IsBroken (Waits waited cookie (ChunkFor cookie said.content)) left _ (Some (Broken MixedHeaders)) (wants_false _ _ _ (ap (λ k. k == extended_reply_magic) magic)) (inl tt))
      by false magic head who behind long = good_wants IsBroken (Waits waited cookie (ChunkFor cookie said.content)) left _ _ _ tt (λ any.
          good_as IsBroken (Waits waited cookie (ChunkFor cookie said.content)) left _ _ (if_false (number_at 0 4 now == simple_reply_magic) _ _ (ap (λ k. k == simple_reply_magic) magic))
          (good_once IsBroken (Waits waited cookie (ChunkFor cookie said.content)) 20 now left _ long (λ b.
          good_as IsBroken (Waits waited cookie (ChunkFor cookie said.content)) left _ _
          (ap (λ k. shows_chunk_for Broken reply false (waited k) k (chunk_head_in now) (drop 20 now)) (who b) ∙ ap (λ h. shows_chunk_for Broken reply false (waited cookie) cookie h (drop 20 now)) (head b))
          (good_payload false said cookie waited (drop 20 now) left is (behind b)))))

module _ (said : Says) (cookie offset : ℕ) (now left : List ℕ) (fit : AllFit (extended_chunk_head 1 said.type cookie offset (length said.payload))) (is : IsSaid true said) (e : now ++ left ≡ row (extended_chunk_head 1 said.type cookie offset (length said.payload)) ++ said.payload) where
  not_agreed : (structured : Bool) (magic : ℕ) → magic ≡ extended_reply_magic → is_agreed structured magic ≡ false
  not_agreed true magic e = ap (λ k. is_agreed true k) e
  not_agreed false magic e = ap (λ k. is_agreed false k) e

  pub good_extended_chunk : (structured extended : Bool) (waited : ℕ → Option Waiting) → Good IsBroken (Waits waited cookie (ChunkFor cookie said.content)) left (shows_frame structured extended waited now)
  unfolding shows_frame shows_reply shows_compact shows_extended number_at
  good_extended_chunk structured extended waited =
      let r = then_reads (extended_chunk_head 1 said.type cookie offset (length said.payload)) said.payload (row (extended_chunk_head 1 said.type cookie offset (length said.payload)) ++ said.payload) (record { fit = fit; spelled = refl }) in
      let n : length now + length left ≡ 32 + length said.payload = sum_of now left _ e ∙ r.size in
      let magic : number_at 0 4 (row (extended_chunk_head 1 said.type cookie offset (length said.payload)) ++ said.payload) ≡ extended_reply_magic = ap (λ fs. value fs 0) r.fields in
      let flags : number_at 4 2 (row (extended_chunk_head 1 said.type cookie offset (length said.payload)) ++ said.payload) ≡ 1 = ap (λ fs. value fs 1) r.fields in
      let type : number_at 6 2 (row (extended_chunk_head 1 said.type cookie offset (length said.payload)) ++ said.payload) ≡ said.type = ap (λ fs. value fs 2) r.fields in
      let who : number_at 8 8 (row (extended_chunk_head 1 said.type cookie offset (length said.payload)) ++ said.payload) ≡ cookie = ap (λ fs. value fs 3) r.fields in
      let size : number_at 24 8 (row (extended_chunk_head 1 said.type cookie offset (length said.payload)) ++ said.payload) ≡ length said.payload = ap (λ fs. value fs 5) r.fields in
      good_once IsBroken (Waits waited cookie (ChunkFor cookie said.content)) 4 now left _ (omega (arith, n, length-append now left)) (λ a. by extended (front 0 4 now left _ e a ∙ magic)
      (λ b. head_is _ _ _ _ _ _ (front 4 2 now left _ e (omega (arith, b)) ∙ flags) (front 6 2 now left _ e (omega (arith, b)) ∙ type) (front 24 8 now left _ e b ∙ size))
      (λ b. front 8 8 now left _ e (omega (arith, b)) ∙ who)
      (λ b. sym (drop-append-le 32 now left b) ∙ ap (drop 32) e ∙ r.behind) (omega (arith, n, length-append now left)))
    where
      by : (extended : Bool) → number_at 0 4 now ≡ extended_reply_magic → (32 ≤ length now → extended_head_in now ≡ record { flags = 1; type = said.type; length = length said.payload }) → (32 ≤ length now → number_at 8 8 now ≡ cookie) →
          (32 ≤ length now → drop 32 now ++ left ≡ said.payload) → 32 ≤ length (now ++ left) →
          Good IsBroken (Waits waited cookie (ChunkFor cookie said.content)) left (if extended then shows_extended Broken reply waited now else shows_compact Broken reply structured waited now)
      by false magic head who behind long = good_as IsBroken (Waits waited cookie (ChunkFor cookie said.content)) left _ (Some (Broken BadReplyMagic)) (wants_false _ _ _ (not_agreed structured (number_at 0 4 now) magic)) (inl tt)
      by true magic head who behind long = good_wants IsBroken (Waits waited cookie (ChunkFor cookie said.content)) left _ _ _ tt (λ any. good_wants IsBroken (Waits waited cookie (ChunkFor cookie said.content)) left _ _ _ tt (λ same.
          good_once IsBroken (Waits waited cookie (ChunkFor cookie said.content)) 32 now left _ long (λ b.
          good_as IsBroken (Waits waited cookie (ChunkFor cookie said.content)) left _ _
          (ap (λ k. shows_chunk_for Broken reply true (waited k) k (extended_head_in now) (drop 32 now)) (who b) ∙ ap (λ h. shows_chunk_for Broken reply true (waited cookie) cookie h (drop 32 now)) (head b))
          (good_payload true said cookie waited (drop 32 now) left is (behind b)))))
