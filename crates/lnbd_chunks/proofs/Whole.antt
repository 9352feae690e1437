-- A reply that tells something is a whole one.
use Rattle.std.proofs.Common.{◌≡◌, ℕ, ◌+◌, ◌≤◌, ◌<◌, Bool, true, false, ◌&&◌, ◌||◌, List, [], ◌∷◌, ◌++◌, length, take, drop, Option, Some, None, refl, ap, sym, subst, ◌∙◌, arith, ◌==◌, if◌then◌else◌, inl, inr}
use Rattle.std.proofs.lemmas.Bool.{eqb-true, false≢true}
use Rattle.std.proofs.lemmas.List.{take-append-drop, length-drop, length-take-le}
use Rattle.lnbd_model.specs.declared.breach.Breach.{Breach}
use Rattle.lnbd_records.specs.Content.{Content}
use Rattle.lnbd_records.specs.Numbers.{number, IsRowThen, IsBytes, number_at}
use Rattle.lnbd_records.specs.Transmission.{simple_reply, simple_reply_magic, structured_reply_magic, extended_reply_magic}
use Rattle.lnbd_records.proofs.NumberLaws.{reads_then, bytes_of_drop, AllFit-fields_at}
use Rattle.lnbd_stream.specs.Grammar.{once}
use Rattle.lnbd_stream.proofs.Grammar.{once_some}
use Rattle.lnbd_chunks.specs.Chunk.{Waiting, Head, is_done, form_of, shows_chunk}
use Rattle.lnbd_chunks.specs.Reply.{is_agreed, content_size, chunk_head_in, extended_head_in, shows_simple, shows_chunk_for, shows_compact, shows_extended, shows_reply}
use Rattle.lnbd_chunks.specs.Whole.{Said, BeginsWithReply, head_of, RepliesAreWhole}
use Rattle.lnbd_chunks.proofs.Payloads.{passed, told_is, broke, speaks_payload, type_of_form}

agreed_chunk : (structured : Bool) (magic : ℕ) → is_agreed structured magic ≡ true → (magic == simple_reply_magic) ≡ false → magic ≡ structured_reply_magic
agreed_chunk structured magic e plain = go structured (ap (λ (b : Bool). b || (structured && (magic == structured_reply_magic))) (sym plain) ∙ e)
  where
    go : (s : Bool) → (s && (magic == structured_reply_magic)) ≡ true → magic ≡ structured_reply_magic
    go true t = eqb-true magic structured_reply_magic t
    go false t = absurd (false≢true t)

module _ {R : Type 0} (broken : Breach → R) (told : ℕ → Content → Bool → R) (said : R → Option Said)
    (silent : (breach : Breach) → said (broken breach) ≡ None)
    (speaks : (cookie : ℕ) (content : Content) (last : Bool) → said (told cookie content last) ≡ Some (record { cookie = cookie; content = content; last = last })) where
  saying : ℕ → Bool → Content → Said
  saying cookie last content = record { cookie = cookie; content = content; last = last }

  -- A simple reply.
  simple_whole : (extended structured : Bool) (waited : ℕ → Option Waiting) (w : Option Waiting) (bytes : List ℕ) (found : R) (reply : Said) → IsBytes bytes → waited (number_at 8 8 bytes) ≡ w → 16 ≤ length bytes →
      number_at 0 4 bytes ≡ simple_reply_magic → said found ≡ Some reply → shows_simple broken told structured w bytes ≡ Some found → BeginsWithReply extended waited reply bytes
  unfolding shows_simple saying
  simple_whole extended structured waited None bytes found reply h w long magic s e =
      absurd (broke broken (λ content. told 0 content true) said (saying 0 true) silent (λ content. speaks 0 content true) _ found reply s e)
  simple_whole extended structured waited (Some command) bytes found reply h w long magic s e =
      let cookie : ℕ = number_at 8 8 bytes in
      let size : ℕ = content_size command (number_at 4 4 bytes) in
      let a = passed broken (λ content. told (number_at 8 8 bytes) content true) said (saying (number_at 8 8 bytes) true) silent (λ content. speaks (number_at 8 8 bytes) content true) _ _ _ found reply s e in
      let b = once_some (16 + content_size command (number_at 4 4 bytes)) bytes _ found a.1 in
      let is = told_is broken (λ content. told (number_at 8 8 bytes) content true) said (saying (number_at 8 8 bytes) true) silent (λ content. speaks (number_at 8 8 bytes) content true) _ found reply s b.1 in
      let behind = drop 16 bytes in
      let enough : content_size command (number_at 4 4 bytes) ≤ length (drop 16 bytes) = omega (arith, b.0, length-drop 16 bytes) in
      let head : IsRowThen (number 4 (number_at 0 4 bytes) ∷ number 4 (number_at 4 4 bytes) ∷ number 8 (number_at 8 8 bytes) ∷ []) (drop 16 bytes) bytes = reads_then (4 ∷ 4 ∷ 8 ∷ []) bytes h long in
      let named : IsRowThen (simple_reply (number_at 4 4 bytes) (number_at 8 8 bytes)) (drop 16 bytes) bytes = subst (λ (m : ℕ). IsRowThen (number 4 m ∷ number 4 (number_at 4 4 bytes) ∷ number 8 (number_at 8 8 bytes) ∷ []) (drop 16 bytes) bytes) magic head in
      let split : IsRowThen (simple_reply (number_at 4 4 bytes) (number_at 8 8 bytes)) (take (content_size command (number_at 4 4 bytes)) (drop 16 bytes) ++ drop (content_size command (number_at 4 4 bytes)) (drop 16 bytes)) bytes =
      subst (λ (r : List ℕ). IsRowThen (simple_reply (number_at 4 4 bytes) (number_at 8 8 bytes)) r bytes) (sym (take-append-drop (content_size command (number_at 4 4 bytes)) (drop 16 bytes))) named in
      subst (λ (r : Said). BeginsWithReply extended waited r bytes) is (record {
        command = command;
        waits = w;
        whole = inl (record {
          error = number_at 4 4 bytes;
          data_ = take (content_size command (number_at 4 4 bytes)) (drop 16 bytes);
          rest = drop (content_size command (number_at 4 4 bytes)) (drop 16 bytes);
          spelled = split;
          sized = length-take-le (content_size command (number_at 4 4 bytes)) (drop 16 bytes) enough;
          tells = refl;
          last = refl;
        });
      })

  -- A chunk, behind its head.
  chunk_whole : (extended : Bool) (waited : ℕ → Option Waiting) (w : Option Waiting) (cookie offset : ℕ) (head : Head) (p bytes : List ℕ) (found : R) (reply : Said) → IsBytes p → head.type < 65536 → waited cookie ≡ w →
      IsRowThen (head_of extended head.flags head.type cookie offset head.length) p bytes → said found ≡ Some reply → shows_chunk_for broken told extended w cookie head p ≡ Some found → BeginsWithReply extended waited reply bytes
  unfolding shows_chunk_for shows_chunk saying
  chunk_whole extended waited None cookie offset head p bytes found reply h small w spelled s e =
      absurd (broke broken (λ content. told 0 content true) said (saying 0 true) silent (λ content. speaks 0 content true) _ found reply s e)
  chunk_whole extended waited (Some command) cookie offset head p bytes found reply h small w spelled s e =
      let tell = λ (content : Content). told cookie content (is_done head) in
      let a = passed broken (λ content. told cookie content (is_done head)) said (saying cookie (is_done head)) silent (λ content. speaks cookie content (is_done head)) _ _ _ found reply s e in
      let b = passed broken (λ content. told cookie content (is_done head)) said (saying cookie (is_done head)) silent (λ content. speaks cookie content (is_done head)) _ _ _ found reply s a.1 in
      let c = passed broken (λ content. told cookie content (is_done head)) said (saying cookie (is_done head)) silent (λ content. speaks cookie content (is_done head)) _ _ _ found reply s b.1 in
      let is = speaks_payload broken (λ content. told cookie content (is_done head)) said (saying cookie (is_done head)) silent (λ content. speaks cookie content (is_done head))
      (form_of extended head.type) command head.type head.length p found reply (type_of_form extended head.type) small h a.0 s c.1 in
      let count : length (take head.length p) ≡ head.length = length-take-le head.length p is.whole.enough in
      let counted : IsRowThen (head_of extended head.flags head.type cookie offset (length (take head.length p))) p bytes =
      subst (λ (n : ℕ). IsRowThen (head_of extended head.flags head.type cookie offset n) p bytes) (sym count) spelled in
      let split : IsRowThen (head_of extended head.flags head.type cookie offset (length (take head.length p))) (take head.length p ++ drop head.length p) bytes =
      subst (λ (r : List ℕ). IsRowThen (head_of extended head.flags head.type cookie offset (length (take head.length p))) r bytes) (sym (take-append-drop head.length p)) counted in
      subst (λ (r : Said). BeginsWithReply extended waited r bytes) is.reply_is (record {
        command = command;
        waits = w;
        whole = inr (record {
          flags = head.flags;
          type = head.type;
          offset = offset;
          payload = take head.length p;
          rest = drop head.length p;
          spelled = split;
          means = is.whole.means;
          is = is.whole.is;
          tells = is.whole.tells;
          last = refl;
        });
      })

  small_type : (bytes : List ℕ) → IsBytes bytes → number_at 6 2 bytes < 65536
  small_type bytes h = (AllFit-fields_at (2 ∷ []) 6 bytes h).0

  compact_whole : (structured : Bool) (waited : ℕ → Option Waiting) (bytes : List ℕ) (found : R) (reply : Said) → IsBytes bytes → said found ≡ Some reply → shows_compact broken told structured waited bytes ≡ Some found → BeginsWithReply false waited reply bytes
  unfolding shows_compact saying
  compact_whole structured waited bytes found reply h s e =
      let a = passed broken (λ content. told 0 content true) said (saying 0 true) silent (λ content. speaks 0 content true) _ _ _ found reply s e in
      go a.0 (number_at 0 4 bytes == simple_reply_magic) refl a.1
    where
      go : is_agreed structured (number_at 0 4 bytes) ≡ true → (plain : Bool) → (number_at 0 4 bytes == simple_reply_magic) ≡ plain →
          (if plain then once 16 bytes (shows_simple broken told structured (waited (number_at 8 8 bytes)) bytes)
          else once 20 bytes (shows_chunk_for broken told false (waited (number_at 8 8 bytes)) (number_at 8 8 bytes) (chunk_head_in bytes) (drop 20 bytes))) ≡ Some found → BeginsWithReply false waited reply bytes
      go agreed true is f =
          let b = once_some 16 bytes _ found f in
          simple_whole false structured waited (waited (number_at 8 8 bytes)) bytes found reply h refl b.0 (eqb-true (number_at 0 4 bytes) simple_reply_magic is) s b.1
      go agreed false is f =
          let b = once_some 20 bytes _ found f in
          let head : IsRowThen (number 4 (number_at 0 4 bytes) ∷ number 2 (number_at 4 2 bytes) ∷ number 2 (number_at 6 2 bytes) ∷ number 8 (number_at 8 8 bytes) ∷ number 4 (number_at 16 4 bytes) ∷ []) (drop 20 bytes) bytes =
          reads_then (4 ∷ 2 ∷ 2 ∷ 8 ∷ 4 ∷ []) bytes h b.0 in
          let magic = agreed_chunk structured (number_at 0 4 bytes) agreed is in
          chunk_whole false waited (waited (number_at 8 8 bytes)) (number_at 8 8 bytes) 0 (chunk_head_in bytes) (drop 20 bytes) bytes found reply (bytes_of_drop 20 bytes h) (small_type bytes h) refl
          (subst (λ (m : ℕ). IsRowThen (number 4 m ∷ number 2 (number_at 4 2 bytes) ∷ number 2 (number_at 6 2 bytes) ∷ number 8 (number_at 8 8 bytes) ∷ number 4 (number_at 16 4 bytes) ∷ []) (drop 20 bytes) bytes) magic head) s b.1

  extended_whole : (waited : ℕ → Option Waiting) (bytes : List ℕ) (found : R) (reply : Said) → IsBytes bytes → said found ≡ Some reply → shows_extended broken told waited bytes ≡ Some found → BeginsWithReply true waited reply bytes
  unfolding shows_extended saying
  extended_whole waited bytes found reply h s e =
      let a = passed broken (λ content. told 0 content true) said (saying 0 true) silent (λ content. speaks 0 content true) _ _ _ found reply s e in
      let b = passed broken (λ content. told 0 content true) said (saying 0 true) silent (λ content. speaks 0 content true) _ _ _ found reply s a.1 in
      let c = once_some 32 bytes _ found b.1 in
      let magic : number_at 0 4 bytes ≡ extended_reply_magic = eqb-true (number_at 0 4 bytes) extended_reply_magic b.0 in
      let head : IsRowThen (number 4 (number_at 0 4 bytes) ∷ number 2 (number_at 4 2 bytes) ∷ number 2 (number_at 6 2 bytes) ∷ number 8 (number_at 8 8 bytes) ∷ number 8 (number_at 16 8 bytes) ∷ number 8 (number_at 24 8 bytes) ∷ []) (drop 32 bytes) bytes =
      reads_then (4 ∷ 2 ∷ 2 ∷ 8 ∷ 8 ∷ 8 ∷ []) bytes h c.0 in
      chunk_whole true waited (waited (number_at 8 8 bytes)) (number_at 8 8 bytes) (number_at 16 8 bytes) (extended_head_in bytes) (drop 32 bytes) bytes found reply (bytes_of_drop 32 bytes h) (small_type bytes h) refl
      (subst (λ (m : ℕ). IsRowThen (number 4 m ∷ number 2 (number_at 4 2 bytes) ∷ number 2 (number_at 6 2 bytes) ∷ number 8 (number_at 8 8 bytes) ∷ number 8 (number_at 16 8 bytes) ∷ number 8 (number_at 24 8 bytes) ∷ []) (drop 32 bytes) bytes) magic head) s c.1

  reply_whole : (structured extended : Bool) (waited : ℕ → Option Waiting) (bytes : List ℕ) (found : R) (reply : Said) → IsBytes bytes → shows_reply broken told structured extended waited bytes ≡ Some found → said found ≡ Some reply →
      BeginsWithReply extended waited reply bytes
  unfolding shows_reply
  reply_whole structured true waited bytes found reply h e s = extended_whole waited bytes found reply h s (once_some 4 bytes _ found e).1
  reply_whole structured false waited bytes found reply h e s = compact_whole structured waited bytes found reply h s (once_some 4 bytes _ found e).1

pub replies_are_whole : {R : Type 0} → RepliesAreWhole R
replies_are_whole broken told said silent speaks structured extended waited bytes found reply h e s = reply_whole broken told said silent speaks structured extended waited bytes found reply h e s
