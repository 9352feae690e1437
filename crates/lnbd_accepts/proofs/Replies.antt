-- A reply that may come is told, from its magic number on.
use Rattle.std.proofs.Common.{◌≡◌, ◌≢◌, ℕ, ◌+◌, ◌≤◌, Bool, true, false, not, ◌&&◌, ◌||◌, List, ◌++◌, length, take, drop, Option, Some, refl, ap, sym, subst, ◌∙◌, arith, ◌==◌, ◌⊎◌, inl, inr}
use Rattle.std.proofs.Common.{length-append}
use Rattle.std.proofs.Math.Seq.{take-append_seam}
use Rattle.lnbd_model.specs.Kind.{is_read}
use Rattle.lnbd_model.specs.declared.breach.Breach.{Breach}
use Rattle.lnbd_model.specs.declared.kind.Kind.{Kind}
use Rattle.lnbd_model.specs.declared.kind.Kind.TheVariants as kind
use Rattle.lnbd_records.specs.Content.{Content}
use Rattle.lnbd_records.specs.Content as content
use Rattle.lnbd_records.specs.Numbers.{number_at, has_bit}
use Rattle.lnbd_records.specs.Flags.{reply_flag_done}
use Rattle.lnbd_records.specs.Transmission.{simple_reply, chunk_head, extended_chunk_head, simple_reply_magic, structured_reply_magic, extended_reply_magic, IsPayload}
use Rattle.lnbd_records.proofs.NumberLaws.{then_reads}
use Rattle.lnbd_stream.proofs.Grammar.{once_there, wants_true}
use Rattle.lnbd_chunks.specs.Chunk.{Waiting, Head, is_done}
use Rattle.lnbd_chunks.specs.Reply.{content_size, simple_content, chunk_head_in, extended_head_in, shows_simple, shows_chunk_for, shows_compact, shows_extended, shows_reply}
use Rattle.lnbd_chunks.specs.Whole.{Said}
use Rattle.lnbd_chunks.proofs.Steady.{stays_chunk}
use Rattle.lnbd_accepts.specs.Replies.{MayTell, MayAnswer, IsBearable, BeginsWithLawfulChunk, BeginsWithLawfulSimple, LawfulRepliesAreTold}
use Rattle.lnbd_accepts.proofs.Payloads.{chunk_told}

or_true : (b : Bool) → (b || true) ≡ true
or_true true = refl
or_true false = refl

not_read : (k : Kind) → k ≢ kind.Read → is_read k ≡ false
not_read kind.Read h = absurd (h refl)
not_read kind.Write h = refl
not_read kind.Flush h = refl
not_read kind.Trim h = refl
not_read kind.Cache h = refl
not_read kind.Zero h = refl
not_read kind.BlockStatus h = refl

-- what a simple reply's head announces and what it tells, by the records
pub record Telling (command : Waiting) (error : ℕ) (bytes : List ℕ) (what : Content) : Type 0 where
  pub size : content_size command error ≡ length bytes
  pub tells : simple_content command error bytes ≡ what

pub telling : (command : Waiting) (error : ℕ) (bytes : List ℕ) (what : Content) → MayTell command error bytes what → Telling command error bytes what
telling command error bytes (content.Error number) h =
    let some : (error == 0) ≡ false = let n = h.0 in grind (arith, n) in
    record { size = rw (some, h.2) refl; tells = rw (some, h.1) refl }
telling command error bytes (content.Data offset data_) h =
    let read : is_read command.kind ≡ true = ap is_read h.1 in
    record { size = rw (h.0, read) (sym h.4); tells = rw (h.0, read, h.2, h.3) refl }
telling command error bytes content.Bare h =
    let read : is_read command.kind ≡ false = not_read command.kind h.1 in
    record { size = rw (h.0, read, h.2) refl; tells = rw (h.0, read) refl }
telling command error bytes (content.Hole offset size) h = absurd h
telling command error bytes (content.Status context descriptors) h = absurd h
telling command error bytes (content.ErrorAt number offset) h = absurd h
telling command error bytes content.Nothing h = absurd h

may_be_simple : (structured : Bool) (k : Kind) → (structured ≡ false) ⊎ (k ≢ kind.Read) → not (structured && is_read k) ≡ true
may_be_simple structured k (inl off) = rw off refl
may_be_simple true k (inr other) = rw (not_read k other) refl
may_be_simple false k (inr other) = refl

-- the head of a chunk is there
long_chunk : (structured extended : Bool) (command : Waiting) (said : Said) (bytes : List ℕ) → BeginsWithLawfulChunk structured extended command said bytes → 4 ≤ length bytes
long_chunk structured true command said bytes c =
    let x = c.chunk in
    let read = then_reads (extended_chunk_head x.flags x.type said.cookie x.offset (length x.payload)) (x.payload ++ x.rest) bytes x.spelled in
    omega (arith, read.size)
long_chunk structured false command said bytes c =
    let x = c.chunk in
    let read = then_reads (chunk_head x.flags x.type said.cookie (length x.payload)) (x.payload ++ x.rest) bytes x.spelled in
    omega (arith, read.size)

module _ {R : Type 0} (broken : Breach → R) (told : ℕ → Content → Bool → R) where
  simple_told : (structured : Bool) (waited : ℕ → Option Waiting) (command : Waiting) (said : Said) (bytes : List ℕ) → waited said.cookie ≡ Some command →
      BeginsWithLawfulSimple structured false command said bytes → shows_compact broken told structured waited bytes ≡ Some (told said.cookie said.content said.last)
  unfolding shows_compact shows_simple
  simple_told structured waited command said bytes w s =
      let read = then_reads (simple_reply s.error said.cookie) (s.data_ ++ s.rest) bytes s.spelled in
      let e = read.fields in
      let magic : number_at 0 4 bytes ≡ simple_reply_magic = cc in
      let error : number_at 4 4 bytes ≡ s.error = cc in
      let cookie : number_at 8 8 bytes ≡ said.cookie = cc in
      let t = telling command s.error s.data_ said.content s.tells in
      let long : length bytes ≡ 16 + (length s.data_ + length s.rest) = omega (arith, read.size, length-append s.data_ s.rest) in
      let part : take (length s.data_) (drop 16 bytes) ≡ s.data_ = ap (take (length s.data_)) read.behind ∙ take-append_seam s.data_ s.rest in
      let may : not (structured && is_read command.kind) ≡ true = may_be_simple structured command.kind s.agreed in
      rw (magic, cookie, w, cookie, error, t.size, part, t.tells, s.last)
      (wants_true _ _ _ refl ∙ once_there 16 bytes _ (omega (arith, long)) ∙ wants_true _ _ _ may ∙ once_there (16 + length s.data_) bytes _ (omega (arith, long)))

  -- a chunk behind its head, whatever follows it
  chunk_for : (structured extended : Bool) (command : Waiting) (said : Said) (bytes : List ℕ) (c : BeginsWithLawfulChunk structured extended command said bytes) (head : Head) →
      head.flags ≡ c.chunk.flags → head.type ≡ c.chunk.type → head.length ≡ length c.chunk.payload →
      shows_chunk_for broken told extended (Some command) said.cookie head (c.chunk.payload ++ c.chunk.rest) ≡ Some (told said.cookie said.content said.last)
  unfolding shows_chunk_for
  chunk_for structured extended command said bytes c head flags type size =
      let last : is_done head ≡ said.last = ap (has_bit reply_flag_done) flags ∙ sym c.chunk.last in
      let is = subst (λ (t : ℕ). IsPayload t c.chunk.payload c.chunk.means) (sym type) c.chunk.is in
      let answers = subst (λ (b : Bool). MayAnswer extended command b c.chunk.means) (sym last) c.answers in
      let bearable = subst (λ (b : Bool). IsBearable command b c.chunk.means) (sym last) c.bearable in
      stays_chunk broken (λ content. told said.cookie content (is_done head)) extended command head c.chunk.payload c.chunk.rest _
      (chunk_told broken (λ content. told said.cookie content (is_done head)) extended command head c.chunk.payload c.chunk.means size is answers bearable)
      ∙ rw (last, c.chunk.tells) refl

  compact_told : (structured : Bool) (waited : ℕ → Option Waiting) (command : Waiting) (said : Said) (bytes : List ℕ) → waited said.cookie ≡ Some command →
      BeginsWithLawfulChunk structured false command said bytes → shows_compact broken told structured waited bytes ≡ Some (told said.cookie said.content said.last)
  unfolding shows_compact
  compact_told structured waited command said bytes w c =
      let x = c.chunk in
      let read = then_reads (chunk_head x.flags x.type said.cookie (length x.payload)) (x.payload ++ x.rest) bytes x.spelled in
      let e = read.fields in
      let magic : number_at 0 4 bytes ≡ structured_reply_magic = cc in
      let flags : number_at 4 2 bytes ≡ x.flags = cc in
      let type : number_at 6 2 bytes ≡ x.type = cc in
      let cookie : number_at 8 8 bytes ≡ said.cookie = cc in
      let size : number_at 16 4 bytes ≡ length x.payload = cc in
      let on : structured ≡ true = is_on c.agreed in
      rw (magic, cookie, w, on, read.behind)
      (wants_true _ _ _ refl ∙ once_there 20 bytes _ (omega (arith, read.size)) ∙ chunk_for structured false command said bytes c (chunk_head_in bytes) flags type size)
    where
      is_on : (structured ≡ true) ⊎ (false ≡ true) → structured ≡ true
      is_on (inl on) = on
      is_on (inr never) = absurd (let n : false ≡ true = never in cc)

  extended_told : (structured : Bool) (waited : ℕ → Option Waiting) (command : Waiting) (said : Said) (bytes : List ℕ) → waited said.cookie ≡ Some command →
      BeginsWithLawfulChunk structured true command said bytes → shows_extended broken told waited bytes ≡ Some (told said.cookie said.content said.last)
  unfolding shows_extended
  extended_told structured waited command said bytes w c =
      let x = c.chunk in
      let read = then_reads (extended_chunk_head x.flags x.type said.cookie x.offset (length x.payload)) (x.payload ++ x.rest) bytes x.spelled in
      let e = read.fields in
      let magic : number_at 0 4 bytes ≡ extended_reply_magic = cc in
      let flags : number_at 4 2 bytes ≡ x.flags = cc in
      let type : number_at 6 2 bytes ≡ x.type = cc in
      let cookie : number_at 8 8 bytes ≡ said.cookie = cc in
      let size : number_at 24 8 bytes ≡ length x.payload = cc in
      rw (magic, cookie, w, read.behind)
      (wants_true _ _ _ refl ∙ wants_true _ _ _ refl ∙ once_there 32 bytes _ (omega (arith, read.size)) ∙ chunk_for structured true command said bytes c (extended_head_in bytes) flags type size)

  reply_told : (structured extended : Bool) (waited : ℕ → Option Waiting) (command : Waiting) (said : Said) (bytes : List ℕ) → waited said.cookie ≡ Some command →
      BeginsWithLawfulSimple structured extended command said bytes ⊎ BeginsWithLawfulChunk structured extended command said bytes →
      shows_reply broken told structured extended waited bytes ≡ Some (told said.cookie said.content said.last)
  unfolding shows_reply
  reply_told structured true waited command said bytes w (inl simple) = absurd (let never : true ≡ false = simple.plain in cc)
  reply_told structured true waited command said bytes w (inr c) = once_there 4 bytes _ (long_chunk structured true command said bytes c) ∙ extended_told structured waited command said bytes w c
  reply_told structured false waited command said bytes w (inl simple) =
      let read = then_reads (simple_reply simple.error said.cookie) (simple.data_ ++ simple.rest) bytes simple.spelled in
      once_there 4 bytes _ (omega (arith, read.size)) ∙ simple_told structured waited command said bytes w simple
  reply_told structured false waited command said bytes w (inr c) = once_there 4 bytes _ (long_chunk structured false command said bytes c) ∙ compact_told structured waited command said bytes w c

pub lawful_replies_are_told : {R : Type 0} → LawfulRepliesAreTold R
lawful_replies_are_told broken told structured extended waited said bytes r = reply_told broken told structured extended waited r.command said bytes r.waits r.lawful
