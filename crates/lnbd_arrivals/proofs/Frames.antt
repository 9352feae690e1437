-- What bytes show, magic by magic.
use Rattle.std.proofs.Common.{subst, ◌≡◌, ◌≢◌, ℕ, ◌+◌, ◌-◌, ◌<◌, ◌≤◌, Bool, true, false, ◌==◌, ◌||◌, ◌&&◌, List, ◌++◌, length, take, drop, Option, Some, None, refl, ap, sym, ◌∙◌, arith, length-append, if◌then◌else◌, inl, inr, nat_lt}
use Rattle.std.proofs.lemmas.Grind.{common_steps}
use Rattle.std.proofs.lemmas.Bool.{true≢false, eq-eqb, ne_eqb, ltb-true, ltb-false}
use Rattle.std.proofs.lemmas.List.{take_all, drop_all, take-append-drop, length-take-le, length-drop, take-append-le, drop-append-le}
use Rattle.lnbd_model.specs.Kind.{is_read}
use Rattle.lnbd_model.specs.declared.breach.Breach.{Breach}
use Rattle.lnbd_model.specs.declared.breach.Breach.TheVariants.{BadReplyMagic, UnknownCookie, SimpleForRead, MixedHeaders}
use Rattle.lnbd_records.specs.Content.{Content, Data, Bare}
use Rattle.lnbd_records.specs.Numbers.{number_at}
use Rattle.lnbd_records.specs.Transmission.{simple_reply_magic, structured_reply_magic, extended_reply_magic}
use Rattle.lnbd_stream.specs.Grammar.{once, wants}
use Rattle.lnbd_stream.proofs.Grammar.{once_there, once_less, wants_true, wants_false}
use Rattle.lnbd_chunks.specs.declared.form.Form.{Form}
use Rattle.lnbd_chunks.specs.declared.form.Form.TheVariants as form
use Rattle.lnbd_chunks.specs.Chunk.{Waiting, Head, is_done, form_of, fits_length, lies_within, shows_chunk}
use Rattle.lnbd_chunks.specs.Laws.{breach_of}
use Rattle.lnbd_chunks.specs.Reply.{content_size, simple_content, shows_simple, shows_chunk_for, shows_compact, shows_extended, shows_reply}
use Rattle.lnbd_chunks.proofs.Steady.{at_more, stays_chunk}
use Rattle.lnbd_history.specs.Arrivals.{Shown, Broken, reply, shows_frame}
use Rattle.lnbd_structured.specs.Told.{MayCome}
use Rattle.lnbd_structured.specs.Assembly.{head_of}
use Rattle.lnbd_wire.specs.declared.extended_chunk.ExtHead.{ExtHead}
use Rattle.lnbd_arrivals.specs.Frames.{Announces, IsChunk, IsDataFront, IsFront, IsReply, IsSuccess, announced_by, data_announced, front_size, is_extended, is_structured, shows_by}
use Rattle.lnbd_arrivals.specs.Heads.{IsCut, IsHead, head_in, head_size, magic_breach, magic_of}
use Rattle.lnbd_arrivals.specs.Payloads.{told_by}
use Rattle.lnbd_arrivals.specs.declared.announced.Announced.{Announced}
use Rattle.lnbd_arrivals.specs.declared.announced.Carrier.TheVariants as carrier
use Rattle.lnbd_arrivals.specs.declared.chunk.Chunk.{Chunk}
use Rattle.lnbd_arrivals.specs.declared.replies.Replies.{Replies}
use Rattle.lnbd_arrivals.specs.declared.replies.Replies.TheVariants.{Simple, Structured, Extended}
use Rattle.lnbd_arrivals.proofs.Chunks.{broke_chunk, none_chunk, told_chunk, fair_data, fixed_there, front_fair, chunk_may_come, chunk_fits}

pub no_magic : (replies : Replies) (waited : ℕ → Option Waiting) (bytes : List ℕ) → length bytes < 4 → shows_by replies waited bytes ≡ None
unfolding shows_frame shows_reply
no_magic replies waited bytes short = once_less 4 bytes _ short

-- what a chunk at the front shows, behind its head
abbrev behind : (extended : Bool) → (ℕ → Option Waiting) → List ℕ → Option Shown
behind extended waited bytes = shows_chunk_for Broken reply extended (waited (number_at 8 8 bytes)) (number_at 8 8 bytes) (head_in extended bytes) (drop (head_size extended) bytes)

-- While extended headers are off.

compact_is : (replies : Replies) (waited : ℕ → Option Waiting) (bytes : List ℕ) → is_extended replies ≡ false → 4 ≤ length bytes → shows_by replies waited bytes ≡ shows_compact Broken reply (is_structured replies) waited bytes
unfolding shows_frame shows_reply
compact_is Simple waited bytes e enough = once_there 4 bytes _ enough
compact_is Structured waited bytes e enough = once_there 4 bytes _ enough
compact_is Extended waited bytes e enough = absurd (cc (e))

module _ (replies : Replies) (waited : ℕ → Option Waiting) (bytes : List ℕ) (compact : is_extended replies ≡ false) (enough : 4 ≤ length bytes) where
  simple_magic : number_at 0 4 bytes ≡ simple_reply_magic → shows_by replies waited bytes ≡ once 16 bytes (shows_simple Broken reply (is_structured replies) (waited (number_at 8 8 bytes)) bytes)
  unfolding shows_compact wants
  simple_magic magic =
      compact_is replies waited bytes compact enough
      ∙ ap (λ (m : Bool). wants (m || (is_structured replies && (number_at 0 4 bytes == structured_reply_magic))) (Broken BadReplyMagic)
      (if m then once 16 bytes (shows_simple Broken reply (is_structured replies) (waited (number_at 8 8 bytes)) bytes) else once 20 bytes (behind false waited bytes))) (eq-eqb (number_at 0 4 bytes) simple_reply_magic magic)

  other_magic : number_at 0 4 bytes ≢ simple_reply_magic → shows_by replies waited bytes ≡ wants (is_structured replies && (number_at 0 4 bytes == structured_reply_magic)) (Broken BadReplyMagic) (once 20 bytes (behind false waited bytes))
  unfolding shows_compact
  other_magic other =
      compact_is replies waited bytes compact enough
      ∙ ap (λ (m : Bool). wants (m || (is_structured replies && (number_at 0 4 bytes == structured_reply_magic))) (Broken BadReplyMagic)
      (if m then once 16 bytes (shows_simple Broken reply (is_structured replies) (waited (number_at 8 8 bytes)) bytes) else once 20 bytes (behind false waited bytes))) (ne_eqb (number_at 0 4 bytes) simple_reply_magic other)

  pub not_agreed : number_at 0 4 bytes ≢ simple_reply_magic → is_structured replies ≡ false → shows_by replies waited bytes ≡ Some (Broken BadReplyMagic)
  unfolding wants
  not_agreed other e = other_magic other ∙ ap (λ (s : Bool). wants (s && (number_at 0 4 bytes == structured_reply_magic)) (Broken BadReplyMagic) (once 20 bytes (behind false waited bytes))) e

  chunk_or : number_at 0 4 bytes ≢ simple_reply_magic → is_structured replies ≡ true → shows_by replies waited bytes ≡ wants (number_at 0 4 bytes == structured_reply_magic) (Broken BadReplyMagic) (once 20 bytes (behind false waited bytes))
  chunk_or other e = other_magic other ∙ ap (λ (s : Bool). wants (s && (number_at 0 4 bytes == structured_reply_magic)) (Broken BadReplyMagic) (once 20 bytes (behind false waited bytes))) e

  pub no_agreed : number_at 0 4 bytes ≢ simple_reply_magic → is_structured replies ≡ true → number_at 0 4 bytes ≢ structured_reply_magic → shows_by replies waited bytes ≡ Some (Broken BadReplyMagic)
  no_agreed other e also = chunk_or other e ∙ wants_false _ _ _ (ne_eqb (number_at 0 4 bytes) structured_reply_magic also)

  compact_chunk : is_structured replies ≡ true → number_at 0 4 bytes ≡ structured_reply_magic → shows_by replies waited bytes ≡ once 20 bytes (behind false waited bytes)
  compact_chunk e magic =
      chunk_or (λ same. absurd (omega (arith, magic, same))) e ∙ wants_true _ _ _ (eq-eqb (number_at 0 4 bytes) structured_reply_magic magic)

pub simple_cut : (replies : Replies) (waited : ℕ → Option Waiting) (bytes : List ℕ) → is_extended replies ≡ false → IsCut simple_reply_magic 16 bytes → shows_by replies waited bytes ≡ None
simple_cut replies waited bytes compact cut = elim cut [
  | inl short ↦ no_magic replies waited bytes short
  | inr begun ↦ simple_magic replies waited bytes compact begun.0 begun.1 ∙ once_less 16 bytes _ begun.2
]

pub compact_cut : (replies : Replies) (waited : ℕ → Option Waiting) (bytes : List ℕ) → is_extended replies ≡ false → is_structured replies ≡ true → IsCut structured_reply_magic 20 bytes → shows_by replies waited bytes ≡ None
compact_cut replies waited bytes compact agreed cut = elim cut [
  | inl short ↦ no_magic replies waited bytes short
  | inr begun ↦ compact_chunk replies waited bytes compact begun.0 agreed begun.1 ∙ once_less 20 bytes _ begun.2
]

-- While they are on.

module _ (waited : ℕ → Option Waiting) (bytes : List ℕ) (enough : 4 ≤ length bytes) where
  extended_is : shows_by Extended waited bytes ≡ shows_extended Broken reply waited bytes
  unfolding shows_frame shows_reply
  extended_is = once_there 4 bytes _ enough

  extended_chunk : number_at 0 4 bytes ≡ extended_reply_magic → shows_by Extended waited bytes ≡ once 32 bytes (behind true waited bytes)
  unfolding shows_extended wants
  extended_chunk magic = extended_is ∙ ap (λ (n : ℕ). wants ((n == simple_reply_magic) || (n == structured_reply_magic) || (n == extended_reply_magic)) (Broken BadReplyMagic)
      (wants (n == extended_reply_magic) (Broken MixedHeaders) (once 32 bytes (behind true waited bytes)))) magic

  pub not_extended : number_at 0 4 bytes ≢ extended_reply_magic → shows_by Extended waited bytes ≡ Some (Broken (magic_breach (number_at 0 4 bytes)))
  unfolding shows_extended wants
  not_extended other =
      extended_is ∙ ap (λ (c : Bool). wants ((number_at 0 4 bytes == simple_reply_magic) || (number_at 0 4 bytes == structured_reply_magic) || c) (Broken BadReplyMagic)
      (wants c (Broken MixedHeaders) (once 32 bytes (behind true waited bytes)))) (ne_eqb (number_at 0 4 bytes) extended_reply_magic other)
      ∙ go (number_at 0 4 bytes == simple_reply_magic) (number_at 0 4 bytes == structured_reply_magic)
    where
      go : (a b : Bool) → wants (a || b || false) (Broken BadReplyMagic) (wants false (Broken MixedHeaders) (once 32 bytes (behind true waited bytes))) ≡ Some (Broken (if a || b then MixedHeaders else BadReplyMagic))
      go true b = refl
      go false true = refl
      go false false = refl

pub extended_cut : (waited : ℕ → Option Waiting) (bytes : List ℕ) → IsCut extended_reply_magic 32 bytes → shows_by Extended waited bytes ≡ None
extended_cut waited bytes cut = elim cut [
  | inl short ↦ no_magic Extended waited bytes short
  | inr begun ↦ extended_chunk waited bytes begun.0 begun.1 ∙ once_less 32 bytes _ begun.2
]

-- A head that is cut shows nothing, with extended headers or without.
cut_shown : (replies : Replies) (waited : ℕ → Option Waiting) (bytes : List ℕ) → is_structured replies ≡ true → IsCut (magic_of (is_extended replies)) (head_size (is_extended replies)) bytes → shows_by replies waited bytes ≡ None
cut_shown Simple waited bytes agreed c = absurd (cc (agreed))
cut_shown Structured waited bytes agreed c = compact_cut Structured waited bytes refl refl c
cut_shown Extended waited bytes agreed c = extended_cut waited bytes c

-- A whole head of a chunk.

chunk_is : (replies : Replies) (waited : ℕ → Option Waiting) (bytes : List ℕ) (head : ExtHead) → is_structured replies ≡ true → IsHead (is_extended replies) bytes head →
    shows_by replies waited bytes ≡ shows_chunk_for Broken reply (is_extended replies) (waited (number_at 8 8 bytes)) (number_at 8 8 bytes) (head_of head) (drop (head_size (is_extended replies)) bytes)
chunk_is Simple waited bytes head agreed h = absurd (cc (agreed))
chunk_is Structured waited bytes head agreed h =
    compact_chunk Structured waited bytes refl (omega (arith, h.there)) refl h.magic ∙ once_there 20 bytes _ h.there
    ∙ ap (λ said. shows_chunk_for Broken reply false (waited (number_at 8 8 bytes)) (number_at 8 8 bytes) said (drop 20 bytes)) (sym h.says)
chunk_is Extended waited bytes head agreed h =
    extended_chunk waited bytes (omega (arith, h.there)) h.magic ∙ once_there 32 bytes _ h.there
    ∙ ap (λ said. shows_chunk_for Broken reply true (waited (number_at 8 8 bytes)) (number_at 8 8 bytes) said (drop 32 bytes)) (sym h.says)

-- where the payload begins, and what is judged of it
pub begins_at : (on extended : Bool) (size : ℕ) (part bytes : List ℕ) → on ≡ extended → size ≡ head_size on → part ≡ drop size bytes → part ≡ drop (head_size extended) bytes
begins_at on extended size part bytes same sized is = is ∙ ap (λ (k : ℕ). drop k bytes) (sized ∙ ap head_size same)

pub judged_by : (on extended : Bool) (found command : Waiting) (head : Head) (part payload : List ℕ) (judged : Option Breach) → judged ≡ breach_of on found head part → on ≡ extended → found ≡ command → part ≡ payload →
    breach_of extended command head payload ≡ judged
judged_by on extended found command head part payload judged e same asks is =
    sym (e ∙ ap (λ (b : Bool). breach_of b found head part) same ∙ ap (λ (w : Waiting). breach_of extended w head part) asks ∙ ap (λ (p : List ℕ). breach_of extended command head p) is)

module _ (replies : Replies) (waited : ℕ → Option Waiting) (bytes : List ℕ) (head : ExtHead) (agreed : is_structured replies ≡ true) (h : IsHead (is_extended replies) bytes head) where
  pub chunk_unknown : waited (number_at 8 8 bytes) ≡ None → shows_by replies waited bytes ≡ Some (Broken UnknownCookie)
  unfolding shows_chunk_for
  chunk_unknown none = chunk_is replies waited bytes head agreed h
      ∙ ap (λ w. shows_chunk_for Broken reply (is_extended replies) w (number_at 8 8 bytes) (head_of head) (drop (head_size (is_extended replies)) bytes)) none

  module _ (command : Waiting) (waits : waited (number_at 8 8 bytes) ≡ Some command) where
    abbrev payload : List ℕ
    payload = drop (head_size (is_extended replies)) bytes

    abbrev tells : Content → Shown
    tells content = reply (number_at 8 8 bytes) content (is_done (head_of head))

    known : shows_by replies waited bytes ≡ shows_chunk Broken tells (is_extended replies) command (head_of head) payload
    unfolding shows_chunk_for
    known = chunk_is replies waited bytes head agreed h
        ∙ ap (λ w. shows_chunk_for Broken reply (is_extended replies) w (number_at 8 8 bytes) (head_of head) (drop (head_size (is_extended replies)) bytes)) waits

    pub chunk_broken : (breach : Breach) → breach_of (is_extended replies) command (head_of head) (drop (head_size (is_extended replies)) bytes) ≡ Some breach → shows_by replies waited bytes ≡ Some (Broken breach)
    chunk_broken breach e = known ∙ broke_chunk Broken tells (is_extended replies) command (head_of head) payload breach e

    module _ (fair : breach_of (is_extended replies) command (head_of head) (drop (head_size (is_extended replies)) bytes) ≡ None) where
      pub chunk_nothing : length (drop (head_size (is_extended replies)) bytes) < head.length → shows_by replies waited bytes ≡ None
      chunk_nothing short = known ∙ none_chunk Broken tells (is_extended replies) command (head_of head) payload short fair

      pub chunk_shown : head.length ≤ length (drop (head_size (is_extended replies)) bytes) →
          shows_by replies waited bytes ≡ Some (reply (number_at 8 8 bytes) (told_by (form_of (is_extended replies) head.kind) (take head.length (drop (head_size (is_extended replies)) bytes))) (is_done (head_of head)))
      chunk_shown there =
          let long : length (take head.length (drop (head_size (is_extended replies)) bytes)) ≡ head.length = length-take-le head.length payload there in
          let split : take head.length payload ++ drop head.length payload ≡ payload = take-append-drop head.length payload in
          let front : breach_of (is_extended replies) command (head_of head) (take head.length payload) ≡ None =
          front_fair (is_extended replies) command (head_of head) (take head.length payload) (drop head.length payload)
          (ap (λ (p : List ℕ). breach_of (is_extended replies) command (head_of head) p) split ∙ fair) in
          let here = stays_chunk Broken tells (is_extended replies) command (head_of head) (take head.length payload) (drop head.length payload)
          (tells (told_by (form_of (is_extended replies) head.kind) (take head.length payload)))
          (told_chunk Broken tells (is_extended replies) command (head_of head) (take head.length payload) long front) in
          known ∙ ap (λ (p : List ℕ). shows_chunk Broken tells (is_extended replies) command (head_of head) p) (sym split) ∙ here

-- A front of the bytes that has the whole head.

head_more : (extended : Bool) (front more : List ℕ) → head_size extended ≤ length front → head_in extended (front ++ more) ≡ head_in extended front
head_more false front more h = rw (at_more 4 2 front more (omega (arith, h)), at_more 6 2 front more (omega (arith, h)), at_more 16 4 front more (omega (arith, h))) refl
head_more true front more h = rw (at_more 4 2 front more (omega (arith, h)), at_more 6 2 front more (omega (arith, h)), at_more 24 8 front more (omega (arith, h))) refl

pub head_least : (extended : Bool) → 20 ≤ head_size extended
head_least false = omega arith
head_least true = omega arith

module _ (replies : Replies) (waited : ℕ → Option Waiting) (bytes : List ℕ) (head : ExtHead) (agreed : is_structured replies ≡ true) (h : IsHead (is_extended replies) bytes head) (command : Waiting) (waits : waited (number_at 8 8 bytes) ≡ Some command)
    (fair : breach_of (is_extended replies) command (head_of head) (drop (head_size (is_extended replies)) bytes) ≡ None) where
  module _ (front more : List ℕ) (all : bytes ≡ front ++ more) (begun : head_size (is_extended replies) ≤ length front) where
    numbered : (place width : ℕ) → place + width ≤ 20 → number_at place width bytes ≡ number_at place width front
    numbered place width fits = ap (number_at place width) all ∙ at_more place width front more (omega (arith, fits, begun, head_least (is_extended replies)))

    pub headed : IsHead (is_extended replies) front head
    headed = record {
      there = begun;
      magic = sym (numbered 0 4 (omega arith)) ∙ h.magic;
      says = h.says ∙ ap (head_in (is_extended replies)) all ∙ head_more (is_extended replies) front more begun;
      cookie = h.cookie ∙ numbered 8 8 (omega arith);
    }

    pub waits_front : waited (number_at 8 8 front) ≡ Some command
    waits_front = ap waited (sym (numbered 8 8 (omega arith))) ∙ waits

    pub payload_is : drop (head_size (is_extended replies)) bytes ≡ drop (head_size (is_extended replies)) front ++ more
    payload_is = ap (drop (head_size (is_extended replies))) all ∙ drop-append-le (head_size (is_extended replies)) front more begun

    pub fair_front : breach_of (is_extended replies) command (head_of head) (drop (head_size (is_extended replies)) front) ≡ None
    fair_front = front_fair (is_extended replies) command (head_of head) (drop (head_size (is_extended replies)) front) more
        (ap (breach_of (is_extended replies) command (head_of head)) (sym payload_is) ∙ fair)

  -- By fewer bytes than the chunk has nothing is shown.
  module _ (front more : List ℕ) (all : bytes ≡ front ++ more) where
    cut : length front < head_size (is_extended replies) → IsCut (magic_of (is_extended replies)) (head_size (is_extended replies)) front
    cut short = go (nat_lt (length front) 4) refl
      where
        go : (b : Bool) → nat_lt (length front) 4 ≡ b → IsCut (magic_of (is_extended replies)) (head_size (is_extended replies)) front
        go true is = inl (ltb-true (length front) 4 is)
        go false is =
            let enough = ltb-false (length front) 4 is in
            inr (enough, sym (at_more 0 4 front more enough) ∙ ap (number_at 0 4) (sym all) ∙ h.magic, short)

    pub before_head : length front < head_size (is_extended replies) → shows_by replies waited front ≡ None
    before_head short = cut_shown replies waited front agreed (cut short)

    pub before_end : length front < head_size (is_extended replies) + head.length → shows_by replies waited front ≡ None
    before_end short = go (nat_lt (length front) (head_size (is_extended replies))) refl
      where
        go : (b : Bool) → nat_lt (length front) (head_size (is_extended replies)) ≡ b → shows_by replies waited front ≡ None
        go true is = before_head (ltb-true _ _ is)
        go false is =
            let begun = ltb-false _ _ is in
            chunk_nothing replies waited front head agreed (headed front more all begun) command (waits_front front more all begun) (fair_front front more all begun)
            (omega (arith, short, length-drop (head_size (is_extended replies)) front, begun))

  pub chunk_whole : (chunk : Chunk) → chunk.extended ≡ is_extended replies → chunk.head ≡ head → chunk.size ≡ head_size (is_extended replies) + head.length →
      head.length ≤ length (drop (head_size (is_extended replies)) bytes) → IsChunk replies waited bytes chunk
  chunk_whole chunk extended is sized there =
      let size : ℕ = head_size (is_extended replies) + head.length in
      let payload : List ℕ = drop (head_size (is_extended replies)) bytes in
      let enough : size ≤ length bytes = omega (arith, there, h.there, length-drop (head_size (is_extended replies)) bytes) in
      let all : bytes ≡ take size bytes ++ drop size bytes = sym (take-append-drop size bytes) in
      let count : length (take size bytes) ≡ size = length-take-le size bytes enough in
      let begun : head_size (is_extended replies) ≤ length (take size bytes) = omega (arith, count) in
      let behind_front : drop (head_size (is_extended replies)) bytes ≡ drop (head_size (is_extended replies)) (take size bytes) ++ drop size bytes = payload_is (take size bytes) (drop size bytes) all begun in
      let long : length (take head.length payload) ≡ head.length = length-take-le head.length payload there in
      let rest : length (drop (head_size (is_extended replies)) (take size bytes)) ≡ head.length = omega (arith, count, length-drop (head_size (is_extended replies)) (take size bytes)) in
      let part : take head.length (drop (head_size (is_extended replies)) (take size bytes)) ≡ take head.length payload =
      sym (ap (take head.length) behind_front ∙ take-append-le head.length (drop (head_size (is_extended replies)) (take size bytes)) (drop size bytes) (omega (arith, rest))) in
      let split : take head.length payload ++ drop head.length payload ≡ payload = take-append-drop head.length payload in
      let front : breach_of (is_extended replies) command (head_of head) (take head.length payload) ≡ None =
      front_fair (is_extended replies) command (head_of head) (take head.length payload) (drop head.length payload)
      (ap (λ (p : List ℕ). breach_of (is_extended replies) command (head_of head) p) split ∙ fair) in
      let shown : shows_by replies waited (take size bytes) ≡ Some (reply (number_at 8 8 bytes) (told_by (form_of (is_extended replies) head.kind) (take head.length payload)) (is_done (head_of head))) =
      chunk_shown replies waited (take size bytes) head agreed (headed (take size bytes) (drop size bytes) all begun) command (waits_front (take size bytes) (drop size bytes) all begun) (fair_front (take size bytes) (drop size bytes) all begun) (omega (arith, rest))
      ∙ ap (λ (p : List ℕ). Some (reply (number_at 8 8 (take size bytes)) (told_by (form_of (is_extended replies) head.kind) p) (is_done (head_of head)))) part
      ∙ ap (λ (c : ℕ). Some (reply c (told_by (form_of (is_extended replies) head.kind) (take head.length payload)) (is_done (head_of head)))) (sym (numbered (take size bytes) (drop size bytes) all begun 8 8 (omega arith))) in
      rw (is, extended, sized) (record {
        agreed = agreed;
        extended = refl;
        command = command;
        waits = ap waited h.cookie ∙ waits;
        cookie_is = h.cookie;
        sized = refl;
        there = enough;
        payload = record { whole = long; fits = chunk_fits (is_extended replies) command (head_of head) (take head.length payload) front };
        may_come = chunk_may_come (is_extended replies) command (head_of head) (take head.length payload) long front;
        shown = rw h.cookie shown;
        before = before_end;
      })

-- A whole head of a simple reply.

module _ (replies : Replies) (waited : ℕ → Option Waiting) (bytes : List ℕ) (compact : is_extended replies ≡ false) (there : 16 ≤ length bytes) (magic : number_at 0 4 bytes ≡ simple_reply_magic) where
  simple_is : shows_by replies waited bytes ≡ shows_simple Broken reply (is_structured replies) (waited (number_at 8 8 bytes)) bytes
  simple_is = simple_magic replies waited bytes compact (omega (arith, there)) magic ∙ once_there 16 bytes _ there

  pub simple_unknown : waited (number_at 8 8 bytes) ≡ None → shows_by replies waited bytes ≡ Some (Broken UnknownCookie)
  unfolding shows_simple
  simple_unknown none = simple_is ∙ ap (λ w. shows_simple Broken reply (is_structured replies) w bytes) none

  module _ (command : Waiting) (waits : waited (number_at 8 8 bytes) ≡ Some command) where
    pub for_read : (is_structured replies && is_read command.kind) ≡ true → shows_by replies waited bytes ≡ Some (Broken SimpleForRead)
    unfolding shows_simple
    for_read both = simple_is ∙ ap (λ w. shows_simple Broken reply (is_structured replies) w bytes) waits ∙ wants_false _ _ _ (rw both refl)

    module _ (lawful : (is_structured replies && is_read command.kind) ≡ false) where
      pub no_data : (size : ℕ) → size ≡ content_size command (number_at 4 4 bytes) → length bytes - 16 < size → shows_by replies waited bytes ≡ None
      unfolding shows_simple
      no_data size sized short =
          simple_is ∙ ap (λ w. shows_simple Broken reply (is_structured replies) w bytes) waits ∙ wants_true _ _ _ (rw lawful refl)
          ∙ once_less (16 + content_size command (number_at 4 4 bytes)) bytes _ (omega (arith, there, short, sized))

      pub told_whole : 16 + content_size command (number_at 4 4 bytes) ≤ length bytes →
          shows_by replies waited bytes ≡ Some (reply (number_at 8 8 bytes) (simple_content command (number_at 4 4 bytes) (take (content_size command (number_at 4 4 bytes)) (drop 16 bytes))) true)
      unfolding shows_simple
      told_whole enough = simple_is ∙ ap (λ w. shows_simple Broken reply (is_structured replies) w bytes) waits ∙ wants_true _ _ _ (rw lawful refl)
          ∙ once_there (16 + content_size command (number_at 4 4 bytes)) bytes _ enough

module _ (replies : Replies) (waited : ℕ → Option Waiting) (bytes : List ℕ) (compact : is_extended replies ≡ false) (there : 16 ≤ length bytes) (magic : number_at 0 4 bytes ≡ simple_reply_magic)
    (command : Waiting) (waits : waited (number_at 8 8 bytes) ≡ Some command) (lawful : (is_structured replies && is_read command.kind) ≡ false) where
  -- A front of the bytes that has the whole head.
  module _ (front more : List ℕ) (all : bytes ≡ front ++ more) (begun : 16 ≤ length front) where
    equal : (place width : ℕ) → place + width ≤ 16 → number_at place width bytes ≡ number_at place width front
    equal place width fits = ap (number_at place width) all ∙ at_more place width front more (omega (arith, fits, begun))

    magic_front : number_at 0 4 front ≡ simple_reply_magic
    magic_front = sym (equal 0 4 (omega arith)) ∙ magic

    waits_there : waited (number_at 8 8 front) ≡ Some command
    waits_there = ap waited (sym (equal 8 8 (omega arith))) ∙ waits

    size_front : content_size command (number_at 4 4 bytes) ≡ content_size command (number_at 4 4 front)
    size_front = ap (content_size command) (equal 4 4 (omega arith))

  -- By fewer bytes than the reply has nothing is shown.
  before_simple : (front more : List ℕ) → bytes ≡ front ++ more → length front < 16 + content_size command (number_at 4 4 bytes) → shows_by replies waited front ≡ None
  before_simple front more all short = go (nat_lt (length front) 16) refl
    where
      cut_front : length front < 16 → (b : Bool) → nat_lt (length front) 4 ≡ b → IsCut simple_reply_magic 16 front
      cut_front few true is = inl (ltb-true (length front) 4 is)
      cut_front few false is =
          let enough = ltb-false (length front) 4 is in
          inr (enough, sym (at_more 0 4 front more enough) ∙ ap (number_at 0 4) (sym all) ∙ magic, few)

      go : (b : Bool) → nat_lt (length front) 16 ≡ b → shows_by replies waited front ≡ None
      go true is = let few = ltb-true (length front) 16 is in simple_cut replies waited front compact (cut_front few (nat_lt (length front) 4) refl)
      go false is =
          let begun = ltb-false (length front) 16 is in
          no_data replies waited front compact begun (magic_front front more all begun) command (waits_there front more all begun) lawful (content_size command (number_at 4 4 bytes)) (size_front front more all begun)
          (omega (arith, short, begun))

  pub whole : (cookie error size : ℕ) → cookie ≡ number_at 8 8 bytes → error ≡ number_at 4 4 bytes → size ≡ content_size command error → 16 + size ≤ length bytes → IsReply replies waited bytes cookie error size
  whole cookie error size c e s fits =
      let all : bytes ≡ take (16 + size) bytes ++ drop (16 + size) bytes = sym (take-append-drop (16 + size) bytes) in
      let count : length (take (16 + size) bytes) ≡ 16 + size = length-take-le (16 + size) bytes fits in
      let begun : 16 ≤ length (take (16 + size) bytes) = omega (arith, count) in
      let sized : size ≡ content_size command (number_at 4 4 bytes) = s ∙ ap (content_size command) e in
      let here : content_size command (number_at 4 4 (take (16 + size) bytes)) ≡ size = sym (sized ∙ size_front (take (16 + size) bytes) (drop (16 + size) bytes) all begun) in
      let told = told_whole replies waited (take (16 + size) bytes) compact begun (magic_front (take (16 + size) bytes) (drop (16 + size) bytes) all begun) command (waits_there (take (16 + size) bytes) (drop (16 + size) bytes) all begun) lawful (omega (arith, here, count)) in
      let data_there : take size (drop 16 (take (16 + size) bytes)) ≡ take size (drop 16 bytes) =
      sym (ap (λ b. take size (drop 16 b)) all ∙ ap (take size) (drop-append-le 16 (take (16 + size) bytes) (drop (16 + size) bytes) begun)
      ∙ take-append-le size (drop 16 (take (16 + size) bytes)) (drop (16 + size) bytes) (omega (arith, count, length-drop 16 (take (16 + size) bytes)))) in
      let number = equal (take (16 + size) bytes) (drop (16 + size) bytes) all begun in
      record {
        command = command;
        waits = ap waited c ∙ waits;
        sized = s;
        there = fits;
        cookie_is = c;
        error_is = e;
        shown = told ∙ ap (λ (k : ℕ). Some (reply (number_at 8 8 (take (16 + size) bytes)) (simple_content command (number_at 4 4 (take (16 + size) bytes)) (take k (drop 16 (take (16 + size) bytes)))) true)) here
            ∙ ap (λ (d : List ℕ). Some (reply (number_at 8 8 (take (16 + size) bytes)) (simple_content command (number_at 4 4 (take (16 + size) bytes)) d) true)) data_there
            ∙ ap (λ (x : ℕ). Some (reply x (simple_content command (number_at 4 4 (take (16 + size) bytes)) (take size (drop 16 bytes))) true)) (sym (c ∙ number 8 8 (omega arith)))
            ∙ ap (λ (x : ℕ). Some (reply cookie (simple_content command x (take size (drop 16 bytes))) true)) (sym (e ∙ number 4 4 (omega arith)));
        before = λ front more is short. before_simple front more is (omega (arith, short, sized));
      }

-- The head of a reply with data, whatever of them is there, where simple replies alone come.
module _ (waited : ℕ → Option Waiting) (head : List ℕ) (command : Waiting) (success : IsSuccess head) (waits : waited (number_at 8 8 head) ≡ Some command) (read : is_read command.kind ≡ true) where
  module _ (content : List ℕ) where
    same : (place width : ℕ) → place + width ≤ 16 → number_at place width (head ++ content) ≡ number_at place width head
    same place width h = at_more place width head content (omega (arith, h, success.sized))

    long : 16 ≤ length (head ++ content)
    long = omega (arith, length-append head content, success.sized)

    magic_is : number_at 0 4 (head ++ content) ≡ simple_reply_magic
    magic_is = same 0 4 (omega arith) ∙ success.magic

    none_told : number_at 4 4 (head ++ content) ≡ 0
    none_told = same 4 4 (omega arith) ∙ success.error

    here : waited (number_at 8 8 (head ++ content)) ≡ Some command
    here = ap waited (same 8 8 (omega arith)) ∙ waits

    data_size : content_size command (number_at 4 4 (head ++ content)) ≡ command.length
    data_size = rw (none_told, read) refl

    abbrev bytes : List ℕ
    bytes = head ++ content

    pub announced_partial : length content < command.length → shows_by Simple waited (head ++ content) ≡ None
    announced_partial short = no_data Simple waited (head ++ content) refl long magic_is command here refl command.length (sym data_size) (omega (arith, length-append head content, success.sized, short))

    data_is : length content ≡ command.length → take command.length (drop 16 (head ++ content)) ≡ content
    data_is enough = ap (take command.length) (drop-append-le 16 head content (omega (arith, success.sized)) ∙ ap (λ h. h ++ content) (drop_all 16 head (omega (arith, success.sized)))) ∙ take_all command.length content (omega (arith, enough))

    announced_shown : (cookie : ℕ) → cookie ≡ number_at 8 8 head → length content ≡ command.length → shows_by Simple waited (head ++ content) ≡ Some (reply cookie (Data command.offset content) true)
    announced_shown cookie is enough =
        told_whole Simple waited bytes refl long magic_is command here refl (omega (arith, data_size, length-append head content, success.sized, enough))
        ∙ ap (λ (x : ℕ). Some (reply (number_at 8 8 bytes) (simple_content command x (take (content_size command x) (drop 16 bytes))) true)) none_told
        ∙ ap (λ (b : Bool). Some (reply (number_at 8 8 bytes) (if b then Data command.offset (take (if b then command.length else 0) (drop 16 bytes)) else Bare) true)) read
        ∙ ap (λ (d : List ℕ). Some (reply (number_at 8 8 bytes) (Data command.offset d) true)) (data_is enough)
        ∙ ap (λ (x : ℕ). Some (reply x (Data command.offset content) true)) (same 8 8 (omega arith) ∙ sym is)

  lies_whole : lies_within command command.offset command.length ≡ true
  lies_whole = grind (arith, common_steps)

  pub reply_announced : (cookie : ℕ) → cookie ≡ number_at 8 8 head → Announces Simple waited head (record { cookie = cookie; offset = command.offset; size = command.length; carrier = carrier.Reply })
  reply_announced cookie is = record {
    sized = success.sized;
    cookie_is = is;
    carried = refl;
    partial = λ content short. announced_partial content short;
    whole = λ content enough. record {
      command = command;
      waits = ap waited is ∙ waits;
      may_come = record { inside = (read, ap (λ (n : ℕ). lies_within command command.offset n) enough ∙ lies_whole); few = λ e. absurd (true≢false e) };
      all = λ e. (refl, refl);
      shown = announced_shown content cookie is enough;
      before = λ front more all short. before_simple Simple waited (head ++ content) refl (long content) (magic_is content) command (here content) refl front more all
          (omega (arith, short, data_size content, length-append head content, success.sized, enough));
    };
  }

-- The front of a chunk of data, whatever of them is there.

data_form : (extended : Bool) (kind : ℕ) → kind ≡ 1 → form_of extended kind ≡ form.Data
data_form extended kind is = ap (form_of extended) is

pub chunk_front : (replies : Replies) → is_structured replies ≡ true → front_size replies ≡ head_size (is_extended replies) + 8
chunk_front Simple agreed = absurd (true≢false (sym agreed))
chunk_front Structured agreed = refl
chunk_front Extended agreed = refl

module _ (replies : Replies) (waited : ℕ → Option Waiting) (front : List ℕ) (head : ExtHead) (agreed : is_structured replies ≡ true) (h : IsHead (is_extended replies) front head) (command : Waiting) (waits : waited (number_at 8 8 front) ≡ Some command)
    (sized : length front ≡ front_size replies) (is_data : head.kind ≡ 1) (place : List ℕ) (placed : place ≡ drop (head_size (is_extended replies)) front) (fair : breach_of (is_extended replies) command (head_of head) place ≡ None) where
  abbrev begin : ℕ
  begin = head_size (is_extended replies)

  long_front : length front ≡ head_size (is_extended replies) + 8
  long_front = sized ∙ chunk_front replies agreed

  long_place : length place ≡ 8
  long_place = omega (arith, long_front, ap length placed, length-drop (head_size (is_extended replies)) front)

  data_fits : 8 ≤ head.length
  data_fits = fixed_there form.Data head.length (subst (λ (f : Form). fits_length f head.length ≡ true) (data_form (is_extended replies) head.kind is_data) (chunk_fits (is_extended replies) command (head_of head) place fair))

  module _ (content : List ℕ) where
    alike : (at width : ℕ) → at + width ≤ 20 → number_at at width (front ++ content) ≡ number_at at width front
    alike at width fits = at_more at width front content (omega (arith, fits, long_front, head_least (is_extended replies)))

    headed_more : IsHead (is_extended replies) (front ++ content) head
    headed_more = record {
      there = omega (arith, long_front, length-append front content);
      magic = alike 0 4 (omega arith) ∙ h.magic;
      says = h.says ∙ sym (head_more (is_extended replies) front content h.there);
      cookie = h.cookie ∙ sym (alike 8 8 (omega arith));
    }

    payload_more : drop (head_size (is_extended replies)) (front ++ content) ≡ place ++ content
    payload_more = drop-append-le (head_size (is_extended replies)) front content h.there ∙ ap (λ p. p ++ content) (sym placed)

    fair_more : breach_of (is_extended replies) command (head_of head) (drop (head_size (is_extended replies)) (front ++ content)) ≡ None
    fair_more = ap (breach_of (is_extended replies) command (head_of head)) payload_more
        ∙ fair_data (is_extended replies) command (head_of head) place content (data_form (is_extended replies) head.kind is_data) (omega (arith, long_place)) fair

    waits_more : waited (number_at 8 8 (front ++ content)) ≡ Some command
    waits_more = ap waited (alike 8 8 (omega arith)) ∙ waits

    long_payload : length (drop (head_size (is_extended replies)) (front ++ content)) ≡ 8 + length content
    long_payload = omega (arith, ap length payload_more, length-append place content, long_place)

    data_partial : length content < head.length - 8 → shows_by replies waited (front ++ content) ≡ None
    data_partial short = chunk_nothing replies waited (front ++ content) head agreed headed_more command waits_more fair_more (omega (arith, short, long_payload))

    told_data : length content ≡ head.length - 8 → told_by (form_of (is_extended replies) head.kind) (drop (head_size (is_extended replies)) (front ++ content)) ≡ Data (number_at 0 8 place) content
    told_data enough =
        ap (λ (p : List ℕ). told_by (form_of (is_extended replies) head.kind) p) payload_more
        ∙ ap (λ (f : Form). told_by f (place ++ content)) (data_form (is_extended replies) head.kind is_data)
        ∙ ap (λ (n : ℕ). Data n (drop 8 (place ++ content))) (at_more 0 8 place content (omega (arith, long_place)))
        ∙ ap (λ (d : List ℕ). Data (number_at 0 8 place) d) (drop-append-le 8 place content (omega (arith, long_place)) ∙ ap (λ p. p ++ content) (drop_all 8 place (omega (arith, long_place))))

    data_shown : length content ≡ head.length - 8 → shows_by replies waited (front ++ content) ≡ Some (reply head.cookie (Data (number_at 0 8 place) content) (is_done (head_of head)))
    data_shown enough =
        chunk_shown replies waited (front ++ content) head agreed headed_more command waits_more fair_more (omega (arith, enough, long_payload, data_fits))
        ∙ ap (λ (p : List ℕ). Some (reply (number_at 8 8 (front ++ content)) (told_by (form_of (is_extended replies) head.kind) p) (is_done (head_of head))))
        (take_all head.length (drop (head_size (is_extended replies)) (front ++ content)) (omega (arith, enough, long_payload, data_fits)))
        ∙ ap (λ (t : Content). Some (reply (number_at 8 8 (front ++ content)) t (is_done (head_of head)))) (told_data enough)
        ∙ ap (λ (n : ℕ). Some (reply n (Data (number_at 0 8 place) content) (is_done (head_of head)))) (sym headed_more.cookie)

    data_may_come : length content ≡ head.length - 8 → MayCome command (Data (number_at 0 8 place) content) (is_done (head_of head))
    data_may_come enough = subst (λ (t : Content). MayCome command t (is_done (head_of head))) (told_data enough)
        (chunk_may_come (is_extended replies) command (head_of head) (drop (head_size (is_extended replies)) (front ++ content)) (omega (arith, enough, long_payload, data_fits)) fair_more)

  pub chunk_announced : Announces replies waited front (record { cookie = head.cookie; offset = number_at 0 8 place; size = head.length - 8; carrier = carrier.Chunk (is_done (head_of head)) })
  chunk_announced = record {
    sized = sized;
    cookie_is = h.cookie;
    carried = sym agreed;
    partial = λ content short. data_partial content short;
    whole = λ content enough. record {
      command = command;
      waits = ap waited h.cookie ∙ waits;
      may_come = data_may_come content enough;
      all = λ e. absurd (true≢false e);
      shown = data_shown content enough;
      before = λ less more all short. before_end replies waited (front ++ content) head agreed (headed_more content) command (waits_more content) (fair_more content) less more all
          (omega (arith, short, enough, long_front, length-append front content, data_fits));
    };
  }

-- The front of a chunk of data, where chunks come.
pub data_front : (replies : Replies) (command : Waiting) (front : List ℕ) → is_structured replies ≡ true → IsFront replies command front → IsDataFront (is_extended replies) command front
data_front Simple command front agreed is = absurd (true≢false (sym agreed))
data_front Structured command front agreed is = is
data_front Extended command front agreed is = is

-- What a front says of its data.

-- the head of a chunk that these bytes begin
abbrev pub head_at : (extended : Bool) → List ℕ → ExtHead
head_at extended front = record { flags = (head_in extended front).flags; kind = (head_in extended front).type; cookie = number_at 8 8 front; offset = 0; length = (head_in extended front).length }

pub head_there : (extended : Bool) (command : Waiting) (front : List ℕ) → IsDataFront extended command front → IsHead extended front (head_at extended front)
head_there extended command front is = record { there = omega (arith, is.sized); magic = is.magic; says = refl; cookie = refl }

-- Each front announces what it says.
pub front_announces : (replies : Replies) (waited : ℕ → Option Waiting) (command : Waiting) (front : List ℕ) → waited (number_at 8 8 front) ≡ Some command → IsFront replies command front → Announces replies waited front (announced_by replies command front)
front_announces Simple waited command front waits is = reply_announced waited front command is.1 waits is.0 (number_at 8 8 front) refl
front_announces Structured waited command front waits is =
    chunk_announced Structured waited front (head_at false front) refl (head_there false command front is) command waits is.sized is.type (drop (head_size false) front) refl is.lawful
front_announces Extended waited command front waits is =
    chunk_announced Extended waited front (head_at true front) refl (head_there true command front is) command waits is.sized is.type (drop (head_size true) front) refl is.lawful

-- the head of a chunk of data that was read, and the place of its data
module _ (command : Waiting) (front : List ℕ) (head : ExtHead) (is_data : head.kind ≡ 1) (place : List ℕ) where
  abbrev found : Announced
  found = record { cookie = head.cookie; offset = number_at 0 8 place; size = head.length - 8; carrier = carrier.Chunk (is_done (head_of head)) }

  front_says : (extended : Bool) → IsHead extended front head → length front ≡ head_size extended + 8 → place ≡ drop (head_size extended) front → breach_of extended command (head_of head) place ≡ None →
      IsDataFront extended command front × (found ≡ data_announced extended front)
  front_says extended h sized placed fair = (
    record { sized = sized; magic = h.magic; type = sym (ap (λ (s : Head). s.type) h.says) ∙ is_data; lawful = subst (λ (p : List ℕ). breach_of extended command (head_in extended front) p ≡ None) placed (subst (λ (s : Head). breach_of extended command s place ≡ None) h.says fair) },
    ap (λ (c : ℕ). record { cookie = c; offset = number_at 0 8 place; size = head.length - 8; carrier = carrier.Chunk (is_done (head_of head)) }) h.cookie
        ∙ ap (λ (p : List ℕ). record { cookie = number_at 8 8 front; offset = number_at 0 8 p; size = head.length - 8; carrier = carrier.Chunk (is_done (head_of head)) }) placed
        ∙ ap (λ (s : Head). record { cookie = number_at 8 8 front; offset = number_at 0 8 (drop (head_size extended) front); size = s.length - 8; carrier = carrier.Chunk (is_done s) }) h.says,
  )

  pub data_says : (replies : Replies) → is_structured replies ≡ true → IsHead (is_extended replies) front head → length front ≡ front_size replies → place ≡ drop (head_size (is_extended replies)) front → breach_of (is_extended replies) command (head_of head) place ≡ None →
      IsFront replies command front × (found ≡ announced_by replies command front)
  data_says Simple agreed h sized placed fair = absurd (true≢false (sym agreed))
  data_says Structured agreed h sized placed fair = front_says false h sized placed fair
  data_says Extended agreed h sized placed fair = front_says true h sized placed fair

-- a whole front to a command that does not wait
pub unknown_front : (replies : Replies) (waited : ℕ → Option Waiting) (command : Waiting) (front : List ℕ) → IsFront replies command front → waited (number_at 8 8 front) ≡ None → shows_by replies waited front ≡ Some (Broken UnknownCookie)
unknown_front Simple waited command front is none = simple_unknown Simple waited front refl (omega (arith, is.1.sized)) is.1.magic none
unknown_front Structured waited command front is none = chunk_unknown Structured waited front (head_at false front) refl (head_there false command front is) none
unknown_front Extended waited command front is none = chunk_unknown Extended waited front (head_at true front) refl (head_there true command front is) none
