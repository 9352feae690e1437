-- A reply that may come is shown with its last byte and not before, and so it is filed.
use Rattle.std.proofs.Common.{◌≡◌, ℕ, ◌+◌, ◌≤◌, Bool, true, false, List, [], ◌∷◌, ◌++◌, length, Option, Some, None, refl, ap, sym, subst, ◌∙◌, arith, ◌⊎◌, inl, inr, length-append, append_assoc}
use Rattle.std.proofs.Common.{append-nil}
use Rattle.std.proofs.Math.Seq.{take-append_seam}
use Rattle.lnbd_records.specs.Numbers.{row, IsBytes, IsRowThen, number_at}
use Rattle.lnbd_records.specs.Transmission.{simple_reply, chunk_head, extended_chunk_head, simple_reply_magic, structured_reply_magic, extended_reply_magic}
use Rattle.lnbd_records.proofs.NumberLaws.{then_reads, bytes_of_take}
use Rattle.lnbd_stream.specs.Stream.{fresh, feed}
use Rattle.lnbd_stream.specs.Laws.{Front}
use Rattle.lnbd_stream.proofs.Stream.{feed_front}
use Rattle.lnbd_chunks.specs.Chunk.{Waiting}
use Rattle.lnbd_chunks.specs.Reply.{content_size, shows_reply}
use Rattle.lnbd_chunks.specs.Whole.{Said, head_of, BeginsWithSimple, BeginsWithChunk, BeginsWithReply}
use Rattle.lnbd_chunks.proofs.Steady.{at_more, stays_reply}
use Rattle.lnbd_chunks.proofs.Whole.{replies_are_whole}
use Rattle.lnbd_history.specs.declared.kinds.Phase.TheVariants.{Ready}
use Rattle.lnbd_history.specs.declared.kinds.Stage.{Stage}
use Rattle.lnbd_history.specs.declared.kinds.Stage.TheVariants.{Open, Disconnecting}
use Rattle.lnbd_history.specs.Agreement.{steps, structured, extended}
use Rattle.lnbd_history.specs.Arrivals.{Shown, Reply, Broken, Sight, reply, shows_at, shows_frame}
use Rattle.lnbd_history.specs.Events.{Answer, History, Arrived}
use Rattle.lnbd_history.specs.History.{Known, reading, rules, sight, waited, with_answers}
use Rattle.lnbd_history.proofs.Steady.{steady}
use Rattle.lnbd_accepts.specs.Replies.{BeginsWithLawfulChunk, BeginsWithLawfulSimple, BeginsWithLawfulReply}
use Rattle.lnbd_accepts.specs.Filed.{behind, rest_of, AwaitsReplies, LawfulRepliesAreFiled}
use Rattle.lnbd_accepts.proofs.Replies.{lawful_replies_are_told, telling}

-- A reply apart from what follows it.

record Alone (structured extended : Bool) (waited : ℕ → Option Waiting) (said : Said) (bytes rest : List ℕ) : Type 0 where
  front : List ℕ
  joined : bytes ≡ front ++ rest
  lawful : BeginsWithLawfulReply structured extended waited said front
  ends : rest_of lawful ≡ []

alone_simple : (structured extended : Bool) (waited : ℕ → Option Waiting) (command : Waiting) (said : Said) (bytes : List ℕ) → waited said.cookie ≡ Some command →
    (s : BeginsWithLawfulSimple structured extended command said bytes) → Alone structured extended waited said bytes s.rest
alone_simple structured extended waited command said bytes waits s = record {
  front = row (simple_reply s.error said.cookie) ++ s.data_;
  joined = s.spelled.spelled ∙ sym (append_assoc (row (simple_reply s.error said.cookie)) s.data_ s.rest);
  lawful = record {
    command = command;
    waits = waits;
    lawful = inl (record {
      error = s.error;
      data_ = s.data_;
      rest = [];
      spelled = record { fit = s.spelled.fit; spelled = ap (λ (d : List ℕ). row (simple_reply s.error said.cookie) ++ d) (sym (append-nil s.data_)) };
      tells = s.tells;
      plain = s.plain;
      agreed = s.agreed;
      last = s.last;
    });
  };
  ends = refl;
}

alone_chunk : (structured extended : Bool) (waited : ℕ → Option Waiting) (command : Waiting) (said : Said) (bytes : List ℕ) → waited said.cookie ≡ Some command →
    (c : BeginsWithLawfulChunk structured extended command said bytes) → Alone structured extended waited said bytes c.chunk.rest
alone_chunk structured extended waited command said bytes waits c =
    let x = c.chunk in
    let fields = head_of extended x.flags x.type said.cookie x.offset (length x.payload) in
    record {
      front = row fields ++ x.payload;
      joined = x.spelled.spelled ∙ sym (append_assoc (row fields) x.payload x.rest);
      lawful = record {
        command = command;
        waits = waits;
        lawful = inr (record {
          chunk = record {
            flags = x.flags;
            type = x.type;
            offset = x.offset;
            payload = x.payload;
            rest = [];
            spelled = record { fit = x.spelled.fit; spelled = ap (λ (d : List ℕ). row fields ++ d) (sym (append-nil x.payload)) };
            means = x.means;
            is = x.is;
            tells = x.tells;
            last = x.last;
          };
          agreed = c.agreed;
          answers = c.answers;
          bearable = c.bearable;
        });
      };
      ends = refl;
    }

-- A reply has one length: fewer bytes hold no whole one to that command.

same_at : (place width : ℕ) (short more front : List ℕ) → short ++ more ≡ front → place + width ≤ length short → number_at place width front ≡ number_at place width short
same_at place width short more front joined there = ap (number_at place width) (sym joined) ∙ at_more place width short more there

same_command : (one other : Waiting) (at : Option Waiting) → at ≡ Some one → at ≡ Some other → one ≡ other
same_command one other at e f = let both : Some one ≡ Some other = sym e ∙ f in cc

-- a reply begins with its magic number
record Headed (magic : ℕ) (bytes : List ℕ) : Type 0 where
  long : 4 ≤ length bytes
  is : number_at 0 4 bytes ≡ magic

simple_headed : (error cookie : ℕ) (rest bytes : List ℕ) → IsRowThen (simple_reply error cookie) rest bytes → Headed simple_reply_magic bytes
simple_headed error cookie rest bytes spelled =
    let read = then_reads (simple_reply error cookie) rest bytes spelled in
    let e = read.fields in
    record { long = omega (arith, read.size); is = cc }

abbrev chunk_magic : Bool → ℕ
chunk_magic true = extended_reply_magic
chunk_magic false = structured_reply_magic

chunk_headed : (extended : Bool) (flags type cookie offset size : ℕ) (rest bytes : List ℕ) → IsRowThen (head_of extended flags type cookie offset size) rest bytes → Headed (chunk_magic extended) bytes
chunk_headed true flags type cookie offset size rest bytes spelled =
    let read = then_reads (extended_chunk_head flags type cookie offset size) rest bytes spelled in
    let e = read.fields in
    record { long = omega (arith, read.size); is = cc }
chunk_headed false flags type cookie offset size rest bytes spelled =
    let read = then_reads (chunk_head flags type cookie size) rest bytes spelled in
    let e = read.fields in
    record { long = omega (arith, read.size); is = cc }

not_simple : (extended : Bool) → chunk_magic extended ≡ simple_reply_magic → ⊥
not_simple true e = omega (arith, e)
not_simple false e = omega (arith, e)

module _ (waited : ℕ → Option Waiting) (said : Said) (short front : List ℕ) (byte : ℕ) (more : List ℕ) (joined : short ++ byte ∷ more ≡ front) where
  shorter : length front ≡ length short + 1 + length more
  shorter = ap length (sym joined) ∙ (let e = length-append short (byte ∷ more) in omega (arith, e))

  simple_simple : (structured extended : Bool) (command other : Waiting) → waited said.cookie ≡ Some command → waited said.cookie ≡ Some other →
      (s : BeginsWithLawfulSimple structured extended command said front) → s.rest ≡ [] → BeginsWithSimple other said short → ⊥
  simple_simple structured extended command other waits waits' s ends t =
      let a = then_reads (simple_reply s.error said.cookie) (s.data_ ++ s.rest) front s.spelled in
      let b = then_reads (simple_reply t.error said.cookie) (t.data_ ++ t.rest) short t.spelled in
      let e = a.fields in
      let f = b.fields in
      let error : number_at 4 4 front ≡ s.error = cc in
      let error' : number_at 4 4 short ≡ t.error = cc in
      let same : s.error ≡ t.error = sym error ∙ same_at 4 4 short (byte ∷ more) front joined (omega (arith, b.size)) ∙ error' in
      let one : command ≡ other = same_command command other (waited said.cookie) waits waits' in
      let sized : content_size command s.error ≡ length s.data_ = (telling command s.error s.data_ said.content s.tells).size in
      let equal : length s.data_ ≡ length t.data_ = sym sized ∙ ap (content_size command) same ∙ ap (λ (c : Waiting). content_size c t.error) one ∙ sym t.sized in
      omega (arith, a.size, b.size, length-append s.data_ s.rest, length-append t.data_ t.rest, ap length ends, shorter, equal)

  same_magic : (one other : ℕ) → Headed one front → Headed other short → one ≡ other
  same_magic one other a b = sym a.is ∙ same_at 0 4 short (byte ∷ more) front joined b.long ∙ b.is

  simple_chunk : (structured extended : Bool) (command : Waiting) → (s : BeginsWithLawfulSimple structured extended command said front) → BeginsWithChunk extended said short → ⊥
  simple_chunk structured extended command s x =
      not_simple extended (sym (same_magic simple_reply_magic (chunk_magic extended) (simple_headed s.error said.cookie (s.data_ ++ s.rest) front s.spelled)
      (chunk_headed extended x.flags x.type said.cookie x.offset (length x.payload) (x.payload ++ x.rest) short x.spelled)))

  chunk_simple : (structured extended : Bool) (command other : Waiting) → (c : BeginsWithLawfulChunk structured extended command said front) → BeginsWithSimple other said short → ⊥
  chunk_simple structured extended command other c t =
      let x = c.chunk in
      not_simple extended (same_magic (chunk_magic extended) simple_reply_magic (chunk_headed extended x.flags x.type said.cookie x.offset (length x.payload) (x.payload ++ x.rest) front x.spelled)
      (simple_headed t.error said.cookie (t.data_ ++ t.rest) short t.spelled))

  chunk_chunk : (structured : Bool) (command : Waiting) → (c : BeginsWithLawfulChunk structured false command said front) → c.chunk.rest ≡ [] → BeginsWithChunk false said short → ⊥
  chunk_chunk structured command c ends y =
      let x = c.chunk in
      let a = then_reads (chunk_head x.flags x.type said.cookie (length x.payload)) (x.payload ++ x.rest) front x.spelled in
      let b = then_reads (chunk_head y.flags y.type said.cookie (length y.payload)) (y.payload ++ y.rest) short y.spelled in
      let e = a.fields in
      let f = b.fields in
      let size : number_at 16 4 front ≡ length x.payload = cc in
      let size' : number_at 16 4 short ≡ length y.payload = cc in
      let equal : length x.payload ≡ length y.payload = sym size ∙ same_at 16 4 short (byte ∷ more) front joined (omega (arith, b.size)) ∙ size' in
      omega (arith, a.size, b.size, length-append x.payload x.rest, length-append y.payload y.rest, ap length ends, shorter, equal)

  extended_extended : (structured : Bool) (command : Waiting) → (c : BeginsWithLawfulChunk structured true command said front) → c.chunk.rest ≡ [] → BeginsWithChunk true said short → ⊥
  extended_extended structured command c ends y =
      let x = c.chunk in
      let a = then_reads (extended_chunk_head x.flags x.type said.cookie x.offset (length x.payload)) (x.payload ++ x.rest) front x.spelled in
      let b = then_reads (extended_chunk_head y.flags y.type said.cookie y.offset (length y.payload)) (y.payload ++ y.rest) short y.spelled in
      let e = a.fields in
      let f = b.fields in
      let size : number_at 24 8 front ≡ length x.payload = cc in
      let size' : number_at 24 8 short ≡ length y.payload = cc in
      let equal : length x.payload ≡ length y.payload = sym size ∙ same_at 24 8 short (byte ∷ more) front joined (omega (arith, b.size)) ∙ size' in
      omega (arith, a.size, b.size, length-append x.payload x.rest, length-append y.payload y.rest, ap length ends, shorter, equal)

  -- no whole reply to that cookie is shorter
  none_shorter : (structured extended : Bool) (r : BeginsWithLawfulReply structured extended waited said front) → rest_of r ≡ [] → BeginsWithReply extended waited said short → ⊥
  none_shorter structured extended r ends w = go extended r.command r.waits r.lawful w ends
    where
      by_chunk : (extended : Bool) (command : Waiting) (c : BeginsWithLawfulChunk structured extended command said front) → c.chunk.rest ≡ [] → BeginsWithChunk extended said short → ⊥
      by_chunk true command c ends x = extended_extended structured command c ends x
      by_chunk false command c ends x = chunk_chunk structured command c ends x

      go : (extended : Bool) (command : Waiting) → waited said.cookie ≡ Some command →
          (l : BeginsWithLawfulSimple structured extended command said front ⊎ BeginsWithLawfulChunk structured extended command said front) →
          (w : BeginsWithReply extended waited said short) → behind l ≡ [] → ⊥
      go extended command waits (inl s) w ends =
          elim w.whole [ inl t ↦ simple_simple structured extended command w.command waits w.waits s ends t | inr x ↦ simple_chunk structured extended command s x ]
      go extended command waits (inr c) w ends = elim w.whole [ inl t ↦ chunk_simple structured extended command w.command c t | inr x ↦ by_chunk extended command c ends x ]

bytes_of_front : (xs ys zs : List ℕ) → xs ++ ys ≡ zs → IsBytes zs → IsBytes xs
bytes_of_front xs ys zs joined h =
    subst IsBytes (take-append_seam xs ys) (bytes_of_take (length xs) (xs ++ ys) (subst IsBytes (sym joined) h) (let e = length-append xs ys in omega (arith, e)))

-- what a thing shown tells
abbrev said_in : Shown → Option Said
said_in (Reply frame) = Some (record { cookie = frame.cookie; content = frame.content; last = frame.last })
said_in shown = None

-- The reply is shown by all its bytes, and nothing is shown by fewer.
record ShownAtLast (structured extended : Bool) (waited : ℕ → Option Waiting) (said : Said) (front : List ℕ) : Type 0 where
  shown : shows_reply Broken reply structured extended waited front ≡ Some (reply said.cookie said.content said.last)
  first : (short more : List ℕ) (byte : ℕ) → short ++ byte ∷ more ≡ front → shows_reply Broken reply structured extended waited short ≡ None

shown_at_last : (structured extended : Bool) (waited : ℕ → Option Waiting) (said : Said) (front : List ℕ) → IsBytes front →
    (r : BeginsWithLawfulReply structured extended waited said front) → rest_of r ≡ [] → ShownAtLast structured extended waited said front
shown_at_last structured extended waited said front bytes r ends = record {
  shown = lawful_replies_are_told Broken reply structured extended waited said front r;
  first = λ short more byte joined. go short more byte joined (shows_reply Broken reply structured extended waited short) refl;
}
  where
    go : (short more : List ℕ) (byte : ℕ) → short ++ byte ∷ more ≡ front → (s : Option Shown) →
        shows_reply Broken reply structured extended waited short ≡ s → shows_reply Broken reply structured extended waited short ≡ None
    go short more byte joined None e = e
    go short more byte joined (Some found) e =
        let kept : shows_reply Broken reply structured extended waited front ≡ Some found =
        ap (shows_reply Broken reply structured extended waited) (sym joined) ∙ stays_reply Broken reply structured extended waited short (byte ∷ more) found e in
        let same : Some (reply said.cookie said.content said.last) ≡ Some found = sym (lawful_replies_are_told Broken reply structured extended waited said front r) ∙ kept in
        let is : reply said.cookie said.content said.last ≡ found = cc in
        let told : said_in found ≡ Some said = ap said_in (sym is) in
        let small : IsBytes short = bytes_of_front short (byte ∷ more) front joined bytes in
        absurd (none_shorter waited said short front byte more joined structured extended r ends
        (replies_are_whole Broken reply said_in (λ breach. refl) (λ cookie content last. refl) structured extended waited short found said small e told))

-- Where commands are spoken of, what bytes show is what a reply shows.

frame_shown : (stage : Stage) (s : Sight) (w : ℕ → Option Waiting) (bytes : List ℕ) → (stage ≡ Open) ⊎ (stage ≡ Disconnecting) → s.phase ≡ Ready →
    shows_at stage s w bytes ≡ shows_reply Broken reply s.structured s.extended w bytes
unfolding shows_frame
frame_shown stage s w bytes (inl is) ready = rw (is, ready) refl
frame_shown stage s w bytes (inr is) ready = rw (is, ready) refl

module _ {K : Type 0} (before : History K) (said : Said) (bytes : List ℕ) (answers : List Answer) (at : AwaitsReplies before) (small : IsBytes bytes) where
  abbrev now : Known K
  now = with_answers answers (reading before).known

  abbrev agreed_structured : Bool
  agreed_structured = structured (steps (reading before).known.turns)

  abbrev agreed_extended : Bool
  agreed_extended = extended (steps (reading before).known.turns)

  filed : (rest : List ℕ) → Alone agreed_structured agreed_extended (waited before (reading before).known) said bytes rest →
      reading (Arrived bytes answers ∷ before) ≡ feed (rules before) (fresh ((rules before).enter (Reply (record { cookie = said.cookie; content = said.content; last = said.last })) now)) rest
  filed rest a =
      let shown = shown_at_last agreed_structured agreed_extended (waited before (reading before).known) said a.front (bytes_of_front a.front rest bytes (sym a.joined) small) a.lawful a.ends in
      let same = λ (b : List ℕ). frame_shown (reading before).known.stage (sight (reading before).known) (waited before (reading before).known) b at.speaks at.ready in
      let front : Front (rules before) (with_answers answers (reading before).known) a.front (Reply (record { cookie = said.cookie; content = said.content; last = said.last })) = record {
        shown = same a.front ∙ shown.shown;
        first = λ short more byte joined. same short ∙ shown.first short more byte joined;
      } in
      ap (λ (p : List ℕ). feed (rules before) (record { known = with_answers answers (reading before).known; pending = p }) bytes) at.whole
      ∙ ap (feed (rules before) (fresh (with_answers answers (reading before).known))) a.joined
      ∙ feed_front (rules before) (steady before) (with_answers answers (reading before).known) a.front rest (Reply (record { cookie = said.cookie; content = said.content; last = said.last })) front

  apart : (command : Waiting) → waited before (reading before).known said.cookie ≡ Some command →
      (l : BeginsWithLawfulSimple agreed_structured agreed_extended command said bytes ⊎ BeginsWithLawfulChunk agreed_structured agreed_extended command said bytes) →
      Alone agreed_structured agreed_extended (waited before (reading before).known) said bytes (behind l)
  apart command waits (inl s) = alone_simple agreed_structured agreed_extended (waited before (reading before).known) command said bytes waits s
  apart command waits (inr c) = alone_chunk agreed_structured agreed_extended (waited before (reading before).known) command said bytes waits c

pub lawful_replies_are_filed : {K : Type 0} → LawfulRepliesAreFiled K
lawful_replies_are_filed before said bytes answers at small r = filed before said bytes answers at small (rest_of r) (apart before said bytes answers at small r.command r.waits r.lawful)
