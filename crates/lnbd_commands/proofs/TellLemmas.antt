-- A chunk that is told to a row.
use Rattle.std.proofs.Common.{◌≡◌, ℕ, Bool, true, false, not, ◌&&◌, List, [], length, Option, Some, None, refl, ap, sym, subst, ◌∙◌, if◌then◌else◌}
use Rattle.lnbd_extents.specs.Ranges.{with_positions}
use Rattle.lnbd_model.specs.Errors.{error_of}
use Rattle.lnbd_model.specs.Kind.{is_read}
use Rattle.lnbd_model.specs.declared.export.Context.{Context as MetaContext}
use Rattle.lnbd_model.specs.declared.failure.Failure.{Failure}
use Rattle.lnbd_model.specs.declared.failure.Origin.TheVariants as from
use Rattle.lnbd_model.specs.declared.kind.Kind.{Kind}
use Rattle.lnbd_model.specs.declared.kind.Kind.TheVariants.{Read, Write, Flush, Trim, Cache, Zero, BlockStatus}
use Rattle.lnbd_records.specs.Content.{Content, Data, Hole, Status, Error, ErrorAt, Nothing, Bare}
use Rattle.lnbd_chunks.specs.Chunk.{Waiting}
use Rattle.lnbd_outcome.specs.Pieces.{Query, Framed, is_content, start_of, size_of, number_of}
use Rattle.lnbd_outcome.specs.Outcome.{failing}
use Rattle.lnbd_outcome.specs.Hearing.{content_heard}
use Rattle.lnbd_outcome.specs.Facts.{Facts, is_bad, telling, facts_with, failure_told}
use Rattle.lnbd_structured.specs.Assembly.{Assembled, told_by}
use Rattle.lnbd_structured.specs.Steps.{failed, with_facts}
use Rattle.lnbd_structured.specs.Told.{IsInside}
use Rattle.lnbd_structured.proofs.LawLemmas.{one_reply}
use Rattle.lnbd_callbacks.specs.declared.caller.Heard.{Heard}
use Rattle.lnbd_history.specs.Commands.{Flight}
use Rattle.lnbd_history.specs.Entries.{Kept, heard_error}
use Rattle.lnbd_machine.specs.Machine.{Row}
use Rattle.lnbd_machine.specs.Machine.{told_bytes as machine_bytes}
use Rattle.lnbd_commands.specs.Lands.{told_row}
use Rattle.lnbd_commands.specs.Rows.{IsHeld, IsReal, open_bytes, seen_bytes, seen_facts}
use Rattle.lnbd_commands.specs.Told.{query_by, told_bytes}
use Rattle.lnbd_commands.proofs.MaskLemmas.{length_with, masked_told}
use Rattle.lnbd_commands.proofs.RealLemmas.{or_none, real_failing, real_or}

-- only the kind and the offset of a command are heard
pub heard_alike : (query : Query) (contexts : List MetaContext) (error : ℕ) (content : Content) → content_heard (query_by query.kind query.offset) contexts error content ≡ content_heard query contexts error content
heard_alike query contexts error (Data offset bytes) = refl
heard_alike query contexts error (Hole offset size) = refl
heard_alike query contexts error (Status id entries) = refl
heard_alike query contexts error (Error number) = refl
heard_alike query contexts error (ErrorAt number offset) = refl
heard_alike query contexts error Nothing = refl
heard_alike query contexts error Bare = refl

-- What has a fault, or is no content, leaves the buffer.
bad_stays : (a b : Bool) (x old : List ℕ) → (if a && b && not true then x else old) ≡ old
bad_stays true true x old = refl
bad_stays true false x old = refl
bad_stays false b x old = refl

other_stays : (a : Bool) (x old : List ℕ) → (if a && false && not false then x else old) ≡ old
other_stays true x old = refl
other_stays false x old = refl

real_told : (query : Query) (contexts : List MetaContext) (content : Content) (facts : Facts) → IsReal facts.failure → IsReal (telling query contexts (Framed content false) 0 facts).failure
real_told query contexts content facts real =
    real_or _ _ (real_or facts.failure _ real (go (is_bad query contexts facts content))) (real_failing from.Callback 0)
  where
    go : (bad : Bool) → IsReal (failure_told bad (Framed content false))
    go true = real_failing from.Content 71
    go false = real_failing from.Told (error_of (number_of content))

read_bytes : (kind : Kind) (offset size : ℕ) (content : Content) (buf : List ℕ) (told : List (ℕ × ℕ)) → is_read kind ≡ true → is_content content ≡ true → length buf ≡ size →
    open_bytes kind (with_positions (start_of content) (size_of content) told) offset size (told_bytes offset content buf) ≡ machine_bytes false kind offset size content (open_bytes kind told offset size buf)
read_bytes Read offset size content buf told read is long = rw (is) (masked_told told offset size content buf long)
read_bytes Write offset size content buf told read is long = absurd (cc (read))
read_bytes Flush offset size content buf told read is long = absurd (cc (read))
read_bytes Trim offset size content buf told read is long = absurd (cc (read))
read_bytes Cache offset size content buf told read is long = absurd (cc (read))
read_bytes Zero offset size content buf told read is long = absurd (cc (read))
read_bytes BlockStatus offset size content buf told read is long = absurd (cc (read))

good_bytes : (kind : Kind) (waiting : Waiting) (offset size : ℕ) (content : Content) (buf : List ℕ) (told : List (ℕ × ℕ)) → waiting.kind ≡ kind → IsInside waiting content → (is_read kind ≡ true → length buf ≡ size) →
    open_bytes kind (with_positions (start_of content) (size_of content) told) offset size (told_bytes offset content buf) ≡ machine_bytes false kind offset size content (open_bytes kind told offset size buf)
good_bytes kind waiting offset size (Data place bytes) buf told same inside long = let read : is_read kind ≡ true = sym (ap is_read same) ∙ inside.0 in read_bytes kind offset size (Data place bytes) buf told read refl (long read)
good_bytes kind waiting offset size (Hole place count) buf told same inside long = let read : is_read kind ≡ true = sym (ap is_read same) ∙ inside.0 in read_bytes kind offset size (Hole place count) buf told read refl (long read)
good_bytes kind waiting offset size (Status id entries) buf told same inside long = sym (other_stays (is_read kind) _ (open_bytes kind told offset size buf))
good_bytes kind waiting offset size (Error number) buf told same inside long = sym (other_stays (is_read kind) _ (open_bytes kind told offset size buf))
good_bytes kind waiting offset size (ErrorAt number place) buf told same inside long = sym (other_stays (is_read kind) _ (open_bytes kind told offset size buf))
good_bytes kind waiting offset size Nothing buf told same inside long = sym (other_stays (is_read kind) _ (open_bytes kind told offset size buf))
good_bytes kind waiting offset size Bare buf told same inside long = sym (other_stays (is_read kind) _ (open_bytes kind told offset size buf))

length_told : (offset : ℕ) (content : Content) (buf : List ℕ) → length (told_bytes offset content buf) ≡ length buf
length_told offset content buf = go (is_content content)
  where
    go : (b : Bool) → length (if b then Rattle.lnbd_structured.specs.Placed.with_content offset content buf else buf) ≡ length buf
    go true = length_with offset content buf
    go false = refl

module _ {K : Type 0} (kind : Kind) (flags offset size : ℕ) (flight : Option (Flight K)) (buf : List ℕ) (assembly new : Assembled) (failure : Option Failure) (contexts : List MetaContext) (content : Content) where
  abbrev asked : Query
  asked = record { kind = kind; flags = flags; offset = offset; length = size; payload = [] }

  abbrev seen : Option Kept → Assembled → List ℕ → Row K
  seen kept assembly buf = record { kind = kind; flags = flags; offset = offset; length = size; flight = flight; bytes = seen_bytes kept kind assembly.facts.told offset size buf; facts = seen_facts kept assembly failure; kept = kept }

  new_facts : assembly.query ≡ asked → new ≡ told_by assembly contexts content false → new.facts ≡ telling asked contexts (Framed content false) 0 assembly.facts
  new_facts own is = ap (λ (a : Assembled). a.facts) is ∙ ap (λ (q : Query). telling q contexts (Framed content false) 0 assembly.facts) own

  bad_bytes : (b : Bool) → b ≡ true →
      open_bytes kind (if b then assembly.facts.told else with_positions (start_of content) (size_of content) assembly.facts.told) offset size buf ≡ machine_bytes b kind offset size content (open_bytes kind assembly.facts.told offset size buf)
  bad_bytes true e = sym (bad_stays (is_read kind) (is_content content) _ (open_bytes kind assembly.facts.told offset size buf))
  bad_bytes false e = absurd (cc (e))

  good_told : (waiting : Waiting) → waiting.kind ≡ kind → IsInside waiting content → (is_read kind ≡ true → length buf ≡ size) → (b : Bool) → b ≡ false →
      open_bytes kind (if b then assembly.facts.told else with_positions (start_of content) (size_of content) assembly.facts.told) offset size (told_bytes offset content buf) ≡ machine_bytes b kind offset size content (open_bytes kind assembly.facts.told offset size buf)
  good_told waiting same inside long true e = absurd (cc (e))
  good_told waiting same inside long false e = good_bytes kind waiting offset size content buf assembly.facts.told same inside long

  -- with a fault
  pub bad_row : (kept : Option Kept) → kept ≡ None → IsHeld kept asked buf assembly → is_bad asked contexts assembly.facts content ≡ true → new ≡ told_by assembly contexts content false →
      seen kept new buf ≡ told_row contexts content None (seen kept assembly buf)
  bad_row None none held bad is =
      let facts = new_facts held.own is in
      let T = telling asked contexts (Framed content false) 0 assembly.facts in
      let kept_facts : T ≡ facts_with asked contexts (Framed content false) 0 assembly.facts = ap (λ (f : Option Failure). record T { failure = f }) (sym (or_none T.failure)) in
      ap (λ (f : Facts). record (seen None assembly buf) { bytes = open_bytes kind f.told offset size buf; facts = f }) facts
      ∙ ap (λ (b : List ℕ). record (seen None assembly buf) { bytes = b; facts = T }) (bad_bytes (is_bad asked contexts assembly.facts content) bad)
      ∙ ap (λ (f : Facts). record (told_row contexts content None (seen None assembly buf)) { facts = f }) kept_facts
  bad_row (Some kept) none held bad is = absurd (cc (none))

  pub bad_held : (kept : Option Kept) → kept ≡ None → IsHeld kept asked buf assembly → new ≡ told_by assembly contexts content false → IsHeld kept asked buf new
  bad_held None none held is = record {
    buffer = held.buffer;
    own = ap (λ (a : Assembled). a.query) is ∙ held.own;
    real = subst (λ (f : Facts). IsReal f.failure) (sym (new_facts held.own is)) (real_told asked contexts content assembly.facts held.real);
  }
  bad_held (Some kept) none held is = absurd (cc (none))

  -- without one
  module _ (answered : Assembled) (heard : Option Heard) (fails : answered ≡ with_facts (failed (heard_error heard) new.facts) new) where
    pub good_row : (waiting : Waiting) → waiting.kind ≡ kind → IsInside waiting content → (kept : Option Kept) → kept ≡ None → IsHeld kept asked buf assembly → is_bad asked contexts assembly.facts content ≡ false →
        new ≡ told_by assembly contexts content false → (put : List ℕ) → put ≡ told_bytes offset content buf → seen kept answered put ≡ told_row contexts content heard (seen kept assembly buf)
    good_row waiting same inside None none held fine is put there =
        let T = telling asked contexts (Framed content false) 0 assembly.facts in
        let facts : answered.facts ≡ failed (heard_error heard) T = ap (λ (a : Assembled). a.facts) fails ∙ ap (failed (heard_error heard)) (new_facts held.own is) in
        ap (λ (f : Facts). record (seen None assembly buf) { bytes = open_bytes kind f.told offset size put; facts = f }) facts
        ∙ ap (λ (b : List ℕ). record (seen None assembly buf) { bytes = open_bytes kind T.told offset size b; facts = failed (heard_error heard) T }) there
        ∙ ap (λ (b : List ℕ). record (seen None assembly buf) { bytes = b; facts = failed (heard_error heard) T }) (good_told waiting same inside held.buffer (is_bad asked contexts assembly.facts content) fine)
        ∙ ap (λ (f : Facts). record (told_row contexts content heard (seen None assembly buf)) { facts = f }) (sym (one_reply asked contexts content (heard_error heard) assembly.facts).0)
    good_row waiting same inside (Some kept) none held fine is put there = absurd (cc (none))

    pub good_held : (kept : Option Kept) → kept ≡ None → IsHeld kept asked buf assembly → new ≡ told_by assembly contexts content false → (put : List ℕ) → put ≡ told_bytes offset content buf → IsHeld kept asked put answered
    good_held None none held is put there = record {
      buffer = λ read. ap length there ∙ length_told offset content buf ∙ held.buffer read;
      own = ap (λ (a : Assembled). a.query) fails ∙ ap (λ (a : Assembled). a.query) is ∙ held.own;
      real = subst (λ (a : Assembled). IsReal a.facts.failure) (sym fails) (real_or new.facts.failure (failing from.Callback (heard_error heard))
          (subst (λ (f : Facts). IsReal f.failure) (sym (new_facts held.own is)) (real_told asked contexts content assembly.facts held.real)) (real_failing from.Callback (heard_error heard)));
    }
    good_held (Some kept) none held is put there = absurd (cc (none))
