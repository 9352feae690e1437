-- A payload of the standard, for a command that it may answer, tells what it means.
use Rattle.std.proofs.Common.{◌≡◌, ◌≢◌, ℕ, ◌+◌, ◌-◌, ◌*◌, ◌/◌, ◌%◌, ◌<◌, ◌≤◌, ◌^◌, Bool, true, false, not, ◌||◌, List, [], ◌∷◌, ◌++◌, length, take, drop, Some, refl, ap, sym, ◌∙◌, arith, ◌==◌}
use Rattle.std.proofs.Common.{nat_le, nat_lt, flat_map, inl, inr, length-append}
use Rattle.std.proofs.lemmas.List.{take_all, drop-drop}
use Rattle.std.proofs.Math.Seq.{drop-append_seam}
use Rattle.lnbd_model.specs.Kind.{is_read, is_status}
use Rattle.lnbd_model.specs.declared.breach.Breach.{Breach}
use Rattle.lnbd_model.specs.declared.export.Extent.{Extent}
use Rattle.lnbd_records.specs.Content.{Content}
use Rattle.lnbd_records.specs.Limits.{max_data, max_descriptors, max_faults, max_text, max_other_error}
use Rattle.lnbd_records.specs.Numbers.{Field, number, row, AllFit, IsRow, IsRowThen, number_at}
use Rattle.lnbd_records.specs.Transmission.{offset_data, offset_hole, descriptor, extended_descriptor, block_status, extended_block_status, error_head, Payload, Nothing, Data, Hole, Status}
use Rattle.lnbd_records.specs.Transmission.{ExtendedStatus, Error, ErrorAt, OtherError, IsError, IsPayload}
use Rattle.lnbd_records.proofs.Basics.{le_true, both_true, same_true}
use Rattle.lnbd_records.proofs.NumberLaws.{then_reads, row_then, row-append}
use Rattle.lnbd_stream.proofs.Grammar.{once_there, wants_true}
use Rattle.lnbd_chunks.specs.declared.form.Form.{Form}
use Rattle.lnbd_chunks.specs.declared.form.Form.TheVariants as form
use Rattle.lnbd_chunks.specs.Chunk.{Waiting, Head, is_done, form_of, fits_length, fits_command, fits_message, may_come, lies_within, descriptors_in, extended_descriptors_in, error_told}
use Rattle.lnbd_chunks.specs.Chunk.{shows_data, shows_hole, shows_status, shows_extended_status, shows_error, shows_payload, shows_form, shows_chunk}
use Rattle.lnbd_chunks.specs.Chunk as chunk
use Rattle.lnbd_chunks.specs.Whole.{told_by}
use Rattle.lnbd_accepts.specs.Replies.{LiesWithin, MayAnswer, is_error, IsBearable}

within : (command : Waiting) (offset length : ℕ) → LiesWithin command offset length → lies_within command offset length ≡ true
within command offset length h = both_true _ _ (le_true command.offset offset h.0) (le_true (offset + length) (command.offset + command.length) h.1)

lt_true : (m n : ℕ) → m < n → nat_lt m n ≡ true
lt_true m n h = grind (arith, h)

or_true : (b : Bool) → (b || true) ≡ true
or_true true = refl
or_true false = refl

-- a number that isn't 0
nonzero : (n : ℕ) → n ≢ 0 → not (n == 0) ≡ true
nonzero n h = grind (arith, h)

-- Descriptors.

abbrev fields_of : List Extent → List Field
fields_of ds = flat_map (λ d. descriptor d.length d.flags) ds

abbrev long_fields_of : List Extent → List Field
long_fields_of ds = flat_map (λ d. extended_descriptor d.length d.flags) ds

all_fit-front : (fs gs : List Field) → AllFit (fs ++ gs) → AllFit fs
all_fit-front [] gs h = tt
all_fit-front (number w x ∷ fs) gs h = (h.0, all_fit-front fs gs h.1)

all_fit-behind : (fs gs : List Field) → AllFit (fs ++ gs) → AllFit gs
all_fit-behind [] gs h = h
all_fit-behind (number w x ∷ fs) gs h = all_fit-behind fs gs h.1

-- fields and behind them fields: the first ones, and what follows them
record Apart (fs gs : List Field) (bytes : List ℕ) : Type 0 where
  first : IsRowThen fs (row gs) bytes
  behind : IsRow gs (row gs)

apart : (fs gs : List Field) (bytes : List ℕ) → IsRow (fs ++ gs) bytes → Apart fs gs bytes
apart fs gs bytes r = record {
  first = record { fit = all_fit-front fs gs r.fit; spelled = r.spelled ∙ row-append fs gs };
  behind = record { fit = all_fit-behind fs gs r.fit; spelled = refl };
}

descriptors_read : (ds : List Extent) (bytes : List ℕ) → IsRow (fields_of ds) bytes → (length bytes ≡ 8 * length ds) × (descriptors_in (length ds) bytes ≡ ds)
unfolding row
descriptors_read [] bytes r = (ap length r.spelled, refl)
descriptors_read (d ∷ ds) bytes r =
    let a = apart (descriptor d.length d.flags) (fields_of ds) bytes r in
    let read = then_reads (descriptor d.length d.flags) (row (fields_of ds)) bytes a.first in
    let e = read.fields in
    let l : number_at 0 4 bytes ≡ d.length = cc in
    let f : number_at 4 4 bytes ≡ d.flags = cc in
    let later = descriptors_read ds (row (fields_of ds)) a.behind in
    (omega (arith, read.size, later.0), rw (l, f, read.behind, later.1) refl)

extended_read : (ds : List Extent) (bytes : List ℕ) → IsRow (long_fields_of ds) bytes → (length bytes ≡ 16 * length ds) × (extended_descriptors_in (length ds) bytes ≡ ds)
unfolding row
extended_read [] bytes r = (ap length r.spelled, refl)
extended_read (d ∷ ds) bytes r =
    let a = apart (extended_descriptor d.length d.flags) (long_fields_of ds) bytes r in
    let read = then_reads (extended_descriptor d.length d.flags) (row (long_fields_of ds)) bytes a.first in
    let e = read.fields in
    let l : number_at 0 8 bytes ≡ d.length = cc in
    let f : number_at 8 8 bytes ≡ d.flags = cc in
    let later = extended_read ds (row (long_fields_of ds)) a.behind in
    (omega (arith, read.size, later.0), rw (l, f, read.behind, later.1) refl)

-- Each payload, where it is there.

module _ {R : Type 0} (broken : Breach → R) (tell : Content → R) where
  -- a chunk of this form whose payload is there fits the form's length, and tells this
  record Tells (f : Form) (command : Waiting) (payload : List ℕ) (means : Payload) : Type 0 where
    fits : fits_length f (length payload) ≡ true
    told : shows_payload broken tell f command (length payload) payload ≡ Some (tell (told_by means))

  tells_data : (command : Waiting) (offset : ℕ) (bytes payload : List ℕ) → 1 ≤ length bytes → length bytes ≤ max_data → LiesWithin command offset (length bytes) →
      IsRowThen (offset_data offset) bytes payload → Tells form.Data command payload (Data offset bytes)
  unfolding shows_data
  tells_data command offset bytes payload some few lies r =
      let read = then_reads (offset_data offset) bytes payload r in
      let e = read.fields in
      let at : number_at 0 8 payload ≡ offset = cc in
      let size : length payload ≡ 8 + length bytes = read.size in
      let width : length payload - 8 ≡ length bytes = omega (arith, size) in
      let behind : drop 8 payload ≡ bytes = read.behind in
      let all : take (length payload - 8) (drop 8 payload) ≡ bytes = rw (width, behind) (take_all (length bytes) bytes (omega arith)) in
      record {
        fits = both_true _ _ (le_true 9 (length payload) (omega (arith, size, some))) (le_true (length payload) (8 + max_data) (omega (arith, size, few)));
        told =
            once_there 8 payload _ (omega (arith, size))
            ∙ wants_true _ _ _ (rw (at, width) (within command offset (length bytes) lies))
            ∙ once_there (length payload) payload _ (omega arith)
            ∙ rw (at, all) refl;
      }

  tells_hole : (command : Waiting) (offset size : ℕ) (payload : List ℕ) → LiesWithin command offset size → IsRow (offset_hole offset size) payload →
      Tells form.Hole command payload (Hole offset size)
  unfolding shows_hole
  tells_hole command offset size payload lies r =
      let read = then_reads (offset_hole offset size) [] payload (row_then (offset_hole offset size) payload r) in
      let e = read.fields in
      let at : number_at 0 8 payload ≡ offset = cc in
      let many : number_at 8 4 payload ≡ size = cc in
      let whole : length payload ≡ 12 = read.size in
      record {
        fits = same_true (length payload) 12 whole;
        told =
            once_there 8 payload _ (omega (arith, whole))
            ∙ wants_true _ _ _ (rw at (within command offset 0 (lies.0, omega (arith, lies.1))))
            ∙ once_there 12 payload _ (omega (arith, whole))
            ∙ wants_true _ _ _ (rw (at, many) (within command offset size lies))
            ∙ rw (at, many) refl;
      }

  tells_status : (command : Waiting) (context : ℕ) (ds : List Extent) (payload : List ℕ) → 1 ≤ length ds → length ds ≤ max_descriptors → IsRow (block_status context ds) payload →
      Tells form.Status command payload (Status context ds)
  unfolding shows_status
  tells_status command context ds payload some few r =
      let a = apart (number 4 context ∷ []) (fields_of ds) payload r in
      let read = then_reads (number 4 context ∷ []) (row (fields_of ds)) payload a.first in
      let e = read.fields in
      let id : number_at 0 4 payload ≡ context = cc in
      let later = descriptors_read ds (row (fields_of ds)) a.behind in
      let size : length payload ≡ 4 + 8 * length ds = omega (arith, read.size, later.0) in
      let count : (length payload - 4) / 8 ≡ length ds = omega (arith, size) in
      let over : length payload % 8 ≡ 4 = omega (arith, size) in
      let behind : drop 4 payload ≡ row (fields_of ds) = read.behind in
      let all : descriptors_in ((length payload - 4) / 8) (drop 4 payload) ≡ ds = rw (count, behind) later.1 in
      record {
        fits = both_true _ _ (both_true _ _ (le_true 12 (length payload) (omega (arith, size, some))) (le_true (length payload) (4 + 8 * max_descriptors) (omega (arith, size, few))))
            (same_true (length payload % 8) 4 over);
        told = once_there (length payload) payload _ (omega arith) ∙ rw (id, all) refl;
      }

  tells_extended_status : (command : Waiting) (context : ℕ) (ds : List Extent) (payload : List ℕ) → 1 ≤ length ds → length ds ≤ max_descriptors → IsRow (extended_block_status context ds) payload →
      Tells form.ExtendedStatus command payload (ExtendedStatus context ds)
  unfolding shows_extended_status
  tells_extended_status command context ds payload some few r =
      let a = apart (number 4 context ∷ number 4 (length ds) ∷ []) (long_fields_of ds) payload r in
      let read = then_reads (number 4 context ∷ number 4 (length ds) ∷ []) (row (long_fields_of ds)) payload a.first in
      let e = read.fields in
      let id : number_at 0 4 payload ≡ context = cc in
      let many : number_at 4 4 payload ≡ length ds = cc in
      let later = extended_read ds (row (long_fields_of ds)) a.behind in
      let size : length payload ≡ 8 + 16 * length ds = omega (arith, read.size, later.0) in
      let count : (length payload - 8) / 16 ≡ length ds = omega (arith, size) in
      let over : length payload % 16 ≡ 8 = omega (arith, size) in
      let behind : drop 8 payload ≡ row (long_fields_of ds) = read.behind in
      let all : extended_descriptors_in ((length payload - 8) / 16) (drop 8 payload) ≡ ds = rw (count, behind) later.1 in
      record {
        fits = both_true _ _ (both_true _ _ (le_true 24 (length payload) (omega (arith, size, some))) (le_true (length payload) (8 + 16 * max_descriptors) (omega (arith, size, few))))
            (same_true (length payload % 16) 8 over);
        told =
            once_there 8 payload _ (omega (arith, size))
            ∙ wants_true _ _ _ (same_true (8 + 16 * number_at 4 4 payload) (length payload) (omega (arith, many, size)))
            ∙ once_there (length payload) payload _ (omega arith)
            ∙ rw (id, all) refl;
      }

  -- an error's front and its message
  record Fronted (error : ℕ) (message behind payload : List ℕ) : Type 0 where
    short : length message ≤ max_text
    size : length payload ≡ 6 + (length message + length behind)
    error_is : number_at 0 4 payload ≡ error
    counts : number_at 4 2 payload ≡ length message

  fronted : (error : ℕ) (message behind payload : List ℕ) → IsError error message behind payload → Fronted error message behind payload
  fronted error message behind payload h =
      let read = then_reads (error_head error (length message)) (message ++ behind) payload h.1 in
      let e = read.fields in
      let joined : length (message ++ behind) ≡ length message + length behind = length-append message behind in
      record { short = h.0; size = omega (arith, read.size, joined); error_is = cc; counts = cc }

  shows_lawful_error : (f : Form) (error : ℕ) (message behind payload : List ℕ) → Fronted error message behind payload → error ≢ 0 → fits_message f (length payload) (length message) ≡ true →
      shows_error broken tell f (length payload) payload ≡ Some (tell (error_told f (length payload) payload))
  unfolding shows_error
  shows_lawful_error f error message behind payload h some fits =
      once_there 6 payload _ (omega (arith, h.size))
      ∙ wants_true _ _ _ (rw h.counts fits)
      ∙ wants_true _ _ _ (rw h.error_is (nonzero error some))
      ∙ once_there (length payload) payload _ (omega arith)

  tells_error : (command : Waiting) (error : ℕ) (message payload : List ℕ) → error ≢ 0 → IsError error message [] payload → Tells form.Error command payload (Error error message)
  tells_error command error message payload some r =
      let h = fronted error message [] payload r in
      let size : length payload ≡ 6 + length message = omega (arith, h.size) in
      record {
        fits = both_true _ _ (le_true 6 (length payload) (omega (arith, size))) (le_true (length payload) (6 + max_text) (omega (arith, size, h.short)));
        told = shows_lawful_error form.Error error message [] payload h some (same_true (length payload) (6 + length message) size) ∙ rw h.error_is refl;
      }

  tells_error_at : (command : Waiting) (error : ℕ) (message : List ℕ) (offset : ℕ) (payload : List ℕ) → error ≢ 0 → IsError error message (row (number 8 offset ∷ [])) payload → offset < 2 ^ 64 →
      Tells form.ErrorAt command payload (ErrorAt error message offset)
  unfolding number_at
  tells_error_at command error message offset payload some r small =
      let place : IsRowThen (number 8 offset ∷ []) [] (row (number 8 offset ∷ [])) = row_then (number 8 offset ∷ []) (row (number 8 offset ∷ [])) (record { fit = (small, tt); spelled = refl }) in
      let last = then_reads (number 8 offset ∷ []) [] (row (number 8 offset ∷ [])) place in
      let e = last.fields in
      let told_place : number_at 0 8 (row (number 8 offset ∷ [])) ≡ offset = cc in
      let h = fronted error message (row (number 8 offset ∷ [])) payload r in
      let size : length payload ≡ 14 + length message = omega (arith, h.size, last.size) in
      let read = then_reads (error_head error (length message)) (message ++ row (number 8 offset ∷ [])) payload r.1 in
      let behind : drop (length payload - 8) payload ≡ row (number 8 offset ∷ []) =
      ap (λ (k : ℕ). drop k payload) (let z : length payload - 8 ≡ 6 + length message = omega (arith, size) in z)
      ∙ sym (drop-drop (length message) 6 payload) ∙ ap (drop (length message)) read.behind ∙ drop-append_seam message (row (number 8 offset ∷ [])) in
      let at : number_at (length payload - 8) 8 payload ≡ offset = ap (λ (p : List ℕ). number_at 0 8 p) behind ∙ told_place in
      record {
        fits = both_true _ _ (le_true 14 (length payload) (omega (arith, size))) (le_true (length payload) (14 + max_text) (omega (arith, size, h.short)));
        told = shows_lawful_error form.ErrorAt error message (row (number 8 offset ∷ [])) payload h some (same_true (length payload) (14 + length message) size) ∙ rw (h.error_is, at) refl;
      }

  tells_other : (command : Waiting) (error : ℕ) (message rest payload : List ℕ) → error ≢ 0 → IsError error message rest payload → length payload ≤ max_other_error →
      Tells form.OtherError command payload (OtherError error message rest)
  tells_other command error message rest payload some r few =
      let h = fronted error message rest payload r in
      record {
        fits = both_true _ _ (le_true 6 (length payload) (omega (arith, h.size))) (le_true (length payload) max_other_error few);
        told = shows_lawful_error form.OtherError error message rest payload h some
            (both_true _ _ (le_true (length message) max_text h.short) (le_true (6 + length message) (length payload) (omega (arith, h.size)))) ∙ rw h.error_is refl;
      }

  -- A chunk whose payload is there.

  -- the form of a payload, and that a chunk with it fits its command
  record Fitting (extended : Bool) (command : Waiting) (last : Bool) (type : ℕ) (payload : List ℕ) (means : Payload) : Type 0 where
    f : Form
    is : form_of extended type ≡ f
    answers : fits_command f last command.kind ≡ true
    error_is : chunk.is_error f ≡ is_error means
    tells : Tells f command payload means

  other_form : (extended : Bool) (type : ℕ) → 32768 ≤ type → type ≢ 32769 → type ≢ 32770 → form_of extended type ≡ form.OtherError
  other_form extended type h p q =
      let a : (type == 0) ≡ false = grind (arith, h) in
      let b : (type == 1) ≡ false = grind (arith, h) in
      let c : (type == 2) ≡ false = grind (arith, h) in
      let d : (type == 5) ≡ false = grind (arith, h) in
      let g : (type == 6) ≡ false = grind (arith, h) in
      let e : (type == 32769) ≡ false = grind (arith, p) in
      let f : (type == 32770) ≡ false = grind (arith, q) in
      let i : nat_le 32768 type ≡ true = le_true 32768 type h in
      rw (a, b, c, d, g, e, f, i) refl

  fitting : (extended : Bool) (command : Waiting) (last : Bool) (type : ℕ) (payload : List ℕ) (means : Payload) → IsPayload type payload means → MayAnswer extended command last means →
      Fitting extended command last type payload means
  fitting extended command last type payload Nothing p a = record {
    f = form.Empty;
    is = rw (p.0) refl;
    answers = a;
    error_is = refl;
    tells = record { fits = same_true (length payload) 0 (ap length (p.1)); told = refl };
  }
  fitting extended command last type payload (Data offset bytes) p a = record {
    f = form.Data;
    is = rw (p.0) refl;
    answers = ap is_read a.0;
    error_is = refl;
    tells = tells_data command offset bytes payload p.1 p.2 a.1 p.3;
  }
  fitting extended command last type payload (Hole offset size) p a = record {
    f = form.Hole;
    is = rw (p.0) refl;
    answers = ap is_read a.0;
    error_is = refl;
    tells = tells_hole command offset size payload a.1 p.1;
  }
  fitting extended command last type payload (Status context ds) p a = record {
    f = form.Status;
    is = rw (p.0, a.1) refl;
    answers = ap is_status a.0;
    error_is = refl;
    tells = tells_status command context ds payload p.1 p.2 p.3;
  }
  fitting extended command last type payload (ExtendedStatus context ds) p a = record {
    f = form.ExtendedStatus;
    is = rw (p.0, a.1) refl;
    answers = ap is_status a.0;
    error_is = refl;
    tells = tells_extended_status command context ds payload p.1 p.2 p.3;
  }
  fitting extended command last type payload (Error error message) p a = record {
    f = form.Error;
    is = rw (p.0) refl;
    answers = refl;
    error_is = refl;
    tells = tells_error command error message payload a p.1;
  }
  fitting extended command last type payload (ErrorAt error message offset) p a = record {
    f = form.ErrorAt;
    is = rw (p.0) refl;
    answers = refl;
    error_is = refl;
    tells = tells_error_at command error message offset payload a p.1 p.2;
  }
  fitting extended command last type payload (OtherError error message rest) p a = record {
    f = form.OtherError;
    is = other_form extended type p.0 p.2 p.3;
    answers = refl;
    error_is = refl;
    tells = tells_other command error message rest payload a p.4 p.5;
  }

  comes : (command : Waiting) (last : Bool) (f : Form) (means : Payload) → chunk.is_error f ≡ is_error means → IsBearable command last means → may_come command.faults f last ≡ true
  comes command last f means same (inl few) = rw (lt_true command.faults max_faults few) refl
  comes command last f means same (inr rare) = rw (rare.0, same, rare.1) (or_true (nat_lt command.faults max_faults))

  -- A chunk that may come is told.
  pub chunk_told : (extended : Bool) (command : Waiting) (head : Head) (payload : List ℕ) (means : Payload) → head.length ≡ length payload →
      IsPayload head.type payload means → MayAnswer extended command (is_done head) means → IsBearable command (is_done head) means →
      shows_chunk broken tell extended command head payload ≡ Some (tell (told_by means))
  unfolding shows_chunk
  chunk_told extended command head payload means size p a b =
      let x = fitting extended command (is_done head) head.type payload means p a in
      let fits : fits_length x.f head.length ≡ true = rw size (x.tells.fits) in
      ap (λ (f : Form). shows_form broken tell f command head payload) x.is
      ∙ wants_true _ _ _ fits
      ∙ wants_true _ _ _ x.answers
      ∙ wants_true _ _ _ (comes command (is_done head) x.f means x.error_is b)
      ∙ rw size (x.tells.told)
