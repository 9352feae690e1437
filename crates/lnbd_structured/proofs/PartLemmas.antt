-- What a whole chunk tells is told by the parts of its payload that are handed in; and descriptors, read one by one.
use Rattle.std.proofs.Common.{◌≡◌, ℕ, suc, ◌+◌, ◌-◌, ◌*◌, ◌<◌, ◌≤◌, Bool, true, false, List, [], ◌∷◌, ◌++◌, length, take, drop, Option, Some, None, refl, ap, sym, subst, ◌∙◌, arith, append_assoc, if◌then◌else◌, nat_lt}
use Rattle.std.proofs.lemmas.Grind.{common_steps}
use Rattle.std.proofs.lemmas.Bool.{and_parts, leb-true}
use Rattle.std.proofs.lemmas.List.{drop-drop, take-append-drop, length-take-le, length-drop}
use Rattle.std.proofs.Math.Seq.{drop-append_seam}
use Rattle.byteorder.specs.Endian.{big_number}
use Rattle.lnbd_chunks.proofs.Steady.{at_more}
use Rattle.lnbd_chunks.specs.Chunk.{Waiting, form_of, fits_length, descriptors_in, extended_descriptors_in, is_between, shows_data, shows_hole, shows_status, shows_extended_status, shows_error, shows_payload, shows_chunk}
use Rattle.lnbd_chunks.specs.declared.form.Form.{Form}
use Rattle.lnbd_chunks.specs.declared.form.Form.TheVariants.{Empty, Data, Hole, Status, ExtendedStatus, Error, ErrorAt, OtherError, Unknown}
use Rattle.lnbd_model.specs.declared.breach.Breach.{Breach}
use Rattle.lnbd_model.specs.declared.export.Extent.{Extent}
use Rattle.lnbd_records.specs.Content.{Content}
use Rattle.lnbd_records.specs.Content as content
use Rattle.lnbd_records.specs.Numbers.{number_at}
use Rattle.lnbd_stream.specs.Grammar.{once, wants}
use Rattle.lnbd_structured.specs.Assembly.{content_by, fixed_of, descriptors_of, data_of}
use Rattle.lnbd_structured.specs.Laws.{PartsTellTheChunk}

-- Numbers in parts.

-- a number behind some bytes
pub number_behind : (at place width : ℕ) (bytes : List ℕ) → number_at (at + place) width bytes ≡ number_at place width (drop at bytes)
unfolding number_at
number_behind at place width bytes = ap (big_number width) (sym (drop-drop place at bytes))

-- a number in a front
pub number_front : (place width n : ℕ) (bytes : List ℕ) → place + width ≤ n → n ≤ length bytes → number_at place width (take n bytes) ≡ number_at place width bytes
number_front place width n bytes h l =
    let there : place + width ≤ length (take n bytes) = rw (length-take-le n bytes l) h in
    sym (at_more place width (take n bytes) (drop n bytes) there) ∙ ap (number_at place width) (take-append-drop n bytes)

-- a number behind a front
pub number_seam : (width : ℕ) (front rest : List ℕ) (n : ℕ) → length front ≡ n → number_at n width (front ++ rest) ≡ number_at 0 width rest
unfolding number_at
number_seam width front rest n e = ap (big_number width) (subst (λ k. drop k (front ++ rest) ≡ rest) e (drop-append_seam front rest))

-- Descriptors.

pub descriptor_pushed : (n i : ℕ) (bytes : List ℕ) (items more : List Extent) (long flags : ℕ) → i < n → more ≡ items ++ record { length = long; flags = flags } ∷ [] →
    long ≡ number_at (8 * i) 4 bytes → flags ≡ number_at (8 * i + 4) 4 bytes → items ++ descriptors_in (n - i) (drop (8 * i) bytes) ≡ descriptors_in n bytes →
    more ++ descriptors_in (n - (i + 1)) (drop (8 * (i + 1)) bytes) ≡ descriptors_in n bytes
descriptor_pushed n i bytes items more long flags l pushed a b before =
    let left : n - i ≡ suc (n - (i + 1)) = omega (arith, l) in
    let first : long ≡ number_at 0 4 (drop (8 * i) bytes) = a ∙ ap (λ k. number_at k 4 bytes) (omega arith) ∙ number_behind (8 * i) 0 4 bytes in
    let second : flags ≡ number_at 4 4 (drop (8 * i) bytes) = b ∙ number_behind (8 * i) 4 4 bytes in
    let rest : drop (8 * (i + 1)) bytes ≡ drop 8 (drop (8 * i) bytes) = ap (λ k. drop k bytes) (omega arith) ∙ sym (drop-drop 8 (8 * i) bytes) in
    ap (λ (xs : List Extent). xs ++ descriptors_in (n - (i + 1)) (drop (8 * (i + 1)) bytes)) pushed
    ∙ append_assoc items (record { length = long; flags = flags } ∷ []) (descriptors_in (n - (i + 1)) (drop (8 * (i + 1)) bytes))
    ∙ ap (λ (d : Extent). items ++ d ∷ descriptors_in (n - (i + 1)) (drop (8 * (i + 1)) bytes)) (ap (λ x. record { length = x; flags = flags }) first ∙ ap (λ y. record { length = number_at 0 4 (drop (8 * i) bytes); flags = y }) second)
    ∙ ap (λ bs. items ++ record { length = number_at 0 4 (drop (8 * i) bytes); flags = number_at 4 4 (drop (8 * i) bytes) } ∷ descriptors_in (n - (i + 1)) bs) rest
    ∙ ap (λ k. items ++ descriptors_in k (drop (8 * i) bytes)) (sym left)
    ∙ before

pub extended_descriptor_pushed : (n i : ℕ) (bytes : List ℕ) (items more : List Extent) (long flags : ℕ) → i < n → more ≡ items ++ record { length = long; flags = flags } ∷ [] →
    long ≡ number_at (16 * i) 8 bytes → flags ≡ number_at (16 * i + 8) 8 bytes → items ++ extended_descriptors_in (n - i) (drop (16 * i) bytes) ≡ extended_descriptors_in n bytes →
    more ++ extended_descriptors_in (n - (i + 1)) (drop (16 * (i + 1)) bytes) ≡ extended_descriptors_in n bytes
extended_descriptor_pushed n i bytes items more long flags l pushed a b before =
    let left : n - i ≡ suc (n - (i + 1)) = omega (arith, l) in
    let first : long ≡ number_at 0 8 (drop (16 * i) bytes) = a ∙ ap (λ k. number_at k 8 bytes) (omega arith) ∙ number_behind (16 * i) 0 8 bytes in
    let second : flags ≡ number_at 8 8 (drop (16 * i) bytes) = b ∙ number_behind (16 * i) 8 8 bytes in
    let rest : drop (16 * (i + 1)) bytes ≡ drop 16 (drop (16 * i) bytes) = ap (λ k. drop k bytes) (omega arith) ∙ sym (drop-drop 16 (16 * i) bytes) in
    ap (λ (xs : List Extent). xs ++ extended_descriptors_in (n - (i + 1)) (drop (16 * (i + 1)) bytes)) pushed
    ∙ append_assoc items (record { length = long; flags = flags } ∷ []) (extended_descriptors_in (n - (i + 1)) (drop (16 * (i + 1)) bytes))
    ∙ ap (λ (d : Extent). items ++ d ∷ extended_descriptors_in (n - (i + 1)) (drop (16 * (i + 1)) bytes)) (ap (λ x. record { length = x; flags = flags }) first ∙ ap (λ y. record { length = number_at 0 8 (drop (16 * i) bytes); flags = y }) second)
    ∙ ap (λ bs. items ++ record { length = number_at 0 8 (drop (16 * i) bytes); flags = number_at 8 8 (drop (16 * i) bytes) } ∷ extended_descriptors_in (n - (i + 1)) bs) rest
    ∙ ap (λ k. items ++ extended_descriptors_in k (drop (16 * i) bytes)) (sym left)
    ∙ before

-- Chunks.

abbrev hides : Breach → Option Content
hides breach = None

abbrev tells : Content → Option Content
tells told = Some told

passed : (test : Bool) (rest : Option (Option Content)) (told : Content) → wants test None rest ≡ Some (Some told) → (test ≡ true) × (rest ≡ Some (Some told))
unfolding wants
passed true rest told e = (refl, e)
passed false rest told e = absurd (cc (e))

came : (n : ℕ) (bytes : List ℕ) (rest : Option (Option Content)) (told : Content) → once n bytes rest ≡ Some (Some told) → (n ≤ length bytes) × (rest ≡ Some (Some told))
unfolding once
came n bytes rest told e = go (nat_lt (length bytes) n) refl e
  where
    go : (b : Bool) → nat_lt (length bytes) n ≡ b → (if b then None else rest) ≡ Some (Some told) → (n ≤ length bytes) × (rest ≡ Some (Some told))
    go true is h = absurd (cc (h))
    go false is h = (grind (arith, common_steps), h)

same : (one other : Content) → ◌≡◌ {A = Option (Option Content)} (Some (Some one)) (Some (Some other)) → other ≡ one
same one other e = cc

least : (a b n : ℕ) → is_between a b n ≡ true → a ≤ n
least a b n e = leb-true a n (and_parts _ _ e).0

by_data : (waiting : Waiting) (n : ℕ) (payload : List ℕ) (told : Content) → shows_data hides tells waiting n payload ≡ Some (Some told) →
    told ≡ content_by Data (fixed_of Data n payload) (descriptors_of Data n payload) (data_of n payload)
unfolding shows_data
by_data waiting n payload told e =
    let a = came 8 payload _ told e in
    let b = passed _ _ told a.1 in
    let c = came n payload _ told b.1 in
    same _ told c.1 ∙ ap (λ x. content.Data x (data_of n payload)) (sym (number_front 0 8 8 payload (omega arith) a.0))

by_hole : (waiting : Waiting) (n : ℕ) (payload : List ℕ) (told : Content) → shows_hole hides tells waiting payload ≡ Some (Some told) →
    told ≡ content_by Hole (fixed_of Hole n payload) (descriptors_of Hole n payload) (data_of n payload)
unfolding shows_hole
by_hole waiting n payload told e =
    let a = came 8 payload _ told e in
    let b = passed _ _ told a.1 in
    let c = came 12 payload _ told b.1 in
    let d = passed _ _ told c.1 in
    same _ told d.1 ∙ ap (λ x. content.Hole x (number_at 8 4 payload)) (sym (number_front 0 8 12 payload (omega arith) c.0))
    ∙ ap (λ x. content.Hole (number_at 0 8 (take 12 payload)) x) (sym (number_front 8 4 12 payload (omega arith) c.0))

by_status : (n : ℕ) (payload : List ℕ) (told : Content) → 4 ≤ n → shows_status hides tells n payload ≡ Some (Some told) →
    told ≡ content_by Status (fixed_of Status n payload) (descriptors_of Status n payload) (data_of n payload)
unfolding shows_status
by_status n payload told h e =
    let a = came n payload _ told e in
    same _ told a.1 ∙ ap (λ x. content.Status x (descriptors_of Status n payload)) (sym (number_front 0 4 4 payload (omega arith) (omega (arith, h, a.0))))

by_extended : (n : ℕ) (payload : List ℕ) (told : Content) → shows_extended_status hides tells n payload ≡ Some (Some told) →
    told ≡ content_by ExtendedStatus (fixed_of ExtendedStatus n payload) (descriptors_of ExtendedStatus n payload) (data_of n payload)
unfolding shows_extended_status
by_extended n payload told e =
    let a = came 8 payload _ told e in
    let b = passed _ _ told a.1 in
    let c = came n payload _ told b.1 in
    same _ told c.1 ∙ ap (λ x. content.Status x (descriptors_of ExtendedStatus n payload)) (sym (number_front 0 4 8 payload (omega arith) a.0))

by_error : (n : ℕ) (payload : List ℕ) (told : Content) → shows_error hides tells Error n payload ≡ Some (Some told) →
    told ≡ content_by Error (fixed_of Error n payload) (descriptors_of Error n payload) (data_of n payload)
unfolding shows_error
by_error n payload told e =
    let a = came 6 payload _ told e in
    let b = passed _ _ told a.1 in
    let c = passed _ _ told b.1 in
    let d = came n payload _ told c.1 in
    same _ told d.1 ∙ ap (λ x. content.Error x) (sym (number_front 0 4 6 payload (omega arith) a.0))

by_other : (n : ℕ) (payload : List ℕ) (told : Content) → shows_error hides tells OtherError n payload ≡ Some (Some told) →
    told ≡ content_by OtherError (fixed_of OtherError n payload) (descriptors_of OtherError n payload) (data_of n payload)
unfolding shows_error
by_other n payload told e =
    let a = came 6 payload _ told e in
    let b = passed _ _ told a.1 in
    let c = passed _ _ told b.1 in
    let d = came n payload _ told c.1 in
    same _ told d.1 ∙ ap (λ x. content.Error x) (sym (number_front 0 4 6 payload (omega arith) a.0))

by_error_at : (n : ℕ) (payload : List ℕ) (told : Content) → 14 ≤ n → shows_error hides tells ErrorAt n payload ≡ Some (Some told) →
    told ≡ content_by ErrorAt (fixed_of ErrorAt n payload) (descriptors_of ErrorAt n payload) (data_of n payload)
unfolding shows_error
by_error_at n payload told h e =
    let a = came 6 payload _ told e in
    let b = passed _ _ told a.1 in
    let c = passed _ _ told b.1 in
    let d = came n payload _ told c.1 in
    let front : length (take 6 payload) ≡ 6 = length-take-le 6 payload a.0 in
    let back : List ℕ = drop (n - 8) payload in
    let long : 8 ≤ length back = rw (length-drop (n - 8) payload) (omega (arith, h, d.0)) in
    let number : number_at 0 4 (take 6 payload ++ take 8 back) ≡ number_at 0 4 payload =
    at_more 0 4 (take 6 payload) (take 8 back) (rw front (omega arith)) ∙ number_front 0 4 6 payload (omega arith) a.0 in
    let place : number_at 6 8 (take 6 payload ++ take 8 back) ≡ number_at (n - 8) 8 payload =
    number_seam 8 (take 6 payload) (take 8 back) 6 front ∙ number_front 0 8 8 back (omega arith) long
    ∙ sym (number_behind (n - 8) 0 8 payload) ∙ ap (λ k. number_at k 8 payload) (omega arith) in
    same _ told d.1 ∙ ap (λ x. content.ErrorAt x (number_at (n - 8) 8 payload)) (sym number) ∙ ap (λ x. content.ErrorAt (number_at 0 4 (take 6 payload ++ take 8 back)) x) (sym place)

by_payload : (form : Form) (waiting : Waiting) (n : ℕ) (payload : List ℕ) (told : Content) → fits_length form n ≡ true → shows_payload hides tells form waiting n payload ≡ Some (Some told) →
    told ≡ content_by form (fixed_of form n payload) (descriptors_of form n payload) (data_of n payload)
by_payload Empty waiting n payload told h e = same content.Nothing told e
by_payload Data waiting n payload told h e = by_data waiting n payload told e
by_payload Hole waiting n payload told h e = by_hole waiting n payload told e
by_payload Status waiting n payload told h e = by_status n payload told (omega (arith, least _ _ n (and_parts _ _ h).0)) e
by_payload ExtendedStatus waiting n payload told h e = by_extended n payload told e
by_payload Error waiting n payload told h e = by_error n payload told e
by_payload ErrorAt waiting n payload told h e = by_error_at n payload told (least _ _ n h) e
by_payload OtherError waiting n payload told h e = by_other n payload told e
by_payload Unknown waiting n payload told h e = absurd (cc (e))

pub parts_tell : PartsTellTheChunk
unfolding shows_chunk
parts_tell extended waiting head payload told e =
    let a = passed _ _ told e in
    let b = passed _ _ told a.1 in
    let c = passed _ _ told b.1 in
    by_payload (form_of extended head.type) waiting head.length payload told a.0 c.1
