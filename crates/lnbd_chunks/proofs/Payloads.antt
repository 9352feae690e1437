-- The payload of a chunk that tells something is a whole payload of its type.
use Rattle.std.proofs.Common.{◌≡◌, ℕ, zero, suc, ◌+◌, ◌-◌, ◌*◌, ◌/◌, ◌%◌, ◌≤◌, ◌<◌, ◌≢◌, Bool, true, false, List, [], ◌∷◌, ◌++◌, length, take, drop, Option, Some, None, refl, ap, sym, subst, ◌∙◌, arith, ◌==◌, nat_le, flat_map, if◌then◌else◌, ◌⊎◌, inl, inr}
use Rattle.std.proofs.lemmas.Bool.{and_parts, leb-true, eqb-true, eqb-false}
use Rattle.std.proofs.lemmas.List.{drop-drop, take-append-drop, drop-take, drop-append-le, length-drop, length-take-le}
use Rattle.lnbd_model.specs.declared.breach.Breach.{Breach}
use Rattle.lnbd_model.specs.declared.export.Extent.{Extent}
use Rattle.lnbd_records.specs.Content.{Content}
use Rattle.lnbd_records.specs.Content as content
use Rattle.lnbd_records.specs.Limits.{max_data, max_descriptors, max_text, max_other_error}
use Rattle.lnbd_records.specs.Numbers.{Field, number, row, IsRow, IsRowThen, IsBytes, AllFit, number_at}
use Rattle.lnbd_records.specs.Transmission.{offset_hole, descriptor, extended_descriptor, Payload, Nothing, Data, Hole, Status, ExtendedStatus, Error, ErrorAt, OtherError, IsError, IsPayload}
use Rattle.lnbd_records.proofs.Basics.{nothing}
use Rattle.lnbd_records.proofs.NumberLaws.{reads_then, row_alone, row-append, bytes_of_drop, bytes_of_take}
use Rattle.lnbd_stream.specs.Grammar.{wants}
use Rattle.lnbd_stream.proofs.Grammar.{once_some, wants_is}
use Rattle.lnbd_chunks.specs.declared.form.Form.{Form}
use Rattle.lnbd_chunks.specs.declared.form.Form.TheVariants as form
use Rattle.lnbd_chunks.specs.Chunk.{Waiting, form_of, is_between, fits_length, fits_message, descriptors_in, extended_descriptors_in, error_told, shows_data, shows_hole, shows_status, shows_extended_status, shows_error, shows_payload}
use Rattle.lnbd_chunks.specs.Whole.{told_by}
use Rattle.lnbd_chunks.proofs.Steady.{at_more, descriptors_more, extended_descriptors_more, least}

-- Fronts.

front_number : (n place width : ℕ) (bytes : List ℕ) → place + width ≤ n → n ≤ length bytes → number_at place width bytes ≡ number_at place width (take n bytes)
front_number n place width bytes inside enough =
    ap (number_at place width) (sym (take-append-drop n bytes))
    ∙ at_more place width (take n bytes) (drop n bytes) (omega (arith, inside, length-take-le n bytes enough))

front_part : (n k : ℕ) (bytes : List ℕ) → k ≤ n → take (n - k) (drop k bytes) ≡ drop k (take n bytes)
front_part n k bytes h = sym (ap (λ (m : ℕ). drop k (take m bytes)) (let e : n ≡ k + (n - k) = omega (arith, h) in e) ∙ drop-take k (n - k) bytes)

number_behind : (place width : ℕ) (bytes : List ℕ) → number_at 0 width (drop place bytes) ≡ number_at place width bytes
unfolding number_at
number_behind place width bytes = refl

-- fields, and behind them fields
joined : (fs gs : List Field) (rest bytes : List ℕ) → IsRowThen fs rest bytes → IsRow gs rest → IsRow (fs ++ gs) bytes
joined fs gs rest bytes a b = record {
  fit = all_fit fs a.fit;
  spelled = a.spelled ∙ ap (λ (r : List ℕ). row fs ++ r) b.spelled ∙ sym (row-append fs gs);
}
  where
    all_fit : (hs : List Field) → AllFit hs → AllFit (hs ++ gs)
    all_fit [] h = b.fit
    all_fit (number w x ∷ hs) h = (h.0, all_fit hs h.1)

no_row : IsRow [] []
unfolding row
no_row = record { fit = tt; spelled = refl }

descriptor_rows : (n : ℕ) (bytes : List ℕ) → IsBytes bytes → length bytes ≡ 8 * n → IsRow (flat_map (λ (d : Extent). descriptor d.length d.flags) (descriptors_in n bytes)) bytes
descriptor_rows zero [] h e = no_row
descriptor_rows zero (b ∷ bytes) h e = absurd (omega (arith, e))
descriptor_rows (suc n) bytes h e =
    joined (descriptor (number_at 0 4 bytes) (number_at 4 4 bytes)) _ (drop 8 bytes) bytes (reads_then (4 ∷ 4 ∷ []) bytes h (omega (arith, e)))
    (descriptor_rows n (drop 8 bytes) (bytes_of_drop 8 bytes h) (omega (arith, e, length-drop 8 bytes)))

extended_rows : (n : ℕ) (bytes : List ℕ) → IsBytes bytes → length bytes ≡ 16 * n → IsRow (flat_map (λ (d : Extent). extended_descriptor d.length d.flags) (extended_descriptors_in n bytes)) bytes
extended_rows zero [] h e = no_row
extended_rows zero (b ∷ bytes) h e = absurd (omega (arith, e))
extended_rows (suc n) bytes h e =
    joined (extended_descriptor (number_at 0 8 bytes) (number_at 8 8 bytes)) _ (drop 16 bytes) bytes (reads_then (8 ∷ 8 ∷ []) bytes h (omega (arith, e)))
    (extended_rows n (drop 16 bytes) (bytes_of_drop 16 bytes h) (omega (arith, e, length-drop 16 bytes)))

count-descriptors : (n : ℕ) (bytes : List ℕ) → length (descriptors_in n bytes) ≡ n
count-descriptors zero bytes = refl
count-descriptors (suc n) bytes = ap suc (count-descriptors n (drop 8 bytes))

count-extended : (n : ℕ) (bytes : List ℕ) → length (extended_descriptors_in n bytes) ≡ n
count-extended zero bytes = refl
count-extended (suc n) bytes = ap suc (count-extended n (drop 16 bytes))

-- the types of a form
abbrev pub IsTypeOf : Form → ℕ → Type 0
IsTypeOf form.Empty type = type ≡ 0
IsTypeOf form.Data type = type ≡ 1
IsTypeOf form.Hole type = type ≡ 2
IsTypeOf form.Status type = type ≡ 5
IsTypeOf form.ExtendedStatus type = type ≡ 6
IsTypeOf form.Error type = type ≡ 32769
IsTypeOf form.ErrorAt type = type ≡ 32770
IsTypeOf form.OtherError type = (32768 ≤ type) × (type ≢ 32769) × (type ≢ 32770)
IsTypeOf form.Unknown type = Unit {0}

five : (extended : Bool) → {type : ℕ} → type ≡ 5 → IsTypeOf (if extended then form.Unknown else form.Status) type
five true e = tt
five false e = e

six : (extended : Bool) → {type : ℕ} → type ≡ 6 → IsTypeOf (if extended then form.ExtendedStatus else form.Unknown) type
six true e = e
six false e = tt

pub type_of_form : (extended : Bool) (type : ℕ) → IsTypeOf (form_of extended type) type
type_of_form extended type = go (type == 0) refl (type == 1) refl (type == 2) refl (type == 5) refl (type == 6) refl (type == 32769) refl (type == 32770) refl (nat_le 32768 type) refl
  where
    go : (a : Bool) → (type == 0) ≡ a → (b : Bool) → (type == 1) ≡ b → (c : Bool) → (type == 2) ≡ c → (d : Bool) → (type == 5) ≡ d → (e : Bool) → (type == 6) ≡ e →
        (f : Bool) → (type == 32769) ≡ f → (g : Bool) → (type == 32770) ≡ g → (h : Bool) → nat_le 32768 type ≡ h →
        IsTypeOf (if a then form.Empty else if b then form.Data else if c then form.Hole else if d then if extended then form.Unknown else form.Status else if e then if extended then form.ExtendedStatus else form.Unknown
        else if f then form.Error else if g then form.ErrorAt else if h then form.OtherError else form.Unknown) type
    go true a1 b b1 c c1 d d1 e e1 f f1 g g1 h h1 = eqb-true type 0 a1
    go false a1 true b1 c c1 d d1 e e1 f f1 g g1 h h1 = eqb-true type 1 b1
    go false a1 false b1 true c1 d d1 e e1 f f1 g g1 h h1 = eqb-true type 2 c1
    go false a1 false b1 false c1 true d1 e e1 f f1 g g1 h h1 = five extended (eqb-true type 5 d1)
    go false a1 false b1 false c1 false d1 true e1 f f1 g g1 h h1 = six extended (eqb-true type 6 e1)
    go false a1 false b1 false c1 false d1 false e1 true f1 g g1 h h1 = eqb-true type 32769 f1
    go false a1 false b1 false c1 false d1 false e1 false f1 true g1 h h1 = eqb-true type 32770 g1
    go false a1 false b1 false c1 false d1 false e1 false f1 false g1 true h1 = (leb-true 32768 type h1, eqb-false type 32769 f1, eqb-false type 32770 g1)
    go false a1 false b1 false c1 false d1 false e1 false f1 false g1 false h1 = tt

-- what the payload of a chunk is
pub record IsTold (type n : ℕ) (payload : List ℕ) (told : Content) : Type 0 where
  pub enough : n ≤ length payload
  pub means : Payload
  pub is : IsPayload type (take n payload) means
  pub tells : told ≡ told_by means

module _ {R S : Type 0} (broken : Breach → R) (tell : Content → R) (said : R → Option S) (say : Content → S)
    (silent : (breach : Breach) → said (broken breach) ≡ None) (speaks : (content : Content) → said (tell content) ≡ Some (say content)) where
  -- no breach was shown
  pub passed : (test : Bool) (breach : Breach) (shown : Option R) (found : R) (reply : S) → said found ≡ Some reply → wants test (broken breach) shown ≡ Some found → (test ≡ true) × (shown ≡ Some found)
  passed test breach shown found reply s e = go (wants_is test (broken breach) shown (Some found) e)
    where
      go : ((test ≡ true) × (shown ≡ Some found)) ⊎ ((test ≡ false) × (Some (broken breach) ≡ Some found)) → (test ≡ true) × (shown ≡ Some found)
      go (inl both) = both
      go (inr bad) =
          let same : broken breach ≡ found = let x = bad.1 in cc in
          let none : None ≡ Some reply = sym (silent breach) ∙ ap said same ∙ s in
          absurd (cc)

  -- this was told
  pub told_is : (content : Content) (found : R) (reply : S) → said found ≡ Some reply → Some (tell content) ≡ Some found → say content ≡ reply
  told_is content found reply s e =
      let same : tell content ≡ found = cc in
      let both : Some (say content) ≡ Some reply = sym (speaks content) ∙ ap said same ∙ s in
      cc

  -- a payload that tells
  pub record Speaks (type n : ℕ) (payload : List ℕ) (reply : S) : Type 0 where
    pub told : Content
    pub whole : IsTold type n payload told
    pub reply_is : say told ≡ reply

  speaks_data : (waiting : Waiting) (n : ℕ) (p : List ℕ) (found : R) (reply : S) → IsBytes p → fits_length form.Data n ≡ true → said found ≡ Some reply →
      shows_data broken tell waiting n p ≡ Some found → Speaks 1 n p reply
  unfolding shows_data
  speaks_data waiting n p found reply h fits s e =
      let a = once_some 8 p _ found e in
      let b = passed _ _ _ found reply s a.1 in
      let c = once_some n p _ found b.1 in
      let long : 9 ≤ n = least 9 (8 + max_data) n fits in
      let short : n ≤ 8 + max_data = leb-true n (8 + max_data) (and_parts (nat_le 9 n) (nat_le n (8 + max_data)) fits).1 in
      let part : take (n - 8) (drop 8 p) ≡ drop 8 (take n p) = front_part n 8 p (omega (arith, long)) in
      let at : number_at 0 8 p ≡ number_at 0 8 (take n p) = front_number n 0 8 p (omega (arith, long)) c.0 in
      let size : length (drop 8 (take n p)) ≡ n - 8 = length-drop 8 (take n p) ∙ ap (λ (m : ℕ). m - 8) (length-take-le n p c.0) in
      record {
        told = content.Data (number_at 0 8 p) (take (n - 8) (drop 8 p));
        whole = record {
          enough = c.0;
          means = Data (number_at 0 8 (take n p)) (drop 8 (take n p));
          is = (refl, omega (arith, size, long), omega (arith, size, short), reads_then (8 ∷ []) (take n p) (bytes_of_take n p h c.0) (omega (arith, length-take-le n p c.0, long)));
          tells = ap (λ (o : ℕ). content.Data o (take (n - 8) (drop 8 p))) at ∙ ap (λ (x : List ℕ). content.Data (number_at 0 8 (take n p)) x) part;
        };
        reply_is = told_is _ found reply s c.1;
      }

  speaks_hole : (waiting : Waiting) (n : ℕ) (p : List ℕ) (found : R) (reply : S) → IsBytes p → fits_length form.Hole n ≡ true → said found ≡ Some reply →
      shows_hole broken tell waiting p ≡ Some found → Speaks 2 n p reply
  unfolding shows_hole
  speaks_hole waiting n p found reply h fits s e =
      let size : n ≡ 12 = eqb-true n 12 fits in
      let a = once_some 8 p _ found e in
      let b = passed _ _ _ found reply s a.1 in
      let c = once_some 12 p _ found b.1 in
      let d = passed _ _ _ found reply s c.1 in
      let enough : n ≤ length p = omega (arith, size, c.0) in
      let long : 12 ≤ length (take n p) = omega (arith, size, length-take-le n p enough) in
      let end : drop 12 (take n p) ≡ [] = nothing (drop 12 (take n p)) (length-drop 12 (take n p) ∙ (let z : length (take n p) - 12 ≡ 0 = omega (arith, size, length-take-le n p enough) in z)) in
      record {
        told = content.Hole (number_at 0 8 p) (number_at 8 4 p);
        whole = record {
          enough = enough;
          means = Hole (number_at 0 8 (take n p)) (number_at 8 4 (take n p));
          is = (refl, row_alone _ (take n p) (subst (λ (r : List ℕ). IsRowThen (offset_hole (number_at 0 8 (take n p)) (number_at 8 4 (take n p))) r (take n p)) end (reads_then (8 ∷ 4 ∷ []) (take n p) (bytes_of_take n p h enough) long)));
          tells = ap (λ (o : ℕ). content.Hole o (number_at 8 4 p)) (front_number n 0 8 p (omega (arith, size)) enough) ∙ ap (λ (z : ℕ). content.Hole (number_at 0 8 (take n p)) z) (front_number n 8 4 p (omega (arith, size)) enough);
        };
        reply_is = told_is _ found reply s d.1;
      }

  speaks_status : (n : ℕ) (p : List ℕ) (found : R) (reply : S) → IsBytes p → fits_length form.Status n ≡ true → said found ≡ Some reply →
      shows_status broken tell n p ≡ Some found → Speaks 5 n p reply
  unfolding shows_status
  speaks_status n p found reply h fits s e =
      let c = once_some n p _ found e in
      let range = and_parts (is_between 12 (4 + 8 * max_descriptors) n) (n % 8 == 4) fits in
      let long : 12 ≤ n = least 12 (4 + 8 * max_descriptors) n range.0 in
      let short : n ≤ 4 + 8 * max_descriptors = leb-true n (4 + 8 * max_descriptors) (and_parts (nat_le 12 n) (nat_le n (4 + 8 * max_descriptors)) range.0).1 in
      let over : n % 8 ≡ 4 = eqb-true (n % 8) 4 range.1 in
      let k : ℕ = (n - 4) / 8 in
      let size : n ≡ 4 + 8 * ((n - 4) / 8) = omega (arith, over, long) in
      let q : List ℕ = drop 4 (take n p) in
      let width : length (drop 4 (take n p)) ≡ 8 * ((n - 4) / 8) = length-drop 4 (take n p) ∙ (let z : length (take n p) - 4 ≡ 8 * ((n - 4) / 8) = omega (arith, size, length-take-le n p c.0) in z) in
      let apart : drop 4 p ≡ drop 4 (take n p) ++ drop n p = ap (drop 4) (sym (take-append-drop n p)) ∙ drop-append-le 4 (take n p) (drop n p) (omega (arith, long, length-take-le n p c.0)) in
      let same : descriptors_in ((n - 4) / 8) (drop 4 p) ≡ descriptors_in ((n - 4) / 8) (drop 4 (take n p)) =
      ap (descriptors_in ((n - 4) / 8)) apart ∙ descriptors_more ((n - 4) / 8) (drop 4 (take n p)) (drop n p) (omega (arith, width)) in
      let count = count-descriptors ((n - 4) / 8) (drop 4 (take n p)) in
      record {
        told = content.Status (number_at 0 4 p) (descriptors_in ((n - 4) / 8) (drop 4 p));
        whole = record {
          enough = c.0;
          means = Status (number_at 0 4 (take n p)) (descriptors_in ((n - 4) / 8) (drop 4 (take n p)));
          is = (
            refl,
            omega (arith, count, size, long),
            omega (arith, count, size, short),
            joined (number 4 (number_at 0 4 (take n p)) ∷ []) _ (drop 4 (take n p)) (take n p)
                (reads_then (4 ∷ []) (take n p) (bytes_of_take n p h c.0) (omega (arith, long, length-take-le n p c.0)))
                (descriptor_rows ((n - 4) / 8) (drop 4 (take n p)) (bytes_of_drop 4 (take n p) (bytes_of_take n p h c.0)) width),
          );
          tells = ap (λ (o : ℕ). content.Status o (descriptors_in ((n - 4) / 8) (drop 4 p))) (front_number n 0 4 p (omega (arith, long)) c.0) ∙ ap (λ (ds : List Extent). content.Status (number_at 0 4 (take n p)) ds) same;
        };
        reply_is = told_is _ found reply s c.1;
      }

  speaks_extended_status : (n : ℕ) (p : List ℕ) (found : R) (reply : S) → IsBytes p → fits_length form.ExtendedStatus n ≡ true → said found ≡ Some reply →
      shows_extended_status broken tell n p ≡ Some found → Speaks 6 n p reply
  unfolding shows_extended_status
  speaks_extended_status n p found reply h fits s e =
      let a = once_some 8 p _ found e in
      let b = passed _ _ _ found reply s a.1 in
      let c = once_some n p _ found b.1 in
      let counted : 8 + 16 * number_at 4 4 p ≡ n = eqb-true (8 + 16 * number_at 4 4 p) n b.0 in
      let range = and_parts (is_between 24 (8 + 16 * max_descriptors) n) (n % 16 == 8) fits in
      let long : 24 ≤ n = least 24 (8 + 16 * max_descriptors) n range.0 in
      let short : n ≤ 8 + 16 * max_descriptors = leb-true n (8 + 16 * max_descriptors) (and_parts (nat_le 24 n) (nat_le n (8 + 16 * max_descriptors)) range.0).1 in
      let over : n % 16 ≡ 8 = eqb-true (n % 16) 8 range.1 in
      let size : n ≡ 8 + 16 * ((n - 8) / 16) = omega (arith, over, long) in
      let width : length (drop 8 (take n p)) ≡ 16 * ((n - 8) / 16) = length-drop 8 (take n p) ∙ (let z : length (take n p) - 8 ≡ 16 * ((n - 8) / 16) = omega (arith, size, length-take-le n p c.0) in z) in
      let apart : drop 8 p ≡ drop 8 (take n p) ++ drop n p = ap (drop 8) (sym (take-append-drop n p)) ∙ drop-append-le 8 (take n p) (drop n p) (omega (arith, long, length-take-le n p c.0)) in
      let same : extended_descriptors_in ((n - 8) / 16) (drop 8 p) ≡ extended_descriptors_in ((n - 8) / 16) (drop 8 (take n p)) =
      ap (extended_descriptors_in ((n - 8) / 16)) apart ∙ extended_descriptors_more ((n - 8) / 16) (drop 8 (take n p)) (drop n p) (omega (arith, width)) in
      let count = count-extended ((n - 8) / 16) (drop 8 (take n p)) in
      let told_count : number_at 4 4 (take n p) ≡ length (extended_descriptors_in ((n - 8) / 16) (drop 8 (take n p))) =
      sym (front_number n 4 4 p (omega (arith, long)) c.0) ∙ (let z : number_at 4 4 p ≡ (n - 8) / 16 = omega (arith, counted, size) in z) ∙ sym count in
      let head : IsRowThen (number 4 (number_at 0 4 (take n p)) ∷ number 4 (number_at 4 4 (take n p)) ∷ []) (drop 8 (take n p)) (take n p) =
      reads_then (4 ∷ 4 ∷ []) (take n p) (bytes_of_take n p h c.0) (omega (arith, long, length-take-le n p c.0)) in
      record {
        told = content.Status (number_at 0 4 p) (extended_descriptors_in ((n - 8) / 16) (drop 8 p));
        whole = record {
          enough = c.0;
          means = ExtendedStatus (number_at 0 4 (take n p)) (extended_descriptors_in ((n - 8) / 16) (drop 8 (take n p)));
          is = (
            refl,
            omega (arith, count, size, long),
            omega (arith, count, size, short),
            joined (number 4 (number_at 0 4 (take n p)) ∷ number 4 (length (extended_descriptors_in ((n - 8) / 16) (drop 8 (take n p)))) ∷ []) _ (drop 8 (take n p)) (take n p)
                (subst (λ (x : ℕ). IsRowThen (number 4 (number_at 0 4 (take n p)) ∷ number 4 x ∷ []) (drop 8 (take n p)) (take n p)) told_count head)
                (extended_rows ((n - 8) / 16) (drop 8 (take n p)) (bytes_of_drop 8 (take n p) (bytes_of_take n p h c.0)) width),
          );
          tells = ap (λ (o : ℕ). content.Status o (extended_descriptors_in ((n - 8) / 16) (drop 8 p))) (front_number n 0 4 p (omega (arith, long)) c.0) ∙ ap (λ (ds : List Extent). content.Status (number_at 0 4 (take n p)) ds) same;
        };
        reply_is = told_is _ found reply s c.1;
      }

  -- an error's front, which is there
  record Erring (f : Form) (n : ℕ) (p : List ℕ) (found : R) : Type 0 where
    long : 6 ≤ length p
    fits : fits_message f n (number_at 4 2 p) ≡ true
    enough : n ≤ length p
    shown : Some (tell (error_told f n p)) ≡ Some found

  erring : (f : Form) (n : ℕ) (p : List ℕ) (found : R) (reply : S) → said found ≡ Some reply → shows_error broken tell f n p ≡ Some found → Erring f n p found
  unfolding shows_error
  erring f n p found reply s e =
      let a = once_some 6 p _ found e in
      let b = passed _ _ _ found reply s a.1 in
      let c = passed _ _ _ found reply s b.1 in
      let d = once_some n p _ found c.1 in
      record { long = a.0; fits = b.0; enough = d.0; shown = d.1 }

  -- the head of an error with its message, in a payload that has more than that
  error_is : (n m : ℕ) (p : List ℕ) → IsBytes p → 6 ≤ n → n ≤ length p → number_at 4 2 p ≡ m → 6 + m ≤ n → m ≤ max_text →
      IsError (number_at 0 4 (take n p)) (take m (drop 6 (take n p))) (drop m (drop 6 (take n p))) (take n p)
  error_is n m p h long enough is room short =
      let width : length (drop 6 (take n p)) ≡ n - 6 = length-drop 6 (take n p) ∙ ap (λ (x : ℕ). x - 6) (length-take-le n p enough) in
      let count : length (take m (drop 6 (take n p))) ≡ m = length-take-le m (drop 6 (take n p)) (omega (arith, width, room)) in
      let told : number_at 4 2 (take n p) ≡ length (take m (drop 6 (take n p))) = sym (front_number n 4 2 p (omega (arith, long)) enough) ∙ is ∙ sym count in
      let head : IsRowThen (number 4 (number_at 0 4 (take n p)) ∷ number 2 (number_at 4 2 (take n p)) ∷ []) (drop 6 (take n p)) (take n p) =
      reads_then (4 ∷ 2 ∷ []) (take n p) (bytes_of_take n p h enough) (omega (arith, long, length-take-le n p enough)) in
      let counted : IsRowThen (number 4 (number_at 0 4 (take n p)) ∷ number 2 (length (take m (drop 6 (take n p)))) ∷ []) (drop 6 (take n p)) (take n p) =
      subst (λ (x : ℕ). IsRowThen (number 4 (number_at 0 4 (take n p)) ∷ number 2 x ∷ []) (drop 6 (take n p)) (take n p)) told head in
      (omega (arith, count, short), subst (λ (r : List ℕ). IsRowThen (number 4 (number_at 0 4 (take n p)) ∷ number 2 (length (take m (drop 6 (take n p)))) ∷ []) r (take n p)) (sym (take-append-drop m (drop 6 (take n p)))) counted)

  speaks_error : (n : ℕ) (p : List ℕ) (found : R) (reply : S) → IsBytes p → fits_length form.Error n ≡ true → said found ≡ Some reply →
      shows_error broken tell form.Error n p ≡ Some found → Speaks 32769 n p reply
  speaks_error n p found reply h fits s e =
      let x = erring form.Error n p found reply s e in
      let size : n ≡ 6 + number_at 4 2 p = eqb-true n (6 + number_at 4 2 p) x.fits in
      let short : n ≤ 6 + max_text = leb-true n (6 + max_text) (and_parts (nat_le 6 n) (nat_le n (6 + max_text)) fits).1 in
      let long : 6 ≤ n = omega (arith, size) in
      let m : ℕ = number_at 4 2 p in
      let is = error_is n (number_at 4 2 p) p h long x.enough refl (omega (arith, size)) (omega (arith, size, short)) in
      let width : length (drop 6 (take n p)) ≡ n - 6 = length-drop 6 (take n p) ∙ ap (λ (y : ℕ). y - 6) (length-take-le n p x.enough) in
      let end : drop (number_at 4 2 p) (drop 6 (take n p)) ≡ [] =
      nothing (drop (number_at 4 2 p) (drop 6 (take n p))) (length-drop (number_at 4 2 p) (drop 6 (take n p)) ∙ (let z : length (drop 6 (take n p)) - number_at 4 2 p ≡ 0 = omega (arith, width, size) in z)) in
      record {
        told = content.Error (number_at 0 4 p);
        whole = record {
          enough = x.enough;
          means = Error (number_at 0 4 (take n p)) (take (number_at 4 2 p) (drop 6 (take n p)));
          is = (refl, subst (λ (r : List ℕ). IsError (number_at 0 4 (take n p)) (take (number_at 4 2 p) (drop 6 (take n p))) r (take n p)) end is);
          tells = ap (λ (o : ℕ). content.Error o) (front_number n 0 4 p (omega (arith, long)) x.enough);
        };
        reply_is = told_is _ found reply s x.shown;
      }

  speaks_error_at : (n : ℕ) (p : List ℕ) (found : R) (reply : S) → IsBytes p → fits_length form.ErrorAt n ≡ true → said found ≡ Some reply →
      shows_error broken tell form.ErrorAt n p ≡ Some found → Speaks 32770 n p reply
  speaks_error_at n p found reply h fits s e =
      let x = erring form.ErrorAt n p found reply s e in
      let size : n ≡ 14 + number_at 4 2 p = eqb-true n (14 + number_at 4 2 p) x.fits in
      let short : n ≤ 14 + max_text = leb-true n (14 + max_text) (and_parts (nat_le 14 n) (nat_le n (14 + max_text)) fits).1 in
      let long : 14 ≤ n = omega (arith, size) in
      let is = error_is n (number_at 4 2 p) p h (omega (arith, long)) x.enough refl (omega (arith, size)) (omega (arith, size, short)) in
      let behind : drop (number_at 4 2 p) (drop 6 (take n p)) ≡ drop (n - 8) (take n p) =
      drop-drop (number_at 4 2 p) 6 (take n p) ∙ ap (λ (k : ℕ). drop k (take n p)) (let z : 6 + number_at 4 2 p ≡ n - 8 = omega (arith, size) in z) in
      let width : length (drop (n - 8) (take n p)) ≡ 8 = length-drop (n - 8) (take n p) ∙ (let z : length (take n p) - (n - 8) ≡ 8 = omega (arith, long, length-take-le n p x.enough) in z) in
      let bytes = bytes_of_drop (n - 8) (take n p) (bytes_of_take n p h x.enough) in
      let end : drop 8 (drop (n - 8) (take n p)) ≡ [] = nothing (drop 8 (drop (n - 8) (take n p))) (length-drop 8 (drop (n - 8) (take n p)) ∙ (let z : length (drop (n - 8) (take n p)) - 8 ≡ 0 = omega (arith, width) in z)) in
      let last : IsRow (number 8 (number_at 0 8 (drop (n - 8) (take n p))) ∷ []) (drop (n - 8) (take n p)) =
      row_alone _ _ (subst (λ (r : List ℕ). IsRowThen (number 8 (number_at 0 8 (drop (n - 8) (take n p))) ∷ []) r (drop (n - 8) (take n p))) end (reads_then (8 ∷ []) (drop (n - 8) (take n p)) bytes (omega (arith, width)))) in
      let at : number_at 0 8 (drop (n - 8) (take n p)) ≡ number_at (n - 8) 8 p = number_behind (n - 8) 8 (take n p) ∙ sym (front_number n (n - 8) 8 p (omega (arith, long)) x.enough) in
      let rest : drop (number_at 4 2 p) (drop 6 (take n p)) ≡ row (number 8 (number_at 0 8 (drop (n - 8) (take n p))) ∷ []) = behind ∙ last.spelled in
      record {
        told = content.ErrorAt (number_at 0 4 p) (number_at (n - 8) 8 p);
        whole = record {
          enough = x.enough;
          means = ErrorAt (number_at 0 4 (take n p)) (take (number_at 4 2 p) (drop 6 (take n p))) (number_at 0 8 (drop (n - 8) (take n p)));
          is = (refl, subst (λ (r : List ℕ). IsError (number_at 0 4 (take n p)) (take (number_at 4 2 p) (drop 6 (take n p))) r (take n p)) rest is, last.fit.0);
          tells = ap (λ (o : ℕ). content.ErrorAt o (number_at (n - 8) 8 p)) (front_number n 0 4 p (omega (arith, long)) x.enough) ∙ ap (λ (o : ℕ). content.ErrorAt (number_at 0 4 (take n p)) o) (sym at);
        };
        reply_is = told_is _ found reply s x.shown;
      }

  speaks_other : (type n : ℕ) (p : List ℕ) (found : R) (reply : S) → IsBytes p → 32768 ≤ type → type < 65536 → type ≢ 32769 → type ≢ 32770 → fits_length form.OtherError n ≡ true → said found ≡ Some reply →
      shows_error broken tell form.OtherError n p ≡ Some found → Speaks type n p reply
  speaks_other type n p found reply h low high one two fits s e =
      let x = erring form.OtherError n p found reply s e in
      let range = and_parts (nat_le 6 n) (nat_le n max_other_error) fits in
      let long : 6 ≤ n = leb-true 6 n range.0 in
      let short : n ≤ max_other_error = leb-true n max_other_error range.1 in
      let message = and_parts (nat_le (number_at 4 2 p) max_text) (nat_le (6 + number_at 4 2 p) n) x.fits in
      let is = error_is n (number_at 4 2 p) p h long x.enough refl (leb-true (6 + number_at 4 2 p) n message.1) (leb-true (number_at 4 2 p) max_text message.0) in
      record {
        told = content.Error (number_at 0 4 p);
        whole = record {
          enough = x.enough;
          means = OtherError (number_at 0 4 (take n p)) (take (number_at 4 2 p) (drop 6 (take n p))) (drop (number_at 4 2 p) (drop 6 (take n p)));
          is = (low, high, one, two, is, omega (arith, short, length-take-le n p x.enough));
          tells = ap (λ (o : ℕ). content.Error o) (front_number n 0 4 p (omega (arith, long)) x.enough);
        };
        reply_is = told_is _ found reply s x.shown;
      }

  -- a breach tells nothing
  pub broke : (breach : Breach) (found : R) (reply : S) → said found ≡ Some reply → Some (broken breach) ≡ Some found → ⊥
  broke breach found reply s e =
      let same : broken breach ≡ found = cc in
      let none : None ≡ Some reply = sym (silent breach) ∙ ap said same ∙ s in
      cc

  pub speaks_payload : (f : Form) (waiting : Waiting) (type n : ℕ) (p : List ℕ) (found : R) (reply : S) → IsTypeOf f type → type < 65536 → IsBytes p → fits_length f n ≡ true → said found ≡ Some reply →
      shows_payload broken tell f waiting n p ≡ Some found → Speaks type n p reply
  speaks_payload form.Empty waiting type n p found reply t small h fits s e =
      let none : n ≡ 0 = eqb-true n 0 fits in
      record {
        told = content.Nothing;
        whole = record { enough = omega (arith, none); means = Nothing; is = (t, ap (λ (k : ℕ). take k p) none); tells = refl };
        reply_is = told_is _ found reply s e;
      }
  speaks_payload form.Data waiting type n p found reply t small h fits s e = subst (λ (k : ℕ). Speaks k n p reply) (sym t) (speaks_data waiting n p found reply h fits s e)
  speaks_payload form.Hole waiting type n p found reply t small h fits s e = subst (λ (k : ℕ). Speaks k n p reply) (sym t) (speaks_hole waiting n p found reply h fits s e)
  speaks_payload form.Status waiting type n p found reply t small h fits s e = subst (λ (k : ℕ). Speaks k n p reply) (sym t) (speaks_status n p found reply h fits s e)
  speaks_payload form.ExtendedStatus waiting type n p found reply t small h fits s e = subst (λ (k : ℕ). Speaks k n p reply) (sym t) (speaks_extended_status n p found reply h fits s e)
  speaks_payload form.Error waiting type n p found reply t small h fits s e = subst (λ (k : ℕ). Speaks k n p reply) (sym t) (speaks_error n p found reply h fits s e)
  speaks_payload form.ErrorAt waiting type n p found reply t small h fits s e = subst (λ (k : ℕ). Speaks k n p reply) (sym t) (speaks_error_at n p found reply h fits s e)
  speaks_payload form.OtherError waiting type n p found reply t small h fits s e = speaks_other type n p found reply h t.0 small t.1 t.2 fits s e
  speaks_payload form.Unknown waiting type n p found reply t small h fits s e = absurd (broke _ found reply s e)
