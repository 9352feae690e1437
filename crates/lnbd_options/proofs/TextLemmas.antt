-- Texts as a test.
use Rattle.std.proofs.Common.{◌≡◌, ℕ, ◌≤◌, ◌<◌, ◌&&◌, Bool, true, false, List, length, Option, Some, None, is_some, refl, ap, ◌∙◌, arith, nat_le, Ok, Err}
use Rattle.std.specs.Prelude.{IsUtf8}
use Rattle.std.specs.Str.{is_utf8}
use Rattle.std.specs.List.{list_all}
use Rattle.std.proofs.lemmas.Str.{is_utf8-from_IsUtf8, IsUtf8-from_is_utf8}
use Rattle.lnbd_records.specs.Limits.{max_text}
use Rattle.lnbd_records.specs.Told.{Told, Body}
use Rattle.lnbd_records.specs.Replies.{is_text}
use Rattle.lnbd_records.specs.Requests.{Asked, asks_texts, with_name}
use Rattle.lnbd_records.specs.Requests as asked
use Rattle.lnbd_options.specs.declared.fault.OptionFault.{OptionFault}
use Rattle.lnbd_options.specs.declared.fault.OptionFault.TheVariants.{NoMemory, BadOptionLength, BadText}
use Rattle.lnbd_options.specs.declared.asked.Request.TheVariants as request
use Rattle.lnbd_options.specs.Answers.{TextAs, TextsAs, ReadAs, AskedAs}

pub not_utf8 : (bytes : List ℕ) → (IsUtf8 bytes → ⊥) → is_text bytes ≡ false
not_utf8 bytes never = go (is_utf8 bytes) refl
  where
    go : (b : Bool) → is_utf8 bytes ≡ b → is_text bytes ≡ false
    go true e = absurd (never (IsUtf8-from_is_utf8 bytes e))
    go false e = rw e refl

pub too_long : (bytes : List ℕ) → max_text < length bytes → is_text bytes ≡ false
too_long bytes h = grind (arith, h)

pub is_a_text : (bytes : List ℕ) → IsUtf8 bytes → length bytes ≤ max_text → is_text bytes ≡ true
is_a_text bytes u short =
    let e : is_utf8 bytes ≡ true = is_utf8-from_IsUtf8 bytes u in
    let f : nat_le (length bytes) max_text ≡ true = grind (arith, short) in
    rw (e, f) refl

-- A text that can't be read is what is told of the body.
pub unread : {T : Type 0} (told_by : T → Told) (body : Option Body) (told : Told) (texts : Bool) (bytes : List ℕ) (fault : OptionFault) → body ≡ Some (record { told = told; texts = texts }) → (is_text bytes ≡ false → texts ≡ false) → TextAs bytes (Err fault) → ReadAs told_by body (Err fault)
unread told_by body told texts bytes NoMemory e never t = tt
unread told_by body told texts bytes BadOptionLength e never t = absurd t
unread told_by body told texts bytes BadText e never t = (told, e ∙ ap (λ b. Some (record { told = told; texts = b })) (never t))

-- The same of a request.
pub unasked : (body : Option Asked) (asks : Asked) (bytes : List ℕ) (fault : OptionFault) → body ≡ Some asks → (is_text bytes ≡ false → asks_texts asks ≡ false) → TextAs bytes (Err fault) → AskedAs body (Err fault)
unasked body asks bytes NoMemory e never t = tt
unasked body asks bytes BadOptionLength e never t = absurd t
unasked body asks bytes BadText e never t = (asks, e, never t)

pub and_false : (b : Bool) → (b && false) ≡ false
and_false true = refl
and_false false = refl

-- SET_META_CONTEXT, whose name is none, whose queries are none, or that is whole.

pub meta_bad_name : (name : List ℕ) (there : Option (List (List ℕ))) (fault : OptionFault) → is_some there ≡ true → TextAs name (Err fault) → AskedAs (with_name name there) (Err fault)
meta_bad_name name None fault s t = absurd (cc)
meta_bad_name name (Some queries) NoMemory s t = tt
meta_bad_name name (Some queries) BadOptionLength s t = absurd t
meta_bad_name name (Some queries) BadText s t = (asked.Meta name queries, refl, rw t refl)

pub meta_bad_text : (name : List ℕ) (there : Option (List (List ℕ))) (fault : OptionFault) → is_text name ≡ true → TextsAs there (Err fault) → AskedAs (with_name name there) (Err fault)
meta_bad_text name there NoMemory n t = tt
meta_bad_text name there BadOptionLength n t = absurd t
meta_bad_text name there BadText n t = (asked.Meta name t.0, ap (with_name name) t.1, rw (n, t.2) refl)

pub meta_good : (bytes name : List ℕ) (queries : List (List ℕ)) (there : Option (List (List ℕ))) → name ≡ bytes → is_text bytes ≡ true → there ≡ Some queries → list_all is_text queries ≡ true → AskedAs (with_name bytes there) (Ok (request.Meta name queries))
meta_good bytes name queries there e n h t = (asked.Meta bytes queries, ap (with_name bytes) h, rw (n, t) refl, ap (λ (m : List ℕ). request.Meta m queries) e)
