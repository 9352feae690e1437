-- Data that has no floats, and its text, item by item.
use Rattle.std.proofs.Common.{◌≡◌, ◌∙◌, ℕ, ◌+◌, ◌<◌, List, [], ◌∷◌, ◌++◌, Bool, true, false, ◌||◌, String, Global, Ordering, Less, Equal, Greater, nat_cmp, ap, append_assoc, drop, get_or, length, refl, string_bytes, subst, sym}
use Rattle.std.specs.Prelude.{Result, IfOk}
use Rattle.std.specs.Cmp.Lexicographic.{slice_cmp}
use Rattle.std.specs.Ordering.{match_ordering}
use Rattle.std.proofs.lemmas.List.{drop_more}
use Rattle.std.proofs.lemmas.Result.{IfOk-weaker}
use Rattle.serde_json.specs.Data.{Data, Members, no_members, member, put}
use Rattle.serde_json.specs.View.{items_of}
use Rattle.serde_json.specs.Written.{comma_if, compact_text, has_float, items_text, members_have_float}
use Rattle.lnbd_model.specs.declared.export.Extent.{Extent}
use Rattle.lnbd_info.specs.Json.{Member, object_of, with_members}
use Rattle.lnbd_info.specs.MapJson.{extent_data, extents_data}

-- ---- no floats

or_second : (a b : Bool) → (a || b) ≡ false → b ≡ false
or_second true b h = absurd (cc)
or_second false b h = h

or_first : (a b c : Bool) → (a || b) ≡ false → c ≡ false → (a || c) ≡ false
or_first true b c h k = absurd (cc)
or_first false b c h k = k

placed_plain : (o : Ordering) (k l : List ℕ) (d e : Data) (ms more : Members) → has_float d ≡ false → (has_float e || members_have_float ms) ≡ false → members_have_float more ≡ false
    → members_have_float (match_ordering o (member k d (member l e ms)) (member l d ms) (member l e more)) ≡ false
placed_plain Less k l d e ms more new old later = rw new old
placed_plain Equal k l d e ms more new old later = rw new (or_second (has_float e) (members_have_float ms) old)
placed_plain Greater k l d e ms more new old later = or_first (has_float e) (members_have_float ms) (members_have_float more) old later

put_plain : (k : List ℕ) (d : Data) (ms : Members) → has_float d ≡ false → members_have_float ms ≡ false → members_have_float (put k d ms) ≡ false
put_plain k d no_members new old = rw new refl
put_plain k d (member l e ms) new old =
    placed_plain (slice_cmp nat_cmp k l) k l d e ms (put k d ms) new old (put_plain k d ms new (or_second (has_float e) (members_have_float ms) old))

abbrev pub ArePlain : List Member → Type 0
ArePlain [] = Unit {0}
ArePlain ((key, value) ∷ more) = (has_float value ≡ false) × ArePlain more

with_plain : (more : List Member) (ms : Members) → ArePlain more → members_have_float ms ≡ false → members_have_float (with_members more ms) ≡ false
with_plain [] ms new old = old
with_plain ((key, value) ∷ more) ms new old = with_plain more (put key value ms) new.1 (put_plain key value ms new.0 old)

pub object_plain : (members : List Member) → ArePlain members → has_float (object_of members) ≡ false
object_plain members plain = with_plain members no_members plain refl

-- the text of a value that is seen as this data
pub text_of : {E : Type 0} (r : Result (String Global) E) (seen shown : Data) → seen ≡ shown → has_float shown ≡ false
    → IfOk r (λ s. has_float seen ≡ false → string_bytes s ≡ compact_text seen) → IfOk r (λ s. string_bytes s ≡ compact_text shown)
text_of r seen shown is plain told =
    IfOk-weaker r _ _ (λ s (text : has_float seen ≡ false → string_bytes s ≡ compact_text seen). subst (λ d. string_bytes s ≡ compact_text d) is (text (ap has_float is ∙ plain))) told

-- ---- members

pub with_members-append : (front back : List Member) (ms : Members) → with_members (front ++ back) ms ≡ with_members back (with_members front ms)
with_members-append [] back ms = refl
with_members-append ((key, value) ∷ front) back ms = with_members-append front back (put key value ms)

-- ---- items

pub items_more : (later : Bool) (d : Data) (rest : List Data) (whole text new item : List ℕ) → text ++ items_text later (items_of (d ∷ rest)) ≡ whole → item ≡ compact_text d
    → new ≡ text ++ (comma_if later ++ item) → new ++ items_text true (items_of rest) ≡ whole
items_more later d rest whole text new item held is pushed =
    let more : List ℕ = items_text true (items_of rest) in
    ap (λ (t : List ℕ). t ++ more) pushed ∙ append_assoc text (comma_if later ++ item) more
    ∙ ap (λ (t : List ℕ). text ++ t) (append_assoc (comma_if later) item more ∙ ap (λ (t : List ℕ). comma_if later ++ (t ++ more)) is) ∙ held

pub extents_more : (allocation later : Bool) (offset : ℕ) (extents : List Extent) (i : ℕ) (e : Extent) (whole text new item : List ℕ) → i < length extents
    → text ++ items_text later (items_of (extents_data allocation offset (drop i extents))) ≡ whole → item ≡ compact_text (extent_data allocation offset (get_or extents i e))
    → new ≡ text ++ (comma_if later ++ item) → new ++ items_text true (items_of (extents_data allocation (offset + (get_or extents i e).length) (drop (i + 1) extents))) ≡ whole
extents_more allocation later offset extents i e whole text new item h held is pushed =
    items_more later (extent_data allocation offset (get_or extents i e)) (extents_data allocation (offset + (get_or extents i e).length) (drop (i + 1) extents)) whole text new item
    (ap (λ (xs : List Extent). text ++ items_text later (items_of (extents_data allocation offset xs))) (sym (drop_more extents i e h)) ∙ held) is pushed
