-- Lines and members that stand only where there is something to tell, and the members of an object one after another.
use Rattle.std.proofs.Common.{◌≡◌, ◌∙◌, ℕ, ◌+◌, ◌<◌, List, [], ◌∷◌, ◌++◌, Bool, false, ap, get_or, length, map, refl, sym, take}
use Rattle.std.specs.Prelude.{◌==◌, codes, flat_map, Result, Ok, Err, OnOk, Some, None, Option}
use Rattle.std.proofs.lemmas.List.{take_more}
use Rattle.serde_json.specs.Data.{Data, Members}
use Rattle.serde_json.specs.View.{items_of, view}
use Rattle.serde_json.specs.Written.{has_float, items_have_float}
use Rattle.serde_json.specs.declared.value.Value.{Value}
use Rattle.lnbd_model.specs.declared.export.Blocks.{Blocks}
use Rattle.lnbd_model.specs.declared.export.Context.{Context}
use Rattle.lnbd_model.specs.declared.export.ExportInfo.{ExportInfo}
use Rattle.lnbd_model.specs.declared.export.Listed.{Listed}
use Rattle.lnbd_args.specs.declared.asked.Predicate.{Predicate}
use Rattle.lnbd_texts.specs.Quoted.{quoted_text}
use Rattle.lnbd_info.specs.declared.told.Entry.{Entry}
use Rattle.lnbd_info.specs.Json.{Member, with_members}
use Rattle.lnbd_info.specs.Listing.{context_line, contexts_lines, description_line, description_of, line, questions, shown_contexts}
use Rattle.lnbd_info.specs.ListingJson.{answer_member, blocks_members, context_data, contexts_member, description_member, entry_data, entry_members, listing_data, listing_members, outcome_members}
use Rattle.lnbd_info.proofs.JsonLemmas.{ArePlain, object_plain, with_members-append}

-- ---- something to tell

pub description_filled : (text : List ℕ) → (length text == 0) ≡ false → description_line text ≡ line (codes "description") (quoted_text text)
description_filled [] h = absurd (cc)
description_filled (b ∷ bs) h = refl

pub contexts_filled : (contexts : List Context) → (length contexts == 0) ≡ false → contexts_lines contexts ≡ codes "\tcontexts:\n" ++ flat_map context_line contexts
contexts_filled [] h = absurd (cc)
contexts_filled (c ∷ cs) h = refl

-- ---- values and members

map_last : {X Y : Type 0} (f : X → Y) (xs : List X) (x : X) → map f (xs ++ x ∷ []) ≡ map f xs ++ f x ∷ []
map_last f [] x = refl
map_last f (y ∷ xs) x = ap (λ ys. f y ∷ ys) (map_last f xs x)

pub values_more : {X : Type 0} (data_of : X → Data) (xs : List X) (i : ℕ) (d : X) (values new : List Value) (value : Value) → i < length xs → map view values ≡ map data_of (take i xs)
    → new ≡ values ++ value ∷ [] → view value ≡ data_of (get_or xs i d) → map view new ≡ map data_of (take (i + 1) xs)
values_more data_of xs i d values new value h held is seen =
    ap (map view) is ∙ map_last view values value ∙ ap (λ ds. ds ++ view value ∷ []) held ∙ ap (λ e. map data_of (take i xs) ++ e ∷ []) seen
    ∙ sym (map_last data_of (take i xs) (get_or xs i d)) ∙ ap (map data_of) (sym (take_more xs i d h))

pub answers_more : (info : ExportInfo) (asked : List Predicate) (i : ℕ) (d : Predicate) (old seen new : Members) → i < length asked
    → seen ≡ with_members (map (answer_member info) (take i asked)) old → new ≡ with_members (answer_member info (get_or asked i d) ∷ []) seen
    → new ≡ with_members (map (answer_member info) (take (i + 1) asked)) old
answers_more info asked i d old seen new h held is =
    let answer : Member = answer_member info (get_or asked i d) in
    is ∙ ap (with_members (answer ∷ [])) held ∙ sym (with_members-append (map (answer_member info) (take i asked)) (answer ∷ []) old)
    ∙ ap (λ ms. with_members ms old) (sym (map_last (answer_member info) (take i asked) (get_or asked i d)) ∙ ap (map (answer_member info)) (sym (take_more asked i d h)))

pub put_behind : {T E : Type 0} (r : Result T E) (front back : List Member) (old mid now : Members) → mid ≡ with_members front old → OnOk r (now ≡ with_members back mid)
    → OnOk r (now ≡ with_members (front ++ back) old)
put_behind (Ok x) front back old mid now first second = second ∙ ap (with_members back) first ∙ sym (with_members-append front back old)
put_behind (Err e) front back old mid now first second = tt

-- ---- no floats

plain-append : (front back : List Member) → ArePlain front → ArePlain back → ArePlain (front ++ back)
plain-append [] back a b = b
plain-append (m ∷ front) back a b = (a.0, plain-append front back a.1 b)

description_plain : (text : List ℕ) → ArePlain (description_member text)
description_plain [] = tt
description_plain (b ∷ bs) = (refl, tt)

names_plain : (contexts : List Context) → items_have_float (items_of (map context_data contexts)) ≡ false
names_plain [] = refl
names_plain (c ∷ cs) = names_plain cs

contexts_plain : (contexts : List Context) → ArePlain (contexts_member contexts)
contexts_plain [] = tt
contexts_plain (c ∷ cs) = (names_plain (c ∷ cs), tt)

answers_plain : (info : ExportInfo) (asked : List Predicate) → ArePlain (map (answer_member info) asked)
answers_plain info [] = tt
answers_plain info (q ∷ qs) = (refl, answers_plain info qs)

blocks_plain : (blocks : Option Blocks) → ArePlain (blocks_members blocks)
blocks_plain None = tt
blocks_plain (Some b) = (refl, (refl, (refl, tt)))

outcome_plain : (contexts : Bool) (listed : Listed) (told : Result ExportInfo ℕ) → ArePlain (outcome_members contexts listed told)
outcome_plain contexts listed (Err code) = (refl, tt)
outcome_plain contexts listed (Ok info) =
    let back : ArePlain (map (answer_member info) questions ++ blocks_members info.blocks) =
    plain-append (map (answer_member info) questions) (blocks_members info.blocks) (answers_plain info questions) (blocks_plain info.blocks) in
    let middle : ArePlain (contexts_member (shown_contexts contexts info) ++ (map (answer_member info) questions ++ blocks_members info.blocks)) =
    plain-append (contexts_member (shown_contexts contexts info)) _ (contexts_plain (shown_contexts contexts info)) back in
    plain-append (description_member (description_of listed info)) _ (description_plain (description_of listed info)) (refl, middle)

entry_plain : (contexts : Bool) (entry : Entry) → has_float (entry_data contexts entry) ≡ false
entry_plain contexts entry = object_plain (entry_members contexts entry) (refl, outcome_plain contexts entry.listed entry.told)

entries_plain : (contexts : Bool) (entries : List Entry) → items_have_float (items_of (map (entry_data contexts) entries)) ≡ false
entries_plain contexts [] = refl
entries_plain contexts (entry ∷ entries) = rw (entry_plain contexts entry) (entries_plain contexts entries)

pub listing_plain : (contexts : Bool) (entries : List Entry) → has_float (listing_data contexts entries) ≡ false
listing_plain contexts entries = object_plain (listing_members contexts entries) (refl, (refl, (refl, (entries_plain contexts entries, tt))))
