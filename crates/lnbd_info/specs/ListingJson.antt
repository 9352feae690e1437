-- The JSON of a listing: nbdinfo(1), "--json".
use Rattle.std.specs.Prelude.{ℕ, Bool, false, List, [], ◌∷◌, ◌++◌, Option, Some, None, Result, Ok, Err, codes, map}
use Rattle.serde_json.specs.Data.{Data, boolean, string}
use Rattle.lnbd_model.specs.declared.export.Blocks.{Blocks}
use Rattle.lnbd_model.specs.declared.export.Context.{Context}
use Rattle.lnbd_model.specs.declared.export.ExportInfo.{ExportInfo}
use Rattle.lnbd_model.specs.declared.export.Listed.{Listed}
use Rattle.lnbd_args.specs.declared.asked.Predicate.{Predicate}
use Rattle.lnbd_info.specs.declared.told.Entry.{Entry}
use Rattle.lnbd_info.specs.Json.{Member, array_of, json_line, number_of, object_of}
use Rattle.lnbd_info.specs.Listing.{description_of, first_told, key_of, questions, shown_contexts}
use Rattle.lnbd_info.specs.Predicates.{is_true_of}

abbrev pub description_member : List ℕ → List Member
description_member [] = []
description_member (b ∷ bs) = (codes "description", string (b ∷ bs)) ∷ []

abbrev pub context_data : Context → Data
context_data context = string context.name

abbrev pub contexts_member : List Context → List Member
contexts_member [] = []
contexts_member (first ∷ more) = (codes "contexts", array_of (map context_data (first ∷ more))) ∷ []

abbrev pub answer_member : ExportInfo → Predicate → Member
answer_member info question = (key_of question, boolean (is_true_of question info))

abbrev pub sizes_members : Blocks → List Member
sizes_members blocks =
    (codes "block_minimum", number_of blocks.minimum) ∷ (codes "block_preferred", number_of blocks.preferred) ∷ (codes "block_maximum", number_of blocks.maximum) ∷ []

abbrev pub blocks_members : Option Blocks → List Member
blocks_members None = []
blocks_members (Some blocks) = sizes_members blocks

abbrev pub told_members : Bool → Listed → ExportInfo → List Member
told_members contexts listed info =
    description_member (description_of listed info)
    ++ ((codes "export-size", number_of info.size)
    ∷ (contexts_member (shown_contexts contexts info)
    ++ (map (answer_member info) questions ++ blocks_members info.blocks)))

-- what was told of an export, or the code of the refusal
abbrev pub outcome_members : Bool → Listed → Result ExportInfo ℕ → List Member
outcome_members contexts listed (Ok info) = told_members contexts listed info
outcome_members contexts listed (Err code) = (codes "error", number_of code) ∷ []

abbrev pub entry_members : Bool → Entry → List Member
entry_members contexts entry = (codes "export-name", string entry.listed.name) ∷ outcome_members contexts entry.listed entry.told

abbrev pub entry_data : Bool → Entry → Data
entry_data contexts entry = object_of (entry_members contexts entry)

-- whether replies are structured, by what was told of an export
abbrev pub are_structured : Option ExportInfo → Bool
are_structured None = false
are_structured (Some info) = info.structured

abbrev pub listing_members : Bool → List Entry → List Member
listing_members contexts entries =
    (codes "protocol", string (codes "newstyle-fixed"))
    ∷ (codes "TLS", boolean false)
    ∷ (codes "structured", boolean (are_structured (first_told entries)))
    ∷ (codes "exports", array_of (map (entry_data contexts) entries))
    ∷ []

abbrev pub listing_data : Bool → List Entry → Data
listing_data contexts entries = object_of (listing_members contexts entries)

abbrev pub listing_json : Bool → List Entry → List ℕ
listing_json contexts entries = json_line (listing_data contexts entries)
