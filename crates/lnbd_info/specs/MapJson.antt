-- The JSON of a map and of its totals: nbdinfo(1), "--map", "--totals" and "--json".
use Rattle.std.specs.Prelude.{◌≡◌, ℕ, ◌+◌, Bool, if◌then◌else◌, List, [], ◌∷◌, ◌++◌, codes, map}
use Rattle.serde_json.specs.Data.{Data, string}
use Rattle.lnbd_model.specs.declared.export.Extent.{Extent}
use Rattle.lnbd_info.specs.Json.{Member, array_of, json_line, number_of, object_of}
use Rattle.lnbd_info.specs.Map.{AreTotals, allocation_text}

-- the words for flags of base:allocation; none of another context
abbrev pub allocation_member : Bool → ℕ → List Member
allocation_member allocation flags = if allocation then (codes "description", string (allocation_text flags)) ∷ [] else []

abbrev pub extent_data : Bool → (offset : ℕ) → Extent → Data
extent_data allocation offset extent = object_of
    (allocation_member allocation extent.flags
    ++ ((codes "length", number_of extent.length) ∷ (codes "offset", number_of offset) ∷ (codes "type", number_of extent.flags) ∷ []))

-- extents laid end to end, the first of which begins at this offset
abbrev pub extents_data : Bool → (offset : ℕ) → List Extent → List Data
extents_data allocation offset [] = []
extents_data allocation offset (extent ∷ extents) = extent_data allocation offset extent ∷ extents_data allocation (offset + extent.length) extents

abbrev pub map_json : Bool → List Extent → List ℕ
map_json allocation extents = json_line (array_of (extents_data allocation 0 extents))

abbrev pub total_data : Bool → Extent → Data
total_data allocation total = object_of
    (allocation_member allocation total.flags ++ ((codes "size", number_of total.length) ∷ (codes "type", number_of total.flags) ∷ []))

abbrev pub totals_json : Bool → List Extent → List ℕ
totals_json allocation totals = json_line (array_of (map (total_data allocation) totals))

-- the text is the JSON of the totals of this map
abbrev pub IsTotalsJson : Bool → List Extent → List ℕ → Type 0
IsTotalsJson allocation extents text = (totals : List Extent) × AreTotals extents totals × (text ≡ totals_json allocation totals)
