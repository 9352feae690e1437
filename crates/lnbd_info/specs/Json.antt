-- Data as JSON. The text of data is `serde_json`'s with no space, in which an object's members stand in the order of their keys, and an end of line.
use Rattle.std.specs.Prelude.{ℕ, List, [], ◌∷◌, ◌++◌, codes}
use Rattle.serde_json.specs.Data.{Data, number, unsigned, array, object, Members, no_members, put}
use Rattle.serde_json.specs.View.{items_of}
use Rattle.serde_json.specs.Written.{compact_text}

-- a key and what stands at it
abbrev pub Member : Type 0
Member = List ℕ × Data

-- members, and these, each at its place among the keys
abbrev pub with_members : List Member → Members → Members
with_members [] members = members
with_members ((key, value) ∷ more) members = with_members more (put key value members)

abbrev pub object_of : List Member → Data
object_of members = object (with_members members no_members)

abbrev pub array_of : List Data → Data
array_of items = array (items_of items)

abbrev pub number_of : ℕ → Data
number_of n = number (unsigned n)

abbrev pub json_line : Data → List ℕ
json_line value = compact_text value ++ codes "\n"
