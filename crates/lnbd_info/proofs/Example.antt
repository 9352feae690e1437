-- Worked examples: the texts and the JSON of the manual page.
use Rattle.std.proofs.Common.{◌≡◌, ℕ, true, false, List, [], ◌∷◌, ◌++◌, refl}
use Rattle.std.specs.Prelude.{None, Ok, codes}
use Rattle.std.specs.Fmt.{digits}
use Rattle.serde_json.proofs.OnLiterals.{serde_json_on_literals}
use Rattle.lnbd_model.specs.declared.export.Context.{Context}
use Rattle.lnbd_model.specs.declared.export.ExportInfo.{ExportInfo}
use Rattle.lnbd_model.specs.declared.export.Extent.{Extent}
use Rattle.lnbd_info.specs.declared.told.Entry.{Entry}
use Rattle.lnbd_info.specs.Listing.{listing_text}
use Rattle.lnbd_info.specs.ListingJson.{listing_json}
use Rattle.lnbd_info.specs.Map.{map_text, totals_lines}
use Rattle.lnbd_info.specs.MapJson.{map_json, totals_json}

abbrev export : (size flags : ℕ) → List Context → ExportInfo
export size flags contexts = record {
  size = size;
  flags = flags;
  blocks = None;
  name = None;
  description = None;
  contexts = contexts;
  structured = true;
  extended = false;
}

abbrev entry : (name description : List ℕ) → ExportInfo → Entry
entry name description info = record { listed = record { name = name; description = description }; told = Ok info }

-- `été 2` as its bytes
abbrev summers : List ℕ
summers = 195 ∷ 169 ∷ 116 ∷ 195 ∷ 169 ∷ 32 ∷ 50 ∷ []

abbrev disk : ExportInfo
disk = export 512 3 []

abbrev listed : List Entry
listed = entry [] (codes "root disk") disk ∷ entry (codes "blue") [] disk ∷ entry summers [] disk ∷ []

abbrev disk_lines : List ℕ
disk_lines =
    codes "\texport-size: 512\n\tis_rotational: false\n\tis_read_only: true\n\tcan_cache: false\n\tcan_df: false\n\tcan_fast_zero: false\n"
    ++ codes "\tcan_flush: false\n\tcan_fua: false\n\tcan_multi_conn: false\n\tcan_trim: false\n\tcan_zero: false\n"

a_list : listing_text false listed
    ≡ codes "protocol: newstyle-fixed without TLS, using structured packets\nexport=\"\":\n\tdescription: \"root disk\"\n" ++ (disk_lines
    ++ (codes "export=\"blue\":\n" ++ (disk_lines ++ (codes "export=\"" ++ (summers ++ (codes "\":\n" ++ disk_lines))))))
unfolding digits
a_list = refl

-- one export, with its meta context
abbrev plain : List Entry
plain = entry [] [] (export 4096 1 (record { id = 1; name = codes "base:allocation" } ∷ [])) ∷ []

its_json : listing_json true plain
    ≡ codes "{\"TLS\":false,\"exports\":[{\"can_cache\":false,\"can_df\":false,\"can_fast_zero\":false,\"can_flush\":false,\"can_fua\":false,\"can_multi_conn\":false,\"can_trim\":false,\"can_zero\":false,"
    ++ codes "\"contexts\":[\"base:allocation\"],\"export-name\":\"\",\"export-size\":4096,\"is_read_only\":false,\"is_rotational\":false}],\"protocol\":\"newstyle-fixed\",\"structured\":true}\n"
unfolding serde_json_on_literals digits
its_json = refl

-- a map, and its totals
abbrev extent : (n flags : ℕ) → Extent
extent n flags = record { length = n; flags = flags }

abbrev map : List Extent
map = extent 4096 0 ∷ extent 8192 3 ∷ extent 4096 0 ∷ []

abbrev totals : List Extent
totals = extent 8192 0 ∷ extent 8192 3 ∷ []

a_map : map_text true map ≡ codes "         0        4096    0  data\n      4096        8192    3  hole,zero\n     12288        4096    0  data\n"
unfolding digits
a_map = refl

its_totals : totals_lines true 16384 totals ≡ codes "      8192   50.0%    0  data\n      8192   50.0%    3  hole,zero\n"
unfolding digits
its_totals = refl

map_as_json : map_json true map
    ≡ codes "[{\"description\":\"data\",\"length\":4096,\"offset\":0,\"type\":0},{\"description\":\"hole,zero\",\"length\":8192,\"offset\":4096,\"type\":3},{\"description\":\"data\",\"length\":4096,\"offset\":12288,\"type\":0}]\n"
unfolding serde_json_on_literals digits
map_as_json = refl

totals_as_json : totals_json true totals ≡ codes "[{\"description\":\"data\",\"size\":8192,\"type\":0},{\"description\":\"hole,zero\",\"size\":8192,\"type\":3}]\n"
unfolding serde_json_on_literals digits
totals_as_json = refl

-- a third is 33.3 percent, rounded down, and more than ten digits widen their column
a_third : totals_lines false 3 (extent 1 0 ∷ extent 2 5 ∷ []) ≡ codes "         1   33.3%    0\n         2   66.6%    5\n"
unfolding digits
a_third = refl
