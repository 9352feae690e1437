-- The bodies of option replies.
use Rattle.std.specs.Prelude.{◌≡◌, ℕ, ◌+◌, ◌-◌, ◌%◌, ◌≤◌, ◌⊎◌, Bool, true, false, ◌&&◌, ◌||◌, List, [], ◌∷◌, ◌++◌, length, take, drop, Option, Some, None, if◌then◌else◌, ◌==◌, nat_lt, nat_le}
use Rattle.std.specs.Int.{is_power_of_two}
use Rattle.std.specs.Str.{is_utf8}
use Rattle.lnbd_records.specs.Limits.{max_text, max_minimum_block}
use Rattle.lnbd_records.specs.Numbers.{Field, number, IsRow, IsRowThen, number_at}
use Rattle.lnbd_records.specs.Told.{Told, Size, Body}
use Rattle.lnbd_records.specs.Options.{rep_ack, rep_server, rep_info, rep_meta_context, first_rep_error, info_export, info_name, info_description, info_block_size}
use Rattle.lnbd_records.specs.Told as told

-- Texts.

-- UTF-8 that isn't too long
abbrev pub is_text : List ℕ → Bool
is_text bytes = is_utf8 bytes && nat_le (length bytes) max_text

-- whether the texts that are told are texts
abbrev pub are_texts : Told → Bool
are_texts (told.Server listed) = is_text listed.name && is_text listed.description
are_texts (told.Name name) = is_text name
are_texts (told.Description description) = is_text description
are_texts (told.Context context) = is_text context.name
are_texts told.Ack = true
are_texts (told.Error code) = true
are_texts (told.Export size) = true
are_texts (told.Blocks blocks) = true
are_texts told.Passed = true

-- Blocks.

-- What told sizes of blocks must be to count. The highest maximum means that there is none.
unfoldable pub are_blocks : ℕ → ℕ → ℕ → Bool
are_blocks minimum preferred maximum =
    is_power_of_two minimum && is_power_of_two preferred && nat_le minimum max_minimum_block && nat_le minimum preferred
    && ((maximum == 0xffffffff) || (nat_lt 0 maximum && (maximum % minimum == 0)))

abbrev pub blocks_told : ℕ → ℕ → ℕ → Told
blocks_told minimum preferred maximum =
    if are_blocks minimum preferred maximum
    then told.Blocks (record { minimum = minimum; preferred = preferred; maximum = maximum })
    else told.Passed

-- The bodies by what stands where.

abbrev pub fits : Bool → Told → Option Body
fits form told = if form then Some (record { told = told; texts = are_texts told }) else None

-- a name behind its length (32 bits), and the rest is a description
abbrev pub server_body : List ℕ → Option Body
server_body bytes =
    let size = number_at 0 4 bytes in
    fits (nat_le 4 (length bytes) && nat_le (4 + size) (length bytes))
    (told.Server (record { name = take size (drop 4 bytes); description = drop (4 + size) bytes }))

-- an id (32 bits), and the rest is the context's name
abbrev pub context_body : List ℕ → Option Body
context_body bytes = fits (nat_le 4 (length bytes)) (told.Context (record { id = number_at 0 4 bytes; name = drop 4 bytes }))

-- information behind its type (16 bits): an export's size (64 bits) and flags (16), a name, a description,
-- or the minimum, preferred and maximum size of a block (32 bits each)
abbrev pub info_of_type : ℕ → List ℕ → Option Body
info_of_type type bytes =
    if type == info_export then fits (length bytes == 12) (told.Export (record { size = number_at 2 8 bytes; flags = number_at 10 2 bytes }))
    else if type == info_name then fits true (told.Name (drop 2 bytes))
    else if type == info_description then fits true (told.Description (drop 2 bytes))
    else if type == info_block_size then fits (length bytes == 14) (blocks_told (number_at 2 4 bytes) (number_at 6 4 bytes) (number_at 10 4 bytes))
    else fits true told.Passed

abbrev pub info_body : List ℕ → Option Body
info_body bytes = if nat_le 2 (length bytes) then info_of_type (number_at 0 2 bytes) bytes else None

-- a reply's body, by the reply's type; none where the bytes don't fit the type's form
unfoldable pub body_of : ℕ → List ℕ → Option Body
body_of type bytes =
    if nat_le first_rep_error type then fits true (told.Error (type - first_rep_error))
    else if type == rep_ack then fits (length bytes == 0) told.Ack
    else if type == rep_server then server_body bytes
    else if type == rep_info then info_body bytes
    else if type == rep_meta_context then context_body bytes
    else None

-- The same bodies by their fields.

abbrev pub export : Size → List Field
export size = number 2 info_export ∷ number 8 size.size ∷ number 2 size.flags ∷ []

abbrev pub block_size : ℕ → ℕ → ℕ → List Field
block_size minimum preferred maximum = number 2 info_block_size ∷ number 4 minimum ∷ number 4 preferred ∷ number 4 maximum ∷ []

-- information of a type that isn't known, or sizes of blocks that don't count
abbrev pub IsPassed : List ℕ → Type 0
IsPassed bytes =
    ((type : ℕ) × (rest : List ℕ) × (4 ≤ type) × IsRowThen (number 2 type ∷ []) rest bytes)
    ⊎ ((minimum : ℕ) × (preferred : ℕ) × (maximum : ℕ) × (are_blocks minimum preferred maximum ≡ false) × IsRow (block_size minimum preferred maximum) bytes)

-- a reply of this type with this body tells this
abbrev pub Tells : ℕ → List ℕ → Told → Type 0
Tells type bytes told.Ack = (type ≡ rep_ack) × (bytes ≡ [])
Tells type bytes (told.Error code) = type ≡ first_rep_error + code
Tells type bytes (told.Server listed) = (type ≡ rep_server) × IsRowThen (number 4 (length listed.name) ∷ []) (listed.name ++ listed.description) bytes
Tells type bytes (told.Export size) = (type ≡ rep_info) × IsRow (export size) bytes
Tells type bytes (told.Name name) = (type ≡ rep_info) × IsRowThen (number 2 info_name ∷ []) name bytes
Tells type bytes (told.Description description) = (type ≡ rep_info) × IsRowThen (number 2 info_description ∷ []) description bytes
Tells type bytes (told.Blocks blocks) =
    (type ≡ rep_info) × (are_blocks blocks.minimum blocks.preferred blocks.maximum ≡ true)
    × IsRow (block_size blocks.minimum blocks.preferred blocks.maximum) bytes
Tells type bytes told.Passed = (type ≡ rep_info) × IsPassed bytes
Tells type bytes (told.Context context) = (type ≡ rep_meta_context) × IsRowThen (number 4 context.id ∷ []) context.name bytes
