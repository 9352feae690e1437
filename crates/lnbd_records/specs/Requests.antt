-- The bodies of option requests: the protocol's "Option types" and "Metadata querying".
use Rattle.std.specs.Prelude.{◌≡◌, ℕ, zero, suc, ◌+◌, ◌*◌, ◌^◌, ◌<◌, Bool, true, false, ◌&&◌, ◌||◌, List, [], ◌∷◌, ◌++◌, length, map, take, drop, All, Option, Some, None, if◌then◌else◌, ◌==◌, nat_le, not}
use Rattle.std.specs.List.{list_all}
use Rattle.lnbd_records.specs.Numbers.{Field, number, row, AllFit, number_at, counted}
use Rattle.lnbd_records.specs.Replies.{is_text}
use Rattle.lnbd_records.specs.Options.{info_block_size, info_description, info_name, opt_abort, opt_export_name, opt_extended_headers, opt_go, opt_info, opt_list, opt_set_meta_context, opt_structured_reply}

-- What a client puts.

-- each behind its length
abbrev pub all_counted : List (List ℕ) → List ℕ
all_counted [] = []
all_counted (one ∷ more) = counted one ++ all_counted more

-- how many types, and the types
abbrev pub information_types : List ℕ → List Field
information_types types = number 2 (length types) ∷ map (number 2) types

-- INFO and GO: an export's name, and the types of information that are asked for
abbrev pub info_request : List ℕ → List ℕ → List ℕ
info_request name types = counted name ++ row (information_types types)

-- the information that this client asks for
abbrev pub asked_information : List ℕ
asked_information = info_name ∷ info_description ∷ info_block_size ∷ []

-- SET_META_CONTEXT: an export's name, how many queries, and the queries
abbrev pub meta_request : List ℕ → List (List ℕ) → List ℕ
meta_request name queries = counted name ++ (row (number 4 (length queries) ∷ []) ++ all_counted queries)

-- What a server reads.

pub data Asked : Type 0 where
  -- EXPORT_NAME: the name
  Name : List ℕ → Asked
  -- INFO or GO
  Info : (name : List ℕ) → (types : List ℕ) → Asked
  -- SET_META_CONTEXT
  Meta : (name : List ℕ) → (queries : List (List ℕ)) → Asked
  -- an option whose data isn't read
  Plain : Asked

abbrev pub is_info : ℕ → Bool
is_info option = (option == opt_info) || (option == opt_go)

-- ABORT, LIST, STRUCTURED_REPLY and EXTENDED_HEADERS have no data.
abbrev pub has_no_data : ℕ → Bool
has_no_data option = (option == opt_abort) || (option == opt_list) || (option == opt_structured_reply) || (option == opt_extended_headers)

-- an option request with this body asks this
abbrev pub Asks : ℕ → List ℕ → Asked → Type 0
Asks option bytes (Name name) = (option ≡ opt_export_name) × (bytes ≡ name)
Asks option bytes (Info name types) =
    (is_info option ≡ true) × (length name < 2 ^ 32) × AllFit (information_types types) × (bytes ≡ info_request name types)
Asks option bytes (Meta name queries) =
    (option ≡ opt_set_meta_context) × (length name < 2 ^ 32) × (length queries < 2 ^ 32) × All (λ query. length query < 2 ^ 32) queries
    × (bytes ≡ meta_request name queries)
Asks option bytes Plain =
    ((option == opt_export_name) || is_info option || (option == opt_set_meta_context) ≡ false) × ((has_no_data option ≡ true) → bytes ≡ [])

-- whether the texts of a request are texts
abbrev pub asks_texts : Asked → Bool
asks_texts (Name name) = is_text name
asks_texts (Info name types) = is_text name
asks_texts (Meta name queries) = is_text name && list_all is_text queries
asks_texts Plain = true

-- The same by what stands where.

-- so many numbers of 16 bits
abbrev pub types_in : ℕ → List ℕ → List ℕ
types_in zero bytes = []
types_in (suc n) bytes = number_at 0 2 bytes ∷ types_in n (drop 2 bytes)

abbrev pub with_first : List ℕ → Option (List (List ℕ)) → Option (List (List ℕ))
with_first one None = None
with_first one (Some more) = Some (one ∷ more)

-- so many texts, each behind its length, and nothing after them
abbrev pub texts_in : ℕ → List ℕ → Option (List (List ℕ))
texts_in zero bytes = if length bytes == 0 then Some [] else None
texts_in (suc n) bytes =
    let size = number_at 0 4 bytes in
    if nat_le 4 (length bytes) && nat_le (4 + size) (length bytes)
    then with_first (take size (drop 4 bytes)) (texts_in n (drop (4 + size) bytes))
    else None

abbrev pub info_asked : List ℕ → Option Asked
info_asked bytes =
    let size = number_at 0 4 bytes in
    let count = number_at (4 + size) 2 bytes in
    if nat_le 4 (length bytes) && nat_le (6 + size) (length bytes) && (length bytes == 6 + size + 2 * count)
    then Some (Info (take size (drop 4 bytes)) (types_in count (drop (6 + size) bytes)))
    else None

abbrev pub with_name : List ℕ → Option (List (List ℕ)) → Option Asked
with_name name None = None
with_name name (Some queries) = Some (Meta name queries)

abbrev pub meta_asked : List ℕ → Option Asked
meta_asked bytes =
    let size = number_at 0 4 bytes in
    if nat_le 4 (length bytes) && nat_le (8 + size) (length bytes)
    then with_name (take size (drop 4 bytes)) (texts_in (number_at (4 + size) 4 bytes) (drop (8 + size) bytes))
    else None

-- a request's body, by the option; none where the bytes don't fit the option's form
unfoldable pub asked_of : ℕ → List ℕ → Option Asked
asked_of option bytes =
    if option == opt_export_name then Some (Name bytes)
    else if is_info option then info_asked bytes
    else if option == opt_set_meta_context then meta_asked bytes
    else if has_no_data option && not (length bytes == 0) then None
    else Some Plain
