-- What is answered of the bodies of option replies and requests.
use Rattle.std.specs.Prelude.{◌≡◌, ℕ, true, false, List, Option, Some, None, Result, Ok, Err, ◌==◌}
use Rattle.std.specs.List.{list_all, list_any}
use Rattle.lnbd_records.specs.Options.{info_description, info_name}
use Rattle.lnbd_records.specs.Told.{Told, Body}
use Rattle.lnbd_records.specs.Told as told
use Rattle.lnbd_records.specs.Replies.{is_text}
use Rattle.lnbd_records.specs.Requests.{Asked, asks_texts}
use Rattle.lnbd_records.specs.Requests as asked
use Rattle.lnbd_options.specs.declared.fault.OptionFault.{OptionFault}
use Rattle.lnbd_options.specs.declared.fault.OptionFault.TheVariants.{NoMemory, BadOptionLength, BadText}
use Rattle.lnbd_options.specs.declared.reply.Info.{Info}
use Rattle.lnbd_options.specs.declared.reply.Info.TheVariants as info
use Rattle.lnbd_options.specs.declared.asked.Request.{Request}
use Rattle.lnbd_options.specs.declared.asked.Request.TheVariants as request

-- what information tells
abbrev pub info_told : Info → Told
info_told (info.Export size flags) = told.Export (record { size = size; flags = flags })
info_told (info.Name name) = told.Name name
info_told (info.Description description) = told.Description description
info_told (info.Blocks blocks) = told.Blocks blocks
info_told info.Passed = told.Passed

-- The answer to a reply's body: what it tells; BadOptionLength where it doesn't fit its form, and BadText where
-- it fits and a text that it tells is none. Want of memory may always be answered.
abbrev pub ReadAs : {T : Type 0} → (T → Told) → Option Body → Result T OptionFault → Type 0
ReadAs told_by body (Ok value) = body ≡ Some (record { told = told_by value; texts = true })
ReadAs told_by body (Err NoMemory) = Unit {0}
ReadAs told_by body (Err BadOptionLength) = body ≡ None
ReadAs told_by body (Err BadText) = (told : Told) × (body ≡ Some (record { told = told; texts = false }))

-- a request as it is asked; of the types of information only NAME and DESCRIPTION change what is answered
abbrev pub request_of : Asked → Request
request_of (asked.Name name) = request.Name name
request_of (asked.Info name types) = request.Info name (list_any (λ type. type == info_name) types) (list_any (λ type. type == info_description) types)
request_of (asked.Meta name queries) = request.Meta name queries
request_of asked.Plain = request.Plain

-- The answer to a request's body, in the same way.
abbrev pub AskedAs : Option Asked → Result Request OptionFault → Type 0
AskedAs body (Ok request) = (asks : Asked) × (body ≡ Some asks) × (asks_texts asks ≡ true) × (request ≡ request_of asks)
AskedAs body (Err NoMemory) = Unit {0}
AskedAs body (Err BadOptionLength) = body ≡ None
AskedAs body (Err BadText) = (asks : Asked) × (body ≡ Some asks) × (asks_texts asks ≡ false)

-- the answer to bytes that are to be a text
abbrev pub TextAs : List ℕ → Result (List ℕ) OptionFault → Type 0
TextAs bytes (Ok text) = (text ≡ bytes) × (is_text bytes ≡ true)
TextAs bytes (Err NoMemory) = Unit {0}
TextAs bytes (Err BadOptionLength) = ⊥
TextAs bytes (Err BadText) = is_text bytes ≡ false

-- the answer to texts that stand there
abbrev pub TextsAs : Option (List (List ℕ)) → Result (List (List ℕ)) OptionFault → Type 0
TextsAs there (Ok texts) = (there ≡ Some texts) × (list_all is_text texts ≡ true)
TextsAs there (Err NoMemory) = Unit {0}
TextsAs there (Err BadOptionLength) = ⊥
TextsAs there (Err BadText) = (texts : List (List ℕ)) × (there ≡ Some texts) × (list_all is_text texts ≡ false)
