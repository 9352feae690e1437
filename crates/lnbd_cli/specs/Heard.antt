-- What a server is asked for nbdinfo, what it told, and what is printed of that.
use Rattle.std.specs.Prelude.{◌≡◌, ◌⊎◌, ◌∷◌, ℕ, Bool, true, false, List, [], Option, Some, None, Result, Ok, Err, bytes_eq}
use Rattle.lnbd_model.specs.declared.export.ExportInfo.{ExportInfo}
use Rattle.lnbd_model.specs.declared.export.Extent.{Extent}
use Rattle.lnbd_model.specs.declared.fault.NoMemory.{NoMemory}
use Rattle.lnbd_model.specs.declared.target.Place.{Place}
use Rattle.lnbd_args.specs.declared.asked.What.{What}
use Rattle.lnbd_args.specs.declared.asked.What.TheVariants as what
use Rattle.lnbd_info.specs.declared.told.Entry.{Entry}
use Rattle.lnbd_info.specs.declared.told.Found.{Found}
use Rattle.lnbd_info.specs.Listing.{entry_of, listing_text, size_text}
use Rattle.lnbd_info.specs.ListingJson.{listing_json}
use Rattle.lnbd_info.specs.Map.{IsTotalsText, map_text}
use Rattle.lnbd_info.specs.MapJson.{IsTotalsJson, map_json}
use Rattle.lnbd_info.specs.Predicates.{is_true_of}
use Rattle.lnbd_link.specs.Call.{Call}
use Rattle.lnbd_ask.specs.Asks.{Collected, base_allocation}
use Rattle.lnbd_ask.specs.Lists.{HasListed}
use Rattle.lnbd_ask.specs.Maps.{Mapped}
use Rattle.lnbd_ask.specs.Quiet.{Passes}
use Rattle.lnbd_ask.specs.declared.fault.InfoFault.{InfoFault}
use Rattle.lnbd_ask.specs.declared.fault.InfoFault.TheVariants as info
use Rattle.lnbd_cli.specs.declared.ending.Fault.{Fault}
use Rattle.lnbd_cli.specs.declared.ending.Fault.TheVariants as fault
use Rattle.lnbd_cli.specs.declared.ending.Ruling.TheVariants as ruling
use Rattle.lnbd_cli.specs.Ends.{is_one_of}
use Rattle.lnbd_cli.specs.declared.hearing.News.{News}

-- The texts.

-- of one export; none where only a question is asked. Lists and maps have texts of their own.
abbrev pub export_text : What → Bool → Found → List ℕ
export_text what.Listing false found = listing_text true (entry_of found ∷ [])
export_text what.Listing true found = listing_json true (entry_of found ∷ [])
export_text what.Size json found = size_text found.info
export_text (what.Test predicate) json found = []
export_text what.List json found = []
export_text (what.Map context) json found = []
export_text (what.Totals context) json found = []

abbrev pub exports_text : (json : Bool) → List Entry → List ℕ
exports_text false entries = listing_text false entries
exports_text true entries = listing_json false entries

-- The flags of this context have words.
abbrev pub is_allocation : (context : List ℕ) → Bool
is_allocation context = bytes_eq context base_allocation

abbrev pub extents_text : (json allocation : Bool) → List Extent → List ℕ
extents_text false allocation map = map_text allocation map
extents_text true allocation map = map_json allocation map

abbrev pub IsSumsText : (json allocation : Bool) → List Extent → List ℕ → Type 0
IsSumsText false allocation map text = IsTotalsText allocation map text
IsSumsText true allocation map text = IsTotalsJson allocation map text

-- the text of a map in this context, or of its sums
abbrev pub IsMapText : (sums json : Bool) → (context : List ℕ) → List Extent → List ℕ → Type 0
IsMapText false json context map text = text ≡ extents_text json (is_allocation context) map
IsMapText true json context map text = IsSumsText json (is_allocation context) map text

-- How a run ends once its text is printed: whether what was asked is true, or the code by which an export was refused.

-- whether it is true, where that is asked
abbrev pub is_so : What → Found → Bool
is_so (what.Test predicate) found = is_true_of predicate found.info
is_so what.Listing found = true
is_so what.Size found = true
is_so what.List found = true
is_so (what.Map context) found = true
is_so (what.Totals context) found = true

abbrev pub end_with : Result ExportInfo ℕ → Result Bool ℕ → Result Bool ℕ
end_with (Ok told) rest = rest
end_with (Err code) rest = Err code

-- the first export that was refused decides
abbrev pub end_of_entries : List Entry → Result Bool ℕ
end_of_entries [] = Ok true
end_of_entries (entry ∷ others) = end_with entry.told (end_of_entries others)

-- The server was asked by these calls, and this text tells its answer.

pub record SaysExport (what : What) (json : Bool) (place : Place) (told told' : Option (List Call)) (text : List ℕ) (end : Result Bool ℕ) : Type 0 where
  pub found : Found
  pub collected : Collected Passes place told told' (Ok found)
  pub is : text ≡ export_text what json found
  pub ends : end ≡ Ok (is_so what found)

pub record SaysList (json : Bool) (place : Place) (told told' : Option (List Call)) (text : List ℕ) (end : Result Bool ℕ) : Type 0 where
  pub entries : List Entry
  pub listed : HasListed Passes place told told' (Ok entries)
  pub is : text ≡ exports_text json entries
  pub ends : end ≡ end_of_entries entries

pub record SaysMap (sums json : Bool) (context : List ℕ) (place : Place) (told told' : Option (List Call)) (text : List ℕ) (end : Result Bool ℕ) : Type 0 where
  pub map : List Extent
  pub mapped : Mapped place context told told' (Ok map)
  pub is : IsMapText sums json context map text
  pub ends : end ≡ Ok true

abbrev pub Says : What → Bool → Place → (told told' : Option (List Call)) → List ℕ → Result Bool ℕ → Type 0
Says what.Listing json place told told' text end = SaysExport what.Listing json place told told' text end
Says what.Size json place told told' text end = SaysExport what.Size json place told told' text end
Says (what.Test predicate) json place told told' text end = SaysExport (what.Test predicate) json place told told' text end
Says what.List json place told told' text end = SaysList json place told told' text end
Says (what.Map context) json place told told' text end = SaysMap false json context place told told' text end
Says (what.Totals context) json place told told' text end = SaysMap true json context place told told' text end

-- The server was asked by these calls, and this came of it in place of a text.

-- What is told of it. A context that was not agreed is told with its name; of an export and of a list there is none.
abbrev pub IsToldAs : InfoFault → (context : Option (List ℕ)) → Fault → Type 0
IsToldAs (info.Peer option code) context why = why ≡ fault.Told option code
IsToldAs (info.Broke broken) context why = why ≡ fault.Broke broken
IsToldAs (info.Link before after) context why = why ≡ fault.Link
IsToldAs (info.Silent idles) context why = why ≡ fault.Silent
IsToldAs info.NoMemory context why = why ≡ fault.NoMemory
IsToldAs info.NoContext (Some name) why = why ≡ fault.Rule (ruling.NoContext name)
IsToldAs info.NoContext None why = ⊥

abbrev pub FailsExport : Place → (told told' : Option (List Call)) → Fault → Type 0
FailsExport place told told' why = (fault : InfoFault) × Collected Passes place told told' (Err fault) × IsToldAs fault None why

abbrev pub FailsList : Place → (told told' : Option (List Call)) → Fault → Type 0
FailsList place told told' why = (fault : InfoFault) × HasListed Passes place told told' (Err fault) × IsToldAs fault None why

abbrev pub FailsMap : (context : List ℕ) → Place → (told told' : Option (List Call)) → Fault → Type 0
FailsMap context place told told' why = (fault : InfoFault) × Mapped place context told told' (Err fault) × IsToldAs fault (Some context) why

abbrev pub Fails : What → Place → (told told' : Option (List Call)) → Fault → Type 0
Fails what.Listing place told told' why = FailsExport place told told' why
Fails what.Size place told told' why = FailsExport place told told' why
Fails (what.Test predicate) place told told' why = FailsExport place told told' why
Fails what.List place told told' why = FailsList place told told' why
Fails (what.Map context) place told told' why = FailsMap context place told told' why
Fails (what.Totals context) place told told' why = FailsMap context place told told' why

-- The server was asked by these calls, whatever it answered.
abbrev pub WasAsked : What → Place → (told told' : Option (List Call)) → Type 0
WasAsked what.Listing place told told' = (answer : Result Found InfoFault) × Collected Passes place told told' answer
WasAsked what.Size place told told' = (answer : Result Found InfoFault) × Collected Passes place told told' answer
WasAsked (what.Test predicate) place told told' = (answer : Result Found InfoFault) × Collected Passes place told told' answer
WasAsked what.List place told told' = (answer : Result (List Entry) InfoFault) × HasListed Passes place told told' answer
WasAsked (what.Map context) place told told' = (answer : Result (List Extent) InfoFault) × Mapped place context told told' answer
WasAsked (what.Totals context) place told told' = (answer : Result (List Extent) InfoFault) × Mapped place context told told' answer

-- Why there is no text: this came of the asking, or memory ran out for it.
abbrev pub Unheard : What → Place → (told told' : Option (List Call)) → Fault → Type 0
Unheard what place told told' why = Fails what place told told' why ⊎ ((why ≡ fault.NoMemory) × WasAsked what place told told')

-- what was heard, unless memory ran out for its text
abbrev pub heard : Result News NoMemory → Result News Fault
heard (Ok news) = Ok news
heard (Err short) = Err fault.NoMemory

-- the statuses of what comes of the asking in place of a text
abbrev pub is_heard : (status : ℕ) → Bool
is_heard status = is_one_of (3 ∷ 4 ∷ 5 ∷ 6 ∷ 7 ∷ 9 ∷ []) status
