-- What is kept of a command in place of all that came for it: enough to judge what comes next, and to say at its end what it comes to.
use Rattle.std.specs.Prelude.{◌≡◌, ℕ, ◌+◌, Bool, false, not, ◌&&◌, ◌||◌, List, [], ◌∷◌, Option, None, if◌then◌else◌, ◌==◌}
use Rattle.lnbd_extents.specs.Positions.{holds, any_at, all_at}
use Rattle.lnbd_extents.specs.Ranges.{with_positions}
use Rattle.lnbd_model.specs.Errors.{error_of}
use Rattle.lnbd_model.specs.declared.errors.TheConstants.{EPROTO, ENOTCONN}
use Rattle.lnbd_model.specs.declared.export.Context.{Context as MetaContext}
use Rattle.lnbd_model.specs.declared.failure.Failure.{Failure}
use Rattle.lnbd_model.specs.declared.failure.Origin.TheVariants as from
use Rattle.lnbd_records.specs.Content.{Content, Status}
use Rattle.lnbd_outcome.specs.Pieces.{Query, Item, Framed, Lost, Dropped, Piece, content_of, start_of, size_of, number_of, is_content, is_error, is_last, came}
use Rattle.lnbd_outcome.specs.Faults.{told, context_told, fault_by, faults, has_fault, has_all, is_complete, one_if}
use Rattle.lnbd_outcome.specs.Outcome.{failing, or_else, error_number, failure}
use Rattle.lnbd_outcome.specs.Hearing.{Hearing, content_heard, hearing}

pub record Facts : Type 0 where
  -- the places of the export that were told, as the longest ranges, and the ids of the meta contexts that were
  pub told : List (ℕ × ℕ)
  pub contexts : List ℕ
  -- whether content came
  pub came : Bool
  -- how many replies were errors or had a content fault
  pub faults : ℕ
  -- the first error
  pub failure : Option Failure

-- of a command to which nothing came
abbrev pub no_facts : Facts
no_facts = record { told = []; contexts = []; came = false; faults = 0; failure = None }

-- an id is among these
abbrev pub has : List ℕ → ℕ → Bool
has [] id = false
has (first ∷ ids) id = (first == id) || has ids id

-- what was asked, less the bytes to be written: all that replies are judged by
abbrev pub without_payload : Query → Query
without_payload query = record query { payload = [] }

-- whether a reply has a content fault
abbrev pub is_bad : Query → List MetaContext → Facts → Content → Bool
is_bad query contexts facts content = fault_by query contexts facts.came (any_at (holds facts.told)) (has facts.contexts) content

-- The facts with one item more.

abbrev pub contexts_with : Content → List ℕ → List ℕ
contexts_with (Status id descriptors) contexts = id ∷ contexts
contexts_with other contexts = contexts

-- what an item fails its command with, where it is said whether it has a content fault
abbrev pub failure_told : Bool → Item → Option Failure
failure_told bad (Framed content last) = if bad then failing from.Content EPROTO else failing from.Told (error_of (number_of content))
failure_told bad Lost = failing from.Lost ENOTCONN
failure_told bad Dropped = None

-- An item, of which is said whether it has a content fault, and then the error that the callback answered to it, 0 being none.
abbrev pub telling_as : Bool → Item → (heard : ℕ) → Facts → Facts
telling_as bad item heard facts = record {
  told = if bad then facts.told else with_positions (start_of (content_of item)) (size_of (content_of item)) facts.told;
  contexts = if bad then facts.contexts else contexts_with (content_of item) facts.contexts;
  came = is_content (content_of item) || facts.came;
  faults = facts.faults + one_if (is_error (content_of item) || bad);
  failure = or_else (or_else facts.failure (failure_told bad item)) (failing from.Callback heard);
}

abbrev pub telling : Query → List MetaContext → Item → (heard : ℕ) → Facts → Facts
telling query contexts item heard facts = telling_as (is_bad query contexts facts (content_of item)) item heard facts

-- whether all that was asked was told
abbrev pub is_told : Query → List MetaContext → Facts → Bool
is_told query contexts facts = is_complete query contexts (all_at (holds facts.told)) (has facts.contexts)

-- The facts at the end, where a last frame came: what is lacking then is an error.
abbrev pub closing : Bool → Query → List MetaContext → Facts → Facts
closing last query contexts facts =
    record facts { failure = or_else facts.failure (if last && not (is_told query contexts facts) then failing from.Content EPROTO else None) }

abbrev pub facts_with : Query → List MetaContext → Item → (heard : ℕ) → Facts → Facts
facts_with query contexts item heard facts = closing (is_last item) query contexts (telling query contexts item heard facts)

-- what an item tells the command's callback
abbrev pub heard_by : Query → Facts → List MetaContext → Item → Option Hearing
heard_by query facts contexts (Framed content last) =
    if is_bad query contexts facts content then None else content_heard query contexts (error_number facts.failure) content
heard_by query facts contexts Lost = None
heard_by query facts contexts Dropped = None

-- The facts of all that came, the latest first.
abbrev pub facts_of : Query → List Piece → Facts
facts_of query [] = no_facts
facts_of query (piece ∷ earlier) = facts_with query piece.contexts piece.item piece.heard (facts_of query earlier)

-- They say what all that came says.
pub record Same (query : Query) (pieces : List Piece) (facts : Facts) : Type 0 where
  pub told : (p : ℕ) → holds facts.told p ≡ told query pieces p
  pub contexts : (id : ℕ) → has facts.contexts id ≡ context_told query pieces id
  pub came : facts.came ≡ came pieces
  pub faults : facts.faults ≡ faults query pieces
  pub failure : facts.failure ≡ failure query pieces
  -- what comes next is judged alike, and told to the callback alike
  pub judged : (contexts : List MetaContext) (content : Content) → is_bad (without_payload query) contexts facts content ≡ has_fault query pieces contexts content
  pub heard : (contexts : List MetaContext) (item : Item) → heard_by (without_payload query) facts contexts item ≡ hearing query pieces contexts item
  pub complete : (contexts : List MetaContext) → is_told (without_payload query) contexts facts ≡ has_all query contexts pieces
