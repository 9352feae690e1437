-- What is kept of a command that is answered by chunks, how its next chunk is judged, and what a whole chunk makes of it.
use Rattle.std.specs.Prelude.{ℕ, ◌-◌, ◌/◌, Bool, true, false, not, ◌&&◌, ◌||◌, List, [], length, take, drop, ◌++◌, Option, Some, None, if◌then◌else◌, nat_le}
use Rattle.lnbd_chunks.specs.Chunk.{Waiting, Head, form_of, descriptors_in, extended_descriptors_in}
use Rattle.lnbd_chunks.specs.Laws.{breach_of}
use Rattle.lnbd_chunks.specs.declared.form.Form.{Form}
use Rattle.lnbd_chunks.specs.declared.form.Form.TheVariants.{Empty, Data, Hole, Status, ExtendedStatus, Error, ErrorAt, OtherError, Unknown}
use Rattle.lnbd_extents.specs.Positions.{holds, any_at}
use Rattle.lnbd_model.specs.Errors.{error_of}
use Rattle.lnbd_model.specs.declared.breach.Breach.{Breach}
use Rattle.lnbd_model.specs.declared.export.Context.{Context as MetaContext}
use Rattle.lnbd_model.specs.declared.export.Extent.{Extent}
use Rattle.lnbd_model.specs.declared.kind.Kind.{Kind}
use Rattle.lnbd_outcome.specs.Facts.{Facts, no_facts, is_bad, telling, closing}
use Rattle.lnbd_outcome.specs.Pieces.{Query, Framed, is_whole}
use Rattle.lnbd_records.specs.Content.{Content}
use Rattle.lnbd_records.specs.Content as content
use Rattle.lnbd_records.specs.Numbers.{number_at}
use Rattle.lnbd_structured.specs.declared.effect.Effect.{Effect}
use Rattle.lnbd_structured.specs.declared.effect.Effect.TheVariants as effect
use Rattle.lnbd_structured.specs.declared.effect.Judged.{Judged}
use Rattle.lnbd_structured.specs.declared.effect.Judged.TheVariants as judged
use Rattle.lnbd_wire.specs.declared.extended_chunk.ExtHead.{ExtHead}

-- what was asked, whether extended headers are on, and what is kept in place of all that came
pub record Assembled : Type 0 where
  pub query : Query
  pub extended : Bool
  pub facts : Facts

-- a command to which nothing came
abbrev pub fresh : Kind → (offset length flags : ℕ) → (extended : Bool) → Assembled
fresh kind offset length flags extended = record {
  query = record { kind = kind; flags = flags; offset = offset; length = length; payload = [] };
  extended = extended;
  facts = no_facts;
}

-- Judging.

abbrev pub head_of : ExtHead → Head
head_of head = record { flags = head.flags; type = head.kind; length = head.length }

-- by what its chunks are judged
abbrev pub waiting_of : Assembled → Waiting
waiting_of command = record { kind = command.query.kind; offset = command.query.offset; length = command.query.length; faults = command.facts.faults }

-- the breach that a chunk shows by its head and these bytes behind it, if it shows one
abbrev pub breach_shown : Assembled → Head → List ℕ → Option Breach
breach_shown command head bytes = breach_of command.extended (waiting_of command) head bytes

abbrev pub is_data : Form → Bool
is_data Empty = false
is_data Data = true
is_data Hole = false
is_data Status = false
is_data ExtendedStatus = false
is_data Error = false
is_data ErrorAt = false
is_data OtherError = false
is_data Unknown = false

-- Whether so many bytes of content from this place of the export on are at fault: the second where one chunk has the whole, or over what was told.
abbrev pub clashes : Assembled → (offset length : ℕ) → Bool
clashes command offset length = (is_whole command.query && command.facts.came) || any_at (holds command.facts.told) offset length

-- where the data of a chunk go, whose place is there and which have no fault
abbrev pub place_shown : Assembled → Head → List ℕ → Option (ℕ × ℕ)
place_shown command head bytes =
    if is_data (form_of command.extended head.type) && nat_le 8 (length bytes) && not (clashes command (number_at 0 8 bytes) (head.length - 8))
    then Some (number_at 0 8 bytes, head.length - 8)
    else None

abbrev pub judged_as : Option Breach → Option (ℕ × ℕ) → Judged
judged_as (Some breach) place = judged.Breach breach
judged_as None (Some place) = judged.Place place.0 place.1
judged_as None None = judged.Going

-- Telling.

-- How many bytes of its payload a chunk is told by, beside its data or its descriptors. Of an error with a place these are its front and its place.
abbrev pub fixed_size : Form → ℕ
fixed_size Empty = 0
fixed_size Data = 8
fixed_size Hole = 12
fixed_size Status = 4
fixed_size ExtendedStatus = 8
fixed_size Error = 6
fixed_size ErrorAt = 14
fixed_size OtherError = 6
fixed_size Unknown = 0

-- what a chunk tells by these bytes, these descriptors and these data
abbrev pub content_by : Form → (fixed : List ℕ) → List Extent → (bytes : List ℕ) → Content
content_by Empty fixed entries bytes = content.Nothing
content_by Data fixed entries bytes = content.Data (number_at 0 8 fixed) bytes
content_by Hole fixed entries bytes = content.Hole (number_at 0 8 fixed) (number_at 8 4 fixed)
content_by Status fixed entries bytes = content.Status (number_at 0 4 fixed) entries
content_by ExtendedStatus fixed entries bytes = content.Status (number_at 0 4 fixed) entries
content_by Error fixed entries bytes = content.Error (number_at 0 4 fixed)
content_by ErrorAt fixed entries bytes = content.ErrorAt (number_at 0 4 fixed) (number_at 6 8 fixed)
content_by OtherError fixed entries bytes = content.Error (number_at 0 4 fixed)
content_by Unknown fixed entries bytes = content.Nothing

-- the command with one reply more, before its callback answers
abbrev pub told_by : Assembled → List MetaContext → Content → (last : Bool) → Assembled
told_by command contexts content last = record command { facts = telling command.query contexts (Framed content last) 0 command.facts }

-- what a reply asks for, where it is said whether it is at fault
abbrev pub effect_by : Bool → Content → Effect
effect_by true content = effect.Nothing
effect_by false (content.Data offset bytes) = effect.Place offset (length bytes)
effect_by false (content.Hole offset size) = effect.Hole offset size
effect_by false (content.Status id descriptors) = effect.Told id
effect_by false (content.Error number) = effect.Error None (error_of number)
effect_by false (content.ErrorAt number offset) = effect.Error (Some offset) (error_of number)
effect_by false content.Nothing = effect.Nothing
effect_by false content.Bare = effect.Nothing

abbrev pub effect_of : Assembled → List MetaContext → Content → Effect
effect_of command contexts content = effect_by (is_bad command.query contexts command.facts content) content

-- the command at its end
abbrev pub ended_by : Assembled → List MetaContext → Assembled
ended_by command contexts = record command { facts = closing true command.query contexts command.facts }

-- What of a whole payload of n bytes is handed in.

abbrev pub fixed_of : Form → ℕ → List ℕ → List ℕ
fixed_of Empty n payload = []
fixed_of Data n payload = take 8 payload
fixed_of Hole n payload = take 12 payload
fixed_of Status n payload = take 4 payload
fixed_of ExtendedStatus n payload = take 8 payload
fixed_of Error n payload = take 6 payload
fixed_of ErrorAt n payload = take 6 payload ++ take 8 (drop (n - 8) payload)
fixed_of OtherError n payload = take 6 payload
fixed_of Unknown n payload = []

abbrev pub descriptors_of : Form → ℕ → List ℕ → List Extent
descriptors_of Empty n payload = []
descriptors_of Data n payload = []
descriptors_of Hole n payload = []
descriptors_of Status n payload = descriptors_in ((n - 4) / 8) (drop 4 payload)
descriptors_of ExtendedStatus n payload = extended_descriptors_in ((n - 8) / 16) (drop 8 payload)
descriptors_of Error n payload = []
descriptors_of ErrorAt n payload = []
descriptors_of OtherError n payload = []
descriptors_of Unknown n payload = []

abbrev pub data_of : ℕ → List ℕ → List ℕ
data_of n payload = take (n - 8) (drop 8 payload)
