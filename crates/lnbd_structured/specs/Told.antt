-- What a chunk tells, as the code has it.
use Rattle.std.specs.Prelude.{◌≡◌, ◌<◌, ℕ, Bool, true, false, length, Option, Some, None}
use Rattle.lnbd_chunks.specs.Chunk.{Waiting, lies_within}
use Rattle.lnbd_model.specs.Kind.{is_read}
use Rattle.lnbd_records.specs.Limits.{max_faults}
use Rattle.lnbd_records.specs.Content.{Content, Data, Hole, Status, Error, ErrorAt, Nothing, Bare}
use Rattle.lnbd_structured.specs.declared.told.Told.{Told}
use Rattle.lnbd_structured.specs.declared.told.Told.TheVariants as told

abbrev pub error_in : ℕ → Option ℕ → Content
error_in number None = Error number
error_in number (Some offset) = ErrorAt number offset

abbrev pub content_in : Told → Content
content_in (told.Data offset bytes) = Data offset bytes.now
content_in (told.Hole offset size) = Hole offset size
content_in (told.Status context entries) = Status context entries.now
content_in (told.Error number offset) = error_in number offset
content_in told.Nothing = Nothing

-- content of a read lies in what its command asked for
abbrev pub IsInside : Waiting → Content → Type 0
IsInside waiting (Data offset bytes) = (is_read waiting.kind ≡ true) × (lies_within waiting offset (length bytes) ≡ true)
IsInside waiting (Hole offset size) = (is_read waiting.kind ≡ true) × (lies_within waiting offset size ≡ true)
IsInside waiting (Status context entries) = Unit {0}
IsInside waiting (Error number) = Unit {0}
IsInside waiting (ErrorAt number offset) = Unit {0}
IsInside waiting Nothing = Unit {0}
IsInside waiting Bare = Unit {0}

-- A chunk may come for a command in flight: its content lies in what was asked, and only the last may come once as many chunks as may be had faults.
pub record MayCome (known : Waiting) (content : Content) (last : Bool) : Type 0 where
  pub inside : IsInside known content
  pub few : last ≡ false → known.faults < max_faults
