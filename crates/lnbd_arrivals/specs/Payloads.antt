-- What the whole payload of a chunk tells.
use Rattle.std.specs.Prelude.{◌≡◌, ℕ, ◌-◌, ◌/◌, true, List, [], length, take, drop}
use Rattle.lnbd_chunks.specs.Chunk.{form_of, fits_length, descriptors_in, extended_descriptors_in}
use Rattle.lnbd_chunks.specs.declared.form.Form.{Form}
use Rattle.lnbd_chunks.specs.declared.form.Form.TheVariants.{Empty, Data, Hole, Status, ExtendedStatus, Error, ErrorAt, OtherError, Unknown}
use Rattle.lnbd_model.specs.declared.export.Extent.{Extent}
use Rattle.lnbd_records.specs.Content.{Content}
use Rattle.lnbd_records.specs.Content as content
use Rattle.lnbd_records.specs.Numbers.{number_at}
use Rattle.lnbd_arrivals.specs.Heads.{head_size}
use Rattle.lnbd_arrivals.specs.declared.chunk.Chunk.{Chunk}

-- the descriptors of a block status, behind its meta context, and with extended headers behind their count
abbrev pub entries_of : Form → List ℕ → List Extent
entries_of Empty payload = []
entries_of Data payload = []
entries_of Hole payload = []
entries_of Status payload = descriptors_in ((length payload - 4) / 8) (drop 4 payload)
entries_of ExtendedStatus payload = extended_descriptors_in ((length payload - 8) / 16) (drop 8 payload)
entries_of Error payload = []
entries_of ErrorAt payload = []
entries_of OtherError payload = []
entries_of Unknown payload = []

-- what a payload of this form tells; the offset of an error ends it
abbrev pub told_by : Form → List ℕ → Content
told_by Empty payload = content.Nothing
told_by Data payload = content.Data (number_at 0 8 payload) (drop 8 payload)
told_by Hole payload = content.Hole (number_at 0 8 payload) (number_at 8 4 payload)
told_by Status payload = content.Status (number_at 0 4 payload) (entries_of Status payload)
told_by ExtendedStatus payload = content.Status (number_at 0 4 payload) (entries_of ExtendedStatus payload)
told_by Error payload = content.Error (number_at 0 4 payload)
told_by ErrorAt payload = content.ErrorAt (number_at 0 4 payload) (number_at (length payload - 8) 8 payload)
told_by OtherError payload = content.Error (number_at 0 4 payload)
told_by Unknown payload = content.Nothing

-- Of a chunk.

abbrev pub form_in : Chunk → Form
form_in chunk = form_of chunk.extended chunk.head.kind

-- its payload, in the bytes that it begins
abbrev pub payload_in : Chunk → List ℕ → List ℕ
payload_in chunk bytes = take chunk.head.length (drop (head_size chunk.extended) bytes)

abbrev pub told_in : Chunk → List ℕ → Content
told_in chunk payload = told_by (form_in chunk) payload

-- a payload of the length that its head announces and that its form may have
pub record IsPayload (chunk : Chunk) (payload : List ℕ) : Type 0 where
  pub whole : length payload ≡ chunk.head.length
  pub fits : fits_length (form_in chunk) chunk.head.length ≡ true
