-- Worked examples: a small export, what requests do to it, and what their replies tell.
use Rattle.std.proofs.Common.{◌≡◌, ℕ, true, false, [], ◌∷◌, Some, refl}
use Rattle.lnbd_model.specs.declared.export.Extent.{Extent}
use Rattle.lnbd_model.specs.declared.kind.Kind.{Kind}
use Rattle.lnbd_model.specs.declared.kind.Kind.TheVariants.{Read, Write, Trim, BlockStatus}
use Rattle.lnbd_export.specs.declared.request.Agreed.{Agreed}
use Rattle.lnbd_export.specs.declared.request.Replies.TheVariants.{Structured}
use Rattle.lnbd_export.specs.declared.request.Request.{Request}
use Rattle.lnbd_export.specs.Export.{Export}
use Rattle.lnbd_export.specs.Requests.{Refused, Content, Status, effect, reply}

abbrev disk : Export
disk = record { name = []; description = []; bytes = 1 ∷ 2 ∷ 3 ∷ 4 ∷ []; zeros = false ∷ false ∷ false ∷ false ∷ []; read_only = false }

abbrev terms : Agreed
terms = record { replies = Structured; allocation = true }

abbrev asks : Kind → (offset n : ℕ) → Request
asks kind offset n = record { kind = Some kind; flags = 0; cookie = 7; offset = offset; length = n }

abbrev extent : (n flags : ℕ) → Extent
extent n flags = record { length = n; flags = flags }

-- A TRIM zeroes its range, which is then told as zero.
abbrev trimmed : Export
trimmed = effect terms (asks Trim 1 2) [] disk

a_trim : trimmed ≡ record { name = []; description = []; bytes = 1 ∷ 0 ∷ 0 ∷ 4 ∷ []; zeros = false ∷ true ∷ true ∷ false ∷ []; read_only = false }
a_trim = refl

its_status : reply terms trimmed (asks BlockStatus 0 4) ≡ Status (extent 1 0 ∷ extent 2 3 ∷ extent 1 0 ∷ [])
its_status = refl

-- A write puts its bytes, zeros too, and they are no longer told as zero.
a_write : effect terms (asks Write 2 2) (0 ∷ 9 ∷ []) trimmed ≡ record { name = []; description = []; bytes = 1 ∷ 0 ∷ 0 ∷ 9 ∷ []; zeros = false ∷ true ∷ false ∷ false ∷ []; read_only = false }
a_write = refl

-- A read tells what is there then; one byte too far is EINVAL, for a write ENOSPC, and neither changes anything.
a_read : reply terms trimmed (asks Read 2 2) ≡ Content (0 ∷ 4 ∷ [])
a_read = refl

a_read_too_far : reply terms trimmed (asks Read 2 3) ≡ Refused 22
a_read_too_far = refl

a_write_too_far : reply terms trimmed (asks Write 3 2) ≡ Refused 28
a_write_too_far = refl

it_changes_nothing : effect terms (asks Write 3 2) (5 ∷ 5 ∷ []) trimmed ≡ trimmed
it_changes_nothing = refl
