-- What a call on a callback keeps.
use Rattle.std.specs.Prelude.{◌≡◌, ℕ, List, [], ◌∷◌, ◌++◌, length}
use Rattle.lnbd_model.specs.declared.export.Extent.{Extent}
use Rattle.lnbd_callbacks.specs.Calls.{Call, Chunk, Extents, Complete, Free}
use Rattle.lnbd_callbacks.specs.declared.caller.Heard.{Heard}
use Rattle.lnbd_callbacks.specs.declared.caller.Heard.TheVariants.{Going, Fail}
use Rattle.lnbd_callbacks.specs.declared.caller.Verdict.TheVariants.{Keep}
use Rattle.lnbd_session.specs.declared.keeping.Keeping.{Keeping}
use Rattle.lnbd_session.specs.declared.keeping.Told.{Told}
use Rattle.lnbd_session.specs.declared.keeping.ToldChunk.{ToldChunk}
use Rattle.lnbd_session.specs.declared.keeping.ToldExtents.{ToldExtents}

-- extents that the command of this cookie was told
abbrev pub told_extents : (cookie : ℕ) → (context : List ℕ) → (offset : ℕ) → List Extent → (error : ℕ) → ToldExtents
told_extents cookie context offset extents error = record { cookie = cookie; context = context; offset = offset; extents = extents; error = error }

-- all that was told stands as before
pub record Same (before after : Told) : Type 0 where
  pub extents : after.extents.items ≡ before.extents.items
  pub chunks : after.chunks.items ≡ before.chunks.items

-- a chunk is kept behind the others, or, where memory runs out, none
abbrev pub KeepsChunk : ToldChunk → Heard → (before after : Told) → Type 0
KeepsChunk chunk Going before after = (after.extents.items ≡ before.extents.items) × (after.chunks.items ≡ before.chunks.items ++ chunk ∷ [])
KeepsChunk chunk (Fail error) before after = Same before after × (error ≡ 12)

-- extents are kept behind the others, or, where memory runs out, none
abbrev pub KeepsExtents : ToldExtents → Heard → (before after : Told) → Type 0
KeepsExtents extents Going before after = (after.extents.items ≡ before.extents.items ++ extents ∷ []) × (after.chunks.items ≡ before.chunks.items)
KeepsExtents extents (Fail error) before after = Same before after × (error ≡ 12)

-- A chunk and extents are kept with their command's cookie; a completion leaves the result with the handle, and keeps nothing here.
abbrev pub Keeps : Told → Call Keeping → Told → Type 0
Keeps before (Chunk callback bytes offset status error heard) after =
    KeepsChunk (record { cookie = callback.cookie; offset = offset; length = length bytes; status = status; error = error }) heard before after
Keeps before (Extents callback context offset entries error heard) after =
    KeepsExtents (told_extents callback.cookie context offset entries error) heard before after
Keeps before (Complete callback error buf verdict) after = Same before after × (verdict ≡ Keep error buf)
Keeps before (Free callback) after = Same before after
