-- The notes of the calls on callbacks. What a callback answered is not told.
use Rattle.std.specs.Prelude.{ℕ, List, [], ◌∷◌, ◌++◌, codes}
use Rattle.lnbd_model.specs.declared.note.Note.{Note}
use Rattle.lnbd_model.specs.declared.note.Note.TheVariants.{Chunk, Extents, Completed, Freed}
use Rattle.lnbd_texts.specs.Words.{lines, numbers}

abbrev pub note_text : Note → List ℕ
note_text (Chunk slot offset size status error heard) = codes "chunk " ++ numbers (slot ∷ offset ∷ size ∷ status ∷ error ∷ [])
note_text (Extents slot context offset count error heard) = codes "extents " ++ numbers (slot ∷ context ∷ offset ∷ count ∷ error ∷ [])
note_text (Completed slot error kept) = codes "completed " ++ numbers (slot ∷ error ∷ [])
note_text (Freed slot) = codes "freed " ++ numbers (slot ∷ [])

abbrev pub log_text : List Note → List ℕ
log_text notes = lines note_text notes
