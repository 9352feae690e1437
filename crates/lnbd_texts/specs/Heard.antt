-- What callbacks of commands heard, as lines.
use Rattle.std.specs.Prelude.{ℕ, List, [], ◌∷◌, ◌++◌, codes, decimal, flat_map, length}
use Rattle.lnbd_model.specs.declared.export.Extent.{Extent}
use Rattle.lnbd_texts.specs.Runs.{runs_text}
use Rattle.lnbd_texts.specs.Words.{numbers}

-- a piece of a read: its offset, the status of its chunk, the error, and its bytes
abbrev pub chunk_text : (bytes : List ℕ) (offset status error : ℕ) → List ℕ
chunk_text bytes offset status error = codes "chunk " ++ numbers (offset ∷ status ∷ error ∷ []) ++ codes " " ++ runs_text bytes

-- one extent: its length and its flags
abbrev pub extent_text : Extent → List ℕ
extent_text extent = codes " " ++ decimal extent.length ++ codes ":" ++ decimal extent.flags

-- extents of a meta context: its name, the offset and the error, and a word for each
abbrev pub extents_text : (context : List ℕ) (offset : ℕ) (entries : List Extent) (error : ℕ) → List ℕ
extents_text context offset entries error = codes "extents " ++ context ++ codes " " ++ numbers (offset ∷ error ∷ []) ++ flat_map extent_text entries

-- the end of a command: its error, how many bytes it has, and these
abbrev pub complete_text : (error : ℕ) (bytes : List ℕ) → List ℕ
complete_text error bytes = codes "complete " ++ numbers (error ∷ length bytes ∷ []) ++ codes " " ++ runs_text bytes
