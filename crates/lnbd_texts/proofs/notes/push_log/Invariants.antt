use Rattle.std.proofs.Common.{◌≡◌, ◌++◌, codes, take}
use Rattle.std.specs.Prelude.{flat_map, string_bytes}
use Rattle.lnbd_texts.specs.Notes.{note_text}
use Rattle.lnbd_texts.proofs.notes.push_log.Given as goal

abbrev pub invariant-notes : goal.invariant-notes
invariant-notes l = string_bytes l.text ≡ string_bytes l.fn.text ++ flat_map (λ note. note_text note ++ codes "\n") (take l.note-index l.notes)
