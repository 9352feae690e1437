-- Laws of what is kept of a command that is answered by chunks.
use Rattle.std.specs.Prelude.{◌≡◌, ℕ, ◌≤◌, Bool, true, false, List, [], ◌∷◌, length, replicate, Option, Some, None, if◌then◌else◌}
use Rattle.lnbd_chunks.specs.Chunk.{Waiting, Head, form_of, is_done, shows_chunk}
use Rattle.lnbd_chunks.specs.Laws.{breach_of}
use Rattle.lnbd_model.specs.Kind.{is_read}
use Rattle.lnbd_model.specs.declared.breach.Breach.{Breach}
use Rattle.lnbd_model.specs.declared.export.Context.{Context as MetaContext}
use Rattle.lnbd_model.specs.declared.export.Extent.{Extent}
use Rattle.lnbd_outcome.specs.Facts.{Facts, Same, no_facts, without_payload, telling, closing, facts_with, heard_by, is_bad}
use Rattle.lnbd_outcome.specs.Faults.{context_of}
use Rattle.lnbd_outcome.specs.Hearing.{Hearing, Chunk, extents_heard, read_data, read_hole, read_error}
use Rattle.lnbd_outcome.specs.Outcome.{error_number}
use Rattle.lnbd_outcome.specs.Pieces.{Query, Piece, Framed, is_last}
use Rattle.lnbd_records.specs.Limits.{max_faults}
use Rattle.lnbd_records.specs.Content.{Content, Data, Hole, Status, Error, ErrorAt, Nothing, Bare}
use Rattle.lnbd_structured.specs.Assembly.{Assembled, breach_shown, told_by, content_by, fixed_of, descriptors_of, data_of, effect_by}
use Rattle.lnbd_structured.specs.Steps.{failed}
use Rattle.lnbd_structured.specs.declared.effect.Effect.{Effect}
use Rattle.lnbd_structured.specs.declared.effect.Effect.TheVariants as effect

-- A chunk, then the answer of its callback, and at the last chunk the end: together they are one reply of the command.
abbrev pub StepsAreOneReply : Type 0
StepsAreOneReply = (query : Query) (contexts : List MetaContext) (content : Content) (heard : ℕ) (facts : Facts) →
    (facts_with query contexts (Framed content false) heard facts ≡ failed heard (telling query contexts (Framed content false) 0 facts))
    × (facts_with query contexts (Framed content true) heard facts ≡ closing true query contexts (failed heard (telling query contexts (Framed content true) 0 facts)))

-- The facts where each reply was taken, then the answer of its callback, and after the last one the end. The latest reply stands first.

abbrev pub ended_if : (last : Bool) → Query → List MetaContext → Facts → Facts
ended_if false query contexts facts = facts
ended_if true query contexts facts = closing true query contexts facts

abbrev pub facts_by_steps : Query → List Piece → Facts
facts_by_steps query [] = no_facts
facts_by_steps query (piece ∷ earlier) =
    ended_if (is_last piece.item) query piece.contexts (failed piece.heard (telling query piece.contexts piece.item 0 (facts_by_steps query earlier)))

-- They stand for the whole list of what came: they say what it says of what comes next and of the end.
abbrev pub StandsForItsChunks : Type 0
StandsForItsChunks = (query : Query) (pieces : List Piece) → Same query pieces (facts_by_steps (without_payload query) pieces)

-- Where a chunk shows no breach and isn't the last, its command has no more faults after it than the next one may come after.
abbrev pub FaultsStayFew : Type 0
FaultsStayFew = (command : Assembled) (head : Head) (bytes : List ℕ) (contexts : List MetaContext) (content : Content) →
    breach_shown command head bytes ≡ None → is_done head ≡ false → (told_by command contexts content false).facts.faults ≤ max_faults

-- What is handed in of a whole payload shows the breach that the payload shows.
abbrev pub PartsShowTheBreach : Type 0
PartsShowTheBreach = (extended : Bool) (waiting : Waiting) (head : Head) (payload : List ℕ) → head.length ≤ length payload →
    breach_of extended waiting head (fixed_of (form_of extended head.type) head.length payload) ≡ breach_of extended waiting head payload

-- What a chunk that shows no breach tells is told by what is handed in of its payload.
abbrev pub PartsTellTheChunk : Type 0
PartsTellTheChunk = (extended : Bool) (waiting : Waiting) (head : Head) (payload : List ℕ) (content : Content) →
    shows_chunk (λ (breach : Breach). None) (λ (told : Content). Some told) extended waiting head payload ≡ Some (Some content) →
    content ≡ content_by (form_of extended head.type) (fixed_of (form_of extended head.type) head.length payload)
    (descriptors_of (form_of extended head.type) head.length payload) (data_of head.length payload)

abbrev pub descriptors_told : Content → List Extent
descriptors_told (Data offset bytes) = []
descriptors_told (Hole offset size) = []
descriptors_told (Status id descriptors) = descriptors
descriptors_told (Error number) = []
descriptors_told (ErrorAt number offset) = []
descriptors_told Nothing = []
descriptors_told Bare = []

abbrev pub data_told : Content → List ℕ
data_told (Data offset bytes) = bytes
data_told (Hole offset size) = []
data_told (Status id descriptors) = []
data_told (Error number) = []
data_told (ErrorAt number offset) = []
data_told Nothing = []
data_told Bare = []

-- What a callback hears by what a chunk asks for, with the chunk's data and its descriptors, where the command's error so far is this.
abbrev pub heard_so : Query → List MetaContext → (error : ℕ) → (bytes : List ℕ) → List Extent → Effect → Option Hearing
heard_so query contexts error bytes entries (effect.Place offset size) = Some (Chunk bytes offset read_data error)
heard_so query contexts error bytes entries (effect.Hole offset size) = Some (Chunk (replicate size 0) offset read_hole error)
heard_so query contexts error bytes entries (effect.Told id) = extents_heard (context_of id contexts) query.offset entries error
heard_so query contexts error bytes entries (effect.Error (Some offset) told) = if is_read query.kind then Some (Chunk [] offset read_error told) else None
heard_so query contexts error bytes entries (effect.Error None told) = None
heard_so query contexts error bytes entries effect.Nothing = None

abbrev pub EffectsAreHeard : Type 0
EffectsAreHeard = (query : Query) (contexts : List MetaContext) (facts : Facts) (content : Content) (last : Bool) →
    heard_by query facts contexts (Framed content last)
    ≡ heard_so query contexts (error_number facts.failure) (data_told content) (descriptors_told content) (effect_by (is_bad query contexts facts content) content)
