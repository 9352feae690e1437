-- Chunks in the form that is agreed, by the pieces in which they are put.
use Rattle.std.proofs.Common.{◌≡◌, ◌≢◌, ℕ, List, [], ◌∷◌, ◌++◌, length, true, false, ◌==◌, refl, ap, sym, ◌∙◌}
use Rattle.lnbd_records.specs.Numbers.{number, row}
use Rattle.lnbd_records.specs.Transmission.{offset_data, error_head, reply_type_offset_data}
use Rattle.lnbd_records.proofs.NumberLaws.{row-one, row-push}
use Rattle.byteorder.specs.Endian.{big_bytes}
use Rattle.lnbd_export.specs.Requests.{is_extended}
use Rattle.lnbd_export.specs.declared.request.Replies.{Replies}
use Rattle.lnbd_export.specs.declared.request.Replies.TheVariants.{Simple, Structured, Extended}
use Rattle.lnbd_export.specs.declared.request.Request.{Request}
use Rattle.lnbd_server.specs.Replies.{Chunk, put_chunk, put_extended, put_framed, content_chunk}

is_structured : (replies : Replies) → replies ≢ Simple → is_extended replies ≡ false → replies ≡ Structured
is_structured Simple other e = absurd (other refl)
is_structured Structured other e = refl
is_structured Extended other e = cc

is_Extended : (replies : Replies) → is_extended replies ≡ true → replies ≡ Extended
is_Extended Simple e = cc
is_Extended Structured e = cc
is_Extended Extended e = refl

pub is_compact : (replies : Replies) (request : Request) (chunk : Chunk) → replies ≢ Simple → is_extended replies ≡ false → put_chunk request.cookie chunk ≡ put_framed replies request chunk
is_compact replies request chunk other short = ap (λ (r : Replies). put_framed r request chunk) (sym (is_structured replies other short))

pub is_long : (replies : Replies) (request : Request) (chunk : Chunk) → is_extended replies ≡ true → put_extended request.cookie request.offset chunk ≡ put_framed replies request chunk
is_long replies request chunk long = ap (λ (r : Replies). put_framed r request chunk) (sym (is_Extended replies long))

pub error_payload : (error : ℕ) (bytes : List ℕ) → bytes ≡ big_bytes 4 error → bytes ++ (0 ∷ 0 ∷ []) ≡ row (error_head error 0)
error_payload error bytes e = ap (λ bs. bs ++ (0 ∷ 0 ∷ [])) (e ∙ sym (row-one 4 error)) ∙ sym (row-push (number 4 error ∷ []) 2 0)

pub offset_payload : (offset : ℕ) (bytes content : List ℕ) → bytes ≡ big_bytes 8 offset → bytes ++ content ≡ row (offset_data offset) ++ content
offset_payload offset bytes content e = ap (λ bs. bs ++ content) (e ∙ sym (row-one 8 offset))

abbrev data_chunk : List ℕ → Chunk
data_chunk payload = record { type = reply_type_offset_data; payload = payload }

-- a read of some bytes has a chunk of data
pub is_data : (offset : ℕ) (bytes content : List ℕ) → (length content == 0) ≡ false → bytes ≡ big_bytes 8 offset → data_chunk (bytes ++ content) ≡ content_chunk offset content
is_data offset bytes [] some e = cc
is_data offset bytes (x ∷ xs) some e = ap (λ (p : List ℕ). data_chunk p) (offset_payload offset bytes (x ∷ xs) e)
