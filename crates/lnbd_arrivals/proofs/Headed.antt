-- Heads that `lnbd_wire` read, by the numbers that stand in the bytes.
use Rattle.std.proofs.Common.{◌≡◌, ℕ, true, false, List, [], inl, inr, refl, sym, ◌∙◌, arith}
use Rattle.lnbd_records.specs.Numbers.{IsRow, Begins, number_at}
use Rattle.lnbd_records.specs.Fronts.{IsFront, IsShort, HasOther}
use Rattle.lnbd_records.specs.Transmission.{simple_reply_magic, extended_reply_magic}
use Rattle.lnbd_records.proofs.NumberLaws.{begins_read, first_of}
use Rattle.lnbd_wire.specs.Heads.{chunk_fields, extended_chunk_fields, simple_fields}
use Rattle.lnbd_wire.specs.declared.chunk.ChunkHead.{ChunkHead}
use Rattle.lnbd_wire.specs.declared.extended_chunk.ExtHead.{ExtHead}
use Rattle.lnbd_wire.specs.declared.simple.SimpleHead.{SimpleHead}
use Rattle.lnbd_wire.specs.Heads.{front_of}
use Rattle.lnbd_wire.specs.declared.read.Read.{Read}
use Rattle.lnbd_wire.specs.declared.read.Read.TheVariants.{Value, NeedMore, BadMagic}
use Rattle.lnbd_arrivals.specs.Heads.{IsChunkHead, IsCut, IsHead, IsOther, IsSimple, IsSimpleHead}

pub cut_by : (magic size : ℕ) (bytes : List ℕ) → IsShort 4 magic size bytes → IsCut magic size bytes
cut_by magic size bytes short = elim short [ inl less ↦ inl less | inr begun ↦ let f = first_of 4 magic [] bytes begun.0 in inr (f.0, f.1, begun.1) ]

pub other_by : (magic other : ℕ) (bytes : List ℕ) → HasOther 4 magic other bytes → (other ≡ number_at 0 4 bytes) × IsOther magic bytes
other_by magic other bytes has =
    let f = first_of 4 other [] bytes has.1 in
    (sym f.1, record { there = f.0; differs = λ same. has.0 (sym f.1 ∙ same) })

pub simple_by : (head : SimpleHead) (bytes : List ℕ) → Begins (IsRow (simple_fields head)) bytes → IsSimple bytes head
simple_by head bytes b =
    let r = begins_read (simple_fields head) bytes b in
    let e = r.fields in
    record { there = omega (arith, r.long); magic = cc; error = cc; cookie = cc }

pub extended_by : (head : ExtHead) (bytes : List ℕ) → Begins (IsRow (extended_chunk_fields head)) bytes → IsHead true bytes head
extended_by head bytes b =
    let r = begins_read (extended_chunk_fields head) bytes b in
    let e = r.fields in
    let flags : number_at 4 2 bytes ≡ head.flags = cc in
    let kind : number_at 6 2 bytes ≡ head.kind = cc in
    let size : number_at 24 8 bytes ≡ head.length = cc in
    record { there = omega (arith, r.long); magic = cc; says = rw (flags, kind, size) refl; cookie = cc }

pub compact_by : (head : ChunkHead) (bytes : List ℕ) → Begins (IsRow (chunk_fields head)) bytes → IsHead false bytes (record { flags = head.flags; kind = head.kind; cookie = head.cookie; offset = 0; length = head.length })
compact_by head bytes b =
    let r = begins_read (chunk_fields head) bytes b in
    let e = r.fields in
    let flags : number_at 4 2 bytes ≡ head.flags = cc in
    let kind : number_at 6 2 bytes ≡ head.kind = cc in
    let size : number_at 16 4 bytes ≡ head.length = cc in
    record { there = omega (arith, r.long); magic = cc; says = rw (flags, kind, size) refl; cookie = cc }

pub simple_read : (read : Read SimpleHead) (bytes : List ℕ) → IsFront simple_fields 4 simple_reply_magic 16 bytes (front_of read) → IsSimpleHead bytes read
simple_read (Value head) bytes front = simple_by head bytes front
simple_read NeedMore bytes front = cut_by simple_reply_magic 16 bytes front
simple_read (BadMagic other) bytes front = (other_by simple_reply_magic other bytes front).1

pub extended_read : (read : Read ExtHead) (bytes : List ℕ) → IsFront extended_chunk_fields 4 extended_reply_magic 32 bytes (front_of read) → IsChunkHead true bytes read
extended_read (Value head) bytes front = extended_by head bytes front
extended_read NeedMore bytes front = cut_by extended_reply_magic 32 bytes front
extended_read (BadMagic other) bytes front = other_by extended_reply_magic other bytes front
