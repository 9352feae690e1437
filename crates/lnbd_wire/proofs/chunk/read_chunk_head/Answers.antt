use Rattle.std.proofs.Common.{List, [], ◌∷◌, arith, subst}
use Rattle.lnbd_records.specs.Numbers.{Field, Begins, IsRow}
use Rattle.lnbd_records.specs.Transmission.{structured_reply_magic}
use Rattle.lnbd_records.proofs.NumberLaws.{read_begins, first_of}
use Rattle.lnbd_wire.specs.Heads.{chunk_fields}
use Rattle.lnbd_wire.proofs.Readings.{exactly, chunk_head, without_offset}
use Rattle.lnbd_wire.proofs.chunk.read_chunk_head.Goals as goal

pub returns-in-NeedMore : goal.returns-in-NeedMore
returns-in-NeedMore c = exactly chunk_fields structured_reply_magic 20 _ chunk_head c.args.bytes.now _ c.in-NeedMore.ensures

pub returns-in-BadMagic : goal.returns-in-BadMagic
returns-in-BadMagic c = exactly chunk_fields structured_reply_magic 20 _ chunk_head c.args.bytes.now _ c.in-BadMagic.ensures

pub returns-in-Value : goal.returns-in-Value
returns-in-Value c =
    let s = c.in-Value.ensures in
    let P : List Field → Type 0 = λ fs. Begins (IsRow fs) c.args.bytes.now in
    let there = read_begins (4 ∷ 2 ∷ 2 ∷ 8 ∷ 4 ∷ []) c.args.bytes.now (λ i. omega (arith, c.type_inv.bytes i)) s.there in
    let magic = (first_of 4 structured_reply_magic [] c.args.bytes.now s.magic_there).1 in
    exactly chunk_fields structured_reply_magic 20 _ chunk_head c.args.bytes.now _ (subst P (without_offset c.args.bytes.now 4 _ _ _ _ _ magic s.flags s.kind s.cookie c.u32_at-length.ensures) there)
