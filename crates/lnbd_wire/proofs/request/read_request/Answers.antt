use Rattle.std.proofs.Common.{List, [], ◌∷◌, arith, subst}
use Rattle.lnbd_records.specs.Numbers.{Field, Begins, IsRow}
use Rattle.lnbd_records.specs.Transmission.{request_magic}
use Rattle.lnbd_records.proofs.NumberLaws.{read_begins, first_of}
use Rattle.lnbd_wire.specs.Heads.{request_fields}
use Rattle.lnbd_wire.proofs.Readings.{exactly, request_head, with_offset}
use Rattle.lnbd_wire.proofs.request.read_request.Goals as goal

pub returns-in-NeedMore : goal.returns-in-NeedMore
returns-in-NeedMore c = exactly request_fields request_magic 28 _ request_head c.args.bytes.now _ c.in-NeedMore.ensures

pub returns-in-BadMagic : goal.returns-in-BadMagic
returns-in-BadMagic c = exactly request_fields request_magic 28 _ request_head c.args.bytes.now _ c.in-BadMagic.ensures

pub returns-in-Value : goal.returns-in-Value
returns-in-Value c =
    let s = c.in-Value.ensures in
    let P : List Field → Type 0 = λ fs. Begins (IsRow fs) c.args.bytes.now in
    let there = read_begins (4 ∷ 2 ∷ 2 ∷ 8 ∷ 8 ∷ 4 ∷ []) c.args.bytes.now (λ i. omega (arith, c.type_inv.bytes i)) s.there in
    let magic = (first_of 4 request_magic [] c.args.bytes.now s.magic_there).1 in
    exactly request_fields request_magic 28 _ request_head c.args.bytes.now _ (subst P (with_offset c.args.bytes.now 4 _ _ _ _ _ _ magic s.flags s.kind s.cookie c.u64_at-offset.ensures c.u32_at-length.ensures) there)
