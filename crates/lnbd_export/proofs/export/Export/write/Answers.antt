use Rattle.std.proofs.Common.{◌≡◌, length, ap, arith, ◌∙◌}
use Rattle.lnbd_extents.specs.Positions.{within}
use Rattle.lnbd_export.specs.Zeros.{told}
use Rattle.lnbd_export.specs.Export.{Export}
use Rattle.lnbd_export.proofs.SpanLaws.{and_before}
use Rattle.lnbd_export.proofs.PutLaws.{seen_written}
use Rattle.lnbd_export.proofs.export.Export.write.Goals as goal

pub returns-clause-ok : goal.returns-clause-ok
returns-clause-ok c =
    let same : length c.self.inside.content.items ≡ length c.args.self.now.bytes = ap (λ (x : Export). length x.bytes) c.self.view_is in
    seen_written c.args.self.now c.args.offset c.args.payload.now c.self.inside.content.items c.paste.new.to.items (told c.self.inside.zeros) (told c.tell.new.self)
    c.self.inside.name c.self.inside.description c.self.inside.read_only c.self.view_is (omega arith) c.paste.ensures (λ p. c.in_ok-tell.ensures.told p ∙ and_before (within (c.args.offset, length c.args.payload.now) p) (told c.self.inside.zeros p))
