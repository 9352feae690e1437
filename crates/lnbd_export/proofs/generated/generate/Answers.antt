use Rattle.lnbd_export.specs.Spans.{is_told_by}
use Rattle.lnbd_export.proofs.Made.{made}
use Rattle.lnbd_export.proofs.generated.generate.Goals as goal

pub returns : goal.returns
returns c = made c.args.name c.empty-description.result c.args.seed c.args.size c.args.read_only c.in_ok-content.content.items (is_told_by c.in_ok-zeros.zeros.spans.items) c.telling.result
    c.in_ok-content.ensures.length c.in_ok-content.ensures.bytes c.in_ok-zeros.ensures c.empty-description.ensures c.telling.ensures
