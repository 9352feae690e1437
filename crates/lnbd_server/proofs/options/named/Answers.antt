use Rattle.std.proofs.Common.{ℕ, ◌++◌, List, replicate, ap, ◌∙◌}
use Rattle.lnbd_records.specs.Handshake.{export_name_reply, padding}
use Rattle.lnbd_records.specs.Numbers.{row}
use Rattle.lnbd_export.specs.Export.{size}
use Rattle.lnbd_server.specs.declared.stage.Stage.TheVariants.{Serving}
use Rattle.lnbd_server.proofs.Answering.{answer, named_bytes}
use Rattle.lnbd_server.proofs.options.named.Goals as goal

pub returns : goal.returns
returns c = ap (λ (b : List ℕ). answer b c.args.agreed Serving)
    (named_bytes c.size.result c.flags_of.result (replicate (padding c.args.no_zeroes) 0) _ _ _ _ c.new-bytes.ensures.items c.in_ok-push_u64.ensures.ok c.in_ok-push_u16.ensures.ok c.in_ok-push_padding.ensures
    ∙ ap (λ (k : ℕ). row (export_name_reply k c.flags_of.result) ++ replicate (padding c.args.no_zeroes) 0) c.size.ensures.size
    ∙ ap (λ (k : ℕ). row (export_name_reply (size c.args.export.now) k) ++ replicate (padding c.args.no_zeroes) 0) c.flags_of.ensures)
