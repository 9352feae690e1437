use Rattle.std.proofs.Common.{◌∙◌, ◌/◌, length}
use Rattle.lnbd_structured.proofs.PartLemmas.{descriptor_pushed}
use Rattle.lnbd_structured.proofs.descriptors.descriptors_in.Goals as goal

pub loop-index-preserved : goal.loop-index-preserved
loop-index-preserved c =
    descriptor_pushed (length c.args.bytes.now / 8) c.loop-index.index c.args.bytes.now c.loop-index.entries.items c.push.new.self.items c.from-length.result c.from-flags.result c.loop-index-test.true
    c.in_ok-push.ensures.items (c.from-length.ensures ∙ c.u32_at.ensures) (c.from-flags.ensures ∙ c.u32_at-in-loop-index.ensures) c.loop-index.invariant
