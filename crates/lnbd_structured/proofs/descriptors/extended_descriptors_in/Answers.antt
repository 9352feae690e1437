use Rattle.std.proofs.Common.{◌/◌, length}
use Rattle.lnbd_structured.proofs.PartLemmas.{extended_descriptor_pushed}
use Rattle.lnbd_structured.proofs.descriptors.extended_descriptors_in.Goals as goal

pub loop-index-preserved : goal.loop-index-preserved
loop-index-preserved c =
    extended_descriptor_pushed (length c.args.bytes.now / 16) c.loop-index.index c.args.bytes.now c.loop-index.entries.items c.push.new.self.items c.u64_at-length.result c.u64_at-flags.result c.loop-index-test.true
    c.in_ok-push.ensures.items (c.u64_at-length.ensures) (c.u64_at-flags.ensures) c.loop-index.invariant
