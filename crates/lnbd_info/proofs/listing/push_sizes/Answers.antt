use Rattle.std.proofs.Common.{codes}
use Rattle.std.specs.Fmt.{decimal}
use Rattle.lnbd_info.specs.Listing.{line}
use Rattle.lnbd_info.proofs.PushLemmas.{pushed_then}
use Rattle.lnbd_info.proofs.listing.push_sizes.Goals as goal

pub returns : goal.returns
returns c =
    let blocks = c.args.blocks in
    let back = pushed_then c.push_number-3.result _ _ _ (line (codes "block_size_preferred") (decimal blocks.preferred)) (line (codes "block_size_maximum") (decimal blocks.maximum)) c.in_ok-push_number-2.ensures c.push_number-3.ensures in
    pushed_then c.push_number-3.result _ _ _ (line (codes "block_size_minimum") (decimal blocks.minimum)) _ c.in_ok-push_number.ensures back
