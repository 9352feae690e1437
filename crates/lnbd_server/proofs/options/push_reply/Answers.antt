use Rattle.std.proofs.Common.{refl}
use Rattle.lnbd_server.proofs.Puts.{pushed}
use Rattle.lnbd_server.proofs.options.push_reply.Goals as goal

pub returns : goal.returns
returns c = pushed _ _ _ _ c.args.option c.args.kind _ c.args.first.now c.args.second.now c.in_ok-push_head.ensures c.in_ok-extend_from_slice.ensures.items c.in_ok-extend_from_slice-2.ensures.items refl
