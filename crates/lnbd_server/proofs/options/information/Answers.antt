use Rattle.lnbd_server.proofs.Puts.{informed_as}
use Rattle.lnbd_server.proofs.options.information.Goals as goal

pub returns : goal.returns
returns c = informed_as c.args.option c.args.replies c.args.export.now c.args.wants_name c.args.wants_description _ _ _ _ _ _ _ _ _ _ c.new-bytes.ensures.items c.in_ok-push_size.ensures c.in_ok-push_text.ensures c.in_ok-push_text-2.ensures
    c.in_ok-push_blocks.ensures c.in_ok-push_reply.ensures c.size.ensures.size c.flags_of.ensures c.name.ensures c.description.ensures
