use Rattle.lnbd_link.proofs.KeptLemmas.{calls_of-append}
use Rattle.lnbd_link.proofs.log.add.Goals as goal

pub returns-clause-calls : goal.returns-clause-calls
returns-clause-calls c =
    rw (c.in_default.ensures.items, c.in_default-extend_from_slice.ensures.items, c.in_default-extend_from_slice-2.ensures.items)
    (calls_of-append c.args.kept.now.items c.args.call c.args.bytes.now.items c.args.moved.now c.args.wants.now.items c.args.wanted.now c.requires.bytes_are c.requires.wants_are c.requires.moved c.requires.wanted)
