use Rattle.std.proofs.Common.{codes}
use Rattle.lnbd_lines.proofs.PartLemmas.{stripped_is, write_at}
use Rattle.lnbd_lines.proofs.commands.pwrite.Goals as goal

pub returns : goal.returns
returns c =
    write_at c.args.text.now c.in-Some.rest.now c.write.result
    (stripped_is (codes "pwrite ") c.args.text.now c.in-Some.rest c.in-Some.ensures.cases) c.write.ensures
