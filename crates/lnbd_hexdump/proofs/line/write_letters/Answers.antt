use Rattle.std.proofs.Common.{◌+◌, arith, ◌∙◌}
use Rattle.std.proofs.lemmas.List.{length-set}
use Rattle.lnbd_hexdump.proofs.LineLemmas.{letters_more}
use Rattle.lnbd_hexdump.proofs.line.write_letters.Goals as goal

pub letters-preserved : goal.letters-preserved
letters-preserved c = record {
  size = length-set c.letters.line (c.args.at + c.letters.i) c.letter.result ∙ c.letters.invariant.size;
  written = letters_more c.args.line.now c.letters.line c.args.group.now c.args.at c.letters.i c.letter.result (omega arith) (omega arith) c.letter.ensures c.letters.invariant.written;
}
