use Rattle.lnbd_touched.specs.Parts.{Puts}
use Rattle.lnbd_touched.proofs.GrownLemmas.{grew_none, rose_none}
use Rattle.lnbd_touched.proofs.TouchLemmas.{touches_none, touches_weaker}
use Rattle.lnbd_copyfile.specs.Calls.{Moves}
use Rattle.lnbd_copyfile.specs.Steps.{Fills}
use Rattle.lnbd_copyfile.proofs.FillLemmas.{puts_fill, zeros_fill}
use Rattle.lnbd_copyfile.proofs.writing.put_piece.Goals as goal

pub returns-then-zero-clause-fills : goal.returns-then-zero-clause-fills
returns-then-zero-clause-fills g c = touches_none c.args.file (Fills c.args.offset c.args.bytes.now) _ (λ x. zeros_fill c.args.offset c.args.bytes.now x (c.requires.zero c.if-zero.true))

pub returns-then-zero-clause-moves : goal.returns-then-zero-clause-moves
returns-then-zero-clause-moves g c = λ cell size from few. grew_none _ (Moves cell size from c.args.file) tt

pub returns-then-zero-clause-taken : goal.returns-then-zero-clause-taken
returns-then-zero-clause-taken g c = rose_none _

pub returns-in-Ok-clause-fills : goal.returns-in-Ok-clause-fills
returns-in-Ok-clause-fills g c =
    touches_weaker c.args.file (Puts c.args.offset c.args.bytes.now) (Fills c.args.offset c.args.bytes.now) _ _ (λ x y p. puts_fill c.args.offset c.args.bytes.now x y p) c.in-Ok.ensures.puts
