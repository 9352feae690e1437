use Rattle.std.proofs.Common.{◌∙◌, length, sym}
use Rattle.lnbd_board.specs.Pieces.{write_at}
use Rattle.lnbd_touched.specs.Parts.{Puts}
use Rattle.lnbd_touched.proofs.TouchLemmas.{touches_none, touches_weaker}
use Rattle.lnbd_copyfile.specs.Making.{MakesInside}
use Rattle.lnbd_copyfile.proofs.ChangeLemmas.{empty_write, none_is, some_is, writes_make}
use Rattle.lnbd_copyfile.proofs.making.write.Goals as goal
use Rattle.lnbd_copyfile.specs.declared.fault.Stop.TheVariants as stop
use Rattle.lnbd_copyfile.specs.OneFile.{BreaksWriting, Write_lacks_memory, Writes}
use Rattle.lnbd_touched.proofs.GrownLemmas.{grew_none}
use Rattle.std.proofs.Common.{refl}

pub returns-then-is_empty-clause-makes : goal.returns-then-is_empty-clause-makes
returns-then-is_empty-clause-makes g c =
    let bytes = c.args.bytes.now in
    touches_none c.args.file (MakesInside (write_at c.args.offset bytes)) _ (λ x. empty_write c.args.offset bytes x (none_is (length bytes) (sym c.is_empty.ensures ∙ c.if-is_empty.true)))

pub returns-in-Ok-clause-makes : goal.returns-in-Ok-clause-makes
returns-in-Ok-clause-makes g c =
    let bytes = c.args.bytes.now in
    touches_weaker c.args.file (Puts c.args.offset bytes) (MakesInside (write_at c.args.offset bytes)) _ _
    (λ x y p. writes_make c.args.offset bytes x y (some_is (length bytes) (sym c.is_empty.ensures ∙ c.if-is_empty.false)) p) c.in-Ok.ensures.puts

pub returns-then-is_empty-clause-writes : goal.returns-then-is_empty-clause-writes
returns-then-is_empty-clause-writes g c = grew_none _ (Writes c.args.file) tt

pub returns-then-not-is_low-clause-breaks : goal.returns-then-not-is_low-clause-breaks
returns-then-not-is_low-clause-breaks g c = grew_none _ (BreaksWriting c.args.file stop.NoMemory) (Write_lacks_memory tt refl)
