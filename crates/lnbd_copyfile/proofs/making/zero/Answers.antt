use Rattle.std.proofs.Common.{replicate, arith}
use Rattle.lnbd_touched.specs.Parts.{Puts}
use Rattle.lnbd_touched.proofs.TouchLemmas.{touches_none, touches_weaker}
use Rattle.lnbd_copyfile.specs.Making.{MakesInside, zero_at}
use Rattle.lnbd_copyfile.proofs.ChangeLemmas.{empty_zero, zeros_make}
use Rattle.lnbd_copyfile.proofs.making.zero.Goals as goal
use Rattle.lnbd_copyfile.specs.declared.fault.Stop.TheVariants as stop
use Rattle.lnbd_copyfile.specs.OneFile.{BreaksWriting, Write_lacks_memory, Writes}
use Rattle.lnbd_touched.proofs.GrownLemmas.{grew_none}
use Rattle.std.proofs.Common.{refl}

pub returns-then-size-eq0-clause-makes : goal.returns-then-size-eq0-clause-makes
returns-then-size-eq0-clause-makes g c = λ flags. touches_none c.args.file (MakesInside (zero_at c.args.offset c.args.size flags)) _ (λ x. empty_zero c.args.offset c.args.size flags x c.if-size-eq0.true)

pub returns-in-Ok-put_zeros-clause-makes : goal.returns-in-Ok-put_zeros-clause-makes
returns-in-Ok-put_zeros-clause-makes g c =
    λ flags. touches_weaker c.args.file (Puts c.args.offset (replicate c.args.size 0)) (MakesInside (zero_at c.args.offset c.args.size flags)) _ _
    (λ x y p. zeros_make c.args.offset c.args.size flags x y (let n = c.if-size-eq0.false in omega (arith, n)) p) c.in-Ok-put_zeros.ensures.puts

pub returns-then-size-eq0-clause-writes : goal.returns-then-size-eq0-clause-writes
returns-then-size-eq0-clause-writes g c = grew_none _ (Writes c.args.file) tt

pub returns-then-not-is_low-clause-breaks : goal.returns-then-not-is_low-clause-breaks
returns-then-not-is_low-clause-breaks g c = grew_none _ (BreaksWriting c.args.file stop.NoMemory) (Write_lacks_memory tt refl)

pub returns-in-Err-clause-breaks : goal.returns-in-Err-clause-breaks
returns-in-Err-clause-breaks g c = grew_none _ (BreaksWriting c.args.file stop.NoMemory) (Write_lacks_memory tt refl)
