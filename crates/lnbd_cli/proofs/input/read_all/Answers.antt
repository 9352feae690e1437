use Rattle.std.proofs.Common.{◌∙◌, arith}
use Rattle.std.proofs.lemmas.List.{length-take}
use Rattle.lnbd_cli.proofs.InputLemmas.{at_most, ended, full, kept}
use Rattle.lnbd_cli.proofs.input.read_all.Goals as goal

pub returns-then-is_err-clause-most : goal.returns-then-is_err-clause-most
returns-then-is_err-clause-most g c = at_most _ _ _ _ _ _ c.reading.invariant.given c.in-Bytes.ensures.left
    (omega (arith, c.reading-test.true, c.min-room.ensures, c.in-Bytes.ensures.count.1, length-take c.min-room.result c.reading.buffer, length-take c.in-Bytes.n c.read.new.into))

pub returns-in-End-clause-came : goal.returns-in-End-clause-came
returns-in-End-clause-came g c all is = (ended _ _ _ 16777217 c.reading.invariant.given (omega (arith, c.reading.invariant.fits)) (c.in-End.ensures.end tt) all is).0

pub returns-in-End-clause-left : goal.returns-in-End-clause-left
returns-in-End-clause-left g c all is = kept _ _ c.in-End.ensures.left ∙ (ended _ _ _ 16777217 c.reading.invariant.given (omega (arith, c.reading.invariant.fits)) (c.in-End.ensures.end tt) all is).1

pub returns-clause-came : goal.returns-clause-came
returns-clause-came g c all is = (full _ _ _ 16777217 c.reading.invariant.given (omega (arith, c.reading.invariant.fits, c.reading-test.false, c.len.ensures)) all is).0

pub returns-clause-left : goal.returns-clause-left
returns-clause-left g c all is = (full _ _ _ 16777217 c.reading.invariant.given (omega (arith, c.reading.invariant.fits, c.reading-test.false, c.len.ensures)) all is).1
