use Rattle.lnbd_serve.proofs.CalmLemmas.{counts_none, counts_on}
use Rattle.lnbd_serve.proofs.TurnLemmas.{flushing_none, flushing_on, flushed_full, flushed_all, flushing_breaks}
use Rattle.lnbd_serve.proofs.guest.Guest.flush.Goals as goal

pub writing-init : goal.writing-init
writing-init g c = record { went = flushing_none _ c.args.self.now; counts = counts_none _ _ }

pub writing-preserved : goal.writing-preserved
writing-preserved g c = record {
  went = flushing_on _ _ _ c.writing.moved c.in-Ok-true.field-0 c.args.self.now c.writing.self _ c.requires (c.is_waiting.ensures.yes c.writing-test.true) c.in-Ok-true.field-0-test c.writing.invariant.went c.in-Ok-true.ensures.ok;
  counts = counts_on _ _ _ _ _ _ _ c.writing.invariant.counts c.in-Ok-true.ensures.counts;
}

pub returns-in-Ok-false-clause-ok : goal.returns-in-Ok-false-clause-ok
returns-in-Ok-false-clause-ok g c =
    flushed_full _ _ _ c.writing.moved c.in-Ok-false.field-0 c.args.self.now c.writing.self _ c.requires (c.is_waiting.ensures.yes c.writing-test.true) c.in-Ok-false.field-0-test c.writing.invariant.went c.in-Ok-false.ensures.ok

pub returns-in-Err-clause-err : goal.returns-in-Err-clause-err
returns-in-Err-clause-err g c = flushing_breaks _ _ _ c.writing.moved c.args.self.now c.writing.self _ c.in-Err.why c.writing.invariant.went c.in-Err.ensures.err

pub returns-clause-ok : goal.returns-clause-ok
returns-clause-ok g c = flushed_all _ _ c.writing.moved c.args.self.now c.writing.self (c.is_waiting.ensures.no c.writing-test.false) c.writing.invariant.went
