use Rattle.std.proofs.Common.{refl, false}
use Rattle.lnbd_dump.proofs.LeadLemmas.{leads_none}
use Rattle.lnbd_dump.proofs.filling.part_of.Goals as goal

pub returns-then-run-clause-begins : goal.returns-then-run-clause-begins
returns-then-run-clause-begins c seen at = (seen, at, leads_none false seen, (tt, tt, record { start = refl; begun = (c.if-run.true, refl, refl) }))

pub returns-in-Ok-clause-begins : goal.returns-in-Ok-clause-begins
returns-in-Ok-clause-begins c seen at =
    let a = c.in-Ok.ensures.asks seen at in
    (a.0, a.1, a.2, (tt, tt, record { start = refl; begun = (c.if-run.false, c.min-length.ensures, a.3.2) }))

pub returns-in-Err-clause-begins : goal.returns-in-Err-clause-begins
returns-in-Err-clause-begins c seen at = let a = c.in-Err.ensures.asks seen at in (a.0, a.1, a.2, (a.3.0, a.3.1, tt))
