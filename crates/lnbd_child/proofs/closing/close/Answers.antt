use Rattle.std.proofs.Common.{arith, ◌≡◌, ℕ, true, Result, sym, subst, ◌∙◌}
use Rattle.std.specs.Prelude.{IfErr}
use Rattle.lnbd_link.specs.Count.{Rises}
use Rattle.lnbd_child.specs.declared.fault.RunFault.{RunFault}
use Rattle.lnbd_child.specs.Causes.{Because, Ends, Never, Rose}
use Rattle.lnbd_child.specs.Serving.{is_done}
use Rattle.lnbd_child.proofs.CauseLemmas.{answered_because, answered_done}
use Rattle.lnbd_child.proofs.CloseLemmas.{closes_unwritten, closes_written}
use Rattle.lnbd_child.proofs.closing.close.Goals as goal

pub returns-in-Ok-clause-closes : goal.returns-in-Ok-clause-closes
returns-in-Ok-clause-closes g c =
    closes_written c.args.asked.now c.args.attended c.args.bytes.now _ _ _ _ c.print_sessions-told.result c.answered.result c.in-Ok.ensures.back c.print_sessions-told.ensures.prints c.answered.ensures.value

pub returns-in-Ok-clause-answer : goal.returns-in-Ok-clause-answer
returns-in-Ok-clause-answer g c done =
    c.answered.ensures.value ∙ answered_done c.print_sessions-told.result c.args.attended (subst (λ (r : Result ℕ RunFault). is_done r ≡ true) c.answered.ensures.value done)

pub returns-in-Ok-clause-cause : goal.returns-in-Ok-clause-cause
returns-in-Ok-clause-cause g c =
    let lines = Rises 1 (g.O.Sink.faults c.args.out.now) (g.O.Sink.faults c.print_sessions-told.new.out) in
    let files = Rose g.S.Store.faults c.args.store.now c.write_back.new.store in
    subst (λ (r : Result ℕ RunFault). IfErr r (Because ⊥ (Unit {0}) (Ends lines) files Never)) (sym c.answered.ensures.value)
    (answered_because lines files Never c.print_sessions-told.result c.args.attended c.requires c.print_sessions-told.ensures.output)

pub returns-in-Err-clause-closes : goal.returns-in-Err-clause-closes
returns-in-Err-clause-closes g c = closes_unwritten c.args.asked.now c.args.attended c.args.bytes.now _ _ _ c.faults-before.result c.faults.result c.in-Err.ensures.unwritten

pub returns-in-Err-clause-cause : goal.returns-in-Err-clause-cause
returns-in-Err-clause-cause g c =
    let r : Rises 1 (g.S.Store.faults c.args.store.now) (g.S.Store.faults c.write_back.new.store) = c.in-Err.ensures.failed in
    let x = c.faults-before.ensures in
    let y = c.faults.ensures in
    (omega (arith, x), omega (arith, y), omega (arith, r, x, y))
