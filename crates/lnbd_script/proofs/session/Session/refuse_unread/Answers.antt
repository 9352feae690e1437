use Rattle.std.proofs.Common.{IfOk, sym, subst}
use Rattle.lnbd_lines.specs.declared.command.Command.{Command as Asked}
use Rattle.lnbd_script.specs.Steps.{Judged}
use Rattle.lnbd_script.proofs.IssuingLemmas.{judged_read, judged_structured_read}
use Rattle.lnbd_script.proofs.session.Session.refuse_unread.Goals as goal

pub returns-in-Pread-clause-judged : goal.returns-in-Pread-clause-judged
returns-in-Pread-clause-judged c =
    subst (λ (asking : Asked). IfOk c.refuse_read.result (λ judged. Judged c.args.manner asking c.args.self.now c.refuse_read.new.self judged)) (sym c.in-Pread.is)
    (judged_read c.args.manner c.in-Pread.range c.new-keeper.result c.count.result c.args.self.now c.refuse_read.new.self c.refuse_read.result c.new-keeper.ensures c.count.ensures c.refuse_read.ensures.judged)

pub returns-in-PreadStructured-clause-judged : goal.returns-in-PreadStructured-clause-judged
returns-in-PreadStructured-clause-judged c =
    let read = c.refuse_read-in-PreadStructured in
    subst (λ (asking : Asked). IfOk read.result (λ judged. Judged c.args.manner asking c.args.self.now read.new.self judged)) (sym c.in-PreadStructured.is)
    (judged_structured_read c.args.manner c.in-PreadStructured.range c.new-keeper.result c.count.result c.args.self.now read.new.self read.result c.new-keeper.ensures c.count.ensures read.ensures.judged)
