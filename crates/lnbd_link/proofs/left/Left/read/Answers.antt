use Rattle.std.proofs.Common.{arith, refl, ap, sym, ◌∙◌, length, drop, List}
use Rattle.std.proofs.lemmas.Option.{slice_get_read}
use Rattle.lnbd_link.specs.declared.left.ReadAnswer.{ReadAnswer}
use Rattle.lnbd_link.specs.Left.{LinkLeft}
use Rattle.lnbd_link.proofs.LeftLemmas.{left_more}
use Rattle.lnbd_link.proofs.left.Left.read.Goals as goal

pub returns-then-is_longer-clause-left : goal.returns-then-is_longer-clause-left
returns-then-is_longer-clause-left c =
    let answers = c.self.inside.link.reads.items in
    let seen : List ReadAnswer → LinkLeft = λ l. record { fails = c.self.inside.link.fails; reads = l; writes = drop c.self.inside.write c.self.inside.link.writes.items } in
    let found = slice_get_read answers (length answers) c.self.inside.read c.index-answer.result.now refl (omega arith) c.index-answer.ensures in
    rw (← c.self.view_is) (ap seen (left_more answers c.self.inside.read c.self.inside.given _ _ c.index-answer.result.now found (sym c.is_longer.ensures.value ∙ c.if-is_longer.true) refl))
