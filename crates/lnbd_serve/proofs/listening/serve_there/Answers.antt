use Rattle.std.proofs.Common.{ℕ, Err, ap, refl, subst, sym}
use Rattle.lnbd_link.specs.Part.{Takes}
use Rattle.lnbd_serve.specs.declared.fault.ServeFault.{ServeFault}
use Rattle.lnbd_serve.specs.declared.fault.ServeFault.TheVariants as fault
use Rattle.lnbd_serve.specs.Printed.{Prints, Ran, Tells, serving_line}
use Rattle.lnbd_serve.proofs.PrintLemmas.{concludes, not_told, other_fault, told_on}
use Rattle.lnbd_serve.proofs.listening.serve_there.Goals as goal

pub returns-in-Ok-clause-tells : goal.returns-in-Ok-clause-tells
returns-in-Ok-clause-tells g c =
    told_on _ _ _ _ _ c.args.listener c.args.sessions c.serve_on-served.result c.conclude.result c.args.export.now c.serve_on-served.new.export
    (subst (λ (n : ℕ). Takes (g.O.Sink.taken c.args.out.now) (g.O.Sink.taken c.print_serving.new.out) (serving_line n)) c.size.ensures.size c.in-Ok.ensures.prints) c.serve_on-served.ensures.serves
    (concludes c.args.sessions c.serve_on-served.result c.conclude.result _ _ (λ off. let x = c.conclude.ensures.cut off in (x.0, ap g.O.Sink.taken x.1)) c.conclude.ensures.whole)

pub returns-in-Ok-clause-link : goal.returns-in-Ok-clause-link
returns-in-Ok-clause-link g c before after e =
    c.serve_on-served.ensures.link before after (other_fault c.serve_on-served.result c.conclude.result _ _ _ (fault.Link before after) refl (λ off. (c.conclude.ensures.cut off).0) c.conclude.ensures.whole e)

pub returns-in-Err-clause-tells : goal.returns-in-Err-clause-tells
returns-in-Err-clause-tells g c =
    subst (λ (f : ServeFault). Ran (g.W.Wires.told c.args.wires.now) (g.W.Wires.told c.args.wires.now) (g.O.Sink.taken c.args.out.now) (g.O.Sink.taken c.print_serving.new.out)
    (λ calls printed. Tells c.args.listener c.args.sessions (Err f) c.args.export.now calls printed c.args.export.now)) (sym c.fault.ensures)
    (not_told _ _ _ c.args.listener c.args.sessions c.in-Err.why c.args.export.now
    (subst (λ (n : ℕ). Prints (Err c.in-Err.why) (g.O.Sink.taken c.args.out.now) (g.O.Sink.taken c.print_serving.new.out) (serving_line n)) c.size.ensures.size c.in-Err.ensures.prints))
