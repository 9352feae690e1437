use Rattle.std.proofs.Common.{arith}
use Rattle.lnbd_child.specs.Causes.{Never}
use Rattle.lnbd_child.proofs.HostLemmas.{all_served, cut_because, keeps_child, no_output, serves_on}
use Rattle.lnbd_child.proofs.serving.serve_beside.Goals as goal

pub returns-clause-serves : goal.returns-clause-serves
returns-clause-serves g c =
    serves_on _ _ c.args.listener c.args.asked.now.sessions c.args.child c.args.export.now c.serve_on-served.new.export c.serve_on-served.result c.running_of.result c.running_of.ensures c.serve_on-served.ensures.serves

pub returns-clause-child : goal.returns-clause-child
returns-clause-child g c = keeps_child c.serve_on-served.result c.args.child c.running_of.result c.running_of.ensures

pub returns-clause-served : goal.returns-clause-served
returns-clause-served g c = all_served c.serve_on-served.result c.args.child c.running_of.result c.running_of.ensures

pub returns-clause-cause : goal.returns-clause-cause
returns-clause-cause g c =
    cut_because g.W.Wires.faults g.W.Wires.idles c.args.wires.now c.serve_on-served.new.wires Never Never c.serve_on-served.result c.args.child c.running_of.result c.running_of.ensures
    (λ b a e. let l = c.serve_on-served.ensures.link b a e in let x = l.0 in let y = l.1 in (omega (arith, x), omega (arith, y), l.2))
    (λ n e. let s = c.serve_on-served.ensures.silent n e in
    let x = s.0 in
    (omega (arith, x), s.1))
    (no_output c.args.listener c.args.asked.now.sessions c.serve_on-served.result _ _ c.args.export.now c.serve_on-served.new.export c.serve_on-served.ensures.serves)
