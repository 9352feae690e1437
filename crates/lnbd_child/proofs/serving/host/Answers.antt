use Rattle.std.proofs.Common.{◌≡◌, ◌∙◌, ℕ, None, Err, ap, subst, sym}
use Rattle.lnbd_link.specs.Count.{Rises}
use Rattle.lnbd_link.specs.Part.{Takes}
use Rattle.lnbd_serve.specs.declared.fault.ServeFault.{ServeFault}
use Rattle.lnbd_serve.specs.Printed.{Prints, serving_line}
use Rattle.lnbd_serve.specs.declared.printed.Unprinted.{Unprinted}
use Rattle.lnbd_child.specs.declared.child.Running.{Running}
use Rattle.lnbd_child.specs.declared.fault.RunFault.TheVariants as fault
use Rattle.lnbd_child.specs.Causes.{Cuts, Lacks, Never, Rose}
use Rattle.lnbd_child.specs.Hosting.{Hosts, Worked}
use Rattle.lnbd_child.proofs.CauseLemmas.{because_else, cuts_lines, lacks_cuts, untold_because}
use Rattle.lnbd_child.proofs.GrownLemmas.{err_as, ok_as}
use Rattle.lnbd_child.proofs.HostLemmas.{hosts_served, hosts_unstarted, hosts_untold}
use Rattle.lnbd_child.proofs.serving.host.Goals as goal

pub returns-in-Err-clause-hosts : goal.returns-in-Err-clause-hosts
returns-in-Err-clause-hosts g c =
    subst (λ (f : ServeFault). Worked (g.W.Wires.told c.args.wires.now) (g.W.Wires.told c.args.wires.now) (g.O.Sink.taken c.args.out.now) (g.O.Sink.taken c.print_serving.new.out) (g.P.Spawner.told c.args.spawn.now) (g.P.Spawner.told c.args.spawn.now)
    (Hosts c.args.asked.now c.args.listener c.args.export.now c.args.export.now (Err (fault.Serve f)))) (sym c.fault.ensures)
    (hosts_untold c.args.asked.now c.args.listener _ _ _ _ c.in-Err.why c.args.export.now
    (subst (λ (n : ℕ). Prints (Err c.in-Err.why) (g.O.Sink.taken c.args.out.now) (g.O.Sink.taken c.print_serving.new.out) (serving_line n)) c.size.ensures.size c.in-Err.ensures.prints))

pub returns-in-Err-clause-cause : goal.returns-in-Err-clause-cause
returns-in-Err-clause-cause g c =
    untold_because g.W.Wires.faults g.W.Wires.idles c.args.wires.now c.args.wires.now (Rises 1 (g.O.Sink.faults c.args.out.now) (g.O.Sink.faults c.print_serving.new.out)) Never (Rose g.P.Spawner.faults c.args.spawn.now c.args.spawn.now)
    c.in-Err.why c.fault.result c.fault.ensures (λ is. c.in-Err.ensures.output (ap (λ (u : Unprinted). Err u) is))

pub returns-in-Ok-start-clause-hosts : goal.returns-in-Ok-start-clause-hosts
returns-in-Ok-start-clause-hosts g c =
    hosts_served c.args.asked.now c.args.listener _ _ _ _ _ _ c.in-Ok-start.child c.args.export.now c.serve_beside.new.export c.serve_beside.result
    (subst (λ (n : ℕ). Takes (g.O.Sink.taken c.args.out.now) (g.O.Sink.taken c.print_serving.new.out) (serving_line n)) c.size.ensures.size c.in-Ok.ensures.prints) c.in-Ok-start.ensures.starts c.serve_beside.ensures.serves

pub returns-in-Ok-start-clause-nobody : goal.returns-in-Ok-start-clause-nobody
returns-in-Ok-start-clause-nobody g c none =
    let nobody : c.in-Ok-start.child ≡ None = c.in-Ok-start.ensures.nobody none in
    ok_as c.serve_beside.result _ (λ (r : Running). r.child ≡ None) (λ r is. is ∙ nobody) c.serve_beside.ensures.child

pub returns-in-Ok-start-clause-cause : goal.returns-in-Ok-start-clause-cause
returns-in-Ok-start-clause-cause g c =
    let lines = Rises 1 (g.O.Sink.faults c.args.out.now) (g.O.Sink.faults c.print_serving.new.out) in
    let spawns = Rose g.P.Spawner.faults c.args.spawn.now c.start.new.spawn in
    let early = Cuts g.W.Wires.faults g.W.Wires.idles c.args.wires.now c.serve_beside.new.wires in
    err_as c.serve_beside.result _ _ (λ why is. because_else ⊥ ⊥ (early ⊥) Never Never ⊥ ⊥ (early lines) Never spawns why (λ no. no) (λ no. no) (λ f f_is. cuts_lines g.W.Wires.faults g.W.Wires.idles c.args.wires.now c.serve_beside.new.wires lines f f_is)
    (λ b a no. no) (λ b a no. absurd no) is) c.serve_beside.ensures.cause

pub returns-in-Err-start-clause-hosts : goal.returns-in-Err-start-clause-hosts
returns-in-Err-start-clause-hosts g c =
    hosts_unstarted c.args.asked.now c.args.listener _ _ _ _ _ c.in-Err-start.why c.args.export.now
    (subst (λ (n : ℕ). Takes (g.O.Sink.taken c.args.out.now) (g.O.Sink.taken c.print_serving.new.out) (serving_line n)) c.size.ensures.size c.in-Ok.ensures.prints) c.in-Err-start.ensures.unstarted

pub returns-in-Err-start-clause-cause : goal.returns-in-Err-start-clause-cause
returns-in-Err-start-clause-cause g c =
    let lines = Rises 1 (g.O.Sink.faults c.args.out.now) (g.O.Sink.faults c.print_serving.new.out) in
    let spawns = Rose g.P.Spawner.faults c.args.spawn.now c.start.new.spawn in
    because_else ⊥ ⊥ Lacks Never spawns ⊥ ⊥ (Cuts g.W.Wires.faults g.W.Wires.idles c.args.wires.now c.args.wires.now lines) Never spawns c.in-Err-start.why (λ no. no) (λ no. no)
    (λ f is. lacks_cuts g.W.Wires.faults g.W.Wires.idles c.args.wires.now c.args.wires.now lines f is) (λ b a no. no) (λ b a is. is) c.in-Err-start.ensures.cause
