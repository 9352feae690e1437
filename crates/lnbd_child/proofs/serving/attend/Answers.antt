use Rattle.std.proofs.Common.{arith, ◌≡◌, ◌∙◌, true, None, Result, sym, subst}
use Rattle.lnbd_link.specs.Count.{Rises}
use Rattle.lnbd_serve.specs.Printed.{is_served}
use Rattle.lnbd_child.specs.declared.child.Attended.{Attended}
use Rattle.lnbd_child.specs.declared.child.Running.{Running}
use Rattle.lnbd_child.specs.declared.fault.RunFault.{RunFault}
use Rattle.lnbd_child.specs.Causes.{Because, Cuts, Lacks, Never, Rose}
use Rattle.lnbd_child.specs.Hosting.{Hosts, Worked}
use Rattle.lnbd_child.proofs.CauseLemmas.{because_else, cuts_around, lacks_cuts, rose_around}
use Rattle.lnbd_child.proofs.GrownLemmas.{err_as, err_with, ok_as, ok_with}
use Rattle.lnbd_child.proofs.HostLemmas.{attends_hosted, attends_unheard, attends_unhosted}
use Rattle.lnbd_child.proofs.serving.attend.Goals as goal

pub returns-in-Err-clause-attends : goal.returns-in-Err-clause-attends
returns-in-Err-clause-attends g c = attends_unheard c.args.asked.now _ _ _ _ c.faults-before.result c.faults.result c.args.export.now c.in-Err.ensures.told

pub returns-in-Err-clause-cause : goal.returns-in-Err-clause-cause
returns-in-Err-clause-cause g c =
    let r : Rises 1 (g.W.Wires.faults c.args.wires.now) (g.W.Wires.faults c.listen.new.self) = c.in-Err.ensures.cause in
    let x = c.faults-before.ensures.count in
    let y = c.faults.ensures.count in
    (omega (arith, x), omega (arith, y), omega (arith, r, x, y))

pub returns-in-Ok-hosted-clause-attends : goal.returns-in-Ok-hosted-clause-attends
returns-in-Ok-hosted-clause-attends g c =
    attends_hosted c.args.asked.now c.in-Ok.listener (g.W.Wires.told c.args.wires.now) (g.W.Wires.told c.listen.new.self) (g.W.Wires.told c.host-hosted.new.wires) (g.W.Wires.told c.shut.new.self) _ _
    (g.P.Spawner.told c.args.spawn.now) (g.P.Spawner.told c.host-hosted.new.spawn) c.args.export.now c.host-hosted.new.export _ c.in-Ok-hosted.running c.wait.result c.in-Ok.ensures.told
    (subst (λ (r : Result Running RunFault). Worked (g.W.Wires.told c.listen.new.self) (g.W.Wires.told c.host-hosted.new.wires) (g.O.Sink.taken c.args.out.now) (g.O.Sink.taken c.host-hosted.new.out)
    (g.P.Spawner.told c.args.spawn.now) (g.P.Spawner.told c.host-hosted.new.spawn) (Hosts c.args.asked.now c.in-Ok.listener c.args.export.now c.host-hosted.new.export r)) c.in-Ok-hosted.is c.host-hosted.ensures.hosts)
    c.shut.ensures.told c.wait.ensures.waits

pub returns-in-Ok-hosted-clause-served : goal.returns-in-Ok-hosted-clause-served
returns-in-Ok-hosted-clause-served g c =
    let all : is_served c.in-Ok-hosted.running.served ≡ true = ok_with c.host-hosted.result (λ (r : Running). is_served r.served ≡ true) c.in-Ok-hosted.running c.host-hosted.ensures.served c.in-Ok-hosted.is in
    ok_as c.wait.result _ (λ (a : Attended). is_served a.served ≡ true) (λ a is. subst (λ r. is_served r ≡ true) (sym is) all) c.wait.ensures.served

pub returns-in-Ok-hosted-clause-alone : goal.returns-in-Ok-hosted-clause-alone
returns-in-Ok-hosted-clause-alone g c none =
    let nobody : c.in-Ok-hosted.running.child ≡ None = ok_with c.host-hosted.result (λ (r : Running). r.child ≡ None) c.in-Ok-hosted.running (c.host-hosted.ensures.nobody none) c.in-Ok-hosted.is in
    c.wait.ensures.alone nobody ∙ c.host-hosted.ensures.alone none

pub returns-in-Ok-hosted-clause-cause : goal.returns-in-Ok-hosted-clause-cause
returns-in-Ok-hosted-clause-cause g c =
    let lines = Rises 1 (g.O.Sink.faults c.args.out.now) (g.O.Sink.faults c.host-hosted.new.out) in
    let after = Rose g.P.Spawner.faults c.host-hosted.new.spawn c.wait.new.spawn in
    let all = Rose g.P.Spawner.faults c.args.spawn.now c.wait.new.spawn in
    let cuts = Cuts g.W.Wires.faults g.W.Wires.idles c.args.wires.now c.shut.new.self lines in
    err_as c.wait.result _ _ (λ why is. because_else ⊥ ⊥ Lacks Never after ⊥ ⊥ cuts Never all why (λ no. no) (λ no. no) (λ f k. lacks_cuts g.W.Wires.faults g.W.Wires.idles c.args.wires.now c.shut.new.self lines f k) (λ b a no. no)
    (λ b a r. rose_around g.P.Spawner.faults c.args.spawn.now c.host-hosted.new.spawn c.wait.new.spawn c.wait.new.spawn b a c.host-hosted.ensures.starting (omega arith) r) is) c.wait.ensures.cause

pub returns-in-Err-hosted-clause-attends : goal.returns-in-Err-hosted-clause-attends
returns-in-Err-hosted-clause-attends g c =
    attends_unhosted c.args.asked.now c.in-Ok.listener (g.W.Wires.told c.args.wires.now) (g.W.Wires.told c.listen.new.self) (g.W.Wires.told c.host-hosted.new.wires) (g.W.Wires.told c.shut.new.self) _ _
    (g.P.Spawner.told c.args.spawn.now) (g.P.Spawner.told c.host-hosted.new.spawn) c.args.export.now c.host-hosted.new.export c.in-Err-hosted.why c.in-Ok.ensures.told
    (subst (λ (r : Result Running RunFault). Worked (g.W.Wires.told c.listen.new.self) (g.W.Wires.told c.host-hosted.new.wires) (g.O.Sink.taken c.args.out.now) (g.O.Sink.taken c.host-hosted.new.out)
    (g.P.Spawner.told c.args.spawn.now) (g.P.Spawner.told c.host-hosted.new.spawn) (Hosts c.args.asked.now c.in-Ok.listener c.args.export.now c.host-hosted.new.export r)) c.in-Err-hosted.is c.host-hosted.ensures.hosts) c.shut.ensures.told

pub returns-in-Err-hosted-clause-cause : goal.returns-in-Err-hosted-clause-cause
returns-in-Err-hosted-clause-cause g c =
    let lines = Rises 1 (g.O.Sink.faults c.args.out.now) (g.O.Sink.faults c.host-hosted.new.out) in
    let spawns = Rose g.P.Spawner.faults c.args.spawn.now c.host-hosted.new.spawn in
    let cuts = Cuts g.W.Wires.faults g.W.Wires.idles c.listen.new.self c.host-hosted.new.wires lines in
    let is : Because ⊥ ⊥ cuts Never spawns c.in-Err-hosted.why = err_with c.host-hosted.result (Because ⊥ ⊥ cuts Never spawns) c.in-Err-hosted.why c.host-hosted.ensures.cause c.in-Err-hosted.is in
    because_else ⊥ ⊥ cuts Never spawns ⊥ ⊥ (Cuts g.W.Wires.faults g.W.Wires.idles c.args.wires.now c.shut.new.self lines) Never spawns c.in-Err-hosted.why (λ no. no) (λ no. no)
    (λ f k. cuts_around g.W.Wires.faults g.W.Wires.idles c.args.wires.now c.listen.new.self c.host-hosted.new.wires c.shut.new.self lines f c.in-Ok.ensures.faults c.shut.ensures.faults c.in-Ok.ensures.idles c.shut.ensures.idles k)
    (λ b a no. no) (λ b a r. r) is
