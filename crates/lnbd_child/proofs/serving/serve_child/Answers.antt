use Rattle.std.proofs.Common.{arith, ◌≤◌, ◌+◌, ℕ, List, Err, min, refl, ap, sym, subst}
use Rattle.lnbd_link.specs.Count.{Rises}
use Rattle.lnbd_serve.specs.declared.fault.ServeFault.TheVariants as serving
use Rattle.lnbd_child.specs.declared.fault.RunFault.{RunFault}
use Rattle.lnbd_child.specs.declared.fault.RunFault.TheVariants as fault
use Rattle.lnbd_child.specs.Causes.{Because, Cuts, Ends, Lacks, Never, Rose}
use Rattle.lnbd_child.specs.Closing.{Closed, Closes, Leaves}
use Rattle.lnbd_child.proofs.CauseLemmas.{because_done, because_of, err_is, rose_around}
use Rattle.lnbd_child.proofs.GrownLemmas.{err_with}
use Rattle.lnbd_child.proofs.ServeLemmas.{begins_name, goes_attended, goes_unattended, goes_unloaded, runs_child, serves_file}
use Rattle.lnbd_child.proofs.serving.serve_child.Goals as goal

-- The file was not read.

pub returns-in-Err-clause-file : goal.returns-in-Err-clause-file
returns-in-Err-clause-file g c done =
    absurd (because_done (Unit {0}) ⊥ Lacks (Rose g.S.Store.faults c.args.store.now c.load.new.store) Never c.in-Err.why (λ no. no) (λ no. no) c.in-Err.ensures.cause done)

pub returns-in-Err-clause-child : goal.returns-in-Err-clause-child
returns-in-Err-clause-child g c done =
    absurd (because_done (Unit {0}) ⊥ Lacks (Rose g.S.Store.faults c.args.store.now c.load.new.store) Never c.in-Err.why (λ no. no) (λ no. no) c.in-Err.ensures.cause done)

pub returns-in-Err-clause-goes : goal.returns-in-Err-clause-goes
returns-in-Err-clause-goes g c = goes_unloaded c.args.asked.now _ _ _ _ _ c.in-Err.why c.in-Err.ensures.unloaded

pub returns-in-Err-clause-link : goal.returns-in-Err-clause-link
returns-in-Err-clause-link g c b a e =
    absurd (because_of (Unit {0}) ⊥ Lacks (Rose g.S.Store.faults c.args.store.now c.load.new.store) Never (Err c.in-Err.why) c.in-Err.why (fault.Serve (serving.Link b a)) c.in-Err.ensures.cause refl e)

pub returns-in-Err-clause-silent : goal.returns-in-Err-clause-silent
returns-in-Err-clause-silent g c n e =
    absurd (because_of (Unit {0}) ⊥ Lacks (Rose g.S.Store.faults c.args.store.now c.load.new.store) Never (Err c.in-Err.why) c.in-Err.why (fault.Serve (serving.Silent n)) c.in-Err.ensures.cause refl e)

pub returns-in-Err-clause-output : goal.returns-in-Err-clause-output
returns-in-Err-clause-output g c e =
    absurd (because_of (Unit {0}) ⊥ Lacks (Rose g.S.Store.faults c.args.store.now c.load.new.store) Never (Err c.in-Err.why) c.in-Err.why (fault.Serve serving.Output) c.in-Err.ensures.cause refl e)

pub returns-in-Err-clause-store : goal.returns-in-Err-clause-store
returns-in-Err-clause-store g c b a e = because_of (Unit {0}) ⊥ Lacks (Rose g.S.Store.faults c.args.store.now c.load.new.store) Never (Err c.in-Err.why) c.in-Err.why (fault.Store b a) c.in-Err.ensures.cause refl e

pub returns-in-Err-clause-spawn : goal.returns-in-Err-clause-spawn
returns-in-Err-clause-spawn g c b a e =
    absurd (because_of (Unit {0}) ⊥ Lacks (Rose g.S.Store.faults c.args.store.now c.load.new.store) Never (Err c.in-Err.why) c.in-Err.why (fault.Spawn b a) c.in-Err.ensures.cause refl e)

pub returns-in-Err-clause-changed : goal.returns-in-Err-clause-changed
returns-in-Err-clause-changed g c n end e =
    c.in-Err.ensures.changed n end (ap (λ (f : RunFault). Err f) (err_is (Err c.in-Err.why) c.in-Err.why (fault.Changed n end) refl e))

-- All were not attended to.

pub attend-requires : goal.attend-requires
attend-requires g c = sym (begins_name c.args.asked.now c.in-Ok.export c.in-Ok.ensures.begins)

pub returns-clause-file : goal.returns-clause-file
returns-clause-file g c done =
    let lines = Rises 1 (g.O.Sink.faults c.args.out.now) (g.O.Sink.faults c.attend.new.out) in
    absurd (because_done ⊥ ⊥ (Cuts g.W.Wires.faults g.W.Wires.idles c.args.wires.now c.attend.new.wires lines) Never (Rose g.P.Spawner.faults c.args.spawn.now c.attend.new.spawn) c.in-Err-attend.why (λ no. no) (λ no. no)
    c.in-Err-attend.ensures.cause done)

pub returns-clause-child : goal.returns-clause-child
returns-clause-child g c done =
    let lines = Rises 1 (g.O.Sink.faults c.args.out.now) (g.O.Sink.faults c.attend.new.out) in
    absurd (because_done ⊥ ⊥ (Cuts g.W.Wires.faults g.W.Wires.idles c.args.wires.now c.attend.new.wires lines) Never (Rose g.P.Spawner.faults c.args.spawn.now c.attend.new.spawn) c.in-Err-attend.why (λ no. no) (λ no. no)
    c.in-Err-attend.ensures.cause done)

pub returns-clause-goes : goal.returns-clause-goes
returns-clause-goes g c =
    goes_unattended c.args.asked.now _ _ _ _ _ _ _ _ c.in-Ok.export c.attend.new.export c.in-Err-attend.why c.in-Ok.ensures.begins c.in-Ok.ensures.loads c.in-Err-attend.ensures.attends

pub returns-clause-link : goal.returns-clause-link
returns-clause-link g c b a e =
    let lines = Rises 1 (g.O.Sink.faults c.args.out.now) (g.O.Sink.faults c.attend.new.out) in
    because_of ⊥ ⊥ (Cuts g.W.Wires.faults g.W.Wires.idles c.args.wires.now c.attend.new.wires lines) Never (Rose g.P.Spawner.faults c.args.spawn.now c.attend.new.spawn) (Err c.in-Err-attend.why) c.in-Err-attend.why (fault.Serve (serving.Link b a)) c.in-Err-attend.ensures.cause refl e

pub returns-clause-silent : goal.returns-clause-silent
returns-clause-silent g c n e =
    let lines = Rises 1 (g.O.Sink.faults c.args.out.now) (g.O.Sink.faults c.attend.new.out) in
    because_of ⊥ ⊥ (Cuts g.W.Wires.faults g.W.Wires.idles c.args.wires.now c.attend.new.wires lines) Never (Rose g.P.Spawner.faults c.args.spawn.now c.attend.new.spawn) (Err c.in-Err-attend.why) c.in-Err-attend.why (fault.Serve (serving.Silent n)) c.in-Err-attend.ensures.cause refl e

pub returns-clause-output : goal.returns-clause-output
returns-clause-output g c e =
    let lines = Rises 1 (g.O.Sink.faults c.args.out.now) (g.O.Sink.faults c.attend.new.out) in
    because_of ⊥ ⊥ (Cuts g.W.Wires.faults g.W.Wires.idles c.args.wires.now c.attend.new.wires lines) Never (Rose g.P.Spawner.faults c.args.spawn.now c.attend.new.spawn) (Err c.in-Err-attend.why) c.in-Err-attend.why (fault.Serve serving.Output) c.in-Err-attend.ensures.cause refl e

pub returns-clause-store : goal.returns-clause-store
returns-clause-store g c b a e =
    let lines = Rises 1 (g.O.Sink.faults c.args.out.now) (g.O.Sink.faults c.attend.new.out) in
    absurd (because_of ⊥ ⊥ (Cuts g.W.Wires.faults g.W.Wires.idles c.args.wires.now c.attend.new.wires lines) Never (Rose g.P.Spawner.faults c.args.spawn.now c.attend.new.spawn) (Err c.in-Err-attend.why) c.in-Err-attend.why (fault.Store b a) c.in-Err-attend.ensures.cause refl e)

pub returns-clause-spawn : goal.returns-clause-spawn
returns-clause-spawn g c b a e =
    let lines = Rises 1 (g.O.Sink.faults c.args.out.now) (g.O.Sink.faults c.attend.new.out) in
    because_of ⊥ ⊥ (Cuts g.W.Wires.faults g.W.Wires.idles c.args.wires.now c.attend.new.wires lines) Never (Rose g.P.Spawner.faults c.args.spawn.now c.attend.new.spawn) (Err c.in-Err-attend.why) c.in-Err-attend.why (fault.Spawn b a) c.in-Err-attend.ensures.cause refl e

pub returns-clause-changed : goal.returns-clause-changed
returns-clause-changed g c n end e =
    let lines = Rises 1 (g.O.Sink.faults c.args.out.now) (g.O.Sink.faults c.attend.new.out) in
    absurd (because_of ⊥ ⊥ (Cuts g.W.Wires.faults g.W.Wires.idles c.args.wires.now c.attend.new.wires lines) Never (Rose g.P.Spawner.faults c.args.spawn.now c.attend.new.spawn) (Err c.in-Err-attend.why) c.in-Err-attend.why (fault.Changed n end) c.in-Err-attend.ensures.cause refl e)

-- All were.

pub returns-in-Ok-attend-clause-file : goal.returns-in-Ok-attend-clause-file
returns-in-Ok-attend-clause-file g c done =
    serves_file c.args.asked.now c.in-Ok.export c.attend.new.export c.in-Ok-attend.attended _ _ _ _ _ _ (g.S.Store.shelf c.args.store.now) (g.S.Store.shelf c.load.new.store) (g.S.Store.shelf c.close.new.store) c.close.result
    c.in-Ok.ensures.begins c.in-Ok.ensures.held c.in-Ok-attend.ensures.attends c.in-Ok-attend.ensures.served
    (subst (λ (bytes : List ℕ). Leaves c.args.asked.now.content c.args.asked.now.read_only bytes (g.S.Store.shelf c.load.new.store) (g.S.Store.shelf c.close.new.store)) c.bytes.ensures (c.close.ensures.leaves done)) (c.close.ensures.answer done)

pub returns-in-Ok-attend-clause-child : goal.returns-in-Ok-attend-clause-child
returns-in-Ok-attend-clause-child g c done =
    runs_child c.args.asked.now c.in-Ok.export c.attend.new.export c.in-Ok-attend.attended _ _ _ _ _ _ c.close.result c.in-Ok-attend.ensures.attends (c.close.ensures.answer done)

pub returns-in-Ok-attend-clause-goes : goal.returns-in-Ok-attend-clause-goes
returns-in-Ok-attend-clause-goes g c =
    goes_attended c.args.asked.now _ _ _ _ _ _ _ _ _ _ c.in-Ok.export c.attend.new.export c.in-Ok-attend.attended c.close.result c.in-Ok.ensures.begins c.in-Ok.ensures.loads c.in-Ok-attend.ensures.attends
    (subst (λ (bytes : List ℕ). Closed (g.S.Store.told c.load.new.store) (g.S.Store.told c.close.new.store) (g.O.Sink.taken c.attend.new.out) (g.O.Sink.taken c.close.new.out)
    (Closes c.args.asked.now c.in-Ok-attend.attended bytes c.close.result)) c.bytes.ensures c.close.ensures.closes)

pub returns-in-Ok-attend-clause-link : goal.returns-in-Ok-attend-clause-link
returns-in-Ok-attend-clause-link g c b a e =
    let lines = Rises 1 (g.O.Sink.faults c.attend.new.out) (g.O.Sink.faults c.close.new.out) in
    let files = Rose g.S.Store.faults c.load.new.store c.close.new.store in
    let is = err_with c.close.result (Because ⊥ (Unit {0}) (Ends lines) files Never) (fault.Serve (serving.Link b a)) c.close.ensures.cause e in
    absurd is

pub returns-in-Ok-attend-clause-silent : goal.returns-in-Ok-attend-clause-silent
returns-in-Ok-attend-clause-silent g c n e =
    let lines = Rises 1 (g.O.Sink.faults c.attend.new.out) (g.O.Sink.faults c.close.new.out) in
    let files = Rose g.S.Store.faults c.load.new.store c.close.new.store in
    let is = err_with c.close.result (Because ⊥ (Unit {0}) (Ends lines) files Never) (fault.Serve (serving.Silent n)) c.close.ensures.cause e in
    absurd is

pub returns-in-Ok-attend-clause-output : goal.returns-in-Ok-attend-clause-output
returns-in-Ok-attend-clause-output g c e =
    let lines = Rises 1 (g.O.Sink.faults c.attend.new.out) (g.O.Sink.faults c.close.new.out) in
    let files = Rose g.S.Store.faults c.load.new.store c.close.new.store in
    let is = err_with c.close.result (Because ⊥ (Unit {0}) (Ends lines) files Never) (fault.Serve serving.Output) c.close.ensures.cause e in
    let rose : min (g.O.Sink.faults c.attend.new.out + 1) 18446744073709551615 ≤ g.O.Sink.faults c.close.new.out = is in
    let before : g.O.Sink.faults c.args.out.now ≤ g.O.Sink.faults c.attend.new.out = c.in-Ok-attend.ensures.printing in
    omega (arith, rose, before)

pub returns-in-Ok-attend-clause-store : goal.returns-in-Ok-attend-clause-store
returns-in-Ok-attend-clause-store g c b a e =
    let lines = Rises 1 (g.O.Sink.faults c.attend.new.out) (g.O.Sink.faults c.close.new.out) in
    let files = Rose g.S.Store.faults c.load.new.store c.close.new.store in
    let is = err_with c.close.result (Because ⊥ (Unit {0}) (Ends lines) files Never) (fault.Store b a) c.close.ensures.cause e in
    rose_around g.S.Store.faults c.args.store.now c.load.new.store c.close.new.store c.close.new.store b a c.in-Ok.ensures.later (omega arith) is

pub returns-in-Ok-attend-clause-spawn : goal.returns-in-Ok-attend-clause-spawn
returns-in-Ok-attend-clause-spawn g c b a e =
    let lines = Rises 1 (g.O.Sink.faults c.attend.new.out) (g.O.Sink.faults c.close.new.out) in
    let files = Rose g.S.Store.faults c.load.new.store c.close.new.store in
    let is = err_with c.close.result (Because ⊥ (Unit {0}) (Ends lines) files Never) (fault.Spawn b a) c.close.ensures.cause e in
    absurd is

pub returns-in-Ok-attend-clause-changed : goal.returns-in-Ok-attend-clause-changed
returns-in-Ok-attend-clause-changed g c n end e =
    let lines = Rises 1 (g.O.Sink.faults c.attend.new.out) (g.O.Sink.faults c.close.new.out) in
    let files = Rose g.S.Store.faults c.load.new.store c.close.new.store in
    let is = err_with c.close.result (Because ⊥ (Unit {0}) (Ends lines) files Never) (fault.Changed n end) c.close.ensures.cause e in
    absurd is
