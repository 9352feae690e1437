use Rattle.std.proofs.Common.{inl, inr, refl, subst, sym, ◌∙◌, ap}
use Rattle.lnbd_cli.specs.Did.{Did, HasRoom, IsOnWires, NeverReads}
use Rattle.lnbd_cli.specs.Calls.{is_calls_status}
use Rattle.lnbd_cli.specs.Copies.{is_copy_status}
use Rattle.lnbd_cli.specs.Dumps.{is_dump_status}
use Rattle.lnbd_cli.specs.Ends.{End, status_of}
use Rattle.lnbd_cli.specs.Informs.{is_info_status}
use Rattle.lnbd_cli.specs.Trials.{is_test_status}
use Rattle.lnbd_cli.proofs.EndLemmas.{files_never}
use Rattle.lnbd_cli.proofs.top.act.Goals as goal

pub returns-in-Calls-clause-did : goal.returns-in-Calls-clause-did
returns-in-Calls-clause-did g c = subst (Did g.I.Source.left c.args.input.now c.calls.new.input g.W.Wires.told c.args.wires.now c.calls.new.wires g.O.Sink.taken c.args.out.now c.calls.new.out
    g.S.Store.told g.S.Store.shelf g.S.Store.given g.S.Store.taken c.args.store.now c.args.store.now g.P.Spawner.told c.args.spawn.now c.args.spawn.now c.calls.result) (sym c.in-Calls.is) (record {
      does = c.calls.ensures.ends;
      known = c.calls.ensures.known;
      accepts = c.calls.ensures.accepts;
      store_same = λ none. refl;
      spawn_same = λ none. refl;
      file = tt;
      child = tt;
    })

pub returns-in-Info-clause-did : goal.returns-in-Info-clause-did
returns-in-Info-clause-did g c = subst (Did g.I.Source.left c.args.input.now c.args.input.now g.W.Wires.told c.args.wires.now c.inform.new.wires g.O.Sink.taken c.args.out.now c.inform.new.out
    g.S.Store.told g.S.Store.shelf g.S.Store.given g.S.Store.taken c.args.store.now c.args.store.now g.P.Spawner.told c.args.spawn.now c.args.spawn.now c.inform.result) (sym c.in-Info.is) (record {
      does = c.inform.ensures.ends;
      known = c.inform.ensures.known;
      accepts = tt;
      store_same = λ none. refl;
      spawn_same = λ none. refl;
      file = tt;
      child = tt;
    })

pub returns-in-Serve-clause-did : goal.returns-in-Serve-clause-did
returns-in-Serve-clause-did g c = subst (Did g.I.Source.left c.args.input.now c.args.input.now g.W.Wires.told c.args.wires.now c.attend.new.wires g.O.Sink.taken c.args.out.now c.attend.new.out
    g.S.Store.told g.S.Store.shelf g.S.Store.given g.S.Store.taken c.args.store.now c.attend.new.store
    g.P.Spawner.told c.args.spawn.now c.attend.new.spawn c.attend.result) (sym c.in-Serve.is) (record {
      does = c.attend.ensures.did.does;
      known = c.attend.ensures.did.known;
      accepts = tt;
      store_same = c.attend.ensures.did.store_same;
      spawn_same = c.attend.ensures.did.spawn_same;
      file = c.attend.ensures.did.file;
      child = c.attend.ensures.did.child;
    })

pub returns-in-Copy-clause-did : goal.returns-in-Copy-clause-did
returns-in-Copy-clause-did g c = subst (Did g.I.Source.left c.args.input.now c.args.input.now g.W.Wires.told c.args.wires.now c.copy.new.wires g.O.Sink.taken c.args.out.now c.args.out.now
    g.S.Store.told g.S.Store.shelf g.S.Store.given g.S.Store.taken c.args.store.now c.args.store.now g.P.Spawner.told c.args.spawn.now c.args.spawn.now c.copy.result) (sym c.in-Copy.is) (record {
      does = (c.copy.ensures.ends, refl);
      known = c.copy.ensures.known;
      accepts = tt;
      store_same = λ none. refl;
      spawn_same = λ none. refl;
      file = tt;
      child = tt;
    })

pub returns-in-FileCopy-clause-did : goal.returns-in-FileCopy-clause-did
returns-in-FileCopy-clause-did g c = subst (Did g.I.Source.left c.args.input.now c.args.input.now g.W.Wires.told c.args.wires.now c.copy_files.new.wires g.O.Sink.taken c.args.out.now c.args.out.now
    g.S.Store.told g.S.Store.shelf g.S.Store.given g.S.Store.taken c.args.store.now c.copy_files.new.store
    g.P.Spawner.told c.args.spawn.now c.args.spawn.now c.copy_files.result) (sym c.in-FileCopy.is) (record {
      does = (c.copy_files.ensures.ends, refl);
      known = c.copy_files.ensures.known;
      accepts = tt;
      store_same = λ none. absurd none;
      spawn_same = λ none. refl;
      file = tt;
      child = tt;
    })

pub returns-in-Dump-clause-did : goal.returns-in-Dump-clause-did
returns-in-Dump-clause-did g c = subst (Did g.I.Source.left c.args.input.now c.args.input.now g.W.Wires.told c.args.wires.now c.show.new.wires g.O.Sink.taken c.args.out.now c.show.new.out
    g.S.Store.told g.S.Store.shelf g.S.Store.given g.S.Store.taken c.args.store.now c.args.store.now g.P.Spawner.told c.args.spawn.now c.args.spawn.now c.show.result) (sym c.in-Dump.is) (record {
      does = c.show.ensures.ends;
      known = c.show.ensures.known;
      accepts = tt;
      store_same = λ none. refl;
      spawn_same = λ none. refl;
      file = tt;
      child = tt;
    })

pub returns-in-Selftest-clause-did : goal.returns-in-Selftest-clause-did
returns-in-Selftest-clause-did g c = subst (Did g.I.Source.left c.args.input.now c.args.input.now g.W.Wires.told c.args.wires.now c.args.wires.now g.O.Sink.taken c.args.out.now c.test.new.out
    g.S.Store.told g.S.Store.shelf g.S.Store.given g.S.Store.taken c.args.store.now c.args.store.now g.P.Spawner.told c.args.spawn.now c.args.spawn.now c.test.result) (sym c.in-Selftest.is) (record {
      does = (c.test.ensures.ends, refl);
      known = c.test.ensures.known;
      accepts = (c.test.ensures.small, λ large. inl (c.test.ensures.large large));
      store_same = λ none. refl;
      spawn_same = λ none. refl;
      file = tt;
      child = tt;
    })

pub returns-in-Calls-clause-unread : goal.returns-in-Calls-clause-unread
returns-in-Calls-clause-unread g c never = absurd (subst NeverReads c.in-Calls.is never)

pub returns-in-Selftest-clause-well : goal.returns-in-Selftest-clause-well
returns-in-Selftest-clause-well g c on = absurd (subst IsOnWires c.in-Selftest.is on)

pub returns-in-Selftest-clause-patient : goal.returns-in-Selftest-clause-patient
returns-in-Selftest-clause-patient g c on = absurd (subst IsOnWires c.in-Selftest.is on)

pub copy-requires : goal.copy-requires
copy-requires g c = subst HasRoom c.in-Copy.is c.requires

pub attend-requires : goal.attend-requires
attend-requires g c = subst HasRoom c.in-Serve.is c.requires

pub returns-in-Calls-clause-storing : goal.returns-in-Calls-clause-storing
returns-in-Calls-clause-storing g c e = cc (ap (λ (r : End). is_calls_status (status_of r)) (sym e) ∙ c.calls.ensures.known)

pub returns-in-Calls-clause-spawning : goal.returns-in-Calls-clause-spawning
returns-in-Calls-clause-spawning g c e = cc (ap (λ (r : End). is_calls_status (status_of r)) (sym e) ∙ c.calls.ensures.known)

pub returns-in-Info-clause-storing : goal.returns-in-Info-clause-storing
returns-in-Info-clause-storing g c e = cc (ap (λ (r : End). is_info_status (status_of r)) (sym e) ∙ c.inform.ensures.known)

pub returns-in-Info-clause-spawning : goal.returns-in-Info-clause-spawning
returns-in-Info-clause-spawning g c e = cc (ap (λ (r : End). is_info_status (status_of r)) (sym e) ∙ c.inform.ensures.known)

pub returns-in-Copy-clause-storing : goal.returns-in-Copy-clause-storing
returns-in-Copy-clause-storing g c e = cc (ap (λ (r : End). is_copy_status (status_of r)) (sym e) ∙ c.copy.ensures.known)

pub returns-in-Copy-clause-spawning : goal.returns-in-Copy-clause-spawning
returns-in-Copy-clause-spawning g c e = cc (ap (λ (r : End). is_copy_status (status_of r)) (sym e) ∙ c.copy.ensures.known)

pub returns-in-Dump-clause-storing : goal.returns-in-Dump-clause-storing
returns-in-Dump-clause-storing g c e = cc (ap (λ (r : End). is_dump_status (status_of r)) (sym e) ∙ c.show.ensures.known)

pub returns-in-Dump-clause-spawning : goal.returns-in-Dump-clause-spawning
returns-in-Dump-clause-spawning g c e = cc (ap (λ (r : End). is_dump_status (status_of r)) (sym e) ∙ c.show.ensures.known)

pub returns-in-Selftest-clause-storing : goal.returns-in-Selftest-clause-storing
returns-in-Selftest-clause-storing g c e = cc (ap (λ (r : End). is_test_status (status_of r)) (sym e) ∙ c.test.ensures.known)

pub returns-in-Selftest-clause-spawning : goal.returns-in-Selftest-clause-spawning
returns-in-Selftest-clause-spawning g c e = cc (ap (λ (r : End). is_test_status (status_of r)) (sym e) ∙ c.test.ensures.known)

pub copy_files-requires : goal.copy_files-requires
copy_files-requires g c = let room = subst HasRoom c.in-FileCopy.is c.requires in record { limited = room.0; sides = room.1 }

pub returns-in-FileCopy-clause-well : goal.returns-in-FileCopy-clause-well
returns-in-FileCopy-clause-well g c on = c.copy_files.ensures.well (subst IsOnWires c.in-FileCopy.is on)

pub returns-in-FileCopy-clause-patient : goal.returns-in-FileCopy-clause-patient
returns-in-FileCopy-clause-patient g c on = c.copy_files.ensures.patient (subst IsOnWires c.in-FileCopy.is on)

pub returns-in-FileCopy-clause-output : goal.returns-in-FileCopy-clause-output
returns-in-FileCopy-clause-output g c e = absurd (files_never c.in-FileCopy.from c.in-FileCopy.to _ c.copy_files.ensures.known (inl (ap (λ (r : End). status_of r) e)))

pub returns-in-FileCopy-clause-input : goal.returns-in-FileCopy-clause-input
returns-in-FileCopy-clause-input g c e = absurd (files_never c.in-FileCopy.from c.in-FileCopy.to _ c.copy_files.ensures.known (inr (inl (ap (λ (r : End). status_of r) e))))

pub returns-in-FileCopy-clause-spawning : goal.returns-in-FileCopy-clause-spawning
returns-in-FileCopy-clause-spawning g c e = absurd (files_never c.in-FileCopy.from c.in-FileCopy.to _ c.copy_files.ensures.known (inr (inr (ap (λ (r : End). status_of r) e))))
