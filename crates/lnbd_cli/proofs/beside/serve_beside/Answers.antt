use Rattle.std.proofs.Common.{inl, inr, ℕ, Result, Ok, Err, refl}
use Rattle.lnbd_child.specs.Serving as child
use Rattle.lnbd_child.specs.declared.fault.RunFault.{RunFault}
use Rattle.lnbd_cli.specs.Beside.{Went}
use Rattle.lnbd_cli.proofs.BesideLemmas.{all_done, as_counted, long, not_counted, risen, told_link, told_output, told_silent, told_spawn, told_store}
use Rattle.lnbd_cli.proofs.beside.serve_beside.Goals as goal

pub returns-in-Ok-look-clause-ends : goal.returns-in-Ok-look-clause-ends
returns-in-Ok-look-clause-ends g c = Went (Ok _) (inl refl) c.in-Ok.ensures.goes

pub returns-in-Err-look-clause-ends : goal.returns-in-Err-look-clause-ends
returns-in-Err-look-clause-ends g c = Went (Ok _) (inr (as_counted _ c.in-Err-look.ensures.only)) c.in-Ok.ensures.goes

pub returns-in-Err-clause-ends : goal.returns-in-Err-clause-ends
returns-in-Err-clause-ends g c = Went (Err c.in-Err.fault) (c.told.result, refl, c.told.ensures.told) c.in-Err.ensures.goes

pub returns-in-Ok-look-clause-file : goal.returns-in-Ok-look-clause-file
returns-in-Ok-look-clause-file g c done = record { answer = Ok _; serves = c.in-Ok.ensures.file refl; has = refl }

pub returns-in-Err-look-clause-file : goal.returns-in-Err-look-clause-file
returns-in-Err-look-clause-file g c done = absurd (not_counted _ c.in-Err-look.ensures.only done)

pub returns-in-Err-clause-file : goal.returns-in-Err-clause-file
returns-in-Err-clause-file g c done =
    let a = all_done (λ (r : Result ℕ RunFault). child.ServesFile c.args.asked.now (g.W.Wires.told c.args.wires.now) (g.W.Wires.told c.serve_child.new.wires)
    (g.S.Store.shelf c.args.store.now) (g.S.Store.shelf c.serve_child.new.store) r)
    c.in-Err.fault c.told.result c.told.ensures.told c.in-Err.ensures.file done in
    record { answer = a.0; serves = a.1; has = a.2 }

pub returns-in-Ok-look-clause-child : goal.returns-in-Ok-look-clause-child
returns-in-Ok-look-clause-child g c done = record { answer = Ok _; runs = c.in-Ok.ensures.child refl; has = refl }

pub returns-in-Err-look-clause-child : goal.returns-in-Err-look-clause-child
returns-in-Err-look-clause-child g c done = absurd (not_counted _ c.in-Err-look.ensures.only done)

pub returns-in-Err-clause-child : goal.returns-in-Err-clause-child
returns-in-Err-clause-child g c done =
    let a = all_done (λ (r : Result ℕ RunFault). child.RunsChild c.args.asked.now.run c.args.asked.now.uri (g.P.Spawner.told c.args.spawn.now) (g.P.Spawner.told c.serve_child.new.spawn) r)
    c.in-Err.fault c.told.result c.told.ensures.told c.in-Err.ensures.child done in
    record { answer = a.0; runs = a.1; has = a.2 }

pub returns-in-Err-clause-link : goal.returns-in-Err-clause-link
returns-in-Err-clause-link g c = told_link _ c.in-Err.fault c.told.result c.told.ensures.told
    (λ b a e. risen g.W.Wires.faults c.args.wires.now c.serve_child.new.wires b a (c.in-Err.ensures.link b a e))

pub returns-in-Err-clause-silent : goal.returns-in-Err-clause-silent
returns-in-Err-clause-silent g c = told_silent _ c.in-Err.fault c.told.result c.told.ensures.told
    (λ n e. long g.W.Wires.idles c.args.wires.now c.serve_child.new.wires n (c.in-Err.ensures.silent n e))

pub returns-in-Err-clause-output : goal.returns-in-Err-clause-output
returns-in-Err-clause-output g c = told_output _ c.in-Err.fault c.told.result c.told.ensures.told c.in-Err.ensures.output

pub returns-in-Err-clause-storing : goal.returns-in-Err-clause-storing
returns-in-Err-clause-storing g c = told_store _ c.in-Err.fault c.told.result c.told.ensures.told
    (λ b a e. risen g.S.Store.faults c.args.store.now c.serve_child.new.store b a (c.in-Err.ensures.store b a e))

pub returns-in-Err-clause-spawning : goal.returns-in-Err-clause-spawning
returns-in-Err-clause-spawning g c = told_spawn _ c.in-Err.fault c.told.result c.told.ensures.told
    (λ b a e. risen g.P.Spawner.faults c.args.spawn.now c.serve_child.new.spawn b a (c.in-Err.ensures.spawn b a e))
    (λ done. let f = c.in-Err.ensures.file done in (f.served, f.ended, f.answer))
