use Rattle.std.proofs.Common.{refl}
use Rattle.lnbd_poll.proofs.NoticeLemmas.{hears_as, hears_end, hears_fault, hears_nothing, placed_all}
use Rattle.lnbd_poll.proofs.notify.hear_placed.Goals as goal

pub returns-in-Bytes-clause-hears : goal.returns-in-Bytes-clause-hears
returns-in-Bytes-clause-hears g c =
    let count = rw c.in-Bytes.is at c.requires.count in
    hears_as g.K.Caller.steps _ _ _ _ _ c.args.got _ c.args.handle.now.place _ c.in-Bytes.is (placed_all g.K.Caller.steps c.args.handle.now.machine c.placed.new.self.machine c.args.world.now c.in-Bytes.n c.args.handle.now.place (g.met.K.Caller.empty c.args.world.now) count.0 count.1 (c.placed.ensures.stands c.requires.living))

pub returns-in-NotReady-clause-hears : goal.returns-in-NotReady-clause-hears
returns-in-NotReady-clause-hears g c = hears_as g.K.Caller.steps _ _ _ _ _ c.args.got _ c.args.handle.now.place _ c.in-NotReady.is (hears_nothing g.K.Caller.steps c.args.handle.now.machine _ c.args.world.now refl)

pub returns-in-End-clause-hears : goal.returns-in-End-clause-hears
returns-in-End-clause-hears g c = hears_as g.K.Caller.steps _ _ _ _ _ c.args.got _ c.args.handle.now.place _ c.in-End.is (hears_end g.K.Caller.steps _ _ _ _ _ refl c.ended.ensures.stands)

pub returns-in-Failed-clause-hears : goal.returns-in-Failed-clause-hears
returns-in-Failed-clause-hears g c = hears_as g.K.Caller.steps _ _ _ _ _ c.args.got _ c.args.handle.now.place _ c.in-Failed.is (hears_fault g.K.Caller.steps _ _ _ _ _ refl c.link_failed.ensures.stands)
