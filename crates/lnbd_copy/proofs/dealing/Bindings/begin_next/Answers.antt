use Rattle.lnbd_copy.proofs.DealingLemmas.{taken_some}
use Rattle.lnbd_copy.proofs.ReadyLemmas.{copy_of}
use Rattle.lnbd_copy.proofs.UnderWayLemmas.{begun_one, none_begun}
use Rattle.lnbd_copy.proofs.dealing.Bindings.begin_next.Goals as goal

pub begin_one-requires-clause-may : goal.begin_one-requires-clause-may
begin_one-requires-clause-may c = copy_of c.args.self.now.sides c.args.board.now.how.zeroes c.args.windows.now c.in-Some.slice c.args.handles.now c.in-Some.ensures.fits c.requires.may

pub returns-in_ok-begin_one-in-Some-clause-fits : goal.returns-in_ok-begin_one-in-Some-clause-fits
returns-in_ok-begin_one-in-Some-clause-fits c rows = c.in_ok-begin_one-in-Some.ensures.fits c.args.windows.now.size c.args.windows.now.plan.cells c.in-Some.ensures.fits rows

pub returns-in-None-clause-next : goal.returns-in-None-clause-next
returns-in-None-clause-next c = none_begun c.next.result c.args.windows.now c.next.new.self c.args.board.now c.in-None.is c.next.ensures.slices c.next.ensures.others c.next.ensures.some

pub returns-in_ok-begin_one-in-Some-clause-next : goal.returns-in_ok-begin_one-in-Some-clause-next
returns-in_ok-begin_one-in-Some-clause-next c =
    begun_one c.in-Some.slice c.args.windows.now c.next.new.self c.args.board.now c.begin_one.new.board (taken_some c.next.result c.in-Some.slice _ _ c.in-Some.is c.next.ensures.slices) c.in_ok-begin_one-in-Some.ensures.more

pub returns-in_ok-begin_one-in-Some-clause-begun : goal.returns-in_ok-begin_one-in-Some-clause-begun
returns-in_ok-begin_one-in-Some-clause-begun c is = c.in_ok-begin_one-in-Some.ensures.begun
