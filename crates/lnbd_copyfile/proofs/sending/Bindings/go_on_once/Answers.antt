use Rattle.lnbd_copyfile.proofs.SendingLemmas.{passes_asks, passes_nothing, passes_over}
use Rattle.lnbd_copyfile.proofs.SentLemmas.{fewer_on, fewer_over}
use Rattle.lnbd_copyfile.proofs.sending.Bindings.go_on_once.Goals as goal
use Rattle.lnbd_copyfile.proofs.DealtLemmas.{deals_nothing, deals_on, deals_over}

pub returns-in-Nothing-clause-passes : goal.returns-in-Nothing-clause-passes
returns-in-Nothing-clause-passes c = passes_nothing c.in_ok-next.next c.args.board.now c.next.new.self c.args.handles.now c.in-Nothing.is c.in_ok-next.ensures.ok

pub returns-in-Over-clause-passes : goal.returns-in-Over-clause-passes
returns-in-Over-clause-passes c =
    passes_over c.in_ok-next.next c.in-Over.slice c.in-Over.source c.in-Over.destination c.args.board.now c.next.new.self c.args.handles.now c.in-Over.is c.in_ok-next.ensures.ok

pub returns-in_ok-ask_change-in-Asks-clause-passes : goal.returns-in_ok-ask_change-in-Asks-clause-passes
returns-in_ok-ask_change-in-Asks-clause-passes c =
    passes_asks c.in_ok-next.next c.in-Asks.slice c.in-Asks.destination c.in-Asks.change c.args.board.now c.next.new.self c.ask_change.new.board c.args.handles.now c.ask_change.new.handles
    c.in-Asks.is c.in_ok-next.ensures.ok c.in_ok-ask_change-in-Asks.ensures.board c.in_ok-ask_change-in-Asks.ensures.asked

pub returns-in-Nothing-clause-deals : goal.returns-in-Nothing-clause-deals
returns-in-Nothing-clause-deals c limit = deals_nothing limit c.args.board.now.how c.in_ok-next.next c.args.board.now c.next.new.self c.args.self.now c.in-Nothing.is c.in_ok-next.ensures.ok

pub returns-in-Over-clause-deals : goal.returns-in-Over-clause-deals
returns-in-Over-clause-deals c limit =
    deals_over limit c.args.board.now.how c.in-Over.slice c.in-Over.source c.in-Over.destination c.in_ok-next.next c.args.board.now c.next.new.self c.args.self.now c.release.new.self c.in-Over.is
    c.in_ok-next.ensures.ok c.release.ensures

pub returns-in_ok-ask_change-in-Asks-clause-deals : goal.returns-in_ok-ask_change-in-Asks-clause-deals
returns-in_ok-ask_change-in-Asks-clause-deals c limit =
    deals_on limit c.args.board.now.how c.in-Asks.slice c.in-Asks.destination c.in-Asks.change c.in_ok-next.next c.args.board.now c.next.new.self c.ask_change.new.board c.args.self.now c.in-Asks.is
    c.in_ok-next.ensures.ok c.in_ok-ask_change-in-Asks.ensures.board

pub returns-in-Over-clause-fewer : goal.returns-in-Over-clause-fewer
returns-in-Over-clause-fewer c =
    fewer_over c.args.board.now.how c.in-Over.slice c.in-Over.source c.in-Over.destination c.in_ok-next.next c.args.board.now c.next.new.self c.in-Over.is c.in_ok-next.ensures.ok

pub returns-in_ok-ask_change-in-Asks-clause-fewer : goal.returns-in_ok-ask_change-in-Asks-clause-fewer
returns-in_ok-ask_change-in-Asks-clause-fewer c =
    fewer_on c.args.board.now.how c.in-Asks.slice c.in-Asks.destination c.in-Asks.change c.in_ok-next.next c.args.board.now c.next.new.self c.ask_change.new.board c.in-Asks.is
    c.in_ok-next.ensures.ok c.in_ok-ask_change-in-Asks.ensures.board
