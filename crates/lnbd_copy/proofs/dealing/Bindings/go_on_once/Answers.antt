use Rattle.std.proofs.Common.{◌≡◌, ◌<◌, ◌+◌, ℕ, false, ap, sym, subst, ◌∙◌}
use Rattle.lnbd_conduct.specs.declared.sides.Sides.{Sides}
use Rattle.lnbd_conduct.specs.Sides.{is_source}
use Rattle.lnbd_course.specs.Orders.{command_of}
use Rattle.lnbd_copy.specs.Ready.{MayTake}
use Rattle.lnbd_copy.proofs.DealingLemmas.{asks_keeps, over_keeps}
use Rattle.lnbd_copy.proofs.FitLemmas.{fit_nothing, fit_on, fit_over}
use Rattle.lnbd_copy.proofs.FewestLemmas.{fewer_nothing, fewer_on, fewer_over}
use Rattle.lnbd_copy.proofs.LawfulLemmas.{next_taken}
use Rattle.lnbd_copy.proofs.ReadyLemmas.{of_side_ready}
use Rattle.lnbd_copy.proofs.MovingLemmas.{on_came, on_fewer, over_came, over_fewer}
use Rattle.lnbd_copy.proofs.SpreadLemmas.{asked_within, deals_nothing, deals_on, deals_over, over_within}
use Rattle.lnbd_copy.proofs.UnderWayLemmas.{looked_on, looked_over}
use Rattle.lnbd_copy.proofs.dealing.Bindings.go_on_once.Goals as goal

pub returns-in-Over-clause-keeps : goal.returns-in-Over-clause-keeps
returns-in-Over-clause-keeps c =
    over_keeps c.args.board.now.how c.args.self.now.sides c.in-Over.slice c.in-Over.source c.in-Over.destination c.in_ok-next.next c.args.board.now c.next.new.self c.args.handles.now c.in-Over.is c.in_ok-next.ensures.ok

pub returns-in_ok-change_destination-in-Asks-clause-keeps : goal.returns-in_ok-change_destination-in-Asks-clause-keeps
returns-in_ok-change_destination-in-Asks-clause-keeps c =
    asks_keeps c.args.board.now.how c.args.self.now.sides c.sides.result c.in-Asks.slice c.in-Asks.destination c.in-Asks.change c.in_ok-next.next c.args.board.now c.next.new.self c.change_destination.new.board c.args.handles.now c.change_destination.new.handles
    c.sides.ensures.same c.in-Asks.is c.in_ok-next.ensures.ok c.in_ok-change_destination-in-Asks.ensures.board c.in_ok-change_destination-in-Asks.ensures.asked

pub returns-in-Over-clause-looked : goal.returns-in-Over-clause-looked
returns-in-Over-clause-looked c = looked_over c.args.board.now.how c.in-Over.slice c.in-Over.source c.in-Over.destination c.in_ok-next.next c.args.board.now c.next.new.self c.in-Over.is c.in_ok-next.ensures.ok

pub returns-in_ok-change_destination-in-Asks-clause-looked : goal.returns-in_ok-change_destination-in-Asks-clause-looked
returns-in_ok-change_destination-in-Asks-clause-looked c =
    looked_on c.args.board.now.how c.in-Asks.slice c.in-Asks.destination c.in-Asks.change c.in_ok-next.next c.args.board.now c.next.new.self c.change_destination.new.board c.in-Asks.is c.in_ok-next.ensures.ok c.in_ok-change_destination-in-Asks.ensures.board

pub returns-in-Nothing-clause-dealt : goal.returns-in-Nothing-clause-dealt
returns-in-Nothing-clause-dealt c limit = deals_nothing limit c.args.self.now.sides c.args.board.now.how c.in_ok-next.next c.args.board.now c.next.new.self c.args.self.now.bound c.in-Nothing.is c.in_ok-next.ensures.ok

pub returns-in-Over-clause-dealt : goal.returns-in-Over-clause-dealt
returns-in-Over-clause-dealt c limit =
    deals_over limit c.args.self.now.sides c.args.board.now.how c.in-Over.slice c.in-Over.source c.in-Over.destination c.in_ok-next.next c.args.board.now c.next.new.self c.args.self.now.bound c.release.new.self.bound c.in-Over.is c.in_ok-next.ensures.ok c.release.ensures.source c.release.ensures.destination

pub returns-in_ok-change_destination-in-Asks-clause-dealt : goal.returns-in_ok-change_destination-in-Asks-clause-dealt
returns-in_ok-change_destination-in-Asks-clause-dealt c limit =
    deals_on limit c.args.self.now.sides c.args.board.now.how c.in-Asks.slice c.in-Asks.destination c.in-Asks.change c.in_ok-next.next c.args.board.now c.next.new.self c.change_destination.new.board c.args.self.now.bound c.in-Asks.is c.in_ok-next.ensures.ok c.in_ok-change_destination-in-Asks.ensures.board

pub returns-in-Nothing-clause-fits : goal.returns-in-Nothing-clause-fits
returns-in-Nothing-clause-fits c size cells fit = fit_nothing size cells c.args.board.now.how c.in_ok-next.next c.args.board.now c.next.new.self c.in-Nothing.is c.in_ok-next.ensures.ok fit

pub returns-in-Over-clause-fits : goal.returns-in-Over-clause-fits
returns-in-Over-clause-fits c size cells fit = fit_over size cells c.args.board.now.how c.in-Over.slice c.in-Over.source c.in-Over.destination c.in_ok-next.next c.args.board.now c.next.new.self c.in-Over.is c.in_ok-next.ensures.ok fit

pub returns-in_ok-change_destination-in-Asks-clause-fits : goal.returns-in_ok-change_destination-in-Asks-clause-fits
returns-in_ok-change_destination-in-Asks-clause-fits c size cells fit =
    fit_on size cells c.args.board.now.how c.in-Asks.slice c.in-Asks.destination c.in-Asks.change c.in_ok-next.next c.args.board.now c.next.new.self c.change_destination.new.board c.in-Asks.is c.in_ok-next.ensures.ok c.in_ok-change_destination-in-Asks.ensures.board fit

pub returns-in-Nothing-clause-leaves : goal.returns-in-Nothing-clause-leaves
returns-in-Nothing-clause-leaves c = fewer_nothing c.args.board.now.how c.in_ok-next.next c.args.board.now c.next.new.self c.in-Nothing.is c.in_ok-next.ensures.ok

pub returns-in-Over-clause-leaves : goal.returns-in-Over-clause-leaves
returns-in-Over-clause-leaves c = fewer_over c.args.board.now.how c.in-Over.slice c.in-Over.source c.in-Over.destination c.in_ok-next.next c.args.board.now c.next.new.self c.in-Over.is c.in_ok-next.ensures.ok

pub returns-in_ok-change_destination-in-Asks-clause-leaves : goal.returns-in_ok-change_destination-in-Asks-clause-leaves
returns-in_ok-change_destination-in-Asks-clause-leaves c =
    fewer_on c.args.board.now.how c.in-Asks.slice c.in-Asks.destination c.in-Asks.change c.in_ok-next.next c.args.board.now c.next.new.self c.change_destination.new.board c.in-Asks.is c.in_ok-next.ensures.ok c.in_ok-change_destination-in-Asks.ensures.board

pub returns-in-Over-clause-none : goal.returns-in-Over-clause-none
returns-in-Over-clause-none c none = over_came c.args.board.now.how c.in-Over.slice c.in-Over.source c.in-Over.destination c.in_ok-next.next c.args.board.now c.next.new.self c.in-Over.is c.in_ok-next.ensures.ok none

pub returns-in_ok-change_destination-in-Asks-clause-none : goal.returns-in_ok-change_destination-in-Asks-clause-none
returns-in_ok-change_destination-in-Asks-clause-none c none = on_came c.args.board.now.how c.in-Asks.slice c.in-Asks.destination c.in-Asks.change c.in_ok-next.next c.args.board.now c.next.new.self c.in-Asks.is c.in_ok-next.ensures.ok none

pub change_destination-requires-clause-may : goal.change_destination-requires-clause-may
change_destination-requires-clause-may c =
    subst (λ (s : Sides). (index : ℕ) → is_source s index ≡ false → MayTake index (command_of c.in-Asks.slice c.in-Asks.change) c.args.handles.now) (sym c.sides.ensures.same)
    (next_taken c.args.self.now.sides c.args.board.now.how c.args.handles.now c.in-Asks.slice c.in-Asks.destination c.in-Asks.change c.in_ok-next.next c.args.board.now c.next.new.self c.requires.may c.in-Asks.is c.in_ok-next.ensures.ok)

pub returns-in_ok-change_destination-in-Asks-clause-ready : goal.returns-in_ok-change_destination-in-Asks-clause-ready
returns-in_ok-change_destination-in-Asks-clause-ready c = of_side_ready _ _ _ _ _ _ c.in_ok-change_destination-in-Asks.ensures.asked

pub release-requires-clause-source : goal.release-requires-clause-source
release-requires-clause-source c = (over_within c.args.board.now.how c.args.self.now.sides c.args.self.now.bound c.in-Over.slice c.in-Over.source c.in-Over.destination c.in_ok-next.next c.args.board.now c.next.new.self c.in-Over.is c.in_ok-next.ensures.ok c.requires.dealt).0

pub release-requires-clause-destination : goal.release-requires-clause-destination
release-requires-clause-destination c = (over_within c.args.board.now.how c.args.self.now.sides c.args.self.now.bound c.in-Over.slice c.in-Over.source c.in-Over.destination c.in_ok-next.next c.args.board.now c.next.new.self c.in-Over.is c.in_ok-next.ensures.ok c.requires.dealt).1

pub change_destination-requires-clause-here : goal.change_destination-requires-clause-here
change_destination-requires-clause-here c =
    subst (λ (s : Sides). c.in-Asks.destination < s.destination) (sym c.sides.ensures.same)
    (asked_within c.args.board.now.how c.args.self.now.sides c.args.self.now.bound c.in-Asks.slice c.in-Asks.destination c.in-Asks.change c.in_ok-next.next c.args.board.now c.next.new.self c.in-Asks.is c.in_ok-next.ensures.ok c.requires.dealt)

pub change_destination-requires-clause-many : goal.change_destination-requires-clause-many
change_destination-requires-clause-many c = c.requires.may.may.ready.many ∙ ap (λ (s : Sides). s.source + s.destination) (sym c.sides.ensures.same)

pub returns-in-Over-clause-fewer : goal.returns-in-Over-clause-fewer
returns-in-Over-clause-fewer c went = over_fewer c.args.board.now.how c.in-Over.slice c.in-Over.source c.in-Over.destination c.in_ok-next.next c.args.board.now c.next.new.self c.in-Over.is c.in_ok-next.ensures.ok

pub returns-in_ok-change_destination-in-Asks-clause-fewer : goal.returns-in_ok-change_destination-in-Asks-clause-fewer
returns-in_ok-change_destination-in-Asks-clause-fewer c went =
    on_fewer c.args.board.now.how c.in-Asks.slice c.in-Asks.destination c.in-Asks.change c.in_ok-next.next c.args.board.now c.next.new.self c.change_destination.new.board c.in-Asks.is c.in_ok-next.ensures.ok c.in_ok-change_destination-in-Asks.ensures.board
