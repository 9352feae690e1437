use Rattle.std.proofs.Common.{◌+◌, ◌<◌, false, refl, ap, sym, subst, ◌∙◌}
use Rattle.std.proofs.lemmas.Result.{on_ok_weaker}
use Rattle.lnbd_board.specs.Board.{first_row}
use Rattle.lnbd_conduct.specs.declared.sides.Sides.{Sides}
use Rattle.lnbd_copy.specs.Ready.{MayTakeFirst}
use Rattle.lnbd_copy.proofs.DealingLemmas.{begun_keeps, on_ok_both}
use Rattle.lnbd_copy.proofs.FitLemmas.{fit_begun}
use Rattle.lnbd_copy.proofs.FewestLemmas.{begun_adds}
use Rattle.lnbd_copy.proofs.LawfulLemmas.{first_taken}
use Rattle.lnbd_copy.proofs.MovingLemmas.{one_begun}
use Rattle.lnbd_copy.proofs.ReadyLemmas.{first_ready}
use Rattle.lnbd_copy.proofs.SpreadLemmas.{deals_begun}
use Rattle.lnbd_copy.proofs.UnderWayLemmas.{begun_more}
use Rattle.lnbd_copy.proofs.dealing.Bindings.begin_one.Goals as goal

pub returns-clause-keeps : goal.returns-clause-keeps
returns-clause-keeps c =
    on_ok_both c.ask_first.result
    (λ asked same. begun_keeps c.args.board.now.how c.args.self.now.sides c.sides.result c.args.slice c.begun-number.result (first_row c.args.slice c.fewest-source.result.0 c.fewest-source.result.1) c.in_ok-first.first
    c.args.board.now c.begin.new.self c.ask_first.new.board c.args.handles.now c.ask_first.new.handles
    (c.sides.ensures.same ∙ c.bind.ensures.sides) c.begun-number.ensures c.in_ok-first.ensures.row c.in_ok-first.ensures.ok same asked)
    c.ask_first.ensures.asked c.ask_first.ensures.board

pub returns-clause-more : goal.returns-clause-more
returns-clause-more c = on_ok_weaker c.ask_first.result (λ same. begun_more (first_row c.args.slice c.fewest-source.result.0 c.fewest-source.result.1) c.in_ok-first.first c.args.board.now c.begin.new.self c.ask_first.new.board c.in_ok-first.ensures.row same) c.ask_first.ensures.board

pub returns-clause-dealt : goal.returns-clause-dealt
returns-clause-dealt c =
    on_ok_weaker c.ask_first.result
    (λ same limit fits less. deals_begun limit c.args.self.now.sides (first_row c.args.slice c.fewest-source.result.0 c.fewest-source.result.1) c.in_ok-first.first c.args.board.now c.begin.new.self c.ask_first.new.board c.args.self.now.bound c.bind.new.self.bound c.in_ok-first.ensures.row same
    c.fewest-source.ensures.few_of_source c.fewest-source.ensures.few_of_destination c.bind.ensures.source c.bind.ensures.destination fits less)
    c.ask_first.ensures.board

pub returns-clause-fits : goal.returns-clause-fits
returns-clause-fits c =
    on_ok_weaker c.ask_first.result
    (λ same size cells fit rows. fit_begun size cells (first_row c.args.slice c.fewest-source.result.0 c.fewest-source.result.1) c.in_ok-first.first c.args.board.now c.begin.new.self c.ask_first.new.board c.in_ok-first.ensures.row same fit rows)
    c.ask_first.ensures.board

pub returns-clause-fewest : goal.returns-clause-fewest
returns-clause-fewest c =
    on_ok_weaker c.ask_first.result
    (λ same dealt. begun_adds c.args.self.now.sides (first_row c.args.slice c.fewest-source.result.0 c.fewest-source.result.1) c.in_ok-first.first c.args.board.now c.begin.new.self c.ask_first.new.board c.args.self.now.bound c.in_ok-first.ensures.row same
    c.fewest-source.ensures.few_of_source c.fewest-source.ensures.few_of_destination dealt)
    c.ask_first.ensures.board

pub returns-clause-begun : goal.returns-clause-begun
returns-clause-begun c = on_ok_weaker c.ask_first.result (λ same. one_begun (first_row c.args.slice c.fewest-source.result.0 c.fewest-source.result.1) c.in_ok-first.first c.args.board.now c.begin.new.self c.ask_first.new.board c.in_ok-first.ensures.row same) c.ask_first.ensures.board

pub ask_first-requires-clause-may : goal.ask_first-requires-clause-may
ask_first-requires-clause-may c =
    subst (λ (s : Sides). MayTakeFirst s c.begun-number.result c.in_ok-first.first c.args.handles.now) (sym (c.sides.ensures.same ∙ c.bind.ensures.sides))
    (first_taken c.args.self.now.sides c.args.board.now.how.zeroes false false c.args.handles.now c.requires.may.may c.args.board.now.how c.args.slice c.begun-number.result c.in_ok-first.first c.requires.may.fit c.in_ok-first.ensures.inside refl)

pub returns-clause-ready : goal.returns-clause-ready
returns-clause-ready c = on_ok_weaker c.ask_first.result (λ asked. first_ready _ _ _ _ c.in_ok-first.first c.args.handles.now c.ask_first.new.handles asked) c.ask_first.ensures.asked

pub ask_first-requires-clause-here : goal.ask_first-requires-clause-here
ask_first-requires-clause-here c = subst (λ (s : Sides). c.fewest-source.result.1 < s.destination) (sym (c.sides.ensures.same ∙ c.bind.ensures.sides)) c.fewest-source.ensures.destination

pub ask_first-requires-clause-many : goal.ask_first-requires-clause-many
ask_first-requires-clause-many c = c.requires.may.may.ready.many ∙ ap (λ (s : Sides). s.source + s.destination) (sym (c.sides.ensures.same ∙ c.bind.ensures.sides))
