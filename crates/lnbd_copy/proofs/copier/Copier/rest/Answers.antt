use Rattle.std.proofs.Common.{ap, sym, subst, ◌∙◌}
use Rattle.std.proofs.lemmas.Result.{on_ok_weaker}
use Rattle.lnbd_link.specs.Call.{Pause}
use Rattle.lnbd_link.specs.Part.{Adds}
use Rattle.lnbd_poll.specs.Held.{wants_now}
use Rattle.lnbd_copy.specs.Copier.{IsOnItsWay, Seen}
use Rattle.lnbd_copy.specs.Ready.{AreLive}
use Rattle.lnbd_copy.specs.Waits.{AreUnparted}
use Rattle.lnbd_copy.proofs.EndLemmas.{after_turn}
use Rattle.lnbd_copy.proofs.ReadyLemmas.{may_go_still, ready_same}
use Rattle.lnbd_copy.proofs.copier.Copier.rest.Goals as goal

pub returns-clause-on : goal.returns-clause-on
returns-clause-on g c =
    on_ok_weaker c.wait.result
    (λ goes start on. after_turn _ start c.self.inside.board c.wait.new.handles (g.W.Wires.told c.args.wires.now) (g.W.Wires.told c.wait.new.wires) (λ j. may_go_still j _ _ (ready_same _ _ c.wait.ensures.same) (subst AreLive (sym c.wait.ensures.same))) (λ none. none) (goes c.self.inside.board) (subst (λ (s : Seen). IsOnItsWay start (g.W.Wires.told c.args.wires.now) s) (sym c.self.view_is) on))
    c.wait.ensures.goes

pub returns-clause-pauses : goal.returns-clause-pauses
returns-clause-pauses g c =
    on_ok_weaker c.wait.result (λ adds. subst (λ (s : Seen). Adds (g.W.Wires.told c.args.wires.now) (g.W.Wires.told c.wait.new.wires) (Pause (wants_now s.held))) c.self.view_is adds) c.wait.ensures.pauses

pub returns-clause-unparted : goal.returns-clause-unparted
returns-clause-unparted g c = on_ok_weaker c.wait.result (λ unparted. subst (λ (s : Seen). AreUnparted s.held) c.self.view_is unparted) c.wait.ensures.unparted

pub returns-clause-same : goal.returns-clause-same
returns-clause-same g c = c.wait.ensures.same ∙ ap (λ (s : Seen). s.held) c.self.view_is
