use Rattle.std.proofs.Common.{[], ◌≢◌, ap, sym, subst, ◌∙◌}
use Rattle.lnbd_copy.specs.Copier.{HasJob, IsOnItsWay, Seen}
use Rattle.lnbd_copy.proofs.EndLemmas.{after_turn}
use Rattle.lnbd_conduct.specs.Grounds.{IsGrounded}
use Rattle.lnbd_copy.specs.Way.{Stand}
use Rattle.lnbd_conduct.specs.Told.{Told}
use Rattle.lnbd_copy.proofs.DecidedLemmas.{decided_grounded, way_decided}
use Rattle.lnbd_copy.proofs.FullLemmas.{turned_unpaused, cut_unpaused}
use Rattle.lnbd_conduct.specs.Changes.{Behaves}
use Rattle.lnbd_copy.proofs.FaultLemmas.{cut_behaves, whole_behaves}
use Rattle.lnbd_copy.proofs.GroundLemmas.{handed_on}
use Rattle.lnbd_copy.proofs.ReadyLemmas.{alive_live, live_alive, may_go_still, turned_ready}
use Rattle.lnbd_copy.specs.Fewest.{LeavesFewer}
use Rattle.lnbd_copy.proofs.FewestLemmas.{fewer_filed}
use Rattle.lnbd_copy.proofs.TurnLemmas.{turned_goes}
use Rattle.lnbd_copy.specs.Links.{LinksGo}
use Rattle.lnbd_copy.proofs.LinkLemmas.{links_cut, links_turned}
use Rattle.lnbd_copy.specs.Moving.{Stirs}
use Rattle.lnbd_copy.proofs.MovingLemmas.{turned_same, turned_stirs}
use Rattle.lnbd_copy.specs.Tried.{TriesAll}
use Rattle.lnbd_copy.proofs.TriedLemmas.{way_tries}
use Rattle.lnbd_copy.proofs.VainLemmas.{turned_vain}
use Rattle.lnbd_copy.proofs.DrivingLemmas.{goes_drive, cut_drives}
use Rattle.lnbd_conduct.specs.Decided.{IsDecided}
use Rattle.lnbd_copy.specs.Deciding.{WasUntroubledAs}
use Rattle.lnbd_copy.proofs.DecidingLemmas.{way_calm}
use Rattle.lnbd_copy.proofs.DrivenAsLemmas.{way_driven}
use Rattle.lnbd_conduct.specs.Connects.{AreDrivenBy}
use Rattle.lnbd_copy.proofs.PaceTurns.{cut_tires, turned_tires}
use Rattle.lnbd_copy.proofs.copier.Copier.take_turn.Goals as goal

pub returns-clause-on : goal.returns-clause-on
returns-clause-on g c start on =
    let was = subst (λ (s : Seen). IsOnItsWay start (g.W.Wires.told c.args.wires.now) s) (sym c.self.view_is) on in
    let goes = turned_goes _ _ _ _ c.in_ok-moved.moved _ _ _ _ c.in_ok-moved.ensures.ok in
    let calm = c.in_ok-moved.ensures.calm in
    after_turn _ start c.turn.new.board c.turn.new.handles (g.W.Wires.told c.args.wires.now) (g.W.Wires.told c.turn.new.wires)
    (λ j. may_go_still j _ _ (turned_ready _ _ _ _ c.in_ok-moved.moved _ _ _ _ c.in_ok-moved.ensures.ok calm.alive) (λ live. alive_live _ (goes.stand was.stand) calm.alive)) (λ none. calm.well) goes was

pub returns-clause-unpaused : goal.returns-clause-unpaused
returns-clause-unpaused g c stand = turned_unpaused _ _ _ _ c.in_ok-moved.moved _ _ _ _ c.in_ok-moved.ensures.ok (subst (λ (s : Seen). Stand s.held) (sym c.self.view_is) stand)

pub returns-clause-leaves : goal.returns-clause-leaves
returns-clause-leaves g c stand =
    subst (λ (s : Seen). LeavesFewer s.board c.turn.new.board) c.self.view_is
    (fewer_filed _ _ ((turned_goes _ _ _ _ c.in_ok-moved.moved _ _ _ _ c.in_ok-moved.ensures.ok).filed (subst (λ (s : Seen). Stand s.held) (sym c.self.view_is) stand)))

pub returns-clause-still : goal.returns-clause-still
returns-clause-still g c still stand = turned_vain _ _ _ _ c.in_ok-moved.moved _ _ _ _ c.in_ok-moved.ensures.ok still (subst (λ (s : Seen). Stand s.held) (sym c.self.view_is) stand)

pub returns-in_err-moved-clause-links : goal.returns-in_err-moved-clause-links
returns-in_err-moved-clause-links g c =
    subst (λ (s : Seen). Stand s.held → LinksGo [] s.held (g.W.Wires.told c.args.wires.now) c.turn.new.handles (g.W.Wires.told c.turn.new.wires)) c.self.view_is (links_cut _ _ _ _ _ _ _ _ c.in_err-moved.ensures.cut)

pub returns-clause-links : goal.returns-clause-links
returns-clause-links g c =
    subst (λ (s : Seen). Stand s.held → LinksGo [] s.held (g.W.Wires.told c.args.wires.now) c.turn.new.handles (g.W.Wires.told c.turn.new.wires)) c.self.view_is (links_turned _ _ _ _ c.in_ok-moved.moved _ _ _ _ c.in_ok-moved.ensures.ok)

pub returns-clause-fair : goal.returns-clause-fair
returns-clause-fair g c start on two fair =
    subst (λ (s : Seen). Told start (g.W.Wires.told c.turn.new.wires) (Behaves s.options s.from s.to)) c.self.view_is
    (whole_behaves _ c.turn.new.board c.turn.new.handles start (g.W.Wires.told c.args.wires.now) (g.W.Wires.told c.turn.new.wires) _ _ c.in_ok-moved.moved c.in_ok-moved.ensures.ok (subst HasJob (sym c.self.view_is) c.requires.job).well
    (subst (λ (s : Seen). IsOnItsWay start (g.W.Wires.told c.args.wires.now) s) (sym c.self.view_is) on) (subst (λ (s : Seen). s.from ≢ s.to) (sym c.self.view_is) two)
    (subst (λ (s : Seen). Told start (g.W.Wires.told c.args.wires.now) (Behaves s.options s.from s.to)) (sym c.self.view_is) fair))

pub returns-in_err-moved-clause-fair : goal.returns-in_err-moved-clause-fair
returns-in_err-moved-clause-fair g c start on two fair =
    subst (λ (s : Seen). Told start (g.W.Wires.told c.turn.new.wires) (Behaves s.options s.from s.to)) c.self.view_is
    (cut_behaves _ c.turn.new.board c.turn.new.handles start (g.W.Wires.told c.args.wires.now) (g.W.Wires.told c.turn.new.wires) _ _ c.in_err-moved.ensures.cut (subst HasJob (sym c.self.view_is) c.requires.job).well
    (subst (λ (s : Seen). IsOnItsWay start (g.W.Wires.told c.args.wires.now) s) (sym c.self.view_is) on) (subst (λ (s : Seen). s.from ≢ s.to) (sym c.self.view_is) two)
    (subst (λ (s : Seen). Told start (g.W.Wires.told c.args.wires.now) (Behaves s.options s.from s.to)) (sym c.self.view_is) fair))

pub returns-in_err-moved-clause-unpaused : goal.returns-in_err-moved-clause-unpaused
returns-in_err-moved-clause-unpaused g c stand = cut_unpaused _ _ _ _ _ _ _ _ c.in_err-moved.ensures.cut (subst (λ (s : Seen). Stand s.held) (sym c.self.view_is) stand)

pub returns-clause-same : goal.returns-clause-same
returns-clause-same g c still stand = turned_same _ _ _ _ c.in_ok-moved.moved _ _ _ _ c.in_ok-moved.ensures.ok still (subst (λ (s : Seen). Stand s.held) (sym c.self.view_is) stand) ∙ ap (λ (s : Seen). s.board) c.self.view_is

pub returns-clause-moved : goal.returns-clause-moved
returns-clause-moved g c count moves stand =
    subst (λ (s : Seen). Stirs s.held (g.W.Wires.told c.args.wires.now) (g.W.Wires.told c.turn.new.wires)) c.self.view_is
    (turned_stirs _ _ _ _ c.in_ok-moved.moved _ _ _ _ count c.in_ok-moved.ensures.ok moves (subst (λ (s : Seen). Stand s.held) (sym c.self.view_is) stand))

pub returns-clause-drives : goal.returns-clause-drives
returns-clause-drives g c start on =
    subst (λ (s : Seen). Told start (g.W.Wires.told c.turn.new.wires) (AreDrivenBy s.options s.from s.to)) c.self.view_is
    (way_driven _ start _ _ (goes_drive _ _ _ _ _ _ (turned_goes _ _ _ _ c.in_ok-moved.moved _ _ _ _ c.in_ok-moved.ensures.ok)) (subst (λ (s : Seen). IsOnItsWay start (g.W.Wires.told c.args.wires.now) s) (sym c.self.view_is) on))

pub returns-in_err-moved-clause-drives : goal.returns-in_err-moved-clause-drives
returns-in_err-moved-clause-drives g c start on =
    subst (λ (s : Seen). Told start (g.W.Wires.told c.turn.new.wires) (AreDrivenBy s.options s.from s.to)) c.self.view_is
    (way_driven _ start _ _ (cut_drives _ _ _ _ _ _ _ _ c.in_err-moved.ensures.cut) (subst (λ (s : Seen). IsOnItsWay start (g.W.Wires.told c.args.wires.now) s) (sym c.self.view_is) on))

pub returns-in_err-moved-clause-grounds : goal.returns-in_err-moved-clause-grounds
returns-in_err-moved-clause-grounds g c =
    handed_on _ c.from_residual.result _ c.from_residual.ensures.1 (λ start on.
    subst (λ (s : Seen). IsGrounded start (g.W.Wires.told c.turn.new.wires) s.options.extents s.from s.to c.in_err-moved.field-0.0) c.self.view_is
    (decided_grounded _ _ _ _ _ _ (way_decided _ start (g.W.Wires.told c.args.wires.now) (g.W.Wires.told c.turn.new.wires) _ c.in_err-moved.ensures.decides (cut_drives _ _ _ _ _ _ _ _ c.in_err-moved.ensures.cut).lasts
    (subst (λ (s : Seen). IsOnItsWay start (g.W.Wires.told c.args.wires.now) s) (sym c.self.view_is) on))))

pub returns-in_err-moved-clause-decides : goal.returns-in_err-moved-clause-decides
returns-in_err-moved-clause-decides g c =
    handed_on _ c.from_residual.result _ c.from_residual.ensures.1 (λ start on.
    subst (λ (s : Seen). IsDecided start (g.W.Wires.told c.turn.new.wires) s.options s.from s.to c.in_err-moved.field-0.0) c.self.view_is
    (way_decided _ start (g.W.Wires.told c.args.wires.now) (g.W.Wires.told c.turn.new.wires) _ c.in_err-moved.ensures.decides (cut_drives _ _ _ _ _ _ _ _ c.in_err-moved.ensures.cut).lasts
    (subst (λ (s : Seen). IsOnItsWay start (g.W.Wires.told c.args.wires.now) s) (sym c.self.view_is) on)))

pub returns-clause-untroubled : goal.returns-clause-untroubled
returns-clause-untroubled g c start on =
    subst (λ (s : Seen). Told start (g.W.Wires.told c.turn.new.wires) (WasUntroubledAs s.options s.from s.to)) c.self.view_is
    (way_calm _ start _ _ _ _ (turned_goes _ _ _ _ c.in_ok-moved.moved _ _ _ _ c.in_ok-moved.ensures.ok) c.in_ok-moved.ensures.calm (subst (λ (s : Seen). IsOnItsWay start (g.W.Wires.told c.args.wires.now) s) (sym c.self.view_is) on))

pub returns-clause-tries : goal.returns-clause-tries
returns-clause-tries g c start on =
    subst (λ (s : Seen). TriesAll s.held (g.W.Wires.told c.args.wires.now) (g.W.Wires.told c.turn.new.wires)) c.self.view_is
    (way_tries _ start _ _ _ _ c.in_ok-moved.moved c.turn.new.board c.turn.new.handles c.in_ok-moved.ensures.ok (subst (λ (s : Seen). IsOnItsWay start (g.W.Wires.told c.args.wires.now) s) (sym c.self.view_is) on))

pub returns-clause-once : goal.returns-clause-once
returns-clause-once g c start on =
    let way = subst (λ (s : Seen). IsOnItsWay start (g.W.Wires.told c.args.wires.now) s) (sym c.self.view_is) on in
    turned_tires _ way.way _ _ start _ way.on _ _ _ _ _ way.stand c.in_ok-moved.moved c.in_ok-moved.ensures.ok

pub returns-in_err-moved-clause-once : goal.returns-in_err-moved-clause-once
returns-in_err-moved-clause-once g c start on =
    let way = subst (λ (s : Seen). IsOnItsWay start (g.W.Wires.told c.args.wires.now) s) (sym c.self.view_is) on in
    cut_tires _ way.way _ _ start _ way.on _ _ _ _ _ way.stand c.in_err-moved.ensures.cut

pub turn-requires-clause-calm : goal.turn-requires-clause-calm
turn-requires-clause-calm g c = let has = subst HasJob (sym c.self.view_is) c.requires.job in record { alive = live_alive _ has.may.live; well = has.well; fit = tt }
