use Rattle.std.proofs.Common.{◌≡◌, ◌==◌, ℕ, zero, suc, not, Option, refl, ap, sym, subst, ◌∙◌}
use Rattle.std.proofs.lemmas.Bool.{eqb-true, false≢true, not-false}
use Rattle.lnbd_poll.specs.declared.noticed.Turn.{Turn}
use Rattle.lnbd_poll.specs.declared.noticed.Turn.TheVariants as turn
use Rattle.lnbd_copy.specs.Copier.{Seen}
use Rattle.lnbd_copy.specs.Moving.{HasMoved, Stirs}
use Rattle.lnbd_copy.specs.Fewest.{GoesToFewest}
use Rattle.lnbd_copy.specs.Job.{Seen as Task}
use Rattle.lnbd_copy.proofs.FewestLemmas.{goes_after}
use Rattle.lnbd_copy.proofs.CauseLemmas.{goes_then}
use Rattle.lnbd_copy.proofs.EndLemmas.{finished, has_job, way_answers, way_asks}
use Rattle.lnbd_copy.proofs.FaultLemmas.{behaves_idly}
use Rattle.lnbd_copy.proofs.FlushLemmas.{flushed}
use Rattle.lnbd_copy.proofs.MovingLemmas.{happens_behind, moved_acts, moved_happens, moved_stirs}
use Rattle.lnbd_copy.proofs.PauseLemmas.{unpaused_then}
use Rattle.lnbd_copy.proofs.TriedLemmas.{tries_behind}
use Rattle.lnbd_copy.proofs.VainLemmas.{vain_same}
use Rattle.lnbd_copy.proofs.ShareLemmas.{way_shares}
use Rattle.lnbd_copy.proofs.SpreadLemmas.{way_spread}
use Rattle.lnbd_copy.proofs.SummedLemmas.{summed}
use Rattle.lnbd_copy.proofs.UnansweredLemmas.{way_all_asked}
use Rattle.lnbd_copy.proofs.LinkLemmas.{links_same, links_then}
use Rattle.lnbd_copy.proofs.LittleLemmas.{way_little}
use Rattle.lnbd_copy.proofs.copier.Copier.go_on.Goals.{else-acted, then-acted}
use Rattle.lnbd_copy.proofs.DecidingLemmas.{memory_decided, was_decided, was_shut}
use Rattle.lnbd_copy.proofs.GroundLemmas.{handed_on, none_grounded}
use Rattle.lnbd_copy.proofs.DrivenAsLemmas.{driven_idly}
use Rattle.lnbd_copy.proofs.PaceLemmas.{tires_behind, untired_idly}
use Rattle.lnbd_copy.proofs.PaceMeets.{happens_stirs, never_acts, stirs_behind, told_goes}
use Rattle.lnbd_copy.proofs.copier.Copier.go_on.Goals as goal

pub returns-then-is_finished-clause-turns : goal.returns-then-is_finished-clause-turns
returns-then-is_finished-clause-turns g c start on =
    let parting = c.if-is_finished.ensures.parting refl in
    let left = c.part-parted.ensures.on start (c.in_ok-acted.ensures.on start _ (c.in_ok-moved.ensures.on start on)) in
    finished _ start _ parting.job parting.there parting.parts (c.if-is_finished.ensures.parted refl) left.well left

pub returns-clause-turns : goal.returns-clause-turns
returns-clause-turns g c start on = c.progress_of.ensures.on start _ _ (c.part-parted.ensures.on start (c.in_ok-acted.ensures.on start _ (c.in_ok-moved.ensures.on start on)))

pub act-requires-clause-job : goal.act-requires-clause-job
act-requires-clause-job g c = has_job c.requires.going.start _ _ (c.in_ok-moved.ensures.on c.requires.going.start c.requires.going.on)

pub returns-then-is_finished-clause-asks : goal.returns-then-is_finished-clause-asks
returns-then-is_finished-clause-asks g c start on two =
    let left = c.part-parted.ensures.on start (c.in_ok-acted.ensures.on start _ (c.in_ok-moved.ensures.on start on)) in
    way_asks _ start _ left.well left two

pub returns-clause-asks : goal.returns-clause-asks
returns-clause-asks g c start on two =
    let left = c.part-parted.ensures.on start (c.in_ok-acted.ensures.on start _ (c.in_ok-moved.ensures.on start on)) in
    way_asks _ start _ left.well left two

pub returns-then-is_finished-clause-sums : goal.returns-then-is_finished-clause-sums
returns-then-is_finished-clause-sums g c start on two =
    let parting = c.if-is_finished.ensures.parting refl in
    let left = c.part-parted.ensures.on start (c.in_ok-acted.ensures.on start _ (c.in_ok-moved.ensures.on start on)) in
    summed _ start _ c.summary.result parting.job c.summary.ensures.counted parting.there parting.parts (c.if-is_finished.ensures.parted refl) left.well left two

pub returns-clause-sums : goal.returns-clause-sums
returns-clause-sums g c start on = c.progress_of.ensures.sums start (g.W.Wires.told c.part-parted.new.wires) c.part-parted.new.self

pub returns-then-is_finished-clause-flushes : goal.returns-then-is_finished-clause-flushes
returns-then-is_finished-clause-flushes g c start on two =
    let parting = c.if-is_finished.ensures.parting refl in
    let left = c.part-parted.ensures.on start (c.in_ok-acted.ensures.on start _ (c.in_ok-moved.ensures.on start on)) in
    flushed _ start _ c.summary.result parting.job c.summary.ensures.counted parting.there parting.parts (c.if-is_finished.ensures.parted refl) left.well left two

pub returns-clause-flushes : goal.returns-clause-flushes
returns-clause-flushes g c start on = c.progress_of.ensures.flushes start (g.W.Wires.told c.part-parted.new.wires) c.part-parted.new.self

pub returns-then-is_finished-clause-busy : goal.returns-then-is_finished-clause-busy
returns-then-is_finished-clause-busy g c = c.part-parted.ensures.busy (c.in_ok-acted.ensures.busy c.requires.going.start _ (c.in_ok-moved.ensures.on c.requires.going.start c.requires.going.on))

pub returns-clause-busy : goal.returns-clause-busy
returns-clause-busy g c = c.part-parted.ensures.busy (c.in_ok-acted.ensures.busy c.requires.going.start _ (c.in_ok-moved.ensures.on c.requires.going.start c.requires.going.on))

pub returns-then-is_finished-clause-under_way : goal.returns-then-is_finished-clause-under_way
returns-then-is_finished-clause-under_way g c start on two =
    let left = c.part-parted.ensures.on start (c.in_ok-acted.ensures.on start _ (c.in_ok-moved.ensures.on start on)) in
    let busy = c.part-parted.ensures.busy (c.in_ok-acted.ensures.busy c.requires.going.start _ (c.in_ok-moved.ensures.on c.requires.going.start c.requires.going.on)) in
    way_all_asked _ start _ left.well busy left two

pub returns-clause-under_way : goal.returns-clause-under_way
returns-clause-under_way g c start on two =
    let left = c.part-parted.ensures.on start (c.in_ok-acted.ensures.on start _ (c.in_ok-moved.ensures.on start on)) in
    let busy = c.part-parted.ensures.busy (c.in_ok-acted.ensures.busy c.requires.going.start _ (c.in_ok-moved.ensures.on c.requires.going.start c.requires.going.on)) in
    way_all_asked _ start _ left.well busy left two

pub returns-then-is_finished-clause-shares : goal.returns-then-is_finished-clause-shares
returns-then-is_finished-clause-shares g c start on two =
    let left = c.part-parted.ensures.on start (c.in_ok-acted.ensures.on start _ (c.in_ok-moved.ensures.on start on)) in
    way_shares _ start _ left.well left two

pub returns-clause-shares : goal.returns-clause-shares
returns-clause-shares g c start on two =
    let left = c.part-parted.ensures.on start (c.in_ok-acted.ensures.on start _ (c.in_ok-moved.ensures.on start on)) in
    way_shares _ start _ left.well left two

pub returns-then-is_finished-clause-little : goal.returns-then-is_finished-clause-little
returns-then-is_finished-clause-little g c start on =
    let left = c.part-parted.ensures.on start (c.in_ok-acted.ensures.on start _ (c.in_ok-moved.ensures.on start on)) in
    way_little _ start _ left.well left

pub returns-clause-little : goal.returns-clause-little
returns-clause-little g c start on =
    let left = c.part-parted.ensures.on start (c.in_ok-acted.ensures.on start _ (c.in_ok-moved.ensures.on start on)) in
    way_little _ start _ left.well left

pub returns-then-is_finished-clause-answered : goal.returns-then-is_finished-clause-answered
returns-then-is_finished-clause-answered g c start on two =
    let left = c.part-parted.ensures.on start (c.in_ok-acted.ensures.on start _ (c.in_ok-moved.ensures.on start on)) in
    way_answers _ start _ left.well left two

pub returns-clause-answered : goal.returns-clause-answered
returns-clause-answered g c start on two =
    let left = c.part-parted.ensures.on start (c.in_ok-acted.ensures.on start _ (c.in_ok-moved.ensures.on start on)) in
    way_answers _ start _ left.well left two

pub returns-then-is_finished-clause-unpaused : goal.returns-then-is_finished-clause-unpaused
returns-then-is_finished-clause-unpaused g c = unpaused_then _ _ _ (c.take_turn.ensures.unpaused c.requires.going.on.stand) c.part-parted.ensures.unpaused

pub returns-clause-unpaused : goal.returns-clause-unpaused
returns-clause-unpaused g c = unpaused_then _ _ _ (c.take_turn.ensures.unpaused c.requires.going.on.stand) c.part-parted.ensures.unpaused

pub returns-clause-still : goal.returns-clause-still
returns-clause-still g c still =
    let none = c.progress_of.ensures.acted still in
    elim c.if-acted.branch [
      | then-acted w ↦ absurd (false≢true (sym none ∙ w.progress_of-is ∙ w.if-acted.true))
      | else-acted w ↦
          let same = c.part-parted.ensures.still (eqb-true c.part-parted.result 0 (not-false _ (sym w.progress_of-is ∙ none))) in
          vain_same _ _ _ _ _ (same.0 ∙ c.in_ok-acted.ensures.still w.if-acted.false) (ap g.W.Wires.told same.1) (c.in_ok-moved.ensures.still (c.progress_of.ensures.moved still) c.requires.going.on.stand)
    ]

pub returns-in_err-check_counts-clause-counts : goal.returns-in_err-check_counts-clause-counts
returns-in_err-check_counts-clause-counts g c = goes_then _ _ _ _ _ _ _ _ _ c.take_turn.ensures.counts c.part-parted.ensures.counts

pub returns-then-is_finished-clause-counts : goal.returns-then-is_finished-clause-counts
returns-then-is_finished-clause-counts g c = goes_then _ _ _ _ _ _ _ _ _ c.take_turn.ensures.counts c.part-parted.ensures.counts

pub returns-clause-counts : goal.returns-clause-counts
returns-clause-counts g c = goes_then _ _ _ _ _ _ _ _ _ c.take_turn.ensures.counts c.part-parted.ensures.counts

pub returns-then-is_finished-clause-spread : goal.returns-then-is_finished-clause-spread
returns-then-is_finished-clause-spread g c =
    let start = c.requires.going.start in
    way_spread _ start _ (c.part-parted.ensures.on start (c.in_ok-acted.ensures.on start _ (c.in_ok-moved.ensures.on start c.requires.going.on)))

pub returns-clause-spread : goal.returns-clause-spread
returns-clause-spread g c =
    let start = c.requires.going.start in
    way_spread _ start _ (c.part-parted.ensures.on start (c.in_ok-acted.ensures.on start _ (c.in_ok-moved.ensures.on start c.requires.going.on)))

pub returns-then-is_finished-clause-fewest : goal.returns-then-is_finished-clause-fewest
returns-then-is_finished-clause-fewest g c =
    subst (λ (job : Option Task). GoesToFewest job c.part-parted.new.self.job c.args.self.now.board c.part-parted.new.self.board) (ap (λ (s : Seen). s.job) c.take_turn.ensures.kept)
    (c.part-parted.ensures.fewest _ _ (goes_after _ _ _ _ _ (c.in_ok-moved.ensures.leaves c.requires.going.on.stand) c.in_ok-acted.ensures.fewest))

pub returns-clause-fewest : goal.returns-clause-fewest
returns-clause-fewest g c =
    subst (λ (job : Option Task). GoesToFewest job c.part-parted.new.self.job c.args.self.now.board c.part-parted.new.self.board) (ap (λ (s : Seen). s.job) c.take_turn.ensures.kept)
    (c.part-parted.ensures.fewest _ _ (goes_after _ _ _ _ _ (c.in_ok-moved.ensures.leaves c.requires.going.on.stand) c.in_ok-acted.ensures.fewest))

pub returns-in_err-acted-clause-links : goal.returns-in_err-acted-clause-links
returns-in_err-acted-clause-links g c =
    links_then _ _ _ _ _ _ (c.in_ok-moved.ensures.links c.requires.going.on.stand) (links_same _ _ _ c.in_err-acted.ensures.links)

pub returns-then-is_finished-clause-links : goal.returns-then-is_finished-clause-links
returns-then-is_finished-clause-links g c =
    links_then _ _ _ _ _ _ (c.in_ok-moved.ensures.links c.requires.going.on.stand) (links_then _ _ _ _ _ _ (links_same _ _ _ c.in_ok-acted.ensures.links) c.part-parted.ensures.links)

pub returns-clause-links : goal.returns-clause-links
returns-clause-links g c =
    links_then _ _ _ _ _ _ (c.in_ok-moved.ensures.links c.requires.going.on.stand) (links_then _ _ _ _ _ _ (links_same _ _ _ c.in_ok-acted.ensures.links) c.part-parted.ensures.links)

pub returns-then-is_finished-clause-fair : goal.returns-then-is_finished-clause-fair
returns-then-is_finished-clause-fair g c start on two fair = behaves_idly _ _ _ start _ _ c.part-parted.ensures.idly (c.take_turn.ensures.fair start on two fair)

pub returns-clause-fair : goal.returns-clause-fair
returns-clause-fair g c start on two fair = behaves_idly _ _ _ start _ _ c.part-parted.ensures.idly (c.take_turn.ensures.fair start on two fair)

pub returns-in_err-moved-clause-unpaused : goal.returns-in_err-moved-clause-unpaused
returns-in_err-moved-clause-unpaused g c = c.take_turn.ensures.unpaused c.requires.going.on.stand

pub returns-in_err-acted-clause-unpaused : goal.returns-in_err-acted-clause-unpaused
returns-in_err-acted-clause-unpaused g c = c.take_turn.ensures.unpaused c.requires.going.on.stand

pub returns-clause-moved : goal.returns-clause-moved
returns-clause-moved g c count moves = go c.in_ok-moved.moved refl
  where
    Is : Type 0
    Is = HasMoved c.args.self.now c.part-parted.new.self (g.W.Wires.told c.args.wires.now) (g.W.Wires.told c.part-parted.new.wires)

    acts : c.in_ok-moved.moved ≡ turn.Still → c.part-parted.result ≡ 0 → Is
    acts is none =
        let still = c.part-parted.ensures.still none in
        elim c.if-acted.branch [
          | then-acted w ↦ moved_acts c.args.self.now c.take_turn.new.self c.act.new.self c.part-parted.new.self (g.W.Wires.told c.args.wires.now) (g.W.Wires.told c.take_turn.new.wires) (g.W.Wires.told c.part-parted.new.wires)
              (c.in_ok-moved.ensures.still is c.requires.going.on.stand) (c.in_ok-moved.ensures.same is c.requires.going.on.stand) (ap (λ (s : Seen). s.job) c.take_turn.ensures.kept)
              (c.in_ok-acted.ensures.acted w.if-acted.true) still.2 (ap (λ (s : Seen). s.job) c.part-parted.ensures.kept) (ap g.W.Wires.told still.1)
          | else-acted w ↦ absurd (false≢true (sym (w.progress_of-is ∙ ap (λ (n : ℕ). not (n == 0)) none) ∙ c.progress_of.ensures.went count moves is))
        ]

    parts : (parted : ℕ) → c.part-parted.result ≡ parted → c.in_ok-moved.moved ≡ turn.Still → Is
    parts zero same is = acts is same
    parts (suc n) same is = moved_happens c.args.self.now c.part-parted.new.self (g.W.Wires.told c.args.wires.now) (g.W.Wires.told c.part-parted.new.wires)
        (happens_behind (g.W.Wires.told c.args.wires.now) (g.W.Wires.told c.take_turn.new.wires) (g.W.Wires.told c.part-parted.new.wires) (c.take_turn.ensures.unpaused c.requires.going.on.stand) (c.part-parted.ensures.happens (λ none. some_none (sym same ∙ none))))
      where
        some_none : suc n ≡ 0 → ⊥
        some_none e = cc

    go : (told : Turn) → c.in_ok-moved.moved ≡ told → Is
    go (turn.Moved n) is = moved_stirs c.args.self.now c.part-parted.new.self (g.W.Wires.told c.args.wires.now) (g.W.Wires.told c.take_turn.new.wires) (g.W.Wires.told c.part-parted.new.wires) (c.in_ok-moved.ensures.moved n is c.requires.going.on.stand) c.part-parted.ensures.unpaused
    go turn.Still is = parts c.part-parted.result refl is

pub returns-in_err-check_counts-clause-unpaused : goal.returns-in_err-check_counts-clause-unpaused
returns-in_err-check_counts-clause-unpaused g c = unpaused_then _ _ _ (c.take_turn.ensures.unpaused c.requires.going.on.stand) c.part-parted.ensures.unpaused

pub returns-in_err-check_counts-clause-fair : goal.returns-in_err-check_counts-clause-fair
returns-in_err-check_counts-clause-fair g c start on two fair = behaves_idly _ _ _ start _ _ c.part-parted.ensures.idly (c.take_turn.ensures.fair start on two fair)

pub returns-in_err-check_counts-clause-links : goal.returns-in_err-check_counts-clause-links
returns-in_err-check_counts-clause-links g c =
    links_then _ _ _ _ _ _ (c.in_ok-moved.ensures.links c.requires.going.on.stand) (links_then _ _ _ _ _ _ (links_same _ _ _ c.in_ok-acted.ensures.links) c.part-parted.ensures.links)

pub returns-clause-well : goal.returns-clause-well
returns-clause-well g c = c.progress_of.ensures.well c.args.self.now.start (g.W.Wires.faults c.part-parted.new.wires) (g.W.Wires.idles c.part-parted.new.wires)

pub returns-then-is_finished-clause-drives : goal.returns-then-is_finished-clause-drives
returns-then-is_finished-clause-drives g c start on = driven_idly _ _ _ start _ _ c.part-parted.ensures.idly (c.take_turn.ensures.drives start on)

pub returns-clause-drives : goal.returns-clause-drives
returns-clause-drives g c start on = driven_idly _ _ _ start _ _ c.part-parted.ensures.idly (c.take_turn.ensures.drives start on)

pub returns-in_err-check_counts-clause-drives : goal.returns-in_err-check_counts-clause-drives
returns-in_err-check_counts-clause-drives g c start on = driven_idly _ _ _ start _ _ c.part-parted.ensures.idly (c.take_turn.ensures.drives start on)

pub returns-in_err-check_counts-clause-decides : goal.returns-in_err-check_counts-clause-decides
returns-in_err-check_counts-clause-decides g c =
    handed_on _ c.from_residual-in_err-check_counts.result _ c.from_residual-in_err-check_counts.ensures.1 (λ start on.
    was_decided _ _ _ _ start _ c.in_err-check_counts.ensures.free (was_shut _ _ _ start _ _ c.part-parted.ensures.shuts (c.in_ok-moved.ensures.untroubled start on)))

pub returns-then-is_finished-clause-untroubled : goal.returns-then-is_finished-clause-untroubled
returns-then-is_finished-clause-untroubled g c start on = was_shut _ _ _ start _ _ c.part-parted.ensures.shuts (c.in_ok-moved.ensures.untroubled start on)

pub returns-clause-untroubled : goal.returns-clause-untroubled
returns-clause-untroubled g c start on = was_shut _ _ _ start _ _ c.part-parted.ensures.shuts (c.in_ok-moved.ensures.untroubled start on)

pub returns-clause-tries : goal.returns-clause-tries
returns-clause-tries g c start on = tries_behind _ _ _ _ c.part-parted.ensures.unpaused (c.in_ok-moved.ensures.tries start on)

pub returns-then-is_finished-clause-tries : goal.returns-then-is_finished-clause-tries
returns-then-is_finished-clause-tries g c start on = tries_behind _ _ _ _ c.part-parted.ensures.unpaused (c.in_ok-moved.ensures.tries start on)

pub returns-in_err-moved-clause-once : goal.returns-in_err-moved-clause-once
returns-in_err-moved-clause-once g c start on = c.take_turn.ensures.once start on

pub returns-in_err-acted-clause-once : goal.returns-in_err-acted-clause-once
returns-in_err-acted-clause-once g c start on = c.take_turn.ensures.once start on

pub returns-in_err-check_counts-clause-once : goal.returns-in_err-check_counts-clause-once
returns-in_err-check_counts-clause-once g c start on = tires_behind 1 _ _ _ (c.take_turn.ensures.once start on) (untired_idly _ _ c.part-parted.ensures.idly)

pub returns-then-is_finished-clause-once : goal.returns-then-is_finished-clause-once
returns-then-is_finished-clause-once g c start on = tires_behind 1 _ _ _ (c.take_turn.ensures.once start on) (untired_idly _ _ c.part-parted.ensures.idly)

pub returns-clause-once : goal.returns-clause-once
returns-clause-once g c start on = tires_behind 1 _ _ _ (c.take_turn.ensures.once start on) (untired_idly _ _ c.part-parted.ensures.idly)

pub returns-then-is_finished-clause-awaits : goal.returns-then-is_finished-clause-awaits
returns-then-is_finished-clause-awaits g c start on = told_goes start _ _ c.part-parted.ensures.unpaused c.part-parted.ensures.awaits (c.in_ok-acted.ensures.awaits start _ (c.in_ok-moved.ensures.on start on))

pub returns-clause-awaits : goal.returns-clause-awaits
returns-clause-awaits g c start on = told_goes start _ _ c.part-parted.ensures.unpaused c.part-parted.ensures.awaits (c.in_ok-acted.ensures.awaits start _ (c.in_ok-moved.ensures.on start on))

pub returns-clause-stirs : goal.returns-clause-stirs
returns-clause-stirs g c count moves start nothing = go c.in_ok-moved.moved refl
  where
    Is : Type 0
    Is = Stirs c.args.self.now.held (g.W.Wires.told c.args.wires.now) (g.W.Wires.told c.part-parted.new.wires)

    acts : c.in_ok-moved.moved ≡ turn.Still → c.part-parted.result ≡ 0 → Is
    acts is none =
        let still = c.part-parted.ensures.still none in
        elim c.if-acted.branch [
          | then-acted w ↦ never_acts c.args.self.now c.take_turn.new.self start (g.W.Wires.told c.args.wires.now) (g.W.Wires.told c.take_turn.new.wires) (g.W.Wires.told c.part-parted.new.wires) c.in_ok-acted.acted
              (c.in_ok-moved.ensures.still is c.requires.going.on.stand) (c.in_ok-moved.ensures.same is c.requires.going.on.stand) (ap (λ (s : Seen). s.job) c.take_turn.ensures.kept)
              c.in_ok-acted.ensures.idle w.if-acted.true (ap g.W.Wires.told still.1) nothing
          | else-acted w ↦ absurd (false≢true (sym (w.progress_of-is ∙ ap (λ (n : ℕ). not (n == 0)) none) ∙ c.progress_of.ensures.went count moves is))
        ]

    parts : (parted : ℕ) → c.part-parted.result ≡ parted → c.in_ok-moved.moved ≡ turn.Still → Is
    parts zero same is = acts is same
    parts (suc n) same is = happens_stirs c.args.self.now.held (g.W.Wires.told c.args.wires.now) (g.W.Wires.told c.part-parted.new.wires)
        (happens_behind (g.W.Wires.told c.args.wires.now) (g.W.Wires.told c.take_turn.new.wires) (g.W.Wires.told c.part-parted.new.wires) (c.take_turn.ensures.unpaused c.requires.going.on.stand) (c.part-parted.ensures.happens (λ none. some_none (sym same ∙ none))))
      where
        some_none : suc n ≡ 0 → ⊥
        some_none e = cc

    go : (told : Turn) → c.in_ok-moved.moved ≡ told → Is
    go (turn.Moved n) is = stirs_behind c.args.self.now.held (g.W.Wires.told c.args.wires.now) (g.W.Wires.told c.take_turn.new.wires) (g.W.Wires.told c.part-parted.new.wires) (c.in_ok-moved.ensures.moved n is c.requires.going.on.stand) c.part-parted.ensures.unpaused
    go turn.Still is = parts c.part-parted.result refl is

pub returns-in_err-check_counts-clause-grounds : goal.returns-in_err-check_counts-clause-grounds
returns-in_err-check_counts-clause-grounds g c = handed_on _ c.from_residual-in_err-check_counts.result _ c.from_residual-in_err-check_counts.ensures.1 (λ start on. none_grounded _ _ _ _ _ _ c.in_err-check_counts.ensures.free)

pub take_turn-requires-clause-job : goal.take_turn-requires-clause-job
take_turn-requires-clause-job g c = has_job c.requires.going.start _ _ c.requires.going.on
