use Rattle.std.proofs.Common.{◌≡◌, inl, inr, refl, sym, ℕ, ◌∙◌}
use Rattle.lnbd_poll.specs.declared.noticed.Turn.TheVariants as turn
use Rattle.std.proofs.lemmas.Result.{on_ok_weaker}
use Rattle.lnbd_copy.proofs.DealingLemmas.{on_ok_both}
use Rattle.lnbd_copy.proofs.LittleLemmas.{little_none, little_paused, little_unpaused}
use Rattle.lnbd_copy.proofs.PauseLemmas.{either_way, pauses_then, pauses_unpaused, unpaused_same}
use Rattle.lnbd_copy.proofs.PausedLemmas.{unready_none, unready_rests, unready_unpaused}
use Rattle.lnbd_copy.proofs.VainLemmas.{pauses_vain}
use Rattle.lnbd_copy.proofs.dialing.rest.Goals as goal

pub returns-in_ok-check_loud-in-Still-clause-unready : goal.returns-in_ok-check_loud-in-Still-clause-unready
returns-in_ok-check_loud-in-Still-clause-unready g c now =
    either_way c.wait.result (on_ok_both c.wait.result (λ adds unparted. unready_rests now c.args.handles.now _ _ c.in_ok-check_loud-in-Still.ensures unparted adds) c.wait.ensures.pauses c.wait.ensures.unparted) c.wait.ensures.still (λ unready. unready)
    (λ same. unready_unpaused now c.args.handles.now _ _ (λ stand. unpaused_same _ _ same))

pub returns-in-Moved-clause-unready : goal.returns-in-Moved-clause-unready
returns-in-Moved-clause-unready g c now = unready_none now _ _

pub returns-in_ok-check_loud-in-Still-clause-vain : goal.returns-in_ok-check_loud-in-Still-clause-vain
returns-in_ok-check_loud-in-Still-clause-vain g c before unpaused full =
    either_way c.wait.result c.wait.ensures.pauses c.wait.ensures.still (λ adds. pauses_vain _ _ _ _ (full c.in-Still.is) adds)
    (λ same. pauses_then _ _ _ (pauses_unpaused _ _ unpaused) (pauses_unpaused _ _ (unpaused_same _ _ same)))

pub returns-in-Moved-clause-vain : goal.returns-in-Moved-clause-vain
returns-in-Moved-clause-vain g c before unpaused full = pauses_unpaused _ _ unpaused

pub returns-in_err-check_loud-in-Still-clause-vain : goal.returns-in_err-check_loud-in-Still-clause-vain
returns-in_err-check_loud-in-Still-clause-vain g c before unpaused full = pauses_unpaused _ _ unpaused

pub returns-in_ok-check_loud-in-Still-clause-rests : goal.returns-in_ok-check_loud-in-Still-clause-rests
returns-in_ok-check_loud-in-Still-clause-rests g c = on_ok_weaker c.wait.result (λ adds. inr (c.in-Still.is, c.in_ok-check_loud-in-Still.ensures, adds)) c.wait.ensures.pauses

pub returns-in-Moved-clause-rests : goal.returns-in-Moved-clause-rests
returns-in-Moved-clause-rests g c = inl refl

pub returns-in_ok-check_loud-in-Still-clause-little : goal.returns-in_ok-check_loud-in-Still-clause-little
returns-in_ok-check_loud-in-Still-clause-little g c now =
    either_way c.wait.result c.wait.ensures.pauses c.wait.ensures.still (λ adds. little_paused now c.args.handles.now _ _ adds) (λ same. little_unpaused now c.args.handles.now _ _ (λ stand. unpaused_same _ _ same))

pub returns-in_err-check_loud-in-Still-clause-little : goal.returns-in_err-check_loud-in-Still-clause-little
returns-in_err-check_loud-in-Still-clause-little g c now = little_none now _ _

pub returns-in-Moved-clause-little : goal.returns-in-Moved-clause-little
returns-in-Moved-clause-little g c now = little_none now _ _

pub returns-in_ok-check_loud-in-Still-clause-paused : goal.returns-in_ok-check_loud-in-Still-clause-paused
returns-in_ok-check_loud-in-Still-clause-paused g c = on_ok_weaker c.wait.result (λ adds still. adds) c.wait.ensures.pauses

moved_not_still : (n : ℕ) → turn.Moved n ≡ turn.Still → ⊥
moved_not_still n e = cc

pub returns-in-Moved-clause-paused : goal.returns-in-Moved-clause-paused
returns-in-Moved-clause-paused g c still = absurd (moved_not_still _ (sym c.in-Moved.is ∙ still))
