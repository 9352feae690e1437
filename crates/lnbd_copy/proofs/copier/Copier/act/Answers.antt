use Rattle.std.proofs.Common.{Some, refl, ap, sym, subst, ◌∙◌}
use Rattle.std.proofs.lemmas.Result.{on_ok_weaker}
use Rattle.lnbd_copy.specs.Copier.{HasJob, IsOnItsWay, Seen}
use Rattle.lnbd_copy.proofs.CopierLemmas.{if_ok_leads}
use Rattle.lnbd_copy.proofs.EndLemmas.{after_acting, job_dealt, job_fit, job_may, job_writes}
use Rattle.lnbd_copy.specs.Fewest.{GoesToFewest}
use Rattle.lnbd_copy.proofs.FewestLemmas.{job_takes}
use Rattle.lnbd_copy.proofs.MovingLemmas.{job_changed}
use Rattle.lnbd_copy.proofs.SpreadLemmas.{on_ok_six}
use Rattle.lnbd_copy.proofs.UnderWayLemmas.{busy_after}
use Rattle.lnbd_copy.specs.Awaiting.{AwaitsAll}
use Rattle.lnbd_copy.proofs.AwaitLemmas.{act_awaits}
use Rattle.lnbd_copy.proofs.copier.Copier.act.Goals as goal

pub returns-clause-on : goal.returns-clause-on
returns-clause-on c =
    on_ok_six c.act.result
    (λ acts full spreads takes may well start told on. after_acting _ start told c.in-Some.job c.act.new.self c.act.new.board c.act.new.handles c.in-Some.is c.act.ensures.terms full.most acts spreads takes may well c.act.ensures.parting (subst (λ (s : Seen). IsOnItsWay start told s) (sym c.self.view_is) on))
    c.act.ensures.acts c.act.ensures.full c.act.ensures.spread c.act.ensures.fewest c.act.ensures.may c.act.ensures.well

pub returns-clause-busy : goal.returns-clause-busy
returns-clause-busy c =
    on_ok_weaker c.act.result
    (λ full start told on. busy_after _ start told c.in-Some.job c.act.new.self c.act.new.board c.in-Some.is full (subst (λ (s : Seen). IsOnItsWay start told s) (sym c.self.view_is) on))
    c.act.ensures.full

pub returns-clause-fewest : goal.returns-clause-fewest
returns-clause-fewest c =
    on_ok_weaker c.act.result
    (λ takes. subst (λ (s : Seen). GoesToFewest s.job (Some c.act.new.self) s.board c.act.new.board) c.self.view_is (job_takes _ c.in-Some.job c.act.new.self _ c.act.new.board c.in-Some.is c.act.ensures.terms takes))
    c.act.ensures.fewest

pub act-requires-clause-how : goal.act-requires-clause-how
act-requires-clause-how c = job_writes _ c.in-Some.job (subst HasJob (sym c.self.view_is) c.requires.job) c.in-Some.is

pub returns-clause-still : goal.returns-clause-still
returns-clause-still c = if_ok_leads c.act.result (λ acted still none. still none ∙ ap (λ (s : Seen). s.held) c.self.view_is) c.act.ensures.still

pub returns-clause-acted : goal.returns-clause-acted
returns-clause-acted c = if_ok_leads c.act.result (λ acted changed went same. job_changed c.in-Some.job c.act.new.self c.args.self.now.job (Some c.act.new.self) (ap (λ (s : Seen). s.job) (sym c.self.view_is) ∙ c.in-Some.is) refl (changed went (same ∙ sym (ap (λ (s : Seen). s.board) c.self.view_is)))) c.act.ensures.acted

pub returns-clause-awaits : goal.returns-clause-awaits
returns-clause-awaits c =
    on_ok_weaker c.act.result
    (λ waits start told on. act_awaits _ start told c.in-Some.job c.act.new.self c.act.new.board c.in-Some.is (ap (λ (s : Seen). s.board.error) c.self.view_is ∙ c.requires.well) waits (subst (λ (s : Seen). IsOnItsWay start told s) (sym c.self.view_is) on))
    c.act.ensures.awaits

pub returns-clause-idle : goal.returns-clause-idle
returns-clause-idle c = if_ok_leads c.act.result (λ acted idle nothing. idle (subst (λ (s : Seen). AwaitsAll s.job s.board) (sym c.self.view_is) nothing c.in-Some.job c.in-Some.is)) c.act.ensures.idle

pub act-requires-clause-may : goal.act-requires-clause-may
act-requires-clause-may c = job_may _ c.in-Some.job (subst HasJob (sym c.self.view_is) c.requires.job) c.in-Some.is

pub act-requires-clause-fit : goal.act-requires-clause-fit
act-requires-clause-fit c = job_fit _ c.in-Some.job (subst HasJob (sym c.self.view_is) c.requires.job) c.in-Some.is

pub act-requires-clause-dealt : goal.act-requires-clause-dealt
act-requires-clause-dealt c = job_dealt _ c.in-Some.job (subst HasJob (sym c.self.view_is) c.requires.job) c.in-Some.is
