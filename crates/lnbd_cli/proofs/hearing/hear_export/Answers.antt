use Rattle.std.proofs.Common.{None, Ok, inl, inr, refl}
use Rattle.lnbd_cli.proofs.HeardLemmas.{heard_err, heard_ok, if_both, told_link, told_silent}
use Rattle.lnbd_cli.proofs.hearing.hear_export.Goals as goal

pub returns-in-Ok-clause-says : goal.returns-in-Ok-clause-says
returns-in-Ok-clause-says g c =
    rw c.heard.ensures
    (heard_ok c.export_news.result _ (if_both c.export_news.result c.export_news.ensures.text c.export_news.ensures.end
    (λ news is ends. record { found = c.in-Ok.found; collected = c.in-Ok.ensures.collects; is = is; ends = ends })))

pub returns-in-Ok-clause-fails : goal.returns-in-Ok-clause-fails
returns-in-Ok-clause-fails g c = rw c.heard.ensures (heard_err c.export_news.result _ (inr (refl, (Ok c.in-Ok.found, c.in-Ok.ensures.collects))))

pub returns-in-Ok-clause-link : goal.returns-in-Ok-clause-link
returns-in-Ok-clause-link g c = rw c.heard.ensures (heard_err c.export_news.result _ (λ e. absurd (cc e)))

pub returns-in-Ok-clause-silent : goal.returns-in-Ok-clause-silent
returns-in-Ok-clause-silent g c = rw c.heard.ensures (heard_err c.export_news.result _ (λ e. absurd (cc e)))

pub returns-in-Err-clause-fails : goal.returns-in-Err-clause-fails
returns-in-Err-clause-fails g c = inl (c.in-Err.fault, c.in-Err.ensures.collects, c.told.ensures.told)

pub returns-in-Err-clause-link : goal.returns-in-Err-clause-link
returns-in-Err-clause-link g c = told_link c.in-Err.fault None c.told.result _ _ c.told.ensures.told c.in-Err.ensures.link

pub returns-in-Err-clause-silent : goal.returns-in-Err-clause-silent
returns-in-Err-clause-silent g c = told_silent c.in-Err.fault None c.told.result _ _ c.told.ensures.told c.in-Err.ensures.silent
