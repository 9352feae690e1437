use Rattle.std.proofs.Common.{Ok, Some, inl, inr, refl}
use Rattle.lnbd_cli.proofs.HeardLemmas.{heard_err, map_says, told_link, told_silent}
use Rattle.lnbd_cli.proofs.hearing.hear_map.Goals as goal

pub returns-in-Ok-clause-says : goal.returns-in-Ok-clause-says
returns-in-Ok-clause-says g c =
    rw c.heard.ensures
    (map_says c.args.sums c.args.json c.args.context _ _ _ c.map_news.result c.as_slice.result.now c.in-Ok.extents c.as_slice.ensures c.map_news.ensures.text c.map_news.ensures.end
    c.in-Ok.ensures.maps)

pub returns-in-Ok-clause-fails : goal.returns-in-Ok-clause-fails
returns-in-Ok-clause-fails g c = rw c.heard.ensures (heard_err c.map_news.result _ (inr (refl, (Ok c.in-Ok.extents, c.in-Ok.ensures.maps))))

pub returns-in-Ok-clause-link : goal.returns-in-Ok-clause-link
returns-in-Ok-clause-link g c = rw c.heard.ensures (heard_err c.map_news.result _ (λ e. absurd (cc e)))

pub returns-in-Ok-clause-silent : goal.returns-in-Ok-clause-silent
returns-in-Ok-clause-silent g c = rw c.heard.ensures (heard_err c.map_news.result _ (λ e. absurd (cc e)))

pub returns-in-Err-clause-fails : goal.returns-in-Err-clause-fails
returns-in-Err-clause-fails g c = inl (c.in-Err.fault, c.in-Err.ensures.maps, c.told.ensures.told)

pub returns-in-Err-clause-link : goal.returns-in-Err-clause-link
returns-in-Err-clause-link g c = told_link c.in-Err.fault (Some c.args.context) c.told.result _ _ c.told.ensures.told c.in-Err.ensures.link

pub returns-in-Err-clause-silent : goal.returns-in-Err-clause-silent
returns-in-Err-clause-silent g c = told_silent c.in-Err.fault (Some c.args.context) c.told.result _ _ c.told.ensures.told c.in-Err.ensures.silent
