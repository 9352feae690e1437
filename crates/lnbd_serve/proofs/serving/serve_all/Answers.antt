use Rattle.std.proofs.Common.{refl, ◌∙◌}
use Rattle.lnbd_link.proofs.Parts.{rises_earlier}
use Rattle.lnbd_serve.specs.Rounds.{hall_of}
use Rattle.lnbd_serve.proofs.CalmLemmas.{counts_none, counts_on}
use Rattle.lnbd_serve.proofs.ServeLemmas.{serving_done, serving_none, serving_on, serving_stops}
use Rattle.lnbd_serve.proofs.serving.serve_all.Goals as goal

pub serving-init : goal.serving-init
serving-init g c = record { serving = serving_none _ c.args.door.listener c.args.door.limit (hall_of c.args.guests.now c.args.export.now) c.requires.rests; counts = counts_none _ _; room = refl }

pub serving-preserved : goal.serving-preserved
serving-preserved g c = record {
  serving = serving_on _ _ _ c.args.door.listener c.args.door.limit (hall_of c.args.guests.now c.args.export.now) (hall_of c.serving.guests c.serving.export) (hall_of c.await_news.new.guests c.await_news.new.export) c.serving.invariant.serving c.in-Ok.ensures.ok;
  counts = counts_on _ _ _ _ _ _ _ c.serving.invariant.counts c.in-Ok.ensures.counts;
  room = c.await_news.auto.buffer ∙ c.serving.invariant.room;
}

pub serving-smaller : goal.serving-smaller
serving-smaller g c = c.in-Ok.ensures.ok.leads.news

pub returns-in-Err-clause-err : goal.returns-in-Err-clause-err
returns-in-Err-clause-err g c = serving_stops _ _ _ c.args.door.listener c.args.door.limit (hall_of c.args.guests.now c.args.export.now) (hall_of c.serving.guests c.serving.export) _ c.in-Err.why c.serving.invariant.serving c.in-Err.ensures.err

pub returns-in-Err-clause-silent : goal.returns-in-Err-clause-silent
returns-in-Err-clause-silent g c e = rises_earlier 1000000000 _ _ _ c.serving.invariant.counts.idles_later (c.in-Err.ensures.silent e)

pub returns-clause-ok : goal.returns-clause-ok
returns-clause-ok g c = serving_done _ _ c.args.door.listener c.args.door.limit (hall_of c.args.guests.now c.args.export.now) (hall_of c.serving.guests c.serving.export) c.requires.few (c.is_serving.ensures.no c.serving-test.false) c.serving.invariant.serving
