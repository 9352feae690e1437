use Rattle.std.proofs.Common.{refl, sym}
use Rattle.lnbd_cli.specs.Serves.{AllServed, Counted, Failed}
use Rattle.lnbd_cli.proofs.ServeLemmas.{as_failed, told_link, told_output, told_silent}
use Rattle.lnbd_cli.proofs.serving.serve_export.Goals as goal

pub serve-requires : goal.serve-requires
serve-requires g c = sym c.requires.name

pub returns-in-Ok-look-clause-ends : goal.returns-in-Ok-look-clause-ends
returns-in-Ok-look-clause-ends g c = AllServed _ refl (record {
  start = c.args.export;
  generated = c.requires;
  end = c.serve.new.export;
  runs = c.in-Ok.ensures.runs;
  lines = c.in-Ok.ensures.lines;
  front = c.in-Ok.ensures.front;
})

pub returns-in-Ok-clause-ends : goal.returns-in-Ok-clause-ends
returns-in-Ok-clause-ends g c = Counted _ (as_failed _ c.in-Err-look.ensures.only)
    (record { start = c.args.export; generated = c.requires; end = c.serve.new.export; runs = c.in-Ok.ensures.runs; lines = c.in-Ok.ensures.lines; front = c.in-Ok.ensures.front })

pub returns-clause-ends : goal.returns-clause-ends
returns-clause-ends g c = Failed c.in-Err.fault c.told_of_serving.result refl c.told_of_serving.ensures.told
    (record { start = c.args.export; generated = c.requires; end = c.serve.new.export; runs = c.in-Err.ensures.runs; lines = c.in-Err.ensures.lines; front = c.in-Err.ensures.front })

pub returns-clause-link : goal.returns-clause-link
returns-clause-link g c = told_link c.in-Err.fault c.told_of_serving.result _ _ c.told_of_serving.ensures.told c.in-Err.ensures.link

pub returns-clause-silent : goal.returns-clause-silent
returns-clause-silent g c = told_silent c.in-Err.fault c.told_of_serving.result _ _ c.told_of_serving.ensures.told c.in-Err.ensures.silent

pub returns-clause-output : goal.returns-clause-output
returns-clause-output g c = told_output c.in-Err.fault c.told_of_serving.result _ c.told_of_serving.ensures.told c.in-Err.ensures.output
